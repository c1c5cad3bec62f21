-- For each production of operators, tokens that spell a value, and some that differ little and spell none.
use Rattle.std.proofs.Common.{◌≡◌, true, false, [], ◌∷◌, refl, pos, negsuc, Ok, Err, None, Some, codes}
use Rattle.plc_base.specs.declared.elem.Elem.TheVariants.{Int}
use Rattle.plc_tree.specs.declared.tree.BinOp.TheVariants as op
use Rattle.plc_tree.specs.declared.tree.UnOp.TheVariants as sign
use Rattle.plc_tree.specs.declared.tree.Expr.{Expr}
use Rattle.plc_tree.specs.declared.tree.Expr.TheVariants as e
use Rattle.plc_tree.specs.declared.tree.Path.{roll-Path}
use Rattle.plc_tree.specs.declared.tree.Part.TheVariants as in_part
use Rattle.plc_tree.specs.declared.tree.Arg.TheVariants as in_arg
use Rattle.phrase.specs.declared.Fault.TheVariants.{Wrong, Deep}
use Rattle.phrase.specs.Exact.{Phrase}
use Rattle.phrase.specs.Piece.{Law}
use Rattle.st_expr.specs.Nested.{Tall}
use Rattle.st_expr.specs.declared.level.Level.{Level}
use Rattle.st_expr.specs.declared.level.Level.TheVariants as at
use Rattle.st_expr.specs.Expressions.{signed, unary, standing, expr}
use Rattle.st_expr.specs.Depth.{deep}
use Rattle.st_expr.proofs.Below.{first_at, more_at}
use Rattle.st_expr.proofs.DepthLaws.{below, expr_law}
use Rattle.st_expr.proofs.ExpressionLaws.{signed_laws, unary_laws, standing_laws}
use Rattle.st_expr.proofs.SampleTokens.{expressions_on_tokens, here, nth, fresh, from, var, int, A, B, C, F, one, two, five, int_five, assign, unequal, at_most, at_least, lparen, rparen, lbracket, rbracket, comma, dot, plus, minus, star, slash, amp, equal, less, greater, NOT, AND, OR, XOR, MOD}
use Rattle.phrase.proofs.Worked.{spelled, denied, left_over}

level_law : (level : Level) → Law 3 false true (first_at level) (more_at level) (λ e. standing level false e (deep e))
level_law level = (standing_laws 3 deep (below 3) false level).law refl

-- behind -: A, and an integer would be part of a literal
minus_reads : (signed sign.Minus false (deep 3) (nth 0 minus)).run (from 1 (A ∷ [])) ≡ (Ok (e.Unary sign.Minus (here 0) (var A 1), 1), [])
unfolding expressions_on_tokens
minus_reads = refl

minus_spelled : (signed sign.Minus false (deep 3) (nth 0 minus)).lang (from 1 (A ∷ [])) (e.Unary sign.Minus (here 0) (var A 1), 1)
minus_spelled = spelled ((signed_laws 3 deep (below 3) false sign.Minus (nth 0 minus)).law refl) minus_reads

minus_stops : (signed sign.Minus false (deep 3) (nth 0 minus)).run (from 1 (five ∷ [])) ≡ (Err Wrong, from 1 (five ∷ []))
unfolding expressions_on_tokens
minus_stops = refl

minus_denied : (a : Tall Expr) → Phrase (λ e. signed sign.Minus false (deep e) (nth 0 minus)) (from 1 (five ∷ [])) a → ⊥
minus_denied = denied ((signed_laws 3 deep (below 3) false sign.Minus (nth 0 minus)).law refl) minus_stops

-- behind NOT: A, and no second NOT
not_reads : (signed sign.Not false (deep 3) (nth 0 NOT)).run (from 1 (A ∷ [])) ≡ (Ok (e.Unary sign.Not (here 0) (var A 1), 1), [])
unfolding expressions_on_tokens
not_reads = refl

not_spelled : (signed sign.Not false (deep 3) (nth 0 NOT)).lang (from 1 (A ∷ [])) (e.Unary sign.Not (here 0) (var A 1), 1)
not_spelled = spelled ((signed_laws 3 deep (below 3) false sign.Not (nth 0 NOT)).law refl) not_reads

not_stops : (signed sign.Not false (deep 3) (nth 0 NOT)).run (from 1 (NOT ∷ A ∷ [])) ≡ (Err Wrong, from 1 (NOT ∷ A ∷ []))
unfolding expressions_on_tokens
not_stops = refl

not_denied : (a : Tall Expr) → Phrase (λ e. signed sign.Not false (deep e) (nth 0 NOT)) (from 1 (NOT ∷ A ∷ [])) a → ⊥
not_denied = denied ((signed_laws 3 deep (below 3) false sign.Not (nth 0 NOT)).law refl) not_stops

-- - 5 is one literal, - A and - INT#5 open a node; no second sign
unary_literal_reads : (unary false 3 (deep 3)).run (from 0 (minus ∷ five ∷ [])) ≡ (Ok (e.Number (negsuc 4) None (here 0), 0), [])
unfolding expressions_on_tokens
unary_literal_reads = refl

unary_literal_spelled : (unary false 3 (deep 3)).lang (from 0 (minus ∷ five ∷ [])) (e.Number (negsuc 4) None (here 0), 0)
unary_literal_spelled = spelled ((unary_laws 3 deep (below 3) false).law refl) unary_literal_reads

unary_reads : (unary false 3 (deep 3)).run (from 0 (minus ∷ A ∷ [])) ≡ (Ok (e.Unary sign.Minus (here 0) (var A 1), 1), [])
unfolding expressions_on_tokens
unary_reads = refl

unary_spelled : (unary false 3 (deep 3)).lang (from 0 (minus ∷ A ∷ [])) (e.Unary sign.Minus (here 0) (var A 1), 1)
unary_spelled = spelled ((unary_laws 3 deep (below 3) false).law refl) unary_reads

unary_typed_reads : (unary false 3 (deep 3)).run (from 0 (minus ∷ int_five ∷ [])) ≡ (Ok (e.Unary sign.Minus (here 0) (e.Number (pos 5) (Some Int) (here 1)), 1), [])
unfolding expressions_on_tokens
unary_typed_reads = refl

unary_typed_spelled : (unary false 3 (deep 3)).lang (from 0 (minus ∷ int_five ∷ [])) (e.Unary sign.Minus (here 0) (e.Number (pos 5) (Some Int) (here 1)), 1)
unary_typed_spelled = spelled ((unary_laws 3 deep (below 3) false).law refl) unary_typed_reads

unary_stops : (unary false 3 (deep 3)).run (from 0 (minus ∷ minus ∷ five ∷ [])) ≡ (Err Wrong, from 1 (minus ∷ five ∷ []))
unfolding expressions_on_tokens
unary_stops = refl

unary_denied : (a : Tall Expr) → Phrase (λ e. unary false e (deep e)) (from 0 (minus ∷ minus ∷ five ∷ [])) a → ⊥
unary_denied = denied ((unary_laws 3 deep (below 3) false).law refl) unary_stops

unary_not_stops : (unary false 3 (deep 3)).run (from 0 (NOT ∷ minus ∷ five ∷ [])) ≡ (Err Wrong, from 1 (minus ∷ five ∷ []))
unfolding expressions_on_tokens
unary_not_stops = refl

unary_not_denied : (a : Tall Expr) → Phrase (λ e. unary false e (deep e)) (from 0 (NOT ∷ minus ∷ five ∷ [])) a → ⊥
unary_not_denied = denied ((unary_laws 3 deep (below 3) false).law refl) unary_not_stops

-- A * B MOD C from the left, A / -5, and no operand behind *
term_reads : (standing at.Term false 3 (deep 3)).run (from 0 (A ∷ star ∷ B ∷ MOD ∷ C ∷ [])) ≡ (Ok (e.Binary op.Rem (here 3) (e.Binary op.Mul (here 1) (var A 0) (var B 2)) (var C 4), 2), [])
unfolding expressions_on_tokens
term_reads = refl

term_spelled : (standing at.Term false 3 (deep 3)).lang (from 0 (A ∷ star ∷ B ∷ MOD ∷ C ∷ [])) (e.Binary op.Rem (here 3) (e.Binary op.Mul (here 1) (var A 0) (var B 2)) (var C 4), 2)
term_spelled = spelled (level_law at.Term) term_reads

term_negative_reads : (standing at.Term false 3 (deep 3)).run (from 0 (A ∷ slash ∷ minus ∷ five ∷ [])) ≡ (Ok (e.Binary op.Div (here 1) (var A 0) (e.Number (negsuc 4) None (here 2)), 1), [])
unfolding expressions_on_tokens
term_negative_reads = refl

term_negative_spelled : (standing at.Term false 3 (deep 3)).lang (from 0 (A ∷ slash ∷ minus ∷ five ∷ [])) (e.Binary op.Div (here 1) (var A 0) (e.Number (negsuc 4) None (here 2)), 1)
term_negative_spelled = spelled (level_law at.Term) term_negative_reads

term_stops : (standing at.Term false 3 (deep 3)).run (from 0 (A ∷ star ∷ slash ∷ B ∷ [])) ≡ (Err Wrong, from 2 (slash ∷ B ∷ []))
unfolding expressions_on_tokens
term_stops = refl

term_denied : (a : Tall Expr) → Phrase (λ e. standing at.Term false e (deep e)) (from 0 (A ∷ star ∷ slash ∷ B ∷ [])) a → ⊥
term_denied = denied (level_law at.Term) term_stops

-- A - B - C from the left, A - -5, A + B * C, and no operand behind the first -
sum_reads : (standing at.Sum false 3 (deep 3)).run (from 0 (A ∷ minus ∷ B ∷ minus ∷ C ∷ [])) ≡ (Ok (e.Binary op.Sub (here 3) (e.Binary op.Sub (here 1) (var A 0) (var B 2)) (var C 4), 2), [])
unfolding expressions_on_tokens
sum_reads = refl

sum_spelled : (standing at.Sum false 3 (deep 3)).lang (from 0 (A ∷ minus ∷ B ∷ minus ∷ C ∷ [])) (e.Binary op.Sub (here 3) (e.Binary op.Sub (here 1) (var A 0) (var B 2)) (var C 4), 2)
sum_spelled = spelled (level_law at.Sum) sum_reads

sum_negative_reads : (standing at.Sum false 3 (deep 3)).run (from 0 (A ∷ minus ∷ minus ∷ five ∷ [])) ≡ (Ok (e.Binary op.Sub (here 1) (var A 0) (e.Number (negsuc 4) None (here 2)), 1), [])
unfolding expressions_on_tokens
sum_negative_reads = refl

sum_negative_spelled : (standing at.Sum false 3 (deep 3)).lang (from 0 (A ∷ minus ∷ minus ∷ five ∷ [])) (e.Binary op.Sub (here 1) (var A 0) (e.Number (negsuc 4) None (here 2)), 1)
sum_negative_spelled = spelled (level_law at.Sum) sum_negative_reads

sum_product_reads : (standing at.Sum false 3 (deep 3)).run (from 0 (A ∷ plus ∷ B ∷ star ∷ C ∷ [])) ≡ (Ok (e.Binary op.Add (here 1) (var A 0) (e.Binary op.Mul (here 3) (var B 2) (var C 4)), 2), [])
unfolding expressions_on_tokens
sum_product_reads = refl

sum_product_spelled : (standing at.Sum false 3 (deep 3)).lang (from 0 (A ∷ plus ∷ B ∷ star ∷ C ∷ [])) (e.Binary op.Add (here 1) (var A 0) (e.Binary op.Mul (here 3) (var B 2) (var C 4)), 2)
sum_product_spelled = spelled (level_law at.Sum) sum_product_reads

sum_stops : (standing at.Sum false 3 (deep 3)).run (from 0 (A ∷ minus ∷ plus ∷ B ∷ [])) ≡ (Err Wrong, from 2 (plus ∷ B ∷ []))
unfolding expressions_on_tokens
sum_stops = refl

sum_denied : (a : Tall Expr) → Phrase (λ e. standing at.Sum false e (deep e)) (from 0 (A ∷ minus ∷ plus ∷ B ∷ [])) a → ⊥
sum_denied = denied (level_law at.Sum) sum_stops

-- A < B >= C and A > B <= C from the left, and < = are two operators
comparison_reads : (standing at.Comparison false 3 (deep 3)).run (from 0 (A ∷ less ∷ B ∷ at_least ∷ C ∷ [])) ≡ (Ok (e.Binary op.Ge (here 3) (e.Binary op.Lt (here 1) (var A 0) (var B 2)) (var C 4), 2), [])
unfolding expressions_on_tokens
comparison_reads = refl

comparison_spelled : (standing at.Comparison false 3 (deep 3)).lang (from 0 (A ∷ less ∷ B ∷ at_least ∷ C ∷ [])) (e.Binary op.Ge (here 3) (e.Binary op.Lt (here 1) (var A 0) (var B 2)) (var C 4), 2)
comparison_spelled = spelled (level_law at.Comparison) comparison_reads

comparison_greater_reads : (standing at.Comparison false 3 (deep 3)).run (from 0 (A ∷ greater ∷ B ∷ at_most ∷ C ∷ [])) ≡ (Ok (e.Binary op.Le (here 3) (e.Binary op.Gt (here 1) (var A 0) (var B 2)) (var C 4), 2), [])
unfolding expressions_on_tokens
comparison_greater_reads = refl

comparison_greater_spelled : (standing at.Comparison false 3 (deep 3)).lang (from 0 (A ∷ greater ∷ B ∷ at_most ∷ C ∷ [])) (e.Binary op.Le (here 3) (e.Binary op.Gt (here 1) (var A 0) (var B 2)) (var C 4), 2)
comparison_greater_spelled = spelled (level_law at.Comparison) comparison_greater_reads

comparison_stops : (standing at.Comparison false 3 (deep 3)).run (from 0 (A ∷ less ∷ equal ∷ B ∷ [])) ≡ (Err Wrong, from 2 (equal ∷ B ∷ []))
unfolding expressions_on_tokens
comparison_stops = refl

comparison_denied : (a : Tall Expr) → Phrase (λ e. standing at.Comparison false e (deep e)) (from 0 (A ∷ less ∷ equal ∷ B ∷ [])) a → ⊥
comparison_denied = denied (level_law at.Comparison) comparison_stops

-- A = B <> C from the left, and no operand behind =
equality_reads : (standing at.Equality false 3 (deep 3)).run (from 0 (A ∷ equal ∷ B ∷ unequal ∷ C ∷ [])) ≡ (Ok (e.Binary op.Ne (here 3) (e.Binary op.Eq (here 1) (var A 0) (var B 2)) (var C 4), 2), [])
unfolding expressions_on_tokens
equality_reads = refl

equality_spelled : (standing at.Equality false 3 (deep 3)).lang (from 0 (A ∷ equal ∷ B ∷ unequal ∷ C ∷ [])) (e.Binary op.Ne (here 3) (e.Binary op.Eq (here 1) (var A 0) (var B 2)) (var C 4), 2)
equality_spelled = spelled (level_law at.Equality) equality_reads

equality_stops : (standing at.Equality false 3 (deep 3)).run (from 0 (A ∷ equal ∷ equal ∷ B ∷ [])) ≡ (Err Wrong, from 2 (equal ∷ B ∷ []))
unfolding expressions_on_tokens
equality_stops = refl

equality_denied : (a : Tall Expr) → Phrase (λ e. standing at.Equality false e (deep e)) (from 0 (A ∷ equal ∷ equal ∷ B ∷ [])) a → ⊥
equality_denied = denied (level_law at.Equality) equality_stops

-- A & B AND C from the left, and no operand behind &
and_reads : (standing at.And false 3 (deep 3)).run (from 0 (A ∷ amp ∷ B ∷ AND ∷ C ∷ [])) ≡ (Ok (e.Binary op.And (here 3) (e.Binary op.And (here 1) (var A 0) (var B 2)) (var C 4), 2), [])
unfolding expressions_on_tokens
and_reads = refl

and_spelled : (standing at.And false 3 (deep 3)).lang (from 0 (A ∷ amp ∷ B ∷ AND ∷ C ∷ [])) (e.Binary op.And (here 3) (e.Binary op.And (here 1) (var A 0) (var B 2)) (var C 4), 2)
and_spelled = spelled (level_law at.And) and_reads

and_stops : (standing at.And false 3 (deep 3)).run (from 0 (A ∷ amp ∷ amp ∷ B ∷ [])) ≡ (Err Wrong, from 2 (amp ∷ B ∷ []))
unfolding expressions_on_tokens
and_stops = refl

and_denied : (a : Tall Expr) → Phrase (λ e. standing at.And false e (deep e)) (from 0 (A ∷ amp ∷ amp ∷ B ∷ [])) a → ⊥
and_denied = denied (level_law at.And) and_stops

-- A XOR B; behind A XOR XOR only a call goes on
xor_reads : (standing at.Xor false 3 (deep 3)).run (from 0 (A ∷ XOR ∷ B ∷ [])) ≡ (Ok (e.Binary op.Xor (here 1) (var A 0) (var B 2), 1), [])
unfolding expressions_on_tokens
xor_reads = refl

xor_spelled : (standing at.Xor false 3 (deep 3)).lang (from 0 (A ∷ XOR ∷ B ∷ [])) (e.Binary op.Xor (here 1) (var A 0) (var B 2), 1)
xor_spelled = spelled (level_law at.Xor) xor_reads

xor_stops : (standing at.Xor false 3 (deep 3)).run (from 0 (A ∷ XOR ∷ XOR ∷ B ∷ [])) ≡ (Err Wrong, from 3 (B ∷ []))
unfolding expressions_on_tokens
xor_stops = refl

xor_denied : (a : Tall Expr) → Phrase (λ e. standing at.Xor false e (deep e)) (from 0 (A ∷ XOR ∷ XOR ∷ B ∷ [])) a → ⊥
xor_denied = denied (level_law at.Xor) xor_stops

-- A OR B & C, A OR OR(B, C), A - 1 - 2, and + with line breaks; no operand behind OR, and A := 1 is no expression
expr_reads : (expr false 3 (deep 3)).run (from 0 (A ∷ OR ∷ B ∷ amp ∷ C ∷ [])) ≡ (Ok (e.Binary op.Or (here 1) (var A 0) (e.Binary op.And (here 3) (var B 2) (var C 4)), 2), [])
unfolding expressions_on_tokens
expr_reads = refl

expr_spelled : (expr false 3 (deep 3)).lang (from 0 (A ∷ OR ∷ B ∷ amp ∷ C ∷ [])) (e.Binary op.Or (here 1) (var A 0) (e.Binary op.And (here 3) (var B 2) (var C 4)), 2)
expr_spelled = spelled (expr_law 3) expr_reads

expr_call_reads : (expr false 3 (deep 3)).run (from 0 (A ∷ OR ∷ OR ∷ lparen ∷ B ∷ comma ∷ C ∷ rparen ∷ [])) ≡ (Ok (e.Binary op.Or (here 1) (var A 0) (e.Call (codes "OR") (here 2) (in_arg.Plain (var B 4) ∷ in_arg.Plain (var C 6) ∷ [])), 2), [])
unfolding expressions_on_tokens
expr_call_reads = refl

expr_call_spelled : (expr false 3 (deep 3)).lang (from 0 (A ∷ OR ∷ OR ∷ lparen ∷ B ∷ comma ∷ C ∷ rparen ∷ [])) (e.Binary op.Or (here 1) (var A 0) (e.Call (codes "OR") (here 2) (in_arg.Plain (var B 4) ∷ in_arg.Plain (var C 6) ∷ [])), 2)
expr_call_spelled = spelled (expr_law 3) expr_call_reads

expr_lines_reads : (expr false 3 (deep 3)).run (fresh 0 A ∷ fresh 1 plus ∷ fresh 2 B ∷ []) ≡ (Ok (e.Binary op.Add (here 1) (var A 0) (var B 2), 1), [])
unfolding expressions_on_tokens
expr_lines_reads = refl

expr_lines_spelled : (expr false 3 (deep 3)).lang (fresh 0 A ∷ fresh 1 plus ∷ fresh 2 B ∷ []) (e.Binary op.Add (here 1) (var A 0) (var B 2), 1)
expr_lines_spelled = spelled (expr_law 3) expr_lines_reads

expr_minus_reads : (expr false 3 (deep 3)).run (from 0 (A ∷ minus ∷ one ∷ minus ∷ two ∷ [])) ≡ (Ok (e.Binary op.Sub (here 3) (e.Binary op.Sub (here 1) (var A 0) (int 1 2)) (int 2 4), 2), [])
unfolding expressions_on_tokens
expr_minus_reads = refl

expr_minus_spelled : (expr false 3 (deep 3)).lang (from 0 (A ∷ minus ∷ one ∷ minus ∷ two ∷ [])) (e.Binary op.Sub (here 3) (e.Binary op.Sub (here 1) (var A 0) (int 1 2)) (int 2 4), 2)
expr_minus_spelled = spelled (expr_law 3) expr_minus_reads

expr_stops : (expr false 3 (deep 3)).run (from 0 (A ∷ OR ∷ less ∷ B ∷ [])) ≡ (Err Wrong, from 2 (less ∷ B ∷ []))
unfolding expressions_on_tokens
expr_stops = refl

expr_denied : (a : Tall Expr) → Phrase (λ e. expr false e (deep e)) (from 0 (A ∷ OR ∷ less ∷ B ∷ [])) a → ⊥
expr_denied = denied (expr_law 3) expr_stops

expr_set_stops : (expr false 3 (deep 3)).run (from 0 (A ∷ assign ∷ one ∷ [])) ≡ (Ok (var A 0, 0), from 1 (assign ∷ one ∷ []))
unfolding expressions_on_tokens
expr_set_stops = refl

expr_set_denied : (a : Tall Expr) → Phrase (λ e. expr false e (deep e)) (from 0 (A ∷ assign ∷ one ∷ [])) a → ⊥
expr_set_denied = left_over (expr_law 3) expr_set_stops

-- ---- where nodes nest too deep

-- with no node, "(" opens one
paren_deep : (expr false 0 (deep 0)).run (from 0 (lparen ∷ A ∷ rparen ∷ [])) ≡ (Err Deep, from 0 (lparen ∷ A ∷ rparen ∷ []))
unfolding expressions_on_tokens
paren_deep = refl

-- and so does "["
index_deep : (expr false 0 (deep 0)).run (from 0 (A ∷ lbracket ∷ one ∷ rbracket ∷ [])) ≡ (Err Deep, from 1 (lbracket ∷ one ∷ rbracket ∷ []))
unfolding expressions_on_tokens
index_deep = refl

-- and the name of a call
call_deep : (expr false 0 (deep 0)).run (from 0 (F ∷ lparen ∷ one ∷ rparen ∷ [])) ≡ (Err Deep, from 0 (F ∷ lparen ∷ one ∷ rparen ∷ []))
unfolding expressions_on_tokens
call_deep = refl

-- and - before what is no integer
minus_deep : (expr false 0 (deep 0)).run (from 0 (minus ∷ A ∷ [])) ≡ (Err Deep, from 0 (minus ∷ A ∷ []))
unfolding expressions_on_tokens
minus_deep = refl

-- but not - 5
negative_fits : (expr false 0 (deep 0)).run (from 0 (minus ∷ five ∷ [])) ≡ (Ok (e.Number (negsuc 4) None (here 0), 0), [])
unfolding expressions_on_tokens
negative_fits = refl

-- nor A.B
path_fits : (expr false 0 (deep 0)).run (from 0 (A ∷ dot ∷ B ∷ [])) ≡ (Ok (e.Var (roll-Path (record { first = codes "A"; at = here 0; parts = in_part.Field (codes "B") (here 2) (here 1) ∷ [] })), 0), [])
unfolding expressions_on_tokens
path_fits = refl

-- with one node, + opened it, so "(" behind it is too deep
plus_deep : (expr false 1 (deep 1)).run (from 0 (one ∷ plus ∷ lparen ∷ A ∷ rparen ∷ [])) ≡ (Err Deep, from 2 (lparen ∷ A ∷ rparen ∷ []))
unfolding expressions_on_tokens
plus_deep = refl

-- and * behind + is, of which the product is a part
product_deep : (expr false 1 (deep 1)).run (from 0 (A ∷ plus ∷ B ∷ star ∷ C ∷ [])) ≡ (Err Deep, from 3 (star ∷ C ∷ []))
unfolding expressions_on_tokens
product_deep = refl

-- + stands above the operand before it, which has the one node
above_deep : (expr false 1 (deep 1)).run (from 0 (lparen ∷ A ∷ rparen ∷ plus ∷ one ∷ [])) ≡ (Err Deep, from 3 (plus ∷ one ∷ []))
unfolding expressions_on_tokens
above_deep = refl

-- the second - stands above the first
left_deep : (expr false 1 (deep 1)).run (from 0 (A ∷ minus ∷ B ∷ minus ∷ C ∷ [])) ≡ (Err Deep, from 3 (minus ∷ C ∷ []))
unfolding expressions_on_tokens
left_deep = refl

-- "(" in "("
second_deep : (expr false 1 (deep 1)).run (from 0 (lparen ∷ lparen ∷ A ∷ rparen ∷ rparen ∷ [])) ≡ (Err Deep, from 1 (lparen ∷ A ∷ rparen ∷ rparen ∷ []))
unfolding expressions_on_tokens
second_deep = refl

-- which fits with two nodes
second_fits : (expr false 2 (deep 2)).run (from 0 (lparen ∷ lparen ∷ A ∷ rparen ∷ rparen ∷ [])) ≡ (Ok (e.Paren (here 0) (e.Paren (here 1) (var A 2)), 2), [])
unfolding expressions_on_tokens
second_fits = refl

-- two indices stand beside each other
beside_fits : (expr false 1 (deep 1)).run (from 0 (A ∷ lbracket ∷ one ∷ rbracket ∷ lbracket ∷ two ∷ rbracket ∷ [])) ≡ (Ok (e.Var (roll-Path (record { first = codes "A"; at = here 0; parts = in_part.Index (int 1 2 ∷ []) (here 1) ∷ in_part.Index (int 2 5 ∷ []) (here 4) ∷ [] })), 1), [])
unfolding expressions_on_tokens
beside_fits = refl
