-- For each production of operands, paths and arguments, tokens that spell a value, and some that differ little and spell none.
use Rattle.std.proofs.Common.{◌≡◌, false, true, List, [], ◌∷◌, refl, pos, negsuc, Ok, Err, None, Some, codes}
use Rattle.plc_base.specs.declared.elem.Elem.TheVariants.{Int}
use Rattle.plc_tree.specs.declared.tree.BinOp.TheVariants as op
use Rattle.plc_tree.specs.declared.tree.UnOp.TheVariants as sign
use Rattle.plc_tree.specs.declared.tree.Expr.{Expr}
use Rattle.plc_tree.specs.declared.tree.Expr.TheVariants as e
use Rattle.plc_tree.specs.declared.tree.Path.{Path, roll-Path}
use Rattle.plc_tree.specs.declared.tree.Part.{Part}
use Rattle.plc_tree.specs.declared.tree.Part.TheVariants as in_part
use Rattle.plc_tree.specs.declared.tree.Arg.{Arg}
use Rattle.plc_tree.specs.declared.tree.Arg.TheVariants as in_arg
use Rattle.plc_tokens.specs.Sorts.{sort_in}
use Rattle.plc_tokens.specs.Sets as G
use Rattle.plc_tokens.proofs.Known.{is_in}
use Rattle.phrase.specs.declared.Fault.TheVariants.{Wrong}
use Rattle.phrase.specs.Exact.{Phrase}
use Rattle.phrase.proofs.Rules.{Known, Laws, tokL, bindL}
use Rattle.st_expr.specs.declared.level.Level.TheVariants as at
use Rattle.st_expr.specs.Nested.{Tall}
use Rattle.st_expr.specs.Expressions.{number, truth, span, negative, exprs, field, part, path, plain, named, out, not_out, arg, args, args_if_any, call_rest, call, paren_rest, value, variable, other, primary, operand}
use Rattle.st_expr.specs.Depth.{deep}
use Rattle.st_expr.proofs.Below.{more_at, more_path}
use Rattle.st_expr.proofs.DepthLaws.{below, operand_law}
use Rattle.st_expr.proofs.ExpressionLaws.{number_laws, truth_laws, span_laws, negative_laws, value_rest_laws, field_laws, exprs_laws, part_laws, path_laws, variable_laws, plain_laws, named_rest_laws, out_rest_laws, arg_laws, args_laws, args_if_any_laws, call_rest_laws, call_laws, paren_laws, other_laws, primary_laws}
use Rattle.st_expr.proofs.SampleTokens.{expressions_on_tokens, here, nth, fresh, from, var_path, var, int, A, B, C, F, one, two, five, int_five, yes, time, assign, arrow, lparen, rparen, lbracket, rbracket, comma, semi, dot, plus, minus, equal, hash, NOT, AND, OR, XOR, MOD}
use Rattle.phrase.proofs.Worked.{spelled, denied, left_over}

-- ---- laws of productions that stand inside others

a_name : Known (sort_in false) G.NAME
a_name = is_in false G.NAME refl

value_laws : Laws true 3 false true G.NAME [] (λ e. value G.NAME false)
unfolding value
value_laws = bindL (tokL a_name) (value_rest_laws 3 false) refl

named_laws : Laws true 3 false true G.NAME (more_at at.Whole) (λ e. named (deep e))
unfolding named
named_laws = bindL (tokL a_name) (named_rest_laws 3 deep (below 3)) refl

out_laws : Laws true 3 false true G.NAME more_path (λ e. out (deep e))
unfolding out
out_laws = bindL (tokL a_name) (out_rest_laws 3 deep (below 3) false) refl

not_out_laws : Laws true 3 false true G.NOT more_path (λ e. not_out (deep e))
unfolding not_out
not_out_laws = bindL (tokL (is_in false G.NOT refl)) (λ _. bindL (tokL a_name) (out_rest_laws 3 deep (below 3) true) refl) refl

-- ---- literals

-- 5, and INT#5 is no integer without a type
number_reads : (number G.INTEGER false).run (from 0 (five ∷ [])) ≡ (Ok (int 5 0, 0), [])
unfolding expressions_on_tokens
number_reads = refl

number_spelled : (number G.INTEGER false).lang (from 0 (five ∷ [])) (int 5 0, 0)
number_spelled = spelled ((number_laws 3 false (is_in false G.INTEGER refl)).law refl) number_reads

number_stops : (number G.INTEGER false).run (from 0 (int_five ∷ [])) ≡ (Err Wrong, from 0 (int_five ∷ []))
unfolding expressions_on_tokens
number_stops = refl

number_denied : (a : Tall Expr) → Phrase (λ e. number G.INTEGER false) (from 0 (int_five ∷ [])) a → ⊥
number_denied = denied ((number_laws 3 false (is_in false G.INTEGER refl)).law refl) number_stops

-- INT#5, and 5 has no type before it
typed_reads : (number G.TYPED false).run (from 0 (int_five ∷ [])) ≡ (Ok (e.Number (pos 5) (Some Int) (here 0), 0), [])
unfolding expressions_on_tokens
typed_reads = refl

typed_spelled : (number G.TYPED false).lang (from 0 (int_five ∷ [])) (e.Number (pos 5) (Some Int) (here 0), 0)
typed_spelled = spelled ((number_laws 3 false (is_in false G.TYPED refl)).law refl) typed_reads

typed_stops : (number G.TYPED false).run (from 0 (five ∷ [])) ≡ (Err Wrong, from 0 (five ∷ []))
unfolding expressions_on_tokens
typed_stops = refl

typed_denied : (a : Tall Expr) → Phrase (λ e. number G.TYPED false) (from 0 (five ∷ [])) a → ⊥
typed_denied = denied ((number_laws 3 false (is_in false G.TYPED refl)).law refl) typed_stops

-- TRUE, and a name is no truth value
truth_reads : (truth G.TRUTH false).run (from 0 (yes ∷ [])) ≡ (Ok (e.Truth true (here 0), 0), [])
unfolding expressions_on_tokens
truth_reads = refl

truth_spelled : (truth G.TRUTH false).lang (from 0 (yes ∷ [])) (e.Truth true (here 0), 0)
truth_spelled = spelled ((truth_laws 3 false (is_in false G.TRUTH refl)).law refl) truth_reads

truth_stops : (truth G.TRUTH false).run (from 0 (A ∷ [])) ≡ (Err Wrong, from 0 (A ∷ []))
unfolding expressions_on_tokens
truth_stops = refl

truth_denied : (a : Tall Expr) → Phrase (λ e. truth G.TRUTH false) (from 0 (A ∷ [])) a → ⊥
truth_denied = denied ((truth_laws 3 false (is_in false G.TRUTH refl)).law refl) truth_stops

-- T#3ns, and 5 is no duration
span_reads : (span G.SPAN false).run (from 0 (time ∷ [])) ≡ (Ok (e.Span (pos 3) (here 0), 0), [])
unfolding expressions_on_tokens
span_reads = refl

span_spelled : (span G.SPAN false).lang (from 0 (time ∷ [])) (e.Span (pos 3) (here 0), 0)
span_spelled = spelled ((span_laws 3 false (is_in false G.SPAN refl)).law refl) span_reads

span_stops : (span G.SPAN false).run (from 0 (five ∷ [])) ≡ (Err Wrong, from 0 (five ∷ []))
unfolding expressions_on_tokens
span_stops = refl

span_denied : (a : Tall Expr) → Phrase (λ e. span G.SPAN false) (from 0 (five ∷ [])) a → ⊥
span_denied = denied ((span_laws 3 false (is_in false G.SPAN refl)).law refl) span_stops

-- - 5 is one literal, and - INT#5 is none
negative_reads : (negative G.MINUS false).run (from 0 (minus ∷ five ∷ [])) ≡ (Ok (e.Number (negsuc 4) None (here 0), 0), [])
unfolding expressions_on_tokens
negative_reads = refl

negative_spelled : (negative G.MINUS false).lang (from 0 (minus ∷ five ∷ [])) (e.Number (negsuc 4) None (here 0), 0)
negative_spelled = spelled ((negative_laws 3 false (is_in false G.MINUS refl)).law refl) negative_reads

negative_stops : (negative G.MINUS false).run (from 0 (minus ∷ int_five ∷ [])) ≡ (Err Wrong, from 1 (int_five ∷ []))
unfolding expressions_on_tokens
negative_stops = refl

negative_denied : (a : Tall Expr) → Phrase (λ e. negative G.MINUS false) (from 0 (minus ∷ int_five ∷ [])) a → ⊥
negative_denied = denied ((negative_laws 3 false (is_in false G.MINUS refl)).law refl) negative_stops

-- ---- paths

-- A, 1, and nothing behind ","
exprs_reads : (exprs false (deep 3)).run (from 0 (A ∷ comma ∷ one ∷ [])) ≡ (Ok (var A 0 ∷ int 1 2 ∷ [], 0), [])
unfolding expressions_on_tokens
exprs_reads = refl

exprs_spelled : (exprs false (deep 3)).lang (from 0 (A ∷ comma ∷ one ∷ [])) (var A 0 ∷ int 1 2 ∷ [], 0)
exprs_spelled = spelled ((exprs_laws 3 deep (below 3) false).law refl) exprs_reads

exprs_stops : (exprs false (deep 3)).run (from 0 (A ∷ comma ∷ [])) ≡ (Err Wrong, [])
unfolding expressions_on_tokens
exprs_stops = refl

exprs_denied : (a : Tall (List Expr)) → Phrase (λ e. exprs false (deep e)) (from 0 (A ∷ comma ∷ [])) a → ⊥
exprs_denied = denied ((exprs_laws 3 deep (below 3) false).law refl) exprs_stops

-- .B, and no name behind "."
field_reads : (field false ([], 0)).run (from 0 (dot ∷ B ∷ [])) ≡ (Ok (in_part.Field (codes "B") (here 1) (here 0) ∷ [], 0), [])
unfolding expressions_on_tokens
field_reads = refl

field_spelled : (field false ([], 0)).lang (from 0 (dot ∷ B ∷ [])) (in_part.Field (codes "B") (here 1) (here 0) ∷ [], 0)
field_spelled = spelled ((field_laws 3 false ([], 0)).law refl) field_reads

field_stops : (field false ([], 0)).run (from 0 (dot ∷ five ∷ [])) ≡ (Err Wrong, from 1 (five ∷ []))
unfolding expressions_on_tokens
field_stops = refl

field_denied : (a : Tall (List Part)) → Phrase (λ e. field false ([], 0)) (from 0 (dot ∷ five ∷ [])) a → ⊥
field_denied = denied ((field_laws 3 false ([], 0)).law refl) field_stops

-- [1, A], and no expression behind ","
part_reads : (part false 3 (deep 3) ([], 0)).run (from 0 (lbracket ∷ one ∷ comma ∷ A ∷ rbracket ∷ [])) ≡ (Ok (in_part.Index (int 1 1 ∷ var A 3 ∷ []) (here 0) ∷ [], 1), [])
unfolding expressions_on_tokens
part_reads = refl

part_spelled : (part false 3 (deep 3) ([], 0)).lang (from 0 (lbracket ∷ one ∷ comma ∷ A ∷ rbracket ∷ [])) (in_part.Index (int 1 1 ∷ var A 3 ∷ []) (here 0) ∷ [], 1)
part_spelled = spelled ((part_laws 3 deep (below 3) false ([], 0)).law refl) part_reads

part_stops : (part false 3 (deep 3) ([], 0)).run (from 0 (lbracket ∷ one ∷ comma ∷ rbracket ∷ [])) ≡ (Err Wrong, from 3 (rbracket ∷ []))
unfolding expressions_on_tokens
part_stops = refl

part_denied : (a : Tall (List Part)) → Phrase (λ e. part false e (deep e) ([], 0)) (from 0 (lbracket ∷ one ∷ comma ∷ rbracket ∷ [])) a → ⊥
part_denied = denied ((part_laws 3 deep (below 3) false ([], 0)).law refl) part_stops

-- A.B[1], and no name behind "."
path_reads : (path G.NAME false 3 (deep 3)).run (from 0 (A ∷ dot ∷ B ∷ lbracket ∷ one ∷ rbracket ∷ [])) ≡ (Ok (roll-Path (record { first = codes "A"; at = here 0; parts = in_part.Field (codes "B") (here 2) (here 1) ∷ in_part.Index (int 1 4 ∷ []) (here 3) ∷ [] }), 1), [])
unfolding expressions_on_tokens
path_reads = refl

path_spelled : (path G.NAME false 3 (deep 3)).lang (from 0 (A ∷ dot ∷ B ∷ lbracket ∷ one ∷ rbracket ∷ [])) (roll-Path (record { first = codes "A"; at = here 0; parts = in_part.Field (codes "B") (here 2) (here 1) ∷ in_part.Index (int 1 4 ∷ []) (here 3) ∷ [] }), 1)
path_spelled = spelled ((path_laws 3 deep (below 3) false a_name).law refl) path_reads

path_stops : (path G.NAME false 3 (deep 3)).run (from 0 (A ∷ dot ∷ lbracket ∷ one ∷ rbracket ∷ [])) ≡ (Err Wrong, from 2 (lbracket ∷ one ∷ rbracket ∷ []))
unfolding expressions_on_tokens
path_stops = refl

path_denied : (a : Tall Path) → Phrase (λ e. path G.NAME false e (deep e)) (from 0 (A ∷ dot ∷ lbracket ∷ one ∷ rbracket ∷ [])) a → ⊥
path_denied = denied ((path_laws 3 deep (below 3) false a_name).law refl) path_stops

-- ---- arguments

-- A + 1, and no operand behind +; A := 1 is no expression
plain_reads : (plain (deep 3)).run (from 0 (A ∷ plus ∷ one ∷ [])) ≡ (Ok (in_arg.Plain (e.Binary op.Add (here 1) (var A 0) (int 1 2)), 1), [])
unfolding expressions_on_tokens
plain_reads = refl

plain_spelled : (plain (deep 3)).lang (from 0 (A ∷ plus ∷ one ∷ [])) (in_arg.Plain (e.Binary op.Add (here 1) (var A 0) (int 1 2)), 1)
plain_spelled = spelled ((plain_laws 3 deep (below 3)).law refl) plain_reads

plain_stops : (plain (deep 3)).run (from 0 (A ∷ plus ∷ rparen ∷ [])) ≡ (Err Wrong, from 2 (rparen ∷ []))
unfolding expressions_on_tokens
plain_stops = refl

plain_denied : (a : Tall Arg) → Phrase (λ e. plain (deep e)) (from 0 (A ∷ plus ∷ rparen ∷ [])) a → ⊥
plain_denied = denied ((plain_laws 3 deep (below 3)).law refl) plain_stops

plain_set_stops : (plain (deep 3)).run (from 0 (A ∷ assign ∷ one ∷ [])) ≡ (Ok (in_arg.Plain (var A 0), 0), from 1 (assign ∷ one ∷ []))
unfolding expressions_on_tokens
plain_set_stops = refl

plain_set_denied : (a : Tall Arg) → Phrase (λ e. plain (deep e)) (from 0 (A ∷ assign ∷ one ∷ [])) a → ⊥
plain_set_denied = left_over ((plain_laws 3 deep (below 3)).law refl) plain_set_stops

-- A := 1, and = is not :=
named_reads : (named (deep 3)).run (from 0 (A ∷ assign ∷ one ∷ [])) ≡ (Ok (in_arg.Named (codes "A") (here 0) (int 1 2), 0), [])
unfolding expressions_on_tokens
named_reads = refl

named_spelled : (named (deep 3)).lang (from 0 (A ∷ assign ∷ one ∷ [])) (in_arg.Named (codes "A") (here 0) (int 1 2), 0)
named_spelled = spelled ((named_laws).law refl) named_reads

named_stops : (named (deep 3)).run (from 0 (A ∷ equal ∷ one ∷ [])) ≡ (Err Wrong, from 1 (equal ∷ one ∷ []))
unfolding expressions_on_tokens
named_stops = refl

named_denied : (a : Tall Arg) → Phrase (λ e. named (deep e)) (from 0 (A ∷ equal ∷ one ∷ [])) a → ⊥
named_denied = denied ((named_laws).law refl) named_stops

-- A => B, and 1 is no variable
out_reads : (out (deep 3)).run (from 0 (A ∷ arrow ∷ B ∷ [])) ≡ (Ok (in_arg.Out false (codes "A") (here 0) (var_path B 2), 0), [])
unfolding expressions_on_tokens
out_reads = refl

out_spelled : (out (deep 3)).lang (from 0 (A ∷ arrow ∷ B ∷ [])) (in_arg.Out false (codes "A") (here 0) (var_path B 2), 0)
out_spelled = spelled ((out_laws).law refl) out_reads

out_stops : (out (deep 3)).run (from 0 (A ∷ arrow ∷ one ∷ [])) ≡ (Err Wrong, from 2 (one ∷ []))
unfolding expressions_on_tokens
out_stops = refl

out_denied : (a : Tall Arg) → Phrase (λ e. out (deep e)) (from 0 (A ∷ arrow ∷ one ∷ [])) a → ⊥
out_denied = denied ((out_laws).law refl) out_stops

-- NOT A => B, and := stands behind no NOT
not_out_reads : (not_out (deep 3)).run (from 0 (NOT ∷ A ∷ arrow ∷ B ∷ [])) ≡ (Ok (in_arg.Out true (codes "A") (here 1) (var_path B 3), 0), [])
unfolding expressions_on_tokens
not_out_reads = refl

not_out_spelled : (not_out (deep 3)).lang (from 0 (NOT ∷ A ∷ arrow ∷ B ∷ [])) (in_arg.Out true (codes "A") (here 1) (var_path B 3), 0)
not_out_spelled = spelled ((not_out_laws).law refl) not_out_reads

not_out_stops : (not_out (deep 3)).run (from 0 (NOT ∷ A ∷ assign ∷ B ∷ [])) ≡ (Err Wrong, from 2 (assign ∷ B ∷ []))
unfolding expressions_on_tokens
not_out_stops = refl

not_out_denied : (a : Tall Arg) → Phrase (λ e. not_out (deep e)) (from 0 (NOT ∷ A ∷ assign ∷ B ∷ [])) a → ⊥
not_out_denied = denied ((not_out_laws).law refl) not_out_stops

-- A := 1 names an argument, A => B and NOT A => B are outputs, NOT A is an expression; A => 1 is none of these, nor is NOT A := 1
arg_named_reads : (arg (deep 3)).run (from 0 (A ∷ assign ∷ one ∷ [])) ≡ (Ok (in_arg.Named (codes "A") (here 0) (int 1 2), 0), [])
unfolding expressions_on_tokens
arg_named_reads = refl

arg_named_spelled : (arg (deep 3)).lang (from 0 (A ∷ assign ∷ one ∷ [])) (in_arg.Named (codes "A") (here 0) (int 1 2), 0)
arg_named_spelled = spelled ((arg_laws 3 deep (below 3)).law refl) arg_named_reads

arg_out_reads : (arg (deep 3)).run (from 0 (A ∷ arrow ∷ B ∷ [])) ≡ (Ok (in_arg.Out false (codes "A") (here 0) (var_path B 2), 0), [])
unfolding expressions_on_tokens
arg_out_reads = refl

arg_out_spelled : (arg (deep 3)).lang (from 0 (A ∷ arrow ∷ B ∷ [])) (in_arg.Out false (codes "A") (here 0) (var_path B 2), 0)
arg_out_spelled = spelled ((arg_laws 3 deep (below 3)).law refl) arg_out_reads

arg_not_out_reads : (arg (deep 3)).run (from 0 (NOT ∷ A ∷ arrow ∷ B ∷ [])) ≡ (Ok (in_arg.Out true (codes "A") (here 1) (var_path B 3), 0), [])
unfolding expressions_on_tokens
arg_not_out_reads = refl

arg_not_out_spelled : (arg (deep 3)).lang (from 0 (NOT ∷ A ∷ arrow ∷ B ∷ [])) (in_arg.Out true (codes "A") (here 1) (var_path B 3), 0)
arg_not_out_spelled = spelled ((arg_laws 3 deep (below 3)).law refl) arg_not_out_reads

arg_not_reads : (arg (deep 3)).run (from 0 (NOT ∷ A ∷ [])) ≡ (Ok (in_arg.Plain (e.Unary sign.Not (here 0) (var A 1)), 1), [])
unfolding expressions_on_tokens
arg_not_reads = refl

arg_not_spelled : (arg (deep 3)).lang (from 0 (NOT ∷ A ∷ [])) (in_arg.Plain (e.Unary sign.Not (here 0) (var A 1)), 1)
arg_not_spelled = spelled ((arg_laws 3 deep (below 3)).law refl) arg_not_reads

arg_stops : (arg (deep 3)).run (from 0 (A ∷ arrow ∷ one ∷ [])) ≡ (Err Wrong, from 2 (one ∷ []))
unfolding expressions_on_tokens
arg_stops = refl

arg_denied : (a : Tall Arg) → Phrase (λ e. arg (deep e)) (from 0 (A ∷ arrow ∷ one ∷ [])) a → ⊥
arg_denied = denied ((arg_laws 3 deep (below 3)).law refl) arg_stops

arg_not_named_stops : (arg (deep 3)).run (from 0 (NOT ∷ A ∷ assign ∷ one ∷ [])) ≡ (Ok (in_arg.Plain (e.Unary sign.Not (here 0) (var A 1)), 1), from 2 (assign ∷ one ∷ []))
unfolding expressions_on_tokens
arg_not_named_stops = refl

arg_not_named_denied : (a : Tall Arg) → Phrase (λ e. arg (deep e)) (from 0 (NOT ∷ A ∷ assign ∷ one ∷ [])) a → ⊥
arg_not_named_denied = left_over ((arg_laws 3 deep (below 3)).law refl) arg_not_named_stops

-- 1, A := 2, and no argument behind ","
args_reads : (args (deep 3)).run (from 0 (one ∷ comma ∷ A ∷ assign ∷ two ∷ [])) ≡ (Ok (in_arg.Plain (int 1 0) ∷ in_arg.Named (codes "A") (here 2) (int 2 4) ∷ [], 0), [])
unfolding expressions_on_tokens
args_reads = refl

args_spelled : (args (deep 3)).lang (from 0 (one ∷ comma ∷ A ∷ assign ∷ two ∷ [])) (in_arg.Plain (int 1 0) ∷ in_arg.Named (codes "A") (here 2) (int 2 4) ∷ [], 0)
args_spelled = spelled ((args_laws 3 deep (below 3)).law refl) args_reads

args_stops : (args (deep 3)).run (from 0 (one ∷ comma ∷ rparen ∷ [])) ≡ (Err Wrong, from 2 (rparen ∷ []))
unfolding expressions_on_tokens
args_stops = refl

args_denied : (a : Tall (List Arg)) → Phrase (λ e. args (deep e)) (from 0 (one ∷ comma ∷ rparen ∷ [])) a → ⊥
args_denied = denied ((args_laws 3 deep (below 3)).law refl) args_stops

-- none, one, and no argument behind ","
args_if_any_none_reads : (args_if_any (deep 3)).run [] ≡ (Ok ([], 0), [])
unfolding expressions_on_tokens
args_if_any_none_reads = refl

args_if_any_none_spelled : (args_if_any (deep 3)).lang [] ([], 0)
args_if_any_none_spelled = spelled ((args_if_any_laws 3 deep (below 3)).law refl) args_if_any_none_reads

args_if_any_reads : (args_if_any (deep 3)).run (from 0 (one ∷ [])) ≡ (Ok (in_arg.Plain (int 1 0) ∷ [], 0), [])
unfolding expressions_on_tokens
args_if_any_reads = refl

args_if_any_spelled : (args_if_any (deep 3)).lang (from 0 (one ∷ [])) (in_arg.Plain (int 1 0) ∷ [], 0)
args_if_any_spelled = spelled ((args_if_any_laws 3 deep (below 3)).law refl) args_if_any_reads

args_if_any_stops : (args_if_any (deep 3)).run (from 0 (one ∷ comma ∷ [])) ≡ (Err Wrong, [])
unfolding expressions_on_tokens
args_if_any_stops = refl

args_if_any_denied : (a : Tall (List Arg)) → Phrase (λ e. args_if_any (deep e)) (from 0 (one ∷ comma ∷ [])) a → ⊥
args_if_any_denied = denied ((args_if_any_laws 3 deep (below 3)).law refl) args_if_any_stops

-- behind F and "(": no argument, one; no ")" behind it
call_rest_none_reads : (call_rest false (deep 3)).run (from 2 (rparen ∷ [])) ≡ (Ok ([], 1), [])
unfolding expressions_on_tokens
call_rest_none_reads = refl

call_rest_none_spelled : (call_rest false (deep 3)).lang (from 2 (rparen ∷ [])) ([], 1)
call_rest_none_spelled = spelled ((call_rest_laws 3 deep (below 3) false).law refl) call_rest_none_reads

call_rest_reads : (call_rest false (deep 3)).run (from 2 (A ∷ arrow ∷ B ∷ rparen ∷ [])) ≡ (Ok (in_arg.Out false (codes "A") (here 2) (var_path B 4) ∷ [], 1), [])
unfolding expressions_on_tokens
call_rest_reads = refl

call_rest_spelled : (call_rest false (deep 3)).lang (from 2 (A ∷ arrow ∷ B ∷ rparen ∷ [])) (in_arg.Out false (codes "A") (here 2) (var_path B 4) ∷ [], 1)
call_rest_spelled = spelled ((call_rest_laws 3 deep (below 3) false).law refl) call_rest_reads

call_rest_stops : (call_rest false (deep 3)).run (from 2 (one ∷ semi ∷ [])) ≡ (Err Wrong, from 3 (semi ∷ []))
unfolding expressions_on_tokens
call_rest_stops = refl

call_rest_denied : (a : Tall (List Arg)) → Phrase (λ e. call_rest false (deep e)) (from 2 (one ∷ semi ∷ [])) a → ⊥
call_rest_denied = denied ((call_rest_laws 3 deep (below 3) false).law refl) call_rest_stops

-- ---- operands

-- behind F and "(": 1, and no argument behind ","
call_reads : (call false (deep 3) (nth 0 F)).run (from 2 (one ∷ rparen ∷ [])) ≡ (Ok (e.Call (codes "F") (here 0) (in_arg.Plain (int 1 2) ∷ []), 1), [])
unfolding expressions_on_tokens
call_reads = refl

call_spelled : (call false (deep 3) (nth 0 F)).lang (from 2 (one ∷ rparen ∷ [])) (e.Call (codes "F") (here 0) (in_arg.Plain (int 1 2) ∷ []), 1)
call_spelled = spelled ((call_laws 3 deep (below 3) false (nth 0 F)).law refl) call_reads

call_stops : (call false (deep 3) (nth 0 F)).run (from 2 (one ∷ comma ∷ rparen ∷ [])) ≡ (Err Wrong, from 4 (rparen ∷ []))
unfolding expressions_on_tokens
call_stops = refl

call_denied : (a : Tall Expr) → Phrase (λ e. call false (deep e) (nth 0 F)) (from 2 (one ∷ comma ∷ rparen ∷ [])) a → ⊥
call_denied = denied ((call_laws 3 deep (below 3) false (nth 0 F)).law refl) call_stops

-- behind "(": A, and no expression
paren_reads : (paren_rest false (deep 3) (nth 0 lparen)).run (from 1 (A ∷ rparen ∷ [])) ≡ (Ok (e.Paren (here 0) (var A 1), 1), [])
unfolding expressions_on_tokens
paren_reads = refl

paren_spelled : (paren_rest false (deep 3) (nth 0 lparen)).lang (from 1 (A ∷ rparen ∷ [])) (e.Paren (here 0) (var A 1), 1)
paren_spelled = spelled ((paren_laws 3 deep (below 3) false (nth 0 lparen)).law refl) paren_reads

paren_stops : (paren_rest false (deep 3) (nth 0 lparen)).run (from 1 (rparen ∷ [])) ≡ (Err Wrong, from 1 (rparen ∷ []))
unfolding expressions_on_tokens
paren_stops = refl

paren_denied : (a : Tall Expr) → Phrase (λ e. paren_rest false (deep e) (nth 0 lparen)) (from 1 (rparen ∷ [])) a → ⊥
paren_denied = denied ((paren_laws 3 deep (below 3) false (nth 0 lparen)).law refl) paren_stops

-- C#A, and C#5 is none
value_reads : (value G.NAME false).run (from 0 (C ∷ hash ∷ A ∷ [])) ≡ (Ok (e.Value (codes "C") (codes "A") (here 0) (here 2), 0), [])
unfolding expressions_on_tokens
value_reads = refl

value_spelled : (value G.NAME false).lang (from 0 (C ∷ hash ∷ A ∷ [])) (e.Value (codes "C") (codes "A") (here 0) (here 2), 0)
value_spelled = spelled ((value_laws).law refl) value_reads

value_stops : (value G.NAME false).run (from 0 (C ∷ hash ∷ five ∷ [])) ≡ (Err Wrong, from 2 (five ∷ []))
unfolding expressions_on_tokens
value_stops = refl

value_denied : (a : Tall Expr) → Phrase (λ e. value G.NAME false) (from 0 (C ∷ hash ∷ five ∷ [])) a → ⊥
value_denied = denied ((value_laws).law refl) value_stops

-- A.B, and no "]" behind "[" and 1
variable_reads : (variable G.NAME false 3 (deep 3)).run (from 0 (A ∷ dot ∷ B ∷ [])) ≡ (Ok (e.Var (roll-Path (record { first = codes "A"; at = here 0; parts = in_part.Field (codes "B") (here 2) (here 1) ∷ [] })), 0), [])
unfolding expressions_on_tokens
variable_reads = refl

variable_spelled : (variable G.NAME false 3 (deep 3)).lang (from 0 (A ∷ dot ∷ B ∷ [])) (e.Var (roll-Path (record { first = codes "A"; at = here 0; parts = in_part.Field (codes "B") (here 2) (here 1) ∷ [] })), 0)
variable_spelled = spelled ((variable_laws 3 deep (below 3) false a_name).law refl) variable_reads

variable_stops : (variable G.NAME false 3 (deep 3)).run (from 0 (A ∷ lbracket ∷ one ∷ semi ∷ [])) ≡ (Err Wrong, from 3 (semi ∷ []))
unfolding expressions_on_tokens
variable_stops = refl

variable_denied : (a : Tall Expr) → Phrase (λ e. variable G.NAME false e (deep e)) (from 0 (A ∷ lbracket ∷ one ∷ semi ∷ [])) a → ⊥
variable_denied = denied ((variable_laws 3 deep (below 3) false a_name).law refl) variable_stops

-- operators that are called, and INT#5; 5 is no primary of these
other_mod_reads : (other false 3 (deep 3)).run (from 0 (MOD ∷ lparen ∷ A ∷ comma ∷ B ∷ rparen ∷ [])) ≡ (Ok (e.Call (codes "MOD") (here 0) (in_arg.Plain (var A 2) ∷ in_arg.Plain (var B 4) ∷ []), 1), [])
unfolding expressions_on_tokens
other_mod_reads = refl

other_mod_spelled : (other false 3 (deep 3)).lang (from 0 (MOD ∷ lparen ∷ A ∷ comma ∷ B ∷ rparen ∷ [])) (e.Call (codes "MOD") (here 0) (in_arg.Plain (var A 2) ∷ in_arg.Plain (var B 4) ∷ []), 1)
other_mod_spelled = spelled ((other_laws 3 deep (below 3) false).law refl) other_mod_reads

other_and_reads : (other false 3 (deep 3)).run (from 0 (AND ∷ lparen ∷ A ∷ comma ∷ B ∷ rparen ∷ [])) ≡ (Ok (e.Call (codes "AND") (here 0) (in_arg.Plain (var A 2) ∷ in_arg.Plain (var B 4) ∷ []), 1), [])
unfolding expressions_on_tokens
other_and_reads = refl

other_and_spelled : (other false 3 (deep 3)).lang (from 0 (AND ∷ lparen ∷ A ∷ comma ∷ B ∷ rparen ∷ [])) (e.Call (codes "AND") (here 0) (in_arg.Plain (var A 2) ∷ in_arg.Plain (var B 4) ∷ []), 1)
other_and_spelled = spelled ((other_laws 3 deep (below 3) false).law refl) other_and_reads

other_or_reads : (other false 3 (deep 3)).run (from 0 (OR ∷ lparen ∷ A ∷ comma ∷ B ∷ rparen ∷ [])) ≡ (Ok (e.Call (codes "OR") (here 0) (in_arg.Plain (var A 2) ∷ in_arg.Plain (var B 4) ∷ []), 1), [])
unfolding expressions_on_tokens
other_or_reads = refl

other_or_spelled : (other false 3 (deep 3)).lang (from 0 (OR ∷ lparen ∷ A ∷ comma ∷ B ∷ rparen ∷ [])) (e.Call (codes "OR") (here 0) (in_arg.Plain (var A 2) ∷ in_arg.Plain (var B 4) ∷ []), 1)
other_or_spelled = spelled ((other_laws 3 deep (below 3) false).law refl) other_or_reads

other_xor_reads : (other false 3 (deep 3)).run (from 0 (XOR ∷ lparen ∷ A ∷ comma ∷ B ∷ rparen ∷ [])) ≡ (Ok (e.Call (codes "XOR") (here 0) (in_arg.Plain (var A 2) ∷ in_arg.Plain (var B 4) ∷ []), 1), [])
unfolding expressions_on_tokens
other_xor_reads = refl

other_xor_spelled : (other false 3 (deep 3)).lang (from 0 (XOR ∷ lparen ∷ A ∷ comma ∷ B ∷ rparen ∷ [])) (e.Call (codes "XOR") (here 0) (in_arg.Plain (var A 2) ∷ in_arg.Plain (var B 4) ∷ []), 1)
other_xor_spelled = spelled ((other_laws 3 deep (below 3) false).law refl) other_xor_reads

other_typed_reads : (other false 3 (deep 3)).run (from 0 (int_five ∷ [])) ≡ (Ok (e.Number (pos 5) (Some Int) (here 0), 0), [])
unfolding expressions_on_tokens
other_typed_reads = refl

other_typed_spelled : (other false 3 (deep 3)).lang (from 0 (int_five ∷ [])) (e.Number (pos 5) (Some Int) (here 0), 0)
other_typed_spelled = spelled ((other_laws 3 deep (below 3) false).law refl) other_typed_reads

other_stops : (other false 3 (deep 3)).run (from 0 (five ∷ [])) ≡ (Err Wrong, from 0 (five ∷ []))
unfolding expressions_on_tokens
other_stops = refl

other_denied : (a : Tall Expr) → Phrase (λ e. other false e (deep e)) (from 0 (five ∷ [])) a → ⊥
other_denied = denied ((other_laws 3 deep (below 3) false).law refl) other_stops

-- 5, F(), (A) and C#A; no sign begins one, and MOD is no name
primary_reads : (primary false 3 (deep 3)).run (from 0 (five ∷ [])) ≡ (Ok (int 5 0, 0), [])
unfolding expressions_on_tokens
primary_reads = refl

primary_spelled : (primary false 3 (deep 3)).lang (from 0 (five ∷ [])) (int 5 0, 0)
primary_spelled = spelled ((primary_laws 3 deep (below 3) false).law refl) primary_reads

primary_call_reads : (primary false 3 (deep 3)).run (from 0 (F ∷ lparen ∷ rparen ∷ [])) ≡ (Ok (e.Call (codes "F") (here 0) [], 1), [])
unfolding expressions_on_tokens
primary_call_reads = refl

primary_call_spelled : (primary false 3 (deep 3)).lang (from 0 (F ∷ lparen ∷ rparen ∷ [])) (e.Call (codes "F") (here 0) [], 1)
primary_call_spelled = spelled ((primary_laws 3 deep (below 3) false).law refl) primary_call_reads

primary_paren_reads : (primary false 3 (deep 3)).run (from 0 (lparen ∷ A ∷ rparen ∷ [])) ≡ (Ok (e.Paren (here 0) (var A 1), 1), [])
unfolding expressions_on_tokens
primary_paren_reads = refl

primary_paren_spelled : (primary false 3 (deep 3)).lang (from 0 (lparen ∷ A ∷ rparen ∷ [])) (e.Paren (here 0) (var A 1), 1)
primary_paren_spelled = spelled ((primary_laws 3 deep (below 3) false).law refl) primary_paren_reads

primary_value_reads : (primary false 3 (deep 3)).run (from 0 (C ∷ hash ∷ A ∷ [])) ≡ (Ok (e.Value (codes "C") (codes "A") (here 0) (here 2), 0), [])
unfolding expressions_on_tokens
primary_value_reads = refl

primary_value_spelled : (primary false 3 (deep 3)).lang (from 0 (C ∷ hash ∷ A ∷ [])) (e.Value (codes "C") (codes "A") (here 0) (here 2), 0)
primary_value_spelled = spelled ((primary_laws 3 deep (below 3) false).law refl) primary_value_reads

primary_stops : (primary false 3 (deep 3)).run (from 0 (minus ∷ five ∷ [])) ≡ (Err Wrong, from 0 (minus ∷ five ∷ []))
unfolding expressions_on_tokens
primary_stops = refl

primary_denied : (a : Tall Expr) → Phrase (λ e. primary false e (deep e)) (from 0 (minus ∷ five ∷ [])) a → ⊥
primary_denied = denied ((primary_laws 3 deep (below 3) false).law refl) primary_stops

primary_word_stops : (primary false 3 (deep 3)).run (from 0 (MOD ∷ dot ∷ B ∷ [])) ≡ (Err Wrong, from 1 (dot ∷ B ∷ []))
unfolding expressions_on_tokens
primary_word_stops = refl

primary_word_denied : (a : Tall Expr) → Phrase (λ e. primary false e (deep e)) (from 0 (MOD ∷ dot ∷ B ∷ [])) a → ⊥
primary_word_denied = denied ((primary_laws 3 deep (below 3) false).law refl) primary_word_stops

-- a line break may stand before the first token and before arguments of a call; none before a part, in an index, or before the ")" of a call there
operand_reads : (operand true 3 (deep 3)).run (fresh 0 A ∷ nth 1 dot ∷ nth 2 B ∷ []) ≡ (Ok (e.Var (roll-Path (record { first = codes "A"; at = here 0; parts = in_part.Field (codes "B") (here 2) (here 1) ∷ [] })), 0), [])
unfolding expressions_on_tokens
operand_reads = refl

operand_spelled : (operand true 3 (deep 3)).lang (fresh 0 A ∷ nth 1 dot ∷ nth 2 B ∷ []) (e.Var (roll-Path (record { first = codes "A"; at = here 0; parts = in_part.Field (codes "B") (here 2) (here 1) ∷ [] })), 0)
operand_spelled = spelled (operand_law true 3) operand_reads

operand_negative_reads : (operand true 3 (deep 3)).run (fresh 0 minus ∷ nth 1 five ∷ []) ≡ (Ok (e.Number (negsuc 4) None (here 0), 0), [])
unfolding expressions_on_tokens
operand_negative_reads = refl

operand_negative_spelled : (operand true 3 (deep 3)).lang (fresh 0 minus ∷ nth 1 five ∷ []) (e.Number (negsuc 4) None (here 0), 0)
operand_negative_spelled = spelled (operand_law true 3) operand_negative_reads

operand_call_reads : (operand true 3 (deep 3)).run (nth 0 A ∷ nth 1 lbracket ∷ nth 2 F ∷ nth 3 lparen ∷ fresh 4 one ∷ nth 5 rparen ∷ nth 6 rbracket ∷ []) ≡ (Ok (e.Var (roll-Path (record { first = codes "A"; at = here 0; parts = in_part.Index (e.Call (codes "F") (here 2) (in_arg.Plain (int 1 4) ∷ []) ∷ []) (here 1) ∷ [] })), 2), [])
unfolding expressions_on_tokens
operand_call_reads = refl

operand_call_spelled : (operand true 3 (deep 3)).lang (nth 0 A ∷ nth 1 lbracket ∷ nth 2 F ∷ nth 3 lparen ∷ fresh 4 one ∷ nth 5 rparen ∷ nth 6 rbracket ∷ []) (e.Var (roll-Path (record { first = codes "A"; at = here 0; parts = in_part.Index (e.Call (codes "F") (here 2) (in_arg.Plain (int 1 4) ∷ []) ∷ []) (here 1) ∷ [] })), 2)
operand_call_spelled = spelled (operand_law true 3) operand_call_reads

operand_stops : (operand true 3 (deep 3)).run (nth 0 A ∷ nth 1 dot ∷ fresh 2 B ∷ []) ≡ (Err Wrong, fresh 2 B ∷ [])
unfolding expressions_on_tokens
operand_stops = refl

operand_denied : (a : Tall Expr) → Phrase (λ e. operand true e (deep e)) (nth 0 A ∷ nth 1 dot ∷ fresh 2 B ∷ []) a → ⊥
operand_denied = denied (operand_law true 3) operand_stops

operand_paren_stops : (operand true 3 (deep 3)).run (nth 0 A ∷ nth 1 lbracket ∷ nth 2 lparen ∷ fresh 3 one ∷ nth 4 rparen ∷ nth 5 rbracket ∷ []) ≡ (Err Wrong, fresh 3 one ∷ nth 4 rparen ∷ nth 5 rbracket ∷ [])
unfolding expressions_on_tokens
operand_paren_stops = refl

operand_paren_denied : (a : Tall Expr) → Phrase (λ e. operand true e (deep e)) (nth 0 A ∷ nth 1 lbracket ∷ nth 2 lparen ∷ fresh 3 one ∷ nth 4 rparen ∷ nth 5 rbracket ∷ []) a → ⊥
operand_paren_denied = denied (operand_law true 3) operand_paren_stops

operand_sum_stops : (operand true 3 (deep 3)).run (nth 0 A ∷ nth 1 lbracket ∷ nth 2 one ∷ fresh 3 plus ∷ nth 4 two ∷ nth 5 rbracket ∷ []) ≡ (Err Wrong, fresh 3 plus ∷ nth 4 two ∷ nth 5 rbracket ∷ [])
unfolding expressions_on_tokens
operand_sum_stops = refl

operand_sum_denied : (a : Tall Expr) → Phrase (λ e. operand true e (deep e)) (nth 0 A ∷ nth 1 lbracket ∷ nth 2 one ∷ fresh 3 plus ∷ nth 4 two ∷ nth 5 rbracket ∷ []) a → ⊥
operand_sum_denied = denied (operand_law true 3) operand_sum_stops

operand_dot_stops : (operand true 3 (deep 3)).run (nth 0 A ∷ fresh 1 dot ∷ nth 2 B ∷ []) ≡ (Ok (var A 0, 0), fresh 1 dot ∷ nth 2 B ∷ [])
unfolding expressions_on_tokens
operand_dot_stops = refl

operand_dot_denied : (a : Tall Expr) → Phrase (λ e. operand true e (deep e)) (nth 0 A ∷ fresh 1 dot ∷ nth 2 B ∷ []) a → ⊥
operand_dot_denied = left_over (operand_law true 3) operand_dot_stops

operand_negative_stops : (operand true 3 (deep 3)).run (nth 0 minus ∷ fresh 1 five ∷ []) ≡ (Err Wrong, fresh 1 five ∷ [])
unfolding expressions_on_tokens
operand_negative_stops = refl

operand_negative_denied : (a : Tall Expr) → Phrase (λ e. operand true e (deep e)) (nth 0 minus ∷ fresh 1 five ∷ []) a → ⊥
operand_negative_denied = denied (operand_law true 3) operand_negative_stops

operand_call_stops : (operand true 3 (deep 3)).run (nth 0 A ∷ nth 1 lbracket ∷ nth 2 F ∷ nth 3 lparen ∷ fresh 4 one ∷ fresh 5 rparen ∷ nth 6 rbracket ∷ []) ≡ (Err Wrong, fresh 5 rparen ∷ nth 6 rbracket ∷ [])
unfolding expressions_on_tokens
operand_call_stops = refl

operand_call_denied : (a : Tall Expr) → Phrase (λ e. operand true e (deep e)) (nth 0 A ∷ nth 1 lbracket ∷ nth 2 F ∷ nth 3 lparen ∷ fresh 4 one ∷ fresh 5 rparen ∷ nth 6 rbracket ∷ []) a → ⊥
operand_call_denied = denied (operand_law true 3) operand_call_stops
