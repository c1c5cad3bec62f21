-- The laws of the productions of expressions, given those of what stands under one more node.
use Rattle.std.proofs.Common.{◌≡◌, ℕ, zero, suc, Bool, true, false, nat_le, List, [], ◌∷◌, ◌++◌, refl, sym, subst, arith}
use Rattle.plc_tokens.specs.declared.token.Token.{Token}
use Rattle.plc_tree.specs.declared.tree.Expr.{Expr}
use Rattle.plc_tree.specs.declared.tree.UnOp.{UnOp}
use Rattle.plc_tree.specs.declared.tree.UnOp.TheVariants as sign
use Rattle.plc_tree.specs.declared.tree.Part.{Part}
use Rattle.plc_tree.specs.declared.tree.Arg.{Arg}
use Rattle.plc_tokens.specs.Sorts.{rank, sort_in, kinds, wherever}
use Rattle.plc_tokens.specs.Sets as G
use Rattle.plc_tokens.proofs.Known.{is_in}
use Rattle.plc_tokens.proofs.Ranks.{matches}
use Rattle.phrase.proofs.Basics.{disjoint}
use Rattle.phrase.proofs.Sets.{subset}
use Rattle.phrase.proofs.Rules.{Known, Laws, pureL, tokL, bindL, bind_anyL, chooseL, manyL, opensL, onL, as_listed, choose_callL, choose_pairL, choose_threeL, Avoids, avoids_less, avoids_choose, avoids_choose_two, avoids_then, avoids_tok, avoids_node, avoids_opens, avoids_first, Avoids_three, three_then, three_first, three_choose_two, three_less, Reaches, reaches_bind, reaches_past, reaches_past_two, reaches_here, reaches_node, Shape, tokS, pureS, bindS}
use Rattle.phrase.proofs.Views.{seenL}
use Rattle.st_expr.specs.declared.level.Level.{Level}
use Rattle.st_expr.specs.declared.level.Level.TheVariants as at
use Rattle.st_expr.specs.Nested.{Tall, Deep}
use Rattle.st_expr.specs.Expressions as E
use Rattle.st_expr.specs.Expressions.{number, truth, span, negative, negative_rest, next_expr, exprs, index_rest, field, part, path, plain, named, named_rest, out, out_rest, not_out, named_or_plain, out_or_in, arg, next_arg, args, args_if_any, call_rest, call, paren_rest, value, value_rest, variable, named_operand, called_or_named, other, primary, operand, under_sign, signed, unary, joining, side_of, levels_in, side_rest, next_side, innermost, layered, standing, expr}
use Rattle.st_expr.proofs.Fronts.{variable_avoids, named_operand_avoids}
use Rattle.st_expr.proofs.Levels.{as_side, one_fewer, known_at, side_ends, side_begins, begins_side, side_more}
use Rattle.st_expr.proofs.Below.{more_operand, Below, expr_sorts, first_at, more_sorts, more_at, more_path, other_more, expr_more}
use Rattle.plc_tokens.specs.declared.sort.Form.TheVariants as form
use Rattle.plc_tokens.specs.declared.sort.Seen.{Seen}
use Rattle.plc_tokens.specs.declared.sort.Sort.{Sort}
use Rattle.plc_tokens.specs.declared.sort.Symbol.TheVariants as symbol
use Rattle.plc_tokens.specs.declared.sort.Sort.TheVariants.{Form, Symbol}

-- the sorts that may follow an argument, some arguments, or none
abbrev arg_sorts : List Sort
arg_sorts = Form form.Name ∷ Symbol symbol.Assign ∷ Symbol symbol.Arrow ∷ more_sorts at.Whole

abbrev pub args_sorts : List Sort
args_sorts = Symbol symbol.Comma ∷ arg_sorts

abbrev any_sorts : List Sort
any_sorts = expr_sorts ++ args_sorts

abbrev pub first_call : List Seen
first_call = wherever expr_sorts ++ G.RPAREN

apart_none : (ks : List Seen) → disjoint rank ks [] ≡ true
apart_none [] = refl
apart_none (k ∷ ks) = apart_none ks

-- ---- literals

module _ (d : ℕ) (line : Bool) where
  pub number_laws : {ks : List Seen} → Known (sort_in line) ks → Laws true d false true ks [] (λ _. number ks line)
  unfolding number
  number_laws k = bindL (tokL k) (λ t. pureL _) refl

  pub truth_laws : {ks : List Seen} → Known (sort_in line) ks → Laws true d false true ks [] (λ _. truth ks line)
  unfolding truth
  truth_laws k = bindL (tokL k) (λ t. pureL _) refl

  pub span_laws : {ks : List Seen} → Known (sort_in line) ks → Laws true d false true ks [] (λ _. span ks line)
  unfolding span
  span_laws k = bindL (tokL k) (λ t. pureL _) refl

  negative_rest_laws : (t : Token) → Laws true d false true G.INTEGER [] (λ _. negative_rest line t)
  unfolding negative_rest
  negative_rest_laws t = bindL (tokL (is_in line G.INTEGER refl)) (λ u. pureL _) refl

  pub negative_laws : {ks : List Seen} → Known (sort_in line) ks → Laws true d false true ks [] (λ _. negative ks line)
  unfolding negative
  negative_laws k = bindL (tokL k) negative_rest_laws refl

  pub value_rest_laws : (t : Token) → Laws true d false true G.HASH [] (λ _. value_rest line t)
  unfolding value_rest
  value_rest_laws t = bindL (tokL (is_in line G.HASH refl)) (λ _. bindL (tokL (is_in line G.NAME refl)) (λ u. pureL _) refl) refl

  pub field_laws : (p : Tall (List Part)) → Laws true d false true G.DOT [] (λ _. field line p)
  unfolding field
  field_laws p = bindL (tokL (is_in line G.DOT refl)) (λ _. bindL (tokL (is_in line G.NAME refl)) (λ _. pureL _) refl) refl

-- ---- at each number of nodes

module _ (d : ℕ) (x : ℕ → Deep) (b : Below (nat_le 1 d) d x) where
  abbrev on : Bool
  on = nat_le 1 d

  module _ (line : Bool) where
    next_expr_laws : (l : Tall (List Expr)) → Laws on d false true G.COMMA (more_at at.Whole) (λ e. next_expr line (x e) l)
    unfolding next_expr
    next_expr_laws l = bindL (tokL (is_in line G.COMMA refl)) (λ _. bindL (b.operand at.Whole line) (λ y. pureL (E.add_expr l y)) refl) refl

    pub exprs_laws : Laws on d false true G.FIRST_EXPR (kinds (Symbol symbol.Comma ∷ more_sorts at.Whole)) (λ e. exprs line (x e))
    unfolding exprs
    exprs_laws = as_listed G.FIRST_EXPR (kinds (Symbol symbol.Comma ∷ more_sorts at.Whole))
        (bindL (b.operand at.Whole line) (λ a. manyL (E.add_expr ([], 0) a) next_expr_laws refl) refl) refl refl refl

    index_laws : (p : Tall (List Part)) (t : Token) → Laws on d false true G.FIRST_EXPR [] (λ e. index_rest line (x e) p t)
    unfolding index_rest
    index_laws p t = bindL exprs_laws (λ l. bindL (tokL (is_in line G.RBRACKET refl)) (λ _. pureL _) refl) refl

    pub part_laws : (p : Tall (List Part)) → Laws true d false true G.PARTS [] (λ e. part line e (x e) p)
    unfolding part
    part_laws p = chooseL (opensL 0 (is_in line G.LBRACKET refl) (index_laws p)) (field_laws d line p) refl

    -- a name and its parts
    pub path_laws : {ks : List Seen} → Known (sort_in line) ks → Laws true d false true ks more_path (λ e. path ks line e (x e))
    unfolding path
    path_laws k = bindL (tokL k) (λ t. bind_anyL (manyL ([], 0) part_laws refl) (λ p. pureL (E.path_of t p)) refl) refl

    pub variable_laws : {ks : List Seen} → Known (sort_in line) ks → Laws true d false true ks more_path (λ e. variable ks line e (x e))
    unfolding variable
    variable_laws k = bindL (path_laws k) (λ p. pureL _) refl

  -- ---- arguments

  pub plain_laws : Laws on d false true G.FIRST_EXPR (more_at at.Whole) (λ e. plain (x e))
  unfolding plain
  plain_laws = bindL (b.operand at.Whole false) (λ y. pureL (E.as_plain y)) refl

  plain_not_named : Avoids G.NAME G.NAMED (λ e. plain (x e))
  unfolding plain
  plain_not_named = avoids_then (b.shape at.Whole false) (λ y. pureS _) b.expr_not_named refl

  plain_not_out : Avoids_three G.NOT G.NAME G.NAMED (λ e. plain (x e))
  unfolding plain
  plain_not_out = three_then (b.shape at.Whole false) (λ y. pureS _) b.expr_not_out refl refl

  plain_reaches : on ≡ true → Reaches G.NOT G.NAME d (λ e. plain (x e))
  unfolding plain
  plain_reaches o = reaches_bind (onL o (b.operand at.Whole false)) (λ y. pureL (E.as_plain y)) (b.expr_reaches o)

  pub named_rest_laws : (t : Token) → Laws on d false true G.ASSIGN (more_at at.Whole) (λ e. named_rest (x e) t)
  unfolding named_rest
  named_rest_laws t = bindL (tokL (is_in false G.ASSIGN refl)) (λ _. bindL (b.operand at.Whole false) (λ y. pureL (E.as_named t y)) refl) refl

  named_rest_shape : (t : Token) → Shape false G.ASSIGN (λ e. named_rest (x e) t)
  unfolding named_rest
  named_rest_shape t = bindS _ (tokS G.ASSIGN)

  named_or_plain_laws : Laws on d false true G.FIRST_EXPR (kinds (Symbol symbol.Assign ∷ expr_more)) (λ e. named_or_plain (x e))
  unfolding named_or_plain named
  named_or_plain_laws = as_listed G.FIRST_EXPR (kinds (Symbol symbol.Assign ∷ expr_more)) (choose_pairL (is_in false G.NAME refl) named_rest_laws plain_laws (λ _. avoids_less plain_not_named refl) refl) refl refl refl

  named_or_plain_not_out : Avoids G.NAME G.ARROW (λ e. named_or_plain (x e))
  unfolding named_or_plain named
  named_or_plain_not_out = avoids_choose_two G.NAME G.ASSIGN (avoids_then (tokS G.NAME) named_rest_shape (avoids_tok G.NAME) refl) (avoids_less plain_not_named refl)

  pub out_rest_laws : (negate : Bool) (t : Token) → Laws on d false true G.ARROW more_path (λ e. out_rest (x e) negate t)
  unfolding out_rest
  out_rest_laws negate t = bindL (tokL (is_in false G.ARROW refl)) (λ _. bindL b.path (λ p. pureL (E.as_out negate t p)) refl) refl

  out_or_in_laws : Laws on d false true G.FIRST_EXPR (kinds (Symbol symbol.Assign ∷ Symbol symbol.Arrow ∷ expr_more)) (λ e. out_or_in (x e))
  unfolding out_or_in out
  out_or_in_laws = as_listed G.FIRST_EXPR (kinds (Symbol symbol.Assign ∷ Symbol symbol.Arrow ∷ expr_more)) (choose_pairL (is_in false G.NAME refl) (out_rest_laws false) named_or_plain_laws (λ _. named_or_plain_not_out) refl) refl refl refl

  out_or_in_not_out : Avoids_three G.NOT G.NAME G.ARROW (λ e. out_or_in (x e))
  unfolding out_or_in out named_or_plain named
  out_or_in_not_out = three_choose_two G.NAME G.ARROW (three_first (bindS _ (tokS G.NAME)) refl) (three_choose_two G.NAME G.ASSIGN (three_first (bindS _ (tokS G.NAME)) refl) (three_less plain_not_out refl))

  out_or_in_reaches : on ≡ true → Reaches G.NOT G.NAME d (λ e. out_or_in (x e))
  unfolding out_or_in named_or_plain
  out_or_in_reaches o = reaches_past_two G.NAME G.ARROW refl (reaches_past_two G.NAME G.ASSIGN refl (plain_reaches o))

  pub arg_laws : Laws on d false true G.FIRST_EXPR (kinds arg_sorts) (λ e. arg (x e))
  unfolding arg not_out
  arg_laws = as_listed G.FIRST_EXPR (kinds arg_sorts)
      (choose_threeL (is_in false G.NOT refl) (is_in false G.NAME refl) (λ _ t. out_rest_laws true t) out_or_in_laws out_or_in_reaches (λ _. out_or_in_not_out) refl) refl refl refl

  next_arg_laws : (l : Tall (List Arg)) → Laws on d false true G.COMMA (kinds arg_sorts) (λ e. next_arg (x e) l)
  unfolding next_arg
  next_arg_laws l = bindL (tokL (is_in false G.COMMA refl)) (λ _. bindL arg_laws (λ y. pureL (E.add_arg l y)) refl) refl

  pub args_laws : Laws on d false true G.FIRST_EXPR (kinds args_sorts) (λ e. args (x e))
  unfolding args
  args_laws = as_listed G.FIRST_EXPR (kinds args_sorts) (bindL arg_laws (λ a. manyL (E.add_arg ([], 0) a) next_arg_laws refl) refl) refl refl refl

  pub args_if_any_laws : Laws on d true true G.FIRST_EXPR (kinds any_sorts) (λ e. args_if_any (x e))
  unfolding args_if_any
  args_if_any_laws = as_listed G.FIRST_EXPR (kinds any_sorts) (chooseL args_laws (pureL ([], 0)) refl) refl refl refl

  -- ---- operands

  module _ (line : Bool) where
    pub call_rest_laws : Laws on d false true first_call [] (λ e. call_rest line (x e))
    unfolding call_rest
    call_rest_laws = as_listed first_call []
        (bind_anyL (seenL (matches line expr_sorts) (matches line any_sorts) args_if_any_laws) (λ l. bindL (tokL (is_in line G.RPAREN refl)) (λ _. pureL _) refl) refl) refl refl refl

    pub call_laws : (t : Token) → Laws on d false true first_call [] (λ e. call line (x e) t)
    unfolding call
    call_laws t = bindL call_rest_laws (λ l. pureL _) refl

    pub paren_laws : (t : Token) → Laws on d false true G.FIRST_EXPR [] (λ e. paren_rest line (x e) t)
    unfolding paren_rest
    paren_laws t = bindL (b.operand at.Whole line) (λ a. bindL (tokL (is_in line G.RPAREN refl)) (λ _. pureL _) refl) refl

    -- a path or the value of an enumeration, whose first token is of the sorts
    named_operand_laws : {ks : List Seen} → Known (sort_in line) ks → subset rank ks ks ≡ true → Laws true d false true (ks ++ ks) ((([] ++ []) ++ []) ++ (more_path ++ G.HASH)) (λ e. named_operand ks line e (x e))
    unfolding named_operand value
    named_operand_laws {ks} k h = choose_pairL k (value_rest_laws d line) (variable_laws line k) (λ _. variable_avoids x line ks ks G.HASH refl) h

    called_or_named_laws : Laws true d false true G.NAME (kinds other_more) (λ e. called_or_named line e (x e))
    unfolding called_or_named
    called_or_named_laws = as_listed G.NAME (kinds other_more)
        (choose_callL 0 (is_in line G.NAME refl) (is_in line G.LPAREN refl) call_laws (named_operand_laws (is_in line G.NAME refl) refl) (λ _. named_operand_avoids x line G.NAME G.LPAREN refl refl) refl) refl refl refl

    pub other_laws : Laws true d false true (first_at at.Other) (more_at at.Other) (λ e. other line e (x e))
    unfolding other
    other_laws = as_listed (first_at at.Other) (more_at at.Other)
        (chooseL (number_laws d line (is_in line G.TYPED refl))
        (chooseL (truth_laws d line (is_in line G.TRUTH refl))
        (chooseL (span_laws d line (is_in line G.SPAN refl))
        (chooseL (opensL 0 (is_in line G.LPAREN refl) paren_laws)
        (chooseL (opensL 0 (is_in line G.OPERATION refl) (λ t. bindL (tokL (is_in line G.LPAREN refl)) (λ _. call_laws t) refl))
        called_or_named_laws refl) refl) refl) refl) refl) refl refl refl

    pub primary_laws : Laws true d false true (first_at at.Primary) (more_at at.Primary) (λ e. primary line e (x e))
    unfolding primary
    primary_laws = as_listed (first_at at.Primary) (more_at at.Primary) (chooseL (number_laws d line (is_in line G.INTEGER refl)) other_laws refl) refl refl refl

    pub operand_laws : Laws true d false true G.FIRST_OPERAND more_operand (λ e. operand line e (x e))
    unfolding operand
    operand_laws = as_listed G.FIRST_OPERAND more_operand
        (chooseL (negative_laws d line (is_in line G.FIRST_MINUS refl))
        (chooseL (number_laws d line (is_in line G.FIRST_NUMBER refl))
        (chooseL (truth_laws d line (is_in line G.FIRST_TRUTH refl))
        (chooseL (span_laws d line (is_in line G.FIRST_SPAN refl))
        (named_operand_laws (is_in line G.FIRST_NAME refl) refl) refl) refl) refl) refl) refl refl refl

    -- ---- operators

    pub signed_laws : (op : UnOp) (t : Token) → Laws on d false true (first_at (under_sign op)) (more_at (under_sign op)) (λ e. signed op line (x e) t)
    unfolding signed
    signed_laws op t = bindL (b.operand (under_sign op) line) (λ a. pureL _) (apart_none (more_at (under_sign op)))

    signed_shape : (op : UnOp) (t : Token) → Shape false (first_at (under_sign op)) (λ e. signed op line (x e) t)
    unfolding signed
    signed_shape op t = bindS _ (b.shape (under_sign op) line)

    pub unary_laws : Laws true d false true (first_at at.Unary) (more_at at.Unary) (λ e. unary line e (x e))
    unfolding unary negative
    unary_laws = as_listed (first_at at.Unary) (more_at at.Unary)
        (choose_pairL (is_in line G.MINUS refl) (negative_rest_laws d line)
        (chooseL (opensL 0 (is_in line G.MINUS refl) (signed_laws sign.Minus)) (chooseL (opensL 0 (is_in line G.NOT refl) (signed_laws sign.Not)) primary_laws refl) refl)
        (λ _. avoids_choose G.MINUS (avoids_node G.MINUS (signed_shape sign.Minus) refl) (avoids_choose G.NOT (avoids_opens G.NOT refl) (avoids_first primary_laws refl))) refl) refl refl refl

    side_rest_laws : (level : Level) (l : Tall Expr) (t : Token) → Laws on d false true (first_at (side_of level)) (more_at (side_of level)) (λ e. side_rest level line (x e) l t)
    unfolding side_rest
    side_rest_laws level l t = bindL (b.operand (side_of level) line) (λ a. pureL _) (apart_none (more_at (side_of level)))

    next_side_laws : (level : Level) (k : Known (sort_in line) (joining level)) (l : Tall Expr) → Laws true d false false (joining level) (more_at (side_of level)) (λ e. next_side level line e (x e) l)
    unfolding next_side
    next_side_laws level k l = opensL l.1 k (side_rest_laws level l)

    innermost_laws : (level : Level) → levels_in level ≡ 0 → Laws true d false true (first_at level) (more_at level) (λ e. innermost level line e (x e))
    innermost_laws at.Unary _ = unary_laws
    innermost_laws at.Primary _ = primary_laws
    innermost_laws at.Other _ = other_laws
    innermost_laws _ h = absurd (omega (arith, h))

    -- a level with so many levels of operators: its sides and the operators between them
    layered_laws : (k : ℕ) (level : Level) → levels_in level ≡ k → Laws true d false true (first_at level) (more_at level) (λ e. layered k level line e (x e))
    unfolding layered
    layered_laws zero level h = innermost_laws level h
    layered_laws (suc k) level h = as_listed (first_at level) (more_at level)
        (bindL (layered_laws k (side_of level) (one_fewer level k h)) (λ a. manyL a (next_side_laws level (known_at line level k h)) (side_ends level)) (side_ends level))
        (side_begins level) (begins_side level) (side_more level)

    pub standing_laws : (level : Level) → Laws true d false true (first_at level) (more_at level) (λ e. standing level line e (x e))
    standing_laws level = layered_laws (levels_in level) level refl

  -- ---- at NOT and a name the descent goes past the name

  unary_reaches : Reaches G.NOT G.NAME d (λ e. unary false e (x e))
  unfolding unary
  unary_reaches = reaches_past_two G.MINUS G.INTEGER refl (reaches_past G.MINUS refl (reaches_here G.NOT refl (reaches_node 0 G.NOT refl (signed_laws false sign.Not) refl)))

  innermost_reaches : (level : Level) → subset rank G.NOT (first_at level) ≡ true → Reaches G.NOT G.NAME d (λ e. innermost level false e (x e))
  innermost_reaches at.Primary h = absurd (let i : false ≡ true = h in cc)
  innermost_reaches at.Other h = absurd (let i : false ≡ true = h in cc)
  innermost_reaches _ _ = unary_reaches

  -- where NOT may begin
  layered_reaches : (k : ℕ) (level : Level) → levels_in level ≡ k → subset rank G.NOT (first_at level) ≡ true → Reaches G.NOT G.NAME d (λ e. layered k level false e (x e))
  unfolding layered
  layered_reaches zero level h i = innermost_reaches level i
  layered_reaches (suc k) level h i = reaches_bind (layered_laws false k (side_of level) (one_fewer level k h)) (λ a. manyL a (next_side_laws false level (known_at false level k h)) (side_ends level))
      (layered_reaches k (side_of level) (one_fewer level k h) (subst (λ fs. subset rank G.NOT fs ≡ true) (sym (as_side level)) i))

  pub expr_reaches : Reaches G.NOT G.NAME d (λ e. expr false e (x e))
  expr_reaches = layered_reaches 7 at.Whole refl refl
