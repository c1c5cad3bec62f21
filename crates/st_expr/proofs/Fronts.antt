-- What expressions begin with, and what they don't, at every number of nodes.
use Rattle.std.proofs.Common.{◌≡◌, ℕ, zero, suc, Bool, true, false, List, [], ◌++◌, refl, subst}
use Rattle.plc_tokens.specs.declared.token.Token.{Token}
use Rattle.plc_tree.specs.declared.tree.Part.{Part}
use Rattle.plc_tree.specs.declared.tree.Expr.{Expr}
use Rattle.plc_tree.specs.declared.tree.UnOp.TheVariants as sign
use Rattle.plc_tokens.specs.Sorts.{rank}
use Rattle.plc_tokens.specs.Sets as G
use Rattle.phrase.proofs.Basics.{disjoint}
use Rattle.phrase.proofs.Rules.{Shape, shaped, tokS, pureS, opensS, bindS, bind_anyS, chooseS, choose_twoS, manyS, Avoids, avoids_tok, avoids_then, avoids_firstS, avoids_choose, avoids_choose_two, avoids_opens, avoids_opens_two, Avoids_three, three_then, three_first, three_choose, three_choose_two, three_node}
use Rattle.st_expr.specs.declared.level.Level.{Level}
use Rattle.st_expr.specs.declared.level.Level.TheVariants as at
use Rattle.st_expr.specs.Nested.{Tall, Deep}
use Rattle.st_expr.specs.Expressions.{number, truth, span, negative, field, part, path, value, value_rest, variable, named_operand, called_or_named, other, primary, signed, unary, joining, side_of, levels_in, next_side, innermost, layered, standing}
use Rattle.st_expr.proofs.Below.{first_at}
use Rattle.st_expr.proofs.Levels.{as_side, no_name, no_sign}
use Rattle.plc_tokens.specs.declared.sort.Seen.{Seen}

module _ (x : ℕ → Deep) (line : Bool) where
  number_shape : (ks : List Seen) → Shape false ks (λ _. number ks line)
  unfolding number
  number_shape ks = bindS _ (tokS ks)

  truth_shape : (ks : List Seen) → Shape false ks (λ _. truth ks line)
  unfolding truth
  truth_shape ks = bindS _ (tokS ks)

  span_shape : (ks : List Seen) → Shape false ks (λ _. span ks line)
  unfolding span
  span_shape ks = bindS _ (tokS ks)

  negative_shape : (ks : List Seen) → Shape false ks (λ _. negative ks line)
  unfolding negative
  negative_shape ks = bindS _ (tokS ks)

  part_shape : (p : Tall (List Part)) → Shape false G.PARTS (λ e. part line e (x e) p)
  unfolding part field
  part_shape p = chooseS (opensS G.LBRACKET) (bindS _ (tokS G.DOT))

  pub path_shape : (ks : List Seen) → Shape false ks (λ e. path ks line e (x e))
  unfolding path
  path_shape ks = bindS _ (tokS ks)

  -- a path's second token begins a part
  pub path_avoids : (ks ms js : List Seen) → disjoint rank (G.PARTS ++ []) js ≡ true → Avoids ms js (λ e. path ks line e (x e))
  unfolding path
  path_avoids ks ms js h = avoids_then (tokS ks) (λ t. bind_anyS (manyS ([], 0) part_shape) (λ p. pureS _)) (avoids_tok ks) h

  variable_shape : (ks : List Seen) → Shape false ks (λ e. variable ks line e (x e))
  unfolding variable
  variable_shape ks = bindS _ (path_shape ks)

  pub variable_avoids : (ks ms js : List Seen) → disjoint rank (G.PARTS ++ []) js ≡ true → Avoids ms js (λ e. variable ks line e (x e))
  unfolding variable
  variable_avoids ks ms js h = avoids_then (path_shape ks) (λ p. pureS _) (path_avoids ks ms js h) refl

  value_shape : (ks : List Seen) → Shape false ks (λ _. value ks line)
  unfolding value
  value_shape ks = bindS _ (tokS ks)

  value_avoids : (ks ms js : List Seen) → disjoint rank G.HASH js ≡ true → Avoids ms js (λ _. value ks line)
  unfolding value value_rest
  value_avoids ks ms js h = avoids_then (tokS ks) (λ t. bindS _ (tokS G.HASH)) (avoids_tok ks) h

  named_operand_shape : Shape false (G.NAME ++ G.NAME) (λ e. named_operand G.NAME line e (x e))
  unfolding named_operand
  named_operand_shape = choose_twoS G.NAME G.HASH (value_shape G.NAME) (variable_shape G.NAME)

  pub named_operand_avoids : (ms js : List Seen) → disjoint rank G.HASH js ≡ true → disjoint rank (G.PARTS ++ []) js ≡ true → Avoids ms js (λ e. named_operand G.NAME line e (x e))
  unfolding named_operand
  named_operand_avoids ms js h i = avoids_choose_two G.NAME G.HASH (value_avoids G.NAME ms js h) (variable_avoids G.NAME ms js i)

  called_or_named_shape : Shape false G.NAME (λ e. called_or_named line e (x e))
  unfolding called_or_named
  called_or_named_shape = shaped G.NAME (choose_twoS G.NAME G.LPAREN (opensS G.NAME) named_operand_shape) refl

  other_shape : Shape false (first_at at.Other) (λ e. other line e (x e))
  unfolding other
  other_shape = chooseS (number_shape G.TYPED) (chooseS (truth_shape G.TRUTH) (chooseS (span_shape G.SPAN) (chooseS (opensS G.LPAREN) (chooseS (opensS G.OPERATION) called_or_named_shape))))

  primary_shape : Shape false (first_at at.Primary) (λ e. primary line e (x e))
  unfolding primary
  primary_shape = chooseS (number_shape G.INTEGER) other_shape

  unary_shape : Shape false (first_at at.Unary) (λ e. unary line e (x e))
  unfolding unary
  unary_shape = shaped (first_at at.Unary) (choose_twoS G.MINUS G.INTEGER (negative_shape G.MINUS) (chooseS (opensS G.MINUS) (chooseS (opensS G.NOT) primary_shape))) refl

  next_side_shape : (level : Level) (l : Tall Expr) → Shape false (joining level) (λ e. next_side level line e (x e) l)
  unfolding next_side
  next_side_shape level l = opensS (joining level)

  innermost_shape : (level : Level) → Shape false (first_at level) (λ e. innermost level line e (x e))
  innermost_shape at.Primary = primary_shape
  innermost_shape at.Other = other_shape
  innermost_shape _ = unary_shape

  layered_shape : (k : ℕ) (level : Level) → Shape false (first_at level) (λ e. layered k level line e (x e))
  unfolding layered
  layered_shape zero level = innermost_shape level
  layered_shape (suc k) level = subst (λ fs. Shape false fs (λ e. layered (suc k) level line e (x e))) (as_side level) (bindS _ (layered_shape k (side_of level)))

  pub standing_shape : (level : Level) → Shape false (first_at level) (λ e. standing level line e (x e))
  standing_shape level = layered_shape (levels_in level) level

-- ---- no expression begins as an argument that is named, or as an output behind NOT

module _ (x : ℕ → Deep) where
  other_not_named : Avoids G.NAME G.NAMED (λ e. other false e (x e))
  unfolding other called_or_named
  other_not_named =
      avoids_choose G.TYPED (avoids_firstS (number_shape x false G.TYPED) refl)
      (avoids_choose G.TRUTH (avoids_firstS (truth_shape x false G.TRUTH) refl)
      (avoids_choose G.SPAN (avoids_firstS (span_shape x false G.SPAN) refl)
      (avoids_choose G.LPAREN (avoids_opens G.LPAREN refl)
      (avoids_choose G.OPERATION (avoids_opens G.OPERATION refl)
      (avoids_choose_two G.NAME G.LPAREN (avoids_opens_two G.NAME G.LPAREN refl) (named_operand_avoids x false G.NAME G.NAMED refl refl))))))

  pub primary_not_named : Avoids G.NAME G.NAMED (λ e. primary false e (x e))
  unfolding primary
  primary_not_named = avoids_choose G.INTEGER (avoids_firstS (number_shape x false G.INTEGER) refl) other_not_named

  unary_not_named : Avoids G.NAME G.NAMED (λ e. unary false e (x e))
  unfolding unary
  unary_not_named = avoids_choose_two G.MINUS G.INTEGER (avoids_firstS (negative_shape x false G.MINUS) refl)
      (avoids_choose G.MINUS (avoids_opens G.MINUS refl) (avoids_choose G.NOT (avoids_opens G.NOT refl) primary_not_named))

  innermost_not_named : (level : Level) → Avoids G.NAME G.NAMED (λ e. innermost level false e (x e))
  innermost_not_named at.Primary = primary_not_named
  innermost_not_named at.Other = other_not_named
  innermost_not_named _ = unary_not_named

  layered_not_named : (k : ℕ) (level : Level) → Avoids G.NAME G.NAMED (λ e. layered k level false e (x e))
  unfolding layered
  layered_not_named zero level = innermost_not_named level
  layered_not_named (suc k) level = avoids_then (layered_shape x false k (side_of level)) (λ a. manyS a (next_side_shape x false level)) (layered_not_named k (side_of level)) (no_sign level)

  pub standing_not_named : (level : Level) → Avoids G.NAME G.NAMED (λ e. standing level false e (x e))
  standing_not_named level = layered_not_named (levels_in level) level

module _ (x : ℕ → Deep) (ps : Shape false (first_at at.Primary) (λ e. (x e).operand at.Primary false)) (pa : Avoids G.NAME G.NAMED (λ e. (x e).operand at.Primary false)) where
  signed_not_named : (t : Token) → Avoids G.NAME G.NAMED (λ e. signed sign.Not false (x e) t)
  unfolding signed
  signed_not_named t = avoids_then ps (λ a. pureS _) pa refl

  unary_not_out : Avoids_three G.NOT G.NAME G.NAMED (λ e. unary false e (x e))
  unfolding unary
  unary_not_out = three_choose_two G.MINUS G.INTEGER (three_first (negative_shape x false G.MINUS) refl)
      (three_choose G.MINUS (three_first (opensS G.MINUS) refl) (three_choose G.NOT (three_node G.NOT signed_not_named) (three_first (primary_shape x false) refl)))

  innermost_not_out : (level : Level) → Avoids_three G.NOT G.NAME G.NAMED (λ e. innermost level false e (x e))
  innermost_not_out at.Primary = three_first (primary_shape x false) refl
  innermost_not_out at.Other = three_first (other_shape x false) refl
  innermost_not_out _ = unary_not_out

  layered_not_out : (k : ℕ) (level : Level) → Avoids_three G.NOT G.NAME G.NAMED (λ e. layered k level false e (x e))
  unfolding layered
  layered_not_out zero level = innermost_not_out level
  layered_not_out (suc k) level = three_then (layered_shape x false k (side_of level)) (λ a. manyS a (next_side_shape x false level)) (layered_not_out k (side_of level)) (no_name level) (no_sign level)

  pub standing_not_out : (level : Level) → Avoids_three G.NOT G.NAME G.NAMED (λ e. standing level false e (x e))
  standing_not_out level = layered_not_out (levels_in level) level
