-- The laws of each phrase at each number of nodes, by one induction on that number.
use Rattle.std.proofs.Common.{◌≡◌, ℕ, zero, suc, Bool, true, false, nat_le, [], ◌∷◌, refl, sym, subst, inl, inr, arith}
use Rattle.std.proofs.lemmas.Grind.{common_steps}
use Rattle.plc_tokens.specs.declared.token.Token.{Token}
use Rattle.plc_tree.specs.declared.tree.Expr.{Expr}
use Rattle.plc_tree.specs.declared.tree.Expr.TheVariants as e
use Rattle.plc_tokens.specs.Sorts.{rank, sort_in, kinds, truth_of}
use Rattle.plc_tokens.specs.Sets as G
use Rattle.plc_tokens.proofs.Known.{is_in, plain_of}
use Rattle.phrase.specs.Piece.{has, Law}
use Rattle.phrase.proofs.Basics.{not_both}
use Rattle.phrase.proofs.Rules.{Shape, underS, Laws, under, Avoids, under_avoids, Avoids_three, under_three, Reaches, under_reaches}
use Rattle.phrase.proofs.Under.{is_under, shut, lifted}
use Rattle.phrase.proofs.Views.{up_law}
use Rattle.st_expr.specs.declared.level.Level.{Level}
use Rattle.st_expr.specs.declared.level.Level.TheVariants as at
use Rattle.st_expr.specs.Nested.{Tall}
use Rattle.st_expr.specs.Expressions.{path, path_of, truth, other, primary, unary, side_of, levels_in, innermost, layered, standing}
use Rattle.st_expr.specs.Depth.{deep, Expressions, Arguments, Paths, Operands}
use Rattle.st_expr.proofs.Below.{more_operand, Below, first_at, more_at, more_path}
use Rattle.st_expr.proofs.Fronts.{standing_shape, standing_not_named, standing_not_out}
use Rattle.st_expr.proofs.ExpressionLaws.{args_sorts, path_laws, args_laws, operand_laws, expr_reaches, standing_laws}

-- ---- what stands under a node is what stood with fewer

under_operand : (level : Level) (line : Bool) → under (λ n. standing level line n (deep n)) ≡ (λ n. (deep n).operand level line)
unfolding deep
under_operand level line = is_under (λ n. (deep n).operand level line) (λ n. standing level line n (deep n)) refl (λ n. refl)

under_path : under (λ n. path G.NAME false n (deep n)) ≡ (λ n. (deep n).path)
unfolding deep
under_path = is_under (λ n. (deep n).path) (λ n. path G.NAME false n (deep n)) refl (λ n. refl)

-- ---- a small phrase of each

abbrev yes : Token
yes = plain_of G.TRUTH

is_truth : (line : Bool) → has rank ((sort_in line).of yes) G.TRUTH ≡ true
is_truth true = refl
is_truth false = refl

abbrev as_tree : Tall Expr
as_tree = (e.Truth (truth_of yes.kind) yes.place, 0)

module _ (line : Bool) where
  one_other : (other line 0 (deep 0)).lang (yes ∷ []) as_tree
  unfolding other truth
  one_other = inr (inl (yes, yes ∷ [], [], refl, (refl, is_truth line), (refl, refl)))

  one_primary : (primary line 0 (deep 0)).lang (yes ∷ []) as_tree
  unfolding primary
  one_primary = inr one_other

  one_unary : (unary line 0 (deep 0)).lang (yes ∷ []) as_tree
  unfolding unary
  one_unary = inr (inr (inr one_primary))

  one_innermost : (level : Level) → (innermost level line 0 (deep 0)).lang (yes ∷ []) as_tree
  one_innermost at.Primary = one_primary
  one_innermost at.Other = one_other
  one_innermost _ = one_unary

  one_layered : (k : ℕ) (level : Level) → (layered k level line 0 (deep 0)).lang (yes ∷ []) as_tree
  unfolding layered
  one_layered zero level = one_innermost level
  one_layered (suc k) level = (as_tree, yes ∷ [], [], refl, one_layered k (side_of level), (0, (refl, refl)))

abbrev a_name : Token
a_name = plain_of G.NAME

one_path : (path G.NAME false 0 (deep 0)).lang (a_name ∷ []) (path_of a_name ([], 0))
unfolding path
one_path = (a_name, a_name ∷ [], [], refl, (refl, refl), (([], 0), [], [], refl, (0, (refl, refl)), (refl, refl)))

-- ---- the knot

deep_shape : (level : Level) (line : Bool) → Shape false (first_at level) (λ e. (deep e).operand level line)
deep_shape level line = subst (Shape false (first_at level)) (under_operand level line) (underS (standing_shape deep line level))

deep_not_named : (level : Level) → Avoids G.NAME G.NAMED (λ e. (deep e).operand level false)
deep_not_named level = subst (Avoids G.NAME G.NAMED) (under_operand level false) (under_avoids (λ n. standing level false n (deep n)) (standing_not_named deep level))

deep_not_out : Avoids_three G.NOT G.NAME G.NAMED (λ e. (deep e).operand at.Whole false)
deep_not_out = subst (Avoids_three G.NOT G.NAME G.NAMED) (under_operand at.Whole false) (under_three (standing_not_out deep (deep_shape at.Primary false) (deep_not_named at.Primary) at.Whole))

name_path : (d : ℕ) → Below (nat_le 1 d) d deep → Laws true d false true G.NAME more_path (λ e. path G.NAME false e (deep e))
name_path d b = path_laws d deep b false (is_in false G.NAME refl)

pub below : (d : ℕ) → Below (nat_le 1 d) d deep
below zero = record {
  operand = λ level line. shut (λ n. (deep n).operand level line) (λ n. standing level line n (deep n)) (under_operand level line) 0 (yes ∷ []) as_tree (one_layered line (levels_in level) level);
  path = shut (λ n. (deep n).path) (λ n. path G.NAME false n (deep n)) under_path 0 (a_name ∷ []) _ one_path;
  shape = deep_shape;
  expr_not_named = deep_not_named at.Whole;
  expr_not_out = deep_not_out;
  expr_reaches = λ o. not_both refl (sym o);
}
below (suc d) = record {
  operand = λ level line. lifted (λ n. (deep n).operand level line) (λ n. standing level line n (deep n)) (under_operand level line) (standing_laws d deep (below d) line level);
  path = lifted (λ n. (deep n).path) (λ n. path G.NAME false n (deep n)) under_path (name_path d (below d));
  shape = deep_shape;
  expr_not_named = deep_not_named at.Whole;
  expr_not_out = deep_not_out;
  expr_reaches = λ _. subst (Reaches G.NOT G.NAME (suc d)) (under_operand at.Whole false) (under_reaches (expr_reaches d deep (below d)));
}

-- ---- the laws of what is parsed

pub one_fits : (d : ℕ) → nat_le 1 (suc d) ≡ true
one_fits d = grind (arith, common_steps)

pub expr_law : (d : ℕ) → Law d false true G.FIRST_EXPR (more_at at.Whole) Expressions
expr_law d = (standing_laws d deep (below d) false at.Whole).law refl

pub args_law : (d : ℕ) → Law d false true G.FIRST_EXPR (kinds args_sorts) Arguments
args_law d = up_law ((args_laws (suc d) deep (below (suc d))).law (one_fits d))

pub path_law : (line : Bool) (d : ℕ) → Law d false true G.FIRST_NAME more_path (Paths line)
path_law line d = (path_laws d deep (below d) line (is_in line G.FIRST_NAME refl)).law refl

pub operand_law : (line : Bool) (d : ℕ) → Law d false true G.FIRST_OPERAND more_operand (Operands line)
operand_law line d = (operand_laws d deep (below d) line).law refl
