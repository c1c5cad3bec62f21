-- The laws of whole numbers, and that no token of theirs ends a list or is left out.
use Rattle.std.proofs.Common.{ℕ, Bool, true, false, [], refl}
use Rattle.plc_tokens.specs.Sets as G
use Rattle.plc_tokens.proofs.Known.{is_in}
use Rattle.plc_tokens.proofs.Lacks.{Lacks, lacks_pure, lacks_tok, lacks_bind, lacks_choose}
use Rattle.phrase.proofs.Rules.{Laws, pureL, tokL, bindL, chooseL}
use Rattle.st_expr.specs.Integers.{whole, minus_whole, sint}

module _ (d : ℕ) (on : Bool) where
  pub whole_laws : Laws on d false true G.INTEGER [] (λ _. whole)
  unfolding whole
  whole_laws = bindL (tokL (is_in false G.INTEGER refl)) (λ t. pureL _) refl

  minus_whole_laws : Laws on d false true G.MINUS [] (λ _. minus_whole)
  unfolding minus_whole
  minus_whole_laws = bindL (tokL (is_in false G.MINUS refl)) (λ t. bindL (tokL (is_in false G.INTEGER refl)) (λ u. pureL _) refl) refl

  pub sint_laws : Laws on d false true G.SIGNED [] (λ _. sint)
  unfolding sint
  sint_laws = chooseL minus_whole_laws whole_laws refl

pub whole_lacks : Lacks whole
unfolding whole
whole_lacks = lacks_bind (lacks_tok false G.INTEGER refl) (λ _. lacks_pure _)

pub sint_lacks : Lacks sint
unfolding sint minus_whole
sint_lacks = lacks_choose G.MINUS (lacks_bind (lacks_tok false G.MINUS refl) (λ _. lacks_bind (lacks_tok false G.INTEGER refl) (λ _. lacks_pure _))) whole_lacks
