-- What is answered of a source, by what both walks met.
use Rattle.std.proofs.Common.{◌≡◌, refl, sym, ap, subst, ◌∙◌, ℕ, List, [], ◌++◌, Option, Some, None, Result, Ok, Err}
use Rattle.plc_base.specs.declared.refusal.Place.{Place}
use Rattle.plc_base.specs.declared.refusal.Refusal.{Refusal}
use Rattle.plc_base.specs.declared.refusal.Stop.{Stop}
use Rattle.plc_base.specs.declared.refusal.Stop.TheVariants.{Refused}
use Rattle.plc_base.specs.Least.{Meets, judged, least, sooner}
use Rattle.plc_base.proofs.LeastLaws.{meets_then, none_is_nil}
use Rattle.plc_tree.specs.declared.tree.Unit.{Unit as Source}
use Rattle.plc_typing.specs.Uses.{words, names, names_faults, other_faults, faults, broken, Numbered}
use Rattle.plc_typing.specs.UsesOfParts.{Declares}
use Rattle.plc_typing.proofs.Faults.{none_of_both}

judged_ok : (x : Option Refusal) → judged x ≡ Ok tt → x ≡ None
judged_ok None e = refl
judged_ok (Some r) e = absurd (let same : Err (Refused r) ≡ Ok tt = e in cc)

module _ (end : Place) (u : Source) (w a : List (List ℕ)) (m n o : Option Refusal) (no_word : w ≡ []) (nothing : m ≡ None)
    (declares : Declares (names u) w a m n) (others : Meets (other_faults end u) n o) where
  met_all : o ≡ broken end u
  met_all =
      meets_then (names_faults w (names u)) (other_faults end u) m n o declares.least others
      ∙ (λ i. sooner (nothing i) (least (names_faults (no_word i) (names u) ++ other_faults end u)))

  -- no rule is broken
  pub unbroken : (r : Result (Unit {0}) Stop) → r ≡ judged o → r ≡ Ok tt → (faults end u ≡ []) × (a ≡ words (names u))
  unbroken r e f =
      let none : faults end u ≡ [] = none_is_nil (faults end u) (sym met_all ∙ judged_ok o (sym e ∙ f)) in
      (none, declares.behind (ap (λ ws. names_faults ws (names u)) no_word ∙ (none_of_both (names_faults [] (names u)) (other_faults end u) none).0) ∙ ap (λ ws. ws ++ words (names u)) no_word)

  -- one is
  pub refused : (r : Result (Unit {0}) Stop) (why : Stop) → r ≡ judged o → r ≡ Err why → Numbered end u (Err why)
  refused r why e f = by o met_all (sym e ∙ f)
    where
      by : (x : Option Refusal) → x ≡ broken end u → judged x ≡ Err why → Numbered end u (Err why)
      by None is j = absurd cc
      by (Some first) is j = let same : Refused first ≡ why = cc in subst (λ s. Numbered end u (Err s)) same (sym is)
