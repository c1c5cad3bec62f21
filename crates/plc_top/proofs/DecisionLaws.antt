-- What the decision is known by.
use Rattle.std.proofs.Common.{◌≡◌, ◌⊎◌, refl, ℕ, List, [], sym, ap, ◌∙◌, inl, inr, Option, Some, None}
use Rattle.plc_base.specs.Least.{least}
use Rattle.plc_base.specs.declared.refusal.Place.{Place}
use Rattle.plc_base.specs.declared.refusal.Refusal.{Refusal}
use Rattle.plc_tokens.specs.declared.token.Token.{Token}
use Rattle.plc_tree.specs.declared.tree.Unit.{Unit as Source}
use Rattle.decl_parse.specs.Parsed.{IsAccepted as IsSpelled, IsRefused as IsUnspelled}
use Rattle.decl_parse.proofs.Front as parsed
use Rattle.c_tree.specs.declared.text.CText.{CText}
use Rattle.plc_typing.specs.Uses.{faults, broken}
use Rattle.plc_base.proofs.LeastLaws.{none_is_nil}
use Rattle.plc_top.proofs.Accepted.{closed}
use Rattle.plc_top.specs.Decision.{end_of, IsUnitOf, HasBrokenUse, IsRefusedFor, source_tokens, IsAccepted, IsRefused, IsCompiled}

-- ---- of tokens

broken_not : (end : Place) (u v : Source) (why : Refusal) → u ≡ v → faults end u ≡ [] → broken end v ≡ Some why → ⊥
broken_not end u v why e f g = let x : None ≡ Some why = sym (ap least f) ∙ ap (broken end) e ∙ g in absurd cc

not_both : (tokens : List Token) (tree : Source) (why : Refusal) → IsUnitOf tokens tree → IsRefusedFor tokens why → ⊥
not_both tokens tree why h (inl k) = parsed.accepted_not_refused tokens tree why h.spelled k
not_both tokens tree why h (inr k) = broken_not (end_of tokens) tree k.tree why (parsed.one_accepted tokens tree k.tree h.spelled k.spelled) h.unbroken k.least

same_least : (end : Place) (u v : Source) (p q : Refusal) → u ≡ v → broken end u ≡ Some p → broken end v ≡ Some q → p ≡ q
same_least end u v p q e f g = let x : Some p ≡ Some q = sym f ∙ ap (broken end) e ∙ g in cc

-- two least broken uses of the same tokens are one
one_broken : (tokens : List Token) (why other : Refusal) → HasBrokenUse tokens why → HasBrokenUse tokens other → why ≡ other
one_broken tokens why other h k = same_least (end_of tokens) h.tree k.tree why other (parsed.one_accepted tokens h.tree k.tree h.spelled k.spelled) h.least k.least

one_why : (tokens : List Token) (why other : Refusal) → IsRefusedFor tokens why → IsRefusedFor tokens other → why ≡ other
one_why tokens why other (inl h) (inl k) = parsed.one_refusal tokens why other h k
one_why tokens why other (inl h) (inr k) = absurd (parsed.accepted_not_refused tokens k.tree why k.spelled h)
one_why tokens why other (inr h) (inl k) = absurd (parsed.accepted_not_refused tokens h.tree other h.spelled k)
one_why tokens why other (inr h) (inr k) = one_broken tokens why other h k

either : (tokens : List Token) → ((tree : Source) × IsSpelled tokens tree) ⊎ ((why : Refusal) × IsUnspelled tokens why) → ((tree : Source) × IsUnitOf tokens tree) ⊎ ((why : Refusal) × IsRefusedFor tokens why)
either tokens (inr (why, h)) = inr (why, inl h)
either tokens (inl (tree, h)) = by (broken (end_of tokens) tree) refl
  where
    by : (o : Option Refusal) → broken (end_of tokens) tree ≡ o → ((u : Source) × IsUnitOf tokens u) ⊎ ((why : Refusal) × IsRefusedFor tokens why)
    by None e = inl (tree, record { spelled = h; unbroken = none_is_nil (faults (end_of tokens) tree) e })
    by (Some why) e = inr (why, inr (record { tree = tree; spelled = h; least = e }))

-- ---- of a source

-- a source that has texts is accepted
pub compiled_accepted : (source : List ℕ) (texts : List CText) → IsCompiled source texts → IsAccepted source
unfolding IsCompiled IsAccepted
compiled_accepted source texts h = (h.tree, h.is_unit)

-- each source is accepted or refused
pub decided : (source : List ℕ) → IsAccepted source ⊎ ((why : Refusal) × IsRefused source why)
unfolding IsAccepted IsRefused
decided source = either (source_tokens source) (parsed.decided (source_tokens source) (closed source))

-- no source is accepted and refused
pub accepted_not_refused : (source : List ℕ) (why : Refusal) → IsAccepted source → IsRefused source why → ⊥
unfolding IsAccepted IsRefused
accepted_not_refused source why (tree, h) k = not_both (source_tokens source) tree why h k

-- a source is refused for one reason
pub one_refusal : (source : List ℕ) (why other : Refusal) → IsRefused source why → IsRefused source other → why ≡ other
unfolding IsRefused
one_refusal source why other h k = one_why (source_tokens source) why other h k
