-- The names of a list, one after the other: each breaks the rule where an earlier one is equal to it.
use Rattle.std.proofs.Common.{◌≡◌, refl, sym, ap, ◌∙◌, ℕ, ◌+◌, ◌<◌, ◌≤◌, List, [], ◌∷◌, ◌++◌, length, take, get_or, Bool, true, false, Option, arith}
use Rattle.std.specs.Prelude.{not, ◌||◌, if◌then◌else◌}
use Rattle.std.specs.List.{flat_map, list_any, enumerate_from}
use Rattle.std.specs.Str.{bytes_eq}
use Rattle.std.proofs.lemmas.List.FromFn.{length-enumerate_from, get_or-enumerate_from}
use Rattle.std.proofs.lemmas.List.Folds.{list_any-append, list_any_more}
use Rattle.std.proofs.lemmas.Slice.Eq.{bytes_eq-Decides}
use Rattle.plc_base.specs.declared.refusal.Refusal.{Refusal}
use Rattle.plc_base.specs.declared.refusal.Rule.{Rule}
use Rattle.plc_base.specs.Least.{unless, Meets}
use Rattle.plc_base.proofs.LeastLaws.{meets_as, meets_on, meets_all}
use Rattle.plc_tree.specs.declared.tree.Id.{Id}
use Rattle.plc_names.specs.Rules.{is_named}
use Rattle.plc_scopes.specs.Repeated.{repeated_fault, repeated_faults, Adds}

-- the first k of a list were looked at: the words are their names, and what they break was met
pub record IsRepeating (rule : Rule) (all : List Id) (k : ℕ) (words : List (List ℕ)) (met meets : Option Refusal) : Type 0 where
  pub least : Meets (flat_map (repeated_fault rule all) (take k (enumerate_from 0 all))) met meets
  pub names : (name : List ℕ) → list_any (bytes_eq name) words ≡ list_any (is_named name) (take k all)

pub repeating_on : (rule : Rule) (all : List Id) (k : ℕ) (n : Id) (words now : List (List ℕ)) (a b c : Option Refusal) → k < length all → n ≡ get_or all k n
    → IsRepeating rule all k words a b → Adds rule n words now b c → IsRepeating rule all (k + 1) now a c
repeating_on rule all k n words now a b c lt is h g = record { least = met; names = named }
  where
    met : Meets (flat_map (repeated_fault rule all) (take (k + 1) (enumerate_from 0 all))) a c
    met = meets_on (repeated_fault rule all) (enumerate_from 0 all) k (k, n) a b c (omega (arith, length-enumerate_from 0 all))
        (sym (get_or-enumerate_from 0 all k (k, n) lt ∙ (λ i. ((let q : 0 + k ≡ k = omega arith in q) i, sym is i)))) h.least
        (meets_as _ (repeated_fault rule all (k, n)) b c (ap (λ t. unless (not t) rule n.at) (h.names n.name)) g.least)

    named : (name : List ℕ) → list_any (bytes_eq name) now ≡ list_any (is_named name) (take (k + 1) all)
    named name = g.words name ∙ (λ i. h.names name i || is_named name (is i)) ∙ sym (list_any_more (is_named name) all k n lt)

pub repeating_all : (rule : Rule) (all : List Id) (k : ℕ) (words : List (List ℕ)) (a b : Option Refusal) → length all ≤ k → IsRepeating rule all k words a b → Meets (repeated_faults rule all) a b
repeating_all rule all k words a b le h = meets_all (repeated_fault rule all) (enumerate_from 0 all) k a b (omega (arith, length-enumerate_from 0 all)) h.least

-- ---- one more name

or-false : (a : Bool) → a ≡ (a || false)
or-false true = refl
or-false false = refl

or-none : (a b : Bool) → (a || (b || false)) ≡ (a || b)
or-none true b = refl
or-none false true = refl
or-none false false = refl

pub added : (rule : Rule) (n : Id) (words now : List (List ℕ)) (new : Bool) (a b : Option Refusal) → new ≡ not (list_any (bytes_eq n.name) words) → now ≡ (if new then words ++ n.name ∷ [] else words)
    → Meets (unless new rule n.at) a b → Adds rule n words now a b
added rule n words now new a b fresh is met = record { least = meets_as _ _ a b (ap (λ t. unless t rule n.at) fresh) met; words = λ name. there name (list_any (bytes_eq n.name) words) refl }
  where
    again : list_any (bytes_eq n.name) words ≡ true → (name : List ℕ) (b : Bool) → bytes_eq name n.name ≡ b → list_any (bytes_eq name) words ≡ (list_any (bytes_eq name) words || b)
    again here name false e = or-false (list_any (bytes_eq name) words)
    again here name true e =
        let at : list_any (bytes_eq name) words ≡ true = ap (λ m. list_any (bytes_eq m) words) ((bytes_eq-Decides name n.name).0 e) ∙ here in
        at ∙ sym (ap (λ x. x || true) at)

    there : (name : List ℕ) (known : Bool) → list_any (bytes_eq n.name) words ≡ known → list_any (bytes_eq name) now ≡ (list_any (bytes_eq name) words || bytes_eq name n.name)
    there name true e =
        ap (list_any (bytes_eq name)) (is ∙ ap (λ b. if b then words ++ n.name ∷ [] else words) (fresh ∙ ap not e)) ∙ again e name (bytes_eq name n.name) refl
    there name false e =
        ap (list_any (bytes_eq name)) (is ∙ ap (λ b. if b then words ++ n.name ∷ [] else words) (fresh ∙ ap not e))
        ∙ list_any-append (bytes_eq name) words (n.name ∷ []) ∙ or-none (list_any (bytes_eq name) words) (bytes_eq name n.name)
