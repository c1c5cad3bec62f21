-- Literals at the front of a text.
use Rattle.std.proofs.Common.{◌≡◌, ℕ, ◌+◌, ◌≤◌, ◌<◌, max, Bool, true, false, ◌||◌, ◌&&◌, List, [], ◌++◌, length, take, drop, Option, Some, None, refl, sym, ap, subst, ◌∙◌, arith, length-drop}
use Rattle.std.specs.Prelude.{codes}
use Rattle.std.specs.List.{prefix_len}
use Rattle.std.specs.Str.{str_eq_ignore_ascii_case}
use Rattle.std.proofs.lemmas.List.{drop-append-le, take-append-le, drop-drop}
use Rattle.std.proofs.lemmas.Bool.{both_ways, and_parts, false_from_ne_true}
use Rattle.plc_spelling.specs.declared.literals.Owner.{Owner}
use Rattle.plc_spelling.specs.declared.literals.Owner.TheVariants.{Integer, Bits, Boolean, Time, LeftOut}
use Rattle.plc_spelling.specs.Literals.{owner, owner_of, behind_hash, may_follow, is_literal, is_truth, literal_kind, owned_kind}
use Rattle.plc_base.specs.declared.kind.Kind.TheVariants.{Bad}
use Rattle.plc_base.specs.declared.refusal.Rule.TheVariants.{L3}
use Rattle.plc_spelling.specs.Text.{begins_with, run_of, behind_run, IsGreatest}
use Rattle.plc_spelling.specs.Words.{is_word_byte}
use Rattle.plc_spelling.proofs.Fronts.{first_byte, has_first}
use Rattle.plc_spelling.proofs.Runs.{run-stays, run-ended}
use Rattle.plc_spelling.proofs.Greatest.{greatest-none, greatest-as, greatest-or, greatest-behind}

-- ---- a word and `#`

abbrev hash : List ℕ → Bool
hash bs = begins_with 35 (behind_run is_word_byte bs)

abbrev run_size : List ℕ → ℕ
run_size bs = prefix_len is_word_byte bs

module _ (front rest text : List ℕ) (is : front ++ rest ≡ text) where
  split : (k : ℕ) → k ≤ length front → drop k front ++ rest ≡ drop k text
  split k le = sym (drop-append-le k front rest le) ∙ ap (drop k) is

  -- the `#` of a front is that of the text
  hash-front : hash front ≡ true → (run_size front ≡ run_size text) × (run_size text < length front) × (hash text ≡ true)
  hash-front h =
      let some = has_first 35 (behind_run is_word_byte front) h in
      let less : run_size front < length front = omega (arith, some, length-drop (run_size front) front) in
      let same : run_size front ≡ run_size text = sym (run-stays is_word_byte front rest less) ∙ ap (prefix_len is_word_byte) is in
      let there = sym (first_byte 35 (drop (run_size front) front) rest (drop (run_size front) text) (split (run_size front) (omega (arith, less))) some) ∙ h in
      (same, omega (arith, same, less), subst (λ k. begins_with 35 (drop k text) ≡ true) same there)

  -- and that of the text is that of each front which has it
  hash-behind : hash text ≡ true → run_size text < length front → (run_size front ≡ run_size text) × (hash front ≡ true)
  hash-behind h less =
      let ended = run-ended is_word_byte front rest (subst (λ bs. prefix_len is_word_byte bs < length front) (sym is) less) in
      let same : run_size front ≡ run_size text = sym ended ∙ ap (prefix_len is_word_byte) is in
      let some : 0 < length (drop (run_size text) front) = omega (arith, length-drop (run_size text) front, less) in
      let here = first_byte 35 (drop (run_size text) front) rest (drop (run_size text) text) (split (run_size text) (omega (arith, less))) some ∙ h in
      (same, subst (λ k. begins_with 35 (drop k front) ≡ true) (sym same) here)

module _ (text : List ℕ) where
  -- no literal begins where no `#` stands behind the word
  pub literal-no_hash : hash text ≡ false → IsGreatest is_literal text 0
  literal-no_hash h = greatest-none is_literal text (λ front rest is. false_from_ne_true (is_literal front) (λ e. both_ways (hash text) h (hash-front front rest text is (and_parts (hash front) _ e).0).2))

  abbrev word : List ℕ
  word = run_of is_word_byte text

  module _ (front rest : List ℕ) (is : front ++ rest ≡ text) (h : hash front ≡ true) where
    owner-front : owner_of front ≡ owner word
    owner-front =
        let ends = hash-front front rest text is h in
        ap (λ k. owner (take k front)) ends.0
        ∙ ap owner (sym (take-append-le (run_size text) front rest (omega (arith, ends.1))) ∙ ap (take (run_size text)) is)

    behind-front : behind_hash front ≡ drop (run_size text + 1) front
    behind-front = drop-drop 1 (run_size front) front ∙ ap (λ k. drop (k + 1) front) (hash-front front rest text is h).0

    -- a front is a literal by what its owner lets follow
    front-by : (o : Option Owner) → owner word ≡ o → is_literal front ≡ (hash front && elim o [ None ↦ false | Some o ↦ may_follow o (drop (run_size text + 1) front) ])
    front-by o e =
        ap (λ x. hash front && elim x [ None ↦ false | Some o ↦ may_follow o (behind_hash front) ]) (owner-front ∙ e)
        ∙ ap (λ bs. hash front && elim o [ None ↦ false | Some o ↦ may_follow o bs ]) behind-front

  -- no owner
  pub literal-no_owner : owner word ≡ None → IsGreatest is_literal text 0
  literal-no_owner none = greatest-none is_literal text (λ front rest is. false_from_ne_true (is_literal front) (λ e.
      let h = (and_parts (hash front) _ e).0 in
      both_ways (hash front && false) (and_false (hash front)) (sym (front-by front rest is h None none) ∙ e)))
    where
      and_false : (b : Bool) → (b && false) ≡ false
      and_false true = refl
      and_false false = refl

  -- what an owner lets follow
  pub literal-owned : (o : Owner) (n : ℕ) → hash text ≡ true → owner word ≡ Some o → may_follow o [] ≡ true
      → IsGreatest (may_follow o) (drop (run_size text + 1) text) n → IsGreatest is_literal text (run_size text + 1 + n)
  literal-owned o n h owned empty law = greatest-behind is_literal (may_follow o) text (run_size text + 1) n fits empty same law
    where
      fits : run_size text + 1 ≤ length text
      fits = omega (arith, has_first 35 (drop (run_size text) text) h, length-drop (run_size text) text)

      same : (front rest : List ℕ) → front ++ rest ≡ text → run_size text + 1 ≤ length front → is_literal front ≡ may_follow o (drop (run_size text + 1) front)
      same front rest is le =
          let e = (hash-behind front rest text is h (omega (arith, le))).1 in
          front-by front rest is e (Some o) owned ∙ ap (λ b. b && may_follow o (drop (run_size text + 1) front)) e

-- what a literal with an owner spells
pub literal_kind-owned : (bytes : List ℕ) (o : Owner) → owner (run_of is_word_byte bytes) ≡ Some o → literal_kind bytes ≡ owned_kind o bytes (drop (run_size bytes + 1) bytes)
literal_kind-owned bytes o e =
    ap (λ x. elim x [ None ↦ Bad L3 | Some o ↦ owned_kind o bytes (behind_hash bytes) ]) e ∙ ap (owned_kind o bytes) (drop-drop 1 (run_size bytes) bytes)

-- each owner lets nothing follow
pub may_follow-nothing : (o : Owner) → may_follow o [] ≡ true
may_follow-nothing (Integer elem) = refl
may_follow-nothing (Bits elem) = refl
may_follow-nothing Boolean = refl
may_follow-nothing Time = refl
may_follow-nothing LeftOut = refl

-- ---- what may follow

pub truth-is : (text : List ℕ) (a b c d : ℕ)
    → IsGreatest (str_eq_ignore_ascii_case (codes "TRUE")) text a → IsGreatest (str_eq_ignore_ascii_case (codes "1")) text b
    → IsGreatest (str_eq_ignore_ascii_case (codes "FALSE")) text c → IsGreatest (str_eq_ignore_ascii_case (codes "0")) text d
    → IsGreatest is_truth text (max (max a b) (max c d))
truth-is text a b c d true_ one false_ zero_ =
    greatest-as _ text is_truth (max (max a b) (max c d)) (λ front rest is. either (same (codes "TRUE") front) (same (codes "1") front) (same (codes "FALSE") front) (same (codes "0") front))
    (greatest-or _ text _ (max a b) (max c d) (greatest-or _ text _ a b true_ one) (greatest-or _ text _ c d false_ zero_))
  where
    same : List ℕ → List ℕ → Bool
    same = str_eq_ignore_ascii_case

    either : (p q r s : Bool) → (p || (q || (r || (s || false)))) ≡ ((p || q) || (r || s))
    either true q r s = refl
    either false true r s = refl
    either false false true s = refl
    either false false false true = refl
    either false false false false = refl
