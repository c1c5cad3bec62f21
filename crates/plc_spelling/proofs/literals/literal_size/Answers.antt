use Rattle.std.proofs.Common.{◌≡◌, ◌∙◌, sym, ap, subst, ◌+◌, take, drop, Some, List, ℕ, Bool}
use Rattle.plc_spelling.specs.Text.{begins_with, IsGreatest}
use Rattle.plc_spelling.specs.Literals.{may_follow, is_literal, owner}
use Rattle.plc_spelling.proofs.LiteralFronts.{literal-no_hash, literal-no_owner, literal-owned, may_follow-nothing}
use Rattle.plc_spelling.proofs.literals.literal_size.Goals as goal

hash_is : (text rest : List ℕ) (size run : ℕ) (answer : Bool) → size ≡ run → rest ≡ drop size text → answer ≡ begins_with 35 rest → begins_with 35 (drop run text) ≡ answer
hash_is text rest size run answer is behind found = ap (λ k. begins_with 35 (drop k text)) (sym is) ∙ ap (begins_with 35) (sym behind) ∙ sym found

pub returns-then-not-begins_with : goal.returns-then-not-begins_with
returns-then-not-begins_with c =
    literal-no_hash c.args.text.now (hash_is c.args.text.now _ _ _ _ c.word_run-word.ensures.value c.behind.ensures c.begins_with.ensures.value ∙ c.if-not-begins_with.true)

pub returns-in-Some : goal.returns-in-Some
returns-in-Some c =
    let text = c.args.text.now in
    let o = c.in-Some.owner in
    let size = c.word_run-word.ensures.value in
    let hash = hash_is text _ _ _ _ size c.behind.ensures c.begins_with.ensures.value ∙ c.if-not-begins_with.false in
    let owned : owner (take c.word_run-word.result text) ≡ Some o = sym c.owner_of_word.ensures ∙ c.in-Some.is in
    let law : IsGreatest (may_follow o) (drop (c.word_run-word.result + 1) text) c.follow_size.result = subst (λ bs. IsGreatest (may_follow o) bs c.follow_size.result) c.behind-in-Some.ensures c.follow_size.ensures in
    subst (λ k. IsGreatest is_literal text (k + 1 + c.follow_size.result)) (sym size)
    (literal-owned text o c.follow_size.result hash (subst (λ k. owner (take k text) ≡ Some o) size owned) (may_follow-nothing o)
    (subst (λ k. IsGreatest (may_follow o) (drop (k + 1) text) c.follow_size.result) size law))

pub returns-in-None : goal.returns-in-None
returns-in-None c =
    literal-no_owner c.args.text.now (ap (λ k. owner (take k c.args.text.now)) (sym c.word_run-word.ensures.value) ∙ sym c.owner_of_word.ensures ∙ c.in-None.is)
