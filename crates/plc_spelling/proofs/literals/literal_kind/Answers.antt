use Rattle.std.proofs.Common.{◌≡◌, ◌+◌, Some, drop, take, sym, ◌∙◌, subst, ap}
use Rattle.std.specs.Result.{IfOk}
use Rattle.plc_spelling.specs.Literals.{owner, owned_kind}
use Rattle.plc_spelling.proofs.LiteralFronts.{literal_kind-owned}
use Rattle.plc_spelling.proofs.literals.literal_kind.Goals as goal

pub returns-in-Some : goal.returns-in-Some
returns-in-Some c =
    let bytes = c.args.bytes.now in
    let o = c.in-Some.owner in
    let owned : owner (take c.word_run-word.result bytes) ≡ Some o = sym c.owner_of_word.ensures ∙ c.in-Some.is in
    let run = c.word_run-word.ensures.value in
    let spells = literal_kind-owned bytes o (subst (λ k. owner (take k bytes) ≡ Some o) run owned) in
    let same = ap (owned_kind o bytes) (c.behind.ensures ∙ ap (λ k. drop (k + 1) bytes) run) in
    subst (λ kind. IfOk c.owned_kind.result (λ k. k ≡ kind)) (same ∙ sym spells) c.owned_kind.ensures
