use Rattle.std.proofs.Common.{◌≡◌, ◌^◌, Some, None, min, sym, ap, ◌∙◌}
use Rattle.std.specs.Option.{option_map}
use Rattle.plc_spelling.specs.Durations.{time, span_kind}
use Rattle.plc_spelling.specs.Text.{begins_with}
use Rattle.plc_spelling.proofs.durations.duration_kind.Goals as goal
use Rattle.plc_spelling.proofs.DurationSums.{cut-kind, no-kind}

pub returns-in-None : goal.returns-in-None
returns-in-None c =
    let bytes = c.args.bytes.now in
    let e : option_map (λ m. min m (2 ^ 64)) (time bytes) ≡ None = sym (rw c.unsigned.ensures at c.in-None.ensures.value) in
    sym (no-kind (begins_with 45 bytes) (time bytes) e)

pub returns-in-Some : goal.returns-in-Some
returns-in-Some c =
    let bytes = c.args.bytes.now in
    let e : option_map (λ m. min m (2 ^ 64)) (time bytes) ≡ Some c.in-Some.nanoseconds = sym (rw c.unsigned.ensures at c.in-Some.ensures.value) in
    c.span_kind.ensures ∙ ap (λ b. span_kind b c.in-Some.nanoseconds) c.begins_with.ensures.value
    ∙ sym (cut-kind (begins_with 45 bytes) c.in-Some.nanoseconds (time bytes) e)
