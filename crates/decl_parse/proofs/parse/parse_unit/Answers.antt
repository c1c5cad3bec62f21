use Rattle.std.proofs.Common.{sym, ◌∙◌, subst, Ok, Err, length, ◌≤◌, refl}
use Rattle.phrase.specs.declared.Fault.TheVariants.{Wrong, Deep}
use Rattle.decl_parse.specs.Parsed.{IsAtFront}
use Rattle.decl_parse.proofs.Front.{on, accepted, more_than, wrong_at, too_deep, some_left, left_fits}
use Rattle.decl_parse.proofs.parse.parse_unit.Goals as goal

pub at_front-requires-clause-fits : goal.at_front-requires-clause-fits
at_front-requires-clause-fits c =
    let i = c.new-reader.ensures ∙ c.as_slice-tokens.ensures in
    subst (λ z. length c.closed.new.tokens ≤ length z) (sym c.as_slice-tokens.ensures) (left_fits c.args.tokens.now (Ok c.in-Ok-2.field-0) c.closed.new.tokens (on _ _ _ _ i c.in-Ok-2.ensures))

pub at_front-requires-in-Err-At-Wrong-clause-left : goal.at_front-requires-in-Err-At-Wrong-clause-left
at_front-requires-in-Err-At-Wrong-clause-left c =
    let i = c.new-reader.ensures ∙ c.as_slice-tokens.ensures in
    some_left c.args.tokens.now Wrong c.closed.new.tokens c.requires (on _ _ _ _ i (rw c.in-Err-At-Wrong.field-0-0-is at (rw c.in-Err-At-Wrong.field-0-is at c.in-Err-At-Wrong.ensures)))

pub at_front-requires-in-Err-At-Wrong-clause-fits : goal.at_front-requires-in-Err-At-Wrong-clause-fits
at_front-requires-in-Err-At-Wrong-clause-fits c =
    let i = c.new-reader.ensures ∙ c.as_slice-tokens.ensures in
    subst (λ z. length c.closed.new.tokens ≤ length z) (sym c.as_slice-tokens.ensures) (left_fits c.args.tokens.now (Err Wrong) c.closed.new.tokens (on _ _ _ _ i (rw c.in-Err-At-Wrong.field-0-0-is at (rw c.in-Err-At-Wrong.field-0-is at c.in-Err-At-Wrong.ensures))))

pub here-requires : goal.here-requires
here-requires c =
    let i = c.new-reader.ensures ∙ c.as_slice-tokens.ensures in
    some_left c.args.tokens.now Deep c.closed.new.tokens c.requires (on _ _ _ _ i (rw c.in-Err-At-Deep.field-0-0-is at (rw c.in-Err-At-Deep.field-0-is at c.in-Err-At-Deep.ensures)))

pub returns-in-Ok : goal.returns-in-Ok
returns-in-Ok c =
    let i = c.new-reader.ensures ∙ c.as_slice-tokens.ensures in
    accepted c.args.tokens.now c.in-Ok.unit c.closed.new.tokens (on _ _ _ _ i c.in-Ok.ensures) (sym c.left.ensures ∙ c.if-left-eq0.true)

pub returns-in-Ok-2 : goal.returns-in-Ok-2
returns-in-Ok-2 c =
    let i = c.new-reader.ensures ∙ c.as_slice-tokens.ensures in
    more_than c.args.tokens.now c.in-Ok-2.field-0 c.closed.new.tokens c.at_front.result (on _ _ _ _ i c.in-Ok-2.ensures) (subst (λ z. IsAtFront z c.closed.new.tokens c.at_front.result) c.as_slice-tokens.ensures c.at_front.ensures)

pub returns-in-Err-At-Wrong : goal.returns-in-Err-At-Wrong
returns-in-Err-At-Wrong c =
    let i = c.new-reader.ensures ∙ c.as_slice-tokens.ensures in
    wrong_at c.args.tokens.now c.closed.new.tokens c.at_front-in-Err-At-Wrong.result (on _ _ _ _ i (rw c.in-Err-At-Wrong.field-0-0-is at (rw c.in-Err-At-Wrong.field-0-is at c.in-Err-At-Wrong.ensures)))
    (subst (λ z. IsAtFront z c.closed.new.tokens c.at_front-in-Err-At-Wrong.result) c.as_slice-tokens.ensures c.at_front-in-Err-At-Wrong.ensures)

pub returns-in-Err-At-Deep : goal.returns-in-Err-At-Deep
returns-in-Err-At-Deep c =
    let i = c.new-reader.ensures ∙ c.as_slice-tokens.ensures in
    too_deep c.args.tokens.now c.closed.new.tokens _ c.here.result.now (on _ _ _ _ i (rw c.in-Err-At-Deep.field-0-0-is at (rw c.in-Err-At-Deep.field-0-is at c.in-Err-At-Deep.ensures))) c.here.ensures refl refl
