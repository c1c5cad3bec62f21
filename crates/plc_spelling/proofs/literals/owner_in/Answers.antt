use Rattle.std.proofs.Common.{sym, ◌∙◌}
use Rattle.plc_spelling.specs.Literals.{row}
use Rattle.plc_spelling.proofs.Owners.{owner_in-here, owner_in-next}
use Rattle.plc_spelling.proofs.literals.owner_in.Goals as goal

pub returns-then-is_same : goal.returns-then-is_same
returns-then-is_same c =
    sym (c.loop-name.invariant ∙ owner_in-here (λ r. row r.0.now r.1) c.args.table.now c.loop-name.name-index _ c.args.word.now c.loop-name-test.true (sym c.is_same.ensures ∙ c.if-is_same.true))

pub loop-name-preserved : goal.loop-name-preserved
loop-name-preserved c =
    c.loop-name.invariant ∙ owner_in-next (λ r. row r.0.now r.1) c.args.table.now c.loop-name.name-index _ c.args.word.now c.loop-name-test.true (sym c.is_same.ensures ∙ c.if-is_same.false)
