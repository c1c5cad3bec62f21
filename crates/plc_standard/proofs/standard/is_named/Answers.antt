use Rattle.std.proofs.Common.{◌∙◌, sym}
use Rattle.plc_standard.proofs.Conversions.{named_end, not_named}
use Rattle.plc_standard.proofs.standard.is_named.Goals as goal

pub returns-in-Some-after : goal.returns-in-Some-after
returns-in-Some-after c = c.eq.ensures ∙ named_end c.args.name.now c.args.from.now c.args.to.now c.in-Some.rest.now c.in-Some-after.end.now c.in-Some.ensures c.in-Some-after.ensures

pub returns-in-None-after : goal.returns-in-None-after
returns-in-None-after c = sym (not_named c.args.name.now c.args.from.now c.args.to.now c.in-Some.rest.now c.in-Some.ensures c.in-None-after.ensures)
