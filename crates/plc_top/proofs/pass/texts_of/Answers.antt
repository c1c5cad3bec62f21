use Rattle.plc_top.proofs.Meanings.{means}
use Rattle.plc_top.proofs.pass.texts_of.Goals as goal

pub returns : goal.returns
returns c =
    means c.args.unit.now c.in_ok-c.c c.in_ok-texts.texts.items c.requires c.in_ok-c.ensures.is c.in_ok-texts.ensures.texts c.in_ok-texts.ensures.spells c.in_ok-c.ensures.good c.in_ok-c.ensures.traces
