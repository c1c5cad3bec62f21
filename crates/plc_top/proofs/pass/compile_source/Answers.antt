use Rattle.plc_top.proofs.Passes.{compiled}
use Rattle.plc_top.proofs.pass.compile_source.Goals as goal

pub returns : goal.returns
returns c = compiled c.args.source.now c.in_ok-tokens.tokens _ c.in_ok-tokens.ensures c.compile.ensures
