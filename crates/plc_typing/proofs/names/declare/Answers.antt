use Rattle.plc_typing.proofs.Declaring.{declares_one}
use Rattle.plc_typing.proofs.names.declare.Goals as goal

pub returns : goal.returns
returns c =
    declares_one c.args.numbers.now c.declare.new.self (record { name = c.args.name.now; at = c.args.at }) c.in_ok-new.new c.is_free.result c.args.met.now c.suits.new.met
    c.in_ok-new.ensures.new c.in_ok-new.ensures.names c.is_free.ensures c.suits.ensures
