use Rattle.std.proofs.Common.{◌≡◌, Err, rules}
use Rattle.plc_typing.proofs.Answered.{unbroken, refused}
use Rattle.plc_typing.proofs.uses.numbers_of.Goals as goal

pub returns-in_err-judge : goal.returns-in_err-judge
returns-in_err-judge c =
    let why = c.in_err-judge.field-0.0 in
    let stop : c.from_residual-in_err-judge.result ≡ Err why = search rules in
    let was : c.judge.result ≡ Err why = search rules in
    rw stop (refused c.args.end c.args.unit.now c.new-numbers.result c.names.new.numbers c.new-met.result c.names.new.met c.others.new.met c.new-numbers.ensures c.new-met.ensures c.in_ok-names.ensures c.in_ok-others.ensures c.judge.result why c.judge.ensures was)

pub returns : goal.returns
returns c =
    unbroken c.args.end c.args.unit.now c.new-numbers.result c.names.new.numbers c.new-met.result c.names.new.met c.others.new.met c.new-numbers.ensures c.new-met.ensures c.in_ok-names.ensures c.in_ok-others.ensures c.judge.result c.judge.ensures (search rules)
