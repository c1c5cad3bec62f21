use Rattle.std.proofs.Common.{◌≡◌, ap, rules}
use Rattle.plc_base.proofs.LeastLaws.{meets_as, meets_then}
use Rattle.plc_typing.specs.Uses.{suits, is_interval, is_priority}
use Rattle.plc_typing.proofs.uses.task.Goals as goal

pub returns : goal.returns
returns c =
    let t = c.args.task.now in
    let first = suits (is_interval t.interval) t.interval_at in
    let second = suits (is_priority t.priority.value) t.priority.at in
    let counts : c.is_interval.result ≡ is_interval t.interval = search rules in
    let ranked : c.is_priority.result ≡ is_priority t.priority.value = search rules in
    meets_then first second c.args.met.now c.suits.new.met c.suits-2.new.met
    (meets_as (suits c.is_interval.result t.interval_at) first c.args.met.now c.suits.new.met (ap (λ b. suits b t.interval_at) counts) c.suits.ensures)
    (meets_as (suits c.is_priority.result t.priority.at) second c.suits.new.met c.suits-2.new.met (ap (λ b. suits b t.priority.at) ranked) c.suits-2.ensures)
