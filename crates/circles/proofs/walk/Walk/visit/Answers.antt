use Rattle.std.proofs.Common.{◌≡◌, sym, ◌∙◌, arith, get_or}
use Rattle.circles.specs.Walk.{new}
use Rattle.circles.proofs.Walked.{opens_on, same_get}
use Rattle.circles.proofs.walk.Walk.visit.Goals as goal

pub run-requires : goal.run-requires
run-requires c =
    let w = c.args.self.now in
    let lt = c.requires.within in
    let was : get_or w.place.items c.args.node 0 ≡ new = sym (same_get w.place.items c.args.node c.index.result.now (omega (arith, c.requires.goes.sized)) c.index.ensures) ∙ c.if-index.true in
    opens_on c.args.needs.now w c.open.new.self c.args.node lt was (λ k e. absurd (omega (arith, c.requires.rests))) c.requires.goes c.in_ok-open.ensures
