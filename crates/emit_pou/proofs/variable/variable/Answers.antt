use Rattle.std.proofs.Common.{◌≡◌, sym, ◌∙◌, ◌-◌}
use Rattle.std.specs.List.{slice_get}
use Rattle.std.specs.Option.{option_copied}
use Rattle.emit_pou.proofs.Numbered.{before_first, from_first, lent}
use Rattle.emit_pou.proofs.variable.variable.Goals as goal

pub returns-then-id-first : goal.returns-then-id-first
returns-then-id-first c = before_first c.args.vars.now c.args.id c.in_ok-first.first.now c.requires (sym c.in_ok-first.ensures.value) c.if-id-first.true

pub returns : goal.returns
returns c =
    let got : option_copied c.get.result ≡ slice_get c.args.vars.now (c.args.id - c.in_ok-first.first.now.id) = lent c.args.vars.now _ c.get.result c.get.ensures.lookup in
    got ∙ from_first c.args.vars.now c.args.id c.in_ok-first.first.now c.requires (sym c.in_ok-first.ensures.value) c.if-id-first.false
