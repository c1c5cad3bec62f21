use Rattle.std.proofs.Common.{◌∙◌, sym, ap}
use Rattle.std.specs.Prelude.{is_some}
use Rattle.plc_scopes.proofs.NameLemmas.{entered_new}
use Rattle.plc_scopes.proofs.firsts.Firsts.enter.Goals as goal

pub returns : goal.returns
returns c =
    entered_new c.self.inside.names c.args.self.now c.args.name.now c.in_ok-key.key c.args.number c.insert.new.self.entries c.self.view_is c.in_ok-key.ensures.items
    (sym (c.is_some.ensures ∙ ap is_some c.find.ensures) ∙ c.if-is_some.false) c.in_ok-insert.ensures.entries
