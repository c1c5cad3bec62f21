use Rattle.std.proofs.Common.{◌∙◌, ap}
use Rattle.plc_scopes.specs.Firsts.{first_of}
use Rattle.plc_scopes.proofs.NameLemmas.{lookup-plain}
use Rattle.plc_scopes.proofs.firsts.Firsts.find.Goals as goal

pub returns : goal.returns
returns c =
    c.copied.ensures ∙ c.get.ensures.value ∙ lookup-plain c.args.name.now c.self.inside.names.entries
    ∙ ap (λ es. first_of es c.args.name.now) c.self.view_is
