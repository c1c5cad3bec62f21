use Rattle.std.proofs.Common.{◌∙◌, ap, position}
use Rattle.std.specs.Str.{bytes_eq}
use Rattle.plc_scopes.proofs.NameLemmas.{position-plain}
use Rattle.plc_scopes.proofs.words.Words.find.Goals as goal

pub returns : goal.returns
returns c =
    c.get_index_of.ensures.index ∙ position-plain c.args.name.now c.self.inside.names.keys
    ∙ ap (position (bytes_eq c.args.name.now)) c.self.view_is
