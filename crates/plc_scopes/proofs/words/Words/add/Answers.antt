use Rattle.std.proofs.Common.{◌∙◌, ap, not}
use Rattle.std.specs.List.{list_any, position_or_len}
use Rattle.std.specs.Str.{bytes_eq}
use Rattle.plc_scopes.proofs.NameLemmas.{place-plain, any-plain}
use Rattle.plc_scopes.proofs.words.Words.add.Goals as goal

pub returns-clause-place : goal.returns-clause-place
returns-clause-place c =
    c.in_ok-insert_full.ensures.index ∙ place-plain c.in_ok-key.key.items c.self.inside.names.keys
    ∙ (λ i. position_or_len (bytes_eq (c.in_ok-key.ensures.items i)) (c.self.view_is i))

pub returns-clause-new : goal.returns-clause-new
returns-clause-new c =
    c.in_ok-insert_full.ensures.added ∙ ap not (any-plain c.in_ok-key.key.items c.self.inside.names.keys)
    ∙ (λ i. not (list_any (bytes_eq (c.in_ok-key.ensures.items i)) (c.self.view_is i)))
