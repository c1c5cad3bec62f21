use Rattle.std.proofs.Common.{ap, ◌∙◌, ◌++◌, ◌∷◌, []}
use Rattle.std.specs.Prelude.{not, if◌then◌else◌}
use Rattle.std.specs.List.{list_any}
use Rattle.std.specs.Str.{bytes_eq}
use Rattle.plc_scopes.proofs.Repeating.{added}
use Rattle.plc_scopes.proofs.repeats.note.Goals as goal

pub returns : goal.returns
returns c =
    let words = c.args.words.now in
    let is = c.bytes.ensures in
    added c.args.rule (record { name = c.args.name.now; at = c.args.at }) words c.add.new.self c.in_ok-new.new c.args.met.now c.want.new.self
    (c.in_ok-new.ensures.new ∙ ap (λ n. not (list_any (bytes_eq n) words)) is)
    (c.in_ok-new.ensures.names ∙ ap (λ n. if c.in_ok-new.new then words ++ n ∷ [] else words) is)
    c.want.ensures
