use Rattle.std.proofs.Common.{ap, [], ◌∷◌}
use Rattle.std.specs.List.{flat_map}
use Rattle.std.proofs.lemmas.Result.{on_ok_weaker}
use Rattle.plc_typing.proofs.Declaring.{declares_as, declares_next}
use Rattle.plc_typing.specs.Uses.{section_names}
use Rattle.plc_typing.proofs.names.pou.Goals as goal

pub returns : goal.returns
returns c =
    let p = c.args.pou.now in
    let own = record { name = p.name; at = p.at } ∷ [] in
    let b = c.declare.new.numbers in
    let n = c.declare.new.met in
    let later = declares_as (flat_map section_names c.as_slice.result.now) (flat_map section_names p.sections) b c.sections.new.numbers n c.sections.new.met (ap (flat_map section_names) c.as_slice.ensures) in
    declares_next c.sections.result own (flat_map section_names p.sections) c.args.numbers.now b c.sections.new.numbers c.args.met.now n c.sections.new.met c.in_ok-declare.ensures
    (on_ok_weaker c.sections.result later c.sections.ensures)
