use Rattle.std.proofs.Common.{ap, [], ◌∷◌}
use Rattle.std.proofs.lemmas.Result.{on_ok_weaker}
use Rattle.plc_typing.proofs.Declaring.{declares_as, declares_next}
use Rattle.plc_typing.specs.Uses.{first_names, resource_names}
use Rattle.plc_typing.proofs.names.config.Goals as goal

pub returns : goal.returns
returns c =
    let x = c.args.config.now in
    let own = record { name = x.name; at = x.at } ∷ [] in
    let b = c.declare.new.numbers in
    let n = c.declare.new.met in
    let later = declares_as (first_names resource_names c.as_slice.result.now) (first_names resource_names x.resources) b c.resources.new.numbers n c.resources.new.met (ap (first_names resource_names) c.as_slice.ensures) in
    declares_next c.resources.result own (first_names resource_names x.resources) c.args.numbers.now b c.resources.new.numbers c.args.met.now n c.resources.new.met c.in_ok-declare.ensures
    (on_ok_weaker c.resources.result later c.resources.ensures)
