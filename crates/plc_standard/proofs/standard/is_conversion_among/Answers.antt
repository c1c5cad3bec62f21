use Rattle.std.proofs.Common.{rules, tests, false}
use Rattle.std.specs.Prelude.{bytes_eq, if◌then◌else◌}
use Rattle.std.specs.List.{list_any}
use Rattle.std.proofs.lemmas.Iterator.{YieldsList-from_slice}
use Rattle.std.proofs.lemmas.Iterator.Search.{any_from_yields_List}
use Rattle.plc_standard.specs.Standard.{conversion}
use Rattle.plc_standard.proofs.standard.is_conversion_among.Goals as goal

pub returns : goal.returns
returns c =
    any_from_yields_List (λ from. list_any (λ to. if bytes_eq from.now to.now then false else bytes_eq c.args.name.now (conversion from.now to.now)) c.args.types.now) _ _ _ c.any.ensures.ran
    (YieldsList-from_slice c.args.types.now cc) (λ x b q k. search (rules, tests))
