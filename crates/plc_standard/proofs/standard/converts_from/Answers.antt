use Rattle.std.proofs.Common.{rules, tests, false}
use Rattle.std.specs.Prelude.{bytes_eq, if◌then◌else◌}
use Rattle.std.proofs.lemmas.Iterator.{YieldsList-from_slice}
use Rattle.std.proofs.lemmas.Iterator.Search.{any_from_yields_List}
use Rattle.plc_standard.specs.Standard.{conversion}
use Rattle.plc_standard.proofs.standard.converts_from.Goals as goal

pub returns : goal.returns
returns c =
    any_from_yields_List (λ to. if bytes_eq c.args.from.now to.now then false else bytes_eq c.args.name.now (conversion c.args.from.now to.now)) _ _ _ c.any.ensures.ran
    (YieldsList-from_slice c.args.types.now cc) (λ x b q k. search (rules, tests))
