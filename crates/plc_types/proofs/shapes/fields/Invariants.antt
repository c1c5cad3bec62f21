use Rattle.std.proofs.Common.{◌≡◌, length}
use Rattle.plc_names.specs.Types.{fields}
use Rattle.plc_types.specs.Known.{world_of}
use Rattle.plc_types.specs.Shapes.{behind_fields}
use Rattle.plc_types.proofs.shapes.fields.Given as goal

abbrev pub invariant-loop-rest : goal.invariant-loop-rest
invariant-loop-rest l = fields (world_of l.known) l.first l.parts ≡ behind_fields l.done (fields (world_of l.known) l.next l.rest)

abbrev pub decreases-loop-rest : goal.decreases-loop-rest
decreases-loop-rest l = length l.rest
