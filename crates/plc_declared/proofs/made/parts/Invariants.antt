use Rattle.std.proofs.Common.{◌≡◌, map, take}
use Rattle.plc_names.specs.Declarations as spec
use Rattle.plc_declared.proofs.made.parts.Given as goal

abbrev pub invariant-loop-member : goal.invariant-loop-member
invariant-loop-member l = l.parts ≡ map spec.part_of (take l.member-index l.members)
