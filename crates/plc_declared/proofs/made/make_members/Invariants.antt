use Rattle.std.proofs.Common.{◌≡◌, ◌++◌, take}
use Rattle.std.specs.List.{flat_map}
use Rattle.plc_names.specs.Declarations as spec
use Rattle.plc_declared.proofs.made.make_members.Given as goal

abbrev pub invariant-loop-member : goal.invariant-loop-member
invariant-loop-member l = l.made ≡ l.initial.made ++ flat_map spec.member_made (take l.member-index l.members)
