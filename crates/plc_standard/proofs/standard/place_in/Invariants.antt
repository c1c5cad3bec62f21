use Rattle.std.proofs.Common.{◌≡◌, ◌+◌, length}
use Rattle.std.specs.List.{position_from}
use Rattle.std.specs.Str.{bytes_eq}
use Rattle.plc_standard.proofs.standard.place_in.Given as goal

-- what is passed over and what is left are all
abbrev pub invariant-loop-names : goal.invariant-loop-names
invariant-loop-names l =
    (position_from (λ n. bytes_eq n.now l.name) 0 l.initial.names ≡ position_from (λ n. bytes_eq n.now l.name) l.place l.names)
    × (l.place + length l.names ≡ length l.initial.names)

abbrev pub decreases-loop-names : goal.decreases-loop-names
decreases-loop-names l = length l.names
