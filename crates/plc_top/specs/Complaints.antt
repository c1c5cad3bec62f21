-- The room of a complaint.
use Rattle.std.specs.Prelude.{ℕ, ◌+◌, ◌≤◌, List, length, vec_capacity}
use Rattle.plc_top.specs.declared.complaint.Complaint.{Complaint}

-- how long a line may be
abbrev pub room : Complaint → ℕ
room c = vec_capacity c.line

-- how long a line about a name may be beside the name
abbrev pub besides : ℕ
besides = 192

-- a line about this name has room
abbrev pub HasRoom : ℕ → List ℕ → Type 0
HasRoom room name = length name + besides ≤ room
