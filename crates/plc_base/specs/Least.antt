-- Which of the rules that a source breaks is answered: the least one, by its place and then by the order of rules.
use Rattle.std.specs.Prelude.{◌≡◌, ℕ, nat_lt, nat_eq, Bool, true, false, ◌&&◌, ◌||◌, List, [], ◌∷◌, Option, Some, None, Result, Ok, Err, if◌then◌else◌}
use Rattle.std.specs.List.{All, Contains}
use Rattle.plc_base.specs.declared.refusal.Place.{Place}
use Rattle.plc_base.specs.declared.refusal.Refusal.{Refusal}
use Rattle.plc_base.specs.declared.refusal.Rule.{Rule}
use Rattle.plc_base.specs.declared.refusal.Rule.TheVariants.{L1, L2, L3, L4, L5, L6, G1, G2, U1, NotYet, N1, N2, N3, N4, N5, N6, N7, N8, N9, N10, N11}
use Rattle.plc_base.specs.declared.refusal.Stop.{Stop}
use Rattle.plc_base.specs.declared.refusal.Stop.TheVariants.{Refused}

-- the place of a rule in the order of rules
abbrev pub rank : Rule → ℕ
rank L1 = 0
rank L2 = 1
rank L3 = 2
rank L4 = 3
rank L5 = 4
rank L6 = 5
rank G1 = 6
rank G2 = 7
rank U1 = 8
rank NotYet = 9
rank N1 = 10
rank N2 = 11
rank N3 = 12
rank N4 = 13
rank N5 = 14
rank N6 = 15
rank N7 = 16
rank N8 = 17
rank N9 = 18
rank N10 = 19
rank N11 = 20

-- by the number of the token, then by the order of rules
abbrev pub precedes : Refusal → Refusal → Bool
precedes a b = nat_lt a.place.token b.place.token || (nat_eq a.place.token b.place.token && nat_lt (rank a.rule) (rank b.rule))

-- the first of two; of equal ones that on the left
abbrev pub sooner_of : Refusal → Refusal → Refusal
sooner_of a b = if precedes b a then b else a

abbrev pub sooner : Option Refusal → Option Refusal → Option Refusal
sooner None b = b
sooner (Some a) None = Some a
sooner (Some a) (Some b) = Some (sooner_of a b)

-- the least of a list; of equal ones the first
abbrev pub least : List Refusal → Option Refusal
least [] = None
least (r ∷ rs) = sooner (Some r) (least rs)

-- what that means: it is one of the list, and none of the list precedes it
pub record IsLeast (rs : List Refusal) (r : Refusal) : Type 0 where
  pub listed : Contains rs r
  pub first : All (λ other. precedes other r ≡ false) rs

-- ---- what a pass meets

-- a rule that is broken there, unless what it wants holds
abbrev pub unless : Bool → Rule → Place → List Refusal
unless true rule place = []
unless false rule place = record { rule = rule; place = place } ∷ []

-- after these were met, where this was the least before
abbrev pub Meets : List Refusal → Option Refusal → Option Refusal → Type 0
Meets rs before now = now ≡ sooner before (least rs)

-- a source that breaks a rule is refused
abbrev pub judged : Option Refusal → Result (Unit {0}) Stop
judged None = Ok tt
judged (Some r) = Err (Refused r)
