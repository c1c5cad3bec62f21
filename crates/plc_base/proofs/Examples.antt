-- Numbers that are wrapped, the least of broken rules, and addresses, by computation.
use Rattle.std.proofs.Common.{◌≡◌, refl, ◌*◌}
use Rattle.std.specs.Prelude.{ℕ, pos, negsuc, codes, [], ◌∷◌, Some, None}
use Rattle.plc_base.specs.Addresses.{address_in}
use Rattle.plc_base.specs.Numbers.{wrap, low, high}
use Rattle.plc_base.specs.Least.{least, sooner}
use Rattle.plc_base.specs.declared.elem.Elem.TheVariants.{Sint, Int, Usint, Bool as Boolean}
use Rattle.plc_base.specs.declared.refusal.Refusal.{Refusal}
use Rattle.plc_base.specs.declared.refusal.Rule.{Rule}
use Rattle.plc_base.specs.declared.refusal.Rule.TheVariants.{L4, G2, NotYet, N2, N11}

-- ---- numbers

above : wrap Sint (pos 128) ≡ negsuc 127
above = refl

below : wrap Sint (negsuc 128) ≡ pos 127
below = refl

minus_one : wrap Usint (negsuc 0) ≡ pos 255
minus_one = refl

two_bits : wrap Boolean (pos 2) ≡ pos 0
two_bits = refl

lowest : low Int ≡ negsuc 32767
lowest = refl

highest : high Int ≡ pos 32767
highest = refl

-- ---- the least of broken rules

-- at the token of this number in line 3
abbrev there : Rule → ℕ → Refusal
there rule token = record { rule = rule; place = record { file = 0; line = 3; col = 2 * token; token = token } }

none : least [] ≡ None
none = refl

-- whatever order they are met in
by_place : least (there NotYet 13 ∷ there NotYet 11 ∷ there L4 12 ∷ []) ≡ Some (there NotYet 11)
by_place = refl

-- at one token by the order of rules
by_rule : least (there NotYet 11 ∷ there L4 11 ∷ there G2 11 ∷ []) ≡ Some (there L4 11)
by_rule = refl

by_name : least (there N11 11 ∷ there N2 12 ∷ there N2 11 ∷ []) ≡ Some (there N2 11)
by_name = refl

-- the number of the token counts, and no line
by_token : sooner (Some (record { rule = G2; place = record { file = 0; line = 9; col = 1; token = 3 } })) (Some (there G2 4)) ≡ Some (record { rule = G2; place = record { file = 0; line = 9; col = 1; token = 3 } })
by_token = refl

-- of equal ones the first
by_order : sooner (Some (there G2 4)) (Some (record { rule = G2; place = record { file = 1; line = 1; col = 1; token = 4 } })) ≡ Some (there G2 4)
by_order = refl

-- ---- addresses

-- `%IX0.1`, `%iw03` and `%I3`, whose size is X
addresses : address_in (codes "%IX0.1") ∷ address_in (codes "%iw03") ∷ address_in (codes "%I3") ∷ []
    ≡ Some (record { dir = 73; size = 88; numbers = 0 ∷ 1 ∷ [] }) ∷ Some (record { dir = 73; size = 87; numbers = 3 ∷ [] }) ∷ Some (record { dir = 73; size = 88; numbers = 3 ∷ [] }) ∷ []
addresses = refl

-- without `%`, a direction, a number, or a number behind a dot, and with another letter or a sign
no_addresses : address_in (codes "IX1") ∷ address_in (codes "%X1") ∷ address_in (codes "%IX") ∷ address_in (codes "%I") ∷ address_in (codes "%IX1.") ∷ address_in (codes "%IX1..2")
    ∷ address_in (codes "%IZ1") ∷ address_in (codes "%IX-1") ∷ address_in (codes "%IX1_0") ∷ address_in (codes "%") ∷ address_in [] ∷ []
    ≡ None ∷ None ∷ None ∷ None ∷ None ∷ None ∷ None ∷ None ∷ None ∷ None ∷ None ∷ []
no_addresses = refl
