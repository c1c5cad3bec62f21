-- What holds of all elementary types holds of each.
use denote.Enum.Declared.{tag_of}
use Rattle.std.proofs.Common.{◌≡◌, ℕ, zero, suc, ◌<◌, Bool, true, List, [], ◌∷◌, length, get_or, refl, subst, arith}
use Rattle.std.specs.List.{list_all}
use Rattle.std.proofs.lemmas.Bool.{and_parts}
use Rattle.plc_base.specs.contracts.elem.Elem as elem
use Rattle.plc_base.specs.declared.elem.Elem.{Elem}
use Rattle.plc_base.specs.declared.elem.Elem.TheVariants.{Sint, Int, Dint, Lint, Usint, Uint, Udint, Ulint, Byte, Word, Dword, Lword, Bool as Boolean, Time}
use Rattle.plc_base.specs.Numbers.{elems}

-- a type stands in the list of all at the place of its variant
abbrev Stands : Elem → Type 0
Stands t = (tag_of elem.the_type t < 14) × (get_or elems (tag_of elem.the_type t) Sint ≡ t)

stands : (t : Elem) → Stands t
stands Sint = (omega arith, refl)
stands Int = (omega arith, refl)
stands Dint = (omega arith, refl)
stands Lint = (omega arith, refl)
stands Usint = (omega arith, refl)
stands Uint = (omega arith, refl)
stands Udint = (omega arith, refl)
stands Ulint = (omega arith, refl)
stands Byte = (omega arith, refl)
stands Word = (omega arith, refl)
stands Dword = (omega arith, refl)
stands Lword = (omega arith, refl)
stands Boolean = (omega arith, refl)
stands Time = (omega arith, refl)

all_at : {A : Type 0} (p : A → Bool) (xs : List A) (n : ℕ) (d : A) → list_all p xs ≡ true → n < length xs → p (get_or xs n d) ≡ true
all_at p [] n d h lt = absurd (omega (arith, lt))
all_at p (x ∷ xs) zero d h lt = (and_parts (p x) (list_all p xs) h).0
all_at p (x ∷ xs) (suc n) d h lt = all_at p xs n d (and_parts (p x) (list_all p xs) h).1 (omega (arith, lt))

pub each : (p : Elem → Bool) → list_all p elems ≡ true → (t : Elem) → p t ≡ true
each p h t = let (lt, is) = stands t in subst (λ z. p z ≡ true) is (all_at p elems (tag_of elem.the_type t) Sint h lt)
