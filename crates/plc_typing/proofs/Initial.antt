-- A variable whose initial value isn't broken starts at a number of its type.
use Rattle.std.proofs.Common.{◌≡◌, subst, [], Bool, true, false, Option, Some, None, arith}
use Rattle.std.specs.Prelude.{not, ℤ, pos, negsuc, nat_le, is_some, codes, if◌then◌else◌}
use Rattle.std.specs.Option.{option_map_or}
use Rattle.std.specs.Str.{bytes_eq}
use Rattle.std.proofs.lemmas.Bool.{and_parts}
use Rattle.std.proofs.lemmas.Bool.Decides.{nat_tests}
use Rattle.plc_base.specs.declared.elem.Elem.{Elem}
use Rattle.plc_base.specs.declared.elem.Elem.TheVariants.{Int, Bool as Boolean}
use Rattle.plc_base.specs.Numbers.{Fits}
use Rattle.plc_base.proofs.Wrapping.{fits-zero}
use Rattle.plc_tree.specs.declared.tree.Decl.{Decl}
use Rattle.plc_tree.specs.declared.tree.Spec.{Spec}
use Rattle.plc_tree.specs.declared.tree.Spec.TheVariants.{Named, Sub, Array}
use Rattle.plc_tree.specs.declared.tree.Init.{Init}
use Rattle.plc_tree.specs.declared.tree.Init as init
use Rattle.plc_tree.specs.Execution.{truth}
use Rattle.plc_typing.specs.Scope.{is_elem, elem_of_spec}
use Rattle.plc_typing.specs.Plain.{is_between, is_in_int}
use Rattle.plc_typing.specs.Uses.{suits, address_faults, is_built_spec, place_of_spec, can_start, place_of_init, init_faults, start_faults, decl_faults}
use Rattle.plc_typing.specs.Typing.{number_of_init}
use Rattle.plc_typing.proofs.Tests.{elem_is, int_fits}
use Rattle.plc_typing.proofs.Faults.{none_of_both, holds}

small_fits : (z : ℤ) → is_between (pos 0) (pos 1) z ≡ true → Fits Boolean z
small_fits (pos n) h = let le : nat_le n 1 ≡ true = (and_parts (nat_le 0 n) (nat_le n 1) h).1 in grind (arith, nat_tests)
small_fits (negsuc n) h = absurd (let x : false ≡ true = h in cc)

truth_fits : (b : Bool) → Fits Boolean (truth b)
truth_fits true = omega arith
truth_fits false = omega arith

-- the types that are named yet
abbrev named : Bool → Elem
named is_int = if is_int then Int else Boolean

start_fits : (is_int : Bool) (i : Init) → can_start (named is_int) i ≡ true → Fits (named is_int) (number_of_init (Some i))
start_fits true (init.Number z want at) h = int_fits z (and_parts (option_map_or (is_elem Int) want true) (is_in_int z) h).1
start_fits false (init.Number z want at) h = small_fits z (and_parts (not (is_some want)) (is_between (pos 0) (pos 1) z) h).1
start_fits is_int (init.Truth b at) h = subst (λ t. Fits t (truth b)) (elem_is Boolean (named is_int) h) (truth_fits b)
start_fits is_int (init.Span ns at) h = absurd (let x : false ≡ true = h in cc)
start_fits is_int (init.Named n) h = absurd (let x : false ≡ true = h in cc)
start_fits is_int (init.Value owner name at name_at) h = absurd (let x : false ≡ true = h in cc)
start_fits is_int (init.List' g items at) h = absurd (let x : false ≡ true = h in cc)
start_fits is_int (init.Struct' g parts at) h = absurd (let x : false ≡ true = h in cc)

named_fits : (what : Spec) (i : Option Init) → init_faults (elem_of_spec what) i ≡ [] → Fits (elem_of_spec what) (number_of_init i)
named_fits what None h = fits-zero (elem_of_spec what)
named_fits (Named n) (Some i) h = start_fits (bytes_eq n.name (codes "INT")) i (holds _ (place_of_init i) h)
named_fits (Sub base bounds) (Some i) h = start_fits false i (holds _ (place_of_init i) h)
named_fits (Array bounds element at bracket) (Some i) h = start_fits false i (holds _ (place_of_init i) h)

pub starts_fit : (d : Decl) → decl_faults d ≡ [] → Fits (elem_of_spec d.spec) (number_of_init d.init)
starts_fit d h =
    let starts = (none_of_both (address_faults d.located d.names) (start_faults d.spec d.init) h).1 in
    named_fits d.spec d.init (none_of_both (suits (is_built_spec d.spec) (place_of_spec d.spec)) (init_faults (elem_of_spec d.spec) d.init) starts).1
