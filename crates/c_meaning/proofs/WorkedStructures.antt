-- Units of one structure: good with objects as its members, and not with anything else among them.
use Rattle.std.proofs.Common.{refl, sym, true≢false, List, [], ◌∷◌, arith}
use Rattle.std.specs.Prelude.{codes, None}
use Rattle.plc_base.specs.declared.elem.Elem.TheVariants as elems
use Rattle.c_tree.specs.declared.tree.CItem.{CItem, Struct, Object, Func, DebugRow}
use Rattle.c_tree.specs.declared.tree.CItem.TheBlock.{hidden-the_row-CItem-0}
use Rattle.c_tree.specs.declared.tree.CPath.{roll-CPath}
use Rattle.c_tree.specs.declared.tree.CRow.TheVariants.{Var}
use Rattle.c_tree.specs.declared.tree.CType.TheVariants.{Flagged}
use Rattle.c_tree.specs.declared.tree.CUnit.{CUnit}
use Rattle.c_meaning.specs.Rules.{Good}

abbrev member : CItem
member = Object (Flagged elems.Int) (codes "N") []

abbrev function : CItem
function = Func None (codes "f") [] [] []

abbrev structure : CItem
structure = Struct (member ∷ []) (codes "Q")

abbrev row : CItem
row = DebugRow 0 elems.Int (roll-CPath (record { first = codes "N"; arrow = None; parts = [] })) Var

abbrev with_members : List CItem → CUnit
with_members members = record { parts = record { name = codes "plc.h"; items = Struct members (codes "P") ∷ [] } ∷ [] }

object_is_a_member : Good (with_members (member ∷ []))
unfolding hidden-the_row-CItem-0 denote.Hole.Carrier.hidden
object_is_a_member = record {
  spelled = (((((tt, refl, tt), tt), refl), tt), tt);
  free = ((refl, (refl, tt)), tt);
  members = (refl, tt);
  brackets = (omega arith, tt);
  rules = refl;
}

function_is_no_member : ¬ Good (with_members (member ∷ function ∷ []))
unfolding hidden-the_row-CItem-0 denote.Hole.Carrier.hidden
function_is_no_member h = true≢false (sym h.members.0)

structure_is_no_member : ¬ Good (with_members (member ∷ structure ∷ []))
unfolding hidden-the_row-CItem-0 denote.Hole.Carrier.hidden
structure_is_no_member h = true≢false (sym h.members.0)

row_is_no_member : ¬ Good (with_members (member ∷ row ∷ []))
unfolding hidden-the_row-CItem-0 denote.Hole.Carrier.hidden
row_is_no_member h = true≢false (sym h.members.0)
