-- The rows of what is declared, whatever its scope.
use Rattle.std.specs.Prelude.{◌≡◌, ℕ, List, [], ◌∷◌, ◌++◌, map, Option, Some, None}
use Rattle.std.specs.List.{flat_map}
use Rattle.plc_tree.specs.declared.tree.Id.{Id}
use Rattle.plc_tree.specs.declared.tree.Unit.{Unit as Source}
use Rattle.plc_tree.specs.declared.tree.TypeDef.{TypeDef}
use Rattle.plc_tree.specs.declared.tree.Pou.{Pou}
use Rattle.plc_tree.specs.declared.tree.Section.{Section}
use Rattle.plc_tree.specs.declared.tree.Decl.{Decl}
use Rattle.plc_tree.specs.declared.tree.Config.{Config}
use Rattle.plc_tree.specs.declared.tree.Resource.{Resource}
use Rattle.plc_declared.specs.declared.order.Item.{Item as Numbered}
use Rattle.plc_declared.specs.Order.{seen}
use Rattle.plc_names.specs.declared.declarations.Declaration.{Declaration}
use Rattle.plc_names.specs.Items.{What, AType, APou, AConfig, Item}
use Rattle.plc_names.specs.Needs.{type_needs, pou_needs, values_of, needs_nothing, graph}

-- the rows of these were put behind the ones before
abbrev pub Grows : List Declaration → List (List Id) → List (List ℕ) → List (List ℕ) → Type 0
Grows ds rows before now = now ≡ before ++ graph ds rows

-- what needs nothing
abbrev pub empty_rows : {X : Type 0} → List X → List (List Id)
empty_rows xs = map (λ x. []) xs

abbrev pub type_rows : TypeDef → List (List Id)
type_rows t = type_needs t.what ∷ map needs_nothing (values_of t.what)

abbrev pub decl_rows : Decl → List (List Id)
decl_rows d = map needs_nothing d.names

abbrev pub section_rows : Section → List (List Id)
section_rows s = flat_map decl_rows s.decls

abbrev pub pou_rows : Pou → List (List Id)
pou_rows p = pou_needs p ∷ flat_map section_rows p.sections

abbrev pub resource_rows : Resource → List (List Id)
resource_rows r = [] ∷ (flat_map section_rows r.globals ++ (empty_rows r.tasks ++ empty_rows r.insts))

abbrev pub config_rows : Config → List (List Id)
config_rows c = [] ∷ (flat_map section_rows c.globals ++ flat_map resource_rows c.resources)

abbrev pub what_rows : What → List (List Id)
what_rows (AType t) = type_rows t
what_rows (APou k p) = pou_rows p
what_rows (AConfig c) = config_rows c

abbrev pub item_rows : Item → List (List Id)
item_rows x = what_rows x.what

-- those of a declaration that is told by its number
abbrev pub rows_seen : Option Item → List (List Id)
rows_seen None = []
rows_seen (Some x) = item_rows x

abbrev pub numbered_rows : Source → Numbered → List (List Id)
numbered_rows u x = rows_seen (seen u x)
