-- What the items of a unit declare, and the type of each place.
use Rattle.std.specs.Prelude.{ℕ, List, [], ◌∷◌, ◌++◌, map, reverse, nat_eq, ◌&&◌, Option, Some, None, if◌then◌else◌}
use Rattle.std.specs.List.{flat_map, range_with_len}
use Rattle.std.specs.Str.{bytes_eq}
use Rattle.plc_base.specs.declared.elem.Elem.{Elem}
use Rattle.c_tree.specs.declared.tree.CUnit.{CUnit}
use Rattle.c_tree.specs.declared.tree.CPart.{CPart}
use Rattle.c_tree.specs.declared.tree.CItem.{CItem, Struct', Object, Located, Func, DebugRow, Row_of-CItem, end_of-CItem, more_of-CItem}
use Rattle.c_tree.specs.declared.tree.CType.{CType}
use Rattle.c_tree.specs.declared.tree.CType.TheVariants as of
use Rattle.c_tree.specs.declared.tree.CParam.{CParam}
use Rattle.c_tree.specs.declared.tree.CLocal.{CLocal}
use Rattle.c_tree.specs.declared.tree.CStmt.{CStmt}
use Rattle.c_tree.specs.declared.tree.CPath.{CPath}
use Rattle.c_tree.specs.declared.tree.CRow.{CRow}
use Rattle.c_meaning.specs.Library.{library}
use Rattle.c_meaning.specs.Objects.{Key, Named, Nth, Place}

-- all items of a unit in the order of its text, those of the library first
abbrev pub all_items : CUnit → List CItem
all_items c = library ++ flat_map (λ (p : CPart). p.items) c.parts

-- an object or a member: its type, its name and its dimensions
pub record Variable : Type 0 where
  pub ty : CType
  pub name : List ℕ
  pub dims : List ℕ

abbrev pub row_objects : {m : _} → Row_of-CItem m → List Variable
row_objects end_of-CItem = []
row_objects (more_of-CItem (Object ty name dims) rest) = record { ty = ty; name = name; dims = dims } ∷ row_objects rest
row_objects (more_of-CItem (Struct' h members name) rest) = row_objects rest
row_objects (more_of-CItem (Located elem name dir size numbers) rest) = row_objects rest
row_objects (more_of-CItem (Func result name params locals body) rest) = row_objects rest
row_objects (more_of-CItem (DebugRow number elem path kind) rest) = row_objects rest

abbrev pub item_objects : CItem → List Variable
item_objects (Object ty name dims) = record { ty = ty; name = name; dims = dims } ∷ []
item_objects (Struct' h members name) = []
item_objects (Located elem name dir size numbers) = []
item_objects (Func result name params locals body) = []
item_objects (DebugRow number elem path kind) = []

-- a structure: its name and its members
pub record Structure : Type 0 where
  pub name : List ℕ
  pub members : List Variable

abbrev pub item_structures : CItem → List Structure
item_structures (Object ty name dims) = []
item_structures (Struct' h members name) = record { name = name; members = row_objects members } ∷ []
item_structures (Located elem name dir size numbers) = []
item_structures (Func result name params locals body) = []
item_structures (DebugRow number elem path kind) = []

pub record Function : Type 0 where
  pub result : Option Elem
  pub name : List ℕ
  pub params : List CParam
  pub locals : List CLocal
  pub body : List CStmt

abbrev pub item_functions : CItem → List Function
item_functions (Object ty name dims) = []
item_functions (Struct' h members name) = []
item_functions (Located elem name dir size numbers) = []
item_functions (Func result name params locals body) = record { result = result; name = name; params = params; locals = locals; body = body } ∷ []
item_functions (DebugRow number elem path kind) = []

-- a cell: its type, its name and its address
pub record Cell : Type 0 where
  pub elem : Elem
  pub name : List ℕ
  pub dir : ℕ
  pub size : ℕ
  pub numbers : List ℕ

abbrev pub item_cells : CItem → List Cell
item_cells (Object ty name dims) = []
item_cells (Struct' h members name) = []
item_cells (Located elem name dir size numbers) = record { elem = elem; name = name; dir = dir; size = size; numbers = numbers } ∷ []
item_cells (Func result name params locals body) = []
item_cells (DebugRow number elem path kind) = []

-- a debug row
pub record DebugLine : Type 0 where
  pub number : ℕ
  pub elem : Elem
  pub path : CPath
  pub kind : CRow

abbrev pub item_lines : CItem → List DebugLine
item_lines (Object ty name dims) = []
item_lines (Struct' h members name) = []
item_lines (Located elem name dir size numbers) = []
item_lines (Func result name params locals body) = []
item_lines (DebugRow number elem path kind) = record { number = number; elem = elem; path = path; kind = kind } ∷ []

abbrev pub objects_of : List CItem → List Variable
objects_of items = flat_map item_objects items

abbrev pub structures_of : List CItem → List Structure
structures_of items = flat_map item_structures items

abbrev pub functions_of : List CItem → List Function
functions_of items = flat_map item_functions items

abbrev pub cells_of : List CItem → List Cell
cells_of items = flat_map item_cells items

abbrev pub lines_of : List CItem → List DebugLine
lines_of items = flat_map item_lines items

-- ---- look-ups: the first declaration of a name counts

abbrev pub object_in : List Variable → List ℕ → Option Variable
object_in [] name = None
object_in (o ∷ os) name = if bytes_eq o.name name then Some o else object_in os name

abbrev pub structure_in : List Structure → List ℕ → Option Structure
structure_in [] name = None
structure_in (s ∷ ss) name = if bytes_eq s.name name then Some s else structure_in ss name

abbrev pub function_in : List Function → List ℕ → Option Function
function_in [] name = None
function_in (f ∷ fs) name = if bytes_eq f.name name then Some f else function_in fs name

abbrev pub cell_in : List Cell → List ℕ → Option Cell
cell_in [] name = None
cell_in (c ∷ cs) name = if bytes_eq c.name name then Some c else cell_in cs name

-- an address names the first cell that has its direction, its size and its numbers
abbrev pub cell_at : List Cell → (dir size : ℕ) → (numbers : List ℕ) → Option Cell
cell_at [] dir size numbers = None
cell_at (c ∷ cs) dir size numbers = if nat_eq c.dir dir && (nat_eq c.size size && bytes_eq c.numbers numbers) then Some c else cell_at cs dir size numbers

-- ---- types

-- the type of a part of an object, with the dimensions that are not indexed yet
pub record Shape : Type 0 where
  pub ty : CType
  pub dims : List ℕ

abbrev pub shape_of : Option Variable → Option Shape
shape_of None = None
shape_of (Some o) = Some (record { ty = o.ty; dims = o.dims })

abbrev pub member_in : Option Structure → List ℕ → Option Shape
member_in None field = None
member_in (Some s) field = shape_of (object_in s.members field)

abbrev pub shape_step : List Structure → CType → List ℕ → Key → Option Shape
shape_step ss (of.Struct name) [] (Named field) = member_in (structure_in ss name) field
shape_step ss (of.Plain e) [] (Named field) = None
shape_step ss (of.Flagged e) [] (Named field) = None
shape_step ss (of.Celled e) [] (Named field) = None
shape_step ss ty (d ∷ ds) (Named field) = None
shape_step ss ty [] (Nth i) = None
shape_step ss ty (d ∷ ds) (Nth i) = Some (record { ty = ty; dims = ds })

abbrev pub shape_from : List Structure → Option Shape → Place → Option Shape
shape_from ss None ks = None
shape_from ss (Some s) [] = Some s
shape_from ss (Some s) (k ∷ ks) = shape_from ss (shape_step ss s.ty s.dims k) ks

-- the shape of a place
abbrev pub shape_at : List CItem → Place → Option Shape
shape_at items [] = None
shape_at items (Nth i ∷ ks) = None
shape_at items (Named name ∷ ks) = shape_from (structures_of items) (shape_of (object_in (objects_of items) name)) ks

-- ---- leaves

-- each element of an array of so many dimensions, with the steps to it, the last dimension first to run
abbrev pub in_each_element : List ℕ → List Place → List Place
in_each_element [] leaves = leaves
in_each_element (d ∷ ds) leaves = flat_map (λ i. map (λ (p : Place). Nth i ∷ p) (in_each_element ds leaves)) (range_with_len 0 d)

-- the steps to each leaf of a type, where `inside` says those of a structure
abbrev pub leaves_of_type : (List ℕ → List Place) → CType → List Place
leaves_of_type inside (of.Plain e) = [] ∷ []
leaves_of_type inside (of.Flagged e) = [] ∷ []
leaves_of_type inside (of.Celled e) = [] ∷ []
leaves_of_type inside (of.Struct name) = inside name

abbrev pub leaves_of_member : (List ℕ → List Place) → Variable → List Place
leaves_of_member inside m = map (λ (p : Place). Named m.name ∷ p) (in_each_element m.dims (leaves_of_type inside m.ty))

-- of a structure, in the order of its members; the last structure stands first, and each knows those above it alone
abbrev pub leaves_of_structure : List Structure → List ℕ → List Place
leaves_of_structure [] name = []
leaves_of_structure (s ∷ above) name = if bytes_eq s.name name then flat_map (leaves_of_member (leaves_of_structure above)) s.members else leaves_of_structure above name

abbrev pub leaves_of_shape : List Structure → Option Shape → List Place
leaves_of_shape ss None = []
leaves_of_shape ss (Some s) = in_each_element s.dims (leaves_of_type (leaves_of_structure ss) s.ty)

-- the leaves at a place, in order
abbrev pub leaves_at : List CItem → Place → List Place
leaves_at items p = map (λ q. p ++ q) (leaves_of_shape (reverse (structures_of items)) (shape_at items p))
