-- Where a path leads, among the items above it, in a function with these parameters and locals.
use Rattle.std.specs.Prelude.{nat_eq, ℕ, Bool, true, false, ◌||◌, ◌&&◌, List, [], ◌∷◌, ◌++◌, reverse, Option, Some, None, if◌then◌else◌}
use Rattle.std.specs.Str.{bytes_eq}
use Rattle.plc_base.specs.declared.elem.Elem.{Elem}
use Rattle.c_tree.specs.declared.tree.CItem.{CItem}
use Rattle.c_tree.specs.declared.tree.CType.{CType}
use Rattle.c_tree.specs.declared.tree.CType.TheVariants as of
use Rattle.c_tree.specs.declared.tree.CParam.{CParam}
use Rattle.c_tree.specs.declared.tree.CParam.TheVariants as param
use Rattle.c_tree.specs.declared.tree.CLocal.{CLocal}
use Rattle.c_tree.specs.declared.tree.CPath.{CPath}
use Rattle.c_tree.specs.declared.tree.CSel.{CSel}
use Rattle.c_tree.specs.declared.tree.CSel as sel
use Rattle.c_tree.specs.declared.tree.CExpr.{Row_of-CSel, end_of-CSel, more_of-CSel}
use Rattle.c_tree.specs.Spelling.{elem_name}
use Rattle.c_meaning.specs.Objects.{Named}
use Rattle.c_meaning.specs.Items.{Variable, Structure, Shape, objects_of, structures_of, object_in, structure_in, member_in, shape_of, shape_step}
use Rattle.c_meaning.specs.Names.{is_among, file_names, local_names}

-- what stands where: among the items above, in a function of this name, with these parameters, locals and labels and
-- this result, inside a `while` or not, in the outermost block or not
pub record Scope : Type 0 where
  pub above : List CItem
  pub own : List ℕ
  pub params : List CParam
  pub locals : List CLocal
  pub labels : List (List ℕ)
  pub result : Option Elem
  pub inside : Bool
  pub outermost : Bool

-- outside of a function, as debug rows stand
abbrev pub file_scope : List CItem → Scope
file_scope above = record { above = above; own = []; params = []; locals = []; labels = []; result = None; inside = false; outermost = true }

-- ---- names

abbrev pub plain_shape : Elem → Shape
plain_shape e = record { ty = of.Plain e; dims = [] }

-- the shape of a parameter by value or of a local
abbrev pub param_shape : List CParam → List ℕ → Option Shape
param_shape [] name = None
param_shape (param.Value e n ∷ ps) name = if bytes_eq n name then Some (plain_shape e) else param_shape ps name
param_shape (param.Pointer to n ∷ ps) name = param_shape ps name

abbrev pub local_shape : List CLocal → List ℕ → Option Shape
local_shape [] name = None
local_shape (l ∷ ls) name = if bytes_eq l.name name then Some (plain_shape l.elem) else local_shape ls name

-- the structure that a pointer points to
abbrev pub pointer_to : List CParam → List ℕ → Option (List ℕ)
pointer_to [] name = None
pointer_to (param.Value e n ∷ ps) name = pointer_to ps name
pointer_to (param.Pointer to n ∷ ps) name = if bytes_eq n name then Some to else pointer_to ps name

abbrev pub or_else : {A : Type 0} → Option A → Option A → Option A
or_else None other = other
or_else (Some x) other = Some x

-- a name is a parameter, a local or an object
abbrev pub name_shape : Scope → List ℕ → Option Shape
name_shape s name = or_else (param_shape s.params name) (or_else (local_shape s.locals name) (shape_of (object_in (objects_of s.above) name)))

-- whether a name is declared, as anything
abbrev pub is_declared : Scope → List ℕ → Bool
is_declared s name = is_among name (file_names s.above) || (is_among name (local_names s.params s.locals) || bytes_eq s.own name)

-- the member of what a name points to
abbrev pub member_of : List Structure → Option (List ℕ) → List ℕ → Option Shape
member_of ss None field = None
member_of ss (Some to) field = member_in (structure_in ss to) field

-- ---- paths

-- A path leads to a place of a shape, or astray, or nobody can say, since one of its names isn't declared. A member
-- after what is no structure counts as undeclared.
pub data Reach : Type 0 where
  Leads : Shape → Reach
  Astray : Reach
  Unknown : Reach

abbrev pub leads_or : Reach → Option Shape → Reach
leads_or other None = other
leads_or other (Some shape) = Leads shape

abbrev pub first_reach : Scope → List ℕ → Option (List ℕ) → Reach
first_reach s first None = leads_or (if is_declared s first then Astray else Unknown) (name_shape s first)
first_reach s first (Some field) = leads_or Unknown (member_of (structures_of s.above) (pointer_to s.params first) field)

abbrev pub field_reach : List Structure → Reach → List ℕ → Reach
field_reach ss (Leads shape) field = leads_or Unknown (shape_step ss shape.ty shape.dims (Named field))
field_reach ss Astray field = Unknown
field_reach ss Unknown field = Unknown

-- an element of an array; an index of what is no array leads astray
abbrev pub element_of : CType → List ℕ → Reach
element_of ty [] = Astray
element_of ty (d ∷ ds) = Leads (record { ty = ty; dims = ds })

abbrev pub index_reach : Reach → Reach
index_reach (Leads shape) = element_of shape.ty shape.dims
index_reach Astray = Astray
index_reach Unknown = Unknown

abbrev pub sel_reach : List Structure → Reach → CSel → Reach
sel_reach ss r (sel.Field name) = field_reach ss r name
sel_reach ss r (sel.Index e) = index_reach r

abbrev pub parts_reach : List Structure → Reach → {m : _} → Row_of-CSel m → Reach
parts_reach ss r end_of-CSel = r
parts_reach ss r (more_of-CSel x rest) = parts_reach ss (sel_reach ss r x) rest

abbrev pub sels_reach : List Structure → Reach → List CSel → Reach
sels_reach ss r [] = r
sels_reach ss r (x ∷ xs) = sels_reach ss (sel_reach ss r x) xs

abbrev pub path_reach : Scope → CPath → Reach
path_reach s p = sels_reach (structures_of s.above) (first_reach s p.first p.arrow) p.parts

-- ---- kinds

-- whether a path has the kind that its form needs; one that nobody can say of breaks no rule on its kind
abbrev pub has_kind : (Shape → Bool) → Reach → Bool
has_kind test (Leads shape) = test shape
has_kind test Astray = false
has_kind test Unknown = true

abbrev pub is_unknown : Reach → Bool
is_unknown (Leads shape) = false
is_unknown Astray = false
is_unknown Unknown = true

abbrev pub is_one : List ℕ → Bool
is_one [] = true
is_one (d ∷ ds) = false

abbrev pub any_kind : Shape → Bool
any_kind shape = true

abbrev pub type_is_plain : CType → Bool
type_is_plain (of.Plain e) = true
type_is_plain ty = false

abbrev pub is_plain : Shape → Bool
is_plain shape = type_is_plain shape.ty && is_one shape.dims

abbrev pub type_is_flagged : CType → Bool
type_is_flagged (of.Flagged e) = true
type_is_flagged ty = false

abbrev pub is_flagged : Shape → Bool
is_flagged shape = type_is_flagged shape.ty && is_one shape.dims

abbrev pub type_is_celled : CType → Bool
type_is_celled (of.Celled e) = true
type_is_celled ty = false

abbrev pub is_celled : Shape → Bool
is_celled shape = type_is_celled shape.ty && is_one shape.dims

abbrev pub type_is_structure : List ℕ → CType → Bool
type_is_structure to (of.Struct name) = bytes_eq name to
type_is_structure to ty = false

-- one structure of this name
abbrev pub is_structure : List ℕ → Shape → Bool
is_structure to shape = type_is_structure to shape.ty && is_one shape.dims

abbrev pub same_elem : Elem → Elem → Bool
same_elem a b = bytes_eq (elem_name a) (elem_name b)

-- ---- equal shapes

-- what a type is made of, by its leaves, its dimensions and the order of its members, whatever their names are
pub data Mark : Type 0 where
  Leaf : Elem → Mark
  -- a leaf without flags, or with a cell: it equals none
  Other : Mark
  Dimension : ℕ → Mark
  Open : Mark
  Shut : Mark

abbrev pub dims_marks : List ℕ → List Mark → List Mark
dims_marks [] marks = marks
dims_marks (d ∷ ds) marks = Dimension d ∷ dims_marks ds marks

abbrev pub type_marks : (List ℕ → List Mark) → CType → List Mark
type_marks inside (of.Plain e) = Other ∷ []
type_marks inside (of.Flagged e) = Leaf e ∷ []
type_marks inside (of.Celled e) = Other ∷ []
type_marks inside (of.Struct name) = inside name

abbrev pub members_marks : (List ℕ → List Mark) → List Variable → List Mark
members_marks inside [] = Shut ∷ []
members_marks inside (m ∷ ms) = dims_marks m.dims (type_marks inside m.ty) ++ members_marks inside ms

-- of a structure; the last structure stands first, and each knows those above it alone
abbrev pub structure_marks : List Structure → List ℕ → List Mark
structure_marks [] name = Other ∷ []
structure_marks (s ∷ above) name = if bytes_eq s.name name then Open ∷ members_marks (structure_marks above) s.members else structure_marks above name

abbrev pub shape_marks : List Structure → Shape → List Mark
shape_marks ss shape = dims_marks shape.dims (type_marks (structure_marks (reverse ss)) shape.ty)

abbrev pub same_mark : Mark → Mark → Bool
same_mark (Leaf a) (Leaf b) = same_elem a b
same_mark (Dimension a) (Dimension b) = nat_eq a b
same_mark Open Open = true
same_mark Shut Shut = true
same_mark a b = false

abbrev pub same_marks : List Mark → List Mark → Bool
same_marks [] [] = true
same_marks [] (b ∷ bs) = false
same_marks (a ∷ rest) [] = false
same_marks (a ∷ rest) (b ∷ bs) = same_mark a b && same_marks rest bs

-- whether a path may be copied from where another one leads: their shapes are equal, and all leaves have flags
abbrev pub may_copy : List Structure → Reach → Shape → Bool
may_copy ss (Leads to) from = same_marks (shape_marks ss to) (shape_marks ss from)
may_copy ss Astray from = true
may_copy ss Unknown from = true
