-- The rules of a unit: which of them are broken, each by the number of the token that it is broken at. The tokens are
-- numbered from 0 in the order of the texts, the line of the library is token 0, and the end of each text is one token.
-- A unit is good where no rule is broken.
use Rattle.std.specs.Prelude.{◌≡◌, ℕ, ◌+◌, ◌≤◌, nat_le, nat_lt, nat_eq, Bool, true, false, not, ◌&&◌, ◌||◌, List, [], ◌∷◌, ◌++◌, reverse, length, codes, is_some, Option, Some, None}
use Rattle.std.specs.List.{flat_map}
use Rattle.std.specs.Str.{bytes_eq}
use Rattle.plc_base.specs.declared.elem.Elem.{Elem}
use Rattle.plc_base.specs.declared.elem.Elem.TheVariants.{Ulint}
use Rattle.c_tree.specs.declared.tree.CUnit.{CUnit}
use Rattle.c_tree.specs.declared.tree.CPart.{CPart}
use Rattle.c_tree.specs.declared.tree.CItem.{CItem, Struct', Object, Located, Func, DebugRow, Row_of-CItem, end_of-CItem, more_of-CItem}
use Rattle.c_tree.specs.declared.tree.CType.{CType}
use Rattle.c_tree.specs.declared.tree.CType.TheVariants as of
use Rattle.c_tree.specs.declared.tree.CParam.{CParam}
use Rattle.c_tree.specs.declared.tree.CParam.TheVariants as param
use Rattle.c_tree.specs.declared.tree.CLocal.{CLocal}
use Rattle.c_tree.specs.declared.tree.CPath.{CPath}
use Rattle.c_tree.specs.declared.tree.CSel.{CSel}
use Rattle.c_tree.specs.declared.tree.CSel as sel
use Rattle.c_tree.specs.declared.tree.CArg.{CArg}
use Rattle.c_tree.specs.declared.tree.CArg as arg
use Rattle.c_tree.specs.declared.tree.CStmt.{CStmt, Row_of-CStmt, end_of-CStmt, more_of-CStmt, Held-CStmt-If-2, None', Some'}
use Rattle.c_tree.specs.declared.tree.CStmt as stmt
use Rattle.c_tree.specs.declared.tree.CExpr.{CExpr, Row_of-CExpr, end_of-CExpr, more_of-CExpr, Row_of-CSel, end_of-CSel, more_of-CSel, Row_of-CArg, end_of-CArg, more_of-CArg}
use Rattle.c_tree.specs.declared.tree.CExpr as expr
use Rattle.c_tree.specs.declared.tree.CRow.{CRow}
use Rattle.c_tree.specs.declared.tree.CRow.TheVariants.{Var, Loc, Step}
use Rattle.c_tree.specs.Spelling.{start_pieces, expr_pieces, side_pieces, sel_pieces, arg_pieces, path_pieces, stmt_pieces, stmts_pieces, local_pieces, param_pieces, params_pieces, item_pieces, items_pieces, row_pieces}
use Rattle.c_tree.specs.WellSpelled.{Every, WellSpelled}
use Rattle.c_meaning.specs.Items.{Structure, Function, Cell, Shape, all_items, functions_of, structures_of, cells_of, lines_of, structure_in, function_in, cell_in}
use Rattle.c_meaning.specs.Library.{library}
use Rattle.c_meaning.specs.Names.{is_among, IsFree, file_names, param_name, local_names, own_label, labels_of, declared_names}
use Rattle.c_meaning.specs.Brackets.{open_item, depth_of}
use Rattle.c_meaning.specs.Reach.{Scope, file_scope, name_shape, is_declared, pointer_to, member_of, Reach, Leads, Unknown, first_reach, sel_reach, parts_reach, path_reach, has_kind, is_unknown, any_kind, is_one, is_plain, is_flagged, is_celled, is_structure, same_elem, may_copy}

-- a rule is broken at a token, unless what it wants holds
abbrev pub wants : Bool → ℕ → List ℕ
wants true at = []
wants false at = at ∷ []

-- ---- paths

-- the names at the front of a path are declared, as what can stand there
abbrev pub first_faults : Scope → ℕ → List ℕ → Option (List ℕ) → List ℕ
first_faults s at first None = wants (is_some (name_shape s first)) at
first_faults s at first (Some field) = wants (is_some (pointer_to s.params first)) at ++ wants (is_some (member_of (structures_of s.above) (pointer_to s.params first) field)) (at + 2)

-- the place behind them
abbrev pub behind : ℕ → List ℕ → Option (List ℕ) → ℕ
behind at first arrow = at + length (start_pieces first arrow)

-- the kind of a path is looked at where it begins
abbrev pub front_faults : Scope → (Shape → Bool) → ℕ → List ℕ → Option (List ℕ) → {m : _} → Row_of-CSel m → List ℕ
front_faults s kind at first arrow parts = wants (has_kind kind (parts_reach (structures_of s.above) (first_reach s first arrow) parts)) at ++ first_faults s at first arrow

-- a member is one of the structure before it
abbrev pub member_faults : Reach → Reach → ℕ → List ℕ
member_faults Unknown after at = []
member_faults before after at = wants (not (is_unknown after)) at

-- ---- expressions

-- an argument has the kind of its parameter: a value, the address of a structure, or a pointer that is handed on; a path
-- that nobody can say of breaks no rule on it
abbrev pub is_path_unknown : Scope → CExpr → Bool
is_path_unknown s (expr.Path' first arrow h parts) = is_unknown (parts_reach (structures_of s.above) (first_reach s first arrow) parts)
is_path_unknown s e = false

abbrev pub points_to : Option (List ℕ) → List ℕ → Bool
points_to None to = false
points_to (Some name) to = bytes_eq name to

abbrev pub arg_fits : Scope → CParam → CArg → Bool
arg_fits s (param.Value e n) (arg.Value x) = true
arg_fits s (param.Value e n) (arg.Address' first arrow h parts) = is_unknown (parts_reach (structures_of s.above) (first_reach s first arrow) parts)
arg_fits s (param.Value e n) (arg.Pass name) = not (is_declared s name)
arg_fits s (param.Pointer to n) (arg.Value x) = is_path_unknown s x
arg_fits s (param.Pointer to n) (arg.Address' first arrow h parts) = has_kind (is_structure to) (parts_reach (structures_of s.above) (first_reach s first arrow) parts)
arg_fits s (param.Pointer to n) (arg.Pass name) = points_to (pointer_to s.params name) to || not (is_declared s name)

-- in number and kind
abbrev pub args_fit_in : Scope → List CParam → {m : _} → Row_of-CArg m → Bool
args_fit_in s [] end_of-CArg = true
args_fit_in s [] (more_of-CArg a rest) = false
args_fit_in s (p ∷ ps) end_of-CArg = false
args_fit_in s (p ∷ ps) (more_of-CArg a rest) = arg_fits s p a && args_fit_in s ps rest

abbrev pub args_fit : Scope → List CParam → List CArg → Bool
args_fit s [] [] = true
args_fit s [] (a ∷ rest) = false
args_fit s (p ∷ ps) [] = false
args_fit s (p ∷ ps) (a ∷ rest) = arg_fits s p a && args_fit s ps rest

-- a called function is defined above and its arguments fit
abbrev pub call_faults : Option Function → (List CParam → Bool) → ℕ → List ℕ
call_faults None fit at = at ∷ []
call_faults (Some f) fit at = wants (fit f.params) at

-- and where the call is an expression, it has a result
abbrev pub has_result : Option Function → Bool
has_result None = false
has_result (Some f) = is_some f.result

abbrev mutual
  pub expr_faults : Scope → ℕ → CExpr → List ℕ
  expr_faults s at (expr.Number value kind) = []
  -- what is read leads to a plain ELEM
  expr_faults s at (expr.Path' first arrow h parts) = front_faults s is_plain at first arrow parts ++ parts_faults s (first_reach s first arrow) (behind at first arrow) parts
  expr_faults s at expr.Moment = []
  expr_faults s at (expr.GetVar' first arrow h parts) = front_faults s is_flagged (at + 2) first arrow parts ++ parts_faults s (first_reach s first arrow) (behind (at + 2) first arrow) parts
  expr_faults s at (expr.GetLocated' first arrow h parts) =
      front_faults s is_celled (at + 2) first arrow parts ++ parts_faults s (first_reach s first arrow) (behind (at + 2) first arrow) parts
  expr_faults s at (expr.Call' name h args) =
      let f = function_in (functions_of s.above) name in
      call_faults f (λ params. args_fit_in s params args) at ++ wants (has_result f) at ++ args_faults_in s (at + 2) args
  expr_faults s at (expr.Bin' op h left k right) = side_faults s (at + 1) left ++ side_faults s (at + 2 + length (side_pieces left)) right
  expr_faults s at (expr.Un' op h inner) = side_faults s (at + 2) inner
  expr_faults s at (expr.Cast' to h inner) = side_faults s (at + 4) inner

  pub side_faults : Scope → ℕ → {m : _} → Row_of-CExpr m → List ℕ
  side_faults s at end_of-CExpr = []
  side_faults s at (more_of-CExpr e rest) = expr_faults s at e

  -- the parts of a path, where what stands before them leads
  pub parts_faults : Scope → Reach → ℕ → {m : _} → Row_of-CSel m → List ℕ
  parts_faults s r at end_of-CSel = []
  parts_faults s r at (more_of-CSel x rest) = sel_faults s r at x ++ parts_faults s (sel_reach (structures_of s.above) r x) (at + length (sel_pieces x)) rest

  pub sel_faults : Scope → Reach → ℕ → CSel → List ℕ
  sel_faults s r at (sel.Field name) = member_faults r (sel_reach (structures_of s.above) r (sel.Field name)) (at + 1)
  sel_faults s r at (sel.Index e) = expr_faults s (at + 1) e

  pub arg_faults : Scope → ℕ → CArg → List ℕ
  arg_faults s at (arg.Value e) = expr_faults s at e
  arg_faults s at (arg.Address' first arrow h parts) =
      front_faults s any_kind (at + 1) first arrow parts ++ parts_faults s (first_reach s first arrow) (behind (at + 1) first arrow) parts
  -- a pointer of this function
  arg_faults s at (arg.Pass name) = wants (is_some (pointer_to s.params name)) at

  pub args_faults_in : Scope → ℕ → {m : _} → Row_of-CArg m → List ℕ
  args_faults_in s at end_of-CArg = []
  args_faults_in s at (more_of-CArg a rest) = arg_faults s at a ++ args_faults_in s (at + length (arg_pieces a) + 1) rest

-- ---- paths and arguments of statements, as lists

abbrev pub sels_faults : Scope → Reach → ℕ → List CSel → List ℕ
sels_faults s r at [] = []
sels_faults s r at (x ∷ xs) = sel_faults s r at x ++ sels_faults s (sel_reach (structures_of s.above) r x) (at + length (sel_pieces x)) xs

abbrev pub path_faults : Scope → (Shape → Bool) → ℕ → CPath → List ℕ
path_faults s kind at p =
    (wants (has_kind kind (path_reach s p)) at ++ first_faults s at p.first p.arrow) ++ sels_faults s (first_reach s p.first p.arrow) (behind at p.first p.arrow) p.parts

abbrev pub args_faults : Scope → ℕ → List CArg → List ℕ
args_faults s at [] = []
args_faults s at (a ∷ rest) = arg_faults s at a ++ args_faults s (at + length (arg_pieces a) + 1) rest

abbrev pub path_size : CPath → ℕ
path_size p = length (path_pieces p)

-- ---- statements

-- a form that sets what a path of a kind leads to
abbrev pub setting_faults : Scope → (Shape → Bool) → ℕ → CPath → CExpr → List ℕ
setting_faults s kind at to from = path_faults s kind (at + 2) to ++ expr_faults s (at + 2 + path_size to + 1) from

-- the cell of `__INIT_LOCATED` is one of the same ELEM
abbrev pub elem_of : CType → Option Elem
elem_of (of.Celled e) = Some e
elem_of ty = None

abbrev pub suits_cell : Option Elem → Elem → Bool
suits_cell None e = true
suits_cell (Some want) e = same_elem want e

abbrev pub is_cell_of : Reach → Option Cell → Bool
is_cell_of r None = false
is_cell_of (Leads shape) (Some cell) = suits_cell (elem_of shape.ty) cell.elem
is_cell_of r (Some cell) = true

-- a value stands behind `return` exactly where the function has a result
abbrev pub is_return : Option Elem → Option CExpr → Bool
is_return None value = not (is_some value)
is_return (Some to) value = is_some value

abbrev pub value_faults : Scope → ℕ → Option CExpr → List ℕ
value_faults s at None = []
value_faults s at (Some e) = expr_faults s at e

-- within a block, and within the block of a `while`
abbrev pub in_block : Scope → Scope
in_block s = record s { outermost = false }

abbrev pub in_loop : Scope → Scope
in_loop s = record s { inside = true; outermost = false }

abbrev mutual
  pub stmt_faults : Scope → ℕ → CStmt → List ℕ
  stmt_faults s at (stmt.Set to from) = path_faults s is_plain at to ++ expr_faults s (at + path_size to + 1) from
  stmt_faults s at (stmt.InitVar to from) = setting_faults s is_flagged at to from
  stmt_faults s at (stmt.SetVar to from) = setting_faults s is_flagged at to from
  stmt_faults s at (stmt.InitLocated to cell) =
      path_faults s is_celled (at + 2) to ++ wants (is_cell_of (path_reach s to) (cell_in (cells_of s.above) cell)) (at + 2 + path_size to + 1)
  stmt_faults s at (stmt.SetLocated to from) = setting_faults s is_celled at to from
  -- the shapes are looked at where the second path begins
  stmt_faults s at (stmt.Copy to from) =
      path_faults s any_kind (at + 2) to ++ path_faults s (may_copy (structures_of s.above) (path_reach s to)) (at + 2 + path_size to + 1) from
  stmt_faults s at (stmt.Publish p) = path_faults s is_celled (at + 2) p
  stmt_faults s at (stmt.Call name args) = call_faults (function_in (functions_of s.above) name) (λ params. args_fit s params args) at ++ args_faults s (at + 2) args
  stmt_faults s at (stmt.If' test h body other) =
      expr_faults s (at + 2) test ++ stmts_faults (in_block s) (at + length (expr_pieces test) + 4) body
      ++ else_faults s (at + length (expr_pieces test) + 4 + length (stmts_pieces body) + 3) other
  stmt_faults s at (stmt.While' test h body) = expr_faults s (at + 2) test ++ stmts_faults (in_loop s) (at + length (expr_pieces test) + 4) body
  stmt_faults s at stmt.Break = wants s.inside at
  stmt_faults s at (stmt.Goto name) = wants (is_among name s.labels) (at + 1)
  stmt_faults s at (stmt.Label name) = wants s.outermost at
  stmt_faults s at (stmt.Return value) = wants (is_return s.result value) at ++ value_faults s (at + 1) value

  pub stmts_faults : Scope → ℕ → {m : _} → Row_of-CStmt m → List ℕ
  stmts_faults s at end_of-CStmt = []
  stmts_faults s at (more_of-CStmt x rest) = stmt_faults s at x ++ stmts_faults s (at + length (stmt_pieces x)) rest

  pub else_faults : Scope → ℕ → Held-CStmt-If-2 → List ℕ
  else_faults s at None' = []
  else_faults s at (Some' h stmts) = stmts_faults (in_block s) at stmts

-- a label stands once
abbrev pub label_faults : List CStmt → ℕ → CStmt → List ℕ
label_faults before at (stmt.Label name) = wants (not (is_among name (flat_map own_label before))) at
label_faults before at x = []

-- the statements of a function, behind those before them
abbrev pub body_faults : Scope → List CStmt → ℕ → List CStmt → List ℕ
body_faults s before at [] = []
body_faults s before at (x ∷ xs) = label_faults before at x ++ stmt_faults s at x ++ body_faults s (before ++ (x ∷ [])) (at + length (stmt_pieces x)) xs

-- ---- functions

-- the name of a structure that is declared above
abbrev pub is_structure_above : List CItem → List ℕ → Bool
is_structure_above above name = is_some (structure_in (structures_of above) name)

-- a parameter or local has no name of file scope, in the whole unit, and no name of one before it
abbrev pub is_new_local : (all : List CItem) → (before : List (List ℕ)) → List ℕ → Bool
is_new_local all before name = not (is_among name (file_names all)) && not (is_among name before)

abbrev pub param_faults : (all above : List CItem) → (before : List (List ℕ)) → ℕ → CParam → List ℕ
param_faults all above before at (param.Value e name) = wants (is_new_local all before name) (at + 1)
param_faults all above before at (param.Pointer to name) = wants (is_structure_above above to) at ++ wants (is_new_local all before name) (at + 2)

abbrev pub params_faults : (all above : List CItem) → (before : List (List ℕ)) → ℕ → List CParam → List ℕ
params_faults all above before at [] = []
params_faults all above before at (p ∷ ps) =
    param_faults all above before at p ++ params_faults all above (before ++ (param_name p ∷ [])) (at + length (param_pieces p) + 1) ps

-- an initial value sees the parameters and the locals before it
abbrev pub locals_faults : List CItem → Scope → ℕ → List CLocal → List ℕ
locals_faults all s at [] = []
locals_faults all s at (l ∷ ls) =
    wants (is_new_local all (local_names s.params s.locals) l.name) (at + 1) ++ expr_faults s (at + 3) l.init
    ++ locals_faults all (record s { locals = s.locals ++ (l ∷ []) }) (at + length (local_pieces l)) ls

-- a function with a result ends with `return` and a value
abbrev pub is_value_return : CStmt → Bool
is_value_return (stmt.Return (Some e)) = true
is_value_return x = false

abbrev pub ends_so : List CStmt → Bool
ends_so [] = false
ends_so (x ∷ []) = is_value_return x
ends_so (x ∷ y ∷ rest) = ends_so (y ∷ rest)

abbrev pub ends_well : Option Elem → List CStmt → Bool
ends_well None body = true
ends_well (Some to) body = ends_so body

-- the start has no parameters, the scan has one ULINT, and both are void
abbrev pub is_one_ulint : List CParam → Bool
is_one_ulint (param.Value e n ∷ []) = same_elem e Ulint
is_one_ulint params = false

abbrev pub is_no_params : List CParam → Bool
is_no_params [] = true
is_no_params (p ∷ ps) = false

abbrev pub starts_well : Function → Bool
starts_well f = not (bytes_eq f.name (codes "config_init__")) || (is_no_params f.params && not (is_some f.result))

abbrev pub scans_well : Function → Bool
scans_well f = not (bytes_eq f.name (codes "config_run__")) || (is_one_ulint f.params && not (is_some f.result))

-- the depth of a function among those above it
abbrev pub is_shallow : List CItem → Function → Bool
is_shallow above f = nat_le (depth_of (f ∷ reverse (functions_of above)) f.name) 4096

-- what stands in a function
abbrev pub scope_of : List CItem → Function → Scope
scope_of above f = record { above = above; own = f.name; params = f.params; locals = f.locals; labels = flat_map labels_of f.body; result = f.result; inside = false; outermost = true }

-- before its locals
abbrev pub front_of : List CItem → Function → Scope
front_of above f = record { above = above; own = f.name; params = f.params; locals = []; labels = []; result = f.result; inside = false; outermost = true }

-- how many tokens stand before the locals of a function, its result and its name among them
abbrev pub head_size : Function → ℕ
head_size f = 3 + length (params_pieces f.params) + 2

abbrev pub function_faults : (all above : List CItem) → ℕ → Function → List ℕ
function_faults all above at f =
    wants (ends_well f.result f.body) (at + 1) ++ wants (starts_well f) (at + 1) ++ wants (scans_well f) (at + 1) ++ wants (is_shallow above f) (at + 1)
    ++ params_faults all above [] (at + 3) f.params
    ++ locals_faults all (front_of above f) (at + head_size f) f.locals
    ++ body_faults (scope_of above f) [] (at + head_size f + length (flat_map local_pieces f.locals)) f.body

-- ---- objects

-- the type is declared above
abbrev pub type_faults : List CItem → ℕ → CType → List ℕ
type_faults above at (of.Struct name) = wants (is_structure_above above name) at
type_faults above at ty = []

-- dimensions are 1 to 65,536
abbrev pub dims_faults : ℕ → List ℕ → List ℕ
dims_faults at [] = []
dims_faults at (d ∷ ds) = wants (nat_le 1 d && nat_le d 65536) (at + 1) ++ dims_faults (at + 3) ds

-- a name is declared once
abbrev pub is_new : List (List ℕ) → List ℕ → Bool
is_new before name = not (is_among name before)

-- an object, or a member, whose name is new
abbrev pub object_faults : List CItem → (before : List (List ℕ)) → ℕ → CType → List ℕ → List ℕ → List ℕ
object_faults above before at ty name dims = type_faults above at ty ++ wants (is_new before name) (at + 1) ++ dims_faults (at + 2) dims

-- no name stands twice among the members of a structure
abbrev pub members_faults : List CItem → (before : List (List ℕ)) → ℕ → {m : _} → Row_of-CItem m → List ℕ
members_faults above before at end_of-CItem = []
members_faults above before at (more_of-CItem (Object ty name dims) rest) =
    object_faults above before at ty name dims ++ members_faults above (before ++ (name ∷ [])) (at + length (item_pieces (Object ty name dims))) rest
members_faults above before at (more_of-CItem x rest) = members_faults above before (at + length (item_pieces x)) rest

-- ---- debug rows

-- the kind of what a row leads to
abbrev pub row_is : CRow → CType → Bool
row_is Var (of.Flagged e) = true
row_is Loc (of.Celled e) = true
row_is Step (of.Flagged e) = true
row_is kind ty = false

abbrev pub type_elem_is : Elem → CType → Bool
type_elem_is e (of.Plain f) = same_elem f e
type_elem_is e (of.Flagged f) = same_elem f e
type_elem_is e (of.Celled f) = same_elem f e
type_elem_is e (of.Struct name) = false

abbrev pub suits_row : CRow → Elem → Shape → Bool
suits_row kind e shape = row_is kind shape.ty && (type_elem_is e shape.ty && is_one shape.dims)

-- its indices are numbers within bounds
abbrev pub below_first : List ℕ → ℕ → Bool
below_first [] value = false
below_first (d ∷ ds) value = nat_lt value d

abbrev pub is_within : Reach → ℕ → Bool
is_within (Leads shape) value = below_first shape.dims value
is_within r value = true

abbrev pub is_number_within : Reach → CSel → Bool
is_number_within r (sel.Field name) = true
is_number_within r (sel.Index (expr.Number value kind)) = is_within r value
is_number_within r (sel.Index e) = false

abbrev pub are_numbers_within : List Structure → Reach → List CSel → Bool
are_numbers_within ss r [] = true
are_numbers_within ss r (x ∷ xs) = is_number_within r x && are_numbers_within ss (sel_reach ss r x) xs

-- a path that nobody can say of breaks no rule on its indices
abbrev pub has_numbers : Scope → CPath → Bool
has_numbers s p = is_unknown (path_reach s p) || are_numbers_within (structures_of s.above) (first_reach s p.first p.arrow) p.parts

-- the rows are numbered from 0 in order
abbrev pub line_faults : List CItem → ℕ → (number : ℕ) → Elem → CPath → CRow → List ℕ
line_faults above at number e p kind =
    wants (nat_eq number (length (lines_of above)) && nat_le number 2147483647) (at + 2)
    ++ wants (has_numbers (file_scope above) p) (at + 6) ++ path_faults (file_scope above) (suits_row kind e) (at + 6) p

-- ---- items, each below those above it

abbrev pub item_faults : (all above : List CItem) → ℕ → CItem → List ℕ
item_faults all above at (Struct' h members name) =
    members_faults above [] (at + 3) members ++ wants (is_new (file_names above) name) (at + 3 + length (row_pieces members) + 1)
item_faults all above at (Object ty name dims) = object_faults above (file_names above) at ty name dims
item_faults all above at (Located elem name dir size numbers) =
    wants (is_new (file_names above) name) (at + 4) ++ wants (nat_lt (length (cells_of above)) 4294967295) (at + 4)
item_faults all above at (Func result name params locals body) =
    wants (is_new (file_names above) name) (at + 1)
    ++ function_faults all above at (record { result = result; name = name; params = params; locals = locals; body = body })
item_faults all above at (DebugRow number e p kind) = line_faults above at number e p kind

abbrev pub items_faults : (all above : List CItem) → ℕ → List CItem → List ℕ
items_faults all above at [] = []
items_faults all above at (x ∷ xs) = item_faults all above at x ++ items_faults all (above ++ (x ∷ [])) (at + length (item_pieces x)) xs

-- each text ends with a token
abbrev pub parts_of_unit_faults : (all above : List CItem) → ℕ → List CPart → List ℕ
parts_of_unit_faults all above at [] = []
parts_of_unit_faults all above at (p ∷ ps) =
    items_faults all above at p.items ++ parts_of_unit_faults all (above ++ p.items) (at + length (items_pieces p.items) + 1) ps

-- the tokens at which rules are broken; the least of them is answered
abbrev pub faults : CUnit → List ℕ
faults c = parts_of_unit_faults (all_items c) library 1 c.parts

-- ---- together

-- the members of a structure are objects, and nothing else (C99, 6.7.2.1)
abbrev pub is_object : CItem → Bool
is_object (Object ty name dims) = true
is_object x = false

abbrev pub are_objects : {m : _} → Row_of-CItem m → Bool
are_objects end_of-CItem = true
are_objects (more_of-CItem x rest) = is_object x && are_objects rest

abbrev pub has_members : CItem → Bool
has_members (Struct' h members name) = are_objects members
has_members x = true

-- what the productions want: names that are no words of the language, members that are objects, and at most 1,024 brackets
-- and braces that are open at once; then the rules
pub record Good (c : CUnit) : Type 0 where
  pub spelled : WellSpelled c
  pub free : Every (λ x. Every IsFree (declared_names x)) (all_items c)
  pub members : Every (λ x. has_members x ≡ true) (all_items c)
  pub brackets : Every (λ x. open_item x ≤ 1024) (all_items c)
  pub rules : faults c ≡ []
