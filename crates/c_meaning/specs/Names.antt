-- Names: which words may be declared, and what each item declares.
use Rattle.std.specs.Prelude.{◌≡◌, ℕ, Bool, false, ◌||◌, List, [], ◌∷◌, ◌++◌, map, codes}
use Rattle.std.specs.List.{flat_map}
use Rattle.std.specs.Str.{bytes_eq}
use Rattle.plc_base.specs.Numbers.{elems}
use Rattle.c_tree.specs.declared.tree.CItem.{CItem, Struct', Object, Located, Func, DebugRow}
use Rattle.c_tree.specs.declared.tree.CParam.{CParam}
use Rattle.c_tree.specs.declared.tree.CParam.TheVariants as param
use Rattle.c_tree.specs.declared.tree.CLocal.{CLocal}
use Rattle.c_tree.specs.declared.tree.CStmt.{CStmt, Row_of-CStmt, end_of-CStmt, more_of-CStmt, Held-CStmt-If-2, None', Some'}
use Rattle.c_tree.specs.declared.tree.CStmt as stmt
use Rattle.c_tree.specs.Spelling.{elem_name, flagged_name, celled_name}
use Rattle.c_meaning.specs.Items.{Variable, row_objects}

abbrev pub is_among : List ℕ → List (List ℕ) → Bool
is_among name [] = false
is_among name (n ∷ ns) = bytes_eq n name || is_among name ns

-- no name stands twice
abbrev pub Apart : List (List ℕ) → Type 0
Apart [] = Unit {0}
Apart (n ∷ ns) = (is_among n ns ≡ false) × Apart ns

-- ---- words

-- the words and the forms of the language, but for its types
abbrev pub terminals : List (List ℕ)
terminals =
    codes "typedef" ∷ codes "struct" ∷ codes "void" ∷ codes "if" ∷ codes "else" ∷ codes "while" ∷ codes "break" ∷ codes "goto" ∷ codes "return"
    ∷ codes "__INIT_VAR" ∷ codes "__SET_VAR" ∷ codes "__GET_VAR" ∷ codes "__INIT_LOCATED" ∷ codes "__SET_LOCATED" ∷ codes "__GET_LOCATED"
    ∷ codes "__COPY" ∷ codes "__PUBLISH" ∷ codes "__CURRENT_TIME" ∷ codes "__LOCATED_VAR" ∷ codes "__DEBUG_ROW" ∷ []

abbrev pub own_words : List (List ℕ)
own_words = terminals ++ (map flagged_name elems ++ (map celled_name elems ++ map elem_name elems))

-- a name that may be declared
abbrev pub IsFree : List ℕ → Type 0
IsFree name = is_among name own_words ≡ false

-- ---- what is declared

-- the names of file scope
abbrev pub item_names : CItem → List (List ℕ)
item_names (Struct' h members name) = name ∷ []
item_names (Object ty name dims) = name ∷ []
item_names (Located elem name dir size numbers) = name ∷ []
item_names (Func result name params locals body) = name ∷ []
item_names (DebugRow number elem path kind) = []

abbrev pub file_names : List CItem → List (List ℕ)
file_names items = flat_map item_names items

abbrev pub param_name : CParam → List ℕ
param_name (param.Value e n) = n
param_name (param.Pointer to n) = n

abbrev pub local_names : List CParam → List CLocal → List (List ℕ)
local_names params locals = map param_name params ++ map (λ (l : CLocal). l.name) locals

-- the label that a statement is
abbrev pub own_label : CStmt → List (List ℕ)
own_label (stmt.Label name) = name ∷ []
own_label x = []

-- the labels of a statement, those in its blocks too
abbrev mutual
  pub labels_of : CStmt → List (List ℕ)
  labels_of (stmt.If' test h body other) = labels_in body ++ labels_of_else other
  labels_of (stmt.While' test h body) = labels_in body
  labels_of x = own_label x

  pub labels_in : {m : _} → Row_of-CStmt m → List (List ℕ)
  labels_in end_of-CStmt = []
  labels_in (more_of-CStmt x rest) = labels_of x ++ labels_in rest

  pub labels_of_else : Held-CStmt-If-2 → List (List ℕ)
  labels_of_else None' = []
  labels_of_else (Some' h stmts) = labels_in stmts

-- all names that an item declares
abbrev pub declared_names : CItem → List (List ℕ)
declared_names (Struct' h members name) = map (λ (m : Variable). m.name) (row_objects members) ++ (name ∷ [])
declared_names (Object ty name dims) = name ∷ []
declared_names (Located elem name dir size numbers) = name ∷ []
declared_names (Func result name params locals body) = name ∷ local_names params locals ++ flat_map labels_of body
declared_names (DebugRow number elem path kind) = []
