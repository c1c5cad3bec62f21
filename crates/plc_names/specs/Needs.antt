-- What a type or a program organisation unit needs: the types that are named in it, the blocks that are declared, the
-- functions and blocks that are called, and the owners before "#"; also where the use itself breaks a rule. A name that
-- a program organisation unit declares itself, and a plain value, need nothing.
use Rattle.std.specs.Prelude.{ℕ, Bool, false, if◌then◌else◌, List, [], ◌∷◌, ◌++◌, map, Option, Some, None}
use Rattle.std.specs.List.{flat_map, list_any, filter_map}
use Rattle.std.specs.Option.{option_map_or}
use Rattle.std.specs.Str.{bytes_eq}
use Rattle.plc_base.specs.declared.refusal.Place.{Place}
use Rattle.plc_tree.specs.declared.tree.Id.{Id}
use Rattle.plc_tree.specs.declared.tree.Expr.{Expr, Row_of-Expr, end_of-Expr, more_of-Expr, Row_of-Part, end_of-Part, more_of-Part, Row_of-Arg, end_of-Arg, more_of-Arg}
use Rattle.plc_tree.specs.declared.tree.Expr as e
use Rattle.plc_tree.specs.declared.tree.Path.{Path}
use Rattle.plc_tree.specs.declared.tree.Part.{Part}
use Rattle.plc_tree.specs.declared.tree.Part as in_part
use Rattle.plc_tree.specs.declared.tree.Arg.{Arg}
use Rattle.plc_tree.specs.declared.tree.Arg as in_arg
use Rattle.plc_tree.specs.declared.tree.Label.{Label}
use Rattle.plc_tree.specs.declared.tree.Label.TheVariants as label
use Rattle.plc_tree.specs.declared.tree.Stmt.{Stmt, Row_of-Stmt, end_of-Stmt, more_of-Stmt, Row_of-Arm, end_of-Arm, more_of-Arm, Row_of-Choice, end_of-Choice, more_of-Choice}
use Rattle.plc_tree.specs.declared.tree.Stmt as s
use Rattle.plc_tree.specs.declared.tree.Body.{Body}
use Rattle.plc_tree.specs.declared.tree.Body.TheVariants.{St}
use Rattle.plc_tree.specs.declared.tree.Unit.{Unit as Source}
use Rattle.plc_tree.specs.declared.tree.TypeWhat.{TypeWhat}
use Rattle.plc_tree.specs.declared.tree.TypeWhat.TheVariants as what
use Rattle.plc_tree.specs.declared.tree.Member.{Member}
use Rattle.plc_tree.specs.declared.tree.Spec.{Spec}
use Rattle.plc_tree.specs.declared.tree.Spec.TheVariants as spec
use Rattle.plc_tree.specs.declared.tree.Init.{Init, Row_of-Item, end_of-Item, more_of-Item, Row_of-InitPart, end_of-InitPart, more_of-InitPart}
use Rattle.plc_tree.specs.declared.tree.Init as init
use Rattle.plc_tree.specs.declared.tree.Item.{Item as Element, Held-Item-Many-1}
use Rattle.plc_tree.specs.declared.tree.Item as in_item
use Rattle.plc_tree.specs.declared.tree.Pou.{Pou}
use Rattle.plc_tree.specs.declared.tree.Section.{Section}
use Rattle.plc_tree.specs.declared.tree.Decl.{Decl}
use Rattle.plc_names.specs.declared.declarations.Declaration.{Declaration}
use Rattle.plc_names.specs.Declarations.{Entry, OfType, OfPou, OfVars, OfConfig, OfResource, OfTask, OfInst, library_entries, source_entries}
use Rattle.plc_names.specs.Lookup.{number_in}
use Rattle.circles.specs.Needs.{is_circular}

-- ---- declarations

-- the type that is named: of an array its element's; a subrange is of an elementary one
abbrev pub spec_type : Spec → Id
spec_type (spec.Named n) = n
spec_type (spec.Sub base bounds) = base
spec_type (spec.Array bounds element at bracket) = element

-- the owners in an initial value, where they stand
abbrev mutual
  pub init_owners : Init → List Id
  init_owners (init.Number z want at) = []
  init_owners (init.Truth b at) = []
  init_owners (init.Span ns at) = []
  init_owners (init.Named n) = []
  init_owners (init.Value owner name at name_at) = record { name = owner; at = at } ∷ []
  init_owners (init.List' h items at) = items_owners items
  init_owners (init.Struct' h parts at) = parts_owners parts

  pub items_owners : {m : _} → Row_of-Item m → List Id
  items_owners end_of-Item = []
  items_owners (more_of-Item i rest) = element_owners i ++ items_owners rest

  pub element_owners : Element → List Id
  element_owners (in_item.One x) = init_owners x
  element_owners (in_item.Many' count held) = held_owners held

  pub held_owners : Held-Item-Many-1 → List Id
  held_owners in_item.None' = []
  held_owners (in_item.Some' x) = init_owners x

  pub parts_owners : {m : _} → Row_of-InitPart m → List Id
  parts_owners end_of-InitPart = []
  parts_owners (more_of-InitPart name at x rest) = init_owners x ++ parts_owners rest

abbrev pub start_owners : Option Init → List Id
start_owners None = []
start_owners (Some i) = init_owners i

-- the type and the owners in a declaration
abbrev pub spec_needs : Spec → Option Init → List Id
spec_needs what start = spec_type what ∷ start_owners start

abbrev pub member_needs : Member → List Id
member_needs m = spec_needs m.spec m.init

abbrev pub type_needs : TypeWhat → List Id
type_needs (what.Enum values start) = []
type_needs (what.Struct members) = flat_map member_needs members
type_needs (what.Spec w start) = spec_needs w start

abbrev pub decl_needs : Decl → List Id
decl_needs d = spec_needs d.spec d.init

abbrev pub section_needs : Section → List Id
section_needs s = flat_map decl_needs s.decls

abbrev pub result_needs : Option Id → List Id
result_needs None = []
result_needs (Some n) = n ∷ []

-- ---- bodies: what is called, and the owners

-- whether a name is declared in the program organisation unit itself
abbrev pub IsOwn : Type 0
IsOwn = List ℕ → Bool

-- a name that is called
abbrev pub called : IsOwn → List ℕ → Place → List Id
called own name at = if own name then [] else (record { name = name; at = at } ∷ [])

abbrev mutual
  pub expr_needs : IsOwn → Expr → List Id
  expr_needs own (e.Number z want at) = []
  expr_needs own (e.Truth b at) = []
  expr_needs own (e.Span ns at) = []
  expr_needs own (e.Value owner name at name_at) = record { name = owner; at = at } ∷ []
  expr_needs own (e.Var' first at h parts) = parts_needs own parts
  expr_needs own (e.Paren' at h inner) = exprs_needs own inner
  expr_needs own (e.Unary' op at h inner) = exprs_needs own inner
  expr_needs own (e.Binary' op at h l k r) = exprs_needs own l ++ exprs_needs own r
  expr_needs own (e.Call' name at h args) = called own name at ++ args_needs own args

  pub exprs_needs : IsOwn → {m : _} → Row_of-Expr m → List Id
  exprs_needs own end_of-Expr = []
  exprs_needs own (more_of-Expr x rest) = expr_needs own x ++ exprs_needs own rest

  pub parts_needs : IsOwn → {m : _} → Row_of-Part m → List Id
  parts_needs own end_of-Part = []
  parts_needs own (more_of-Part p rest) = part_needs own p ++ parts_needs own rest

  pub part_needs : IsOwn → Part → List Id
  part_needs own (in_part.Field name at dot) = []
  part_needs own (in_part.Index' h list at) = exprs_needs own list

  pub args_needs : IsOwn → {m : _} → Row_of-Arg m → List Id
  args_needs own end_of-Arg = []
  args_needs own (more_of-Arg a rest) = arg_needs own a ++ args_needs own rest

  pub arg_needs : IsOwn → Arg → List Id
  arg_needs own (in_arg.Plain x) = expr_needs own x
  arg_needs own (in_arg.Named name at x) = expr_needs own x
  arg_needs own (in_arg.Out' negate name at first to_at h parts) = parts_needs own parts

abbrev pub path_needs : IsOwn → Path → List Id
path_needs own p = flat_map (part_needs own) p.parts

abbrev pub step_needs : IsOwn → Option Expr → List Id
step_needs own None = []
step_needs own (Some x) = expr_needs own x

abbrev pub label_needs : Label → List Id
label_needs (label.Range low high at) = []
label_needs (label.Value None name at name_at) = []
label_needs (label.Value (Some owner) name at name_at) = record { name = owner; at = at } ∷ []

abbrev mutual
  pub stmt_needs : IsOwn → Stmt → List Id
  stmt_needs own s.Empty = []
  stmt_needs own (s.Set to from) = path_needs own to ++ expr_needs own from
  stmt_needs own (s.Call name at args) = called own name at ++ flat_map (arg_needs own) args
  stmt_needs own (s.If' h arms k other) = arms_needs own arms ++ stmts_needs own other
  stmt_needs own (s.Case' pick h arms k other) = expr_needs own pick ++ (choices_needs own arms ++ stmts_needs own other)
  stmt_needs own (s.For' var start limit step h body) =
      path_needs own var ++ (expr_needs own start ++ (expr_needs own limit ++ (step_needs own step ++ stmts_needs own body)))
  stmt_needs own (s.While' test h body) = expr_needs own test ++ stmts_needs own body
  stmt_needs own (s.Repeat' h body test) = stmts_needs own body ++ expr_needs own test
  stmt_needs own (s.Exit at) = []
  stmt_needs own (s.Return at) = []

  pub stmts_needs : IsOwn → {m : _} → Row_of-Stmt m → List Id
  stmts_needs own end_of-Stmt = []
  stmts_needs own (more_of-Stmt x xs) = stmt_needs own x ++ stmts_needs own xs

  pub arms_needs : IsOwn → {m : _} → Row_of-Arm m → List Id
  arms_needs own end_of-Arm = []
  arms_needs own (more_of-Arm test h body rest) = expr_needs own test ++ (stmts_needs own body ++ arms_needs own rest)

  pub choices_needs : IsOwn → {m : _} → Row_of-Choice m → List Id
  choices_needs own end_of-Choice = []
  choices_needs own (more_of-Choice labels h body rest) = flat_map label_needs labels ++ (stmts_needs own body ++ choices_needs own rest)

abbrev pub body_needs : IsOwn → Body → List Id
body_needs own (St stmts) = flat_map (stmt_needs own) stmts

abbrev pub decl_has : List ℕ → Decl → Bool
decl_has name d = list_any (λ (n : Id). bytes_eq name n.name) d.names

-- whether a section declares a name
abbrev pub section_has : List ℕ → Section → Bool
section_has name s = list_any (decl_has name) s.decls

abbrev pub sections_have : List Section → IsOwn
sections_have sections name = list_any (section_has name) sections

abbrev pub pou_needs : Pou → List Id
pou_needs p = result_needs p.result ++ (flat_map section_needs p.sections ++ body_needs (sections_have p.sections) p.body)

-- ---- the graph

abbrev pub values_of : TypeWhat → List Id
values_of (what.Enum values start) = values
values_of (what.Struct members) = []
values_of (what.Spec w start) = []

-- what each of the names needs that an entry declares: a type and a program organisation unit alone need something
abbrev pub needs_nothing : Id → List Id
needs_nothing n = []

abbrev pub rows_of : Entry → List (List Id)
rows_of (OfType t) = type_needs t.what ∷ map needs_nothing (values_of t.what)
rows_of (OfPou inner p) = pou_needs p ∷ []
rows_of (OfVars scope s d) = map needs_nothing d.names
rows_of (OfConfig scope inner c) = [] ∷ []
rows_of (OfResource scope inner r) = [] ∷ []
rows_of (OfTask scope t) = [] ∷ []
rows_of (OfInst scope i) = [] ∷ []

-- for each declaration, by its number, the names that it needs
abbrev pub rows : (library u : Source) → List (List Id)
rows library u = flat_map rows_of (library_entries library) ++ flat_map rows_of (source_entries library u)

-- the numbers of those names; one that no declaration in the scope of the source has is no need
abbrev pub numbers_needed : List Declaration → List Id → List ℕ
numbers_needed ds ns = filter_map (λ (n : Id). number_in ds 0 n.name) ns

-- what needs what, by the numbers of declarations
abbrev pub graph : List Declaration → List (List Id) → List (List ℕ)
graph ds rows = map (numbers_needed ds) rows

-- whether what a name of the scope of the source stands for needs itself
abbrev pub is_on_circle : List Declaration → List (List ℕ) → List ℕ → Bool
is_on_circle ds g name = option_map_or (is_circular g) (number_in ds 0 name) false
