-- The uses of names, numbers and declarations in a source that break a rule, and the least of them. The lists are in the
-- order of the text, but this says nothing: the least place counts.
use Rattle.std.specs.Prelude.{ℕ, nat_eq, nat_lt, Bool, true, false, not, ◌&&◌, ◌||◌, List, [], ◌∷◌, ◌++◌, map, take, ℤ, pos, is_some, Option, Some, None, Result, Ok, Err, ◌≡◌, codes, if◌then◌else◌}
use Rattle.std.specs.List.{flat_map, list_any, enumerate_from}
use Rattle.std.specs.Option.{option_map_or}
use Rattle.std.specs.Str.{bytes_eq}
use Rattle.plc_base.specs.Least.{unless, least}
use Rattle.plc_base.specs.declared.refusal.Place.{Place}
use Rattle.plc_base.specs.declared.refusal.Refusal.{Refusal}
use Rattle.plc_base.specs.declared.refusal.Rule.TheVariants.{NotYet}
use Rattle.plc_base.specs.declared.refusal.Stop.{Stop}
use Rattle.plc_base.specs.declared.refusal.Stop.TheVariants.{Refused, OutOfMemory}
use Rattle.plc_tree.specs.declared.tree.Id.{Id}
use Rattle.plc_tree.specs.declared.tree.Path.{Path}
use Rattle.plc_tree.specs.declared.tree.Part.{Part}
use Rattle.plc_tree.specs.declared.tree.Part as in_part
use Rattle.plc_tree.specs.declared.tree.Expr.{Expr, Row_of-Expr, end_of-Expr, more_of-Expr, Row_of-Part, end_of-Part, more_of-Part}
use Rattle.plc_tree.specs.declared.tree.Expr as e
use Rattle.plc_tree.specs.declared.tree.Label.{Label}
use Rattle.plc_tree.specs.declared.tree.Label.TheVariants as label
use Rattle.plc_tree.specs.declared.tree.Stmt.{Stmt, Row_of-Stmt, end_of-Stmt, more_of-Stmt, Row_of-Arm, end_of-Arm, more_of-Arm, Row_of-Choice, end_of-Choice, more_of-Choice}
use Rattle.plc_tree.specs.declared.tree.Stmt as s
use Rattle.plc_tree.specs.declared.tree.Body.{Body}
use Rattle.plc_tree.specs.declared.tree.Body.TheVariants.{St}
use Rattle.plc_tree.specs.declared.tree.Unit.{Unit as Source}
use Rattle.plc_tree.specs.declared.tree.TypeDef.{TypeDef}
use Rattle.plc_tree.specs.declared.tree.PouKind.{PouKind}
use Rattle.plc_tree.specs.declared.tree.PouKind.TheVariants.{Func, Block, Prog}
use Rattle.plc_tree.specs.declared.tree.Pou.{Pou}
use Rattle.plc_tree.specs.declared.tree.SectionKind.{SectionKind}
use Rattle.plc_tree.specs.declared.tree.SectionKind.TheVariants.{Input, Output, InOut, Own, External, Global}
use Rattle.plc_tree.specs.declared.tree.Section.{Section}
use Rattle.plc_tree.specs.declared.tree.Decl.{Decl}
use Rattle.plc_tree.specs.declared.tree.Located.{Located}
use Rattle.plc_tree.specs.declared.tree.Spec.{Spec}
use Rattle.plc_tree.specs.declared.tree.Spec.TheVariants as spec
use Rattle.plc_tree.specs.declared.tree.Init.{Init}
use Rattle.plc_tree.specs.declared.tree.Init as init
use Rattle.plc_tree.specs.declared.tree.Config.{Config}
use Rattle.plc_tree.specs.declared.tree.Resource.{Resource}
use Rattle.plc_tree.specs.declared.tree.Task.{Task}
use Rattle.plc_tree.specs.declared.tree.Inst.{Inst}
use Rattle.plc_base.specs.declared.elem.Elem.{Elem}
use Rattle.plc_base.specs.declared.elem.Elem.TheVariants.{Int, Bool as Boolean}
use Rattle.plc_typing.specs.Constants.{has_const, one_has_const, const_of, is_zero}
use Rattle.plc_typing.specs.Plain.{is_between, is_in_int, is_of, plain_number, plain_unary, plain_binary, plain, plain_one}
use Rattle.plc_typing.specs.Scope.{Types, is_elem, elem_of_spec, type_in, variables}
use Rattle.plc_typing.specs.Standard.{is_standard, is_one_of}

-- what doesn't suit its place is broken there
abbrev pub suits : Bool → Place → List Refusal
suits does at = unless does NotYet at

-- ---- expressions

-- where an expression stands: a call at its name, an operator at itself, another one at its first token
abbrev pub place_of_expr : Expr → Place
place_of_expr (e.Number z want at) = at
place_of_expr (e.Truth b at) = at
place_of_expr (e.Span ns at) = at
place_of_expr (e.Value owner name at name_at) = at
place_of_expr (e.Var' first at h parts) = at
place_of_expr (e.Paren' at h inner) = at
place_of_expr (e.Unary' op at h inner) = at
place_of_expr (e.Binary' op at h l k r) = at
place_of_expr (e.Call' name at h args) = at

-- indices and fields aren't built yet
abbrev pub part_faults : Part → List Refusal
part_faults (in_part.Field name at dot) = suits false dot
part_faults (in_part.Index' h list at) = suits false at

abbrev pub parts_faults : {m : _} → Row_of-Part m → List Refusal
parts_faults end_of-Part = []
parts_faults (more_of-Part p rest) = part_faults p ++ parts_faults rest

-- a variable
abbrev pub path_faults : Types → Path → List Refusal
path_faults types p = suits (is_some (types p.first)) p.at ++ flat_map part_faults p.parts

-- an operator that isn't plain, while its parts are
abbrev pub unplain : (parts : Bool) → Option Elem → Place → List Refusal
unplain parts whole at = suits (not parts || is_some whole) at

-- each node is plain, where its parts are
abbrev mutual
  pub node_faults : Types → Expr → List Refusal
  node_faults types (e.Number z want at) = suits (is_some (plain_number z want)) at
  node_faults types (e.Truth b at) = []
  node_faults types (e.Span ns at) = suits false at
  node_faults types (e.Value owner name at name_at) = suits false at
  node_faults types (e.Var' first at h parts) = suits (is_some (types first)) at ++ parts_faults parts
  node_faults types (e.Paren' at h inner) = one_faults types inner
  node_faults types (e.Unary' op at h inner) = one_faults types inner ++ unplain (is_some (plain_one types inner)) (plain_unary op (one_has_const inner) (plain_one types inner)) at
  node_faults types (e.Binary' op at h l k r) =
      one_faults types l
      ++ (one_faults types r ++ unplain (is_some (plain_one types l) && is_some (plain_one types r)) (plain_binary op (one_has_const l && one_has_const r) (plain_one types l) (plain_one types r)) at)
  node_faults types (e.Call' name at h args) = suits false at

  -- of the one expression in a row
  pub one_faults : Types → {m : _} → Row_of-Expr m → List Refusal
  one_faults types end_of-Expr = []
  one_faults types (more_of-Expr x rest) = node_faults types x

-- of the type that is wanted, where one is wanted and it has one
abbrev pub is_as_wanted : (want ty : Option Elem) → Bool
is_as_wanted want ty = option_map_or (λ w. option_map_or (is_elem w) ty true) want true

-- an expression that does what else is wanted of the whole, and is of the type that is wanted
abbrev pub whole_faults : Types → (does : Bool) → (want : Option Elem) → Expr → List Refusal
whole_faults types does want x = node_faults types x ++ suits (does && is_as_wanted want (plain types x)) (place_of_expr x)

abbrev pub expr_faults : Types → (want : Option Elem) → Expr → List Refusal
expr_faults types want x = whole_faults types true want x

-- the selector of a CASE has no number of its own, the step of a FOR isn't 0
abbrev pub pick_faults : Types → Expr → List Refusal
pick_faults types x = whole_faults types (not (has_const x)) (Some Int) x

abbrev pub step_faults : Types → Option Expr → List Refusal
step_faults types None = []
step_faults types (Some x) = whole_faults types (not (is_zero (const_of x))) (Some Int) x

-- ---- statements

-- a label is a number of INT, or two
abbrev pub label_faults : Label → List Refusal
label_faults (label.Range low high at) = suits (is_in_int low && is_in_int high) at
label_faults (label.Value owner name at name_at) = suits false at

-- the value of an assignment is of the target's type; the variable of a FOR is INT
abbrev mutual
  pub stmt_faults : Types → (inside : Bool) → Stmt → List Refusal
  stmt_faults types inside s.Empty = []
  stmt_faults types inside (s.Set to from) = path_faults types to ++ expr_faults types (types to.first) from
  stmt_faults types inside (s.Call name at args) = suits false at
  stmt_faults types inside (s.If' h arms k other) = arms_faults types inside arms ++ stmts_faults types inside other
  stmt_faults types inside (s.Case' pick h arms k other) = pick_faults types pick ++ (choices_faults types inside arms ++ stmts_faults types inside other)
  stmt_faults types inside (s.For' var start limit step h body) =
      suits (is_of Int (types var.first)) var.at
      ++ (flat_map part_faults var.parts ++ (expr_faults types (Some Int) start ++ (expr_faults types (Some Int) limit ++ (step_faults types step ++ stmts_faults types true body))))
  stmt_faults types inside (s.While' test h body) = expr_faults types (Some Boolean) test ++ stmts_faults types true body
  stmt_faults types inside (s.Repeat' h body test) = stmts_faults types true body ++ expr_faults types (Some Boolean) test
  stmt_faults types inside (s.Exit at) = suits inside at
  stmt_faults types inside (s.Return at) = []

  pub stmts_faults : Types → Bool → {m : _} → Row_of-Stmt m → List Refusal
  stmts_faults types inside end_of-Stmt = []
  stmts_faults types inside (more_of-Stmt x xs) = stmt_faults types inside x ++ stmts_faults types inside xs

  pub arms_faults : Types → Bool → {m : _} → Row_of-Arm m → List Refusal
  arms_faults types inside end_of-Arm = []
  arms_faults types inside (more_of-Arm test h body rest) = expr_faults types (Some Boolean) test ++ (stmts_faults types inside body ++ arms_faults types inside rest)

  pub choices_faults : Types → Bool → {m : _} → Row_of-Choice m → List Refusal
  choices_faults types inside end_of-Choice = []
  choices_faults types inside (more_of-Choice labels h body rest) = flat_map label_faults labels ++ (stmts_faults types inside body ++ choices_faults types inside rest)

abbrev pub body_faults : Types → Body → List Refusal
body_faults types (St stmts) = flat_map (stmt_faults types false) stmts

-- ---- what isn't built, or stands once

-- no element is built, and the first of them is broken
abbrev pub unbuilt_faults : {X : Type 0} → (at : X → Place) → List X → List Refusal
unbuilt_faults at [] = []
unbuilt_faults at (x ∷ xs) = suits false (at x)

-- one element has to stand there; without one it is broken at `missing`, and a second one is broken
abbrev pub sole_faults : {X : Type 0} → (at : X → Place) → (faults : X → List Refusal) → (missing : Place) → List X → List Refusal
sole_faults at faults missing [] = suits false missing
sole_faults at faults missing (x ∷ []) = faults x
sole_faults at faults missing (x ∷ (y ∷ ys)) = faults x ++ suits false (at y)

-- ---- declarations

-- a variable has no address yet
abbrev pub address_faults : Option Located → List Id → List Refusal
address_faults None names = []
address_faults (Some address) names = unbuilt_faults (λ (n : Id). n.at) names

abbrev pub place_of_spec : Spec → Place
place_of_spec (spec.Named n) = n.at
place_of_spec (spec.Sub base bounds) = base.at
place_of_spec (spec.Array bounds element at bracket) = at

-- INT and BOOL are built
abbrev pub is_built_spec : Spec → Bool
is_built_spec (spec.Named n) = bytes_eq n.name (codes "INT") || bytes_eq n.name (codes "BOOL")
is_built_spec (spec.Sub base bounds) = false
is_built_spec (spec.Array bounds element at bracket) = false

-- BOOL starts at TRUE, FALSE, 0 or 1, INT at one of its numbers, with its type before it or none
abbrev pub can_start : Elem → Init → Bool
can_start ty (init.Number z want at) =
    if is_elem Int ty then option_map_or (is_elem Int) want true && is_in_int z else not (is_some want) && is_between (pos 0) (pos 1) z
can_start ty (init.Truth b at) = is_elem Boolean ty
can_start ty (init.Span ns at) = false
can_start ty (init.Named n) = false
can_start ty (init.Value owner name at name_at) = false
can_start ty (init.List' h items at) = false
can_start ty (init.Struct' h parts at) = false

abbrev pub place_of_init : Init → Place
place_of_init (init.Number z want at) = at
place_of_init (init.Truth b at) = at
place_of_init (init.Span ns at) = at
place_of_init (init.Named n) = n.at
place_of_init (init.Value owner name at name_at) = at
place_of_init (init.List' h items at) = at
place_of_init (init.Struct' h parts at) = at

abbrev pub init_faults : Elem → Option Init → List Refusal
init_faults ty None = []
init_faults ty (Some i) = suits (can_start ty i) (place_of_init i)

-- the types and the initial values of a declaration
abbrev pub start_faults : Spec → Option Init → List Refusal
start_faults what start = suits (is_built_spec what) (place_of_spec what) ++ init_faults (elem_of_spec what) start

abbrev pub decl_faults : Decl → List Refusal
decl_faults d = address_faults d.located d.names ++ start_faults d.spec d.init

abbrev pub is_own : SectionKind → Bool
is_own Own = true
is_own Input = false
is_own Output = false
is_own InOut = false
is_own External = false
is_own Global = false

-- VAR without CONSTANT, RETAIN and NON_RETAIN, of which one would stand where the mark is
abbrev pub is_plain_section : Section → Bool
is_plain_section s = is_own s.kind && nat_eq s.mark.token s.at.token

abbrev pub section_faults : Section → List Refusal
section_faults s = suits (is_plain_section s) s.at ++ flat_map decl_faults s.decls

abbrev pub is_prog : PouKind → Bool
is_prog Prog = true
is_prog Func = false
is_prog Block = false

abbrev pub pou_faults : Pou → List Refusal
pou_faults p = suits (is_prog p.kind) p.at ++ (flat_map section_faults p.sections ++ body_faults (type_in (variables p.sections)) p.body)

-- ---- configurations

-- 1 ms to 1000000 ms, in nanoseconds
abbrev pub is_interval : ℤ → Bool
is_interval ns = is_between (pos 1000000) (pos 1000000000000) ns

abbrev pub is_priority : ℤ → Bool
is_priority value = is_between (pos 0) (pos 65535) value

abbrev pub task_faults : Task → List Refusal
task_faults t = suits (is_interval t.interval) t.interval_at ++ suits (is_priority t.priority.value) t.priority.at

abbrev pub is_task : List Task → List ℕ → Bool
is_task tasks name = list_any (λ (t : Task). bytes_eq name t.name) tasks

-- one of the name stands before this place
abbrev pub is_program : List Pou → Place → List ℕ → Bool
is_program pous before name = list_any (λ (p : Pou). bytes_eq name p.name && nat_lt p.at.token before.token) pous

-- an instance has a task, which one of the resource is
abbrev pub reference_faults : List Task → (inst : Place) → Option Id → List Refusal
reference_faults tasks inst None = suits false inst
reference_faults tasks inst (Some n) = suits (is_task tasks n.name) n.at

-- its task, and its program, which stands before the configuration
abbrev pub inst_faults : List Pou → (config : Place) → List Task → Inst → List Refusal
inst_faults pous config tasks i = reference_faults tasks i.at i.task ++ suits (is_program pous config i.program.name) i.program.at

-- one task and one instance, and no variables
abbrev pub resource_faults : List Pou → (config : Place) → Resource → List Refusal
resource_faults pous config r =
    unbuilt_faults (λ (s : Section). s.at) r.globals
    ++ (sole_faults (λ (t : Task). t.at) task_faults r.at r.tasks ++ sole_faults (λ (i : Inst). i.at) (inst_faults pous config r.tasks) r.at r.insts)

-- one resource, and no variables
abbrev pub config_faults : List Pou → Config → List Refusal
config_faults pous c = unbuilt_faults (λ (s : Section). s.at) c.globals ++ sole_faults (λ (r : Resource). r.at) (resource_faults pous c.at) c.at c.resources

-- ---- names

-- those of the first of some, since others aren't built
abbrev pub first_names : {X : Type 0} → (X → List Id) → List X → List Id
first_names of [] = []
first_names of (x ∷ xs) = of x

abbrev pub section_names : Section → List Id
section_names s = flat_map (λ (d : Decl). d.names) s.decls

abbrev pub pou_names : Pou → List Id
pou_names p = record { name = p.name; at = p.at } ∷ flat_map section_names p.sections

abbrev pub task_names : Task → List Id
task_names t = record { name = t.name; at = t.at } ∷ []

abbrev pub inst_names : Inst → List Id
inst_names i = record { name = i.name; at = i.at } ∷ []

abbrev pub resource_names : Resource → List Id
resource_names r = record { name = r.name; at = r.at } ∷ (first_names task_names r.tasks ++ first_names inst_names r.insts)

abbrev pub config_names : Config → List Id
config_names c = record { name = c.name; at = c.at } ∷ first_names resource_names c.resources

-- the first program stands before the first configuration
abbrev pub is_before : List Pou → List Config → Bool
is_before [] cs = true
is_before (p ∷ ps) [] = true
is_before (p ∷ ps) (c ∷ cs) = nat_lt p.at.token c.at.token

-- the declared names, in text order
abbrev pub names : Source → List Id
names u =
    if is_before u.pous u.configs then first_names pou_names u.pous ++ first_names config_names u.configs
    else (first_names config_names u.configs ++ first_names pou_names u.pous)

abbrev pub words : List Id → List (List ℕ)
words ids = map (λ (n : Id). n.name) ids

-- the name of this number is no standard one, and none before it is the same: neither these words nor an earlier one
abbrev pub name_faults : (front : List (List ℕ)) (all : List Id) → ℕ × Id → List Refusal
name_faults front all (k, n) = suits (not (is_one_of (front ++ words (take k all)) n.name || is_standard n.name)) n.at

-- names behind these words
abbrev pub names_faults : (front : List (List ℕ)) (all : List Id) → List Refusal
names_faults front all = flat_map (name_faults front all) (enumerate_from 0 all)

-- ---- the rules

-- all uses but those that declare a name: no types, one program and one configuration, or it is broken at the end
abbrev pub other_faults : (end : Place) → Source → List Refusal
other_faults end u =
    unbuilt_faults (λ (t : TypeDef). t.at) u.types
    ++ (sole_faults (λ (p : Pou). p.at) pou_faults end u.pous ++ sole_faults (λ (c : Config). c.at) (config_faults u.pous) end u.configs)

-- all uses that break a rule
abbrev pub faults : (end : Place) → Source → List Refusal
faults end u = names_faults [] (names u) ++ other_faults end u

-- the least of them
abbrev pub broken : (end : Place) → Source → Option Refusal
broken end u = least (faults end u)

-- the numbers of the declared names of a source where none is broken, or the least one that is
abbrev pub Numbered : (end : Place) → Source → Result (List (List ℕ)) Stop → Type 0
Numbered end u (Ok numbers) = (faults end u ≡ []) × (numbers ≡ words (names u))
Numbered end u (Err (Refused why)) = broken end u ≡ Some why
Numbered end u (Err OutOfMemory) = Unit {0}
