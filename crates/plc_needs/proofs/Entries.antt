-- The rows of all entries are those of the declarations that they belong to.
use Rattle.std.proofs.Common.{◌≡◌, refl, sym, ap, ◌∙◌, ℕ, ◌+◌, List, [], ◌∷◌, ◌++◌, append-nil, map}
use Rattle.std.specs.List.{flat_map, enumerate_from}
use Rattle.std.proofs.lemmas.Grind.{flat_map-append}
use Rattle.plc_tree.specs.declared.tree.Id.{Id}
use Rattle.plc_tree.specs.declared.tree.Unit.{Unit as Source}
use Rattle.plc_tree.specs.declared.tree.Config.{Config}
use Rattle.plc_tree.specs.declared.tree.Inst.{Inst}
use Rattle.plc_tree.specs.declared.tree.Pou.{Pou}
use Rattle.plc_tree.specs.declared.tree.Resource.{Resource}
use Rattle.plc_tree.specs.declared.tree.Section.{Section}
use Rattle.plc_tree.specs.declared.tree.Task.{Task}
use Rattle.plc_names.specs.Declarations.{Entry, OfVars, OfTask, OfInst, section_entries, pou_entries, resource_entries, names_scope, config_entries, item_entries, first_scope, config_scope, library_entries, source_entries}
use Rattle.plc_names.specs.Items.{What, AType, APou, AConfig, Item, items, own_items}
use Rattle.plc_names.specs.Needs.{rows_of, rows, pou_needs}
use Rattle.plc_needs.specs.Rows.{empty_rows, section_rows, pou_rows, resource_rows, config_rows, what_rows, item_rows}

-- ---- lists

pub flat_map-map : {X Y Z : Type 0} (f : Y → List Z) (g : X → Y) (xs : List X) → flat_map f (map g xs) ≡ flat_map (λ x. f (g x)) xs
flat_map-map f g [] = refl
flat_map-map f g (x ∷ xs) = ap (λ zs. f (g x) ++ zs) (flat_map-map f g xs)

-- where the elements of each list have together what one element has
flat_map-each : {X Y Z : Type 0} (f : Y → List Z) (g : X → List Y) (h : X → List Z) → ((x : X) → flat_map f (g x) ≡ h x) → (xs : List X) → flat_map f (flat_map g xs) ≡ flat_map h xs
flat_map-each f g h e [] = refl
flat_map-each f g h e (x ∷ xs) = flat_map-append f (g x) (flat_map g xs) ∙ (λ i. e x i ++ flat_map-each f g h e xs i)

numbered : {X Z : Type 0} (h : X → List Z) (k : ℕ) (xs : List X) → flat_map (λ (p : ℕ × X). h p.1) (enumerate_from k xs) ≡ flat_map h xs
numbered h k [] = refl
numbered h k (x ∷ xs) = ap (λ zs. h x ++ zs) (numbered h (k + 1) xs)

of_both : (xs ys : List Entry) (ps qs : List (List Id)) → flat_map rows_of xs ≡ ps → flat_map rows_of ys ≡ qs → flat_map rows_of (xs ++ ys) ≡ ps ++ qs
of_both xs ys ps qs e g = flat_map-append rows_of xs ys ∙ (λ i. e i ++ g i)

-- ---- entries

section_is : (scope : ℕ) (s : Section) → flat_map rows_of (section_entries scope s) ≡ section_rows s
section_is scope s = flat_map-map rows_of (OfVars scope s) s.decls

sections_are : (scope : ℕ) (ss : List Section) → flat_map rows_of (flat_map (section_entries scope) ss) ≡ flat_map section_rows ss
sections_are scope ss = flat_map-each rows_of (section_entries scope) section_rows (section_is scope) ss

tasks_are : (scope : ℕ) (ts : List Task) → flat_map rows_of (map (OfTask scope) ts) ≡ empty_rows ts
tasks_are scope [] = refl
tasks_are scope (t ∷ ts) = ap (λ rs. [] ∷ rs) (tasks_are scope ts)

insts_are : (scope : ℕ) (is : List Inst) → flat_map rows_of (map (OfInst scope) is) ≡ empty_rows is
insts_are scope [] = refl
insts_are scope (i ∷ is) = ap (λ rs. [] ∷ rs) (insts_are scope is)

pou_is : (inner : ℕ) (p : Pou) → flat_map rows_of (pou_entries inner p) ≡ pou_rows p
pou_is inner p = ap (λ rs. pou_needs p ∷ rs) (sections_are inner p.sections)

resource_is : (names : ℕ) (p : ℕ × Resource) → flat_map rows_of (resource_entries names p) ≡ resource_rows p.1
resource_is names (inner, r) =
    let globals = flat_map (section_entries inner) r.globals in
    let tasks = map (OfTask inner) r.tasks in
    let insts = map (OfInst inner) r.insts in
    ap (λ rs. [] ∷ rs)
    (of_both globals (tasks ++ insts) (flat_map section_rows r.globals) (empty_rows r.tasks ++ empty_rows r.insts) (sections_are inner r.globals)
    (of_both tasks insts (empty_rows r.tasks) (empty_rows r.insts) (tasks_are inner r.tasks) (insts_are inner r.insts)))

resources_are : (names first : ℕ) (rs : List Resource) → flat_map rows_of (flat_map (resource_entries names) (enumerate_from first rs)) ≡ flat_map resource_rows rs
resources_are names first rs =
    flat_map-each rows_of (resource_entries names) (λ (p : ℕ × Resource). resource_rows p.1) (resource_is names) (enumerate_from first rs) ∙ numbered resource_rows first rs

config_is : (inner : ℕ) (c : Config) → flat_map rows_of (config_entries inner c) ≡ config_rows c
config_is inner c =
    ap (λ rs. [] ∷ rs)
    (of_both (flat_map (section_entries inner) c.globals) (flat_map (resource_entries (names_scope inner c)) (enumerate_from (inner + 1) c.resources)) (flat_map section_rows c.globals) (flat_map resource_rows c.resources)
    (sections_are inner c.globals) (resources_are (names_scope inner c) (inner + 1) c.resources))

item_is : (first config : ℕ) (x : Item) → flat_map rows_of (item_entries first config x) ≡ item_rows x
item_is first config x = by x.token x.what
  where
    by : (token : ℕ) (w : What) → flat_map rows_of (item_entries first config (record { token = token; what = w })) ≡ what_rows w
    by token (AType t) = append-nil (what_rows (AType t))
    by token (APou k p) = pou_is (first + k) p
    by token (AConfig c) = config_is config c

-- ---- the library and a source

pub library_is : (library : Source) → flat_map rows_of (library_entries library) ≡ flat_map item_rows (own_items library)
library_is library = flat_map-each rows_of (item_entries 1 0) item_rows (item_is 1 0) (own_items library)

pub source_is : (library u : Source) → flat_map rows_of (source_entries library u) ≡ flat_map item_rows (items u)
source_is library u =
    let first = first_scope library in
    let config = config_scope library u in
    flat_map-each rows_of (item_entries first config) item_rows (item_is first config) (items u)

-- all rows
pub rows_are : (library u : Source) → flat_map item_rows (own_items library) ++ flat_map item_rows (items u) ≡ rows library u
rows_are library u = λ i. sym (library_is library) i ++ sym (source_is library u) i
