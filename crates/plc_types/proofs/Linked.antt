-- In what the library and a source declare a name for another type needs it.
use Rattle.std.proofs.Common.{◌≡◌, refl, ap, ◌∙◌, zero, suc, ℕ, ◌+◌, List, [], ◌∷◌, ◌++◌, length, map, get_or, Bool, true, false, Option, Some, None, arith}
use Rattle.std.proofs.lemmas.List.{length-map}
use Rattle.std.specs.Prelude.{nat_eq, ◌||◌}
use Rattle.std.specs.List.{flat_map, list_any, cons_option, slice_get}
use Rattle.std.proofs.lemmas.Bool.Decides.{nat_tests}
use Rattle.plc_tree.specs.declared.tree.Id.{Id}
use Rattle.plc_tree.specs.declared.tree.Unit.{Unit as Source}
use Rattle.plc_tree.specs.declared.tree.TypeDef.{TypeDef}
use Rattle.plc_tree.specs.declared.tree.TypeWhat.{TypeWhat}
use Rattle.plc_tree.specs.declared.tree.TypeWhat.TheVariants as what
use Rattle.plc_tree.specs.declared.tree.Spec.TheVariants as spec
use Rattle.plc_tree.specs.declared.tree.Section.{Section}
use Rattle.plc_tree.specs.declared.tree.SectionKind.{SectionKind}
use Rattle.plc_tree.specs.declared.tree.SectionKind.TheVariants as section
use Rattle.plc_tree.specs.declared.tree.Spec.{Spec}
use Rattle.plc_tree.specs.declared.tree.PouKind.{PouKind}
use Rattle.plc_tree.specs.declared.tree.PouKind.TheVariants as pou
use Rattle.plc_names.specs.declared.declarations.Declaration.{Declaration}
use Rattle.plc_names.specs.declared.declarations.Written.{Written}
use Rattle.plc_names.specs.Declarations.{Entry, OfType, OfPou, OfVars, OfConfig, OfResource, OfTask, OfInst, written_type, kind_of_section, kind_of_pou, written_pou, value_declared, variable_declared, declared_of, declared_from, all_declared, library_entries, source_entries, made_of}
use Rattle.circles.specs.Circles.{Answer, Describes}
use Rattle.circles.specs.Needs.{needs}
use Rattle.plc_names.specs.Lookup.{number_in}
use Rattle.plc_names.specs.Needs.{type_needs, needs_nothing, rows_of, rows, numbers_needed, graph}
use Rattle.plc_names.specs.declared.types.Standing.{Standing}
use Rattle.plc_names.specs.Types.{standing_of}
use Rattle.plc_types.specs.Known.{standing_named}
use Rattle.plc_types.specs.Standings.{standings, asks, asks_written, IsLinked}
use Rattle.plc_types.proofs.Stands.{stands}

none_is_some : {X : Type 0} (x : X) → None ≡ Some x → ⊥
none_is_some x e = cc

-- a row begins with the name that its declaration asks for
abbrev Asked : Declaration → List Id → Type 0
Asked d row = (name : List ℕ) → asks d.kind d.ty ≡ Some name → (n : Id) × (rest : List Id) × (row ≡ n ∷ rest) × (n.name ≡ name)

-- declarations and rows, one beside the other
abbrev Beside : List Declaration → List (List Id) → Type 0
Beside [] [] = Unit {0}
Beside [] (r ∷ rs) = ⊥
Beside (d ∷ ds) [] = ⊥
Beside (d ∷ ds) (r ∷ rs) = Asked d r × Beside ds rs

both : (ds es : List Declaration) (rs qs : List (List Id)) → Beside ds rs → Beside es qs → Beside (ds ++ es) (rs ++ qs)
both [] es [] qs h g = g
both [] es (r ∷ rs) qs h g = absurd h
both (d ∷ ds) es [] qs h g = absurd h
both (d ∷ ds) es (r ∷ rs) qs h g = (h.0, both ds es rs qs h.1 g)

-- ---- entries

type_asked : (next : ℕ) (w : TypeWhat) (name : List ℕ) → asks_written (written_type next w) ≡ Some name → (n : Id) × (rest : List Id) × (type_needs w ≡ n ∷ rest) × (n.name ≡ name)
type_asked next (what.Enum values init) name e = absurd (none_is_some name e)
type_asked next (what.Struct members) name e = absurd (none_is_some name e)
type_asked next (what.Spec (spec.Named n) init) name e = (n, _, refl, (let q : n.name ≡ name = cc in q))
type_asked next (what.Spec (spec.Sub base bounds) init) name e = absurd (none_is_some name e)
type_asked next (what.Spec (spec.Array bounds element at bracket) init) name e = absurd (none_is_some name e)

values_asked : (own : Bool) (next : ℕ) (values : List Id) → Beside (map (value_declared own next) values) (map needs_nothing values)
values_asked own next [] = tt
values_asked own next (n ∷ ns) = ((λ name e. absurd (none_is_some name e)), values_asked own next ns)

section_asks : (k : SectionKind) (w : Written) (name : List ℕ) → asks (kind_of_section k) w ≡ Some name → ⊥
section_asks section.Input w name e = none_is_some name e
section_asks section.Output w name e = none_is_some name e
section_asks section.InOut w name e = none_is_some name e
section_asks section.Own w name e = none_is_some name e
section_asks section.External w name e = none_is_some name e
section_asks section.Global w name e = none_is_some name e

variables_asked : (own : Bool) (next scope : ℕ) (s : Section) (w : Spec) (ns : List Id) → Beside (map (variable_declared own next scope s w) ns) (map needs_nothing ns)
variables_asked own next scope s w [] = tt
variables_asked own next scope s w (n ∷ ns) = ((λ name e. absurd (section_asks s.kind _ name e)), variables_asked own next scope s w ns)

pou_asks : (inner : ℕ) (k : PouKind) (of : Option Id) (name : List ℕ) → asks (kind_of_pou k) (written_pou inner k of) ≡ Some name → ⊥
pou_asks inner pou.Func of name e = none_is_some name e
pou_asks inner pou.Block of name e = none_is_some name e
pou_asks inner pou.Prog of name e = none_is_some name e

what_beside : (own : Bool) (next : ℕ) (t : TypeDef) (w : TypeWhat) → Beside (declared_of own next (OfType (record { name = t.name; at = t.at; what = w }))) (rows_of (OfType (record { name = t.name; at = t.at; what = w })))
what_beside own next t (what.Enum values init) = (type_asked next (what.Enum values init), values_asked own next values)
what_beside own next t (what.Struct members) = (type_asked next (what.Struct members), tt)
what_beside own next t (what.Spec s init) = (type_asked next (what.Spec s init), tt)

entry_beside : (own : Bool) (next : ℕ) (x : Entry) → Beside (declared_of own next x) (rows_of x)
entry_beside own next (OfType t) = what_beside own next t t.what
entry_beside own next (OfPou inner p) = ((λ name e. absurd (pou_asks inner p.kind p.result name e)), tt)
entry_beside own next (OfVars scope s d) = variables_asked own next scope s d.spec d.names
entry_beside own next (OfConfig scope inner c) = ((λ name e. absurd (none_is_some name e)), tt)
entry_beside own next (OfResource scope inner r) = ((λ name e. absurd (none_is_some name e)), tt)
entry_beside own next (OfTask scope t) = ((λ name e. absurd (none_is_some name e)), tt)
entry_beside own next (OfInst scope i) = ((λ name e. absurd (none_is_some name e)), tt)

entries_beside : (own : Bool) (next : ℕ) (xs : List Entry) → Beside (declared_from own next xs) (flat_map rows_of xs)
entries_beside own next [] = tt
entries_beside own next (x ∷ xs) = both (declared_of own next x) (declared_from own (next + length (made_of x)) xs) (rows_of x) (flat_map rows_of xs) (entry_beside own next x) (entries_beside own (next + length (made_of x)) xs)

-- ---- numbers

beside_length : (ds : List Declaration) (rs : List (List Id)) → Beside ds rs → length rs ≡ length ds
beside_length [] [] h = refl
beside_length [] (r ∷ rs) h = absurd h
beside_length (d ∷ ds) [] h = absurd h
beside_length (d ∷ ds) (r ∷ rs) h = ap suc (beside_length ds rs h.1)

beside_at : (ds : List Declaration) (rs : List (List Id)) → Beside ds rs → (k : ℕ) (d : Declaration) → slice_get ds k ≡ Some d → Asked d (get_or rs k [])
beside_at [] [] h k d e = absurd (none_is_some d e)
beside_at [] (r ∷ rs) h k d e = absurd h
beside_at (x ∷ ds) [] h k d e = absurd h
beside_at (x ∷ ds) (r ∷ rs) h zero d e = λ name a. h.0 name (ap (λ y. asks y.kind y.ty) (let q : x ≡ d = cc in q) ∙ a)
beside_at (x ∷ ds) (r ∷ rs) h (suc k) d e = beside_at ds rs h.1 k d e

row_at : (ds : List Declaration) (rs : List (List Id)) (k : ℕ) → get_or (graph ds rs) k [] ≡ numbers_needed ds (get_or rs k [])
row_at ds [] k = refl
row_at ds (r ∷ rs) zero = refl
row_at ds (r ∷ rs) (suc k) = row_at ds rs k

-- a need stands in a row that begins with its name
first_needed : (ds : List Declaration) (n : Id) (rest : List Id) (j : ℕ) (o : Option ℕ) → number_in ds 0 n.name ≡ o → o ≡ Some j → list_any (nat_eq j) (numbers_needed ds (n ∷ rest)) ≡ true
first_needed ds n rest j o e f = ap (λ p. list_any (nat_eq j) (cons_option p (numbers_needed ds rest))) (e ∙ f) ∙ ap (λ b. b || list_any (nat_eq j) (numbers_needed ds rest)) (let q : nat_eq j j ≡ true = grind (arith, nat_tests) in q)

pub linked : (library u : Source) → IsLinked (all_declared library u) (graph (all_declared library u) (rows library u))
linked library u = record { sized = length-map (rows library u) (numbers_needed ds) ∙ beside_length ds (rows library u) beside; linked = need }
  where
    ds : List Declaration
    ds = all_declared library u

    beside : Beside (all_declared library u) (rows library u)
    beside = both _ _ _ _ (entries_beside false 0 (library_entries library)) (entries_beside true _ (source_entries library u))

    need : (k j : ℕ) (d : Declaration) (name : List ℕ) → slice_get (all_declared library u) k ≡ Some d → asks d.kind d.ty ≡ Some name → number_in (all_declared library u) 0 name ≡ Some j
        → needs (graph (all_declared library u) (rows library u)) k j ≡ true
    need k j d name at a is =
        let q = beside_at (all_declared library u) (rows library u) beside k d at name a in
        ap (list_any (nat_eq j)) (row_at (all_declared library u) (rows library u) k ∙ ap (numbers_needed (all_declared library u)) q.2)
        ∙ first_needed (all_declared library u) q.0 q.1 j (number_in (all_declared library u) 0 q.0.name) refl (ap (number_in (all_declared library u) 0) q.3 ∙ is)

-- what is found along the order of what needs what is what names stand for in the library and a source
pub stands_in : (library u : Source) (ds : List Declaration) (answer : Answer) (found : List (Option Standing)) → ds ≡ all_declared library u
    → Describes (graph (all_declared library u) (rows library u)) answer → found ≡ standings ds answer
    → (name : List ℕ) → standing_named ds found name ≡ standing_of (all_declared library u) (graph (all_declared library u) (rows library u)) name
stands_in library u ds answer found is tells so name =
    ap (λ f. standing_named ds f name) so ∙ ap (λ d. standing_named d (standings d answer) name) is
    ∙ stands (all_declared library u) (graph (all_declared library u) (rows library u)) answer (linked library u) tells name
