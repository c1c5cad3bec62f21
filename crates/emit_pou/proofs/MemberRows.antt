-- The structure of a POU, with a list of its members where the tree has a row.
use Rattle.std.proofs.Common.{◌≡◌, refl, ap, ◌∙◌, ℕ, ◌+◌, List, [], ◌∷◌, ◌++◌, map, max, length, true, false}
use Rattle.std.specs.Prelude.{not}
use Rattle.std.specs.Str.{bytes_eq}
use Rattle.std.proofs.lemmas.Bool.{or_from, or_parts}
use Rattle.plc_base.proofs.Bytes.{bytes_eq-turned}
use Rattle.plc_tree.specs.declared.typed.TPou.{TPou}
use Rattle.plc_tree.specs.declared.typed.TVar.{TVar}
use Rattle.plc_tree.specs.Rows.{elem_of}
use Rattle.c_tree.specs.declared.tree.CItem.{CItem}
use Rattle.c_tree.specs.declared.tree.CItem.TheBlock.{hidden-the_row-CItem-0}
use Rattle.c_tree.specs.declared.tree.CType.TheVariants as of
use Rattle.c_tree.specs.Spelling.{item_pieces}
use Rattle.c_tree.specs.WellSpelled.{Every}
use Rattle.c_meaning.specs.Items.{Variable, Structure, row_objects, item_structures}
use Rattle.c_meaning.specs.Names.{is_among, Apart, file_names, declared_names}
use Rattle.c_meaning.specs.Brackets.{greatest, open_dims, open_item}
use Rattle.c_meaning.specs.Rules.{is_new, members_faults, item_faults, are_objects, has_members}
use Rattle.c_meaning.proofs.RuleViews.{NoFaults, none, granted}
use Rattle.emit_pou.proofs.Fingerprints.{among-append}
use Rattle.emit_pou.specs.Emitted.{member, pou_struct}

-- the member of a variable
abbrev pub variable : TVar → Variable
variable v = record { ty = of.Flagged (elem_of v.ty); name = v.name; dims = [] }

abbrev pub structure : TPou → Structure
structure p = record { name = p.name; members = map variable p.vars }

row_is_list : (vs : List TVar) → row_objects (hidden-the_row-CItem-0 (map member vs)) ≡ map variable vs
unfolding hidden-the_row-CItem-0 denote.Hole.Carrier.hidden
row_is_list [] = refl
row_is_list (v ∷ vs) = ap (λ (os : List Variable). variable v ∷ os) (row_is_list vs)

pub structures_is : (p : TPou) → item_structures (pou_struct p) ≡ structure p ∷ []
structures_is p = ap (λ (os : List Variable). record { name = p.name; members = os } ∷ []) (row_is_list p.vars)

all_objects : (vs : List TVar) → are_objects (hidden-the_row-CItem-0 (map member vs)) ≡ true
unfolding hidden-the_row-CItem-0 denote.Hole.Carrier.hidden
all_objects [] = refl
all_objects (v ∷ vs) = all_objects vs

pub only_objects : (p : TPou) → has_members (pou_struct p) ≡ true
only_objects p = all_objects p.vars

-- ---- no name stands twice among the members

abbrev NewTo : List (List ℕ) → TVar → Type 0
NewTo before v = is_among v.name before ≡ false

new_to_more : (before : List (List ℕ)) (v : TVar) (vs : List TVar) → Every (NewTo before) vs → is_among v.name (map (λ (w : TVar). w.name) vs) ≡ false
    → Every (NewTo (before ++ (v.name ∷ []))) vs
new_to_more before v [] h a = tt
new_to_more before v (w ∷ vs) h a =
    let p = or_parts (bytes_eq w.name v.name) (is_among v.name (map (λ (w : TVar). w.name) vs)) a in
    (among-append w.name before (v.name ∷ []) h.0 (or_from (bytes_eq v.name w.name) false (bytes_eq-turned w.name v.name p.0) refl), new_to_more before v vs h.1 p.1)

members_good : (above : List CItem) (before : List (List ℕ)) (vs : List TVar) → Every (NewTo before) vs → Apart (map (λ (w : TVar). w.name) vs)
    → NoFaults (λ at. members_faults above before at (hidden-the_row-CItem-0 (map member vs)))
unfolding hidden-the_row-CItem-0 denote.Hole.Carrier.hidden
members_good above before [] h a at = refl
members_good above before (v ∷ vs) h a at =
    none _ _ (none _ _ (granted (is_new before v.name) (at + 1) (ap not h.0)) refl)
    (members_good above (before ++ (v.name ∷ [])) vs (new_to_more before v vs h.1 a.0) a.1 (at + length (item_pieces (member v))))

pub good_struct : (all above : List CItem) (p : TPou) → Apart (map (λ (w : TVar). w.name) p.vars) → is_among p.name (file_names above) ≡ false
    → NoFaults (λ at. item_faults all above at (pou_struct p))
good_struct all above p apart new at =
    none _ _ (members_good above [] p.vars (anew p.vars) apart (at + 3)) (granted (is_new (file_names above) p.name) _ (ap not new))
  where
    anew : (vs : List TVar) → Every (NewTo []) vs
    anew [] = tt
    anew (v ∷ vs) = (refl, anew vs)

-- the names that it declares
pub declared_struct : (p : TPou) → declared_names (pou_struct p) ≡ map (λ (v : TVar). v.name) p.vars ++ (p.name ∷ [])
declared_struct p = ap (λ (os : List Variable). map (λ (m : Variable). m.name) os ++ (p.name ∷ [])) (row_is_list p.vars) ∙ ap (λ ns. ns ++ (p.name ∷ [])) (same_names p.vars)
  where
    same_names : (vs : List TVar) → map (λ (m : Variable). m.name) (map variable vs) ≡ map (λ (v : TVar). v.name) vs
    same_names [] = refl
    same_names (v ∷ vs) = ap (λ ns. v.name ∷ ns) (same_names vs)

no_brackets : (vs : List TVar) → greatest (λ (m : Variable). open_dims m.dims) (map variable vs) ≡ 0
no_brackets [] = refl
no_brackets (v ∷ vs) = ap (λ n. max 0 n) (no_brackets vs)

pub open_struct : (p : TPou) → open_item (pou_struct p) ≡ 1
open_struct p = ap (λ (os : List Variable). 1 + greatest (λ (m : Variable). open_dims m.dims) os) (row_is_list p.vars) ∙ ap (λ n. 1 + n) (no_brackets p.vars)
