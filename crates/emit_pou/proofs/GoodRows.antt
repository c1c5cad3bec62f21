-- The variables of a program are found among its members, and their debug rows break no rule.
use Rattle.std.proofs.Common.{◌≡◌, refl, sym, ap, ◌∙◌, ℕ, ◌+◌, ◌^◌, ◌<◌, ◌≤◌, List, [], ◌∷◌, ◌++◌, map, length, append-nil, length-append, arith, Bool, true, false, Option, Some, None}
use Rattle.std.specs.Prelude.{not, nat_eq, nat_le, ◌&&◌, ◌||◌, is_some, if◌then◌else◌}
use Rattle.std.specs.Str.{bytes_eq}
use Rattle.std.proofs.lemmas.Bool.{or_parts}
use Rattle.std.proofs.lemmas.Bool.Decides.{nat_tests}
use Rattle.std.proofs.lemmas.Grind.{flat_map-append}
use Rattle.plc_base.specs.declared.elem.Elem.{Elem}
use Rattle.plc_base.proofs.Bytes.{bytes_eq-self, bytes_eq-turned}
use Rattle.plc_tree.specs.declared.typed.TVar.{TVar}
use Rattle.plc_tree.specs.Rows.{Row, var_row, elem_of}
use Rattle.c_tree.specs.declared.tree.CItem.{CItem}
use Rattle.c_tree.specs.declared.tree.CRow.TheVariants as row
use Rattle.c_tree.specs.declared.tree.CType.TheVariants as of
use Rattle.c_tree.specs.Spelling.{elem_name}
use Rattle.c_tree.specs.WellSpelled.{Every}
use Rattle.c_meaning.specs.Items.{Variable, Structure, Shape, item_objects, item_structures, item_lines, objects_of, structures_of, lines_of, object_in, shape_of, member_in, shape_from}
use Rattle.c_meaning.specs.Objects.{Named}
use Rattle.c_meaning.specs.Names.{is_among, Apart}
use Rattle.c_meaning.specs.Reach.{file_scope, name_shape, is_declared, Astray, Unknown, Leads, leads_or, first_reach, field_reach, path_reach, has_kind, is_unknown}
use Rattle.c_meaning.specs.Rules.{wants, member_faults, path_faults, suits_row}
use Rattle.c_meaning.proofs.RuleViews.{NoFaults, none, granted, ItemsGood}
use Rattle.emit_pou.specs.Emitted.{row_path, debug_row, debug_rows_from}
use Rattle.emit_pou.specs.Single.{Single}
use Rattle.emit_pou.proofs.Schedules.{inst_of, resource_of}
use Rattle.emit_pou.proofs.MemberRows.{variable, structure}
use Rattle.emit_pou.proofs.GoodNames.{object}

abbrev var_name : TVar → List ℕ
var_name v = v.name

-- ---- each variable is found by its name

abbrev pub IsFound : List TVar → TVar → Type 0
IsFound vs v = object_in (map variable vs) v.name ≡ Some (variable v)

found_later : (w : TVar) (vs us : List TVar) → is_among w.name (map var_name us) ≡ false → Every (IsFound vs) us → Every (IsFound (w ∷ vs)) us
found_later w vs [] h e = tt
found_later w vs (u ∷ us) h e =
    let p = or_parts (bytes_eq u.name w.name) (is_among w.name (map var_name us)) h in
    (ap (λ b. if b then Some (variable w) else object_in (map variable vs) u.name) (bytes_eq-turned u.name w.name p.0) ∙ e.0, found_later w vs us p.1 e.1)

pub all_found : (vs : List TVar) → Apart (map var_name vs) → Every (IsFound vs) vs
all_found [] h = tt
all_found (v ∷ vs) h =
    (ap (λ b. if b then Some (variable v) else object_in (map variable vs) v.name) (bytes_eq-self v.name), found_later v vs vs h.0 (all_found vs h.1))

-- ---- debug rows

or_true : (a b : Bool) → b ≡ true → (a || b) ≡ true
or_true true b e = refl
or_true false b e = e

-- a number of a row is in its place and not too great
numbered : (k n : ℕ) → n ≡ k → k < 2 ^ 31 → (nat_eq k n && nat_le k 2147483647) ≡ true
numbered k n e h = let a : nat_eq k n ≡ true = grind (arith, nat_tests) in let b : nat_le k 2147483647 ≡ true = grind (arith, nat_tests) in rw (a, b) refl

suited : (e : Elem) → suits_row row.Var e (record { ty = of.Flagged e; dims = [] }) ≡ true
suited e = ap (λ b. b && true) (bytes_eq-self (elem_name e))

module _ (x : Single) where
  abbrev pub instance_object : Variable
  instance_object = record { ty = of.Struct x.pou.name; name = object x; dims = [] }

  abbrev flagged : TVar → Shape
  flagged v = record { ty = of.Flagged (elem_of v.ty); dims = [] }

  abbrev row_of : TVar → Row
  row_of v = var_row (resource_of x) (inst_of x) v

  abbrev shape_in : List Structure → List Variable → List ℕ → Option Shape
  shape_in ss os field = shape_from ss (shape_of (object_in os (object x))) (Named field ∷ [])

  pub shape_known : (v : TVar) → IsFound x.pou.vars v → shape_in (structure x.pou ∷ []) (instance_object ∷ []) v.name ≡ Some (record { ty = of.Flagged (elem_of v.ty); dims = [] })
  shape_known v h =
      ap (λ b. shape_from (structure x.pou ∷ []) (shape_of (if b then Some instance_object else None)) (Named v.name ∷ [])) (bytes_eq-self (object x))
      ∙ ap (λ b. shape_from (structure x.pou ∷ []) (member_in (if b then Some (structure x.pou) else None) v.name) []) (bytes_eq-self x.pou.name)
      ∙ ap (λ o. shape_from (structure x.pou ∷ []) (shape_of o) []) h

  -- the path of a row leads to a value with flags
  row_good : (above : List CItem) (e : structures_of above ≡ structure x.pou ∷ []) (f : objects_of above ≡ instance_object ∷ []) (v : TVar) → IsFound x.pou.vars v
      → field_reach (structures_of above) (first_reach (file_scope above) (object x) None) v.name ≡ Leads (flagged v)
  row_good above e f v h =
      (λ i. field_reach (e i) (leads_or (if is_declared (file_scope above) (object x) then Astray else Unknown) (shape_of (object_in (f i) (object x)))) v.name)
      ∙ ap (λ b. field_reach (structure x.pou ∷ []) (leads_or (if is_declared (file_scope above) (object x) then Astray else Unknown) (shape_of (if b then Some instance_object else None))) v.name)
      (bytes_eq-self (object x))
      ∙ ap (λ b. leads_or Unknown (member_in (if b then Some (structure x.pou) else None) v.name)) (bytes_eq-self x.pou.name)
      ∙ ap (λ o. leads_or Unknown (shape_of o)) h

  first_known : (above : List CItem) → objects_of above ≡ instance_object ∷ [] → name_shape (file_scope above) (object x) ≡ Some (record { ty = of.Struct x.pou.name; dims = [] })
  first_known above f = ap (λ os. shape_of (object_in os (object x))) f ∙ ap (λ b. shape_of (if b then Some instance_object else None)) (bytes_eq-self (object x))

  first_leads : (above : List CItem) → objects_of above ≡ instance_object ∷ [] → first_reach (file_scope above) (object x) None ≡ Leads (record { ty = of.Struct x.pou.name; dims = [] })
  first_leads above f = ap (leads_or (if is_declared (file_scope above) (object x) then Astray else Unknown)) (first_known above f)

  path_good : (above : List CItem) → structures_of above ≡ structure x.pou ∷ [] → objects_of above ≡ instance_object ∷ [] → (v : TVar) → IsFound x.pou.vars v
      → NoFaults (λ at. path_faults (file_scope above) (suits_row row.Var (elem_of v.ty)) at (row_path (row_of v)))
  path_good above e f v h at =
      none _ _
      (none _ _ (granted _ at (ap (has_kind (suits_row row.Var (elem_of v.ty))) (row_good above e f v h) ∙ suited (elem_of v.ty)))
      (granted _ at (ap is_some (first_known above f))))
      (none _ _ (ap (λ r. member_faults r (field_reach (structures_of above) r v.name) (at + 1 + 1)) (first_leads above f)
      ∙ ap (λ r. wants (not (is_unknown r)) (at + 1 + 1)) (sym (ap (λ r. field_reach (structures_of above) r v.name) (first_leads above f)) ∙ row_good above e f v h)) refl)

  pub good_rows : (all above : List CItem) (k : ℕ) (vs : List TVar)
      → length (lines_of above) ≡ k → structures_of above ≡ structure x.pou ∷ [] → objects_of above ≡ instance_object ∷ []
      → Every (IsFound x.pou.vars) vs → k + length vs ≤ 2 ^ 31 → ItemsGood all above (debug_rows_from k (map row_of vs))
  good_rows all above k [] n ss os h m = tt
  good_rows all above k (v ∷ vs) n ss os h m = (
    (λ at. none _ _ (none _ _ (granted _ (at + 2) (numbered k (length (lines_of above)) n (omega (arith, m))))
        (granted _ (at + 6) (or_true (is_unknown (path_reach (file_scope above) (row_path (row_of v)))) true refl))) (path_good above ss os v h.0 (at + 6))),
    good_rows all (above ++ debug_row k (row_of v) ∷ []) (k + 1) vs
        (ap length (flat_map-append item_lines above (debug_row k (row_of v) ∷ [])) ∙ length-append (lines_of above) _ ∙ ap (λ j. j + 1) n)
        (flat_map-append item_structures above (debug_row k (row_of v) ∷ []) ∙ append-nil (structures_of above) ∙ ss)
        (flat_map-append item_objects above (debug_row k (row_of v) ∷ []) ∙ append-nil (objects_of above) ∙ os)
        h.1
        (omega (arith, m)),
  )
