-- The emitted unit is good.
use Rattle.std.proofs.Common.{◌≡◌, refl, sym, ap, subst, ◌∙◌, ℕ, ◌+◌, ◌^◌, ◌≤◌, List, [], ◌∷◌, ◌++◌, map, length, true}
use Rattle.std.proofs.lemmas.List.{length-map}
use Rattle.plc_tree.specs.declared.typed.TVar.{TVar}
use Rattle.plc_tree.specs.Rows.{Row, rows, var_row}
use Rattle.plc_tree.specs.WellTyped.{IsTypedPou}
use Rattle.c_tree.specs.declared.tree.CItem.{CItem}
use Rattle.c_tree.specs.WellSpelled.{Every}
use Rattle.c_meaning.specs.Names.{IsFree, declared_names}
use Rattle.c_meaning.specs.Brackets.{open_item}
use Rattle.c_meaning.specs.Rules.{has_members, Good}
use Rattle.c_meaning.proofs.RuleViews.{no_labels, ItemsGood, unit_good}
use Rattle.emit_pou.specs.Emitted.{c_unit, debug_rows_from, init_stmts}
use Rattle.emit_pou.specs.Statements.{body_stmts}
use Rattle.emit_pou.specs.Single.{Single, unit_of}
use Rattle.emit_pou.specs.SourceNames.{HasSourceNames, IsSourceName}
use Rattle.emit_pou.proofs.Schedules.{inst_of, resource_of}
use Rattle.emit_pou.proofs.Fingerprints.{free_source}
use Rattle.emit_pou.proofs.MemberRows.{only_objects, declared_struct}
use Rattle.emit_pou.proofs.GoodBodies.{no_body_labels, no_init_labels}
use Rattle.emit_pou.proofs.GoodNames.{items_are, rows_are, known_items, listed, pou_free, init_free, body_free, object_free, start_free, run_free}
use Rattle.emit_pou.proofs.GoodItems.{good_items}
use Rattle.emit_pou.proofs.GoodLimits.{low_items}
use Rattle.emit_pou.proofs.WellSpelledUnit.{well_spelled}

-- ---- no declared name is a word of the language

abbrev AreFree : CItem → Type 0
AreFree item = Every IsFree (declared_names item)

free_rows : (k : ℕ) (rs : List Row) → Every AreFree (debug_rows_from k rs)
free_rows k [] = tt
free_rows k (r ∷ rs) = (tt, free_rows (k + 1) rs)

free_members : (vs : List TVar) (name : List ℕ) → Every (λ (v : TVar). IsSourceName v.name) vs → IsFree name → Every IsFree (map (λ (v : TVar). v.name) vs ++ (name ∷ []))
free_members [] name h f = (f, tt)
free_members (v ∷ vs) name h f = (free_source v.name h.0, free_members vs name h.1 f)

-- ---- members are objects

abbrev HasObjects : CItem → Type 0
HasObjects item = has_members item ≡ true

rows_have : (k : ℕ) (rs : List Row) → Every HasObjects (debug_rows_from k rs)
rows_have k [] = tt
rows_have k (r ∷ rs) = (refl, rows_have (k + 1) rs)

module _ (x : Single) (s : HasSourceNames x) (t : IsTypedPou x.pou) where
  free_items : Every AreFree (known_items x)
  free_items = (
    subst (Every IsFree) (sym (declared_struct x.pou)) (free_members x.pou.vars x.pou.name s.vars (pou_free x s)),
    (
      (init_free x s, (refl, subst (Every IsFree) (sym (no_labels (init_stmts x.pou) (no_init_labels x.pou.vars))) tt)),
      (
        (
          body_free x s,
          (
            refl,
            (
              refl,
              (refl, (refl, (refl, subst (Every IsFree) (sym (no_labels (body_stmts x.pou.vars x.pou.body) (no_body_labels x.pou.vars x.pou.body t.body))) tt))),
            ),
          ),
        ),
        (
          (object_free x s, tt),
          (
            (start_free x s, tt),
            ((run_free x s, (refl, tt)), ((refl, tt), ((refl, (refl, tt)), free_rows 0 (listed x)))),
          ),
        ),
      ),
    ),
  )

  object_items : Every HasObjects (known_items x)
  object_items = (only_objects x.pou, (refl, (refl, (refl, (refl, (refl, (refl, (refl, rows_have 0 (listed x)))))))))

  few_variables : length (rows (unit_of x)) ≤ 2 ^ 31 → length x.pou.vars ≤ 2 ^ 31
  few_variables m = subst (λ n. n ≤ 2 ^ 31) (ap length (rows_are x) ∙ length-map x.pou.vars (var_row (resource_of x) (inst_of x))) m

  pub good : length (rows (unit_of x)) ≤ 2 ^ 31 → Good (c_unit (unit_of x))
  good m = record {
    spelled = well_spelled x s t (few_variables m);
    free = subst (Every AreFree) (sym (items_are x)) free_items;
    members = subst (Every HasObjects) (sym (items_are x)) object_items;
    brackets = subst (Every (λ item. open_item item ≤ 1024)) (sym (items_are x)) (low_items x t);
    rules = unit_good (c_unit (unit_of x)) (subst (λ is. ItemsGood is [] is) (sym (items_are x)) (good_items x s t (few_variables m)));
  }
