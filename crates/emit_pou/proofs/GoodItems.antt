-- Each item of an emitted unit breaks no rule below those above it.
use Rattle.std.proofs.Common.{◌≡◌, refl, ap, ◌∙◌, ℕ, ◌+◌, ◌^◌, ◌≤◌, List, [], ◌∷◌, ◌++◌, length, arith, true, false, Some, None}
use Rattle.std.specs.Prelude.{not, ◌&&◌, ◌||◌, is_some, if◌then◌else◌}
use Rattle.std.specs.List.{flat_map}
use Rattle.std.specs.Str.{bytes_eq}
use Rattle.plc_base.specs.declared.elem.Elem.TheVariants.{Ulint}
use Rattle.plc_base.proofs.Bytes.{bytes_eq-self}
use Rattle.plc_tree.specs.WellTyped.{IsTypedPou}
use Rattle.c_tree.specs.declared.tree.CArg.TheVariants as arg
use Rattle.c_tree.specs.declared.tree.CExpr.TheVariants as expr
use Rattle.c_tree.specs.declared.tree.CItem.{CItem}
use Rattle.c_tree.specs.declared.tree.CItem.TheVariants as item
use Rattle.c_tree.specs.declared.tree.CLocal.{CLocal}
use Rattle.c_tree.specs.declared.tree.CParam.{CParam}
use Rattle.c_tree.specs.declared.tree.CType.TheVariants as of
use Rattle.c_tree.specs.declared.tree.CStmt.{CStmt}
use Rattle.c_tree.specs.declared.tree.CStmt.TheVariants as stmt
use Rattle.c_tree.specs.WellSpelled.{Every}
use Rattle.c_meaning.specs.Items.{Structure, Shape, Function, structures_of, structure_in, functions_of, function_in, object_in, shape_of}
use Rattle.c_meaning.specs.Names.{is_among, Apart, file_names, labels_of}
use Rattle.c_meaning.specs.Reach.{Scope, name_shape, or_else, param_shape, plain_shape, is_declared, Astray, Unknown, leads_or, has_kind, any_kind, is_structure}
use Rattle.c_meaning.specs.Rules.{wants, call_faults, args_fit, stmt_faults, params_faults, locals_faults, is_no_params, is_one_ulint, starts_well, scans_well, is_shallow, is_new, is_new_local, is_structure_above, scope_of, front_of, item_faults}
use Rattle.c_meaning.proofs.RuleViews.{NoFaults, none, granted, fits-Address, faults-Address, faults-Path, StmtsGood, NoLabel, body_good, ItemsGood}
use Rattle.emit_pou.specs.CNames.{init_name, body_name, start_name, run_name, config_init_name, config_run_name, self_name, tick_name}
use Rattle.emit_pou.specs.Expressions.{plain_path}
use Rattle.emit_pou.specs.Emitted.{pou_struct, init_stmts, self, tick, inst_call, start_call, run_call}
use Rattle.emit_pou.specs.Statements.{body_locals, body_stmts}
use Rattle.emit_pou.specs.Single.{Single}
use Rattle.emit_pou.specs.SourceNames.{HasSourceNames}
use Rattle.emit_pou.proofs.Schedules.{inst_of, resource_of}
use Rattle.emit_pou.proofs.Fingerprints.{fresh}
use Rattle.emit_pou.proofs.MemberRows.{structure, structures_is, good_struct}
use Rattle.emit_pou.proofs.GoodBodies.{good_stmts, good_inits, no_body_labels, no_init_labels}
use Rattle.emit_pou.proofs.GoodRows.{IsFound, all_found, good_rows, instance_object}
use Rattle.emit_pou.proofs.GoodNames.{differ, object, eight, known_items, names, names_apart, self_hidden, tick_hidden, locals_hidden, init_mark, body_mark, start_mark, run_mark, object_mark}
use Rattle.emit_pou.proofs.UnitFunctions.{f_init, f_body, f_start, f_run, f_config_init, f_config_run, init_found, body_found, start_found, run_found}
use Rattle.emit_pou.proofs.GoodLimits.{init_shallow, body_shallow, start_shallow, run_shallow, config_init_shallow, config_run_shallow}

-- ---- functions without a result

abbrev void_of : List ℕ → List CParam → List CLocal → List CStmt → Function
void_of name params locals body = record { result = None; name = name; params = params; locals = locals; body = body }

-- one that is neither the start nor the scan
other_starts : (f : Function) → bytes_eq f.name config_init_name ≡ false → starts_well f ≡ true
other_starts f e = ap (λ b. not b || (is_no_params f.params && not (is_some f.result))) e

other_scans : (f : Function) → bytes_eq f.name config_run_name ≡ false → scans_well f ≡ true
other_scans f e = ap (λ b. not b || (is_one_ulint f.params && not (is_some f.result))) e

module _ (all above : List CItem) (name : List ℕ) (params : List CParam) (locals : List CLocal) (body : List CStmt) where
  function_good : is_among name (file_names above) ≡ false → starts_well (void_of name params locals body) ≡ true → scans_well (void_of name params locals body) ≡ true
      → is_shallow above (void_of name params locals body) ≡ true → NoFaults (λ at. params_faults all above [] at params)
      → NoFaults (λ at. locals_faults all (front_of above (void_of name params locals body)) at locals)
      → Every NoLabel body → StmtsGood (scope_of above (void_of name params locals body)) body → NoFaults (λ at. item_faults all above at (item.Func None name params locals body))
  function_good new starts scans shallow ps ls unlabelled good at =
      none _ _ (granted (is_new (file_names above) name) (at + 1) (ap not new))
      (none _ _
      (none _ _
      (none _ _
      (none _ _ (none _ _ (granted _ (at + 1) starts) (granted _ (at + 1) scans)) (granted _ (at + 1) shallow))
      (ps (at + 3)))
      (ls _))
      (body_good (scope_of above (void_of name params locals body)) [] body unlabelled good _))

-- ---- calls

-- of a function that takes one structure, with the address of an object of it
calls_object : (s : Scope) (f : Function) (name object to : List ℕ) → function_in (functions_of s.above) name ≡ Some f → f.params ≡ self to ∷ []
    → name_shape s object ≡ Some (record { ty = of.Struct to; dims = [] }) → NoFaults (λ at. stmt_faults s at (stmt.Call name (arg.Address (plain_path object) ∷ [])))
calls_object s f name object to e ps known at =
    none _ _
    (ap (λ g. call_faults g (λ params. args_fit s params (arg.Address (plain_path object) ∷ [])) at) e
    ∙ granted _ at (ap (λ params. args_fit s params (arg.Address (plain_path object) ∷ [])) ps ∙ ap (λ b. b && true) (fits-Address s to self_name (plain_path object) ∙ kind)))
    (none _ _ (faults-Address s (at + 2) (plain_path object) ∙ path) refl)
  where
    kind : has_kind (is_structure to) (leads_or (if is_declared s object then Astray else Unknown) (name_shape s object)) ≡ true
    kind =
        ap (λ o. has_kind (is_structure to) (leads_or (if is_declared s object then Astray else Unknown) o)) known
        ∙ ap (λ b. b && true) (bytes_eq-self to)

    path : (wants (has_kind any_kind (leads_or (if is_declared s object then Astray else Unknown) (name_shape s object))) (at + 2 + 1) ++ wants (is_some (name_shape s object)) (at + 2 + 1)) ++ [] ≡ []
    path = ap (λ o. (wants (has_kind any_kind (leads_or (if is_declared s object then Astray else Unknown) o)) (at + 2 + 1) ++ wants (is_some o) (at + 2 + 1)) ++ []) known

module _ (x : Single) (s : HasSourceNames x) (t : IsTypedPou x.pou) where
  abbrev p : List ℕ
  p = x.pou.name

  abbrev r : List ℕ
  r = x.resource_name

  abbrev all : List CItem
  all = known_items x

  abbrev eight_items : List CItem
  eight_items = eight x p (body_stmts x.pou.vars x.pou.body)

  structure_found : (ss : List Structure) → ss ≡ structure x.pou ∷ [] → structure_in ss p ≡ Some (structure x.pou)
  structure_found ss e = ap (λ ts. structure_in ts p) e ∙ ap (λ b. if b then Some (structure x.pou) else None) (bytes_eq-self p)

  -- ---- parameters and locals

  self_good : (above : List CItem) → structures_of above ≡ structure x.pou ∷ [] → NoFaults (λ at. params_faults all above [] at (self p ∷ []))
  self_good above e at =
      none _ _
      (none _ _ (granted (is_structure_above above p) at (ap is_some (structure_found (structures_of above) e)))
      (granted (is_new_local all [] self_name) (at + 2) (ap (λ b. not b && true) (self_hidden x s))))
      refl

  tick_good : (above : List CItem) → NoFaults (λ at. params_faults all above [] at (tick ∷ []))
  tick_good above at = none _ _ (granted (is_new_local all [] tick_name) (at + 1) (ap (λ b. not b && true) (tick_hidden x s))) refl

  locals_good : (above : List CItem) → NoFaults (λ at. locals_faults all (front_of above (f_body x s)) at body_locals)
  locals_good above at =
      let h = locals_hidden x s in
      none _ _ (none _ _ (granted _ _ (ap (λ b. not b && true) h.0)) refl)
      (none _ _ (none _ _ (granted _ _ (ap (λ b. not b && true) h.1.0)) refl)
      (none _ _ (none _ _ (granted _ _ (ap (λ b. not b && true) h.1.1.0)) refl)
      (none _ _ (none _ _ (granted _ _ (ap (λ b. not b && true) h.1.1.1.0)) refl) refl)))

  -- ---- the object of the instance

  found : Every (IsFound x.pou.vars) x.pou.vars
  found = all_found x.pou.vars s.apart

  abbrev instance_shape : Shape
  instance_shape = record { ty = of.Struct p; dims = [] }

  -- in a function without parameters
  object_known : shape_of (object_in (instance_object x ∷ []) (object x)) ≡ Some instance_shape
  object_known = ap (λ b. shape_of (if b then Some (instance_object x) else None)) (bytes_eq-self (object x))

  -- and in one of the tick, whose name is another
  object_beside_tick : or_else (param_shape (tick ∷ []) (object x)) (shape_of (object_in (instance_object x ∷ []) (object x))) ≡ Some instance_shape
  object_beside_tick =
      ap (λ b. or_else (if b then Some (plain_shape Ulint) else None) (shape_of (object_in (instance_object x ∷ []) (object x)))) (differ tick_name (object x) _ _ refl (object_mark x s) refl)
      ∙ object_known

  -- ---- the items above each one

  abbrev one : List CItem
  one = pou_struct x.pou ∷ []

  abbrev two : List CItem
  two = one ++ (item.Func None (init_name p) (self p ∷ []) [] (init_stmts x.pou) ∷ [])

  abbrev three : List CItem
  three = two ++ (item.Func None (body_name p) (self p ∷ []) body_locals (body_stmts x.pou.vars x.pou.body) ∷ [])

  abbrev four : List CItem
  four = three ++ (item.Object (of.Struct p) (object x) [] ∷ [])

  abbrev five : List CItem
  five = four ++ (item.Func None (start_name r) [] [] (inst_call (init_name p) (resource_of x) (inst_of x) ∷ []) ∷ [])

  abbrev six : List CItem
  six = five ++ (item.Func None (run_name r) (tick ∷ []) [] (inst_call (body_name p) (resource_of x) (inst_of x) ∷ []) ∷ [])

  abbrev seven : List CItem
  seven = six ++ (item.Func None config_init_name [] [] (start_call (resource_of x) ∷ []) ∷ [])

  -- ---- each item

  apart : Apart (names x)
  apart = names_apart x s

  init_good : NoFaults (λ at. item_faults all one at (item.Func None (init_name p) (self p ∷ []) [] (init_stmts x.pou)))
  init_good =
      function_good all one (init_name p) (self p ∷ []) [] (init_stmts x.pou) (fresh (p ∷ []) (init_name p) (body_name p ∷ object x ∷ start_name r ∷ run_name r ∷ config_init_name ∷ config_run_name ∷ []) apart)
      (other_starts (f_init x s) (differ (init_name p) config_init_name _ _ (init_mark x s) refl refl)) (other_scans (f_init x s) (differ (init_name p) config_run_name _ _ (init_mark x s) refl refl))
      (init_shallow x s t) (self_good one (structures_is x.pou)) (λ at. refl) (no_init_labels x.pou.vars)
      (good_inits x.pou found one (structures_is x.pou) (init_name p) (flat_map labels_of (init_stmts x.pou)))

  body_is_good : NoFaults (λ at. item_faults all two at (item.Func None (body_name p) (self p ∷ []) body_locals (body_stmts x.pou.vars x.pou.body)))
  body_is_good =
      function_good all two (body_name p) (self p ∷ []) body_locals (body_stmts x.pou.vars x.pou.body) (fresh (p ∷ init_name p ∷ []) (body_name p) (object x ∷ start_name r ∷ run_name r ∷ config_init_name ∷ config_run_name ∷ []) apart)
      (other_starts (f_body x s) (differ (body_name p) config_init_name _ _ (body_mark x s) refl refl)) (other_scans (f_body x s) (differ (body_name p) config_run_name _ _ (body_mark x s) refl refl))
      (body_shallow x s t) (self_good two (structures_is x.pou)) (locals_good two) (no_body_labels x.pou.vars x.pou.body t.body)
      (good_stmts x.pou found two (structures_is x.pou) (body_name p) (flat_map labels_of (body_stmts x.pou.vars x.pou.body)) t.body)

  object_good : NoFaults (λ at. item_faults all three at (item.Object (of.Struct p) (object x) []))
  object_good at =
      none _ _
      (none _ _ (granted (is_structure_above three p) at (ap is_some (structure_found (structures_of three) (structures_is x.pou))))
      (granted _ (at + 1) (ap not (fresh (p ∷ init_name p ∷ body_name p ∷ []) (object x) (start_name r ∷ run_name r ∷ config_init_name ∷ config_run_name ∷ []) apart))))
      refl

  start_good : NoFaults (λ at. item_faults all four at (item.Func None (start_name r) [] [] (inst_call (init_name p) (resource_of x) (inst_of x) ∷ [])))
  start_good =
      function_good all four (start_name r) [] [] (inst_call (init_name p) (resource_of x) (inst_of x) ∷ [])
      (fresh (p ∷ init_name p ∷ body_name p ∷ object x ∷ []) (start_name r) (run_name r ∷ config_init_name ∷ config_run_name ∷ []) apart)
      (other_starts (f_start x s) (differ (start_name r) config_init_name _ _ (start_mark x s) refl refl)) (other_scans (f_start x s) (differ (start_name r) config_run_name _ _ (start_mark x s) refl refl))
      (start_shallow x s t) (λ at. refl) (λ at. refl) (refl, tt)
      (calls_object (scope_of four (f_start x s)) (f_init x s) (init_name p) (object x) p (init_found x s (f_body x s ∷ [])) refl object_known, tt)

  run_good : NoFaults (λ at. item_faults all five at (item.Func None (run_name r) (tick ∷ []) [] (inst_call (body_name p) (resource_of x) (inst_of x) ∷ [])))
  run_good =
      function_good all five (run_name r) (tick ∷ []) [] (inst_call (body_name p) (resource_of x) (inst_of x) ∷ [])
      (fresh (p ∷ init_name p ∷ body_name p ∷ object x ∷ start_name r ∷ []) (run_name r) (config_init_name ∷ config_run_name ∷ []) apart)
      (other_starts (f_run x s) (differ (run_name r) config_init_name _ _ (run_mark x s) refl refl)) (other_scans (f_run x s) (differ (run_name r) config_run_name _ _ (run_mark x s) refl refl))
      (run_shallow x s t) (tick_good five) (λ at. refl) (refl, tt)
      (calls_object (scope_of five (f_run x s)) (f_body x s) (body_name p) (object x) p (body_found x s (f_start x s ∷ [])) refl object_beside_tick, tt)

  config_init_good : NoFaults (λ at. item_faults all six at (item.Func None config_init_name [] [] (start_call (resource_of x) ∷ [])))
  config_init_good =
      function_good all six config_init_name [] [] (start_call (resource_of x) ∷ [])
      (fresh (p ∷ init_name p ∷ body_name p ∷ object x ∷ start_name r ∷ run_name r ∷ []) config_init_name (config_run_name ∷ []) apart)
      refl refl (config_init_shallow x s t) (λ at. refl) (λ at. refl) (refl, tt)
      ((λ at. none _ _ (ap (λ g. call_faults g (λ params. args_fit (scope_of six (f_config_init x s)) params []) at) (start_found x s (f_run x s ∷ []))) refl), tt)

  config_run_good : NoFaults (λ at. item_faults all seven at (item.Func None config_run_name (tick ∷ []) [] (run_call (resource_of x) ∷ [])))
  config_run_good =
      function_good all seven config_run_name (tick ∷ []) [] (run_call (resource_of x) ∷ [])
      (fresh (p ∷ init_name p ∷ body_name p ∷ object x ∷ start_name r ∷ run_name r ∷ config_init_name ∷ []) config_run_name [] apart)
      refl refl (config_run_shallow x s t) (tick_good seven) (λ at. refl) (refl, tt) (
        (λ at. none _ _ (ap (λ g. call_faults g (λ params. args_fit (scope_of seven (f_config_run x s)) params (arg.Value (expr.Path (plain_path tick_name)) ∷ [])) at) (run_found x s (f_config_init x s ∷ [])))
            (none _ _ (faults-Path (scope_of seven (f_config_run x s)) (at + 2) (plain_path tick_name)) refl)),
        tt,
      )

  pub good_items : length x.pou.vars ≤ 2 ^ 31 → ItemsGood all [] all
  good_items m = (
    good_struct all [] x.pou s.apart refl,
    (
      init_good,
      (
        body_is_good,
        (
          object_good,
          (
            start_good,
            (
              run_good,
              (
                config_init_good,
                (config_run_good, good_rows x all eight_items 0 x.pou.vars refl (structures_is x.pou) refl found (omega (arith, m))),
              ),
            ),
          ),
        ),
      ),
    ),
  )
