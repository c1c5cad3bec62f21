-- The names of an emitted unit are apart and free.
use Rattle.std.proofs.Common.{◌≡◌, refl, sym, ap, subst, ◌∙◌, ℕ, ◌+◌, List, [], ◌∷◌, ◌++◌, map, append-nil, append_assoc, false}
use Rattle.std.specs.Prelude.{codes}
use Rattle.std.specs.Str.{bytes_eq}
use Rattle.plc_tree.specs.Rows.{Row, rows, vars_of, var_row, object_name}
use Rattle.c_tree.specs.declared.tree.CItem.{CItem}
use Rattle.c_tree.specs.declared.tree.CItem.TheVariants as item
use Rattle.c_tree.specs.declared.tree.CStmt.{CStmt}
use Rattle.c_tree.specs.declared.tree.CType.TheVariants as of
use Rattle.c_meaning.specs.Items.{all_items}
use Rattle.c_tree.specs.WellSpelled.{Every}
use Rattle.c_meaning.specs.Names.{is_among, Apart, IsFree, file_names}
use Rattle.emit_pou.specs.CNames.{init_name, body_name, start_name, run_name, config_init_name, config_run_name, self_name, tick_name, pick_name, case_name, step_name, limit_name}
use Rattle.emit_pou.specs.Emitted.{c_unit, debug_rows_from, name_of, pou_struct, void_function, working_function, init_stmts, self, tick, inst_call, start_call, run_call}
use Rattle.emit_pou.specs.Statements.{body_stmts}
use Rattle.emit_pou.specs.Single.{Single, unit_of}
use Rattle.emit_pou.specs.SourceNames.{HasSourceNames}
use Rattle.emit_pou.proofs.Schedules.{inst_of, resource_of}
use Rattle.emit_pou.proofs.Program.{program_is}
use Rattle.emit_pou.proofs.Fingerprints.{small_of, mark, mark_of, mark_after, not_among, all_apart, apart_marks, free_source, free_marked}

-- names that differ
pub differ : (a b m n : List ℕ) → mark a ≡ m → mark b ≡ n → bytes_eq m n ≡ false → bytes_eq a b ≡ false
differ a b m n e f h = apart_marks a b ((λ i. bytes_eq (e i) (f i)) ∙ h)

module _ (x : Single) where
  abbrev pub object : List ℕ
  object = object_name (resource_of x) (inst_of x)

  -- the items but for the debug rows, where the program has this name and its body these statements
  abbrev pub eight : List ℕ → List CStmt → List CItem
  eight q b =
      pou_struct x.pou
      ∷ void_function (init_name x.pou.name) (self x.pou.name ∷ []) (init_stmts x.pou)
      ∷ working_function (body_name x.pou.name) (self x.pou.name ∷ []) b
      ∷ item.Object (of.Struct q) object []
      ∷ void_function (start_name x.resource_name) [] (inst_call (init_name q) (resource_of x) (inst_of x) ∷ [])
      ∷ void_function (run_name x.resource_name) (tick ∷ []) (inst_call (body_name q) (resource_of x) (inst_of x) ∷ [])
      ∷ void_function config_init_name [] (start_call (resource_of x) ∷ [])
      ∷ void_function config_run_name (tick ∷ []) (run_call (resource_of x) ∷ [])
      ∷ []

  abbrev pub listed : List Row
  listed = map (var_row (resource_of x) (inst_of x)) x.pou.vars

  pub rows_are : rows (unit_of x) ≡ listed
  rows_are =
      ap (λ p. ((map (var_row (resource_of x) (inst_of x)) (vars_of p) ++ []) ++ []) ++ []) (program_is x)
      ∙ append-nil ((listed ++ []) ++ []) ∙ append-nil (listed ++ []) ∙ append-nil listed

  abbrev pub known_items : List CItem
  known_items = eight x.pou.name (body_stmts x.pou.vars x.pou.body) ++ debug_rows_from 0 listed

  pub items_are : all_items (c_unit (unit_of x)) ≡ known_items
  items_are =
      (λ i. eight (name_of (program_is x i)) (body_stmts x.pou.vars x.pou.body) ++ (debug_rows_from 0 (rows_are i) ++ []))
      ∙ ap (λ is. eight x.pou.name (body_stmts x.pou.vars x.pou.body) ++ is) (append-nil (debug_rows_from 0 listed))

  -- ---- the names of file scope

  abbrev pub names : List (List ℕ)
  names =
      x.pou.name ∷ init_name x.pou.name ∷ body_name x.pou.name ∷ object ∷ start_name x.resource_name ∷ run_name x.resource_name
      ∷ config_init_name ∷ config_run_name ∷ []

  abbrev mark_with : List ℕ → List ℕ
  mark_with letters = 0 ∷ 1 ∷ letters

  abbrev pub marks : List (List ℕ)
  marks =
      (0 ∷ 0 ∷ []) ∷ mark_with (codes "init") ∷ mark_with (codes "body") ∷ mark_with [] ∷ mark_with (codes "start") ∷ mark_with (codes "run")
      ∷ mark_with (codes "configinit") ∷ mark_with (codes "configrun") ∷ []

  no_names : (k : ℕ) (rs : List Row) → file_names (debug_rows_from k rs) ≡ []
  no_names k [] = refl
  no_names k (r ∷ rs) = no_names (k + 1) rs

  pub names_are : file_names known_items ≡ names
  names_are = ap (λ ns. names ++ ns) (no_names 0 listed)

  module _ (s : HasSourceNames x) where
    pub object_mark : mark object ≡ mark_with []
    object_mark =
        ap mark (append_assoc x.resource_name (codes "__") x.inst_name) ∙ mark_after x.resource_name (codes "__" ++ x.inst_name) s.resource refl
        ∙ ap (λ letters. mark_with letters) (small_of x.inst_name s.inst.capitals)

    pub init_mark : mark (init_name x.pou.name) ≡ mark_with (codes "init")
    init_mark = mark_after x.pou.name (codes "_init__") s.pou refl

    pub body_mark : mark (body_name x.pou.name) ≡ mark_with (codes "body")
    body_mark = mark_after x.pou.name (codes "_body__") s.pou refl

    pub start_mark : mark (start_name x.resource_name) ≡ mark_with (codes "start")
    start_mark = mark_after x.resource_name (codes "_start__") s.resource refl

    pub run_mark : mark (run_name x.resource_name) ≡ mark_with (codes "run")
    run_mark = mark_after x.resource_name (codes "_run__") s.resource refl

    pub marks_are : map mark names ≡ marks
    marks_are = λ i.
        mark_of x.pou.name s.pou i ∷ init_mark i ∷ body_mark i ∷ object_mark i ∷ start_mark i ∷ run_mark i ∷ mark config_init_name ∷ mark config_run_name ∷ []

    pub names_apart : Apart names
    names_apart = all_apart names (subst Apart (sym marks_are) (refl, (refl, (refl, (refl, (refl, (refl, (refl, (refl, tt)))))))))

    -- none is a word of the language

    pub pou_free : IsFree x.pou.name
    pou_free = free_source x.pou.name s.pou

    pub init_free : IsFree (init_name x.pou.name)
    init_free = free_marked (init_name x.pou.name) _ init_mark refl

    pub body_free : IsFree (body_name x.pou.name)
    body_free = free_marked (body_name x.pou.name) _ body_mark refl

    pub object_free : IsFree object
    object_free = free_marked object _ object_mark refl

    pub start_free : IsFree (start_name x.resource_name)
    start_free = free_marked (start_name x.resource_name) _ start_mark refl

    pub run_free : IsFree (run_name x.resource_name)
    run_free = free_marked (run_name x.resource_name) _ run_mark refl

    -- ---- no name of a parameter or of a body's local is one of file scope

    hidden : (n : List ℕ) → is_among (mark n) marks ≡ false → is_among n (file_names known_items) ≡ false
    hidden n h = ap (λ ns. is_among n ns) names_are ∙ not_among n names (ap (λ ms. is_among (mark n) ms) marks_are ∙ h)

    pub self_hidden : is_among self_name (file_names known_items) ≡ false
    self_hidden = hidden self_name refl

    pub tick_hidden : is_among tick_name (file_names known_items) ≡ false
    tick_hidden = hidden tick_name refl

    pub locals_hidden : Every (λ n. is_among n (file_names known_items) ≡ false) (pick_name ∷ case_name ∷ step_name ∷ limit_name ∷ [])
    locals_hidden = (hidden pick_name refl, (hidden case_name refl, (hidden step_name refl, (hidden limit_name refl, tt))))
