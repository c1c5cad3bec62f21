-- The functions of an emitted unit, and where the body of its program runs.
use Rattle.std.proofs.Common.{◌≡◌, refl, ap, ℕ, ◌+◌, List, [], ◌∷◌, ◌++◌}
use Rattle.std.specs.Prelude.{ℤ, reverse}
use Rattle.plc_tree.specs.declared.typed.TUnit.{TUnit}
use Rattle.plc_tree.specs.declared.typed.TResource.{TResource}
use Rattle.plc_tree.specs.declared.typed.TInst.{TInst}
use Rattle.plc_tree.specs.Execution.{Env}
use Rattle.plc_tree.specs.Rows.{Row, rows, object_name}
use Rattle.c_tree.specs.declared.tree.CItem.{CItem}
use Rattle.c_meaning.specs.Objects.{Named, Place}
use Rattle.c_meaning.specs.Items.{Function, all_items, functions_of}
use Rattle.c_meaning.specs.Execution.{ByPlace, Frame, function_frame, call_of}
use Rattle.emit_pou.specs.CNames.{init_name, body_name, start_name, run_name, config_init_name, config_run_name}
use Rattle.emit_pou.specs.Emitted.{c_unit, init_stmts, debug_rows_from, self, tick, init_call, body_call, start_call, run_call}
use Rattle.emit_pou.specs.Statements.{body_stmts}
use Rattle.emit_pou.specs.Single.{Single, unit_of}
use Rattle.emit_pou.proofs.Schedules.{inst_of, resource_of}
use Rattle.emit_pou.proofs.Program.{void, working}

no_functions : (k : ℕ) (rs : List Row) → functions_of (debug_rows_from k rs ++ []) ≡ []
no_functions k [] = refl
no_functions k (r ∷ rs) = no_functions (k + 1) rs

module _ (x : Single) where
  abbrev pub u : TUnit
  u = unit_of x

  abbrev pub r : TResource
  r = resource_of x

  abbrev pub i : TInst
  i = inst_of x

  abbrev pub items : List CItem
  items = all_items (c_unit u)

  -- ---- the functions, the last one first

  abbrev pub pou_init : Function
  pou_init = void (init_name x.pou.name) (self x.pou.name ∷ []) (init_stmts x.pou)

  abbrev pub pou_body : Function
  pou_body = working (body_name x.pou.name) (self x.pou.name ∷ []) (body_stmts x.pou.vars x.pou.body)

  abbrev pub start : Function
  start = void (start_name r.name) [] (init_call u r i ∷ [])

  abbrev pub run : Function
  run = void (run_name r.name) (tick ∷ []) (body_call u r i ∷ [])

  abbrev pub config_init : Function
  config_init = void config_init_name [] (start_call r ∷ [])

  abbrev pub config_run : Function
  config_run = void config_run_name (tick ∷ []) (run_call r ∷ [])

  abbrev pub two : List Function
  two = pou_body ∷ pou_init ∷ []

  abbrev pub four : List Function
  four = run ∷ start ∷ two

  abbrev pub six : List Function
  six = config_run ∷ config_init ∷ four

  pub six_functions : functions_of items ≡ reverse six
  six_functions = ap (λ fs. reverse six ++ fs) (no_functions 0 (rows u))

  -- ---- the object of the instance, and the functions of the program at work on it

  abbrev pub there : Place
  there = Named (object_name r i) ∷ []

  abbrev pub init_frame : Frame
  init_frame = function_frame items (call_of items []) pou_init (ByPlace there ∷ [])

  abbrev pub frame : Frame
  frame = function_frame items (call_of items (pou_init ∷ [])) pou_body (ByPlace there ∷ [])

  abbrev pub env_at : ℤ → Env
  env_at m = record { unit = u; inst = i.id ∷ []; moment = m }
