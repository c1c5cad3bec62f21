-- The functions of an emitted unit in the order of its text, and how each is found by its name.
use Rattle.std.proofs.Common.{◌≡◌, refl, ap, ◌∙◌, ℕ, List, [], ◌∷◌, true, false, Some}
use Rattle.std.specs.Prelude.{if◌then◌else◌}
use Rattle.std.specs.Str.{bytes_eq}
use Rattle.plc_base.proofs.Bytes.{bytes_eq-after, bytes_eq-self}
use Rattle.c_meaning.specs.Items.{Function, function_in}
use Rattle.emit_pou.specs.CNames.{init_name, body_name, start_name, run_name, config_init_name, config_run_name}
use Rattle.emit_pou.specs.Emitted.{init_stmts, self, tick, inst_call, start_call, run_call}
use Rattle.emit_pou.specs.Statements.{body_stmts}
use Rattle.emit_pou.specs.Single.{Single}
use Rattle.emit_pou.specs.SourceNames.{HasSourceNames}
use Rattle.emit_pou.proofs.Schedules.{inst_of, resource_of}
use Rattle.emit_pou.proofs.Program.{void, working}
use Rattle.emit_pou.proofs.GoodNames.{differ, init_mark, body_mark, start_mark, run_mark}

pub function_here : (f : Function) (fs : List Function) (n : List ℕ) → bytes_eq f.name n ≡ true → function_in (f ∷ fs) n ≡ Some f
function_here f fs n e = ap (λ b. if b then Some f else function_in fs n) e

pub function_later : (f g : Function) (fs : List Function) (n : List ℕ) → bytes_eq f.name n ≡ false → function_in fs n ≡ Some g → function_in (f ∷ fs) n ≡ Some g
function_later f g fs n e h = ap (λ b. if b then Some f else function_in fs n) e ∙ h

module _ (x : Single) (s : HasSourceNames x) where
  abbrev p : List ℕ
  p = x.pou.name

  abbrev r : List ℕ
  r = x.resource_name

  abbrev pub f_init : Function
  f_init = void (init_name p) (self p ∷ []) (init_stmts x.pou)

  abbrev pub f_body : Function
  f_body = working (body_name p) (self p ∷ []) (body_stmts x.pou.vars x.pou.body)

  abbrev pub f_start : Function
  f_start = void (start_name r) [] (inst_call (init_name p) (resource_of x) (inst_of x) ∷ [])

  abbrev pub f_run : Function
  f_run = void (run_name r) (tick ∷ []) (inst_call (body_name p) (resource_of x) (inst_of x) ∷ [])

  abbrev pub f_config_init : Function
  f_config_init = void config_init_name [] (start_call (resource_of x) ∷ [])

  abbrev pub f_config_run : Function
  f_config_run = void config_run_name (tick ∷ []) (run_call (resource_of x) ∷ [])

  abbrev pub six : List Function
  six = f_init ∷ f_body ∷ f_start ∷ f_run ∷ f_config_init ∷ f_config_run ∷ []

  -- ---- who is found

  pub init_found : (fs : List Function) → function_in (f_init ∷ fs) (init_name p) ≡ Some f_init
  init_found fs = function_here f_init fs (init_name p) (bytes_eq-self (init_name p))

  pub body_found : (fs : List Function) → function_in (f_init ∷ f_body ∷ fs) (body_name p) ≡ Some f_body
  body_found fs =
      function_later f_init f_body (f_body ∷ fs) (body_name p) (bytes_eq-after p _ _)
      (function_here f_body fs (body_name p) (bytes_eq-self (body_name p)))

  pub start_found : (fs : List Function) → function_in (f_init ∷ f_body ∷ f_start ∷ fs) (start_name r) ≡ Some f_start
  start_found fs =
      function_later f_init f_start (f_body ∷ f_start ∷ fs) (start_name r) (differ (init_name p) (start_name r) _ _ (init_mark x s) (start_mark x s) refl)
      (function_later f_body f_start (f_start ∷ fs) (start_name r) (differ (body_name p) (start_name r) _ _ (body_mark x s) (start_mark x s) refl)
      (function_here f_start fs (start_name r) (bytes_eq-self (start_name r))))

  pub run_found : (fs : List Function) → function_in (f_init ∷ f_body ∷ f_start ∷ f_run ∷ fs) (run_name r) ≡ Some f_run
  run_found fs =
      function_later f_init f_run (f_body ∷ f_start ∷ f_run ∷ fs) (run_name r) (differ (init_name p) (run_name r) _ _ (init_mark x s) (run_mark x s) refl)
      (function_later f_body f_run (f_start ∷ f_run ∷ fs) (run_name r) (differ (body_name p) (run_name r) _ _ (body_mark x s) (run_mark x s) refl)
      (function_later f_start f_run (f_run ∷ fs) (run_name r) (bytes_eq-after r _ _)
      (function_here f_run fs (run_name r) (bytes_eq-self (run_name r)))))
