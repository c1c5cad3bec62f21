-- An emitted unit keeps the limits on open brackets and on the depth of calls.
use Rattle.std.proofs.Common.{◌≡◌, refl, sym, ap, subst, ℕ, ◌+◌, ◌≤◌, List, [], ◌∷◌, map, max, arith, Bool, true, false}
use Rattle.std.specs.Prelude.{nat_le, if◌then◌else◌}
use Rattle.std.specs.Str.{bytes_eq}
use Rattle.std.proofs.Math.Nat.{max-le}
use Rattle.std.proofs.lemmas.Bool.Decides.{nat_tests}
use Rattle.plc_tree.specs.Rows.{Row}
use Rattle.plc_tree.specs.WellTyped.{IsTypedPou}
use Rattle.c_tree.specs.declared.tree.CItem.{CItem}
use Rattle.c_meaning.specs.Items.{Function}
use Rattle.c_tree.specs.WellSpelled.{Every}
use Rattle.c_meaning.specs.Brackets.{greatest, open_sel, open_path, open_stmt, open_function, open_item, function_callees, depth_of}
use Rattle.c_meaning.proofs.RuleViews.{open_arg-Address, open_expr-Path}
use Rattle.c_tree.specs.declared.tree.CSel.TheVariants.{Field}
use Rattle.emit_pou.specs.Expressions.{plain_path}
use Rattle.emit_pou.specs.Emitted.{init_stmts, row_path, debug_rows_from}
use Rattle.emit_pou.specs.Statements.{body_stmts}
use Rattle.emit_pou.specs.Single.{Single}
use Rattle.emit_pou.specs.SourceNames.{HasSourceNames}
use Rattle.emit_pou.proofs.GoodBodies.{low_stmts, low_inits, greatest_every}
use Rattle.emit_pou.proofs.MemberRows.{open_struct}
use Rattle.emit_pou.proofs.GoodNames.{object, known_items, listed}
use Rattle.emit_pou.specs.CNames.{init_name, body_name, start_name, run_name, config_init_name, config_run_name, tick_name}
use Rattle.emit_pou.proofs.UnitFunctions.{f_init, f_body, f_start, f_run, f_config_init, f_config_run}

-- ---- brackets and braces

abbrev IsLow : CItem → Type 0
IsLow item = open_item item ≤ 1024

no_bracket : (fields : List (List ℕ)) → greatest open_sel (map Field fields) ≡ 0
no_bracket [] = refl
no_bracket (f ∷ fs) = ap (λ n. max 0 n) (no_bracket fs)

low_rows : (k : ℕ) (rs : List Row) → Every IsLow (debug_rows_from k rs)
low_rows k [] = tt
low_rows k (r ∷ rs) = (let e : open_path (row_path r) ≡ 0 = no_bracket r.fields in omega (arith, e), low_rows (k + 1) rs)

-- those that set the variables open at most 3
low_init : (x : Single) → greatest open_stmt (init_stmts x.pou) ≤ 3
low_init x = greatest_every open_stmt 3 _ (low_inits x.pou.vars)

-- a body's statements open at most 196
low_body : (x : Single) → IsTypedPou x.pou → greatest open_stmt (body_stmts x.pou.vars x.pou.body) ≤ 196
low_body x t = greatest_every open_stmt 196 _ (low_stmts x.pou.vars x.pou.body t.low t.body)

pub low_items : (x : Single) → IsTypedPou x.pou → Every IsLow (known_items x)
low_items x t = (
  subst (λ n. n ≤ 1024) (sym (open_struct x.pou)) (omega arith),
  (
    omega (arith, low_init x),
    (
      omega (arith, low_body x t),
      (
        omega arith,
        (
          omega (arith, open_arg-Address (plain_path (object x))),
          (
            omega (arith, open_arg-Address (plain_path (object x))),
            (omega arith, (omega (arith, open_expr-Path (plain_path tick_name)), low_rows 0 (listed x))),
          ),
        ),
      ),
    ),
  ),
)

-- ---- depths: each function adds 1 and its open brackets and braces

greatest-le : {A : Type 0} (f : A → ℕ) (d : ℕ) → ((a : A) → f a ≤ d) → (xs : List A) → greatest f xs ≤ d
greatest-le f d h [] = omega arith
greatest-le f d h (x ∷ xs) = max-le (h x) (greatest-le f d h xs)

at_most : (b : Bool) (opened below other k d : ℕ) → opened ≤ k → below ≤ d → other ≤ d → (if b then 1 + opened + below else other) ≤ d + k + 1
at_most true opened below other k d o g h = omega (arith, o, g)
at_most false opened below other k d o g h = omega (arith, h)

deeper : (f : Function) (above : List Function) (k d : ℕ) → open_function f ≤ k → ((n : List ℕ) → depth_of above n ≤ d) → (n : List ℕ) → depth_of (f ∷ above) n ≤ d + k + 1
deeper f above k d o h n =
    at_most (bytes_eq f.name n) (open_function f) (greatest (depth_of above) (function_callees f)) (depth_of above n) k d o
    (greatest-le (depth_of above) d h (function_callees f)) (h n)

-- ---- the functions, each with those above it

module _ (x : Single) (s : HasSourceNames x) (t : IsTypedPou x.pou) where
  abbrev one : List Function
  one = f_init x s ∷ []

  abbrev two : List Function
  two = f_body x s ∷ one

  abbrev three : List Function
  three = f_start x s ∷ two

  abbrev four : List Function
  four = f_run x s ∷ three

  abbrev five : List Function
  five = f_config_init x s ∷ four

  one_low : (n : List ℕ) → depth_of one n ≤ 5
  one_low = deeper (f_init x s) [] 4 0 (omega (arith, low_init x)) (λ n. omega arith)

  two_low : (n : List ℕ) → depth_of two n ≤ 204
  two_low = deeper (f_body x s) one 198 5 (omega (arith, low_body x t)) one_low

  three_low : (n : List ℕ) → depth_of three n ≤ 207
  three_low = deeper (f_start x s) two 2 204 (let e = open_arg-Address (plain_path (object x)) in omega (arith, e)) two_low

  four_low : (n : List ℕ) → depth_of four n ≤ 210
  four_low = deeper (f_run x s) three 2 207 (let e = open_arg-Address (plain_path (object x)) in omega (arith, e)) three_low

  five_low : (n : List ℕ) → depth_of five n ≤ 213
  five_low = deeper (f_config_init x s) four 2 210 (omega arith) four_low

  six_low : (n : List ℕ) → depth_of (f_config_run x s ∷ five) n ≤ 216
  six_low = deeper (f_config_run x s) five 2 213 (let e = open_expr-Path (plain_path tick_name) in omega (arith, e)) five_low

  -- none is too deep
  shallow : (fs : List Function) (d : ℕ) → ((n : List ℕ) → depth_of fs n ≤ d) → d ≤ 4096 → (n : List ℕ) → nat_le (depth_of fs n) 4096 ≡ true
  shallow fs d h l n = let g : depth_of fs n ≤ d = h n in grind (arith, nat_tests)

  pub init_shallow : nat_le (depth_of one (init_name x.pou.name)) 4096 ≡ true
  init_shallow = shallow one 5 one_low (omega arith) (init_name x.pou.name)

  pub body_shallow : nat_le (depth_of two (body_name x.pou.name)) 4096 ≡ true
  body_shallow = shallow two 204 two_low (omega arith) (body_name x.pou.name)

  pub start_shallow : nat_le (depth_of three (start_name x.resource_name)) 4096 ≡ true
  start_shallow = shallow three 207 three_low (omega arith) (start_name x.resource_name)

  pub run_shallow : nat_le (depth_of four (run_name x.resource_name)) 4096 ≡ true
  run_shallow = shallow four 210 four_low (omega arith) (run_name x.resource_name)

  pub config_init_shallow : nat_le (depth_of five config_init_name) 4096 ≡ true
  config_init_shallow = shallow five 213 five_low (omega arith) config_init_name

  pub config_run_shallow : nat_le (depth_of (f_config_run x s ∷ five) config_run_name) 4096 ≡ true
  config_run_shallow = shallow (f_config_run x s ∷ five) 216 six_low (omega arith) config_run_name
