-- What holds of each form of the emitted statements, where so many brackets and braces are open in it, holds of the C
-- of each typed statement.
use Rattle.std.proofs.Common.{◌≡◌, sym, subst, ℕ, ◌+◌, ◌*◌, ◌≤◌, List, [], ◌∷◌, ◌++◌, map, max, arith, Bool, true, false, Option, Some, None}
use Rattle.std.specs.Prelude.{ℤ, pos}
use Rattle.std.proofs.Math.Nat.{le-max_left, le-max_right}
use Rattle.plc_base.specs.declared.elem.Elem.{Elem}
use Rattle.plc_tree.specs.declared.typed.TypeId.{TypeId}
use Rattle.plc_tree.specs.declared.typed.TVar.{TVar}
use Rattle.plc_tree.specs.declared.typed.TPath.{TPath}
use Rattle.plc_tree.specs.declared.typed.TExpr.{TExpr}
use Rattle.plc_tree.specs.declared.typed.TLabel.{TLabel}
use Rattle.plc_tree.specs.declared.typed.TLabel.TheVariants.{Range}
use Rattle.plc_tree.specs.declared.typed.TStmt.{TStmt, Empty, Set, If', Case', For', While', Repeat', Exit, Return, Row_of-TStmt, end_of-TStmt, more_of-TStmt, Row_of-TArm, end_of-TArm, more_of-TArm, Row_of-TChoice, end_of-TChoice, more_of-TChoice}
use Rattle.plc_tree.specs.declared.typed.TBody.{TBody}
use Rattle.plc_tree.specs.declared.typed.TBody.TheVariants.{St}
use Rattle.plc_tree.specs.Execution.{elem_of_node}
use Rattle.plc_tree.specs.Rows.{elem_of}
use Rattle.plc_tree.specs.TypedHeights.{height, height_if_any, stmt_height, stmts_height, arms_height, choices_height, list_height, body_height}
use Rattle.plc_tree.specs.WellTyped.{var_in, HasType, IsStep, IsTypedStmt, AreTypedStmts, AreTypedArms, AreTypedChoices, AreTyped, IsTypedBody}
use Rattle.c_tree.specs.declared.tree.CBin.{CBin}
use Rattle.c_tree.specs.declared.tree.CBin.TheVariants as bin
use Rattle.c_tree.specs.declared.tree.CExpr.{CExpr}
use Rattle.c_tree.specs.declared.tree.CExpr.TheVariants as expr
use Rattle.c_tree.specs.declared.tree.CStmt.{CStmt}
use Rattle.c_tree.specs.declared.tree.CStmt.TheVariants as stmt
use Rattle.c_tree.specs.WellSpelled.{Every}
use Rattle.c_tree.proofs.LayoutLaws.{Every-append}
use Rattle.emit_pou.specs.CNames.{pick_name, case_name, step_name, limit_name}
use Rattle.emit_pou.specs.Expressions.{plain_path, leaf, literal, c_expr}
use Rattle.emit_pou.specs.Statements.{small, held, where_picked, pick, arm_body, arm, label_test, label, choice, c_step, head, half, for_test, count, for_loop, until, c_stmt, c_stmts, c_arms, c_choices, list_of, body_stmts}
use Rattle.emit_pou.proofs.KeptExpressions.{typed_var, IsLocal, is_pick, is_case, is_step, is_limit, ExprsKeep, expr_opens, small_kept, literal_kept, held_kept, in_64_bits_kept, each_expr, step_kept}

-- ---- forms

-- what holds of each form inside a loop or not, if of its parts
pub record StmtsKeep (vs : List TVar) (P : Bool → ℕ → CExpr → Type 0) (Q : Bool → ℕ → CStmt → Type 0) : Type 0 where
  pub exprs : (i : Bool) → ExprsKeep vs (P i)
  pub wider : (i : Bool) (n m : ℕ) (c : CStmt) → n ≤ m → Q i n c → Q i m c
  pub working : (i : Bool) (n : ℕ) (name : List ℕ) (e : CExpr) → IsLocal name → P i n e → Q i n (stmt.Set (plain_path name) e)
  pub var : (i : Bool) (n id : ℕ) (v : TVar) (e : CExpr) → var_in vs id ≡ Some v → P i n e → Q i (n + 1) (stmt.SetVar (leaf vs id) e)
  pub branch : (i : Bool) (n : ℕ) (test : CExpr) (body : List CStmt) → P i n test → Every (Q i n) body → Q i (n + 1) (stmt.If test body None)
  pub loop : (i : Bool) (n : ℕ) (test : CExpr) (body : List CStmt) → P i n test → Every (Q true n) body → Q i (n + 1) (stmt.While test body)
  pub leaves : Q true 0 stmt.Break
  pub ends : (i : Bool) → Q i 0 (stmt.Return None)

-- how many brackets and braces the C of a statement of a height opens at most
abbrev pub stmt_opens : ℕ → ℕ
stmt_opens h = 3 * h + 4

-- the parts of a greatest number
max_parts : (a b n : ℕ) → max a b ≤ n → (a ≤ n) × (b ≤ n)
max_parts a b n h = let l = le-max_left a b in let r = le-max_right a b in (omega (arith, h, l), omega (arith, h, r))

module _ (vs : List TVar) (P : Bool → ℕ → CExpr → Type 0) (Q : Bool → ℕ → CStmt → Type 0) (keep : StmtsKeep vs P Q) where
  widen : (i : Bool) (n m : ℕ) (cs : List CStmt) → n ≤ m → Every (Q i n) cs → Every (Q i m) cs
  widen i n m [] l h = tt
  widen i n m (c ∷ cs) l h = (keep.wider i n m c l h.0, widen i n m cs l h.1)

  -- an expression where more may be open
  expr_wider : (i : Bool) (n m : ℕ) (e : CExpr) → n ≤ m → P i n e → P i m e
  expr_wider i n m e l h = let es = keep.exprs i in es.wider n m e l h

  expr_join : (i : Bool) (n : ℕ) (o : CBin) (a b : CExpr) → P i n a → P i n b → P i (n + 1) (expr.Bin o a b)
  expr_join i n o a b f g = let es = keep.exprs i in es.join n o a b f g

  working_kept : (i : Bool) (n : ℕ) (name : List ℕ) → IsLocal name → P i n (expr.Path (plain_path name))
  working_kept i n name l = let es = keep.exprs i in es.wider 0 n _ (omega arith) (es.working name l)

  get_kept : (i : Bool) (n id : ℕ) (v : TVar) → 1 ≤ n → var_in vs id ≡ Some v → P i n (expr.GetVar (leaf vs id))
  get_kept i n id v l e = let es = keep.exprs i in es.wider 1 n _ l (es.var id v e)

  literal_within : (i : Bool) (n : ℕ) (t : Elem) (z : ℤ) → 2 ≤ n → P i n (literal t z)
  literal_within i n t z l = expr_wider i 2 n _ l (literal_kept vs (P i) (keep.exprs i) t z)

  held_within : (i : Bool) (n : ℕ) (t : Elem) (name : List ℕ) → 2 ≤ n → IsLocal name → P i n (held t name)
  held_within i n t name l is = expr_wider i 2 n _ l (held_kept vs (P i) (keep.exprs i) t name is)

  -- ---- arms

  pick_kept : (i : Bool) (n k : ℕ) → k ≤ 2 → Q i n (pick k)
  pick_kept i n k l = keep.working i n pick_name (small k) is_pick (small_kept vs (P i) (keep.exprs i) n k l)

  picked_kept : (i : Bool) (n k : ℕ) (body : List CStmt) → k ≤ 2 → 1 ≤ n → Every (Q i n) body → Q i (n + 1) (where_picked k body)
  picked_kept i n k body l m h =
      let side = small_kept vs (P i) (keep.exprs i) 0 k l in
      keep.branch i n _ body (expr_wider i 1 n _ m (expr_join i 0 bin.Eq _ _ (working_kept i 0 pick_name is_pick) side)) h

  arm_body_kept : (i : Bool) (n : ℕ) (body : List CStmt) → Every (Q i n) body → Every (Q i n) (arm_body body)
  arm_body_kept i n body h = Every-append (Q i n) body (pick 1 ∷ []) h (pick_kept i n 1 (omega arith), tt)

  arm_kept : (i : Bool) (n : ℕ) (test : CExpr) (body : List CStmt) → P i n test → Every (Q i n) body → Q i (n + 1 + 1) (arm test body)
  arm_kept i n test body t h = picked_kept i (n + 1) 0 _ (omega arith) (omega arith) (keep.branch i n test (arm_body body) t (arm_body_kept i n body h), tt)

  label_test_kept : (i : Bool) (t : Elem) (l : TLabel) → P i 4 (label_test t l)
  label_test_kept i t (Range low high) =
      let looked = held_within i 2 t case_name (omega arith) is_case in
      expr_join i 3 bin.And _ _
      (expr_join i 2 bin.Le _ _ (literal_within i 2 t low (omega arith)) looked)
      (expr_join i 2 bin.Le _ _ looked (literal_within i 2 t high (omega arith)))

  labels_kept : (i : Bool) (n : ℕ) (t : Elem) (labels : List TLabel) → 6 ≤ n → Every (Q i n) (map (label t) labels)
  labels_kept i n t [] m = tt
  labels_kept i n t (l ∷ ls) m =
      let one = keep.branch i 4 (label_test t l) (pick 2 ∷ []) (label_test_kept i t l) (pick_kept i 4 2 (omega arith), tt) in
      (keep.wider i 6 n _ m (picked_kept i 5 0 _ (omega arith) (omega arith) (one, tt)), labels_kept i n t ls m)

  choice_kept : (i : Bool) (n m : ℕ) (t : Elem) (labels : List TLabel) (body : List CStmt) → 1 ≤ n → n + 1 ≤ m → 6 ≤ m → Every (Q i n) body → Every (Q i m) (choice t labels body)
  choice_kept i n m t labels body l k six h =
      let picked = keep.wider i (n + 1) m _ k (picked_kept i n 2 (arm_body body) (omega arith) l (arm_body_kept i n body h)) in
      Every-append (Q i m) (map (label t) labels) (where_picked 2 (arm_body body) ∷ []) (labels_kept i m t labels six) (picked, tt)

  -- arms, and what runs where none of them is picked
  arms_kept : (i : Bool) (n m : ℕ) (arms other : List CStmt) → 1 ≤ n → n + 1 ≤ m → Every (Q i m) arms → Every (Q i n) other
      → Every (Q i m) (pick 0 ∷ (arms ++ (where_picked 0 other ∷ [])))
  arms_kept i n m arms other l k h g =
      (pick_kept i m 0 (omega arith), Every-append (Q i m) arms (where_picked 0 other ∷ []) h (keep.wider i (n + 1) m _ k (picked_kept i n 0 other (omega arith) l g), tt))

  -- ---- loops

  half_kept : (i : Bool) (t : Elem) (id : ℕ) (v : TVar) (way to : CBin) → var_in vs id ≡ Some v → P i 4 (half t (leaf vs id) way to)
  half_kept i t id v way to e =
      expr_join i 3 bin.And _ _
      (expr_join i 2 way _ _ (held_within i 2 t step_name (omega arith) is_step) (literal_within i 2 t (pos 0) (omega arith)))
      (expr_join i 2 to _ _ (get_kept i 2 id v (omega arith) e) (held_within i 2 t limit_name (omega arith) is_limit))

  for_test_kept : (i : Bool) (t : Elem) (id : ℕ) (v : TVar) → var_in vs id ≡ Some v → P i 5 (for_test t (leaf vs id))
  for_test_kept i t id v e = expr_join i 4 bin.Or _ _ (half_kept i t id v bin.Ge bin.Le e) (half_kept i t id v bin.Lt bin.Ge e)

  module _ (n id : ℕ) (v : TVar) (e : var_in vs id ≡ Some v) (t : Elem) (step : Option TExpr) (limit : TExpr) (m : 2 ≤ n)
      (f : (j : Bool) → P j n (c_step vs t step)) (g : (j : Bool) → P j n (c_expr vs limit)) where
    head_kept : (j : Bool) (k : ℕ) → n ≤ k → Every (Q j k) (head vs t step limit)
    head_kept j k l =
        (keep.working j k step_name _ is_step (expr_wider j n k _ l (f j)), (keep.working j k limit_name _ is_limit (expr_wider j n k _ l (g j)), tt))

    count_kept : (j : Bool) → Every (Q j (n + 1 + 1 + 1 + 1)) (count vs t (leaf vs id) step limit)
    count_kept j =
        let next = in_64_bits_kept vs (P j) (keep.exprs j) n bin.Add t _ _ (omega (arith, m)) (get_kept j n id v (omega (arith, m)) e) (f j) in
        (keep.var j (n + 1 + 1 + 1) id v _ e next, head_kept j (n + 1 + 1 + 1 + 1) (omega arith))

    -- behind the start
    turns_kept : (i : Bool) (body : List CStmt) → Every (Q true (n + 1 + 1 + 1 + 1)) body
        → Q i (n + 1 + 1 + 1 + 1 + 1) (stmt.While (for_test t (leaf vs id)) (body ++ count vs t (leaf vs id) step limit))
    turns_kept i body h =
        let test = expr_wider i 5 (n + 1 + 1 + 1 + 1) _ (omega (arith, m)) (for_test_kept i t id v e) in
        keep.loop i (n + 1 + 1 + 1 + 1) _ _ test (Every-append (Q true (n + 1 + 1 + 1 + 1)) body _ h (count_kept true))

  for_loop_kept : (i : Bool) (n k : ℕ) (p : TPath) (v : TVar) (start limit : TExpr) (step : Option TExpr) (body : List CStmt) → 2 ≤ n → n + 5 ≤ k → var_in vs p.first ≡ Some v
      → P i n (c_expr vs start) → ((j : Bool) → P j n (c_step vs (elem_of_node start) step)) → ((j : Bool) → P j n (c_expr vs limit))
      → Every (Q true (n + 1 + 1 + 1 + 1)) body → Every (Q i k) (for_loop vs p start limit step body)
  for_loop_kept i n k p v start limit step body m l e a f g h =
      let t = elem_of_node start in
      let turns = keep.wider i (n + 1 + 1 + 1 + 1 + 1) k _ (omega (arith, l)) (turns_kept n p.first v e t step limit m f g i body h) in (
        keep.wider i (n + 1) k _ (omega (arith, l)) (keep.var i n p.first v _ e a),
        Every-append (Q i k) (head vs t step limit) (stmt.While _ _ ∷ []) (head_kept n p.first v e t step limit m f g i k (omega (arith, l))) (turns, tt),
      )

  until_kept : (i : Bool) (n : ℕ) (test : CExpr) (body : List CStmt) → P true n test → Every (Q true (n + 1)) body
      → Q i (n + 1 + 1) (stmt.While (small 1) (body ++ (until test ∷ [])))
  until_kept i n test body t h =
      let last = keep.branch true n test (stmt.Break ∷ []) t (keep.wider true 0 n _ (omega arith) keep.leaves, tt) in
      keep.loop i (n + 1) (small 1) _ (small_kept vs (P i) (keep.exprs i) (n + 1) 1 (omega arith)) (Every-append (Q true (n + 1)) body _ h (last, tt))

  -- ---- each statement

  low_expr : (i : Bool) (n : ℕ) (e : TExpr) (t : TypeId) → height e ≤ n → HasType vs e t → P i (expr_opens n) (c_expr vs e)
  low_expr i n e t l h = expr_wider i (expr_opens (height e)) (expr_opens n) _ (omega (arith, l)) (each_expr vs (P i) (keep.exprs i) e t h)

  low_step : (i : Bool) (n : ℕ) (t : Elem) (step : Option TExpr) (ty : TypeId) → height_if_any step ≤ n → IsStep vs step ty → P i (expr_opens n) (c_step vs t step)
  low_step i n t step ty l h = expr_wider i (expr_opens (height_if_any step)) (expr_opens n) _ (omega (arith, l)) (step_kept vs (P i) (keep.exprs i) t step ty h)

  mutual
    unfolding c_stmt

    each_stmt : (x : TStmt) (i : Bool) → IsTypedStmt vs i x → Every (Q i (stmt_opens (stmt_height x))) (c_stmt vs x)
    each_stmt Empty i t = tt
    each_stmt (Set to from) i t =
        let v = typed_var (var_in vs to.first) t.ty t.target in
        let n : ℕ = expr_opens (height from) in
        (keep.wider i (n + 1) _ _ (omega arith) (keep.var i n to.first v.0 _ v.1 (each_expr vs (P i) (keep.exprs i) from t.ty t.value)), tt)
    each_stmt (If' h arms k other) i t =
        let n : ℕ = max (arms_height arms) (stmts_height other) in
        arms_kept i (stmt_opens n) (stmt_opens (n + 1)) (c_arms vs arms) (c_stmts vs other) (omega arith) (omega arith)
        (each_arms arms i n (le-max_left _ _) t.0) (each_stmts other i n (le-max_right _ _) t.1)
    each_stmt (Case' selector h arms k other) i t =
        let n : ℕ = max (height selector) (max (choices_height arms) (stmts_height other)) in
        let parts = max_parts _ _ n (le-max_right (height selector) (max (choices_height arms) (stmts_height other))) in
        let looked = low_expr i n selector t.0.0.ty (le-max_left _ _) t.0.0.value in (
          keep.working i _ case_name _ is_case (expr_wider i (expr_opens n) (stmt_opens (n + 1)) _ (omega arith) looked),
          arms_kept i (stmt_opens n) (stmt_opens (n + 1)) (c_choices vs (elem_of_node selector) arms) (c_stmts vs other) (omega arith) (omega arith)
              (each_choices arms i n (elem_of_node selector) (elem_of t.0.0.ty) parts.0 t.0.1) (each_stmts other i n parts.1 t.1),
        )
    each_stmt (For' p start limit step h body) i t =
        let c : ℕ = max (height_if_any step) (stmts_height body) in
        let n : ℕ = max (height start) (max (height limit) c) in
        let later = max_parts _ _ n (le-max_right (height start) (max (height limit) c)) in
        let last = max_parts _ _ n later.1 in
        let v = typed_var (var_in vs p.first) t.0.ty t.0.target in
        let inner = widen true (stmt_opens n) (expr_opens n + 1 + 1 + 1 + 1) (c_stmts vs body) (omega arith) (each_stmts body true n last.1 t.1) in
        for_loop_kept i (expr_opens n) (stmt_opens (n + 1)) p v.0 start limit step (c_stmts vs body) (omega arith) (omega arith) v.1
        (low_expr i n start t.0.ty (le-max_left _ _) t.0.begins)
        (λ j. low_step j n (elem_of_node start) step t.0.ty last.0 t.0.steps)
        (λ j. low_expr j n limit t.0.ty later.0 t.0.ends)
        inner
    each_stmt (While' test h body) i t =
        let n : ℕ = max (height test) (stmts_height body) in
        let inner = each_stmts body true n (le-max_right _ _) t.1 in
        let test_holds = expr_wider i (expr_opens n) (stmt_opens n) _ (omega arith) (low_expr i n test _ (le-max_left _ _) t.0) in
        (keep.wider i (stmt_opens n + 1) _ _ (omega arith) (keep.loop i (stmt_opens n) _ _ test_holds inner), tt)
    each_stmt (Repeat' h body test) i t =
        let n : ℕ = max (stmts_height body) (height test) in
        let inner = widen true (stmt_opens n) (stmt_opens n + 1) (c_stmts vs body) (omega arith) (each_stmts body true n (le-max_left _ _) t.0) in
        let test_holds = expr_wider true (expr_opens n) (stmt_opens n) _ (omega arith) (low_expr true n test _ (le-max_right _ _) t.1) in
        (keep.wider i (stmt_opens n + 1 + 1) _ _ (omega arith) (until_kept i (stmt_opens n) _ (c_stmts vs body) test_holds inner), tt)
    each_stmt Exit i t = (keep.wider i 0 _ _ (omega arith) (subst (λ j. Q j 0 stmt.Break) (sym t) keep.leaves), tt)
    each_stmt Return i t = (keep.wider i 0 _ _ (omega arith) (keep.ends i), tt)

    -- those in a row, below a height
    each_stmts : {m : _} (xs : Row_of-TStmt m) (i : Bool) (n : ℕ) → stmts_height xs ≤ n → AreTypedStmts vs i xs → Every (Q i (stmt_opens n)) (c_stmts vs xs)
    each_stmts end_of-TStmt i n l t = tt
    each_stmts (more_of-TStmt x xs) i n l t =
        let parts = max_parts (stmt_height x) (stmts_height xs) n l in
        Every-append (Q i (stmt_opens n)) (c_stmt vs x) (c_stmts vs xs)
        (widen i (stmt_opens (stmt_height x)) (stmt_opens n) _ (let l = parts.0 in omega (arith, l)) (each_stmt x i t.0))
        (each_stmts xs i n parts.1 t.1)

    each_arms : {m : _} (arms : Row_of-TArm m) (i : Bool) (n : ℕ) → arms_height arms ≤ n → AreTypedArms vs i arms → Every (Q i (stmt_opens (n + 1))) (c_arms vs arms)
    each_arms end_of-TArm i n l t = tt
    each_arms (more_of-TArm test h body rest) i n l t =
        let parts = max_parts (height test) (max (stmts_height body) (arms_height rest)) n l in
        let later = max_parts (stmts_height body) (arms_height rest) n parts.1 in
        let test_holds = expr_wider i (expr_opens n) (stmt_opens n) _ (omega arith) (low_expr i n test _ parts.0 t.0) in
        let one = arm_kept i (stmt_opens n) _ (c_stmts vs body) test_holds (each_stmts body i n later.0 t.1) in
        (keep.wider i (stmt_opens n + 1 + 1) (stmt_opens (n + 1)) _ (omega arith) one, each_arms rest i n later.1 t.2)

    each_choices : {m : _} (arms : Row_of-TChoice m) (i : Bool) (n : ℕ) (t u : Elem) → choices_height arms ≤ n → AreTypedChoices vs i u arms
        → Every (Q i (stmt_opens (n + 1))) (c_choices vs t arms)
    each_choices end_of-TChoice i n t u l g = tt
    each_choices (more_of-TChoice labels h body rest) i n t u l g =
        let parts = max_parts (stmts_height body) (choices_height rest) n l in
        Every-append (Q i (stmt_opens (n + 1))) (choice t labels (c_stmts vs body)) (c_choices vs t rest)
        (choice_kept i (stmt_opens n) (stmt_opens (n + 1)) t labels (c_stmts vs body) (omega arith) (omega arith) (omega arith) (each_stmts body i n parts.0 g.1))
        (each_choices rest i n t u parts.1 g.2)

  -- those of a list, below a height
  each_of_list : (xs : List TStmt) (i : Bool) (n : ℕ) → list_height xs ≤ n → AreTyped vs i xs → Every (Q i (stmt_opens n)) (list_of vs xs)
  each_of_list [] i n l t = tt
  each_of_list (x ∷ xs) i n l t =
      let parts = max_parts (stmt_height x) (list_height xs) n l in
      Every-append (Q i (stmt_opens n)) (c_stmt vs x) (list_of vs xs)
      (widen i (stmt_opens (stmt_height x)) (stmt_opens n) _ (let l = parts.0 in omega (arith, l)) (each_stmt x i t.0))
      (each_of_list xs i n parts.1 t.1)

  pub each_of_body : (b : TBody) (n : ℕ) → body_height b ≤ n → IsTypedBody vs b → Every (Q false (stmt_opens n)) (body_stmts vs b)
  each_of_body (St xs) n l t = each_of_list xs false n l t
