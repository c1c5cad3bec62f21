-- The fuel never grows, so the number that a loop or a body is said in says nothing, and each meets its unfolding.
use Rattle.std.proofs.Common.{◌≡◌, refl, sym, ap, ◌∙◌, ℕ, zero, suc, ◌<◌, ◌≤◌, List, [], ◌∷◌, reverse, codes, Option, Some, None, Bool, true, false, arith, bytes_eq, int_eq}
use Rattle.std.specs.Prelude.{ℤ, pos, int_div, int_rem, if◌then◌else◌}
use Rattle.plc_base.specs.declared.which.Which.{Which}
use Rattle.c_tree.specs.declared.tree.CArg.{CArg}
use Rattle.c_tree.specs.declared.tree.CArg as arg
use Rattle.c_tree.specs.declared.tree.CBin.{CBin}
use Rattle.c_tree.specs.declared.tree.CBin.TheVariants.{Add, Sub, Mul, Div, Rem, And, Or, Xor, Shl, Shr, Eq, Ne, Lt, Le, Gt, Ge}
use Rattle.c_tree.specs.declared.tree.CExpr.{CExpr, Row_of-CExpr, end_of-CExpr, more_of-CExpr, Row_of-CSel, end_of-CSel, more_of-CSel, Row_of-CArg, end_of-CArg, more_of-CArg}
use Rattle.c_tree.specs.declared.tree.CExpr as expr
use Rattle.c_tree.specs.declared.tree.CItem.{CItem}
use Rattle.c_tree.specs.declared.tree.CLocal.{CLocal}
use Rattle.c_tree.specs.declared.tree.CPath.{CPath}
use Rattle.c_tree.specs.declared.tree.CSel.{CSel}
use Rattle.c_tree.specs.declared.tree.CSel as sel
use Rattle.c_tree.specs.declared.tree.CStmt.{CStmt, While, Row_of-CStmt, end_of-CStmt, more_of-CStmt, Held-CStmt-If-2, None', Some'}
use Rattle.c_tree.specs.declared.tree.CStmt as stmt
use Rattle.c_tree.specs.declared.tree.CUn.{CUn}
use Rattle.c_tree.specs.declared.tree.CUn.TheVariants as un
use Rattle.c_tree.specs.declared.tree.CUnit.{CUnit}
use Rattle.c_meaning.specs.Outcome.{COut, CDone, CPast, Undefined, c_then, c_turn}
use Rattle.c_meaning.specs.Values.{Arith, CVal, usual, convert, c_signed, is_of, checked, c_divided, can_shift, c_apply, c_bin, c_un}
use Rattle.c_meaning.specs.Objects.{Place, Objects, with_cell, set_plain, init_var, set_var, set_located, publish, get_located}
use Rattle.c_meaning.specs.Items.{Function, all_items, functions_of}
use Rattle.c_meaning.specs.Execution.{Frame, CallsSpend, Passed, Left, Local, local_in, CStore, c_store, CState, CNext, Broken, Jumps, Returned, Got, c_go_on, is_true, c_next_turn, c_turns, c_back, c_jumps, first_place, is_index, c_element, local_path, path_value, object_value, cell_value, c_value, c_side, c_sel, c_parts, c_arg, c_args_in, c_sels, c_place, c_args, local_of, c_setting, surely, c_set, c_return, c_exec, c_stmts, c_else, c_run, arrived, c_walk, c_body, bound_locals, c_locals, function_frame, function_run, call_of}
use Rattle.c_meaning.specs.Run.{c_call, c_init, c_scan, at_moment}
use Rattle.c_meaning.proofs.MeaningViews.{c_exec-While}

-- no more fuel is left than n
pub data Within {A : Type 0} (n : ℕ) : COut A → Type 0 where
  left : {a : A} {r : ℕ} → r ≤ n → Within n (CDone a r)
  none_left : Within n CPast
  no_meaning : {w : Which} → Within n (Undefined w)

-- a step that makes no fuel
abbrev pub Spends : {A B : Type 0} → (A → ℕ → COut B) → Type 0
Spends {A} step = (a : A) (n : ℕ) → Within n (step a n)

-- ---- steps in order

within_more : {A : Type 0} (r n : ℕ) (x : COut A) → r ≤ n → Within r x → Within n x
within_more r n _ h (left g) = left (omega arith)
within_more r n _ h none_left = none_left
within_more r n _ h no_meaning = no_meaning

within_done : {A : Type 0} (a : A) (n : ℕ) → Within n (CDone a n)
within_done a n = left (omega arith)

pub within_then : {A B : Type 0} (n : ℕ) (x : COut A) (go : A → ℕ → COut B) → Within n x → ((a : A) (r : ℕ) → r ≤ n → Within r (go a r)) → Within n (c_then x go)
within_then n _ go (left {a = a} {r = r} h) f = within_more r n (go a r) h (f a r h)
within_then n _ go none_left f = none_left
within_then n _ go no_meaning f = no_meaning

within_if : {A : Type 0} (n : ℕ) (b : Bool) (x y : COut A) → Within n x → Within n y → Within n (if b then x else y)
within_if n true x y h k = h
within_if n false x y h k = k

-- what is left where a step is done, and the other way round
rest_within : {A : Type 0} (a : A) (n r : ℕ) (x : COut A) → Within n x → x ≡ CDone a r → r ≤ n
rest_within a n r _ (left {a = b} {r = q} h) e = let same : q ≡ r = cc in omega arith
rest_within a n r _ none_left e = absurd cc
rest_within a n r _ no_meaning e = absurd cc

within_rest : {A : Type 0} (n : ℕ) (x : COut A) → ((a : A) (r : ℕ) → x ≡ CDone a r → r ≤ n) → Within n x
within_rest n (CDone a r) h = left (h a r refl)
within_rest n CPast h = none_left
within_rest n (Undefined w) h = no_meaning

-- two ways on that agree at the fuel that can be left
then_same : {A B : Type 0} (n : ℕ) (x : COut A) (go to : A → ℕ → COut B) → Within n x → ((a : A) (r : ℕ) → r ≤ n → go a r ≡ to a r) → c_then x go ≡ c_then x to
then_same n _ go to (left {a = a} {r = r} h) f = f a r h
then_same n _ go to none_left f = refl
then_same n _ go to no_meaning f = refl

pub within_go_on : (go : CStore → ℕ → COut CState) → Spends go → (st : CState) (n : ℕ) → Within n (c_go_on st n go)
within_go_on go h (s, CNext) n = h s n
within_go_on go h (s, Broken) n = within_done (s, Broken) n
within_go_on go h (s, Jumps name) n = within_done (s, Jumps name) n
within_go_on go h (s, Returned v) n = within_done (s, Returned v) n

-- ---- loops

pub within_next : (go : CStore → ℕ → COut CState) → Spends go → (st : CState) (n : ℕ) → Within n (c_next_turn st n go)
within_next go h (s, CNext) n = h s n
within_next go h (s, Broken) n = within_done (s, CNext) n
within_next go h (s, Jumps name) n = within_done (s, Jumps name) n
within_next go h (s, Returned v) n = within_done (s, Returned v) n

next_same : (go to : CStore → ℕ → COut CState) (st : CState) (n : ℕ) → ((s : CStore) → go s n ≡ to s n) → c_next_turn st n go ≡ c_next_turn st n to
next_same go to (s, CNext) n h = h s
next_same go to (s, Broken) n h = refl
next_same go to (s, Jumps name) n h = refl
next_same go to (s, Returned v) n h = refl

-- a turn of a loop, and how it goes on behind it
abbrev pub one_turn : (CStore → ℕ → COut CState) → CStore → ℕ → (CStore → ℕ → COut CState) → COut CState
one_turn body s n go = c_turn n (λ k. c_then (body s k) (λ st j. c_next_turn st j go))

module _ (body : CStore → ℕ → COut CState) (spent : Spends body) (s : CStore) where
  within_turn : (n : ℕ) (go : CStore → ℕ → COut CState) → Spends go → Within n (one_turn body s n go)
  within_turn zero go h = none_left
  within_turn (suc k) go h = within_more k (suc k) _ (omega arith) (within_then k (body s k) _ (spent s k) (λ st j g. within_next go h st j))

  -- less fuel is left behind it
  turn_same : (n : ℕ) (go to : CStore → ℕ → COut CState) → ((t : CStore) (i : ℕ) → i < n → go t i ≡ to t i) → one_turn body s n go ≡ one_turn body s n to
  turn_same zero go to h = refl
  turn_same (suc k) go to h = then_same k (body s k) _ _ (spent s k) (λ st j g. next_same go to st j (λ t. h t j (omega arith)))

module _ (test : CStore → ℕ → COut (Got CVal)) (body : CStore → ℕ → COut CState) (tested : Spends test) (spent : Spends body) where
  pub turns_within : (gas : ℕ) → Spends (c_turns gas test body)
  turns_within zero s n = none_left
  turns_within (suc gas) s n =
      within_then n (test s n) _ (tested s n)
      (λ v r h. within_if r (is_true v.0) _ _ (within_turn body spent v.1 r (c_turns gas test body) (turns_within gas)) (within_done (v.1, CNext) r))

  pub turns_same : (g h : ℕ) (s : CStore) (n : ℕ) → n < g → n < h → c_turns g test body s n ≡ c_turns h test body s n
  turns_same zero h s n a b = absurd (omega arith)
  turns_same (suc g) zero s n a b = absurd (omega arith)
  turns_same (suc g) (suc h) s n a b =
      then_same n (test s n) _ _ (tested s n)
      (λ v r c. ap (λ y. if is_true v.0 then y else CDone (v.1, CNext) r)
      (turn_same body spent v.1 r (c_turns g test body) (c_turns h test body) (λ t i d. turns_same g h t i (omega arith) (omega arith))))

  -- with the fuel that is left
  pub turns_again : (s : CStore) (n : ℕ)
      → c_turns (suc n) test body s n ≡ c_then (test s n) (λ v r. if is_true v.0 then one_turn body v.1 r (λ t i. c_turns (suc i) test body t i) else CDone (v.1, CNext) r)
  turns_again s n =
      then_same n (test s n) _ _ (tested s n)
      (λ v r c. ap (λ y. if is_true v.0 then y else CDone (v.1, CNext) r)
      (turn_same body spent v.1 r (c_turns n test body) (λ t i. c_turns (suc i) test body t i) (λ t i d. turns_same n (suc i) t i (omega arith) (omega arith))))

-- ---- jumps back

within_back : (n : ℕ) (go : CState → ℕ → COut CState) → Spends go → (st : CState) → Within n (c_back st n go)
within_back n go h (s, CNext) = within_done (s, CNext) n
within_back n go h (s, Broken) = within_done (s, Broken) n
within_back zero go h (s, Jumps name) = none_left
within_back (suc k) go h (s, Jumps name) = within_more k (suc k) _ (omega arith) (h (s, Jumps name) k)
within_back n go h (s, Returned v) = within_done (s, Returned v) n

back_same : (n : ℕ) (go to : CState → ℕ → COut CState) (st : CState) → ((u : CState) (k : ℕ) → k < n → go u k ≡ to u k) → c_back st n go ≡ c_back st n to
back_same n go to (s, CNext) h = refl
back_same n go to (s, Broken) h = refl
back_same zero go to (s, Jumps name) h = refl
back_same (suc k) go to (s, Jumps name) h = h (s, Jumps name) k (omega arith)
back_same n go to (s, Returned v) h = refl

module _ (walk : CState → ℕ → COut CState) (spent : Spends walk) where
  pub jumps_within : (gas : ℕ) → Spends (c_jumps gas walk)
  jumps_within zero st n = none_left
  jumps_within (suc gas) st n = within_then n (walk st n) _ (spent st n) (λ t r h. within_back r (c_jumps gas walk) (jumps_within gas) t)

  pub jumps_same : (g h : ℕ) (st : CState) (n : ℕ) → n < g → n < h → c_jumps g walk st n ≡ c_jumps h walk st n
  jumps_same zero h st n a b = absurd (omega arith)
  jumps_same (suc g) zero st n a b = absurd (omega arith)
  jumps_same (suc g) (suc h) st n a b =
      then_same n (walk st n) _ _ (spent st n)
      (λ t r c. back_same r (c_jumps g walk) (c_jumps h walk) t (λ u k d. jumps_same g h u k (omega arith) (omega arith)))

  -- with the fuel that is left
  pub jumps_again : (st : CState) (n : ℕ) → c_jumps (suc n) walk st n ≡ c_then (walk st n) (λ t r. c_back t r (λ u k. c_jumps (suc k) walk u k))
  jumps_again st n =
      then_same n (walk st n) _ _ (spent st n)
      (λ t r c. back_same r (c_jumps n walk) (λ u k. c_jumps (suc k) walk u k) t (λ u k d. jumps_same n (suc k) u k (omega arith) (omega arith)))

-- ---- operators and cells

checked_within : (t : Arith) (z : ℤ) (n : ℕ) → Within n (checked t z n)
checked_within t z n = within_if n (c_signed t) _ _ (within_if n (is_of t z) _ _ (within_done _ n) no_meaning) (within_done _ n)

divided_within : (f : ℤ → ℤ → ℤ) (t : Arith) (a b : ℤ) (n : ℕ) → Within n (c_divided f t a b n)
divided_within f t a b n = within_if n (int_eq b (pos 0)) _ _ no_meaning (within_if n (is_of t (int_div a b)) _ _ (within_done _ n) no_meaning)

apply_within : (op : CBin) (t : Arith) (a b : ℤ) (n : ℕ) → Within n (c_apply op t a b n)
apply_within Add t a b n = checked_within t _ n
apply_within Sub t a b n = checked_within t _ n
apply_within Mul t a b n = checked_within t _ n
apply_within Div t a b n = divided_within int_div t a b n
apply_within Rem t a b n = divided_within int_rem t a b n
apply_within And t a b n = within_done _ n
apply_within Or t a b n = within_done _ n
apply_within Xor t a b n = within_done _ n
apply_within Shl t a b n = within_if n (can_shift t a b) _ _ (checked_within t _ n) no_meaning
apply_within Shr t a b n = within_if n (can_shift t a b) _ _ (within_done _ n) no_meaning
apply_within Eq t a b n = within_done _ n
apply_within Ne t a b n = within_done _ n
apply_within Lt t a b n = within_done _ n
apply_within Le t a b n = within_done _ n
apply_within Gt t a b n = within_done _ n
apply_within Ge t a b n = within_done _ n

bin_within : (op : CBin) (a b : CVal) (n : ℕ) → Within n (c_bin op a b n)
bin_within Shl a b n = apply_within Shl a.ty a.z b.z n
bin_within Shr a b n = apply_within Shr a.ty a.z b.z n
bin_within op a b n = apply_within op (usual a.ty b.ty) (convert (usual a.ty b.ty) a.z) (convert (usual a.ty b.ty) b.z) n

un_within : (op : CUn) (v : CVal) (n : ℕ) → Within n (c_un op v n)
un_within un.Minus v n = checked_within v.ty _ n
un_within un.Not v n = within_done _ n
un_within un.Complement v n = within_done _ n

cell_within : {A : Type 0} (n : ℕ) (c : Option (List ℕ)) (go : List ℕ → COut A) → ((x : List ℕ) → Within n (go x)) → Within n (with_cell c go)
cell_within n None go h = no_meaning
cell_within n (Some x) go h = h x

-- ---- frames

-- what sets a place makes no fuel
abbrev pub Sets : (Objects → Place → ℤ → ℕ → COut Objects) → Type 0
Sets set = (o : Objects) (p : Place) (z : ℤ) (n : ℕ) → Within n (set o p z n)

set_located_within : Sets set_located
set_located_within o p z n = cell_within n (o.cell p) _ (λ c. within_done _ n)

surely_within : (set : Objects → Place → ℤ → Objects) → Sets (surely set)
surely_within set o p z n = within_done _ n

element_within : (dims : List ℕ) (p : Place) (z : ℤ) → Spends (c_element dims p z)
element_within dims p z s n = within_if n (is_index dims z) _ _ (within_done _ n) no_meaning

module _ (fr : Frame) (spent : CallsSpend fr) where
  called_within : (f : List ℕ) (xs : List Passed) (o : Objects) (n : ℕ) → Within n (fr.call f xs o n)
  called_within f xs o n = within_rest n (fr.call f xs o n) (λ l r e. spent f xs o l n r e)

  object_within : Spends (object_value fr)
  object_within (p, s) n = within_done _ n

  located_within : Spends (cell_value fr)
  located_within (p, s) n = within_then n (get_located s.objects p n) _ (cell_within n (s.objects.cell p) _ (λ c. within_done _ n)) (λ z r g. within_done _ r)

  path_within : (l : Option Local) (place : COut (Got Place)) (s : CStore) (n : ℕ) → Within n place → Within n (path_value fr l place s n)
  path_within None place s n h = within_then n place _ h (λ q r g. object_within q r)
  path_within (Some l) place s n h = within_done _ n

  mutual
    pub value_within : (e : CExpr) → Spends (c_value fr e)
    value_within (expr.Number v k) s n = within_done _ n
    value_within (expr.Path' first arrow h parts) s n = path_within (local_path arrow parts (local_in s.locals first)) _ s n (parts_within parts (first_place fr first arrow) s n)
    value_within expr.Moment s n = within_done _ n
    value_within (expr.GetVar' first arrow h parts) s n = within_then n _ _ (parts_within parts (first_place fr first arrow) s n) (λ q r g. object_within q r)
    value_within (expr.GetLocated' first arrow h parts) s n = within_then n _ _ (parts_within parts (first_place fr first arrow) s n) (λ q r g. located_within q r)
    value_within (expr.Call' name h args) s n =
        within_then n _ _ (row_args_within args s n) (λ xs r g. within_then r _ _ (called_within name xs.0 xs.1.objects r) (λ l k f. within_done _ k))
    value_within (expr.Bin' op h l k right) s n =
        within_then n _ _ (side_within l s n) (λ a r g. within_then r _ _ (side_within right a.1 r) (λ b i f. within_then i _ _ (bin_within op a.0 b.0 i) (λ v j e. within_done _ j)))
    value_within (expr.Un' op h inner) s n = within_then n _ _ (side_within inner s n) (λ a r g. within_then r _ _ (un_within op a.0 r) (λ v j f. within_done _ j))
    value_within (expr.Cast' to h inner) s n = within_then n _ _ (side_within inner s n) (λ a r g. within_done _ r)

    side_within : {m : _} (row : Row_of-CExpr m) → Spends (c_side fr row)
    side_within end_of-CExpr s n = none_left
    side_within (more_of-CExpr e rest) s n = value_within e s n

    sel_within : (x : CSel) (p : Place) → Spends (c_sel fr x p)
    sel_within (sel.Field name) p s n = within_done _ n
    sel_within (sel.Index e) p s n = within_then n _ _ (value_within e s n) (λ v r g. element_within _ p v.0.z v.1 r)

    parts_within : {m : _} (row : Row_of-CSel m) (p : Place) → Spends (c_parts fr row p)
    parts_within end_of-CSel p s n = within_done _ n
    parts_within (more_of-CSel x rest) p s n = within_then n _ _ (sel_within x p s n) (λ q r g. parts_within rest q.0 q.1 r)

    arg_within : (a : CArg) → Spends (c_arg fr a)
    arg_within (arg.Value e) s n = within_then n _ _ (value_within e s n) (λ v r g. within_done _ r)
    arg_within (arg.Address' first arrow h parts) s n = within_then n _ _ (parts_within parts (first_place fr first arrow) s n) (λ p r g. within_done _ r)
    arg_within (arg.Pass name) s n = within_done _ n

    row_args_within : {m : _} (row : Row_of-CArg m) → Spends (c_args_in fr row)
    row_args_within end_of-CArg s n = within_done _ n
    row_args_within (more_of-CArg a rest) s n = within_then n _ _ (arg_within a s n) (λ x r g. within_then r _ _ (row_args_within rest x.1 r) (λ xs k f. within_done _ k))

  sels_within : (xs : List CSel) (p : Place) → Spends (c_sels fr xs p)
  sels_within [] p s n = within_done _ n
  sels_within (x ∷ xs) p s n = within_then n _ _ (sel_within x p s n) (λ q r g. sels_within xs q.0 q.1 r)

  place_within : (p : CPath) → Spends (c_place fr p)
  place_within p s n = sels_within p.parts (first_place fr p.first p.arrow) s n

  args_within : (xs : List CArg) → Spends (c_args fr xs)
  args_within [] s n = within_done _ n
  args_within (a ∷ rest) s n = within_then n _ _ (arg_within a s n) (λ x r g. within_then r _ _ (args_within rest x.1 r) (λ xs k f. within_done _ k))

  -- ---- statements

  setting_within : (set : Objects → Place → ℤ → ℕ → COut Objects) → Sets set → (to : CPath) (e : CExpr) → Spends (c_setting set fr to e)
  setting_within set h to e s n =
      within_then n _ _ (place_within to s n)
      (λ p r g. within_then r _ _ (value_within e p.1 r) (λ v k f. within_then k _ _ (h v.1.objects p.0 _ k) (λ o j d. within_done _ j)))

  set_within : (to : CPath) (l : Option Local) (e : CExpr) → Spends (c_set fr to l e)
  set_within to (Some l) e s n = within_then n _ _ (value_within e s n) (λ v r g. within_done _ r)
  set_within to None e s n = setting_within (surely set_plain) (surely_within set_plain) to e s n

  return_within : (value : Option CExpr) → Spends (c_return fr value)
  return_within None s n = within_done _ n
  return_within (Some e) s n = within_then n _ _ (value_within e s n) (λ v r g. within_done _ r)

  publish_within : (o : Objects) (p : Place) (n : ℕ) → Within n (publish o p n)
  publish_within o p n = cell_within n (o.cell p) _ (λ c. within_done _ n)

  mutual
    pub exec_within : (x : CStmt) → Spends (c_exec fr x)
    exec_within (stmt.Set to e) s n = set_within to (local_of to s.locals) e s n
    exec_within (stmt.InitVar to e) s n = setting_within (surely init_var) (surely_within init_var) to e s n
    exec_within (stmt.SetVar to e) s n = setting_within (surely set_var) (surely_within set_var) to e s n
    exec_within (stmt.InitLocated to cell) s n = within_then n _ _ (place_within to s n) (λ p r g. within_done _ r)
    exec_within (stmt.SetLocated to e) s n = setting_within set_located set_located_within to e s n
    exec_within (stmt.Copy to from) s n = within_then n _ _ (place_within to s n) (λ p r g. within_then r _ _ (place_within from p.1 r) (λ q k f. within_done _ k))
    exec_within (stmt.Publish path) s n = within_then n _ _ (place_within path s n) (λ p r g. within_then r _ _ (publish_within p.1.objects p.0 r) (λ o k f. within_done _ k))
    exec_within (stmt.Call f args) s n = within_then n _ _ (args_within args s n) (λ xs r g. within_then r _ _ (called_within f xs.0 xs.1.objects r) (λ l k d. within_done _ k))
    exec_within (stmt.If' test h body other) s n =
        within_then n _ _ (value_within test s n) (λ v r g. within_if r (is_true v.0) _ _ (stmts_within body v.1 r) (else_within other v.1 r))
    exec_within (stmt.While' test h body) s n = turns_within (c_value fr test) (c_stmts fr body) (value_within test) (stmts_within body) (suc n) s n
    exec_within stmt.Break s n = within_done _ n
    exec_within (stmt.Goto name) s n = within_done _ n
    exec_within (stmt.Label name) s n = within_done _ n
    exec_within (stmt.Return value) s n = return_within value s n

    stmts_within : {m : _} (row : Row_of-CStmt m) → Spends (c_stmts fr row)
    stmts_within end_of-CStmt s n = within_done _ n
    stmts_within (more_of-CStmt x rest) s n = within_then n _ _ (exec_within x s n) (λ st r g. within_go_on (c_stmts fr rest) (stmts_within rest) st r)

    else_within : (other : Held-CStmt-If-2) → Spends (c_else fr other)
    else_within None' s n = within_done _ n
    else_within (Some' h cs) s n = stmts_within cs s n

  pub run_within : (xs : List CStmt) → Spends (c_run fr xs)
  run_within [] s n = within_done _ n
  run_within (x ∷ xs) s n = within_then n _ _ (exec_within x s n) (λ st r g. within_go_on (c_run fr xs) (run_within xs) st r)

  -- ---- bodies of functions

  pub walk_within : (xs : List CStmt) → Spends (c_walk fr xs)
  walk_within [] st n = within_done _ n
  walk_within (x ∷ xs) (s, CNext) n = within_then n _ _ (exec_within x s n) (λ st r g. walk_within xs st r)
  walk_within (x ∷ xs) (s, Broken) n = within_done _ n
  walk_within (x ∷ xs) (s, Jumps name) n = walk_within xs (s, arrived name x) n
  walk_within (x ∷ xs) (s, Returned v) n = within_done _ n

  pub body_within : (body : List CStmt) → Spends (c_body fr body)
  body_within body s n = jumps_within (c_walk fr body) (walk_within body) (suc n) (s, CNext) n

  locals_within : (ls : List CLocal) → Spends (c_locals fr ls)
  locals_within [] s n = within_done _ n
  locals_within (l ∷ ls) s n = within_then n _ _ (value_within l.init s n) (λ v r g. locals_within ls _ r)

  -- ---- the laws of a frame

  -- no statement makes fuel
  pub exec_spends : (x : CStmt) (s : CStore) (st : CState) (n r : ℕ) → c_exec fr x s n ≡ CDone st r → r ≤ n
  exec_spends x s st n r e = rest_within st n r (c_exec fr x s n) (exec_within x s n) e

  pub body_spends : (body : List CStmt) (s : CStore) (st : CState) (n r : ℕ) → c_body fr body s n ≡ CDone st r → r ≤ n
  body_spends body s st n r e = rest_within st n r (c_body fr body s n) (body_within body s n) e

  -- a loop and a body are the same, said in any number that is greater than the fuel
  pub while_in : (test : CExpr) (body : List CStmt) (s : CStore) (n g : ℕ) → n < g → c_exec fr (While test body) s n ≡ c_turns g (c_value fr test) (c_run fr body) s n
  while_in test body s n g h = c_exec-While fr test body s n ∙ turns_same (c_value fr test) (c_run fr body) (value_within test) (run_within body) (suc n) g s n (omega arith) h

  pub body_in : (body : List CStmt) (s : CStore) (n g : ℕ) → n < g → c_body fr body s n ≡ c_jumps g (c_walk fr body) (s, CNext) n
  body_in body s n g h = jumps_same (c_walk fr body) (walk_within body) (suc n) g (s, CNext) n (omega arith) h

  -- a turn, and the loop again with the fuel that is left
  pub while_turn : (test : CExpr) (body : List CStmt) (s : CStore) (n : ℕ)
      → c_exec fr (While test body) s n
      ≡ c_then (c_value fr test s n) (λ v r. if is_true v.0 then c_turn r (λ k. c_then (c_run fr body v.1 k) (λ st j. c_next_turn st j (c_exec fr (While test body)))) else CDone (v.1, CNext) r)
  while_turn test body s n =
      c_exec-While fr test body s n
      ∙ turns_again (c_value fr test) (c_run fr body) (value_within test) (run_within body) s n
      ∙ (λ i. c_then (c_value fr test s n) (λ v r. if is_true v.0 then one_turn (c_run fr body) v.1 r (λ t k. sym (c_exec-While fr test body t k) i) else CDone (v.1, CNext) r))

  -- a walk, and the body again with the fuel that is left
  pub body_turn : (body : List CStmt) (st : CState) (n : ℕ) → c_jumps (suc n) (c_walk fr body) st n ≡ c_then (c_walk fr body st n) (λ t r. c_back t r (λ u k. c_jumps (suc k) (c_walk fr body) u k))
  body_turn body st n = jumps_again (c_walk fr body) (walk_within body) st n

-- ---- calls and runs of a unit

module _ (items : List CItem) where
  function_within : (call : List ℕ → List Passed → Objects → ℕ → COut Left) → ((f : List ℕ) (xs : List Passed) (o : Objects) (n : ℕ) → Within n (call f xs o n))
      → (f : Function) (xs : List Passed) → Spends (function_run items call f xs)
  function_within call h f xs o n =
      let fr : Frame = function_frame items call f xs in
      let spent : CallsSpend fr = λ g ys p l i r e. rest_within l i r (call g ys p i) (h g ys p i) e in
      within_then n _ _ (locals_within fr spent f.locals (c_store o (bound_locals f.params xs)) n)
      (λ s r g. within_then r _ _ (body_within fr spent f.body s r) (λ st k d. within_done _ k))

  -- the functions above make no fuel, so this one makes none
  pub call_within : (fs : List Function) (name : List ℕ) (xs : List Passed) → Spends (call_of items fs name xs)
  call_within [] name xs o n = within_done _ n
  call_within (f ∷ above) name xs o n =
      within_if n (bytes_eq f.name name) _ _ (function_within (call_of items above) (call_within above) f xs o n) (call_within above name xs o n)

pub call_spends : (items : List CItem) (fs : List Function) (name : List ℕ) (xs : List Passed) (o : Objects) (l : Left) (n r : ℕ) → call_of items fs name xs o n ≡ CDone l r → r ≤ n
call_spends items fs name xs o l n r e = rest_within l n r (call_of items fs name xs o n) (call_within items fs name xs o n) e

from_outside : (c : CUnit) (name : List ℕ) (xs : List Passed) → Spends (c_call c name xs)
from_outside c name xs o n = call_within (all_items c) (reverse (functions_of (all_items c))) name xs o n

start_within : (c : CUnit) → Spends (c_init c)
start_within c o n = within_then n _ _ (from_outside c (codes "config_init__") [] _ n) (λ l r g. within_done _ r)

scan_within : (c : CUnit) (m : ℤ) → Spends (c_scan c m)
scan_within c m o n = within_then n _ _ (from_outside c (codes "config_run__") _ (at_moment o m) n) (λ l r g. within_done _ r)

pub start_spends : (c : CUnit) (o p : Objects) (n r : ℕ) → c_init c o n ≡ CDone p r → r ≤ n
start_spends c o p n r e = rest_within p n r (c_init c o n) (start_within c o n) e

pub scan_spends : (c : CUnit) (m : ℤ) (o p : Objects) (n r : ℕ) → c_scan c m o n ≡ CDone p r → r ≤ n
scan_spends c m o p n r e = rest_within p n r (c_scan c m o n) (scan_within c m o n) e
