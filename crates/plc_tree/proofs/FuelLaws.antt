-- The fuel never grows, so the number that a loop is said in says nothing, and each loop meets its unfolding.
use Rattle.std.proofs.Common.{◌≡◌, refl, ap, ◌∙◌, ℕ, zero, suc, ◌<◌, ◌≤◌, List, [], ◌∷◌, Option, Some, None, Bool, true, false, arith}
use Rattle.std.specs.Prelude.{ℤ, if◌then◌else◌}
use Rattle.plc_base.specs.declared.elem.Elem.{Elem}
use Rattle.plc_tree.specs.declared.typed.TPath.{TPath}
use Rattle.plc_tree.specs.declared.typed.TExpr.{TExpr, Number, Truth, Var, Paren', Unary', Binary', Row_of-TExpr, end_of-TExpr, more_of-TExpr}
use Rattle.plc_tree.specs.declared.typed.TStmt.{TStmt, Empty, Set, If', Case', For', For, While', While, Repeat', Repeat, Exit, Return, Row_of-TStmt, end_of-TStmt, more_of-TStmt, Row_of-TArm, end_of-TArm, more_of-TArm, Row_of-TChoice, end_of-TChoice, more_of-TChoice}
use Rattle.plc_tree.specs.declared.typed.TStmt.TheBlock.{hidden-the_row-TStmt-0}
use Rattle.plc_tree.specs.Outcome.{Out, Done, Past, then_do, with_turn}
use Rattle.plc_tree.specs.Store.{Store, write}
use Rattle.plc_tree.specs.Loops.{State, Next, Exits, Returns, go_on, next_turn, while_turns, repeat_turns, for_turns}
use Rattle.plc_tree.specs.Execution.{Env, place, value, value_one, holds, step_value, found, for_test, counted, is_labelled, elem_of_node, exec, exec_all, exec_arms, exec_choices, exec_list}
use Rattle.plc_tree.proofs.TreeViews.{list_row, exec-While, exec-Repeat, exec-For}

-- no more fuel is left than n
pub data Within {A : Type 0} (n : ℕ) : Out A → Type 0 where
  left : {a : A} {r : ℕ} → r ≤ n → Within n (Done a r)
  none_left : Within n Past

-- a step that makes no fuel
abbrev pub Spends : {A B : Type 0} → (A → ℕ → Out B) → Type 0
Spends {A} step = (a : A) (n : ℕ) → Within n (step a n)

-- ---- steps in order

within_more : {A : Type 0} (r n : ℕ) (x : Out A) → r ≤ n → Within r x → Within n x
within_more r n _ h (left g) = left (omega arith)
within_more r n _ h none_left = none_left

within_done : {A : Type 0} (a : A) (n : ℕ) → Within n (Done a n)
within_done a n = left (omega arith)

pub within_then : {A B : Type 0} (n : ℕ) (x : Out A) (go : A → ℕ → Out B) → Within n x → ((a : A) (r : ℕ) → r ≤ n → Within r (go a r)) → Within n (then_do x go)
within_then n _ go (left {a = a} {r = r} h) f = within_more r n (go a r) h (f a r h)
within_then n _ go none_left f = none_left

within_if : {A : Type 0} (n : ℕ) (b : Bool) (x y : Out A) → Within n x → Within n y → Within n (if b then x else y)
within_if n true x y h k = h
within_if n false x y h k = k

-- two ways on that agree at the fuel that can be left
then_same : {A B : Type 0} (n : ℕ) (x : Out A) (go to : A → ℕ → Out B) → Within n x → ((a : A) (r : ℕ) → r ≤ n → go a r ≡ to a r) → then_do x go ≡ then_do x to
then_same n _ go to (left {a = a} {r = r} h) f = f a r h
then_same n _ go to none_left f = refl

pub within_go_on : (go : Store → ℕ → Out State) → Spends go → (st : State) (n : ℕ) → Within n (go_on st n go)
within_go_on go h (s, Next) n = h s n
within_go_on go h (s, Exits) n = within_done (s, Exits) n
within_go_on go h (s, Returns) n = within_done (s, Returns) n

-- ---- turns

pub within_next : (go : Store → ℕ → Out State) → Spends go → (st : State) (n : ℕ) → Within n (next_turn st n go)
within_next go h (s, Next) n = h s n
within_next go h (s, Exits) n = within_done (s, Next) n
within_next go h (s, Returns) n = within_done (s, Returns) n

next_same : (go to : Store → ℕ → Out State) (st : State) (n : ℕ) → ((s : Store) → go s n ≡ to s n) → next_turn st n go ≡ next_turn st n to
next_same go to (s, Next) n h = h s
next_same go to (s, Exits) n h = refl
next_same go to (s, Returns) n h = refl

-- a turn of any loop, and how it goes on behind it
abbrev pub one_turn : (Store → ℕ → Out State) → Store → ℕ → (Store → ℕ → Out State) → Out State
one_turn body s n go = with_turn n (λ k. then_do (body s k) (λ st j. next_turn st j go))

module _ (body : Store → ℕ → Out State) (spent : Spends body) (s : Store) where
  within_turn : (n : ℕ) (go : Store → ℕ → Out State) → Spends go → Within n (one_turn body s n go)
  within_turn zero go h = none_left
  within_turn (suc k) go h = within_more k (suc k) _ (omega arith) (within_then k (body s k) _ (spent s k) (λ st j g. within_next go h st j))

  -- less fuel is left behind it
  turn_same : (n : ℕ) (go to : Store → ℕ → Out State) → ((t : Store) (i : ℕ) → i < n → go t i ≡ to t i) → one_turn body s n go ≡ one_turn body s n to
  turn_same zero go to h = refl
  turn_same (suc k) go to h = then_same k (body s k) _ _ (spent s k) (λ st j g. next_same go to st j (λ t. h t j (omega arith)))

-- ---- loops

module _ (test : Store → ℕ → Out Bool) (body : Store → ℕ → Out State) (tested : Spends test) (spent : Spends body) where
  pub while_within : (gas : ℕ) → Spends (while_turns gas test body)
  while_within zero s n = none_left
  while_within (suc gas) s n =
      within_then n (test s n) _ (tested s n)
      (λ goes r h. within_if r goes _ _ (within_turn body spent s r (while_turns gas test body) (while_within gas)) (within_done (s, Next) r))

  pub while_same : (g h : ℕ) (s : Store) (n : ℕ) → n < g → n < h → while_turns g test body s n ≡ while_turns h test body s n
  while_same zero h s n a b = absurd (omega arith)
  while_same (suc g) zero s n a b = absurd (omega arith)
  while_same (suc g) (suc h) s n a b =
      then_same n (test s n) _ _ (tested s n)
      (λ goes r c. ap (λ y. if goes then y else Done (s, Next) r)
      (turn_same body spent s r (while_turns g test body) (while_turns h test body) (λ t i d. while_same g h t i (omega arith) (omega arith))))

  -- with the fuel that is left
  pub while_again : (s : Store) (n : ℕ)
      → while_turns (suc n) test body s n ≡ then_do (test s n) (λ goes r. if goes then one_turn body s r (λ t i. while_turns (suc i) test body t i) else Done (s, Next) r)
  while_again s n =
      then_same n (test s n) _ _ (tested s n)
      (λ goes r c. ap (λ y. if goes then y else Done (s, Next) r)
      (turn_same body spent s r (while_turns n test body) (λ t i. while_turns (suc i) test body t i) (λ t i d. while_same n (suc i) t i (omega arith) (omega arith))))

  -- the test behind the body, and what the loop goes on by where it doesn't hold
  abbrev pub until : (Store → ℕ → Out State) → Store → ℕ → Out State
  until go t i = then_do (test t i) (λ ends r. if ends then Done (t, Next) r else go t r)

  within_until : (go : Store → ℕ → Out State) → Spends go → Spends (until go)
  within_until go h t i = within_then i (test t i) _ (tested t i) (λ ends r g. within_if r ends _ _ (within_done (t, Next) r) (h t r))

  until_same : (go to : Store → ℕ → Out State) (t : Store) (i : ℕ) → ((r : ℕ) → r ≤ i → go t r ≡ to t r) → until go t i ≡ until to t i
  until_same go to t i h = then_same i (test t i) _ _ (tested t i) (λ ends r g. ap (λ y. if ends then Done (t, Next) r else y) (h r g))

  pub repeat_within : (gas : ℕ) → Spends (repeat_turns gas body test)
  repeat_within zero s n = none_left
  repeat_within (suc gas) s n = within_turn body spent s n (until (repeat_turns gas body test)) (within_until (repeat_turns gas body test) (repeat_within gas))

  pub repeat_same : (g h : ℕ) (s : Store) (n : ℕ) → n < g → n < h → repeat_turns g body test s n ≡ repeat_turns h body test s n
  repeat_same zero h s n a b = absurd (omega arith)
  repeat_same (suc g) zero s n a b = absurd (omega arith)
  repeat_same (suc g) (suc h) s n a b =
      turn_same body spent s n (until (repeat_turns g body test)) (until (repeat_turns h body test))
      (λ t i d. until_same (repeat_turns g body test) (repeat_turns h body test) t i (λ r c. repeat_same g h t r (omega arith) (omega arith)))

  pub repeat_again : (s : Store) (n : ℕ) → repeat_turns (suc n) body test s n ≡ one_turn body s n (until (λ t r. repeat_turns (suc r) body test t r))
  repeat_again s n =
      turn_same body spent s n (until (repeat_turns n body test)) (until (λ t r. repeat_turns (suc r) body test t r))
      (λ t i d. until_same (repeat_turns n body test) (λ t r. repeat_turns (suc r) body test t r) t i (λ r c. repeat_same n (suc r) t r (omega arith) (omega arith)))

module _ (test : ℤ × ℤ → Store → Bool) (body : Store → ℕ → Out State) (count : Store → ℕ → Out (Store × (ℤ × ℤ))) (spent : Spends body) (counts : Spends count) where
  -- the variable is counted on, and the loop goes on by what was found
  abbrev pub count_on : (ℤ × ℤ → Store → ℕ → Out State) → Store → ℕ → Out State
  count_on go t i = then_do (count t i) (λ x r. go x.1 x.0 r)

  count_same : (go to : ℤ × ℤ → Store → ℕ → Out State) (t : Store) (i : ℕ) → ((x : ℤ × ℤ) (u : Store) (r : ℕ) → r ≤ i → go x u r ≡ to x u r) → count_on go t i ≡ count_on to t i
  count_same go to t i h = then_same i (count t i) _ _ (counts t i) (λ x r g. h x.1 x.0 r g)

  pub for_within : (gas : ℕ) (x : ℤ × ℤ) → Spends (for_turns gas test body count x)
  for_within zero x s n = none_left
  for_within (suc gas) x s n =
      within_if n (test x s) _ _
      (within_turn body spent s n (count_on (for_turns gas test body count)) (λ t i. within_then i (count t i) _ (counts t i) (λ y r h. for_within gas y.1 y.0 r)))
      (within_done (s, Next) n)

  pub for_same : (g h : ℕ) (x : ℤ × ℤ) (s : Store) (n : ℕ) → n < g → n < h → for_turns g test body count x s n ≡ for_turns h test body count x s n
  for_same zero h x s n a b = absurd (omega arith)
  for_same (suc g) zero x s n a b = absurd (omega arith)
  for_same (suc g) (suc h) x s n a b =
      ap (λ y. if test x s then y else Done (s, Next) n)
      (turn_same body spent s n (count_on (for_turns g test body count)) (count_on (for_turns h test body count))
      (λ t i d. count_same (for_turns g test body count) (for_turns h test body count) t i (λ y u r c. for_same g h y u r (omega arith) (omega arith))))

-- ---- typed bodies

module _ (env : Env) where
  mutual
    pub value_within : (e : TExpr) → Spends (value env e)
    value_within (Number z ty) s n = left (omega arith)
    value_within (Truth b ty) s n = left (omega arith)
    value_within (Var p ty) s n = left (omega arith)
    value_within (Paren' ty h inner) s n = one_within inner s n
    value_within (Unary' op ty h inner) s n = within_then n _ _ (one_within inner s n) (λ a r g. within_done _ r)
    value_within (Binary' op ty h l k right) s n = within_then n _ _ (one_within l s n) (λ a j g. within_then j _ _ (one_within right s j) (λ b i f. within_done _ i))

    pub one_within : {m : _} (row : Row_of-TExpr m) → Spends (value_one env row)
    one_within end_of-TExpr s n = none_left
    one_within (more_of-TExpr e rest) s n = value_within e s n

  pub holds_within : (e : TExpr) → Spends (holds env e)
  holds_within e s n = within_then n _ _ (value_within e s n) (λ b r g. within_done _ r)

  step_within : (step : Option TExpr) → Spends (step_value env step)
  step_within None s n = left (omega arith)
  step_within (Some e) s n = value_within e s n

  pub found_within : (step : Option TExpr) (limit : TExpr) → Spends (found env step limit)
  found_within step limit s n = within_then n _ _ (step_within step s n) (λ a r g. within_then r _ _ (value_within limit s r) (λ b k f. within_done _ k))

  pub counted_within : (t : Elem) (v : TPath) (step : Option TExpr) (limit : TExpr) → Spends (counted env t v step limit)
  counted_within t v step limit s n = within_then n _ _ (step_within step s n) (λ a r g. within_then r _ _ (found_within step limit _ r) (λ h k f. within_done _ k))

  mutual
    pub exec_within : (x : TStmt) → Spends (exec env x)
    exec_within Empty s n = left (omega arith)
    exec_within (Set to from) s n = within_then n _ _ (value_within from s n) (λ z r g. within_done _ r)
    exec_within (If' h arms k other) s n = arms_within arms (exec_all env other) (all_within other) s n
    exec_within (Case' pick h arms k other) s n = within_then n _ _ (value_within pick s n) (λ z r g. choices_within arms z (exec_all env other) (all_within other) s r)
    exec_within (For' v start limit step h body) s n =
        within_then n _ _ (value_within start s n)
        (λ z r g. within_then r _ _ (found_within step limit (write env.unit s (place env v) z) r)
        (λ x k f. for_within (for_test env v) (exec_all env body) (counted env (elem_of_node start) v step limit) (all_within body) (counted_within (elem_of_node start) v step limit) (suc k) x (write env.unit s (place env v) z) k))
    exec_within (While' test h body) s n = while_within (holds env test) (exec_all env body) (holds_within test) (all_within body) (suc n) s n
    exec_within (Repeat' h body test) s n = repeat_within (holds env test) (exec_all env body) (holds_within test) (all_within body) (suc n) s n
    exec_within Exit s n = left (omega arith)
    exec_within Return s n = left (omega arith)

    pub all_within : {m : _} (row : Row_of-TStmt m) → Spends (exec_all env row)
    all_within end_of-TStmt s n = left (omega arith)
    all_within (more_of-TStmt x rest) s n = within_then n _ _ (exec_within x s n) (λ st r g. within_go_on (exec_all env rest) (all_within rest) st r)

    pub arms_within : {m : _} (row : Row_of-TArm m) (other : Store → ℕ → Out State) → Spends other → Spends (exec_arms env row other)
    arms_within end_of-TArm other h s n = h s n
    arms_within (more_of-TArm test k body rest) other h s n =
        within_then n _ _ (holds_within test s n) (λ b r g. within_if r b _ _ (all_within body s r) (arms_within rest other h s r))

    pub choices_within : {m : _} (row : Row_of-TChoice m) (z : ℤ) (other : Store → ℕ → Out State) → Spends other → Spends (exec_choices env row z other)
    choices_within end_of-TChoice z other h s n = h s n
    choices_within (more_of-TChoice labels k body rest) z other h s n = within_if n (is_labelled labels z) _ _ (all_within body s n) (choices_within rest z other h s n)

  -- the test, then, where it holds, a turn, and the same WHILE with the fuel that is left
  pub exec-While-again : (test : TExpr) (h : _) (body : Row_of-TStmt _) (s : Store) (n : ℕ)
      → exec env (While' test h body) s n
      ≡ then_do (holds env test s n) (λ b r. if b then with_turn r (λ k. then_do (exec_all env body s k) (λ st j. next_turn st j (exec env (While' test h body)))) else Done (s, Next) r)
  exec-While-again test h body s n = while_again (holds env test) (exec_all env body) (holds_within test) (all_within body) s n

  -- a turn, then the test, and where it doesn't hold, the same REPEAT with the fuel that is left
  pub exec-Repeat-again : (h : _) (body : Row_of-TStmt _) (test : TExpr) (s : Store) (n : ℕ)
      → exec env (Repeat' h body test) s n
      ≡ with_turn n (λ k. then_do (exec_all env body s k) (λ st j. next_turn st j (λ t i. then_do (holds env test t i) (λ ends r. if ends then Done (t, Next) r else exec env (Repeat' h body test) t r))))
  exec-Repeat-again h body test s n = repeat_again (holds env test) (exec_all env body) (holds_within test) (all_within body) s n

-- ---- with bodies as lists

rest_within : {A : Type 0} (a : A) (n r : ℕ) (x : Out A) → Within n x → x ≡ Done a r → r ≤ n
rest_within a n r _ (left {a = b} {r = q} h) e = let same : q ≡ r = cc in omega arith
rest_within a n r _ none_left e = absurd cc

-- no statement makes fuel
pub fuel_never_grows : (env : Env) (x : TStmt) (s : Store) (st : State) (n r : ℕ) → exec env x s n ≡ Done st r → r ≤ n
fuel_never_grows env x s st n r e = rest_within st n r (exec env x s n) (exec_within env x s n) e

pub list_within : (env : Env) (xs : List TStmt) → Spends (exec_list env xs)
list_within env [] s n = left (omega arith)
list_within env (x ∷ xs) s n = within_then n _ _ (exec_within env x s n) (λ st r g. within_go_on (exec_list env xs) (list_within env xs) st r)

-- a loop is the same, said in any number that is greater than the fuel
pub while_in : (env : Env) (test : TExpr) (body : List TStmt) (s : Store) (n g : ℕ) → n < g → exec env (While test body) s n ≡ while_turns g (holds env test) (exec_list env body) s n
while_in env test body s n g h =
    exec-While env test body s n ∙ while_same (holds env test) (exec_list env body) (holds_within env test) (list_within env body) (suc n) g s n (omega arith) h

pub repeat_in : (env : Env) (body : List TStmt) (test : TExpr) (s : Store) (n g : ℕ) → n < g → exec env (Repeat body test) s n ≡ repeat_turns g (exec_list env body) (holds env test) s n
repeat_in env body test s n g h =
    exec-Repeat env body test s n ∙ repeat_same (holds env test) (exec_list env body) (holds_within env test) (list_within env body) (suc n) g s n (omega arith) h

pub for_in : (env : Env) (v : TPath) (start limit : TExpr) (step : Option TExpr) (body : List TStmt) (s : Store) (n g : ℕ) → n < g
    → exec env (For v start limit step body) s n
    ≡ then_do (value env start s n)
    (λ z r. let first = write env.unit s (place env v) z in
    then_do (found env step limit first r) (λ x k. for_turns g (for_test env v) (exec_list env body) (counted env (elem_of_node start) v step limit) x first k))
for_in env v start limit step body s n g h =
    exec-For env v start limit step body s n
    ∙ then_same n (value env start s n) _ _ (value_within env start s n)
    (λ z r a. then_same r _ _ _ (found_within env step limit (write env.unit s (place env v) z) r)
    (λ x k b. for_same (for_test env v) (exec_list env body) (counted env (elem_of_node start) v step limit) (list_within env body) (counted_within env (elem_of_node start) v step limit)
    (suc k) g x (write env.unit s (place env v) z) k (omega arith) (omega arith)))

-- a turn, and the loop again with the fuel that is left
pub while_turn : (env : Env) (test : TExpr) (body : List TStmt) (s : Store) (n : ℕ)
    → exec env (While test body) s n
    ≡ then_do (holds env test s n) (λ b r. if b then with_turn r (λ k. then_do (exec_list env body s k) (λ st j. next_turn st j (exec env (While test body)))) else Done (s, Next) r)
while_turn env test body s n =
    exec-While-again env test _ (hidden-the_row-TStmt-0 body) s n
    ∙ ap (λ go. then_do (holds env test s n) (λ b r. if b then one_turn go s r (exec env (While test body)) else Done (s, Next) r)) (list_row env body)

pub repeat_turn : (env : Env) (body : List TStmt) (test : TExpr) (s : Store) (n : ℕ)
    → exec env (Repeat body test) s n
    ≡ with_turn n (λ k. then_do (exec_list env body s k) (λ st j. next_turn st j (λ t i. then_do (holds env test t i) (λ ends r. if ends then Done (t, Next) r else exec env (Repeat body test) t r))))
repeat_turn env body test s n =
    exec-Repeat-again env _ (hidden-the_row-TStmt-0 body) test s n
    ∙ ap (λ go. one_turn go s n (λ t i. then_do (holds env test t i) (λ ends r. if ends then Done (t, Next) r else exec env (Repeat body test) t r))) (list_row env body)
