-- What a typed body does, with fuel (IEC 61131-3, 3.3).
use Rattle.std.specs.Prelude.{ℕ, suc, ◌^◌, List, [], ◌∷◌, ◌++◌, ℤ, pos, negsuc, ◌+ℤ◌, ◌-ℤ◌, ◌*ℤ◌, int_le, int_div, int_rem, Bool, true, false, not, ◌&&◌, Option, Some, None, if◌then◌else◌}
use Rattle.std.specs.List.{list_any}
use Rattle.std.specs.Ordering.{int_eq}
use Rattle.std.specs.Int.Bits.{bit_and, bit_or, bit_xor}
use Rattle.plc_base.specs.declared.elem.Elem.{Elem}
use Rattle.plc_base.specs.declared.elem.Elem.TheVariants.{Int}
use Rattle.plc_base.specs.Numbers.{width, is_signed, residue, reading, wrap}
use Rattle.plc_tree.specs.declared.tree.BinOp.{BinOp}
use Rattle.plc_tree.specs.declared.tree.BinOp.TheVariants.{Or, Xor, And, Eq, Ne, Lt, Gt, Le, Ge, Add, Sub, Mul, Div, Rem}
use Rattle.plc_tree.specs.declared.tree.UnOp.{UnOp}
use Rattle.plc_tree.specs.declared.tree.UnOp.TheVariants.{Minus, Not}
use Rattle.plc_tree.specs.declared.typed.TUnit.{TUnit}
use Rattle.plc_tree.specs.declared.typed.TPath.{TPath}
use Rattle.plc_tree.specs.declared.typed.TExpr.{TExpr, Number, Truth, Var, Paren', Unary', Binary', Row_of-TExpr, end_of-TExpr, more_of-TExpr}
use Rattle.plc_tree.specs.declared.typed.TLabel.{TLabel}
use Rattle.plc_tree.specs.declared.typed.TLabel.TheVariants.{Range}
use Rattle.plc_tree.specs.declared.typed.TStmt.{TStmt, Empty, Set, If', Case', For', While', Repeat', Exit, Return, Row_of-TStmt, end_of-TStmt, more_of-TStmt, Row_of-TArm, end_of-TArm, more_of-TArm, Row_of-TChoice, end_of-TChoice, more_of-TChoice}
use Rattle.plc_tree.specs.declared.typed.TBody.{TBody}
use Rattle.plc_tree.specs.declared.typed.TBody.TheVariants.{St}
use Rattle.plc_tree.specs.Outcome.{Out, Done, Past, then_do}
use Rattle.plc_tree.specs.Loops.{Next, Exits, Returns, State, go_on, while_turns, repeat_turns, for_turns}
use Rattle.plc_tree.specs.Rows.{elem_of}
use Rattle.plc_tree.specs.Store.{Path, Store, see, write}

-- where a body runs: in its unit, of the instance with this path, at this moment
pub record Env : Type 0 where
  pub unit : TUnit
  pub inst : Path
  pub moment : ℤ

-- ---- operators (IEC 61131-3, 2.5.1.5)

abbrev pub truth : Bool → ℤ
truth true = pos 1
truth false = pos 0

-- a number divided, toward zero, by one that may be 0
abbrev pub quotient : ℤ → ℤ → ℤ
quotient a b = if int_eq b (pos 0) then pos 0 else int_div a b

abbrev pub remainder : ℤ → ℤ → ℤ
remainder a b = if int_eq b (pos 0) then pos 0 else int_rem a b

-- an operator on each bit
abbrev pub bitwise : (ℕ → ℕ → ℕ) → Elem → ℤ → ℤ → ℤ
bitwise on t a b = reading (is_signed t) (width t) (on (residue (2 ^ width t) a) (residue (2 ^ width t) b))

-- what an operator gives for two numbers of the type of its sides
abbrev pub apply : BinOp → Elem → ℤ → ℤ → ℤ
apply Or t a b = bitwise bit_or t a b
apply Xor t a b = bitwise bit_xor t a b
apply And t a b = bitwise bit_and t a b
apply Eq t a b = truth (int_eq a b)
apply Ne t a b = truth (not (int_eq a b))
apply Lt t a b = truth (not (int_le b a))
apply Gt t a b = truth (not (int_le a b))
apply Le t a b = truth (int_le a b)
apply Ge t a b = truth (int_le b a)
apply Add t a b = wrap t (a +ℤ b)
apply Sub t a b = wrap t (a -ℤ b)
apply Mul t a b = wrap t (a *ℤ b)
apply Div t a b = wrap t (quotient a b)
apply Rem t a b = wrap t (remainder a b)

-- and for one number of its own type; the complement of each bit of z is -1 - z
abbrev pub apply_one : UnOp → Elem → ℤ → ℤ
apply_one Minus t a = wrap t (pos 0 -ℤ a)
apply_one Not t a = wrap t (negsuc 0 -ℤ a)

-- ---- expressions

-- the path of a variable of the running instance
abbrev pub place : Env → TPath → Path
place env p = env.inst ++ (p.first ∷ [])

-- the elementary type of a node
abbrev pub elem_of_node : TExpr → Elem
elem_of_node (Number z ty) = elem_of ty
elem_of_node (Truth b ty) = elem_of ty
elem_of_node (Var p ty) = elem_of ty
elem_of_node (Paren' ty h inner) = elem_of ty
elem_of_node (Unary' op ty h inner) = elem_of ty
elem_of_node (Binary' op ty h l k r) = elem_of ty

-- and of the one expression in a row
abbrev pub side_of : {m : _} → Row_of-TExpr m → Elem
side_of end_of-TExpr = Int
side_of (more_of-TExpr e rest) = elem_of_node e

abbrev mutual
  pub value : Env → TExpr → Store → ℕ → Out ℤ
  value env (Number z ty) s n = Done z n
  value env (Truth b ty) s n = Done (truth b) n
  value env (Var p ty) s n = Done (see env.unit s (place env p)) n
  value env (Paren' ty h inner) s n = value_one env inner s n
  value env (Unary' op ty h inner) s n = then_do (value_one env inner s n) (λ a r. Done (apply_one op (elem_of ty) a) r)
  value env (Binary' op ty h l k r) s n = then_do (value_one env l s n) (λ a j. then_do (value_one env r s j) (λ b i. Done (apply op (side_of l) a b) i))

  -- of the one expression in a row
  pub value_one : Env → {m : _} → Row_of-TExpr m → Store → ℕ → Out ℤ
  value_one env end_of-TExpr s n = Past
  value_one env (more_of-TExpr e rest) s n = value env e s n

-- whether a condition holds
abbrev pub holds : Env → TExpr → Store → ℕ → Out Bool
holds env e s n = then_do (value env e s n) (λ b r. Done (not (int_eq b (pos 0))) r)

-- ---- the parts of a FOR (IEC 61131-3, 3.3.2.4)

-- the step, 1 where there is none
abbrev pub step_value : Env → Option TExpr → Store → ℕ → Out ℤ
step_value env None s n = Done (pos 1) n
step_value env (Some e) s n = value env e s n

-- the step and the limit, found anew for each test
abbrev pub found : Env → Option TExpr → TExpr → Store → ℕ → Out (ℤ × ℤ)
found env step limit s n = then_do (step_value env step s n) (λ a r. then_do (value env limit s r) (λ b k. Done (a, b) k))

-- upwards the limit is the last number, downwards too
abbrev pub is_within : ℤ × ℤ → ℤ → Bool
is_within (step, limit) v = if int_le (pos 0) step then int_le v limit else int_le limit v

abbrev pub for_test : Env → TPath → ℤ × ℤ → Store → Bool
for_test env v h s = is_within h (see env.unit s (place env v))

-- behind a turn: the step, once more, is added to the variable; then step and limit are found anew
abbrev pub counted : Env → Elem → TPath → Option TExpr → TExpr → Store → ℕ → Out (Store × (ℤ × ℤ))
counted env t v step limit s n =
    then_do (step_value env step s n)
    (λ a r. let next = write env.unit s (place env v) (wrap t (see env.unit s (place env v) +ℤ a)) in then_do (found env step limit next r) (λ h k. Done (next, h) k))

-- ---- the labels of a CASE

-- one whose first number is above its second has none
abbrev pub is_in_label : ℤ → TLabel → Bool
is_in_label z (Range low high) = int_le low z && int_le z high

abbrev pub is_labelled : List TLabel → ℤ → Bool
is_labelled labels z = list_any (is_in_label z) labels

-- ---- statements

abbrev mutual
  pub exec : Env → TStmt → Store → ℕ → Out State
  exec env Empty s n = Done (s, Next) n
  exec env (Set to from) s n = then_do (value env from s n) (λ z r. Done (write env.unit s (place env to) z, Next) r)
  exec env (If' h arms k other) s n = exec_arms env arms (exec_all env other) s n
  exec env (Case' pick h arms k other) s n = then_do (value env pick s n) (λ z r. exec_choices env arms z (exec_all env other) s r)
  exec env (For' v start limit step h body) s n =
      then_do (value env start s n)
      (λ z r. let first = write env.unit s (place env v) z in
      then_do (found env step limit first r) (λ x k. for_turns (suc k) (for_test env v) (exec_all env body) (counted env (elem_of_node start) v step limit) x first k))
  exec env (While' test h body) s n = while_turns (suc n) (holds env test) (exec_all env body) s n
  exec env (Repeat' h body test) s n = repeat_turns (suc n) (exec_all env body) (holds env test) s n
  exec env Exit s n = Done (s, Exits) n
  exec env Return s n = Done (s, Returns) n

  -- one after the other
  pub exec_all : Env → {m : _} → Row_of-TStmt m → Store → ℕ → Out State
  exec_all env end_of-TStmt s n = Done (s, Next) n
  exec_all env (more_of-TStmt x xs) s n = then_do (exec env x s n) (λ st r. go_on st r (exec_all env xs))

  -- the first whose test holds; the tests behind it aren't evaluated
  pub exec_arms : Env → {m : _} → Row_of-TArm m → (Store → ℕ → Out State) → Store → ℕ → Out State
  exec_arms env end_of-TArm other s n = other s n
  exec_arms env (more_of-TArm test h body rest) other s n = then_do (holds env test s n) (λ b r. if b then exec_all env body s r else exec_arms env rest other s r)

  -- the first that has the number
  pub exec_choices : Env → {m : _} → Row_of-TChoice m → ℤ → (Store → ℕ → Out State) → Store → ℕ → Out State
  exec_choices env end_of-TChoice z other s n = other s n
  exec_choices env (more_of-TChoice labels h body rest) z other s n = if is_labelled labels z then exec_all env body s n else exec_choices env rest z other s n

abbrev pub exec_list : Env → List TStmt → Store → ℕ → Out State
exec_list env [] s n = Done (s, Next) n
exec_list env (x ∷ xs) s n = then_do (exec env x s n) (λ st r. go_on st r (exec_list env xs))

-- a whole body leaves its store
abbrev pub exec_body : Env → TBody → Store → ℕ → Out Store
exec_body env (St xs) s n = then_do (exec_list env xs s n) (λ st r. Done st.0 r)
