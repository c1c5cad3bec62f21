-- Loops (IEC 61131-3, 3.3.2.4): each start of a body is a turn. Each is said in fewer turns than a number that is
-- greater than the fuel, so that the fuel ends first.
use Rattle.std.specs.Prelude.{ℕ, zero, suc, ℤ, Bool, if◌then◌else◌}
use Rattle.plc_tree.specs.Outcome.{Out, Done, Past, then_do, with_turn}
use Rattle.plc_tree.specs.Store.{Store}

-- how a statement hands on: to the next one, out of the innermost loop, or out of the body
pub data Flow : Type 0 where
  Next : Flow
  Exits : Flow
  Returns : Flow

abbrev pub State : Type 0
State = Store × Flow

abbrev pub go_on : State → ℕ → (Store → ℕ → Out State) → Out State
go_on (s, Next) n go = go s n
go_on (s, Exits) n go = Done (s, Exits) n
go_on (s, Returns) n go = Done (s, Returns) n

-- after a turn: the next one, or the end of the loop
abbrev pub next_turn : State → ℕ → (Store → ℕ → Out State) → Out State
next_turn (s, Next) n go = go s n
next_turn (s, Exits) n go = Done (s, Next) n
next_turn (s, Returns) n go = Done (s, Returns) n

-- the test stands before each turn
abbrev pub while_turns : ℕ → (Store → ℕ → Out Bool) → (Store → ℕ → Out State) → Store → ℕ → Out State
while_turns zero test body s n = Past
while_turns (suc gas) test body s n =
    then_do (test s n) (λ goes r. if goes then with_turn r (λ k. then_do (body s k) (λ st j. next_turn st j (while_turns gas test body))) else Done (s, Next) r)

-- and behind each: the loop ends where it holds
abbrev pub repeat_turns : ℕ → (Store → ℕ → Out State) → (Store → ℕ → Out Bool) → Store → ℕ → Out State
repeat_turns zero body test s n = Past
repeat_turns (suc gas) body test s n =
    with_turn n (λ k. then_do (body s k) (λ st j. next_turn st j (λ t i. then_do (test t i) (λ ends r. if ends then Done (t, Next) r else repeat_turns gas body test t r))))

-- The step and the limit that were found last say whether there is a turn; behind it the variable is counted on, and
-- they are found anew.
abbrev pub for_turns : ℕ → (ℤ × ℤ → Store → Bool) → (Store → ℕ → Out State) → (Store → ℕ → Out (Store × (ℤ × ℤ))) → ℤ × ℤ → Store → ℕ → Out State
for_turns zero test body count found s n = Past
for_turns (suc gas) test body count found s n =
    if test found s then with_turn n (λ k. then_do (body s k) (λ st j. next_turn st j (λ t i. then_do (count t i) (λ x r. for_turns gas test body count x.1 x.0 r)))) else Done (s, Next) n
