-- What statements hand on to those behind them, and loops.
use Rattle.std.specs.Prelude.{ℕ, zero, suc, List, [], ◌∷◌, ℤ, pos, Bool, not, Option, if◌then◌else◌}
use Rattle.std.specs.Ordering.{int_eq}
use Rattle.std.specs.Str.{bytes_eq}
use Rattle.plc_base.specs.declared.elem.Elem.{Elem}
use Rattle.c_meaning.specs.Outcome.{COut, CDone, CPast, c_then, c_turn}
use Rattle.c_meaning.specs.Values.{CVal}
use Rattle.c_meaning.specs.Objects.{Objects}

-- a parameter or local with its value
pub record Local : Type 0 where
  pub name : List ℕ
  pub elem : Elem
  pub value : ℤ

-- the first local of this name gets a value
abbrev pub set_local : List Local → List ℕ → ℤ → List Local
set_local [] name z = []
set_local (l ∷ ls) name z = if bytes_eq l.name name then (record l { value = z }) ∷ ls else l ∷ set_local ls name z

-- the objects and the locals of the running function
pub record CStore : Type 0 where
  pub objects : Objects
  pub locals : List Local

abbrev pub c_store : Objects → List Local → CStore
c_store o ls = record { objects = o; locals = ls }

-- how a statement hands on: to the next one, to what stands behind the innermost loop, to a label, or out of the function
pub data CFlow : Type 0 where
  CNext : CFlow
  Broken : CFlow
  -- to the label of this name
  Jumps : List ℕ → CFlow
  Returned : Option CVal → CFlow

-- what a step gives, and the store behind it
abbrev pub Got : Type 0 → Type 0
Got A = A × CStore

abbrev pub CState : Type 0
CState = CStore × CFlow

abbrev pub c_go_on : CState → ℕ → (CStore → ℕ → COut CState) → COut CState
c_go_on (s, CNext) n go = go s n
c_go_on (s, Broken) n go = CDone (s, Broken) n
c_go_on (s, Jumps name) n go = CDone (s, Jumps name) n
c_go_on (s, Returned v) n go = CDone (s, Returned v) n

-- whether a test holds: it is not 0
abbrev pub is_true : CVal → Bool
is_true v = not (int_eq v.z (pos 0))

-- behind the body of a loop: `break` leaves this loop alone
abbrev pub c_next_turn : CState → ℕ → (CStore → ℕ → COut CState) → COut CState
c_next_turn (s, CNext) n go = go s n
c_next_turn (s, Broken) n go = CDone (s, CNext) n
c_next_turn (s, Jumps name) n go = CDone (s, Jumps name) n
c_next_turn (s, Returned v) n go = CDone (s, Returned v) n

-- a loop in fewer than `gas` turns; with fuel n it is given n + 1, so that the fuel ends first
abbrev pub c_turns : ℕ → (CStore → ℕ → COut (Got CVal)) → (CStore → ℕ → COut CState) → CStore → ℕ → COut CState
c_turns zero test body s n = CPast
c_turns (suc gas) test body s n =
    c_then (test s n) (λ v r. if is_true v.0 then c_turn r (λ k. c_then (body v.1 k) (λ st j. c_next_turn st j (c_turns gas test body))) else CDone (v.1, CNext) r)

-- ---- labels

-- behind a walk over the statements of a function: a label that is still sought stands before where it is sought, so
-- the walk starts anew, which costs a turn
abbrev pub c_back : CState → ℕ → (CState → ℕ → COut CState) → COut CState
c_back (s, CNext) n go = CDone (s, CNext) n
c_back (s, Broken) n go = CDone (s, Broken) n
c_back (s, Jumps name) n go = c_turn n (go (s, Jumps name))
c_back (s, Returned v) n go = CDone (s, Returned v) n

-- with fewer than `gas` jumps back; with fuel n it is given n + 1
abbrev pub c_jumps : ℕ → (CState → ℕ → COut CState) → CState → ℕ → COut CState
c_jumps zero walk st n = CPast
c_jumps (suc gas) walk st n = c_then (walk st n) (λ t r. c_back t r (c_jumps gas walk))
