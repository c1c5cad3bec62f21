-- How a step of the stated C ends: with its result and the rest of the fuel, past the bound of turns, or undefined.
use Rattle.std.specs.Prelude.{ℕ, zero, suc}
use Rattle.plc_base.specs.declared.which.Which.{Which}

pub data COut (A : Type 0) : Type 0 where
  CDone : A → ℕ → COut A
  CPast : COut A
  Undefined : Which → COut A

abbrev pub c_then : {A B : Type 0} → COut A → (A → ℕ → COut B) → COut B
c_then (CDone a fuel) go = go a fuel
c_then CPast go = CPast
c_then (Undefined w) go = Undefined w

-- a turn costs one unit of the fuel
abbrev pub c_turn : {A : Type 0} → ℕ → (ℕ → COut A) → COut A
c_turn zero go = CPast
c_turn (suc fuel) go = go fuel
