-- How a step of a source ends: with its result and the rest of the fuel, or past the bound of turns.
use Rattle.std.specs.Prelude.{ℕ, zero, suc}

pub data Out (A : Type 0) : Type 0 where
  Done : A → ℕ → Out A
  Past : Out A

abbrev pub then_do : {A B : Type 0} → Out A → (A → ℕ → Out B) → Out B
then_do (Done a fuel) go = go a fuel
then_do Past go = Past

-- a turn costs one unit of the fuel
abbrev pub with_turn : {A : Type 0} → ℕ → (ℕ → Out A) → Out A
with_turn zero go = Past
with_turn (suc fuel) go = go fuel
