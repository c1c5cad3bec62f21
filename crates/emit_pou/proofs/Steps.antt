-- Steps of the C that do what steps of the source do, one after the other.
use Rattle.std.proofs.Common.{◌≡◌, refl, sym, subst, ℕ, zero, suc}
use Rattle.plc_tree.specs.Outcome.{Out, Done, then_do, with_turn}
use Rattle.c_meaning.specs.Outcome.{COut, CDone, c_then, c_turn}
use Rattle.c_meaning.specs.Values.{CVal}
use Rattle.c_meaning.specs.Loops.{CStore, Got}
use Rattle.emit_pou.specs.Like.{Sim, both_done, both_past, Gives}

pub sim_then : {A B C D : Type 0} {R : A → B → Type 0} {S : C → D → Type 0} (x : Out A) (y : COut B) (k : A → ℕ → Out C) (l : B → ℕ → COut D)
    → Sim R x y → ((a : A) (b : B) (n : ℕ) → R a b → Sim S (k a n) (l b n)) → Sim S (then_do x k) (c_then y l)
sim_then _ _ k l (both_done r) h = h _ _ _ r
sim_then _ _ k l both_past h = both_past

-- the C goes on by a step of its own
pub sim_after : {A B D : Type 0} {R : A → B → Type 0} {S : A → D → Type 0} (x : Out A) (y : COut B) (l : B → ℕ → COut D)
    → Sim R x y → ((a : A) (b : B) (n : ℕ) → R a b → Sim S (Done a n) (l b n)) → Sim S x (c_then y l)
sim_after _ _ l (both_done r) h = h _ _ _ r
sim_after _ _ l both_past h = both_past

-- behind an expression, which leaves the store as it is
pub sim_given : {A C D : Type 0} {R : A → CVal → Type 0} {S : C → D → Type 0} (c : CStore) (x : Out A) (y : COut (Got CVal)) (k : A → ℕ → Out C) (l : Got CVal → ℕ → COut D)
    → Sim (Gives c R) x y → ((a : A) (v : CVal) (n : ℕ) → R a v → Sim S (k a n) (l (v, c) n)) → Sim S (then_do x k) (c_then y l)
sim_given {S = S} c x y k l r h = sim_then x y k l r (λ a v n p. subst (λ d. Sim S (k a n) (l (v.0, d) n)) (sym p.stays) (h a v.0 n p.value))

-- a step of the source whose result is changed
pub sim_map : {A B C : Type 0} {R : A → B → Type 0} {S : C → B → Type 0} (x : Out A) (y : COut B) (f : A → C) → Sim R x y → ((a : A) (b : B) → R a b → S (f a) b) → Sim S (then_do x (λ a n. Done (f a) n)) y
sim_map _ _ f (both_done r) h = both_done (h _ _ r)
sim_map _ _ f both_past h = both_past

-- a turn on both sides
pub sim_turn : {A B : Type 0} {R : A → B → Type 0} (n : ℕ) (go : ℕ → Out A) (goes : ℕ → COut B) → ((m : ℕ) → Sim R (go m) (goes m)) → Sim R (with_turn n go) (c_turn n goes)
sim_turn zero go goes h = both_past
sim_turn (suc n) go goes h = h n

-- what is done as a step of the source is done
pub sim_done : {A B : Type 0} {R : A → B → Type 0} (a : A) (n : ℕ) (y : COut B) → Sim R (Done a n) y → (b : B) × (y ≡ CDone b n) × R a b
sim_done a n _ (both_done {b = b} r) = (b, refl, r)
