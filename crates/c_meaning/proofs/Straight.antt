-- Statements that end without a jump run one after the other, as a list without labels does.
use Rattle.std.proofs.Common.{◌≡◌, refl, ap, ◌∙◌, ℕ, List, [], ◌∷◌}
use Rattle.c_tree.specs.declared.tree.CStmt.{CStmt}
use Rattle.c_meaning.specs.Outcome.{COut, CDone, CPast, Undefined, c_then}
use Rattle.c_meaning.specs.Execution.{Frame, CStore, CState, CNext, Broken, Jumps, Returned, c_go_on, c_back, c_exec, c_run, c_walk, c_jumps, c_body}

-- no label is sought
abbrev pub Stays : COut CState → Type 0
Stays (CDone (s, CNext) n) = Unit {0}
Stays (CDone (s, Broken) n) = Unit {0}
Stays (CDone (s, Jumps name) n) = ⊥
Stays (CDone (s, Returned v) n) = Unit {0}
Stays CPast = Unit {0}
Stays (Undefined w) = Unit {0}

walk_leaves : (fr : Frame) (cs : List CStmt) (s : CStore) (n : ℕ) → c_walk fr cs (s, Broken) n ≡ CDone (s, Broken) n
walk_leaves fr [] s n = refl
walk_leaves fr (c ∷ cs) s n = refl

walk_on : (fr : Frame) (cs : List CStmt) → ((s : CStore) (n : ℕ) → Stays (c_run fr cs s n) → c_walk fr cs (s, CNext) n ≡ c_run fr cs s n) → (y : COut CState)
    → Stays (c_then y (λ st r. c_go_on st r (c_run fr cs))) → c_then y (c_walk fr cs) ≡ c_then y (λ st r. c_go_on st r (c_run fr cs))
walk_on fr cs rest (CDone (s, CNext) n) h = rest s n h
walk_on fr cs rest (CDone (s, Broken) n) h = walk_leaves fr cs s n
walk_on fr cs rest (CDone (s, Jumps name) n) h = absurd h
walk_on fr [] rest (CDone (s, Returned v) n) h = refl
walk_on fr (c ∷ cs) rest (CDone (s, Returned v) n) h = refl
walk_on fr cs rest CPast h = refl
walk_on fr cs rest (Undefined w) h = refl

walk_straight : (fr : Frame) (cs : List CStmt) (s : CStore) (n : ℕ) → Stays (c_run fr cs s n) → c_walk fr cs (s, CNext) n ≡ c_run fr cs s n
walk_straight fr [] s n h = refl
walk_straight fr (c ∷ cs) s n h = walk_on fr cs (walk_straight fr cs) (c_exec fr c s n) h

back_stays : (y : COut CState) (go : CState → ℕ → COut CState) → Stays y → c_then y (λ t r. c_back t r go) ≡ y
back_stays (CDone (s, CNext) n) go h = refl
back_stays (CDone (s, Broken) n) go h = refl
back_stays (CDone (s, Jumps name) n) go h = absurd h
back_stays (CDone (s, Returned v) n) go h = refl
back_stays CPast go h = refl
back_stays (Undefined w) go h = refl

pub straight : (fr : Frame) (body : List CStmt) (s : CStore) (n : ℕ) → Stays (c_run fr body s n) → c_body fr body s n ≡ c_run fr body s n
straight fr body s n h =
    ap (λ y. c_then y (λ t r. c_back t r (c_jumps n (c_walk fr body)))) (walk_straight fr body s n h) ∙ back_stays (c_run fr body s n) (c_jumps n (c_walk fr body)) h

-- where no label is sought at the end
stays : (y : COut CState) → ((t : CStore) (name : List ℕ) (r : ℕ) → y ≡ CDone (t, Jumps name) r → ⊥) → Stays y
stays (CDone (s, CNext) n) h = tt
stays (CDone (s, Broken) n) h = tt
stays (CDone (s, Jumps name) n) h = h s name n refl
stays (CDone (s, Returned v) n) h = tt
stays CPast h = tt
stays (Undefined w) h = tt

pub straight_any : (fr : Frame) (body : List CStmt) (s : CStore) (n : ℕ) → ((t : CStore) (name : List ℕ) (r : ℕ) → c_run fr body s n ≡ CDone (t, Jumps name) r → ⊥) → c_body fr body s n ≡ c_run fr body s n
straight_any fr body s n h = straight fr body s n (stays (c_run fr body s n) h)
