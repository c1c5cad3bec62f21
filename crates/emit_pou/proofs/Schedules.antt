-- One task is due at each tick.
use Rattle.std.proofs.Common.{◌≡◌, refl, ap, ◌∙◌, ℕ, zero, suc, ◌<◌, [], ◌∷◌, true, arith}
use Rattle.std.specs.Prelude.{nat_eq, Some}
use Rattle.std.proofs.Math.Nat.{div_self, mod-one}
use Rattle.std.proofs.lemmas.Bool.Decides.{nat_tests}
use Rattle.plc_tree.specs.declared.typed.TInst.{TInst}
use Rattle.plc_tree.specs.declared.typed.TResource.{TResource}
use Rattle.plc_tree.specs.declared.typed.TTask.{TTask}
use Rattle.plc_tree.specs.Schedule.{over, rest_of, is_due, interval_of, runs}
use Rattle.emit_pou.specs.Single.{Single, unit_of}

pub nat_eq-self : (n : ℕ) → nat_eq n n ≡ true
nat_eq-self n = grind (arith, nat_tests)

-- the only instance
abbrev pub inst_of : Single → TInst
inst_of x = record { id = x.inst_id; name = x.inst_name; task = Some x.task.id; program = x.pou.id }

-- the only resource
abbrev pub resource_of : Single → TResource
resource_of x = record { id = x.resource_id; name = x.resource_name; tasks = x.task ∷ []; insts = inst_of x ∷ [] }

over-self : (a : ℕ) → 0 < a → over a a ≡ 1
over-self zero h = absurd (omega arith)
over-self (suc a) h = div_self h

rest_of-one : (t : ℕ) → rest_of t 1 ≡ 0
rest_of-one t = mod-one t

always_due : (tick : ℕ) (t : TTask) → 0 < interval_of t → is_due (interval_of t) tick t ≡ true
always_due tick t h = ap (λ d. nat_eq (rest_of tick d) 0) (over-self (interval_of t) h) ∙ ap (λ r. nat_eq r 0) (rest_of-one tick)

pub runs_one : (x : Single) (tick : ℕ) → 0 < interval_of x.task → runs (unit_of x) tick ≡ inst_of x ∷ []
runs_one x tick h = rw (nat_eq-self x.task.id, always_due tick x.task h) refl
