-- What the emitted functions are held to, beside the traces: they start like the source and stay like it.
use Rattle.std.specs.Prelude.{◌≡◌, ℕ, ◌+◌, [], ◌∷◌, ◌++◌, codes, ℤ, pos}
use Rattle.plc_tree.specs.declared.typed.TUnit.{TUnit}
use Rattle.plc_tree.specs.Store.{Store}
use Rattle.plc_tree.specs.Initial.{initial}
use Rattle.plc_tree.specs.Execution.{exec_body}
use Rattle.plc_tree.specs.Run.{scan, tick_of}
use Rattle.c_tree.specs.declared.tree.CUnit.{CUnit}
use Rattle.c_meaning.specs.Outcome.{CDone}
use Rattle.c_meaning.specs.Objects.{Named, Objects}
use Rattle.c_meaning.specs.Execution.{ByPlace, Left}
use Rattle.c_meaning.specs.Run.{c_call, c_cold, c_scan}
use Rattle.emit_pou.specs.CNames.{body_name}
use Rattle.emit_pou.specs.Single.{Single, unit_of}
use Rattle.emit_pou.specs.Like.{Sim, Like}

-- from objects as at load the start ends, with no turn taken, like the initial store
abbrev pub StartsLike : TUnit → CUnit → Type 0
StartsLike u c = (n : ℕ) → (o : Objects) × (c_cold c n ≡ CDone o n) × Like u (initial u) 0 (pos 0) o

-- from like stores, with any forces and any fuel, a scan ends in like stores with the same rest of the fuel, or both are past
-- the bound
abbrev pub ScansLike : TUnit → CUnit → Type 0
ScansLike u c = (s : Store) (k : ℕ) (m before : ℤ) (o : Objects) (n : ℕ) → Like u s k before o → Sim (λ t p. Like u t (k + 1) m p) (scan u (tick_of k) m s n) (c_scan c m o n)

-- and so does the body of the program, called with the object of the instance
abbrev pub BodyLike : Single → CUnit → Type 0
BodyLike x c = (s : Store) (k : ℕ) (m : ℤ) (o : Objects) (n : ℕ) → Like (unit_of x) s k m o
    → Sim (λ t (l : Left). Like (unit_of x) t k m l.objects) (exec_body (record { unit = unit_of x; inst = x.inst_id ∷ []; moment = m }) x.pou.body s n)
    (c_call c (body_name x.pou.name) (ByPlace (Named (x.resource_name ++ codes "__" ++ x.inst_name) ∷ []) ∷ []) o n)
