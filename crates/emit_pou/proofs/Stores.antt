-- When objects are like a store: at another moment, and at the end of a scan.
use Rattle.std.proofs.Common.{refl, ap, ◌∙◌, ℕ, ◌+◌, ◌%◌, ◌^◌}
use Rattle.std.specs.Prelude.{ℤ}
use Rattle.std.proofs.Math.Nat.{mod-add-mod}
use Rattle.plc_tree.specs.declared.typed.TUnit.{TUnit}
use Rattle.plc_tree.specs.Store.{Store}
use Rattle.c_meaning.specs.Objects.{Objects}
use Rattle.c_meaning.specs.Run.{at_moment, ticked}
use Rattle.emit_pou.specs.Like.{Like}

module _ (u : TUnit) (s : Store) (k : ℕ) (m : ℤ) (o : Objects) (like : Like u s k m o) where
  pub like-at_moment : (n : ℤ) → Like u s k n (at_moment o n)
  like-at_moment n = record {
    shown = λ j r h. let w = like.shown j r h in record { value = w.value; flag = w.flag; fits = w.fits };
    tick = like.tick;
    moment = refl;
  }

  pub like-ticked : Like u s (k + 1) m (ticked o)
  like-ticked = record {
    shown = λ j r h. let w = like.shown j r h in record { value = w.value; flag = w.flag; fits = w.fits };
    tick = ap (λ t. (t + 1) % 2 ^ 64) like.tick ∙ mod-add-mod k (2 ^ 64) 1;
    moment = like.moment;
  }
