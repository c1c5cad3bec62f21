-- Equal words hash alike.
use Rattle.std.specs.Prelude.{◌≡◌, ◌==◌, IsTrue, List, ℕ}
use Rattle.std.proofs.Common.{ap}
use Rattle.std.specs.Cmp.Lexicographic.{pointwise}
use Rattle.std.specs.Hash as fed
use Rattle.std.proofs.lemmas.Slice.Eq.{bytes_eq-Decides}

pub same_hash : (x y : List ℕ) → IsTrue (pointwise (λ a b. a == b) x y) → fed.slice fed.u8 x ≡ fed.slice fed.u8 y
same_hash x y h = ap (fed.slice fed.u8) ((bytes_eq-Decides x y).0 h)
