-- A line that is filled with pieces.
use Rattle.std.proofs.Common.{◌≡◌, ℕ, arith, List, [], ◌++◌, Bor}
use Rattle.std.proofs.lemmas.Grind.{common_steps}

abbrev pub now_of : Bor (List ℕ) → List ℕ
now_of piece = piece.now

-- eight pieces, one after the other
pub joined : (a b c d e f g h : List ℕ) → a ++ (b ++ (c ++ (d ++ (e ++ (f ++ (g ++ (h ++ []))))))) ≡ a ++ b ++ c ++ d ++ e ++ f ++ g ++ h
joined a b c d e f g h = grind (arith, common_steps)
