-- The texts of a unit's parts.
use Rattle.std.proofs.Common.{◌≡◌, sym, ap, ℕ, zero, suc, ◌<◌, List, [], ◌∷◌, get_or, length, arith}
use Rattle.c_tree.specs.declared.tree.CPart.{CPart}
use Rattle.c_tree.specs.Printing.{items_at}

pub items_at-get : (parts : List CPart) (k : ℕ) (p : CPart) → k < length parts → p ≡ get_or parts k p → items_at parts k ≡ p.items
items_at-get [] k p h e = absurd (omega arith)
items_at-get (q ∷ parts) zero p h e = ap (λ (x : CPart). x.items) (sym e)
items_at-get (q ∷ parts) (suc k) p h e = items_at-get parts k p (omega arith) e
