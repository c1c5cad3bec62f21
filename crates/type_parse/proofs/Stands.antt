-- What stands under one more node is what stands where one node fewer may open.
use Rattle.std.proofs.Common.{◌≡◌, ℕ, suc, ◌-◌, ◌<◌, List, Result, refl, subst, sym, arith}
use Rattle.plc_tokens.specs.declared.token.Token.{Token}
use Rattle.plc_tree.specs.declared.tree.Init.{Init}
use Rattle.plc_tree.specs.declared.tree.Item.{Item}
use Rattle.phrase.specs.declared.Stop.{Stop}
use Rattle.phrase.specs.Reads.{Reads}
use Rattle.type_parse.specs.Initials.{init, item}
use Rattle.type_parse.specs.Depth.{inner}

init_at : (n : ℕ) → (inner (suc n)).init.run ≡ (init n (inner n)).run
unfolding inner
init_at n = refl

item_at : (n : ℕ) → (inner (suc n)).item.run ≡ (item n (inner n)).run
unfolding inner
item_at n = refl

pub init_stands : (room : ℕ) (s new : List Token) (r : Result Init Stop) → 0 < room → Reads ((init (room - 1) (inner (room - 1))).run s) r new → Reads ((inner room).init.run s) r new
init_stands room s new r lt h =
    let one : suc (room - 1) ≡ room = omega arith in
    subst (λ n. Reads ((inner n).init.run s) r new) one (subst (λ f. Reads (f s) r new) (sym (init_at (room - 1))) h)

pub item_stands : (room : ℕ) (s new : List Token) (r : Result Item Stop) → 0 < room → Reads ((item (room - 1) (inner (room - 1))).run s) r new → Reads ((inner room).item.run s) r new
item_stands room s new r lt h =
    let one : suc (room - 1) ≡ room = omega arith in
    subst (λ n. Reads ((inner n).item.run s) r new) one (subst (λ f. Reads (f s) r new) (sym (item_at (room - 1))) h)
