-- A statement under one more node is a statement with one node fewer to open.
use Rattle.std.proofs.Common.{◌≡◌, ℕ, suc, ◌-◌, ◌<◌, List, Result, refl, subst, sym, arith}
use Rattle.plc_tokens.specs.declared.token.Token.{Token}
use Rattle.plc_tree.specs.declared.tree.Stmt.{Stmt}
use Rattle.phrase.specs.declared.Stop.{Stop}
use Rattle.phrase.specs.Reads.{Reads}
use Rattle.st_parse.specs.Depth.{nested, stmt_under}
use Rattle.st_parse.specs.Statements.{one_stmt}

stands_at : (n : ℕ) → (stmt_under (suc n)).run ≡ (one_stmt n (nested n)).run
unfolding stmt_under
stands_at n = refl

pub stands : (room : ℕ) (s new : List Token) (r : Result Stmt Stop) → 0 < room → Reads ((one_stmt (room - 1) (nested (room - 1))).run s) r new → Reads ((stmt_under room).run s) r new
stands room s new r lt h =
    let one : suc (room - 1) ≡ room = omega arith in
    subst (λ n. Reads ((stmt_under n).run s) r new) one (subst (λ f. Reads (f s) r new) (sym (stands_at (room - 1))) h)
