-- What stands under one node more is what stands with one node fewer to open.
use Rattle.std.proofs.Common.{◌≡◌, ℕ, suc, ◌-◌, ◌<◌, ◌≤◌, Bool, false, List, Result, Ok, Err, IfOk, refl, subst, sym, arith}
use Rattle.phrase.specs.declared.Stop.{Stop}
use Rattle.phrase.specs.Reads.{Reads}
use Rattle.plc_tokens.specs.declared.token.Token.{Token}
use Rattle.plc_tokens.specs.Sets.{NAME}
use Rattle.plc_tree.specs.declared.tree.Expr.{Expr}
use Rattle.plc_tree.specs.declared.tree.Path.{Path}
use Rattle.st_expr.specs.declared.level.Level.{Level}
use Rattle.st_expr.specs.Nested.{Tall}
use Rattle.st_expr.specs.Expressions.{path, standing}
use Rattle.st_expr.specs.Depth.{deep}
use Rattle.st_expr.specs.Nests.{Nests}
use Rattle.std.specs.declared.alloc.Global.{Global}
use denote.Ref.{MutBor}

stands_at : (level : Level) (line : Bool) (n : ℕ) → ((deep (suc n)).operand level line).run ≡ (standing level line n (deep n)).run
unfolding deep
stands_at level line n = refl

pub stands : (level : Level) (line : Bool) (room : ℕ) (s new : List Token) (r : Result (Tall Expr) Stop) → 0 < room → Reads ((standing level line (room - 1) (deep (room - 1))).run s) r new → Reads (((deep room).operand level line).run s) r new
stands level line room s new r lt h =
    let one : suc (room - 1) ≡ room = omega arith in
    subst (λ n. Reads (((deep n).operand level line).run s) r new) one (subst (λ f. Reads (f s) r new) (sym (stands_at level line (room - 1))) h)

stands_path_at : (n : ℕ) → (deep (suc n)).path.run ≡ (path NAME false n (deep n)).run
unfolding deep
stands_path_at n = refl

pub stands_path : (room : ℕ) (s new : List Token) (r : Result (Tall Path) Stop) → 0 < room → Reads ((path NAME false (room - 1) (deep (room - 1))).run s) r new → Reads ((deep room).path.run s) r new
stands_path room s new r lt h =
    let one : suc (room - 1) ≡ room = omega arith in
    subst (λ n. Reads ((deep n).path.run s) r new) one (subst (λ f. Reads (f s) r new) (sym (stands_path_at (room - 1))) h)

pub low_of : {A : Type 0} (room : ℕ) (r : Result (Tall A) Stop) → 0 < room → IfOk r (λ x. x.1 ≤ room - 1) → IfOk r (λ x. x.1 < room)
low_of room (Ok x) lt h = omega arith
low_of room (Err e) lt h = h

-- what reads where so many nodes may open reads where one fewer may
pub nests_fewer : {pre : Global → MutBor (List Token) → ℕ → Level → Bool → Type 0} {post : Global → MutBor (List Token) → ℕ → Level → Bool → Result (Tall Expr) Stop → MutBor (List Token) → Type 0} (most : ℕ) → Nests most pre post → Nests (most - 1) pre post
nests_fewer most n = record {
  callable = λ alloc old room level line lt le. n.callable alloc old room level line lt (omega (arith, le));
  reads = λ alloc old new room level line r lt le h. n.reads alloc old new room level line r lt (omega (arith, le)) h;
  low = λ alloc old new room level line r lt le h. n.low alloc old new room level line r lt (omega (arith, le)) h;
}
