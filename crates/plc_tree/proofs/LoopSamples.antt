-- Worked examples of statements: bodies over two variables A and B, what they leave them at, and how many turns they take.
use Rattle.std.proofs.Common.{◌≡◌, refl, List, [], ◌∷◌, ℕ, zero, suc, Some, None, false, true, ◌<◌, ◌≤◌, ◌^◌, lit<, lit≤}
use Rattle.std.specs.Prelude.{ℤ, pos, negsuc, codes}
use Rattle.plc_base.specs.declared.elem.Elem.TheVariants.{Word, Lword, Bool as Boolean}
use Rattle.plc_base.specs.Numbers.{Fits}
use Rattle.plc_base.specs.Trace.{Scan, Shows}
use Rattle.plc_tree.specs.declared.tree.PouKind.TheVariants.{Prog}
use Rattle.plc_tree.specs.declared.tree.BinOp.{BinOp}
use Rattle.plc_tree.specs.declared.tree.BinOp.TheVariants.{Eq, Add, Mul, Xor}
use Rattle.plc_tree.specs.declared.tree.UnOp.{UnOp}
use Rattle.plc_tree.specs.declared.tree.UnOp.TheVariants.{Minus, Not}
use Rattle.plc_tree.specs.declared.typed.TUnit.{TUnit}
use Rattle.plc_tree.specs.declared.typed.TVar.{TVar}
use Rattle.plc_tree.specs.declared.typed.TypeId.{TypeId}
use Rattle.plc_tree.specs.declared.typed.TypeId.TheVariants.{Elem as elementary}
use Rattle.plc_tree.specs.declared.typed.TPou.{TPou}
use Rattle.plc_tree.specs.declared.typed.TExpr.{TExpr, Number, Truth, Var, Unary, Binary}
use Rattle.plc_tree.specs.declared.typed.TExpr.TheBlock.{hidden-the_row-TExpr-0}
use Rattle.plc_tree.specs.declared.typed.TLabel.{TLabel}
use Rattle.plc_tree.specs.declared.typed.TLabel.TheVariants.{Range}
use Rattle.plc_tree.specs.declared.typed.TStmt.{TStmt, Set, If, Case, For, While, Repeat, Exit, Return}
use Rattle.plc_tree.specs.declared.typed.TStmt.TheBlock.{hidden-the_row-TStmt-0, hidden-the_row-TArm-1, hidden-the_row-TChoice-2}
use Rattle.plc_tree.specs.declared.typed.TBody.{TBody}
use Rattle.plc_tree.specs.declared.typed.TBody.TheVariants.{St}
use Rattle.plc_tree.specs.Outcome.{Out, Done, Past, then_do}
use Rattle.plc_tree.specs.Store.{Store, see, put}
use Rattle.plc_tree.specs.Execution.{exec_body}
use Rattle.plc_tree.specs.Rows.{elem_of}
use Rattle.plc_tree.specs.TypedHeights.{body_height}
use Rattle.plc_tree.specs.WellTyped.{var_in, type_of, IsSet, IsTypedBody, IsTypedPou}
use Rattle.plc_tree.specs.Run.{trace_src}
use Rattle.plc_tree.proofs.Sample.{own, int, at, unit_with, store}

-- ---- a program of two variables of a type, and its body at work

-- PROGRAM P, VAR A : T; B : T; END_VAR
abbrev pub program_of : TypeId → TBody → TPou
program_of ty body = record { id = 0; kind = Prog; name = codes "P"; vars = own 1 (codes "A") ty ∷ own 2 (codes "B") ty ∷ []; body = body }

-- a store where A is a, B is b and nothing is forced
abbrev pub from : ℤ → ℤ → Store
from a b = record { cell = put (put (λ p. pos 0) (6 ∷ 1 ∷ []) a) (6 ∷ 2 ∷ []) b; force = λ p. None }

-- what A and B are seen as behind a body, and what is left of the fuel
abbrev pub run : TypeId → TBody → Store → ℕ → Out (ℤ × ℤ)
run ty body s n =
    let u : TUnit = unit_with (program_of ty body) in
    then_do (exec_body (record { unit = u; inst = 6 ∷ []; moment = pos 0 }) body s n) (λ t r. Done (see u t (6 ∷ 1 ∷ []), see u t (6 ∷ 2 ∷ [])) r)

abbrev pub a_is : TypeId → TExpr
a_is ty = Var (at 1) ty

abbrev pub b_is : TypeId → TExpr
b_is ty = Var (at 2) ty

abbrev pub number : ℕ → TExpr
number n = Number (pos n) int

abbrev pub set_a : TExpr → TStmt
set_a e = Set (at 1) e

abbrev pub set_b : ℕ → TStmt
set_b n = Set (at 2) (number n)

-- A := A + 1
abbrev pub count_a : TStmt
count_a = set_a (Binary Add int (a_is int) (number 1))

-- ---- FOR

-- FOR A := 0 TO 2 DO END_FOR;
abbrev pub upwards : TBody
upwards = St (For (at 1) (number 0) (number 2) None [] ∷ [])

-- it takes three turns
upwards_past : run int upwards (from (pos 0) (pos 0)) 2 ≡ Past
unfolding hidden-the_row-TExpr-0 hidden-the_row-TStmt-0 denote.Hole.Carrier.hidden
upwards_past = refl

upwards_done : run int upwards (from (pos 0) (pos 0)) 3 ≡ Done (pos 3, pos 0) 0
unfolding hidden-the_row-TExpr-0 hidden-the_row-TStmt-0 denote.Hole.Carrier.hidden
upwards_done = refl

-- the test sees the force of A, so that it holds each time
upwards_forced : (n : ℕ) → run int upwards (store (pos 0) (Some (pos 1))) n ≡ Past
unfolding hidden-the_row-TExpr-0 hidden-the_row-TStmt-0 denote.Hole.Carrier.hidden
upwards_forced zero = refl
upwards_forced (suc n) = upwards_forced n

-- FOR A := 0 TO B DO B := 1; END_FOR;
abbrev pub new_limit : TBody
new_limit = St (For (at 1) (number 0) (b_is int) None (set_b 1 ∷ []) ∷ [])

-- the limit is found anew for each test: of six turns there are two
new_limit_past : run int new_limit (from (pos 0) (pos 5)) 1 ≡ Past
unfolding hidden-the_row-TExpr-0 hidden-the_row-TStmt-0 denote.Hole.Carrier.hidden
new_limit_past = refl

new_limit_done : run int new_limit (from (pos 0) (pos 5)) 2 ≡ Done (pos 2, pos 1) 0
unfolding hidden-the_row-TExpr-0 hidden-the_row-TStmt-0 denote.Hole.Carrier.hidden
new_limit_done = refl

-- FOR A := 3 TO 1 BY -1 DO END_FOR;
abbrev pub downwards : TBody
downwards = St (For (at 1) (number 3) (number 1) (Some (Unary Minus int (number 1))) [] ∷ [])

downwards_past : run int downwards (from (pos 0) (pos 0)) 2 ≡ Past
unfolding hidden-the_row-TExpr-0 hidden-the_row-TStmt-0 denote.Hole.Carrier.hidden
downwards_past = refl

downwards_done : run int downwards (from (pos 0) (pos 0)) 3 ≡ Done (pos 0, pos 0) 0
unfolding hidden-the_row-TExpr-0 hidden-the_row-TStmt-0 denote.Hole.Carrier.hidden
downwards_done = refl

-- ---- CASE

abbrev pub range : ℕ → ℕ → TLabel
range low high = Range (pos low) (pos high)

-- CASE A OF 5..3: B := 1; 2: B := 2; 2: B := 3; ELSE B := 4; END_CASE;
abbrev pub labelled : TBody
labelled = St (Case
    (a_is int)
    (record { labels = range 5 3 ∷ []; body = set_b 1 ∷ [] } ∷ record { labels = range 2 2 ∷ []; body = set_b 2 ∷ [] } ∷ record { labels = range 2 2 ∷ []; body = set_b 3 ∷ [] } ∷ [])
    (set_b 4 ∷ []) ∷ [])

-- no number is in 5..3
labelled_else : run int labelled (from (pos 4) (pos 0)) 0 ≡ Done (pos 4, pos 4) 0
unfolding hidden-the_row-TStmt-0 hidden-the_row-TChoice-2 denote.Hole.Carrier.hidden
labelled_else = refl

-- the first arm with the number is the one that runs
labelled_first : run int labelled (from (pos 2) (pos 0)) 0 ≡ Done (pos 2, pos 2) 0
unfolding hidden-the_row-TStmt-0 hidden-the_row-TChoice-2 denote.Hole.Carrier.hidden
labelled_first = refl

-- ---- EXIT and RETURN

-- REPEAT A := A + 1; IF A = 3 THEN EXIT; END_IF; UNTIL FALSE END_REPEAT; B := 1;
abbrev pub left_at_3 : TBody
left_at_3 = St (Repeat
    (count_a ∷ If (record { test = Binary Eq (elementary Boolean) (a_is int) (number 3); body = Exit ∷ [] } ∷ []) [] ∷ [])
    (Truth false (elementary Boolean)) ∷ set_b 1 ∷ [])

-- EXIT leaves the loop from within the IF, and what stands behind the loop is done
left_at_3_done : run int left_at_3 (from (pos 0) (pos 0)) 3 ≡ Done (pos 3, pos 1) 0
unfolding hidden-the_row-TExpr-0 hidden-the_row-TStmt-0 hidden-the_row-TArm-1 denote.Hole.Carrier.hidden
left_at_3_done = refl

left_at_3_past : run int left_at_3 (from (pos 0) (pos 0)) 2 ≡ Past
unfolding hidden-the_row-TExpr-0 hidden-the_row-TStmt-0 hidden-the_row-TArm-1 denote.Hole.Carrier.hidden
left_at_3_past = refl

-- WHILE TRUE DO A := A + 1; RETURN; B := 1; END_WHILE; B := 2;
abbrev pub returned : TBody
returned = St (While (Truth true (elementary Boolean)) (count_a ∷ Return ∷ set_b 1 ∷ []) ∷ set_b 2 ∷ [])

-- RETURN leaves the body: neither what stands behind it in the loop nor what stands behind the loop is done
returned_done : run int returned (from (pos 0) (pos 0)) 2 ≡ Done (pos 1, pos 0) 1
unfolding hidden-the_row-TExpr-0 hidden-the_row-TStmt-0 denote.Hole.Carrier.hidden
returned_done = refl

-- ---- operators at the limits of their types

-- an operator before A
abbrev pub one : UnOp → TypeId → TBody
one op ty = St (set_a (Unary op ty (a_is ty)) ∷ [])

-- one between A and B
abbrev pub two : BinOp → TypeId → TBody
two op ty = St (set_a (Binary op ty (a_is ty) (b_is ty)) ∷ [])

abbrev pub word : TypeId
word = elementary Word

abbrev pub lword : TypeId
lword = elementary Lword

-- A := -A; of INT has no 32,768
minus : run int (one Minus int) (from (negsuc 32767) (pos 0)) 0 ≡ Done (negsuc 32767, pos 0) 0
unfolding hidden-the_row-TExpr-0 denote.Hole.Carrier.hidden
minus = refl

-- A := A * B; of INT
times : run int (two Mul int) (from (pos 32767) (negsuc 32767)) 0 ≡ Done (negsuc 32767, negsuc 32767) 0
unfolding hidden-the_row-TExpr-0 denote.Hole.Carrier.hidden
times = refl

-- A := NOT A; of LWORD sets 64 bits
complement : run lword (one Not lword) (from (pos 0) (pos 0)) 0 ≡ Done (pos 18446744073709551615, pos 0) 0
unfolding hidden-the_row-TExpr-0 denote.Hole.Carrier.hidden
complement = refl

-- A := A XOR B; of WORD
apart : run word (two Xor word) (from (pos 65535) (pos 32769)) 0 ≡ Done (pos 32766, pos 32769) 0
unfolding hidden-the_row-TExpr-0 denote.Hole.Carrier.hidden
apart = refl

-- ---- an initial value

-- PROGRAM P, VAR A : INT := 5; B : INT; END_VAR
abbrev pub from_5 : TPou
from_5 = record { id = 0; kind = Prog; name = codes "P"; vars = (record (own 1 (codes "A") int) { init = pos 5 }) ∷ own 2 (codes "B") int ∷ []; body = St (count_a ∷ []) }

-- the first scan counts from it
from_5_scan : trace_src (unit_with from_5) 0 (Scan (pos 0) ∷ []) ≡ Shows 1 (pos 0) [] (pos 6 ∷ pos 0 ∷ []) ∷ []
unfolding hidden-the_row-TExpr-0 denote.Hole.Carrier.hidden
from_5_scan = refl

-- ---- the programs are typed well

module _ (ty : TypeId) (body : TBody) where
  typed_of : Fits (elem_of ty) (pos 0) → IsTypedBody (program_of ty body).vars body → body_height body ≤ 64 → IsTypedPou (program_of ty body)
  typed_of zero_fits typed low = record { numbered = record { first = 1; from = (refl, (refl, tt)) }; fit = (zero_fits, (zero_fits, tt)); body = typed; low = low }

abbrev two_ints : List TVar
two_ints = (program_of int (St [])).vars

-- the assignments of the samples
sets_b : (n : ℕ) → n < 2 ^ 15 → IsSet two_ints 2 (number n)
sets_b n h = record { ty = int; target = refl; value = (refl, h) }

counts_a : (vs : List TVar) → type_of (var_in vs 1) ≡ Some int → IsSet vs 1 (Binary Add int (a_is int) (number 1))
unfolding hidden-the_row-TExpr-0 denote.Hole.Carrier.hidden
counts_a vs e = record { ty = int; target = e; value = (refl, (int, (refl, refl), (refl, e), (refl, lit< tt))) }

pub upwards_typed : IsTypedPou (program_of int upwards)
unfolding hidden-the_row-TExpr-0 hidden-the_row-TStmt-0 hidden-the_row-TArm-1 hidden-the_row-TChoice-2 denote.Hole.Carrier.hidden
upwards_typed = typed_of int upwards (lit< tt) ((record { ty = int; counts = refl; target = refl; begins = (refl, lit< tt); ends = (refl, lit< tt); steps = tt }, tt), tt) (lit≤ tt)

pub new_limit_typed : IsTypedPou (program_of int new_limit)
unfolding hidden-the_row-TExpr-0 hidden-the_row-TStmt-0 hidden-the_row-TArm-1 hidden-the_row-TChoice-2 denote.Hole.Carrier.hidden
new_limit_typed = typed_of int new_limit (lit< tt) ((record { ty = int; counts = refl; target = refl; begins = (refl, lit< tt); ends = (refl, refl); steps = tt }, (sets_b 1 (lit< tt), tt)), tt) (lit≤ tt)

pub downwards_typed : IsTypedPou (program_of int downwards)
unfolding hidden-the_row-TExpr-0 hidden-the_row-TStmt-0 hidden-the_row-TArm-1 hidden-the_row-TChoice-2 denote.Hole.Carrier.hidden
downwards_typed = typed_of int downwards (lit< tt) ((record { ty = int; counts = refl; target = refl; begins = (refl, lit< tt); ends = (refl, lit< tt); steps = (refl, refl, (refl, lit< tt)) }, tt), tt) (lit≤ tt)

pub labelled_typed : IsTypedPou (program_of int labelled)
unfolding hidden-the_row-TExpr-0 hidden-the_row-TStmt-0 hidden-the_row-TArm-1 hidden-the_row-TChoice-2 denote.Hole.Carrier.hidden
labelled_typed = typed_of int labelled (lit< tt) (((record { ty = int; counts = refl; value = (refl, refl) }, (((lit< tt, lit< tt), tt), (sets_b 1 (lit< tt), tt), (((lit< tt, lit< tt), tt), (sets_b 2 (lit< tt), tt), (((lit< tt, lit< tt), tt), (sets_b 3 (lit< tt), tt), tt)))), (sets_b 4 (lit< tt), tt)), tt) (lit≤ tt)

pub left_at_3_typed : IsTypedPou (program_of int left_at_3)
unfolding hidden-the_row-TExpr-0 hidden-the_row-TStmt-0 hidden-the_row-TArm-1 hidden-the_row-TChoice-2 denote.Hole.Carrier.hidden
left_at_3_typed = typed_of int left_at_3 (lit< tt) (((counts_a two_ints refl, ((((refl, (int, refl, (refl, refl), (refl, lit< tt))), (refl, tt), tt), tt), tt)), (refl, refl)), (sets_b 1 (lit< tt), tt)) (lit≤ tt)

pub returned_typed : IsTypedPou (program_of int returned)
unfolding hidden-the_row-TExpr-0 hidden-the_row-TStmt-0 hidden-the_row-TArm-1 hidden-the_row-TChoice-2 denote.Hole.Carrier.hidden
returned_typed = typed_of int returned (lit< tt) (((refl, refl), (counts_a two_ints refl, (tt, (sets_b 1 (lit< tt), tt)))), (sets_b 2 (lit< tt), tt)) (lit≤ tt)

pub minus_typed : IsTypedPou (program_of int (one Minus int))
unfolding hidden-the_row-TExpr-0 hidden-the_row-TStmt-0 hidden-the_row-TArm-1 hidden-the_row-TChoice-2 denote.Hole.Carrier.hidden
minus_typed = typed_of int (one Minus int) (lit< tt) (record { ty = int; target = refl; value = (refl, refl, (refl, refl)) }, tt) (lit≤ tt)

pub times_typed : IsTypedPou (program_of int (two Mul int))
unfolding hidden-the_row-TExpr-0 hidden-the_row-TStmt-0 hidden-the_row-TArm-1 hidden-the_row-TChoice-2 denote.Hole.Carrier.hidden
times_typed = typed_of int (two Mul int) (lit< tt) (record { ty = int; target = refl; value = (refl, (int, (refl, refl), (refl, refl), (refl, refl))) }, tt) (lit≤ tt)

pub complement_typed : IsTypedPou (program_of lword (one Not lword))
unfolding hidden-the_row-TExpr-0 hidden-the_row-TStmt-0 hidden-the_row-TArm-1 hidden-the_row-TChoice-2 denote.Hole.Carrier.hidden
complement_typed = typed_of lword (one Not lword) (lit< tt) (record { ty = lword; target = refl; value = (refl, refl, (refl, refl)) }, tt) (lit≤ tt)

pub apart_typed : IsTypedPou (program_of word (two Xor word))
unfolding hidden-the_row-TExpr-0 hidden-the_row-TStmt-0 hidden-the_row-TArm-1 hidden-the_row-TChoice-2 denote.Hole.Carrier.hidden
apart_typed = typed_of word (two Xor word) (lit< tt) (record { ty = word; target = refl; value = (refl, (word, (refl, refl), (refl, refl), (refl, refl))) }, tt) (lit≤ tt)

pub from_5_typed : IsTypedPou from_5
unfolding hidden-the_row-TExpr-0 hidden-the_row-TStmt-0 hidden-the_row-TArm-1 hidden-the_row-TChoice-2 denote.Hole.Carrier.hidden
from_5_typed = record { numbered = record { first = 1; from = (refl, (refl, tt)) }; fit = (lit< tt, (lit< tt, tt)); body = (counts_a from_5.vars refl, tt); low = lit≤ tt }
