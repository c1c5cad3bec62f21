-- A worked example: a program that counts by an INT and compares it.
use Rattle.std.proofs.Common.{◌≡◌, refl, List, [], ◌∷◌, ℕ, Option, Some, None, false, lit<, lit≤}
use Rattle.std.specs.Prelude.{ℤ, pos, negsuc, codes}
use Rattle.plc_base.specs.declared.elem.Elem.TheVariants.{Int, Bool as Boolean}
use Rattle.plc_base.specs.Trace.{Scan, Shows}
use Rattle.plc_tree.specs.declared.tree.PouKind.TheVariants.{Prog}
use Rattle.plc_tree.specs.declared.tree.SectionKind.TheVariants.{Own}
use Rattle.plc_tree.specs.declared.typed.TUnit.{TUnit}
use Rattle.plc_tree.specs.declared.typed.TVar.{TVar}
use Rattle.plc_tree.specs.declared.typed.TypeId.{TypeId}
use Rattle.plc_tree.specs.declared.typed.TypeId.TheVariants.{Elem as elementary}
use Rattle.plc_tree.specs.declared.typed.TPou.{TPou}
use Rattle.plc_tree.specs.declared.typed.TPath.{TPath}
use Rattle.plc_tree.specs.declared.typed.TExpr.{Number, Var, Binary}
use Rattle.plc_tree.specs.declared.typed.TExpr.TheBlock.{hidden-the_row-TExpr-0}
use Rattle.plc_tree.specs.declared.typed.TStmt.TheVariants.{Set}
use Rattle.plc_tree.specs.declared.typed.TBody.{TBody}
use Rattle.plc_tree.specs.declared.typed.TBody.TheVariants.{St}
use Rattle.plc_tree.specs.declared.tree.BinOp.TheVariants.{Eq, Add}
use Rattle.plc_tree.specs.Outcome.{Out, Done, Past}
use Rattle.plc_tree.specs.Store.{Store, see, write, put}
use Rattle.plc_tree.specs.Execution.{Env, exec_body}
use Rattle.plc_tree.specs.WellTyped.{IsTypedPou}
use Rattle.plc_tree.specs.Run.{trace_src}
use Rattle.plc_tree.specs.Files.{file_names}

-- a variable that starts at 0
abbrev pub own : ℕ → List ℕ → TypeId → TVar
own id name ty = record { id = id; kind = Own; constant = false; keep = false; name = name; ty = ty; init = pos 0 }

abbrev pub int : TypeId
int = elementary Int

abbrev pub at : ℕ → TPath
at id = record { first = id }

-- A := A + 1; B := A = 1;
abbrev pub counting : TBody
counting = St (Set (at 1) (Binary Add int (Var (at 1) int) (Number (pos 1) int)) ∷ Set (at 2) (Binary Eq (elementary Boolean) (Var (at 1) int) (Number (pos 1) int)) ∷ [])

-- PROGRAM P, VAR A : INT; B : BOOL; END_VAR
abbrev pub program : TPou
program = record { id = 0; kind = Prog; name = codes "P"; vars = own 1 (codes "A") int ∷ own 2 (codes "B") (elementary Boolean) ∷ []; body = counting }

-- with an instance I of it, run each 20 ms by the task T0 of the resource R of the configuration C
abbrev pub unit_with : TPou → TUnit
unit_with p = record {
  pous = p ∷ [];
  configs = record {
    id = 3;
    name = codes "C";
    resources = record {
      id = 4;
      name = codes "R";
      tasks = record { id = 5; name = codes "T0"; interval = pos 20000000; priority = 0 } ∷ [];
      insts = record { id = 6; name = codes "I"; task = Some 5; program = p.id } ∷ [];
    } ∷ [];
  } ∷ [];
}

abbrev pub sample : TUnit
sample = unit_with program

six_files : file_names sample ≡ codes "POUS.h" ∷ codes "C.h" ∷ codes "POUS.c" ∷ codes "R.c" ∷ codes "C.c" ∷ codes "plc_debugger.c" ∷ []
six_files = refl

-- the program is typed well
pub typed : IsTypedPou program
unfolding hidden-the_row-TExpr-0 denote.Hole.Carrier.hidden
typed = record {
  numbered = record { first = 1; from = (refl, (refl, tt)) };
  fit = (lit< tt, (lit< tt, tt));
  body = (
    record { ty = int; target = refl; value = (refl, (int, (refl, refl), (refl, refl), (refl, lit< tt))) },
    (record { ty = elementary Boolean; target = refl; value = (refl, (int, refl, (refl, refl), (refl, lit< tt))) }, tt),
  );
  low = lit≤ tt;
}

-- ---- what it does

-- the first scan makes A 1, and the second one 2
two_scans : trace_src sample 0 (Scan (pos 0) ∷ Scan (pos 20000000) ∷ []) ≡ Shows 1 (pos 0) [] (pos 1 ∷ pos 1 ∷ []) ∷ Shows 2 (pos 20000000) [] (pos 2 ∷ pos 0 ∷ []) ∷ []
unfolding hidden-the_row-TExpr-0 denote.Hole.Carrier.hidden
two_scans = refl

abbrev pub env : Env
env = record { unit = sample; inst = 6 ∷ []; moment = pos 0 }

-- what A and B are seen as
abbrev seen_after : Out Store → List ℤ
seen_after (Done s n) = see sample s (6 ∷ 1 ∷ []) ∷ see sample s (6 ∷ 2 ∷ []) ∷ []
seen_after Past = []

-- a store where A is a, and where it has this force
abbrev pub store : ℤ → Option ℤ → Store
store a f = record { cell = put (λ p. pos 0) (6 ∷ 1 ∷ []) a; force = put (λ p. None) (6 ∷ 1 ∷ []) f }

-- the INT after 32,767 is -32,768
wraps : seen_after (exec_body env counting (store (pos 32767) None) 0) ≡ negsuc 32767 ∷ pos 0 ∷ []
unfolding hidden-the_row-TExpr-0 denote.Hole.Carrier.hidden
wraps = refl

-- a forced variable keeps its force, and is read as that
forced : seen_after (exec_body env counting (store (pos 0) (Some (pos 50))) 0) ≡ pos 50 ∷ pos 0 ∷ []
unfolding hidden-the_row-TExpr-0 denote.Hole.Carrier.hidden
forced = refl

-- an assignment needs no turn
turns : exec_body env counting (store (pos 0) None) 7 ≡ Done (write sample (write sample (store (pos 0) None) (6 ∷ 1 ∷ []) (pos 1)) (6 ∷ 2 ∷ []) (pos 1)) 7
unfolding hidden-the_row-TExpr-0 denote.Hole.Carrier.hidden
turns = refl
