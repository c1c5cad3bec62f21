-- Worked examples: units whose C is computed, with the same numbers as their sources have, and one that is wrong.
use Rattle.std.proofs.Common.{◌≡◌, refl, List, [], ◌∷◌, ◌++◌, ℕ, zero, suc, Some, true, false, arith}
use Rattle.std.specs.Prelude.{ℤ, pos, negsuc, codes}
use Rattle.plc_base.specs.declared.elem.Elem.TheVariants.{Int}
use Rattle.plc_base.specs.Trace.{Scan, Shows}
use Rattle.plc_tree.specs.declared.tree.BinOp.TheVariants.{Mul, Xor}
use Rattle.plc_tree.specs.declared.tree.UnOp.TheVariants.{Minus, Not}
use Rattle.plc_tree.specs.declared.typed.TConfig.{TConfig}
use Rattle.plc_tree.specs.declared.typed.TResource.{TResource}
use Rattle.plc_tree.specs.declared.typed.TPou.{TPou}
use Rattle.plc_tree.specs.declared.typed.TypeId.{TypeId}
use Rattle.plc_tree.specs.declared.typed.TBody.{TBody}
use Rattle.plc_tree.specs.declared.typed.TExpr.TheBlock.{hidden-the_row-TExpr-0}
use Rattle.plc_tree.specs.declared.typed.TStmt.TheBlock.{hidden-the_row-TStmt-0, hidden-the_row-TArm-1, hidden-the_row-TChoice-2}
use Rattle.plc_tree.specs.Run.{trace_src}
use Rattle.plc_tree.proofs.Sample.{int, program, sample, typed, unit_with}
use Rattle.plc_tree.proofs.LoopSamples.{program_of, upwards, new_limit, downwards, labelled, left_at_3, returned, one, two, word, lword, from_5}
use Rattle.c_tree.specs.declared.tree.CUnit.{CUnit}
use Rattle.c_tree.specs.declared.tree.CItem.{CItem}
use Rattle.c_tree.specs.declared.tree.CItem.TheBlock.{hidden-the_row-CItem-0}
use Rattle.c_tree.specs.declared.tree.CArg.TheBlock.{hidden-the_row-CSel-0, hidden-the_row-CArg-1, hidden-the_row-CExpr-2}
use Rattle.c_tree.specs.declared.tree.CStmt.{CStmt}
use Rattle.c_tree.specs.declared.tree.CStmt.TheBlock.{hidden-the_row-CStmt-0}
use Rattle.c_tree.specs.declared.tree.CStmt.TheVariants as stmt
use Rattle.c_meaning.specs.Outcome.{COut, CDone, CPast, c_then}
use Rattle.c_meaning.specs.Objects.{Named, Place, Objects, no_objects, put_at}
use Rattle.c_meaning.specs.Execution.{c_run}
use Rattle.c_meaning.specs.Run.{trace_c}
use Rattle.c_meaning.specs.Rules.{Good}
use Rattle.emit_pou.specs.CNames.{init_name, body_name}
use Rattle.emit_pou.specs.Expressions.{own, literal, c_expr}
use Rattle.emit_pou.specs.Statements.{c_stmt, body_stmts}
use Rattle.emit_pou.specs.Emitted.{c_unit, part, pou_struct, void_function, working_function, self, header_part, config_parts, debug_items}
use Rattle.emit_pou.specs.Like.{at_work}
use Rattle.emit_pou.specs.Single.{Single}
use Rattle.emit_pou.specs.SourceNames.{HasSourceNames}
use Rattle.emit_pou.proofs.Functions.{frame}
use Rattle.emit_pou.proofs.Simulation.{zeros}
use Rattle.emit_pou.proofs.Goodness.{good}

-- ---- a whole unit

-- the first scan makes A 1, and the second one 2
two_scans : trace_c (c_unit sample) [] 0 (Scan (pos 0) ∷ Scan (pos 20000000) ∷ []) ≡ Shows 1 (pos 0) [] (pos 1 ∷ pos 1 ∷ []) ∷ Shows 2 (pos 20000000) [] (pos 2 ∷ pos 0 ∷ []) ∷ []
unfolding c_expr c_stmt hidden-the_row-TExpr-0 hidden-the_row-CSel-0 hidden-the_row-CArg-1 hidden-the_row-CExpr-2 hidden-the_row-CItem-0 denote.Hole.Carrier.hidden
two_scans = refl

-- with A at 5 at the start, as the source has it
from_5_scan : trace_c (c_unit (unit_with from_5)) [] 0 (Scan (pos 0) ∷ []) ≡ trace_src (unit_with from_5) 0 (Scan (pos 0) ∷ [])
unfolding c_expr c_stmt hidden-the_row-TExpr-0 hidden-the_row-CSel-0 hidden-the_row-CArg-1 hidden-the_row-CExpr-2 hidden-the_row-CItem-0 denote.Hole.Carrier.hidden
from_5_scan = refl

-- ---- the unit of one program

abbrev single : TPou → Single
single p = record {
  pou = p;
  task = record { id = 5; name = codes "T0"; interval = pos 20000000; priority = 0 };
  config_id = 3;
  config_name = codes "C";
  resource_id = 4;
  resource_name = codes "R";
  inst_id = 6;
  inst_name = codes "I";
}

names : HasSourceNames (single program)
names = record {
  pou = record { word = refl; capitals = refl; single = refl; ends = refl; no_type = refl };
  resource = record { word = refl; capitals = refl; single = refl; ends = refl; no_type = refl };
  inst = record { word = refl; capitals = refl; single = refl; ends = refl; no_type = refl };
  vars = (record { word = refl; capitals = refl; single = refl; ends = refl; no_type = refl }, (record { word = refl; capitals = refl; single = refl; ends = refl; no_type = refl }, tt));
  apart = (refl, (refl, tt));
}

-- and it meets all rules
sample_good : Good (c_unit sample)
sample_good = good (single program) names typed (omega arith)

-- ---- bodies on objects

abbrev place : List ℕ → Place
place name = Named (codes "R__I") ∷ Named name ∷ []

-- where A is a and B is b
abbrev from : ℤ → ℤ → Objects
from a b = record no_objects { val = put_at (put_at (λ p. pos 0) (place (codes "A")) a) (place (codes "B")) b }

-- where A is forced to a number
abbrev forced_to : ℤ → Objects
forced_to a = record no_objects { val = put_at (λ p. pos 0) (place (codes "A")) a; flag = put_at (λ p. false) (place (codes "A")) true }

-- what A and B are behind the body of a program, and what is left of the fuel
abbrev done_by : TPou → Objects → ℕ → COut (ℤ × ℤ)
done_by p o n =
    c_then (c_run (frame (single p)) (body_stmts p.vars p.body) (at_work o (zeros (single p))) n)
    (λ st r. CDone (st.0.objects.val (place (codes "A")), st.0.objects.val (place (codes "B"))) r)

abbrev run : TypeId → TBody → Objects → ℕ → COut (ℤ × ℤ)
run ty body o n = done_by (program_of ty body) o n

-- the INT after 32,767 is -32,768, and nothing is undefined
wraps : done_by program (from (pos 32767) (pos 0)) 0 ≡ CDone (negsuc 32767, pos 0) 0
unfolding c_expr c_stmt hidden-the_row-TExpr-0 hidden-the_row-CSel-0 hidden-the_row-CArg-1 hidden-the_row-CExpr-2 hidden-the_row-CItem-0 denote.Hole.Carrier.hidden
wraps = refl

-- a forced variable keeps its force, and is read as that
forced : done_by program (forced_to (pos 50)) 0 ≡ CDone (pos 50, pos 0) 0
unfolding c_expr c_stmt hidden-the_row-TExpr-0 hidden-the_row-CSel-0 hidden-the_row-CArg-1 hidden-the_row-CExpr-2 hidden-the_row-CItem-0 denote.Hole.Carrier.hidden
forced = refl

-- ---- the bodies of the samples of statements do what their sources do; loops take the same turns

upwards_past : run int upwards (from (pos 0) (pos 0)) 2 ≡ CPast
unfolding c_expr c_stmt hidden-the_row-TExpr-0 hidden-the_row-TStmt-0 hidden-the_row-CSel-0 hidden-the_row-CArg-1 hidden-the_row-CExpr-2 hidden-the_row-CItem-0 hidden-the_row-CStmt-0 denote.Hole.Carrier.hidden
upwards_past = refl

upwards_done : run int upwards (from (pos 0) (pos 0)) 3 ≡ CDone (pos 3, pos 0) 0
unfolding c_expr c_stmt hidden-the_row-TExpr-0 hidden-the_row-TStmt-0 hidden-the_row-CSel-0 hidden-the_row-CArg-1 hidden-the_row-CExpr-2 hidden-the_row-CItem-0 hidden-the_row-CStmt-0 denote.Hole.Carrier.hidden
upwards_done = refl

-- the test sees the force of A, so that it holds each time
upwards_forced : (n : ℕ) → run int upwards (forced_to (pos 1)) n ≡ CPast
unfolding c_expr c_stmt hidden-the_row-TExpr-0 hidden-the_row-TStmt-0 hidden-the_row-CSel-0 hidden-the_row-CArg-1 hidden-the_row-CExpr-2 hidden-the_row-CItem-0 hidden-the_row-CStmt-0 denote.Hole.Carrier.hidden
upwards_forced zero = refl
upwards_forced (suc n) = upwards_forced n

new_limit_past : run int new_limit (from (pos 0) (pos 5)) 1 ≡ CPast
unfolding c_expr c_stmt hidden-the_row-TExpr-0 hidden-the_row-TStmt-0 hidden-the_row-CSel-0 hidden-the_row-CArg-1 hidden-the_row-CExpr-2 hidden-the_row-CItem-0 hidden-the_row-CStmt-0 denote.Hole.Carrier.hidden
new_limit_past = refl

new_limit_done : run int new_limit (from (pos 0) (pos 5)) 2 ≡ CDone (pos 2, pos 1) 0
unfolding c_expr c_stmt hidden-the_row-TExpr-0 hidden-the_row-TStmt-0 hidden-the_row-CSel-0 hidden-the_row-CArg-1 hidden-the_row-CExpr-2 hidden-the_row-CItem-0 hidden-the_row-CStmt-0 denote.Hole.Carrier.hidden
new_limit_done = refl

downwards_past : run int downwards (from (pos 0) (pos 0)) 2 ≡ CPast
unfolding c_expr c_stmt hidden-the_row-TExpr-0 hidden-the_row-TStmt-0 hidden-the_row-CSel-0 hidden-the_row-CArg-1 hidden-the_row-CExpr-2 hidden-the_row-CItem-0 hidden-the_row-CStmt-0 denote.Hole.Carrier.hidden
downwards_past = refl

downwards_done : run int downwards (from (pos 0) (pos 0)) 3 ≡ CDone (pos 0, pos 0) 0
unfolding c_expr c_stmt hidden-the_row-TExpr-0 hidden-the_row-TStmt-0 hidden-the_row-CSel-0 hidden-the_row-CArg-1 hidden-the_row-CExpr-2 hidden-the_row-CItem-0 hidden-the_row-CStmt-0 denote.Hole.Carrier.hidden
downwards_done = refl

-- ---- one arm of a CASE runs

labelled_else : run int labelled (from (pos 4) (pos 0)) 0 ≡ CDone (pos 4, pos 4) 0
unfolding c_expr c_stmt hidden-the_row-TExpr-0 hidden-the_row-TStmt-0 hidden-the_row-TChoice-2 hidden-the_row-CSel-0 hidden-the_row-CArg-1 hidden-the_row-CExpr-2 hidden-the_row-CItem-0 hidden-the_row-CStmt-0 denote.Hole.Carrier.hidden
labelled_else = refl

labelled_first : run int labelled (from (pos 2) (pos 0)) 0 ≡ CDone (pos 2, pos 2) 0
unfolding c_expr c_stmt hidden-the_row-TExpr-0 hidden-the_row-TStmt-0 hidden-the_row-TChoice-2 hidden-the_row-CSel-0 hidden-the_row-CArg-1 hidden-the_row-CExpr-2 hidden-the_row-CItem-0 hidden-the_row-CStmt-0 denote.Hole.Carrier.hidden
labelled_first = refl

-- ---- EXIT leaves a loop, RETURN a body

left_at_3_past : run int left_at_3 (from (pos 0) (pos 0)) 2 ≡ CPast
unfolding c_expr c_stmt hidden-the_row-TExpr-0 hidden-the_row-TStmt-0 hidden-the_row-TArm-1 hidden-the_row-CSel-0 hidden-the_row-CArg-1 hidden-the_row-CExpr-2 hidden-the_row-CItem-0 hidden-the_row-CStmt-0 denote.Hole.Carrier.hidden
left_at_3_past = refl

left_at_3_done : run int left_at_3 (from (pos 0) (pos 0)) 3 ≡ CDone (pos 3, pos 1) 0
unfolding c_expr c_stmt hidden-the_row-TExpr-0 hidden-the_row-TStmt-0 hidden-the_row-TArm-1 hidden-the_row-CSel-0 hidden-the_row-CArg-1 hidden-the_row-CExpr-2 hidden-the_row-CItem-0 hidden-the_row-CStmt-0 denote.Hole.Carrier.hidden
left_at_3_done = refl

returned_done : run int returned (from (pos 0) (pos 0)) 2 ≡ CDone (pos 1, pos 0) 1
unfolding c_expr c_stmt hidden-the_row-TExpr-0 hidden-the_row-TStmt-0 hidden-the_row-CSel-0 hidden-the_row-CArg-1 hidden-the_row-CExpr-2 hidden-the_row-CItem-0 hidden-the_row-CStmt-0 denote.Hole.Carrier.hidden
returned_done = refl

-- ---- operators at the limits of their types: nothing is undefined

minus : run int (one Minus int) (from (negsuc 32767) (pos 0)) 0 ≡ CDone (negsuc 32767, pos 0) 0
unfolding c_expr c_stmt hidden-the_row-TExpr-0 hidden-the_row-CSel-0 hidden-the_row-CArg-1 hidden-the_row-CExpr-2 hidden-the_row-CItem-0 denote.Hole.Carrier.hidden
minus = refl

times : run int (two Mul int) (from (pos 32767) (negsuc 32767)) 0 ≡ CDone (negsuc 32767, negsuc 32767) 0
unfolding c_expr c_stmt hidden-the_row-TExpr-0 hidden-the_row-CSel-0 hidden-the_row-CArg-1 hidden-the_row-CExpr-2 hidden-the_row-CItem-0 denote.Hole.Carrier.hidden
times = refl

complement : run lword (one Not lword) (from (pos 0) (pos 0)) 0 ≡ CDone (pos 18446744073709551615, pos 0) 0
unfolding c_expr c_stmt hidden-the_row-TExpr-0 hidden-the_row-CSel-0 hidden-the_row-CArg-1 hidden-the_row-CExpr-2 hidden-the_row-CItem-0 denote.Hole.Carrier.hidden
complement = refl

apart : run word (two Xor word) (from (pos 65535) (pos 32769)) 0 ≡ CDone (pos 32766, pos 32769) 0
unfolding c_expr c_stmt hidden-the_row-TExpr-0 hidden-the_row-CSel-0 hidden-the_row-CArg-1 hidden-the_row-CExpr-2 hidden-the_row-CItem-0 denote.Hole.Carrier.hidden
apart = refl

-- ---- a wrong one, which sets A to 1 at the start

abbrev set_a : CStmt
set_a = stmt.InitVar (own (codes "A")) (literal Int (pos 1))

abbrev resource : TResource
resource = record {
  id = 4;
  name = codes "R";
  tasks = (single program).task ∷ [];
  insts = record { id = 6; name = codes "I"; task = Some 5; program = 0 } ∷ [];
}

abbrev config : TConfig
config = record { id = 3; name = codes "C"; resources = resource ∷ [] }

abbrev wrong_functions : List CItem
wrong_functions =
    void_function (init_name program.name) (self program.name ∷ []) (set_a ∷ []) ∷ working_function (body_name program.name) (self program.name ∷ []) (body_stmts program.vars program.body) ∷ []

abbrev wrong : CUnit
wrong = record {
  parts = part (codes "POUS.h") (pou_struct program ∷ [])
      ∷ header_part config
      ∷ part (codes "POUS.c") wrong_functions
      ∷ config_parts sample config ++ part (codes "plc_debugger.c") (debug_items sample) ∷ [];
}

-- it counts from 1
wrong_scans : trace_c wrong [] 0 (Scan (pos 0) ∷ Scan (pos 20000000) ∷ []) ≡ Shows 1 (pos 0) [] (pos 2 ∷ pos 0 ∷ []) ∷ Shows 2 (pos 20000000) [] (pos 3 ∷ pos 0 ∷ []) ∷ []
unfolding c_expr c_stmt hidden-the_row-TExpr-0 hidden-the_row-CSel-0 hidden-the_row-CArg-1 hidden-the_row-CExpr-2 hidden-the_row-CItem-0 denote.Hole.Carrier.hidden
wrong_scans = refl
