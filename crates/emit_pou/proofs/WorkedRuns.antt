-- Runs of emitted units with forces, releases and starts show what their sources do, computed.
use Rattle.std.proofs.Common.{◌≡◌, refl, [], ◌∷◌}
use Rattle.std.specs.Prelude.{pos}
use Rattle.plc_base.specs.Trace.{Force, Release, Scan, ColdStart, WarmStart, Shows}
use Rattle.plc_tree.specs.declared.typed.TExpr.TheBlock.{hidden-the_row-TExpr-0}
use Rattle.plc_tree.specs.Rows.{kept}
use Rattle.plc_tree.proofs.Sample.{sample, unit_with}
use Rattle.plc_tree.proofs.LoopSamples.{from_5}
use Rattle.plc_tree.proofs.RunSamples.{of_constant, keeping}
use Rattle.c_tree.specs.declared.tree.CArg.TheBlock.{hidden-the_row-CSel-0, hidden-the_row-CArg-1, hidden-the_row-CExpr-2}
use Rattle.c_tree.specs.declared.tree.CItem.TheBlock.{hidden-the_row-CItem-0}
use Rattle.c_meaning.specs.Run.{trace_c}
use Rattle.emit_pou.specs.Emitted.{c_unit}
use Rattle.emit_pou.specs.Expressions.{c_expr}
use Rattle.emit_pou.specs.Statements.{c_stmt}

forced_and_released : trace_c (c_unit sample) [] 0 (Scan (pos 0) ∷ Force 0 (pos 50) ∷ Scan (pos 1) ∷ Release 0 ∷ Scan (pos 2) ∷ [])
    ≡ Shows 1 (pos 0) [] (pos 1 ∷ pos 1 ∷ []) ∷ Shows 2 (pos 1) [] (pos 50 ∷ pos 0 ∷ []) ∷ Shows 3 (pos 2) [] (pos 51 ∷ pos 0 ∷ []) ∷ []
unfolding c_expr c_stmt hidden-the_row-TExpr-0 hidden-the_row-CSel-0 hidden-the_row-CArg-1 hidden-the_row-CExpr-2 hidden-the_row-CItem-0 denote.Hole.Carrier.hidden
forced_and_released = refl

started_cold : trace_c (c_unit sample) [] 0 (Force 0 (pos 50) ∷ Scan (pos 0) ∷ ColdStart ∷ Scan (pos 1) ∷ Scan (pos 2) ∷ [])
    ≡ Shows 1 (pos 0) [] (pos 50 ∷ pos 0 ∷ []) ∷ Shows 2 (pos 1) [] (pos 1 ∷ pos 1 ∷ []) ∷ Shows 3 (pos 2) [] (pos 2 ∷ pos 0 ∷ []) ∷ []
unfolding c_expr c_stmt hidden-the_row-TExpr-0 hidden-the_row-CSel-0 hidden-the_row-CArg-1 hidden-the_row-CExpr-2 hidden-the_row-CItem-0 denote.Hole.Carrier.hidden
started_cold = refl

started_at_5 : trace_c (c_unit (unit_with from_5)) [] 0 (Scan (pos 0) ∷ Scan (pos 1) ∷ ColdStart ∷ Scan (pos 2) ∷ [])
    ≡ Shows 1 (pos 0) [] (pos 6 ∷ pos 0 ∷ []) ∷ Shows 2 (pos 1) [] (pos 7 ∷ pos 0 ∷ []) ∷ Shows 3 (pos 2) [] (pos 6 ∷ pos 0 ∷ []) ∷ []
unfolding c_expr c_stmt hidden-the_row-TExpr-0 hidden-the_row-CSel-0 hidden-the_row-CArg-1 hidden-the_row-CExpr-2 hidden-the_row-CItem-0 denote.Hole.Carrier.hidden
started_at_5 = refl

constant_forced : trace_c (c_unit of_constant) [] 0 (Scan (pos 0) ∷ Force 1 (pos 7) ∷ Scan (pos 1) ∷ Release 1 ∷ Scan (pos 2) ∷ ColdStart ∷ Scan (pos 3) ∷ [])
    ≡ Shows 1 (pos 0) [] (pos 3 ∷ pos 3 ∷ []) ∷ Shows 2 (pos 1) [] (pos 7 ∷ pos 7 ∷ []) ∷ Shows 3 (pos 2) [] (pos 7 ∷ pos 7 ∷ []) ∷ Shows 4 (pos 3) [] (pos 3 ∷ pos 3 ∷ []) ∷ []
unfolding c_expr c_stmt hidden-the_row-TExpr-0 hidden-the_row-CSel-0 hidden-the_row-CArg-1 hidden-the_row-CExpr-2 hidden-the_row-CItem-0 denote.Hole.Carrier.hidden
constant_forced = refl

started_warm :
    trace_c (c_unit keeping) (kept keeping) 0
    (Scan (pos 0) ∷ Scan (pos 1) ∷ WarmStart ∷ Scan (pos 2) ∷ Force 1 (pos 50) ∷ WarmStart ∷ Scan (pos 3) ∷ ColdStart ∷ Scan (pos 4) ∷ [])
    ≡ Shows 1 (pos 0) [] (pos 1 ∷ pos 1 ∷ []) ∷ Shows 2 (pos 1) [] (pos 2 ∷ pos 2 ∷ []) ∷ Shows 3 (pos 2) [] (pos 1 ∷ pos 3 ∷ []) ∷ Shows 4 (pos 3) [] (pos 1 ∷ pos 51 ∷ [])
    ∷ Shows 5 (pos 4) [] (pos 1 ∷ pos 1 ∷ []) ∷ []
unfolding c_expr c_stmt hidden-the_row-TExpr-0 hidden-the_row-CSel-0 hidden-the_row-CArg-1 hidden-the_row-CExpr-2 hidden-the_row-CItem-0 denote.Hole.Carrier.hidden
started_warm = refl
