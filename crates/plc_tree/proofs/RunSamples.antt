-- Runs with forces, releases and starts, and what their scans show, computed.
use Rattle.std.proofs.Common.{◌≡◌, refl, true, [], ◌∷◌}
use Rattle.std.specs.Prelude.{pos, codes}
use Rattle.plc_base.specs.Trace.{Force, Release, Scan, ColdStart, WarmStart, Shows}
use Rattle.plc_tree.specs.declared.tree.PouKind.TheVariants.{Prog}
use Rattle.plc_tree.specs.declared.tree.BinOp.TheVariants.{Add}
use Rattle.plc_tree.specs.declared.typed.TPou.{TPou}
use Rattle.plc_tree.specs.declared.typed.TUnit.{TUnit}
use Rattle.plc_tree.specs.declared.typed.TExpr.TheVariants.{Binary, Number, Var}
use Rattle.plc_tree.specs.declared.typed.TExpr.TheBlock.{hidden-the_row-TExpr-0}
use Rattle.plc_tree.specs.declared.typed.TStmt.{TStmt}
use Rattle.plc_tree.specs.declared.typed.TStmt.TheVariants.{Set}
use Rattle.plc_tree.specs.declared.typed.TBody.TheVariants.{St}
use Rattle.plc_tree.specs.Rows.{kept}
use Rattle.plc_tree.specs.Run.{trace_src}
use Rattle.plc_tree.proofs.Sample.{own, int, at, sample, unit_with}
use Rattle.plc_tree.proofs.LoopSamples.{from_5}

-- ---- A counts, and B says whether it is 1

forced_and_released : trace_src sample 0 (Scan (pos 0) ∷ Force 0 (pos 50) ∷ Scan (pos 1) ∷ Release 0 ∷ Scan (pos 2) ∷ [])
    ≡ Shows 1 (pos 0) [] (pos 1 ∷ pos 1 ∷ []) ∷ Shows 2 (pos 1) [] (pos 50 ∷ pos 0 ∷ []) ∷ Shows 3 (pos 2) [] (pos 51 ∷ pos 0 ∷ []) ∷ []
unfolding hidden-the_row-TExpr-0 denote.Hole.Carrier.hidden
forced_and_released = refl

-- a cold start ends the force; the numbers of scans go on
started_cold : trace_src sample 0 (Force 0 (pos 50) ∷ Scan (pos 0) ∷ ColdStart ∷ Scan (pos 1) ∷ Scan (pos 2) ∷ [])
    ≡ Shows 1 (pos 0) [] (pos 50 ∷ pos 0 ∷ []) ∷ Shows 2 (pos 1) [] (pos 1 ∷ pos 1 ∷ []) ∷ Shows 3 (pos 2) [] (pos 2 ∷ pos 0 ∷ []) ∷ []
unfolding hidden-the_row-TExpr-0 denote.Hole.Carrier.hidden
started_cold = refl

-- ---- from 5 on

started_at_5 : trace_src (unit_with from_5) 0 (Scan (pos 0) ∷ Scan (pos 1) ∷ ColdStart ∷ Scan (pos 2) ∷ [])
    ≡ Shows 1 (pos 0) [] (pos 6 ∷ pos 0 ∷ []) ∷ Shows 2 (pos 1) [] (pos 7 ∷ pos 0 ∷ []) ∷ Shows 3 (pos 2) [] (pos 6 ∷ pos 0 ∷ []) ∷ []
unfolding hidden-the_row-TExpr-0 denote.Hole.Carrier.hidden
started_at_5 = refl

-- ---- a constant

-- A := B; where B is a constant 3
abbrev pub of_constant : TUnit
of_constant = unit_with (record {
  id = 0;
  kind = Prog;
  name = codes "P";
  vars = own 1 (codes "A") int ∷ (record (own 2 (codes "B") int) { constant = true; init = pos 3 }) ∷ [];
  body = St (Set (at 1) (Var (at 2) int) ∷ []);
})

-- its force is read, and a release leaves it
constant_forced : trace_src of_constant 0 (Scan (pos 0) ∷ Force 1 (pos 7) ∷ Scan (pos 1) ∷ Release 1 ∷ Scan (pos 2) ∷ ColdStart ∷ Scan (pos 3) ∷ [])
    ≡ Shows 1 (pos 0) [] (pos 3 ∷ pos 3 ∷ []) ∷ Shows 2 (pos 1) [] (pos 7 ∷ pos 7 ∷ []) ∷ Shows 3 (pos 2) [] (pos 7 ∷ pos 7 ∷ []) ∷ Shows 4 (pos 3) [] (pos 3 ∷ pos 3 ∷ []) ∷ []
constant_forced = refl

-- ---- what is kept

abbrev count : TStmt
count = Set (at 1) (Binary Add int (Var (at 1) int) (Number (pos 1) int))

-- A := A + 1; K := K + 1; where K is kept
abbrev pub keeping : TUnit
keeping = unit_with (record {
  id = 0;
  kind = Prog;
  name = codes "P";
  vars = own 1 (codes "A") int ∷ (record (own 2 (codes "K") int) { keep = true }) ∷ [];
  body = St (count ∷ Set (at 2) (Binary Add int (Var (at 2) int) (Number (pos 1) int)) ∷ []);
})

one_is_kept : kept keeping ≡ 1 ∷ []
one_is_kept = refl

-- a warm start keeps the number that K was seen with, a forced one too
started_warm :
    trace_src keeping 0
    (Scan (pos 0) ∷ Scan (pos 1) ∷ WarmStart ∷ Scan (pos 2) ∷ Force 1 (pos 50) ∷ WarmStart ∷ Scan (pos 3) ∷ ColdStart ∷ Scan (pos 4) ∷ [])
    ≡ Shows 1 (pos 0) [] (pos 1 ∷ pos 1 ∷ []) ∷ Shows 2 (pos 1) [] (pos 2 ∷ pos 2 ∷ []) ∷ Shows 3 (pos 2) [] (pos 1 ∷ pos 3 ∷ []) ∷ Shows 4 (pos 3) [] (pos 1 ∷ pos 51 ∷ [])
    ∷ Shows 5 (pos 4) [] (pos 1 ∷ pos 1 ∷ []) ∷ []
unfolding hidden-the_row-TExpr-0 denote.Hole.Carrier.hidden
started_warm = refl

-- a kept constant is none
abbrev kept_constant : TPou
kept_constant = record {
  id = 0;
  kind = Prog;
  name = codes "P";
  vars = (record (own 1 (codes "A") int) { constant = true; keep = true }) ∷ [];
  body = St [];
}

no_constant_is_kept : kept (unit_with kept_constant) ≡ []
no_constant_is_kept = refl
