use Rattle.std.proofs.Common.{◌≡◌, sym, ap, subst, ◌∙◌, ◌^◌, ◌≤◌, length}
use Rattle.plc_tree.specs.declared.typed.TUnit.{TUnit}
use Rattle.plc_tree.specs.Rows.{kept, rows}
use Rattle.c_meaning.specs.Run.{trace_c}
use Rattle.c_meaning.specs.Rules.{Good}
use Rattle.c_tree.specs.declared.tree.CUnit.{CUnit}
use Rattle.emit_pou.specs.Emitted.{c_unit}
use Rattle.emit_pou.specs.Single.{unit_of}
use Rattle.emit_pou.specs.Keeps.{BodyLike, ScansLike, StartsLike}
use Rattle.emit_pou.proofs.Traces.{traces, starts, scans, bodies}
use Rattle.emit_pou.proofs.Goodness.{good}
use Rattle.emit_pou.proofs.unit.emit_unit.Goals as goal

pub returns-clause-traces : goal.returns-clause-traces
returns-clause-traces c single bound events fair =
    let is : (record { parts = c.in_ok-all_parts.field-0 }) ≡ c_unit c.args.unit.now = ap (λ ps. record { parts = ps }) c.in_ok-all_parts.ensures in
    ap (λ (u : CUnit). trace_c u (kept c.args.unit.now) bound events) is ∙ traces c.args.unit.now single bound events fair

pub returns-clause-starts : goal.returns-clause-starts
returns-clause-starts c single =
    subst (λ (u : CUnit). StartsLike c.args.unit.now u) (sym (ap (λ ps. record { parts = ps }) c.in_ok-all_parts.ensures)) (starts c.args.unit.now single)

pub returns-clause-scans : goal.returns-clause-scans
returns-clause-scans c single =
    subst (λ (u : CUnit). ScansLike c.args.unit.now u) (sym (ap (λ ps. record { parts = ps }) c.in_ok-all_parts.ensures)) (scans c.args.unit.now single)

pub returns-clause-body : goal.returns-clause-body
returns-clause-body c single =
    subst (λ (u : CUnit). BodyLike single.parts u) (sym (ap (λ ps. record { parts = ps }) c.in_ok-all_parts.ensures)) (bodies c.args.unit.now single)

pub returns-clause-good : goal.returns-clause-good
returns-clause-good c x unit names typed =
    let is : (record { parts = c.in_ok-all_parts.field-0 }) ≡ c_unit c.args.unit.now = ap (λ ps. record { parts = ps }) c.in_ok-all_parts.ensures in
    let rules : (u : TUnit) → u ≡ unit_of x → length (rows u) ≤ 2 ^ 31 → Good (c_unit u) = λ u e m. subst (λ v. Good (c_unit v)) (sym e) (good x names typed (subst (λ v. length (rows v) ≤ 2 ^ 31) e m)) in
    subst (λ (u : CUnit). Good u) (sym is) (rules c.args.unit.now unit c.requires.few)
