use Rattle.std.proofs.Common.{◌∙◌, sym, ap}
use Rattle.plc_scopes.specs.Firsts.{first_of, entered}
use Rattle.plc_scopes.proofs.SpaceLemmas.{global-passed, global-entered}
use Rattle.plc_scopes.proofs.spaces.globals_of.Goals as goal
use Rattle.plc_scopes.proofs.spaces.globals_of.Goals.{then-is_global+in_ok-enter, else-is_global}

pub loop-i-preserved : goal.loop-i-preserved
loop-i-preserved c =
    let ds = c.args.declared.now in
    let k = c.loop-i.i in
    let d = c.index-declared-i.result in
    elim c.if-is_global.branch [
      | then-is_global+in_ok-enter w ↦
          λ name. ap (λ s. first_of s name) (w.globals-is ∙ w.in_ok-enter.ensures ∙ ap (λ n. entered c.loop-i.globals n k) w.bytes.ensures)
          ∙ global-entered ds k d c.loop-i-test.true c.index-declared-i.is c.loop-i.globals (sym c.is_global.ensures ∙ w.if-is_global.true) c.loop-i.invariant name
      | else-is_global w ↦
          λ name. ap (λ s. first_of s name) w.globals-is ∙ c.loop-i.invariant name ∙ sym (global-passed ds k d c.loop-i-test.true c.index-declared-i.is (sym c.is_global.ensures ∙ w.if-is_global.false) name)
    ]
