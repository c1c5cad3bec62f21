use Rattle.std.proofs.Common.{◌∙◌, sym, ap, ℕ, List, Vec, Global}
use Rattle.plc_scopes.specs.Firsts.{first_of, space_at}
use Rattle.plc_scopes.proofs.SpaceLemmas.{number-passed, number-entered}
use Rattle.plc_scopes.proofs.spaces.spaces_of.Goals as goal
use Rattle.plc_scopes.proofs.spaces.spaces_of.Goals.{then-not-is_value+in_ok-enter, else-not-is_value}

pub loop-i-preserved : goal.loop-i-preserved
loop-i-preserved c =
    let ds = c.args.declared.now in
    let k = c.loop-i.i in
    let d = c.index-declared-i.result in
    elim c.if-not-is_value.branch [
      | then-not-is_value+in_ok-enter w ↦
          rw w.spaces-is
          (number-entered ds k d c.loop-i-test.true c.index-declared-i.is c.loop-i.spaces.items w.enter.new.spaces.items (sym c.is_value.ensures ∙ w.if-not-is_value.true)
          (rw w.bytes.ensures at w.in_ok-enter.ensures) c.loop-i.invariant)
      | else-not-is_value w ↦
          λ scope name. ap (λ (s : Vec (List (List ℕ × ℕ)) Global). first_of (space_at s.items scope) name) w.spaces-is ∙ c.loop-i.invariant scope name ∙ sym (number-passed ds k d c.loop-i-test.true c.index-declared-i.is (sym c.is_value.ensures ∙ w.if-not-is_value.false) scope name)
    ]
