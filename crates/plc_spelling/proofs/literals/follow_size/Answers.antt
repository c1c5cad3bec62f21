use Rattle.std.proofs.Common.{sym, subst}
use Rattle.plc_spelling.specs.declared.literals.Owner.TheVariants.{Integer}
use Rattle.plc_spelling.specs.Integers.{is_integer}
use Rattle.plc_spelling.specs.Literals.{is_negative, may_follow}
use Rattle.plc_spelling.specs.Text.{IsGreatest}
use Rattle.plc_spelling.proofs.Greatest.{greatest-or, greatest-or-nil}
use Rattle.plc_spelling.proofs.literals.follow_size.Goals as goal

pub returns-in-Integer : goal.returns-in-Integer
returns-in-Integer c =
    let text = c.args.text.now in
    subst (λ o. IsGreatest (may_follow o) text c.max.result) (sym c.in-Integer.is)
    (subst (IsGreatest (may_follow (Integer c.in-Integer.field-0)) text) (sym c.max.ensures)
    (greatest-or _ text is_negative _ _ (greatest-or-nil is_integer text _ c.integer_size.ensures) c.negative_size.ensures))

pub returns-in-Time : goal.returns-in-Time
returns-in-Time c = subst (λ o. IsGreatest (may_follow o) c.args.text.now c.duration_size.result) (sym c.in-Time.is) c.duration_size.ensures
