use Rattle.std.proofs.Common.{◌∙◌, ap}
use Rattle.plc_base.specs.declared.kind.Kind.TheVariants.{Left}
use Rattle.plc_spelling.proofs.FirstTokens.{found, digit-real, digit-integer}
use Rattle.plc_spelling.proofs.spelling.digit_token.Goals as goal

pub returns-in_ok-new : goal.returns-in_ok-new
returns-in_ok-new c =
    ap (λ name. found (Left name) c.real_size-real.result) (c.in_ok-new.ensures)
    ∙ digit-real c.args.text.now c.integer_size-integer.result c.real_size-real.result c.requires.some c.requires.first c.if-real-integer.true c.integer_size-integer.ensures c.real_size-real.ensures

pub returns-else-real-integer : goal.returns-else-real-integer
returns-else-real-integer c =
    ap (λ kind. found kind c.integer_size-integer.result) c.integer_kind.ensures
    ∙ digit-integer c.args.text.now c.integer_size-integer.result c.real_size-real.result c.requires.some c.requires.first c.if-real-integer.false c.integer_size-integer.ensures c.real_size-real.ensures
