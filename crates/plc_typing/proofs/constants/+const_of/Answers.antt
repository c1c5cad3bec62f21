use Rattle.std.proofs.Common.{sym, ap, ◌∙◌}
use Rattle.plc_typing.specs.Constants.{of_one, of_two, const_of}
use Rattle.plc_typing.proofs.ConstantViews.{const_of-Paren, const_of-Unary, const_of-Binary}
use Rattle.plc_typing.proofs.constants.+const_of.Goals as goal

pub returns-in-Paren : goal.returns-in-Paren
returns-in-Paren t c =
    let e = c.in-Paren in
    c.const_of.ensures ∙ ap const_of c.get.ensures ∙ sym (const_of-Paren e.at e.inner) ∙ ap const_of (sym e.is)

pub returns-in-Unary : goal.returns-in-Unary
returns-in-Unary t c =
    let e = c.in-Unary in
    c.of_one.ensures
    ∙ ap (of_one e.op) (c.const_of-in-Unary.ensures ∙ ap const_of c.get-in-Unary.ensures)
    ∙ sym (const_of-Unary e.op e.at e.inner)
    ∙ ap const_of (sym e.is)

pub returns-in-Binary : goal.returns-in-Binary
returns-in-Binary t c =
    let e = c.in-Binary in
    let left = c.const_of-in-Binary.ensures ∙ ap const_of c.get-in-Binary.ensures in
    let right = c.const_of-in-Binary-2.ensures ∙ ap const_of c.get-in-Binary-2.ensures in
    c.of_two.ensures ∙ (λ i. of_two e.op (left i) (right i)) ∙ sym (const_of-Binary e.op e.at e.left e.right) ∙ ap const_of (sym e.is)
