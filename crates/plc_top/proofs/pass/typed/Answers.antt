use Rattle.std.proofs.Common.{sym, ap, subst, ◌∙◌, length, arith}
use Rattle.plc_tokens.specs.Tokens.{IsClosed}
use Rattle.decl_parse.specs.Parsed.{IsAccepted as IsSpelled}
use Rattle.plc_typing.specs.Uses.{faults}
use Rattle.plc_typing.specs.Typing.{typed_with}
use Rattle.plc_top.specs.Decision.{end_of, IsTyped}
use Rattle.plc_top.proofs.Accepted.{closed}
use Rattle.plc_top.proofs.Passes.{numbered, fit}
use Rattle.plc_top.proofs.pass.typed.Goals as goal

pub parse_unit-requires : goal.parse_unit-requires
parse_unit-requires c = subst IsClosed (sym c.requires.is) (closed c.requires.source)

pub typed_unit-requires : goal.typed_unit-requires
typed_unit-requires c =
    let spelled = subst (λ ts. IsSpelled ts c.in_ok-unit.unit) c.requires.is c.in_ok-unit.ensures in
    let unbroken = ap (λ ts. faults (end_of ts) c.in_ok-unit.unit) (sym c.requires.is) ∙ ap (λ e. faults e c.in_ok-unit.unit) (sym (c.end_of.ensures ∙ ap end_of c.as_slice.ensures)) ∙ c.in_ok-numbers.ensures.0 in
    omega (arith, ap length c.in_ok-numbers.ensures.1, numbered c.requires.source c.in_ok-unit.unit spelled unbroken)

pub returns : goal.returns
returns c =
    let unit = c.in_ok-unit.unit in
    let spelled = subst (λ ts. IsSpelled ts unit) c.requires.is c.in_ok-unit.ensures in
    let is = c.in_ok-typed_unit.ensures ∙ ap (λ names. typed_with names unit) c.in_ok-numbers.ensures.1 in
    let here = ap (λ e. faults e unit) (sym (c.end_of.ensures ∙ ap end_of c.as_slice.ensures)) ∙ c.in_ok-numbers.ensures.0 in
    let unbroken = ap (λ ts. faults (end_of ts) unit) (sym c.requires.is) ∙ here in
    record {
      tree = unit;
      is_unit = record { spelled = c.in_ok-unit.ensures; unbroken = here };
      is = is;
      fit = subst IsTyped (sym is) (fit c.requires.source unit spelled unbroken);
    }
