use Rattle.std.proofs.Common.{◌≡◌, ◌∙◌, ap, subst, arith, ◌||◌}
use Rattle.plc_spelling.specs.Marks.{is_symbol, is_mark, is_inclusion}
use Rattle.plc_spelling.specs.Text.{IsGreatest}
use Rattle.plc_spelling.proofs.FirstTokens.{found, mark-inclusion, mark-mark, mark-none}
use Rattle.plc_spelling.proofs.spelling.mark_token.Goals as goal

pub returns-in_ok-inclusion_kind : goal.returns-in_ok-inclusion_kind
returns-in_ok-inclusion_kind c =
    ap (λ kind. found kind c.inclusion_size-inclusion.result) (c.in_ok-inclusion_kind.ensures)
    ∙ mark-inclusion c.args.text.now c.symbol_size-mark.result c.inclusion_size-inclusion.result c.requires.some c.requires.first c.if-inclusion-mark.true c.symbol_size-mark.ensures c.inclusion_size-inclusion.ensures

pub returns-in_ok-mark_kind : goal.returns-in_ok-mark_kind
returns-in_ok-mark_kind c =
    ap (λ kind. found kind c.symbol_size-mark.result) (c.in_ok-mark_kind.ensures)
    ∙ mark-mark c.args.text.now c.symbol_size-mark.result c.inclusion_size-inclusion.result c.requires.some c.requires.first c.if-mark-gt0.true c.if-inclusion-mark.false c.symbol_size-mark.ensures c.inclusion_size-inclusion.ensures

pub returns-else-mark-gt0 : goal.returns-else-mark-gt0
returns-else-mark-gt0 c =
    let mark : c.symbol_size-mark.result ≡ 0 = omega (arith, c.if-mark-gt0.false) in
    let inclusion : c.inclusion_size-inclusion.result ≡ 0 = omega (arith, mark, c.if-inclusion-mark.false) in
    mark-none c.args.text.now c.requires.some c.requires.first (subst (IsGreatest (λ bs. is_symbol bs || is_mark bs) c.args.text.now) mark c.symbol_size-mark.ensures)
    (subst (IsGreatest is_inclusion c.args.text.now) inclusion c.inclusion_size-inclusion.ensures)
