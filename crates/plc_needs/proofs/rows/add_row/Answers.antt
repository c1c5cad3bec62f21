use Rattle.std.proofs.Common.{[], ◌∷◌, ◌++◌, sym, ap, ◌∙◌, take, get_or}
use Rattle.std.proofs.lemmas.List.{take_more}
use Rattle.plc_needs.proofs.Growing.{last_grows}
use Rattle.plc_needs.proofs.rows.add_row.Goals as goal

pub loop-other-preserved : goal.loop-other-preserved
loop-other-preserved c =
    let row = c.args.row.now in
    let k = c.loop-other.other-index in
    c.in_ok-need.ensures ∙ last_grows c.args.needs.now (take k row) (get_or row k 0) c.loop-other.needs c.loop-other.invariant
    ∙ ap (λ r. c.args.needs.now ++ r ∷ []) (sym (take_more row k 0 c.loop-other-test.true))
