use Rattle.std.proofs.Common.{sym, ap, ◌∙◌, map, arith}
use Rattle.std.proofs.lemmas.List.{length-map, get_or-map}
use Rattle.plc_names.specs.Rules.{field_name}
use Rattle.plc_scopes.proofs.Repeating.{repeating_on, repeating_all}
use Rattle.plc_scopes.proofs.repeats.repeated_fields.Goals as goal

pub loop-member-preserved : goal.loop-member-preserved
loop-member-preserved c =
    let all = map field_name c.args.members.now in
    let k = c.loop-member.member-index in
    let lt = c.loop-member-test.true in
    repeating_on c.args.rule all k (field_name c.member-item.result) c.loop-member.words c.note.new.words c.args.met.now c.loop-member.met c.note.new.met
    (omega (arith, length-map c.args.members.now field_name)) (ap field_name c.member-item.is ∙ sym (get_or-map field_name c.args.members.now k c.member-item.result (field_name c.member-item.result) lt)) c.loop-member.invariant c.in_ok-note.ensures

pub returns : goal.returns
returns c = repeating_all c.args.rule (map field_name c.args.members.now) c.loop-member.member-index c.loop-member.words c.args.met.now c.loop-member.met (let le = c.loop-member-test.false in omega (arith, length-map c.args.members.now field_name)) c.loop-member.invariant
