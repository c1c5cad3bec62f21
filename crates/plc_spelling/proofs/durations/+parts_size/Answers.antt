use Rattle.std.proofs.Common.{◌+◌, false, sym, ap, subst, ◌∙◌, arith, rules}
use Rattle.std.proofs.lemmas.List.{take_rest}
use Rattle.plc_spelling.specs.Durations.{past_bar}
use Rattle.plc_spelling.proofs.DurationFronts.{rest_of, Greatest, ahead, units-behind, skip-front, pointed-front, alone-front, more-front}
use Rattle.plc_spelling.proofs.durations.+parts_size.Goals as goal

pub parts_size-requires : goal.parts_size-requires
parts_size-requires n c =
    let behind = units-behind c.args.units.now c.requires.0 (omega arith) c.requires.2 in
    (search rules, (c.requires.0 + 1, behind.0, behind.1))

pub parts_size-requires-2 : goal.parts_size-requires-2
parts_size-requires-2 n c =
    let behind = units-behind c.args.units.now c.requires.0 (omega arith) c.requires.2 in
    (search rules, (c.requires.0 + 1, behind.0, behind.1))

pub returns-then-not-begins_part : goal.returns-then-not-begins_part
returns-then-not-begins_part n c =
    let u = c.unit-item.result in
    let a = ahead c.args.units.now u c.requires.0 (omega arith) c.unit-item.is c.requires.2 in
    skip-front c.args.units.now u c.args.first c.args.text.now c.part_size-size.result c.parts_size.result a c.part_size-size.ensures.value
    (sym c.begins_part.ensures ∙ c.if-not-begins_part.true) c.parts_size.ensures

pub returns-then-has_point : goal.returns-then-has_point
returns-then-has_point n c =
    let u = c.unit-item.result in
    let a = ahead c.args.units.now u c.requires.0 (omega arith) c.unit-item.is c.requires.2 in
    pointed-front c.args.units.now u c.args.first c.args.text.now c.part_size-size.result a c.part_size-size.ensures.value
    (sym c.begins_part.ensures ∙ c.if-not-begins_part.false) (sym c.has_point.ensures ∙ c.if-has_point.true)

pub returns-in-0 : goal.returns-in-0
returns-in-0 n c =
    let text = c.args.text.now in
    let size = c.part_size-size.result in
    let behind = c.past_bar-behind.result.now in
    let u = c.unit-item.result in
    let a = ahead c.args.units.now u c.requires.0 (omega arith) c.unit-item.is c.requires.2 in
    alone-front c.args.units.now u c.args.first text behind size a c.part_size-size.ensures.value
    (sym c.begins_part.ensures ∙ c.if-not-begins_part.false)
    (c.past_bar-behind.ensures ∙ ap past_bar (take_rest text size))
    (subst (Greatest (rest_of c.args.units.now) false behind) c.in-0.is c.parts_size-2.ensures)

pub returns-in_default-parts_size : goal.returns-in_default-parts_size
returns-in_default-parts_size n c =
    let text = c.args.text.now in
    let size = c.part_size-size.result in
    let behind = c.past_bar-behind.result.now in
    let more = c.parts_size-2.result in
    let u = c.unit-item.result in
    let a = ahead c.args.units.now u c.requires.0 (omega arith) c.unit-item.is c.requires.2 in
    more-front c.args.units.now u c.args.first text behind size more a c.part_size-size.ensures.value
    (sym c.begins_part.ensures ∙ c.if-not-begins_part.false) (sym c.has_point.ensures ∙ c.if-has_point.false)
    (c.past_bar-behind.ensures ∙ ap past_bar (take_rest text size)) (omega arith) c.parts_size-2.ensures
