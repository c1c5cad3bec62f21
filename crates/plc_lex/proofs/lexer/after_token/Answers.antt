use Rattle.std.proofs.Common.{◌≡◌, ◌-◌, length, take, drop, sym, subst, arith, length-take, length-drop}
use Rattle.plc_lex.specs.Tokens.{HasRoom, numbered}
use Rattle.plc_lex.proofs.TokensLemmas.{HasRoom-after}
use Rattle.plc_lex.proofs.lexer.after_token.Goals as goal

pub overflow_add-result : goal.overflow_add-result
overflow_add-result c =
    let room = HasRoom-after c.args.cursor.rest.now c.args.cursor.place c.past_all-place.result c.args.size c.requires.room c.requires.some c.requires.within c.past_all-place.ensures in
    omega (arith, room.token)

pub returns-clause-room : goal.returns-clause-room
returns-clause-room c =
    let rest = c.args.cursor.rest.now in
    let size = c.args.size in
    let room = HasRoom-after rest c.args.cursor.place c.past_all-place.result size c.requires.room c.requires.some c.requires.within c.past_all-place.ensures in
    let left : length (take (length rest - size) (drop size rest)) ≡ length rest - size = omega (arith, length-take (length rest - size) (drop size rest), length-drop size rest) in
    subst (HasRoom (numbered c.past_all-place.result)) (sym left) room
