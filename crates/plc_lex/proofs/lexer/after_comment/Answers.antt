use Rattle.std.proofs.Common.{◌≡◌, ◌-◌, length, take, drop, sym, subst, arith, length-take, length-drop}
use Rattle.plc_lex.specs.Tokens.{HasRoom}
use Rattle.plc_lex.proofs.TokensLemmas.{HasRoom-behind}
use Rattle.plc_lex.proofs.lexer.after_comment.Goals as goal

pub returns-clause-room : goal.returns-clause-room
returns-clause-room c =
    let rest = c.args.cursor.rest.now in
    let size = c.args.size in
    let left : length (take (length rest - size) (drop size rest)) ≡ length rest - size = omega (arith, length-take (length rest - size) (drop size rest), length-drop size rest) in
    subst (HasRoom c.past_all.result) (sym left) (HasRoom-behind rest c.args.cursor.place c.past_all.result size c.requires.room c.requires.within c.past_all.ensures)
