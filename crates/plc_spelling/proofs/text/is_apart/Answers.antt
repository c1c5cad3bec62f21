use Rattle.std.proofs.Common.{◌<◌, length, sym, rules}
use Rattle.std.specs.Char.{is_digit}
use Rattle.plc_spelling.specs.Text.{apart}
use Rattle.plc_spelling.proofs.Greatest.{greatest-whole}
use Rattle.plc_spelling.proofs.text.is_apart.Goals as goal

pub returns-then-not-is_empty : goal.returns-then-not-is_empty
returns-then-not-is_empty c =
    let some : 0 < length c.args.bytes.now = search rules in
    sym (greatest-whole (apart (λ b. is_digit b c.args.base) c.args.separator) c.args.bytes.now c.apart_size.result c.apart_size.ensures some)
