use Rattle.std.proofs.Common.{◌≡◌, drop}
use Rattle.std.specs.Char.{is_digit}
use Rattle.plc_spelling.proofs.Apart.{reach, walk}
use Rattle.plc_spelling.proofs.text.apart_size.Given as goal

abbrev pub invariant-loop-i : goal.invariant-loop-i
invariant-loop-i l = reach (λ b. is_digit b l.base) l.separator l.text ≡ walk (λ b. is_digit b l.base) l.separator l.i l.size (drop l.i l.text)
