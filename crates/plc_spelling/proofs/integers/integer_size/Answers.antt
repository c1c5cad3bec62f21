use Rattle.std.proofs.Common.{◌≡◌, ℕ, Bool, List, ◌||◌, max, subst}
use Rattle.std.specs.Prelude.{codes}
use Rattle.plc_spelling.specs.Text.{IsGreatest}
use Rattle.plc_spelling.specs.Integers.{is_number, is_based, is_integer}
use Rattle.plc_spelling.proofs.Greatest.{greatest-or}
use Rattle.plc_spelling.proofs.integers.integer_size.Goals as goal

of_bases : (text : List ℕ) (decimal binary octal hexadecimal : ℕ) → IsGreatest (is_number 10) text decimal → IsGreatest (is_based 2 (codes "2#")) text binary
    → IsGreatest (is_based 8 (codes "8#")) text octal → IsGreatest (is_based 16 (codes "16#")) text hexadecimal
    → IsGreatest is_integer text (max (max (max decimal binary) octal) hexadecimal)
of_bases text decimal binary octal hexadecimal in_decimal in_binary in_octal in_hexadecimal =
    let or_binary : (bs : List ℕ) → Bool = λ bs. is_number 10 bs || is_based 2 (codes "2#") bs in
    let or_octal : (bs : List ℕ) → Bool = λ bs. or_binary bs || is_based 8 (codes "8#") bs in
    greatest-or or_octal text (is_based 16 (codes "16#")) (max (max decimal binary) octal) hexadecimal
    (greatest-or or_binary text (is_based 8 (codes "8#")) (max decimal binary) octal
    (greatest-or (is_number 10) text (is_based 2 (codes "2#")) decimal binary in_decimal in_binary) in_octal)
    in_hexadecimal

pub returns : goal.returns
returns c =
    let same : max (max (max c.number_size.result c.based_size.result) c.based_size-2.result) c.based_size-3.result ≡ c.max-3.result = cc in
    subst (IsGreatest is_integer c.args.text.now) same
    (of_bases c.args.text.now c.number_size.result c.based_size.result c.based_size-2.result c.based_size-3.result
    c.number_size.ensures c.based_size.ensures c.based_size-2.ensures c.based_size-3.ensures)
