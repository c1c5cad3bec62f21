-- Command lines and complaints, by computation.
use Rattle.std.proofs.Common.{◌≡◌, refl, [], ◌∷◌, Some, None, codes, arith}
use Rattle.std.proofs.lemmas.Fmt.{decimal_digit}
use Rattle.plc_base.specs.declared.refusal.Rule.TheVariants.{NotYet}
use Rattle.plc_top.specs.Lines.{refusal_line, read_line}
use Rattle.plc_top.specs.Words.{form}

a_file : form (codes "a.st" ∷ []) ≡ Some (codes "a.st")
a_file = refl

no_name : form ([] ∷ []) ≡ Some []
no_name = refl

an_option : form (codes "-f" ∷ []) ≡ None
an_option = refl

a_command : form (codes "run" ∷ []) ≡ None
a_command = refl

longer_than_a_command : form (codes "runs" ∷ []) ≡ Some (codes "runs")
longer_than_a_command = refl

no_word : form [] ≡ None
no_word = refl

two_words : form (codes "a.st" ∷ codes "b.st" ∷ []) ≡ None
two_words = refl

refused_at : refusal_line (codes "a.st") (record { rule = NotYet; place = record { file = 0; line = 3; col = 8; token = 7 } })
    ≡ codes "a.st:3:8: error NotYet: not built yet\n"
unfolding refusal_line
refused_at = rw (decimal_digit 3 (omega arith), decimal_digit 8 (omega arith)) refl

unread : read_line (codes "a.st") ≡ codes "iec2c: cannot read a.st\n"
unfolding read_line
unread = refl
