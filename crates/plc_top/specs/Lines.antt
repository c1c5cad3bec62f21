-- The lines that are complained.
use Rattle.std.specs.Prelude.{ℕ, List, ◌++◌, codes, decimal}
use Rattle.plc_base.specs.declared.refusal.Refusal.{Refusal}
use Rattle.plc_base.specs.declared.refusal.Rule.{Rule}
use Rattle.plc_base.specs.declared.refusal.Rule.TheVariants.{L1, L2, L3, L4, L5, L6, G1, G2, U1, NotYet, N1, N2, N3, N4, N5, N6, N7, N8, N9, N10, N11}

unfoldable pub usage_line : List ℕ
usage_line = codes "usage: iec2c [-f] [-l] [-p] [-n] [-I folder] [-T folder] file\n"

unfoldable pub no_memory_line : List ℕ
no_memory_line = codes "iec2c: out of memory\n"

unfoldable pub console_line : List ℕ
console_line = codes "iec2c: cannot write to the console\n"

unfoldable pub read_line : List ℕ → List ℕ
read_line name = codes "iec2c: cannot read " ++ name ++ codes "\n"

unfoldable pub write_line : List ℕ → List ℕ
write_line name = codes "iec2c: cannot write " ++ name ++ codes "\n"

-- the name of a rule, and what it asks
abbrev pub rule_text : Rule → List ℕ
rule_text L1 = codes "L1: no token begins here"
rule_text L2 = codes "L2: comment is not finished"
rule_text L3 = codes "L3: bad literal"
rule_text L4 = codes "L4: literal is out of range"
rule_text L5 = codes "L5: word is longer than 64 bytes"
rule_text L6 = codes "L6: file is longer than 4 MiB"
rule_text G1 = codes "G1: not expected here"
rule_text G2 = codes "G2: nested more than 64 deep"
rule_text U1 = codes "U1: not in this profile"
rule_text NotYet = codes "NotYet: not built yet"
rule_text N1 = codes "N1: name is declared twice"
rule_text N2 = codes "N2: unknown name"
rule_text N3 = codes "N3: name is of the wrong kind"
rule_text N4 = codes "N4: used before its declaration"
rule_text N5 = codes "N5: declaration goes in a circle"
rule_text N6 = codes "N6: value is listed twice"
rule_text N7 = codes "N7: bad bounds"
rule_text N8 = codes "N8: bad initial value"
rule_text N9 = codes "N9: address and type disagree"
rule_text N10 = codes "N10: second initial step"
rule_text N11 = codes "N11: limit is passed"

-- the rule that is broken, and where
unfoldable pub refusal_line : List ℕ → Refusal → List ℕ
refusal_line name r = name ++ codes ":" ++ decimal r.place.line ++ codes ":" ++ decimal r.place.col ++ codes ": error " ++ rule_text r.rule ++ codes "\n"
