-- Literals with a word and `#` before them (IEC 61131-3, 2.2): typed integers, truth values, durations, and those of types that the profile leaves out.
use Rattle.std.specs.Prelude.{ℕ, Bool, false, ◌&&◌, ◌||◌, List, [], ◌∷◌, drop, codes, Option, Some, None, if◌then◌else◌}
use Rattle.std.specs.List.{list_any}
use Rattle.std.specs.Str.{str_eq_ignore_ascii_case}
use Rattle.plc_base.specs.declared.elem.Elem.TheVariants.{Sint, Int, Dint, Lint, Usint, Uint, Udint, Ulint, Byte, Word, Dword, Lword}
use Rattle.plc_base.specs.declared.kind.Kind.{Kind}
use Rattle.plc_base.specs.declared.kind.Kind.TheVariants.{Truth, Left, Bad}
use Rattle.plc_base.specs.declared.refusal.Rule.TheVariants.{L3}
use Rattle.plc_spelling.specs.declared.literals.Owner.{Owner}
use Rattle.plc_spelling.specs.declared.literals.Owner.TheVariants.{Integer, Bits, Boolean, Time, LeftOut}
use Rattle.plc_spelling.specs.Text.{is_nil, begins_with, run_of, behind_run}
use Rattle.plc_spelling.specs.Words.{is_word_byte, is_left, capitals}
use Rattle.plc_spelling.specs.Integers.{is_integer, is_number, integer_kind, negative_kind}
use Rattle.plc_spelling.specs.Durations.{is_duration, duration_kind}

-- a word, and what it says of what stands behind `#`
pub record Owning : Type 0 where
  pub word : List ℕ
  pub owner : Owner

abbrev pub row : List ℕ → Owner → Owning
row word owner = record { word = word; owner = owner }

abbrev pub owners : List Owning
owners =
    row (codes "SINT") (Integer Sint)
    ∷ row (codes "INT") (Integer Int)
    ∷ row (codes "DINT") (Integer Dint)
    ∷ row (codes "LINT") (Integer Lint)
    ∷ row (codes "USINT") (Integer Usint)
    ∷ row (codes "UINT") (Integer Uint)
    ∷ row (codes "UDINT") (Integer Udint)
    ∷ row (codes "ULINT") (Integer Ulint)
    ∷ row (codes "BYTE") (Bits Byte)
    ∷ row (codes "WORD") (Bits Word)
    ∷ row (codes "DWORD") (Bits Dword)
    ∷ row (codes "LWORD") (Bits Lword)
    ∷ row (codes "BOOL") Boolean
    ∷ row (codes "T") Time
    ∷ row (codes "TIME") Time
    ∷ row (codes "D") LeftOut ∷ []

-- What a word says, in letters of either case: by the table, or as a word of what is left out. Another may be the type of an enumeration.
abbrev pub owner_in : List Owning → List ℕ → Option Owner
owner_in [] word = if is_left word then Some LeftOut else None
owner_in (r ∷ rs) word = if str_eq_ignore_ascii_case r.word word then Some r.owner else owner_in rs word

abbrev pub owner : List ℕ → Option Owner
owner word = owner_in owners word

-- ---- what may stand behind the `#` of an owner; nothing is a literal that lacks its digits

-- a minus and decimal digits
abbrev pub is_negative : List ℕ → Bool
is_negative bs = begins_with 45 bs && is_number 10 (drop 1 bs)

abbrev pub truths : List (List ℕ)
truths = codes "TRUE" ∷ codes "1" ∷ codes "FALSE" ∷ codes "0" ∷ []

abbrev pub is_truth : List ℕ → Bool
is_truth bs = list_any (λ truth. str_eq_ignore_ascii_case truth bs) truths

abbrev pub may_follow : Owner → List ℕ → Bool
may_follow (Integer elem) bs = is_nil bs || is_integer bs || is_negative bs
may_follow (Bits elem) bs = is_nil bs || is_integer bs
may_follow Boolean bs = is_nil bs || is_truth bs
may_follow Time bs = is_duration bs
may_follow LeftOut bs = is_nil bs

-- ---- what a literal spells

abbrev pub truth_kind : List ℕ → Kind
truth_kind bs =
    if is_nil bs then Bad L3
    else Truth (str_eq_ignore_ascii_case (codes "TRUE") bs || str_eq_ignore_ascii_case (codes "1") bs)

-- the kind of all the literal's bytes, of which those behind the `#` are handed over too
abbrev pub owned_kind : Owner → List ℕ → List ℕ → Kind
owned_kind (Integer elem) all bs = if begins_with 45 bs then negative_kind (Some elem) (drop 1 bs) else integer_kind (Some elem) bs
owned_kind (Bits elem) all bs = integer_kind (Some elem) bs
owned_kind Boolean all bs = truth_kind bs
owned_kind Time all bs = duration_kind bs
owned_kind LeftOut all bs = Left (capitals all)

-- ---- a word, `#`, and what may follow

abbrev pub owner_of : List ℕ → Option Owner
owner_of bs = owner (run_of is_word_byte bs)

abbrev pub behind_hash : List ℕ → List ℕ
behind_hash bs = drop 1 (behind_run is_word_byte bs)

abbrev pub is_literal : List ℕ → Bool
is_literal bs =
    begins_with 35 (behind_run is_word_byte bs)
    && elim (owner_of bs) [ None ↦ false | Some o ↦ may_follow o (behind_hash bs) ]

abbrev pub literal_kind : List ℕ → Kind
literal_kind bs = elim (owner_of bs) [ None ↦ Bad L3 | Some o ↦ owned_kind o bs (behind_hash bs) ]
