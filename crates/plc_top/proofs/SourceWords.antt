-- The names of a source are those of which the texts of a unit are made: words in capitals that are no elementary type.
use Rattle.std.proofs.Common.{◌≡◌, ℕ, ◌<◌, Bool, true, false, not, ◌&&◌, ◌==◌, List, [], ◌∷◌, length, map, get_or, refl, sym, ◌∙◌, ap, subst, None, arith}
use Rattle.std.specs.Prelude.{bytes_eq, is_some}
use Rattle.std.specs.Char.{is_ascii_digit, to_ascii_uppercase}
use Rattle.std.specs.List.{list_all}
use Rattle.std.proofs.lemmas.Bool.{and_parts, and_from, and_right, or_from, not-true}
use Rattle.std.proofs.lemmas.Bool.Decides.{nat_tests}
use Rattle.std.proofs.lemmas.Slice.Eq.{bytes_eq-Decides}
use Rattle.plc_tokens.specs.declared.token.Token.{Token}
use Rattle.phrase.specs.Piece.{has}
use Rattle.plc_lex.specs.Names.{HasName, IsName as IsWord}
use Rattle.plc_tokens.specs.Sets.{NAME}
use Rattle.plc_tokens.specs.Sorts.{reserved_word, rank, sort, name_of}
use Rattle.plc_tokens.specs.Tokens.{IsSorted}
use Rattle.plc_spelling.specs.Words as lex
use Rattle.plc_tokens.proofs.Classes.{kind_of_name}
use Rattle.c_tree.specs.CTokens as c
use Rattle.plc_base.specs.Numbers.{elems}
use Rattle.c_meaning.specs.Names.{is_among}
use Rattle.c_tree.specs.Spelling.{elem_name}
use Rattle.decl_parse.specs.Shapes.{IsNamed}
use Rattle.emit_pou.specs.SourceNames.{is_small, has_small, has_double, ends_low, IsSourceName}
use Rattle.plc_top.specs.Words.{IsKnown}

-- ---- bytes

letter : (b : ℕ) → lex.is_word_byte b ≡ true → is_ascii_digit b ≡ false → c.is_letter b ≡ true
letter b h k = grind (arith, nat_tests)

word_byte : (b : ℕ) → lex.is_word_byte b ≡ true → c.is_word_byte b ≡ true
word_byte b h = grind (arith, nat_tests)

capital : (b : ℕ) → to_ascii_uppercase b ≡ b → is_small b ≡ false
capital b h = grind (arith, nat_tests)

-- ---- words

word_bytes : (name : List ℕ) → list_all lex.is_word_byte name ≡ true → c.are_word_bytes name ≡ true
word_bytes [] h = refl
word_bytes (b ∷ bs) h =
    let parts = and_parts (lex.is_word_byte b) (list_all lex.is_word_byte bs) h in and_from (c.is_word_byte b) (c.are_word_bytes bs) (word_byte b parts.0) (word_bytes bs parts.1)

-- a word of the language is one of the stated C
c_word : (name : List ℕ) → 0 < length name → list_all lex.is_word_byte name ≡ true → is_ascii_digit (get_or name 0 0) ≡ false → c.is_name name ≡ true
c_word [] some h k = absurd (omega (arith, some))
c_word (b ∷ bs) some h k =
    let parts = and_parts (lex.is_word_byte b) (list_all lex.is_word_byte bs) h in and_from (c.is_letter b) (c.are_word_bytes bs) (letter b parts.0 k) (word_bytes bs parts.1)

-- no small letter is in it
capitals : (name : List ℕ) → map to_ascii_uppercase name ≡ name → has_small name ≡ false
capitals [] h = refl
capitals (b ∷ bs) h =
    let first : to_ascii_uppercase b ≡ b = cc in let rest : map to_ascii_uppercase bs ≡ bs = cc in
    or_from (is_small b) (has_small bs) (capital b first) (capitals bs rest)

-- no two _ stand together
single : (name : List ℕ) → lex.underscores_alone name ≡ true → has_double name ≡ false
single [] h = refl
single (b ∷ []) h = or_from ((b == 95) && false) false (and_right (b == 95) false refl) refl
single (b ∷ d ∷ bs) h =
    let parts = and_parts (not ((b == 95) && (d == 95))) (lex.underscores_alone (d ∷ bs)) h in
    or_from ((b == 95) && (d == 95)) (has_double (d ∷ bs)) (not-true ((b == 95) && (d == 95)) parts.0) (single (d ∷ bs) parts.1)

-- and none at the end
no_last : (name : List ℕ) → lex.underscores_alone name ≡ true → ends_low name ≡ false
no_last [] h = refl
no_last (b ∷ []) h = alone (b == 95) h
  where
    alone : (x : Bool) → not (x && true) && true ≡ true → x ≡ false
    alone true k = sym k
    alone false k = refl
no_last (b ∷ d ∷ bs) h = no_last (d ∷ bs) (and_parts (not ((b == 95) && (d == 95))) (lex.underscores_alone (d ∷ bs)) h).1

-- ---- elementary types

abbrev is_reserved : List ℕ → Bool
is_reserved name = is_some (reserved_word name)

-- they are words that are reserved
types_reserved : list_all is_reserved (map elem_name elems) ≡ true
unfolding reserved_word
types_reserved = refl

none_of : (name : List ℕ) (ns : List (List ℕ)) → reserved_word name ≡ None → list_all is_reserved ns ≡ true → is_among name ns ≡ false
none_of name [] k h = refl
none_of name (n ∷ ns) k h =
    let parts = and_parts (is_reserved n) (list_all is_reserved ns) h in or_from (bytes_eq n name) (is_among name ns) (apart (bytes_eq n name) refl parts.0) (none_of name ns k parts.1)
  where
    apart : (b : Bool) → bytes_eq n name ≡ b → is_reserved n ≡ true → b ≡ false
    apart false e r = refl
    apart true e r = let same : n ≡ name = (bytes_eq-Decides n name).0 e in sym r ∙ ap is_reserved same ∙ ap is_some k

no_type : (name : List ℕ) → reserved_word name ≡ None → is_among name (map elem_name elems) ≡ false
no_type name h = none_of name (map elem_name elems) h types_reserved

-- ---- names

-- a word in capitals that is not reserved
pub source_word : (name : List ℕ) → IsWord name → reserved_word name ≡ None → IsSourceName name
source_word name h k = record {
  word = c_word name h.some h.bytes h.no_digit;
  capitals = capitals name h.capitals;
  single = single name h.alone;
  ends = no_last name h.alone;
  no_type = no_type name k;
}

-- what a token of the sorts of names gives
pub source_name : (t : Token) → HasName t.kind → IsSorted t → has rank (sort.of t) NAME ≡ true → IsSourceName (name_of t.kind)
source_name t h tied k =
    let (name, is, free) = kind_of_name t tied k in
    subst (λ z. IsSourceName (name_of z)) (sym is) (source_word name (subst HasName is h) free)

-- the names of a source's tree
pub source_named : (name : List ℕ) → IsNamed IsKnown name → IsSourceName name
source_named name h = subst IsSourceName (sym h.is) (source_name h.token h.holds.0 h.holds.1 h.sort)
