-- A token of each sort, so that a grammar's laws can compute that a set of sorts is not empty.
use Rattle.std.proofs.Common.{◌≡◌, Bool, true, false, List, [], ◌∷◌}
use Rattle.plc_base.specs.declared.kind.Kind.TheVariants.{End}
use Rattle.plc_base.specs.declared.refusal.Place.{Place}
use Rattle.plc_tokens.specs.declared.sort.Form.TheVariants as form
use Rattle.plc_tokens.specs.declared.sort.Seen.{Seen}
use Rattle.plc_tokens.specs.declared.sort.Sort.TheVariants.{Form}
use Rattle.plc_tokens.specs.declared.token.Token.{Token}
use Rattle.phrase.specs.Piece.{has}
use Rattle.phrase.proofs.Rules.{Known}
use Rattle.plc_tokens.specs.Sorts.{rank, sort_in, sort, plain}

abbrev pub place_zero : Place
place_zero = record { file = 0; line = 0; col = 0; token = 0 }

-- of which this is seen; its kind doesn't matter
abbrev pub with_seen : Seen → Bool → Token
with_seen seen fresh = record { kind = End; sort = seen.sort; place = place_zero; last = (0, 0); fresh = fresh }

-- some token of these sorts with no line break before
abbrev pub plain_of : List Seen → Token
plain_of [] = with_seen (plain (Form form.End)) false
plain_of (s ∷ ss) = with_seen s false

-- it is of them whether line breaks have a meaning or none
pub is_in : (line : Bool) (ks : List Seen) → has rank (sort.of (plain_of ks)) ks ≡ true → Known (sort_in line) ks
is_in line ks h = by_list ks h
  where
    by_list : (ks : List Seen) → has rank (sort.of (plain_of ks)) ks ≡ true → Known (sort_in line) ks
    by_list [] h = absurd (let e : false ≡ true = h in cc)
    by_list (s ∷ ss) h = by_line line
      where
        by_line : (line : Bool) → Known (sort_in line) (s ∷ ss)
        by_line true = record { one = plain_of (s ∷ ss); is = h }
        by_line false = record { one = plain_of (s ∷ ss); is = h }

pub is : (ks : List Seen) → has rank (sort.of (plain_of ks)) ks ≡ true → Known sort ks
is ks h = record { one = plain_of ks; is = h }
