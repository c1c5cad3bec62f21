-- What is seen of one rank is one, so a set that has it says what it is.
use lib.Dec.{lit≤}
use native.Mathlib.Nat.{lt_of_lt_of_le}
use denote.Enum.Bare.{tag_one}
use denote.Enum.Declared.{tag_of, variants}
use denote.Enum.Enum.{tag_below}
use Rattle.std.proofs.Common.{◌≡◌, ℕ, ◌+◌, ◌<◌, Bool, true, false, ◌&&◌, eqb, List, [], ◌∷◌, refl, ap, arith, ⊎_elim}
use Rattle.std.proofs.lemmas.Bool.{or_cases, eqb-true}
use Rattle.std.proofs.lemmas.Grind.{common_steps}
use Rattle.plc_tokens.specs.declared.token.Token.{Token}
use Rattle.phrase.specs.Piece.{has}
use Rattle.phrase.proofs.Views.{Matches}
use Rattle.plc_tokens.specs.contracts.reserved.Reserved as reserved
use Rattle.plc_tokens.specs.contracts.sort.Form as forms
use Rattle.plc_tokens.specs.contracts.sort.Symbol as symbols
use Rattle.plc_tokens.specs.declared.sort.Seen.{Seen}
use Rattle.plc_tokens.specs.declared.sort.Sort.{Sort}
use Rattle.plc_tokens.specs.declared.sort.Sort.TheVariants.{Form, Symbol, Word}
use Rattle.plc_tokens.specs.Sorts.{rank_of, rank, sort_in, sort, plain, kinds, wherever}

-- each enum has its own stretch of ranks
low_form : (f : forms.the_type.D) → tag_of forms.the_type f < 64
low_form f = lt_of_lt_of_le (tag_below (variants forms.the_type) (forms.the_type.to f)) (lit≤ tt)

low_symbol : (s : symbols.the_type.D) → tag_of symbols.the_type s < 64
low_symbol s = lt_of_lt_of_le (tag_below (variants symbols.the_type) (symbols.the_type.to s)) (lit≤ tt)

low_word : (w : reserved.the_type.D) → tag_of reserved.the_type w < 384
low_word w = lt_of_lt_of_le (tag_below (variants reserved.the_type) (reserved.the_type.to w)) (lit≤ tt)

one_sort : (a b : Sort) → rank_of a ≡ rank_of b → a ≡ b
one_sort (Form a) (Form b) h = ap Form (tag_one forms.the_type tt a b h)
one_sort (Symbol a) (Symbol b) h = ap Symbol (tag_one symbols.the_type tt a b (omega (arith, h)))
one_sort (Word a) (Word b) h = ap Word (tag_one reserved.the_type tt a b (omega (arith, h)))
one_sort (Form a) (Symbol b) h = absurd (omega (arith, low_form a, h))
one_sort (Form a) (Word b) h = absurd (omega (arith, low_form a, h))
one_sort (Symbol a) (Form b) h = absurd (omega (arith, low_form b, h))
one_sort (Symbol a) (Word b) h = absurd (omega (arith, low_symbol a, h))
one_sort (Word a) (Form b) h = absurd (omega (arith, low_form b, h))
one_sort (Word a) (Symbol b) h = absurd (omega (arith, low_symbol b, h))

low_rank : (a : Sort) → rank_of a < 512
low_rank (Form f) = omega (arith, low_form f)
low_rank (Symbol s) = omega (arith, low_symbol s)
low_rank (Word w) = omega (arith, low_word w)

-- what is seen has the sort of what is of its rank
seen_sort : (a b : Sort) (f g : Bool) → rank (record { sort = a; fresh = f }) ≡ rank (record { sort = b; fresh = g }) → a ≡ b
seen_sort a b true true h = one_sort a b (omega (arith, h))
seen_sort a b false false h = one_sort a b h
seen_sort a b true false h = absurd (omega (arith, low_rank b, h))
seen_sort a b false true h = absurd (omega (arith, low_rank a, h))

-- and what a set has has the sort of one in it
pub one_rank : (c x : Seen) → eqb (rank c) (rank x) ≡ true → c.sort ≡ x.sort
one_rank c x h = seen_sort c.sort x.sort c.fresh x.fresh (eqb-true (rank c) (rank x) h)

-- a token of a set of one sort has it
pub one_kind : (t : Token) (s : Sort) → has rank (sort.of t) (kinds (s ∷ [])) ≡ true → t.sort ≡ s
one_kind t s h = ⊎_elim (λ e. one_rank (sort.of t) (plain s) e) (λ e. absurd (let i : false ≡ true = e in cc)) (or_cases (eqb (rank (sort.of t)) (rank (plain s))) false h)

pub is_kind : (t : Token) (s : Sort) → t.sort ≡ s → has rank (sort.of t) (kinds (s ∷ [])) ≡ true
is_kind t s h = let i : rank_of t.sort ≡ rank_of s = ap rank_of h in grind (arith, common_steps)

-- ---- line breaks

fresh_as_plain : (c k : ℕ) → eqb c k ≡ eqb (c + 512) (k + 512)
fresh_as_plain c k = grind (arith, common_steps)

plain_not_fresh : (a b : Sort) → eqb (rank_of a) (rank_of b + 512) ≡ false
plain_not_fresh a b = let h = low_rank a in grind (arith, common_steps)

fresh_not_plain : (a b : Sort) → eqb (rank_of a + 512) (rank_of b) ≡ false
fresh_not_plain a b = let h = low_rank b in grind (arith, common_steps)

wherever_in : (s : Sort) (fresh : Bool) (ss : List Sort) → has rank (plain s) (kinds ss) ≡ has rank (record { sort = s; fresh = fresh }) (wherever ss)
wherever_in s fresh [] = refl
wherever_in s true (x ∷ ss) = let i = fresh_as_plain (rank_of s) (rank_of x) in let j = fresh_not_plain s x in let l = wherever_in s true ss in cc
wherever_in s false (x ∷ ss) = let j = plain_not_fresh s x in let l = wherever_in s false ss in cc

-- a token is of some sorts where line breaks have no meaning exactly where it is of them wherever it stands
pub matches : (line : Bool) (ss : List Sort) → Matches sort (sort_in line) (kinds ss) (wherever ss)
matches line ss = record { same = λ t. wherever_in t.sort (line && t.fresh) ss }
