-- What the sort of a token says of its kind.
use Rattle.std.proofs.Common.{◌≡◌, ℕ, true, List, [], ◌∷◌, Option, Some, None, refl, sym, ◌∙◌, subst}
use Rattle.std.specs.Prelude.{slice_get}
use Rattle.plc_base.specs.declared.kind.Kind.{Kind}
use Rattle.plc_base.specs.declared.kind.Kind.TheVariants as kind
use Rattle.plc_tokens.specs.declared.reserved.Reserved.{Reserved}
use Rattle.plc_tokens.specs.declared.sort.Form.TheVariants as form
use Rattle.plc_tokens.specs.declared.sort.Sort.{Sort}
use Rattle.plc_tokens.specs.declared.sort.Sort.TheVariants.{Form}
use Rattle.plc_tokens.specs.declared.sort.Symbol.{Symbol as ASymbol}
use Rattle.plc_tokens.specs.declared.token.Token.{Token}
use Rattle.phrase.specs.Piece.{has}
use Rattle.plc_tokens.specs.Sets.{NAME}
use Rattle.plc_tokens.specs.Sorts.{SYMBOLS, reserved_word, left_word, symbol_or, word_or, rank, sort_of, sort, kinds}
use Rattle.plc_tokens.specs.Tokens.{IsSorted}
use Rattle.plc_tokens.proofs.Ranks.{one_kind}

-- what is told of a kind: of a name, that it is a word which is not reserved
abbrev Told : Sort → Kind → Type 0
Told (Form form.Name) k = (word : List ℕ) × (k ≡ kind.Word word) × (reserved_word word ≡ None)
Told _ k = Unit {0}

of_word : (word : List ℕ) (r : Option Reserved) → reserved_word word ≡ r → Told (word_or r form.Name) (kind.Word word)
of_word word None h = (word, refl, h)
of_word word (Some w) h = tt

of_left : (word : List ℕ) (r : Option Reserved) → Told (word_or r form.Left) (kind.Left word)
of_left word None = tt
of_left word (Some w) = tt

of_symbol : (place : ℕ) (s : Option ASymbol) → Told (symbol_or s) (kind.Symbol place)
of_symbol place None = tt
of_symbol place (Some s) = tt

told : (k : Kind) → Told (sort_of k) k
told kind.End = tt
told (kind.Bad rule) = tt
told (kind.Left word) = of_left word (left_word word)
told (kind.Word word) = of_word word (reserved_word word) refl
told (kind.Number value None) = tt
told (kind.Number value (Some elem)) = tt
told (kind.Truth value) = tt
told (kind.Span ns) = tt
told (kind.Symbol place) = of_symbol place (slice_get SYMBOLS place)
told (kind.Address dir size numbers) = tt
told (kind.Include name) = tt

of_sort : (t : Token) (s : Sort) → IsSorted t → has rank (sort.of t) (kinds (s ∷ [])) ≡ true → Told s t.kind
of_sort t s tied h = subst (λ z. Told z t.kind) (sym tied ∙ one_kind t s h) (told t.kind)

-- a name is a word that is not reserved
pub kind_of_name : (t : Token) → IsSorted t → has rank (sort.of t) NAME ≡ true → (word : List ℕ) × (t.kind ≡ kind.Word word) × (reserved_word word ≡ None)
kind_of_name t tied h = of_sort t (Form form.Name) tied h
