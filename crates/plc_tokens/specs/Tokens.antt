-- The tokens of a source, as a list.
use Rattle.std.specs.Prelude.{◌≡◌, ℕ, zero, suc, Bool, true, false, List, [], ◌∷◌, ◌++◌, ◌⊎◌}
use Rattle.plc_base.specs.declared.refusal.Place.{Place}
use Rattle.plc_base.specs.declared.refusal.Rule.{Rule}
use Rattle.plc_base.specs.declared.kind.Kind.{Kind}
use Rattle.plc_base.specs.declared.kind.Kind.TheVariants.{Word, Number, Truth, Span, Address, Symbol, Include, Left, End, Bad}
use Rattle.plc_tokens.specs.declared.token.Token.{Token}
use Rattle.plc_tokens.specs.declared.reserved.Reserved.TheVariants as word
use Rattle.plc_tokens.specs.declared.sort.Form.TheVariants as form
use Rattle.plc_tokens.specs.declared.sort.Sort.{Sort}
use Rattle.plc_tokens.specs.declared.sort.Sort.TheVariants as sort
use Rattle.plc_tokens.specs.Sorts.{sort_of}

-- where a file begins
abbrev pub start : ℕ → Place
start file = record { file = file; line = 1; col = 1; token = 0 }

-- the sort of a token is that of its kind
abbrev pub IsSorted : Token → Type 0
IsSorted t = t.sort ≡ sort_of t.kind

abbrev pub AreSorted : List Token → Type 0
AreSorted [] = Unit {0}
AreSorted (t ∷ ts) = IsSorted t × AreSorted ts

-- the end of a list, by its kind and by its sort
abbrev pub ends : Kind → Bool
ends End = true
ends (Bad rule) = true
ends (Word name) = false
ends (Number value want) = false
ends (Truth value) = false
ends (Span value) = false
ends (Address dir size numbers) = false
ends (Symbol number) = false
ends (Include name) = false
ends (Left name) = false

abbrev pub is_last : Sort → Bool
is_last (sort.Form form.End) = true
is_last (sort.Form form.Bad) = true
is_last _ = false

-- a list that has an end, and no token behind it
pub record IsClosed (s : List Token) : Type 0 where
  pub tokens : List Token
  pub last : Token
  pub all : s ≡ tokens ++ last ∷ []
  pub ends : is_last last.sort ≡ true

-- the end, a bad token, or one that is left out of the language
abbrev pub stops : Sort → Bool
stops (sort.Form form.End) = true
stops (sort.Form form.Bad) = true
stops (sort.Form form.Left) = true
stops (sort.Word word.Retain) = true
stops (sort.Word word.NonRetain) = true
stops _ = false

-- none of these tokens is one of them
abbrev pub AllKept : List Token → Type 0
AllKept [] = Unit {0}
AllKept (t ∷ w) = (stops t.sort ≡ false) × AllKept w

-- the words that say whether variables keep their values, which are left out but where a section begins
abbrev pub retains : Sort → Bool
retains (sort.Word word.Retain) = true
retains (sort.Word word.NonRetain) = true
retains _ = false

-- the words of the sections that may have one of them
abbrev pub can_retain : Sort → Bool
can_retain (sort.Word word.VarInput) = true
can_retain (sort.Word word.VarOutput) = true
can_retain (sort.Word word.Var) = true
can_retain (sort.Word word.VarGlobal) = true
can_retain _ = false

-- none of these tokens is the end, bad, or left out, but for one of those words right behind a section's first word;
-- whether such a word stands before them
abbrev pub InPlaceBehind : Bool → List Token → Type 0
InPlaceBehind can [] = Unit {0}
InPlaceBehind can (t ∷ w) = ((stops t.sort ≡ false) ⊎ ((can ≡ true) × (retains t.sort ≡ true))) × InPlaceBehind (can_retain t.sort) w

abbrev pub AllInPlace : List Token → Type 0
AllInPlace w = InPlaceBehind false w

-- line and column of a place
abbrev pub spot : Place → ℕ × ℕ
spot at = (at.line, at.col)

-- a token that is none
abbrev pub bad : Rule → Place → Bool → Token
bad rule at fresh = record { kind = Bad rule; sort = sort.Form form.Bad; place = at; last = spot at; fresh = fresh }

-- the token of a file of which no byte is looked at
abbrev pub bad_only : ℕ → Rule → List Token
bad_only file rule = bad rule (start file) false ∷ []

-- the list that ends at its i-th token, which is none
abbrev pub cut : List Token → ℕ → Rule → List Token
cut [] i rule = []
cut (t ∷ ts) zero rule = bad rule t.place t.fresh ∷ []
cut (t ∷ ts) (suc i) rule = t ∷ cut ts i rule
