-- The names that tokens carry.
use Rattle.std.specs.Prelude.{◌≡◌, ℕ, ◌<◌, ◌≤◌, true, false, List, [], ◌∷◌, length, get_or}
use Rattle.std.specs.Char.{is_ascii_digit}
use Rattle.std.specs.List.{list_all}
use Rattle.plc_base.specs.declared.kind.Kind.{Kind}
use Rattle.plc_base.specs.declared.kind.Kind.TheVariants.{Word, Number, Truth, Span, Address, Symbol, Include, Left, End, Bad}
use Rattle.plc_tokens.specs.declared.token.Token.{Token}
pub use Rattle.plc_tokens.specs.Tokens.{AreSorted}
use Rattle.plc_spelling.specs.Words.{is_word_byte, underscores_alone, capitals}

-- a word in capitals
pub record IsName (name : List ℕ) : Type 0 where
  pub some : 0 < length name
  pub most : length name ≤ 64
  pub alone : underscores_alone name ≡ true
  pub bytes : list_all is_word_byte name ≡ true
  pub no_digit : is_ascii_digit (get_or name 0 0) ≡ false
  pub capitals : capitals name ≡ name

-- a word's name; a token of what is left out has its bytes in capitals
abbrev pub HasName : Kind → Type 0
HasName (Word name) = IsName name
HasName (Left name) = capitals name ≡ name
HasName (Address dir size numbers) = Unit {0}
HasName (Include name) = Unit {0}
HasName (Number value want) = Unit {0}
HasName (Truth value) = Unit {0}
HasName (Span value) = Unit {0}
HasName (Symbol number) = Unit {0}
HasName End = Unit {0}
HasName (Bad rule) = Unit {0}

-- each of these tokens that has a word has one in capitals
abbrev pub HaveNames : List Token → Type 0
HaveNames [] = Unit {0}
HaveNames (t ∷ ts) = HasName t.kind × HaveNames ts
