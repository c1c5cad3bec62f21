-- The tokens of a text.
use Rattle.std.specs.Prelude.{ℕ, zero, suc, ◌+◌, ◌-◌, ◌^◌, ◌<◌, Bool, true, false, ◌||◌, ◌==◌, List, [], ◌∷◌, length, take, Some, None, if◌then◌else◌}
use Rattle.std.specs.List.{list_any}
use Rattle.plc_base.specs.declared.refusal.Place.{Place}
use Rattle.plc_base.specs.declared.refusal.Rule.TheVariants.{L2}
use Rattle.plc_base.specs.declared.kind.Kind.{Kind}
use Rattle.plc_base.specs.declared.kind.Kind.TheVariants.{End, Bad}
use Rattle.plc_tokens.specs.declared.token.Token.{Token}
pub use Rattle.plc_tokens.specs.Tokens.{start, ends, spot, bad, bad_only, cut}
use Rattle.plc_tokens.specs.Sorts.{sort_of}
use Rattle.plc_lex.specs.Comments.{opens, comment}
use Rattle.plc_spelling.specs.Spelling.{size, first_kind}
use Rattle.plc_spelling.specs.Text.{is_blank}

-- the place after a byte; only a line feed ends a line
abbrev pub past : ℕ → Place → Place
past b at = if b == 10 then record at { line = at.line + 1; col = 1 } else record at { col = at.col + 1 }

-- the place after these bytes
abbrev pub past_all : List ℕ → Place → Place
past_all [] at = at
past_all (b ∷ bs) at = past_all bs (past b at)

-- the numbers of a place stay in range over so many bytes
pub record HasRoom (at : Place) (bytes : ℕ) : Type 0 where
  pub line : at.line + bytes < 2 ^ 32
  pub col : at.col + bytes < 2 ^ 32
  pub token : at.token + bytes < 2 ^ 32

-- the place of a token that is one further in the list
abbrev pub numbered : Place → Place
numbered at = record at { token = at.token + 1 }

-- line and column of the last byte of a token of these bytes; what ends the list has its own
abbrev pub last_spot : Kind → List ℕ → Place → ℕ × ℕ
last_spot kind bytes at = if ends kind then spot at else spot (past_all (take (length bytes - 1) bytes) at)

-- a token of these bytes; its kind is classified here, once
abbrev pub token : Kind → List ℕ → Place → Bool → Token
token kind bytes at fresh = record { kind = kind; sort = sort_of kind; place = at; last = last_spot kind bytes at; fresh = fresh }

-- there is a line feed among these bytes
abbrev pub has_break : List ℕ → Bool
has_break bytes = list_any (λ b. b == 10) bytes

-- The tokens of the text that begins at a place. The next `skip` bytes are of a token or a comment that was told before; `fresh`: a line feed stands behind it.
unfoldable pub tokens_from : Bool → List ℕ → Place → Bool → ℕ → List Token
tokens_from nested [] at fresh skip = token End [] at fresh ∷ []
tokens_from nested (b ∷ bs) at fresh (suc skip) = tokens_from nested bs (past b at) fresh skip
tokens_from nested (b ∷ bs) at fresh zero = elim (is_blank b) [
  | true ↦ tokens_from nested bs (past b at) (fresh || (b == 10)) zero
  | false ↦ elim (opens (b ∷ bs)) [
    | true ↦ elim (comment nested (b ∷ bs)) [
      | None ↦ token (Bad L2) [] at fresh ∷ []
      | Some n ↦ tokens_from nested bs (past b at) (fresh || has_break (take n (b ∷ bs))) (n - 1)
    ]
    | false ↦ let n = size (b ∷ bs) in let kind = first_kind (b ∷ bs) in token kind (take n (b ∷ bs)) at fresh ∷ elim (ends kind) [
      | true ↦ []
      | false ↦ tokens_from nested bs (past b (numbered at)) false (n - 1)
    ]
  ]
]

-- the tokens of a file
unfoldable pub lexed : List ℕ → ℕ → Bool → List Token
lexed text file nested = tokens_from nested text (start file) false 0
