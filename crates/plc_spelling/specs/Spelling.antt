-- What stands at the front of a text: the longest spelling of a token of any form, and its kind (IEC 61131-3, 2.1 and 2.2).
use Rattle.std.specs.Prelude.{ℕ, Bool, List, [], ◌∷◌, take, None, if◌then◌else◌}
use Rattle.std.specs.List.{list_any}
use Rattle.plc_base.specs.declared.kind.Kind.{Kind}
use Rattle.plc_base.specs.declared.kind.Kind.TheVariants.{Left, End, Bad}
use Rattle.plc_base.specs.declared.refusal.Rule.TheVariants.{L1}
use Rattle.plc_spelling.specs.Text.{longest}
use Rattle.plc_spelling.specs.Words.{is_run, run_kind}
use Rattle.plc_spelling.specs.Integers.{is_integer, integer_kind}
use Rattle.plc_spelling.specs.Literals.{is_literal, literal_kind}
use Rattle.plc_spelling.specs.Addresses.{is_address, address_kind}
use Rattle.plc_spelling.specs.Marks.{is_symbol, symbol_kind, is_inclusion, inclusion_kind, is_mark, is_real}

-- The forms of tokens. What goes on wrongly is a spelling of its form too, and spells a token that is none.
pub data Form : Type 0 where
  -- letters, digits and underscores
  Run : Form
  -- digits, with a base before them or without
  Integer : Form
  -- a word and `#` before a number, a truth value or a duration, or of what is left out
  Literal : Form
  -- a percent sign, a direction, a size and numbers
  Address : Form
  Symbol : Form
  Inclusion : Form
  -- a number with a point, which is left out
  Real : Form
  -- another mark of what is left out
  Mark : Form

abbrev pub forms : List Form
forms = Run ∷ Integer ∷ Literal ∷ Address ∷ Symbol ∷ Inclusion ∷ Real ∷ Mark ∷ []

-- these bytes are a spelling of the form
abbrev pub passes : List ℕ → Form → Bool
passes bs Run = is_run bs
passes bs Integer = is_integer bs
passes bs Literal = is_literal bs
passes bs Address = is_address bs
passes bs Symbol = is_symbol bs
passes bs Inclusion = is_inclusion bs
passes bs Real = is_real bs
passes bs Mark = is_mark bs

-- what a spelling of the form spells
abbrev pub gives : List ℕ → Form → Kind
gives bs Run = run_kind bs
gives bs Integer = integer_kind None bs
gives bs Literal = literal_kind bs
gives bs Address = address_kind bs
gives bs Symbol = symbol_kind bs
gives bs Inclusion = inclusion_kind bs
gives bs Real = Left bs
gives bs Mark = Left bs

-- some form has these bytes
abbrev pub is_spelling : List ℕ → Bool
is_spelling bs = list_any (passes bs) forms

-- the kind of these bytes, by the form among these that has them
abbrev pub kind_among : List Form → List ℕ → Kind
kind_among [] bs = Bad L1
kind_among (f ∷ fs) bs = if passes bs f then gives bs f else kind_among fs bs

abbrev pub kind_of : List ℕ → Kind
kind_of bs = kind_among forms bs

-- how many bytes the longest spelling at the front has, 0 where there is none
unfoldable pub size : List ℕ → ℕ
size text = longest is_spelling text

-- the kind of the longest spelling at the front, or of a byte that begins none
abbrev pub first_kind : List ℕ → Kind
first_kind [] = End
first_kind (b ∷ bs) = kind_of (take (size (b ∷ bs)) (b ∷ bs))
