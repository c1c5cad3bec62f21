-- How `print` sets the tokens of a text: each close to its neighbours, between two spaces, or at the end of a line.
use Rattle.std.specs.Prelude.{ℕ, Bool, true, false, not, nat_le, ◌&&◌, IsTrue, List, [], ◌∷◌, ◌++◌}
use Rattle.c_tree.specs.declared.sign.Sign.{Sign}
use Rattle.c_tree.specs.CTokens.{CTok, Include, Word, Number, Mark, Unfit, Stray, spelled, sign_text, IsName, IsOfKind}

-- a token and how it is set
pub data Piece : Type 0 where
  Close : CTok → Piece
  Spaced : Sign → Piece
  Ending : Sign → Piece

abbrev pub token : Piece → CTok
token (Close t) = t
token (Spaced s) = Mark s
token (Ending s) = Mark s

-- whether a token begins and ends with a letter, a digit or _
abbrev pub is_wordy : CTok → Bool
is_wordy (Word bytes) = true
is_wordy (Number value kind) = true
is_wordy Include = false
is_wordy (Mark s) = false
is_wordy (Unfit bytes) = true
is_wordy (Stray b) = false

-- one space between two tokens that both begin or end there with a letter, a digit or _
abbrev pub gap : Bool → Bool → List ℕ
gap true true = 32 ∷ []
gap true false = []
gap false wordy = []

-- a piece where what stands before it ends so
abbrev pub piece_text : Bool → Piece → List ℕ
piece_text wordy (Close t) = gap wordy (is_wordy t) ++ spelled t
piece_text wordy (Spaced s) = 32 ∷ sign_text s ++ 32 ∷ []
piece_text wordy (Ending s) = sign_text s ++ 10 ∷ []

-- whether a letter, a digit or _ stands last after it
abbrev pub ends_wordy : Piece → Bool
ends_wordy (Close t) = is_wordy t
ends_wordy (Spaced s) = false
ends_wordy (Ending s) = false

unfoldable pub laid_after : Bool → List Piece → List ℕ
laid_after wordy [] = []
laid_after wordy (p ∷ pieces) = piece_text wordy p ++ laid_after (ends_wordy p) pieces

-- the text of these pieces
abbrev pub laid : List Piece → List ℕ
laid pieces = laid_after false pieces

-- ---- a text that grows

pub record Written : Type 0 where
  pub text : List ℕ
  pub wordy : Bool

unfoldable pub put : Written → Piece → Written
put w p = record { text = w.text ++ piece_text w.wordy p; wordy = ends_wordy p }

-- with these pieces behind it
unfoldable pub put_all : Written → List Piece → Written
put_all w [] = w
put_all w (p ∷ pieces) = put_all (put w p) pieces

-- ---- which pieces are told apart in a text

-- whether no sign goes on with the sign's first byte, that is none of < = >
abbrev pub starts_anew : List ℕ → Bool
starts_anew [] = true
starts_anew (b ∷ rest) = not (nat_le 60 b && nat_le b 62)

abbrev pub IsWellSet : Piece → Type 0
IsWellSet (Close (Word bytes)) = IsName bytes
IsWellSet (Close (Number value kind)) = IsOfKind value kind
IsWellSet (Close (Mark s)) = IsTrue (starts_anew (sign_text s))
IsWellSet (Close Include) = IsTrue false
IsWellSet (Close (Unfit bytes)) = IsTrue false
IsWellSet (Close (Stray b)) = IsTrue false
IsWellSet (Spaced s) = IsTrue true
IsWellSet (Ending s) = IsTrue (starts_anew (sign_text s))
