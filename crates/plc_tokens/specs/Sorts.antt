-- Sorts of tokens: what a grammar sees of them.
use Rattle.std.specs.Prelude.{ℕ, ◌+◌, Bool, true, false, ◌&&◌, if◌then◌else◌, List, [], ◌∷◌, slice_get, ℤ, pos, Option, Some, None, codes, bytes_eq}
use denote.Enum.Declared.{tag_of}
use Rattle.phrase.specs.Piece.{Sight}
use Rattle.plc_base.specs.declared.kind.Kind.{Kind}
use Rattle.plc_base.specs.declared.kind.Kind.TheVariants as kind
use Rattle.plc_tokens.specs.contracts.reserved.Reserved as reserved
use Rattle.plc_tokens.specs.contracts.sort.Form as forms
use Rattle.plc_tokens.specs.contracts.sort.Symbol as symbols
use Rattle.plc_tokens.specs.declared.reserved.Reserved.{Reserved}
use Rattle.plc_tokens.specs.declared.reserved.Reserved.TheVariants as word
use Rattle.plc_tokens.specs.declared.sort.Form.{Form as AForm}
use Rattle.plc_tokens.specs.declared.sort.Form.TheVariants as form
use Rattle.plc_tokens.specs.declared.sort.Seen.{Seen}
use Rattle.plc_tokens.specs.declared.sort.Sort.{Sort}
use Rattle.plc_tokens.specs.declared.sort.Sort.TheVariants.{Form, Symbol, Word}
use Rattle.plc_tokens.specs.declared.sort.Symbol.{Symbol as ASymbol}
use Rattle.plc_tokens.specs.declared.sort.Symbol.TheVariants as symbol
use Rattle.plc_tokens.specs.declared.token.Token.{Token}

-- ---- words

abbrev pub Words : Type 0
Words = List (List ℕ × Reserved)

-- The reserved words (IEC 61131-3, Annex C, as far as the grammar has them). The words that are operators of
-- Instruction List alone, the qualifiers of actions, and X and T are names.
abbrev pub RESERVED : Words
RESERVED =
    (codes "TYPE", word.Type) ∷
    (codes "END_TYPE", word.EndType) ∷
    (codes "STRUCT", word.Struct) ∷
    (codes "END_STRUCT", word.EndStruct) ∷
    (codes "ARRAY", word.Array) ∷
    (codes "OF", word.Of) ∷
    (codes "FUNCTION", word.Function) ∷
    (codes "END_FUNCTION", word.EndFunction) ∷
    (codes "FUNCTION_BLOCK", word.FunctionBlock) ∷
    (codes "END_FUNCTION_BLOCK", word.EndFunctionBlock) ∷
    (codes "PROGRAM", word.Program) ∷
    (codes "END_PROGRAM", word.EndProgram) ∷
    (codes "VAR", word.Var) ∷
    (codes "VAR_INPUT", word.VarInput) ∷
    (codes "VAR_OUTPUT", word.VarOutput) ∷
    (codes "VAR_IN_OUT", word.VarInOut) ∷
    (codes "VAR_EXTERNAL", word.VarExternal) ∷
    (codes "VAR_GLOBAL", word.VarGlobal) ∷
    (codes "END_VAR", word.EndVar) ∷
    (codes "CONSTANT", word.Constant) ∷
    (codes "AT", word.At) ∷
    (codes "CONFIGURATION", word.Configuration) ∷
    (codes "END_CONFIGURATION", word.EndConfiguration) ∷
    (codes "RESOURCE", word.Resource) ∷
    (codes "END_RESOURCE", word.EndResource) ∷
    (codes "ON", word.On) ∷
    (codes "TASK", word.Task) ∷
    (codes "INTERVAL", word.Interval) ∷
    (codes "PRIORITY", word.Priority) ∷
    (codes "WITH", word.With) ∷
    (codes "IF", word.If) ∷
    (codes "THEN", word.Then) ∷
    (codes "ELSIF", word.Elsif) ∷
    (codes "ELSE", word.Else) ∷
    (codes "END_IF", word.EndIf) ∷
    (codes "CASE", word.Case) ∷
    (codes "END_CASE", word.EndCase) ∷
    (codes "FOR", word.For) ∷
    (codes "TO", word.To) ∷
    (codes "BY", word.By) ∷
    (codes "DO", word.Do) ∷
    (codes "END_FOR", word.EndFor) ∷
    (codes "WHILE", word.While) ∷
    (codes "END_WHILE", word.EndWhile) ∷
    (codes "REPEAT", word.Repeat) ∷
    (codes "UNTIL", word.Until) ∷
    (codes "END_REPEAT", word.EndRepeat) ∷
    (codes "EXIT", word.Exit) ∷
    (codes "RETURN", word.Return) ∷
    (codes "INITIAL_STEP", word.InitialStep) ∷
    (codes "STEP", word.Step) ∷
    (codes "END_STEP", word.EndStep) ∷
    (codes "TRANSITION", word.Transition) ∷
    (codes "FROM", word.From) ∷
    (codes "END_TRANSITION", word.EndTransition) ∷
    (codes "ACTION", word.Action) ∷
    (codes "END_ACTION", word.EndAction) ∷
    (codes "SINT", word.Sint) ∷
    (codes "INT", word.Int) ∷
    (codes "DINT", word.Dint) ∷
    (codes "LINT", word.Lint) ∷
    (codes "USINT", word.Usint) ∷
    (codes "UINT", word.Uint) ∷
    (codes "UDINT", word.Udint) ∷
    (codes "ULINT", word.Ulint) ∷
    (codes "BYTE", word.Byte) ∷
    (codes "WORD", word.Word) ∷
    (codes "DWORD", word.Dword) ∷
    (codes "LWORD", word.Lword) ∷
    (codes "BOOL", word.Bool) ∷
    (codes "TIME", word.Time) ∷
    (codes "AND", word.And) ∷
    (codes "OR", word.Or) ∷
    (codes "XOR", word.Xor) ∷
    (codes "NOT", word.Not) ∷
    (codes "MOD", word.Mod) ∷
    (codes "TRUE", word.True) ∷
    (codes "FALSE", word.False) ∷
    []

-- the words among what the profile leaves out
abbrev pub LEFT : Words
LEFT = (codes "RETAIN", word.Retain) ∷ (codes "NON_RETAIN", word.NonRetain) ∷ []

-- what a table has for a word
abbrev pub find : Words → List ℕ → Option Reserved
find [] word = None
find (row ∷ rows) word = if bytes_eq row.0 word then Some row.1 else find rows word

unfoldable pub reserved_word : List ℕ → Option Reserved
reserved_word = find RESERVED

unfoldable pub left_word : List ℕ → Option Reserved
left_word = find LEFT

-- ---- symbols

-- the symbols by their places
abbrev pub SYMBOLS : List ASymbol
SYMBOLS = symbol.Assign ∷ symbol.Arrow ∷ symbol.Unequal ∷ symbol.AtMost ∷ symbol.AtLeast ∷ symbol.Range ∷ symbol.LeftParenthesis ∷ symbol.RightParenthesis ∷ symbol.LeftBracket ∷ symbol.RightBracket ∷ symbol.Comma ∷ symbol.Semicolon ∷ symbol.Colon ∷ symbol.Dot ∷ symbol.Plus ∷ symbol.Minus ∷ symbol.Times ∷ symbol.Divided ∷ symbol.Ampersand ∷ symbol.Equal ∷ symbol.Below ∷ symbol.Above ∷ symbol.Hash ∷ []

abbrev pub symbol_or : Option ASymbol → Sort
symbol_or None = Form form.Bad
symbol_or (Some symbol) = Symbol symbol

abbrev pub symbol_at : ℕ → Sort
symbol_at place = symbol_or (slice_get SYMBOLS place)

-- ---- sorts

abbrev pub word_or : Option Reserved → AForm → Sort
word_or None form = Form form
word_or (Some word) form = Word word

-- the sort of a kind; an integer with a type before it has a sort of its own
abbrev pub sort_of : Kind → Sort
sort_of kind.End = Form form.End
sort_of (kind.Bad rule) = Form form.Bad
sort_of (kind.Left word) = word_or (left_word word) form.Left
sort_of (kind.Word word) = word_or (reserved_word word) form.Name
sort_of (kind.Number value None) = Form form.Integer
sort_of (kind.Number value (Some elem)) = Form form.Typed
sort_of (kind.Truth value) = Form form.Truth
sort_of (kind.Span ns) = Form form.Span
sort_of (kind.Symbol place) = symbol_at place
sort_of (kind.Address dir size numbers) = Form form.Address
sort_of (kind.Include name) = Form form.Include

-- a number that tells a sort, by the place of its variant
abbrev pub rank_of : Sort → ℕ
rank_of (Form form) = tag_of forms.the_type form
rank_of (Symbol symbol) = tag_of symbols.the_type symbol + 64
rank_of (Word word) = tag_of reserved.the_type word + 128

-- and whether a line break that has a meaning stands before the token
abbrev pub rank : Seen → ℕ
rank seen = if seen.fresh then rank_of seen.sort + 512 else rank_of seen.sort

-- ---- what a grammar sees

-- of a token, where line breaks have a meaning and where they have none
abbrev pub seen_in : Bool → Token → Seen
seen_in line t = record { sort = t.sort; fresh = line && t.fresh }

abbrev pub sort_in : Bool → Sight Token Seen
sort_in line = record { of = seen_in line; rank = rank }

-- where line breaks have no meaning
abbrev pub sort : Sight Token Seen
sort = sort_in false

abbrev pub plain : Sort → Seen
plain s = record { sort = s; fresh = false }

-- tokens of these sorts, with no line break before or none that has a meaning
abbrev pub kinds : List Sort → List Seen
kinds [] = []
kinds (s ∷ ss) = plain s ∷ kinds ss

-- and with a line break before or none
abbrev pub wherever : List Sort → List Seen
wherever [] = []
wherever (s ∷ ss) = plain s ∷ record { sort = s; fresh = true } ∷ wherever ss

-- ---- what a token gives

-- to a tree: a name, an integer, a truth value, a duration in nanoseconds
abbrev pub name_of : Kind → List ℕ
name_of (kind.Word word) = word
name_of _ = []

abbrev pub number_of : Kind → ℤ
number_of (kind.Number value want) = value
number_of _ = pos 0

abbrev pub truth_of : Kind → Bool
truth_of (kind.Truth value) = value
truth_of _ = false

abbrev pub span_of : Kind → ℤ
span_of (kind.Span ns) = ns
span_of _ = pos 0

-- the next of some tokens
abbrev pub first_of : List Token → Option Token
first_of [] = None
first_of (t ∷ s) = Some t
