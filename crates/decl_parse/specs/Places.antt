-- Where a source of the whole language can go on with a token that no source has there whose productions are built: at
-- the first or the second token of a body that is an instruction list, and at the first token of a chart. And the rule
-- of a token with which no source goes on whose productions are built.
use Rattle.std.specs.Prelude.{ℕ, Bool, false, ◌&&◌, ◌||◌, not, nat_le, codes, if◌then◌else◌, List, [], ◌∷◌, length, drop, Option, Some, None, is_some}
use Rattle.std.specs.List.{list_any}
use Rattle.std.specs.Option.{option_or}
use Rattle.std.specs.Str.{bytes_eq}
use Rattle.plc_base.specs.declared.kind.Kind.{Kind}
use Rattle.plc_base.specs.declared.kind.Kind.TheVariants.{Word, Number, Truth, Span, Address, Symbol, Include, Left, End, Bad}
use Rattle.plc_tokens.specs.declared.token.Token.{Token}
use Rattle.plc_base.specs.declared.refusal.Rule.{Rule}
use Rattle.plc_base.specs.declared.refusal.Rule.TheVariants.{G1, U1, NotYet}
use Rattle.phrase.specs.Piece.{has}
use Rattle.plc_tokens.specs.Sorts.{rank, sort, kinds, name_of}
use Rattle.plc_tokens.specs.Sets.{NAME, END_VAR, COLON, FUNCTION, END_FUNCTION, FUNCTION_BLOCK, END_FUNCTION_BLOCK, END_PROGRAM, UNIT, CONFIGURATION}
use Rattle.plc_tokens.specs.declared.reserved.Reserved.TheVariants as word
use Rattle.plc_tokens.specs.declared.sort.Form.TheVariants as form
use Rattle.plc_tokens.specs.declared.sort.Seen.{Seen}
use Rattle.plc_tokens.specs.declared.sort.Symbol.TheVariants as symbol
use Rattle.plc_tokens.specs.declared.sort.Sort.TheVariants.{Form, Symbol, Word}

-- ---- sorts

-- the reserved words that begin an instruction and no statement
abbrev pub FIRST_INSTRUCTION : List Seen
FIRST_INSTRUCTION = kinds (Word word.And ∷ Word word.Or ∷ Word word.Xor ∷ Word word.Not ∷ Word word.Mod ∷ [])

-- what begins a chart
abbrev pub FIRST_CHART : List Seen
FIRST_CHART = kinds (Word word.InitialStep ∷ [])

-- what begins the operand of an instruction
abbrev pub OPERAND_FIRST : List Seen
OPERAND_FIRST = kinds (Symbol symbol.Minus ∷ Form form.Integer ∷ Form form.Typed ∷ Form form.Truth ∷ Form form.Span ∷ Form form.Name ∷ [])

-- what begins an instruction that is not the first
abbrev pub LINE_FIRST : List Seen
LINE_FIRST = kinds (Form form.Name ∷ Word word.And ∷ Word word.Or ∷ Word word.Xor ∷ Word word.Not ∷ Word word.Mod ∷ Symbol symbol.Ampersand ∷ [])

-- what bounds the places where a body stands: the words that begin and end a program organisation unit and its
-- sections, and that end a configuration
abbrev pub BOUNDS : List Seen
BOUNDS = kinds (Word word.Function ∷ Word word.FunctionBlock ∷ Word word.Program ∷ Word word.EndFunction ∷ Word word.EndFunctionBlock ∷ Word word.EndProgram ∷ Word word.VarInput ∷ Word word.VarOutput ∷ Word word.VarInOut ∷ Word word.Var ∷ Word word.VarExternal ∷ Word word.EndVar ∷ Word word.EndConfiguration ∷ [])

-- the words that begin and end a configuration
abbrev pub CONFIGURATIONS : List Seen
CONFIGURATIONS = kinds (Word word.Configuration ∷ Word word.EndConfiguration ∷ [])

-- ---- bodies

-- a token is of these sorts
abbrev pub is_of : Token → List Seen → Bool
is_of t ks = has rank (sort.of t) ks

-- a token, and those behind it
abbrev pub Split : Type 0
Split = Token × List Token

-- the last of the tokens that is of these sorts
abbrev pub last_of : List Seen → List Token → Option Split
last_of ks [] = None
last_of ks (t ∷ tokens) = option_or (last_of ks tokens) (if is_of t ks then Some (t, tokens) else None)

-- behind these tokens a configuration stands open
abbrev pub opens_configuration : Option Split → Bool
opens_configuration None = false
opens_configuration (Some x) = is_of x.0 CONFIGURATION

abbrev pub in_configuration : List Token → Bool
in_configuration before = opens_configuration (last_of CONFIGURATIONS before)

-- how many tokens stand between the first word of a program organisation unit and its sections: the name, and of a
-- function ":" and a type
abbrev pub header : Token → ℕ
header t = if is_of t FUNCTION then 3 else 1

-- the first word of the unit, and what stands of its body, where no section stands before
abbrev pub behind_header : Token → List Token → Option Split
behind_header t tokens = if nat_le (header t) (length tokens) then Some (t, drop (header t) tokens) else None

-- the same where a section stands before
abbrev pub with_word : List Token → Option Split → Option Split
with_word tokens None = None
with_word tokens (Some x) = Some (x.0, tokens)

abbrev pub behind_bound : List Token → Option Split → Option Split
behind_bound before None = None
behind_bound before (Some x) =
    if is_of x.0 END_VAR then with_word x.1 (last_of UNIT before)
    else (if is_of x.0 UNIT then behind_header x.0 x.1 else None)

-- where a body stands or can begin behind these tokens, the first word of its unit, and what stands of the body
abbrev pub body_behind : List Token → Option Split
body_behind before = if in_configuration before then None else behind_bound before (last_of BOUNDS before)

-- ---- a body that begins as an instruction list (IEC 61131-3, Annex B.2): its first word, which may be a name too

abbrev pub LOADS : List (List ℕ)
LOADS = codes "LD" ∷ codes "LDN" ∷ codes "ANDN" ∷ codes "ORN" ∷ codes "XORN" ∷ codes "ADD" ∷ codes "SUB" ∷ codes "MUL" ∷ codes "DIV" ∷ codes "GT" ∷ codes "GE" ∷ codes "EQ" ∷ codes "NE" ∷ codes "LE" ∷ codes "LT" ∷ []

abbrev pub NAMING : List (List ℕ)
NAMING = codes "ST" ∷ codes "STN" ∷ codes "S" ∷ codes "R" ∷ codes "JMP" ∷ codes "JMPC" ∷ codes "JMPCN" ∷ codes "CAL" ∷ codes "CALC" ∷ codes "CALCN" ∷ []

abbrev pub RETURNS : List (List ℕ)
RETURNS = codes "RET" ∷ codes "RETC" ∷ codes "RETCN" ∷ []

abbrev pub is_among : List (List ℕ) → List ℕ → Bool
is_among words word = list_any (λ w. bytes_eq w word) words

-- the word that ends a program organisation unit, by its first
abbrev pub end_of : Token → List Seen
end_of t = if is_of t FUNCTION then END_FUNCTION else (if is_of t FUNCTION_BLOCK then END_FUNCTION_BLOCK else END_PROGRAM)

-- an operator with an operand, or with a name, stands on the line of that; a name that is no operator and ":" is a label
abbrev pub goes_on_list : Token → List ℕ → Token → Bool
goes_on_list unit word t =
    if is_among LOADS word then not t.fresh && is_of t OPERAND_FIRST
    else (if is_among NAMING word then not t.fresh && is_of t NAME
    else (if is_among RETURNS word then (t.fresh && is_of t LINE_FIRST) || is_of t (end_of unit)
    else is_of t COLON))

-- a token with which a body begins that is an instruction list or a chart; a function has no chart
abbrev pub begins_later : Token → Token → Bool
begins_later unit t = is_of t FIRST_INSTRUCTION || (not (is_of unit FUNCTION) && is_of t FIRST_CHART)

-- or goes on
abbrev pub goes_on_later : Token → List Token → Token → Bool
goes_on_later unit [] t = begins_later unit t
goes_on_later unit (a ∷ []) t = is_of a NAME && goes_on_list unit (name_of a.kind) t
goes_on_later unit (a ∷ b ∷ tokens) t = false

abbrev pub later_in : Option Split → Token → Bool
later_in None t = false
later_in (Some x) t = goes_on_later x.0 x.1 t

-- ---- the rule at the front

-- the rule of an address
abbrev pub address_rule : List Token → Rule
address_rule before = if is_some (body_behind before) then U1 else G1

-- the rule of a token that the language has
abbrev pub rule_by_place : List Token → Token → Rule
rule_by_place before t = if later_in (body_behind before) t then NotYet else G1

-- the rule of a token behind some others with which no source goes on whose productions are built
abbrev pub rule_behind : List Token → Token → Kind → Rule
rule_behind before t (Bad rule) = rule
rule_behind before t (Left word) = U1
rule_behind before t (Include name) = NotYet
rule_behind before t (Address dir size numbers) = address_rule before
rule_behind before t (Word word) = rule_by_place before t
rule_behind before t (Number value want) = rule_by_place before t
rule_behind before t (Truth value) = rule_by_place before t
rule_behind before t (Span ns) = rule_by_place before t
rule_behind before t (Symbol place) = rule_by_place before t
rule_behind before t End = rule_by_place before t
