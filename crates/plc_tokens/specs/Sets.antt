-- The sets of sorts that productions name: a form of token, a reserved word, a symbol, where line breaks have no meaning.
use Rattle.std.specs.Prelude.{List, [], ◌∷◌}
use Rattle.plc_tokens.specs.declared.reserved.Reserved.TheVariants as word
use Rattle.plc_tokens.specs.declared.sort.Form.TheVariants as form
use Rattle.plc_tokens.specs.declared.sort.Seen.{Seen}
use Rattle.plc_tokens.specs.declared.sort.Sort.TheVariants.{Form, Symbol, Word}
use Rattle.plc_tokens.specs.declared.sort.Symbol.TheVariants as symbol
use Rattle.plc_tokens.specs.Sorts.{kinds, wherever}

-- the end of the source
abbrev pub END : List Seen
END = kinds (Form form.End ∷ [])

-- a name
abbrev pub NAME : List Seen
NAME = kinds (Form form.Name ∷ [])

-- an integer without a type before it
abbrev pub INTEGER : List Seen
INTEGER = kinds (Form form.Integer ∷ [])

-- an integer with a type before it
abbrev pub TYPED : List Seen
TYPED = kinds (Form form.Typed ∷ [])

-- either of them
abbrev pub NUMBER : List Seen
NUMBER = kinds (Form form.Integer ∷ Form form.Typed ∷ [])

-- TRUE or FALSE
abbrev pub TRUTH : List Seen
TRUTH = kinds (Form form.Truth ∷ [])

-- a duration
abbrev pub SPAN : List Seen
SPAN = kinds (Form form.Span ∷ [])

-- the symbol `:=`
abbrev pub ASSIGN : List Seen
ASSIGN = kinds (Symbol symbol.Assign ∷ [])

-- the symbol `=>`
abbrev pub ARROW : List Seen
ARROW = kinds (Symbol symbol.Arrow ∷ [])

-- the symbol `..`
abbrev pub RANGE : List Seen
RANGE = kinds (Symbol symbol.Range ∷ [])

-- the symbol `(`
abbrev pub LPAREN : List Seen
LPAREN = kinds (Symbol symbol.LeftParenthesis ∷ [])

-- the symbol `)`
abbrev pub RPAREN : List Seen
RPAREN = kinds (Symbol symbol.RightParenthesis ∷ [])

-- the symbol `[`
abbrev pub LBRACKET : List Seen
LBRACKET = kinds (Symbol symbol.LeftBracket ∷ [])

-- the symbol `]`
abbrev pub RBRACKET : List Seen
RBRACKET = kinds (Symbol symbol.RightBracket ∷ [])

-- the symbol `,`
abbrev pub COMMA : List Seen
COMMA = kinds (Symbol symbol.Comma ∷ [])

-- the symbol `;`
abbrev pub SEMI : List Seen
SEMI = kinds (Symbol symbol.Semicolon ∷ [])

-- the symbol `:`
abbrev pub COLON : List Seen
COLON = kinds (Symbol symbol.Colon ∷ [])

-- the symbol `.`
abbrev pub DOT : List Seen
DOT = kinds (Symbol symbol.Dot ∷ [])

-- the symbol `+`
abbrev pub PLUS : List Seen
PLUS = kinds (Symbol symbol.Plus ∷ [])

-- the symbol `-`
abbrev pub MINUS : List Seen
MINUS = kinds (Symbol symbol.Minus ∷ [])

-- the symbol `+` or `-`
abbrev pub SIGN : List Seen
SIGN = kinds (Symbol symbol.Plus ∷ Symbol symbol.Minus ∷ [])

-- the symbol `=`
abbrev pub EQUAL : List Seen
EQUAL = kinds (Symbol symbol.Equal ∷ [])

-- the symbol `#`
abbrev pub HASH : List Seen
HASH = kinds (Symbol symbol.Hash ∷ [])

-- the word OF
abbrev pub OF : List Seen
OF = kinds (Word word.Of ∷ [])

-- the word PROGRAM
abbrev pub PROGRAM : List Seen
PROGRAM = kinds (Word word.Program ∷ [])

-- the word END_PROGRAM
abbrev pub END_PROGRAM : List Seen
END_PROGRAM = kinds (Word word.EndProgram ∷ [])

-- the word VAR
abbrev pub VAR : List Seen
VAR = kinds (Word word.Var ∷ [])

-- the word END_VAR
abbrev pub END_VAR : List Seen
END_VAR = kinds (Word word.EndVar ∷ [])

-- the word CONFIGURATION
abbrev pub CONFIGURATION : List Seen
CONFIGURATION = kinds (Word word.Configuration ∷ [])

-- the word END_CONFIGURATION
abbrev pub END_CONFIGURATION : List Seen
END_CONFIGURATION = kinds (Word word.EndConfiguration ∷ [])

-- the word RESOURCE
abbrev pub RESOURCE : List Seen
RESOURCE = kinds (Word word.Resource ∷ [])

-- the word END_RESOURCE
abbrev pub END_RESOURCE : List Seen
END_RESOURCE = kinds (Word word.EndResource ∷ [])

-- the word ON
abbrev pub ON : List Seen
ON = kinds (Word word.On ∷ [])

-- the word TASK
abbrev pub TASK : List Seen
TASK = kinds (Word word.Task ∷ [])

-- the word INTERVAL
abbrev pub INTERVAL : List Seen
INTERVAL = kinds (Word word.Interval ∷ [])

-- the word PRIORITY
abbrev pub PRIORITY : List Seen
PRIORITY = kinds (Word word.Priority ∷ [])

-- the word WITH
abbrev pub WITH : List Seen
WITH = kinds (Word word.With ∷ [])

-- the word IF
abbrev pub IF : List Seen
IF = kinds (Word word.If ∷ [])

-- the word THEN
abbrev pub THEN : List Seen
THEN = kinds (Word word.Then ∷ [])

-- the word ELSIF
abbrev pub ELSIF : List Seen
ELSIF = kinds (Word word.Elsif ∷ [])

-- the word ELSE
abbrev pub ELSE : List Seen
ELSE = kinds (Word word.Else ∷ [])

-- the word END_IF
abbrev pub END_IF : List Seen
END_IF = kinds (Word word.EndIf ∷ [])

-- the word CASE
abbrev pub CASE : List Seen
CASE = kinds (Word word.Case ∷ [])

-- the word END_CASE
abbrev pub END_CASE : List Seen
END_CASE = kinds (Word word.EndCase ∷ [])

-- the word FOR
abbrev pub FOR : List Seen
FOR = kinds (Word word.For ∷ [])

-- the word TO
abbrev pub TO : List Seen
TO = kinds (Word word.To ∷ [])

-- the word BY
abbrev pub BY : List Seen
BY = kinds (Word word.By ∷ [])

-- the word DO
abbrev pub DO : List Seen
DO = kinds (Word word.Do ∷ [])

-- the word END_FOR
abbrev pub END_FOR : List Seen
END_FOR = kinds (Word word.EndFor ∷ [])

-- the word WHILE
abbrev pub WHILE : List Seen
WHILE = kinds (Word word.While ∷ [])

-- the word END_WHILE
abbrev pub END_WHILE : List Seen
END_WHILE = kinds (Word word.EndWhile ∷ [])

-- the word REPEAT
abbrev pub REPEAT : List Seen
REPEAT = kinds (Word word.Repeat ∷ [])

-- the word UNTIL
abbrev pub UNTIL : List Seen
UNTIL = kinds (Word word.Until ∷ [])

-- the word END_REPEAT
abbrev pub END_REPEAT : List Seen
END_REPEAT = kinds (Word word.EndRepeat ∷ [])

-- the word EXIT
abbrev pub EXIT : List Seen
EXIT = kinds (Word word.Exit ∷ [])

-- the word RETURN
abbrev pub RETURN : List Seen
RETURN = kinds (Word word.Return ∷ [])

-- the word NOT
abbrev pub NOT : List Seen
NOT = kinds (Word word.Not ∷ [])

-- the operator OR
abbrev pub OR : List Seen
OR = kinds (Word word.Or ∷ [])

-- the operator XOR
abbrev pub XOR : List Seen
XOR = kinds (Word word.Xor ∷ [])

-- the operators `&` and AND
abbrev pub AND : List Seen
AND = kinds (Symbol symbol.Ampersand ∷ Word word.And ∷ [])

-- the operators `=` and `<>`
abbrev pub EQUALITY : List Seen
EQUALITY = kinds (Symbol symbol.Equal ∷ Symbol symbol.Unequal ∷ [])

-- the operators `<`, `>`, `<=` and `>=`
abbrev pub COMPARISON : List Seen
COMPARISON = kinds (Symbol symbol.Below ∷ Symbol symbol.Above ∷ Symbol symbol.AtMost ∷ Symbol symbol.AtLeast ∷ [])

-- the operators `*`, `/` and MOD
abbrev pub PRODUCT : List Seen
PRODUCT = kinds (Symbol symbol.Times ∷ Symbol symbol.Divided ∷ Word word.Mod ∷ [])

-- the operators that are called as functions too
abbrev pub OPERATION : List Seen
OPERATION = kinds (Word word.And ∷ Word word.Or ∷ Word word.Xor ∷ Word word.Mod ∷ [])

-- what follows the name of an argument
abbrev pub NAMED : List Seen
NAMED = kinds (Symbol symbol.Assign ∷ Symbol symbol.Arrow ∷ [])

-- what begins a part of a variable
abbrev pub PARTS : List Seen
PARTS = kinds (Symbol symbol.LeftBracket ∷ Symbol symbol.Dot ∷ [])

-- what follows a name at the front of a label
abbrev pub LABELLED : List Seen
LABELLED = kinds (Symbol symbol.Colon ∷ Symbol symbol.Comma ∷ Symbol symbol.Hash ∷ [])

-- what begins a number that may have a sign
abbrev pub SIGNED : List Seen
SIGNED = kinds (Symbol symbol.Minus ∷ Form form.Integer ∷ [])

-- what begins an expression
abbrev pub FIRST_EXPR : List Seen
FIRST_EXPR = kinds (Symbol symbol.Minus ∷ Word word.Not ∷ Form form.Integer ∷ Form form.Typed ∷ Form form.Truth ∷ Form form.Span ∷ Symbol symbol.LeftParenthesis ∷ Word word.And ∷ Word word.Or ∷ Word word.Xor ∷ Word word.Mod ∷ Form form.Name ∷ [])

-- what begins a statement
abbrev pub FIRST_STMT : List Seen
FIRST_STMT = kinds (Symbol symbol.Semicolon ∷ Word word.If ∷ Word word.Case ∷ Word word.For ∷ Word word.While ∷ Word word.Repeat ∷ Word word.Exit ∷ Word word.Return ∷ Form form.Name ∷ [])

-- what begins a label or a statement
abbrev pub FIRST_ITEM : List Seen
FIRST_ITEM = kinds (Symbol symbol.Minus ∷ Form form.Integer ∷ Symbol symbol.Semicolon ∷ Word word.If ∷ Word word.Case ∷ Word word.For ∷ Word word.While ∷ Word word.Repeat ∷ Word word.Exit ∷ Word word.Return ∷ Form form.Name ∷ [])

-- the word TYPE
abbrev pub TYPE : List Seen
TYPE = kinds (Word word.Type ∷ [])

-- the word END_TYPE
abbrev pub END_TYPE : List Seen
END_TYPE = kinds (Word word.EndType ∷ [])

-- the word STRUCT
abbrev pub STRUCT : List Seen
STRUCT = kinds (Word word.Struct ∷ [])

-- the word END_STRUCT
abbrev pub END_STRUCT : List Seen
END_STRUCT = kinds (Word word.EndStruct ∷ [])

-- the word ARRAY
abbrev pub ARRAY : List Seen
ARRAY = kinds (Word word.Array ∷ [])

-- the word FUNCTION
abbrev pub FUNCTION : List Seen
FUNCTION = kinds (Word word.Function ∷ [])

-- the word END_FUNCTION
abbrev pub END_FUNCTION : List Seen
END_FUNCTION = kinds (Word word.EndFunction ∷ [])

-- the word FUNCTION_BLOCK
abbrev pub FUNCTION_BLOCK : List Seen
FUNCTION_BLOCK = kinds (Word word.FunctionBlock ∷ [])

-- the word END_FUNCTION_BLOCK
abbrev pub END_FUNCTION_BLOCK : List Seen
END_FUNCTION_BLOCK = kinds (Word word.EndFunctionBlock ∷ [])

-- the word VAR_INPUT
abbrev pub VAR_INPUT : List Seen
VAR_INPUT = kinds (Word word.VarInput ∷ [])

-- the word VAR_IN_OUT
abbrev pub VAR_IN_OUT : List Seen
VAR_IN_OUT = kinds (Word word.VarInOut ∷ [])

-- the word VAR_EXTERNAL
abbrev pub VAR_EXTERNAL : List Seen
VAR_EXTERNAL = kinds (Word word.VarExternal ∷ [])

-- the word VAR_GLOBAL
abbrev pub VAR_GLOBAL : List Seen
VAR_GLOBAL = kinds (Word word.VarGlobal ∷ [])

-- the word CONSTANT
abbrev pub CONSTANT : List Seen
CONSTANT = kinds (Word word.Constant ∷ [])

-- the word RETAIN
abbrev pub RETAIN : List Seen
RETAIN = kinds (Word word.Retain ∷ [])

-- the word AT
abbrev pub AT : List Seen
AT = kinds (Word word.At ∷ [])

-- an address
abbrev pub ADDRESS : List Seen
ADDRESS = kinds (Form form.Address ∷ [])

-- the types of whole numbers with a sign or none, of which a subrange is
abbrev pub INTEGER_TYPE : List Seen
INTEGER_TYPE = kinds (Word word.Sint ∷ Word word.Int ∷ Word word.Dint ∷ Word word.Lint ∷ Word word.Usint ∷ Word word.Uint ∷ Word word.Udint ∷ Word word.Ulint ∷ [])

-- the name of another type, elementary or declared
abbrev pub OTHER_TYPE : List Seen
OTHER_TYPE = kinds (Form form.Name ∷ Word word.Byte ∷ Word word.Word ∷ Word word.Dword ∷ Word word.Lword ∷ Word word.Bool ∷ Word word.Time ∷ [])

-- the name of a type, elementary or declared
abbrev pub TYPE_NAME : List Seen
TYPE_NAME = kinds (Form form.Name ∷ Word word.Sint ∷ Word word.Int ∷ Word word.Dint ∷ Word word.Lint ∷ Word word.Usint ∷ Word word.Uint ∷ Word word.Udint ∷ Word word.Ulint ∷ Word word.Byte ∷ Word word.Word ∷ Word word.Dword ∷ Word word.Lword ∷ Word word.Bool ∷ Word word.Time ∷ [])

-- what begins the type of a variable
abbrev pub FIRST_SPEC : List Seen
FIRST_SPEC = kinds (Form form.Name ∷ Word word.Sint ∷ Word word.Int ∷ Word word.Dint ∷ Word word.Lint ∷ Word word.Usint ∷ Word word.Uint ∷ Word word.Udint ∷ Word word.Ulint ∷ Word word.Byte ∷ Word word.Word ∷ Word word.Dword ∷ Word word.Lword ∷ Word word.Bool ∷ Word word.Time ∷ Word word.Array ∷ [])

-- what begins an initial value
abbrev pub FIRST_INIT : List Seen
FIRST_INIT = kinds (Symbol symbol.Minus ∷ Form form.Integer ∷ Form form.Typed ∷ Form form.Truth ∷ Form form.Span ∷ Form form.Name ∷ Symbol symbol.LeftBracket ∷ Symbol symbol.LeftParenthesis ∷ [])

-- whether variables keep their values over a warm start
abbrev pub RETENTION : List Seen
RETENTION = kinds (Word word.Retain ∷ Word word.NonRetain ∷ [])

-- the sections of inputs and of outputs
abbrev pub INPUT_OUTPUT : List Seen
INPUT_OUTPUT = kinds (Word word.VarInput ∷ Word word.VarOutput ∷ [])

-- what begins a section of a function
abbrev pub FUNCTION_SECTION : List Seen
FUNCTION_SECTION = kinds (Word word.VarInput ∷ Word word.Var ∷ [])

-- what begins a section of a function block or a program
abbrev pub UNIT_SECTION : List Seen
UNIT_SECTION = kinds (Word word.VarInput ∷ Word word.VarOutput ∷ Word word.VarInOut ∷ Word word.Var ∷ Word word.VarExternal ∷ [])

-- what begins a program organisation unit
abbrev pub UNIT : List Seen
UNIT = kinds (Word word.Function ∷ Word word.FunctionBlock ∷ Word word.Program ∷ [])

-- what begins a declaration of a source
abbrev pub DECLARATION : List Seen
DECLARATION = kinds (Word word.Type ∷ Word word.Function ∷ Word word.FunctionBlock ∷ Word word.Program ∷ Word word.Configuration ∷ [])

-- ---- what may stand first on its line

-- a name
abbrev pub FIRST_NAME : List Seen
FIRST_NAME = wherever (Form form.Name ∷ [])

-- an integer
abbrev pub FIRST_NUMBER : List Seen
FIRST_NUMBER = wherever (Form form.Integer ∷ Form form.Typed ∷ [])

-- TRUE or FALSE
abbrev pub FIRST_TRUTH : List Seen
FIRST_TRUTH = wherever (Form form.Truth ∷ [])

-- a duration
abbrev pub FIRST_SPAN : List Seen
FIRST_SPAN = wherever (Form form.Span ∷ [])

-- the symbol `-`
abbrev pub FIRST_MINUS : List Seen
FIRST_MINUS = wherever (Symbol symbol.Minus ∷ [])

-- what begins the operand of an instruction
abbrev pub FIRST_OPERAND : List Seen
FIRST_OPERAND = wherever (Symbol symbol.Minus ∷ Form form.Integer ∷ Form form.Typed ∷ Form form.Truth ∷ Form form.Span ∷ Form form.Name ∷ [])
