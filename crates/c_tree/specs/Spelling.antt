-- The tokens of each tree, and how they are set.
use Rattle.std.specs.Prelude.{ℕ, Bool, true, false, List, [], ◌∷◌, ◌++◌, map, flat_map, Option, Some, None, codes}
use Rattle.plc_base.specs.declared.elem.Elem.{Elem}
use Rattle.plc_base.specs.declared.elem.Elem.TheVariants.{Sint, Int, Dint, Lint, Usint, Uint, Udint, Ulint, Byte, Word as WordElem, Dword, Lword, Bool as BoolElem, Time}
use Rattle.c_tree.specs.declared.tree.CArg.{CArg}
use Rattle.c_tree.specs.declared.tree.CArg as arg
use Rattle.c_tree.specs.declared.tree.CBin.{CBin}
use Rattle.c_tree.specs.declared.tree.CBin.TheVariants.{Add, Sub, Mul, Div, Rem, And, Or, Xor, Shl, Shr, Eq, Ne, Lt, Le, Gt, Ge}
use Rattle.c_tree.specs.declared.tree.CUn.{CUn}
use Rattle.c_tree.specs.declared.tree.CUn.TheVariants as un
use Rattle.c_tree.specs.declared.tree.CExpr.{CExpr, Row_of-CExpr, end_of-CExpr, more_of-CExpr, Row_of-CSel, end_of-CSel, more_of-CSel, Row_of-CArg, end_of-CArg, more_of-CArg}
use Rattle.c_tree.specs.declared.tree.CExpr as expr
use Rattle.c_tree.specs.declared.tree.CItem.{CItem, Struct', Object, Located, Func, DebugRow, Row_of-CItem, end_of-CItem, more_of-CItem}
use Rattle.c_tree.specs.declared.tree.CLocal.{CLocal}
use Rattle.c_tree.specs.declared.tree.CNum.{CNum}
use Rattle.c_tree.specs.declared.tree.CNum.TheVariants as kinds
use Rattle.c_tree.specs.declared.tree.CParam.{CParam}
use Rattle.c_tree.specs.declared.tree.CParam.TheVariants.{Value as ValueParam, Pointer}
use Rattle.c_tree.specs.declared.tree.CPath.{CPath}
use Rattle.c_tree.specs.declared.tree.CRow.{CRow}
use Rattle.c_tree.specs.declared.tree.CRow.TheVariants.{Var, Loc, Step}
use Rattle.c_tree.specs.declared.tree.CSel.{CSel}
use Rattle.c_tree.specs.declared.tree.CSel as sel
use Rattle.c_tree.specs.declared.tree.CStmt.{CStmt, Row_of-CStmt, end_of-CStmt, more_of-CStmt, Held-CStmt-If-2, None', Some'}
use Rattle.c_tree.specs.declared.tree.CStmt as stmt
use Rattle.c_tree.specs.declared.tree.CType.{CType}
use Rattle.c_tree.specs.declared.tree.CType.TheVariants.{Plain, Flagged, Celled, Struct as StructType}
use Rattle.c_tree.specs.declared.sign.Sign.{Sign}
use Rattle.c_tree.specs.declared.sign.Sign.TheVariants.{Arrow, ShiftLeft, ShiftRight, Equal, NotEqual, Less, LessEqual, Greater, GreaterEqual, Plus, Minus, Slash, Percent, Bar, Caret, Bang, Tilde, OpenBrace, CloseBrace, OpenParen, CloseParen, OpenBracket, CloseBracket, Semicolon, Colon, Comma, Dot, Assign, Star, Ampersand}
use Rattle.c_tree.specs.CTokens.{CTok, Include, Word, Number, Mark}
use Rattle.c_tree.specs.Layout.{Piece, Close, Spaced, Ending, token}

-- ---- words

abbrev pub elem_name : Elem → List ℕ
elem_name Sint = codes "SINT"
elem_name Int = codes "INT"
elem_name Dint = codes "DINT"
elem_name Lint = codes "LINT"
elem_name Usint = codes "USINT"
elem_name Uint = codes "UINT"
elem_name Udint = codes "UDINT"
elem_name Ulint = codes "ULINT"
elem_name Byte = codes "BYTE"
elem_name WordElem = codes "WORD"
elem_name Dword = codes "DWORD"
elem_name Lword = codes "LWORD"
elem_name BoolElem = codes "BOOL"
elem_name Time = codes "TIME"

-- the type of a value with flags
abbrev pub flagged_name : Elem → List ℕ
flagged_name e = codes "__IEC_" ++ elem_name e ++ codes "_t"

-- the type of a cell with flags
abbrev pub celled_name : Elem → List ℕ
celled_name e = codes "__IEC_" ++ elem_name e ++ codes "_p"

abbrev pub row_word : CRow → List ℕ
row_word Var = codes "VAR"
row_word Loc = codes "LOC"
row_word Step = codes "STEP"

-- ---- pieces

abbrev pub word : List ℕ → Piece
word bytes = Close (Word bytes)

abbrev pub number : ℕ → CNum → Piece
number value kind = Close (Number value kind)

abbrev pub int : ℕ → Piece
int value = number value kinds.Int

abbrev pub mark : Sign → Piece
mark s = Close (Mark s)

-- each behind a comma
abbrev pub behind_commas : {A : Type 0} → (A → List Piece) → List A → List Piece
behind_commas f xs = flat_map (λ x. mark Comma ∷ f x) xs

-- one or more with commas between them
abbrev pub between_commas : {A : Type 0} → (A → List Piece) → List A → List Piece
between_commas f [] = []
between_commas f (x ∷ xs) = f x ++ behind_commas f xs

-- ---- paths and expressions

abbrev pub arrow_pieces : Option (List ℕ) → List Piece
arrow_pieces None = []
arrow_pieces (Some name) = mark Arrow ∷ word name ∷ []

-- a path up to its parts
abbrev pub start_pieces : List ℕ → Option (List ℕ) → List Piece
start_pieces first arrow = word first ∷ arrow_pieces arrow

abbrev pub bin_sign : CBin → Sign
bin_sign Add = Plus
bin_sign Sub = Minus
bin_sign Mul = Star
bin_sign Div = Slash
bin_sign Rem = Percent
bin_sign And = Ampersand
bin_sign Or = Bar
bin_sign Xor = Caret
bin_sign Shl = ShiftLeft
bin_sign Shr = ShiftRight
bin_sign Eq = Equal
bin_sign Ne = NotEqual
bin_sign Lt = Less
bin_sign Le = LessEqual
bin_sign Gt = Greater
bin_sign Ge = GreaterEqual

abbrev pub un_sign : CUn → Sign
un_sign un.Minus = Minus
un_sign un.Not = Bang
un_sign un.Complement = Tilde

-- the parenthesis of a cast, and its type in another
abbrev pub cast_pieces : Elem → List Piece
cast_pieces to = mark OpenParen ∷ mark OpenParen ∷ word (elem_name to) ∷ mark CloseParen ∷ []

-- a form before what stands in its parentheses
abbrev pub form_pieces : List ℕ → List Piece
form_pieces name = word name ∷ mark OpenParen ∷ []

-- each operator and each cast has its own parentheses, and no others stand
unfoldable mutual
  pub expr_pieces : CExpr → List Piece
  expr_pieces (expr.Number value kind) = number value kind ∷ []
  expr_pieces (expr.Path' first arrow h parts) = start_pieces first arrow ++ parts_pieces parts
  expr_pieces expr.Moment = word (codes "__CURRENT_TIME") ∷ []
  expr_pieces (expr.GetVar' first arrow h parts) = form_pieces (codes "__GET_VAR") ++ (start_pieces first arrow ++ parts_pieces parts) ++ mark CloseParen ∷ []
  expr_pieces (expr.GetLocated' first arrow h parts) = form_pieces (codes "__GET_LOCATED") ++ (start_pieces first arrow ++ parts_pieces parts) ++ mark CloseParen ∷ []
  expr_pieces (expr.Call' name h args) = form_pieces name ++ args_pieces args ++ mark CloseParen ∷ []
  expr_pieces (expr.Bin' op h left k right) = mark OpenParen ∷ side_pieces left ++ Spaced (bin_sign op) ∷ side_pieces right ++ mark CloseParen ∷ []
  expr_pieces (expr.Un' op h inner) = mark OpenParen ∷ mark (un_sign op) ∷ side_pieces inner ++ mark CloseParen ∷ []
  expr_pieces (expr.Cast' to h inner) = cast_pieces to ++ side_pieces inner ++ mark CloseParen ∷ []

  pub side_pieces : {m : _} → Row_of-CExpr m → List Piece
  side_pieces end_of-CExpr = []
  side_pieces (more_of-CExpr e rest) = expr_pieces e

  pub sel_pieces : CSel → List Piece
  sel_pieces (sel.Field name) = mark Dot ∷ word name ∷ []
  sel_pieces (sel.Index e) = mark OpenBracket ∷ expr_pieces e ++ mark CloseBracket ∷ []

  pub parts_pieces : {m : _} → Row_of-CSel m → List Piece
  parts_pieces end_of-CSel = []
  parts_pieces (more_of-CSel x rest) = sel_pieces x ++ parts_pieces rest

  pub arg_pieces : CArg → List Piece
  arg_pieces (arg.Value e) = expr_pieces e
  arg_pieces (arg.Address' first arrow h parts) = mark Ampersand ∷ start_pieces first arrow ++ parts_pieces parts
  arg_pieces (arg.Pass name) = word name ∷ []

  pub args_pieces : {m : _} → Row_of-CArg m → List Piece
  args_pieces end_of-CArg = []
  args_pieces (more_of-CArg x rest) = arg_pieces x ++ later_args_pieces rest

  pub later_args_pieces : {m : _} → Row_of-CArg m → List Piece
  later_args_pieces end_of-CArg = []
  later_args_pieces (more_of-CArg x rest) = mark Comma ∷ arg_pieces x ++ later_args_pieces rest

-- a path by itself
unfoldable pub path_pieces : CPath → List Piece
path_pieces p = start_pieces p.first p.arrow ++ flat_map sel_pieces p.parts

-- a close parenthesis, and the end of a statement
abbrev pub call_end : List Piece
call_end = mark CloseParen ∷ Ending Semicolon ∷ []

-- a call up to its close parenthesis
abbrev pub call_pieces : List ℕ → List CArg → List Piece
call_pieces name args = form_pieces name ++ between_commas arg_pieces args ++ mark CloseParen ∷ []

-- ---- statements

-- an `if` or a `while` up to its open brace
abbrev pub test_pieces : List ℕ → CExpr → List Piece
test_pieces keyword test = word keyword ∷ mark OpenParen ∷ expr_pieces test ++ mark CloseParen ∷ []

-- pieces in braces
abbrev pub in_braces : List Piece → List Piece
in_braces ps = Ending OpenBrace ∷ ps ++ Ending CloseBrace ∷ []

-- what stands behind `return`
abbrev pub value_pieces : Option CExpr → List Piece
value_pieces None = []
value_pieces (Some e) = expr_pieces e

-- a form with a path and a value
abbrev pub setting_pieces : List ℕ → CPath → CExpr → List Piece
setting_pieces form to from = form_pieces form ++ path_pieces to ++ mark Comma ∷ expr_pieces from ++ call_end

unfoldable mutual
  pub stmt_pieces : CStmt → List Piece
  stmt_pieces (stmt.Set to from) = path_pieces to ++ Spaced Assign ∷ expr_pieces from ++ Ending Semicolon ∷ []
  stmt_pieces (stmt.InitVar to from) = setting_pieces (codes "__INIT_VAR") to from
  stmt_pieces (stmt.SetVar to from) = setting_pieces (codes "__SET_VAR") to from
  stmt_pieces (stmt.InitLocated to cell) = form_pieces (codes "__INIT_LOCATED") ++ path_pieces to ++ mark Comma ∷ word cell ∷ call_end
  stmt_pieces (stmt.SetLocated to from) = setting_pieces (codes "__SET_LOCATED") to from
  stmt_pieces (stmt.Copy to from) = form_pieces (codes "__COPY") ++ path_pieces to ++ mark Comma ∷ path_pieces from ++ call_end
  stmt_pieces (stmt.Publish p) = form_pieces (codes "__PUBLISH") ++ path_pieces p ++ call_end
  stmt_pieces (stmt.Call name args) = call_pieces name args ++ Ending Semicolon ∷ []
  stmt_pieces (stmt.If' test h body other) = test_pieces (codes "if") test ++ in_braces (stmts_pieces body) ++ else_pieces other
  stmt_pieces (stmt.While' test h body) = test_pieces (codes "while") test ++ in_braces (stmts_pieces body)
  stmt_pieces stmt.Break = word (codes "break") ∷ Ending Semicolon ∷ []
  stmt_pieces (stmt.Goto name) = word (codes "goto") ∷ word name ∷ Ending Semicolon ∷ []
  stmt_pieces (stmt.Label name) = word name ∷ Ending Colon ∷ []
  stmt_pieces (stmt.Return value) = word (codes "return") ∷ value_pieces value ++ Ending Semicolon ∷ []

  pub stmts_pieces : {m : _} → Row_of-CStmt m → List Piece
  stmts_pieces end_of-CStmt = []
  stmts_pieces (more_of-CStmt x rest) = stmt_pieces x ++ stmts_pieces rest

  pub else_pieces : Held-CStmt-If-2 → List Piece
  else_pieces None' = []
  else_pieces (Some' h stmts) = word (codes "else") ∷ in_braces (stmts_pieces stmts)

-- statements in braces
abbrev pub block_pieces : List CStmt → List Piece
block_pieces stmts = in_braces (flat_map stmt_pieces stmts)

-- the `else` of an `if`, where there is one
abbrev pub other_pieces : Option (List CStmt) → List Piece
other_pieces None = []
other_pieces (Some stmts) = word (codes "else") ∷ block_pieces stmts

-- ---- items

unfoldable pub ctype_pieces : CType → List Piece
ctype_pieces (Plain e) = word (elem_name e) ∷ []
ctype_pieces (Flagged e) = word (flagged_name e) ∷ []
ctype_pieces (Celled e) = word (celled_name e) ∷ []
ctype_pieces (StructType name) = word name ∷ []

abbrev pub dim_pieces : ℕ → List Piece
dim_pieces n = mark OpenBracket ∷ int n ∷ mark CloseBracket ∷ []

abbrev pub result_piece : Option Elem → Piece
result_piece None = word (codes "void")
result_piece (Some e) = word (elem_name e)

unfoldable pub param_pieces : CParam → List Piece
param_pieces (ValueParam e name) = word (elem_name e) ∷ word name ∷ []
param_pieces (Pointer to name) = word to ∷ mark Star ∷ word name ∷ []

-- no parameter is spelled `void`
abbrev pub params_pieces : List CParam → List Piece
params_pieces [] = word (codes "void") ∷ []
params_pieces (p ∷ params) = between_commas param_pieces (p ∷ params)

unfoldable pub local_pieces : CLocal → List Piece
local_pieces l = word (elem_name l.elem) ∷ word l.name ∷ Spaced Assign ∷ expr_pieces l.init ++ Ending Semicolon ∷ []

-- the letter of a direction or a size
abbrev pub letter : ℕ → Piece
letter b = word (b ∷ [])

-- a cell up to its numbers
abbrev pub cell_pieces : Elem → List ℕ → ℕ → ℕ → List Piece
cell_pieces e name dir size = form_pieces (codes "__LOCATED_VAR") ++ word (elem_name e) ∷ mark Comma ∷ word name ∷ mark Comma ∷ letter dir ∷ mark Comma ∷ letter size ∷ []

abbrev pub int_pieces : ℕ → List Piece
int_pieces n = int n ∷ []

-- a function up to its open brace, and behind it
abbrev pub head_pieces : Option Elem → List ℕ → List CParam → List Piece
head_pieces result name params = result_piece result ∷ word name ∷ mark OpenParen ∷ params_pieces params ++ mark CloseParen ∷ Ending OpenBrace ∷ []

abbrev pub body_pieces : List CLocal → List CStmt → List Piece
body_pieces locals body = flat_map local_pieces locals ++ flat_map stmt_pieces body ++ Ending CloseBrace ∷ []

unfoldable mutual
  pub item_pieces : CItem → List Piece
  item_pieces (Struct' h members name) =
      word (codes "typedef") ∷ word (codes "struct") ∷ Ending OpenBrace ∷ row_pieces members ++ Ending CloseBrace ∷ word name ∷ Ending Semicolon ∷ []
  item_pieces (Object ty name dims) = ctype_pieces ty ++ word name ∷ flat_map dim_pieces dims ++ Ending Semicolon ∷ []
  item_pieces (Located e name dir size numbers) = cell_pieces e name dir size ++ behind_commas int_pieces numbers ++ Ending CloseParen ∷ []
  item_pieces (Func result name params locals body) = head_pieces result name params ++ body_pieces locals body
  item_pieces (DebugRow n e p kind) =
      form_pieces (codes "__DEBUG_ROW") ++ int n ∷ mark Comma ∷ word (elem_name e) ∷ mark Comma ∷ path_pieces p ++ mark Comma ∷ word (row_word kind) ∷ call_end

  pub row_pieces : {m : _} → Row_of-CItem m → List Piece
  row_pieces end_of-CItem = []
  row_pieces (more_of-CItem x rest) = item_pieces x ++ row_pieces rest

abbrev pub items_pieces : List CItem → List Piece
items_pieces items = flat_map item_pieces items

-- of a text, the first of a unit or a later one
abbrev pub part_pieces : Bool → List CItem → List Piece
part_pieces true items = Close Include ∷ items_pieces items
part_pieces false items = items_pieces items

abbrev pub part_tokens : Bool → List CItem → List CTok
part_tokens first items = map token (part_pieces first items)
