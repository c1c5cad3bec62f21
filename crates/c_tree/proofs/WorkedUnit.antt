-- Units, their texts and their tokens, computed.
use Rattle.std.proofs.Common.{◌≡◌, refl, ℕ, true, false, List, [], ◌∷◌, ◌++◌}
use Rattle.std.specs.Prelude.{codes, flat_map, Some, None}
use Rattle.std.specs.Fmt.{digits}
use Rattle.plc_base.specs.declared.elem.Elem.TheVariants as elems
use Rattle.c_tree.specs.declared.tree.CArg.TheVariants.{Address, Pass, Value as ValueArg}
use Rattle.c_tree.specs.declared.tree.CArg.TheBlock.{hidden-the_row-CSel-0, hidden-the_row-CArg-1, hidden-the_row-CExpr-2}
use Rattle.c_tree.specs.declared.tree.CBin.{CBin}
use Rattle.c_tree.specs.declared.tree.CBin.TheVariants as bin
use Rattle.c_tree.specs.declared.tree.CExpr.{CExpr}
use Rattle.c_tree.specs.declared.tree.CExpr.TheVariants.{Number as NumberExpr, Path, Moment, GetVar, GetLocated, Bin, Un, Cast, Call as CallExpr}
use Rattle.c_tree.specs.declared.tree.CItem.{CItem, Struct, Object, Located, Func, DebugRow}
use Rattle.c_tree.specs.declared.tree.CItem.TheBlock.{hidden-the_row-CItem-0}
use Rattle.c_tree.specs.declared.tree.CNum.TheVariants.{Int, LL, ULL}
use Rattle.c_tree.specs.declared.tree.CParam.TheVariants.{Pointer, Value}
use Rattle.c_tree.specs.declared.tree.CPath.{CPath, roll-CPath}
use Rattle.c_tree.specs.declared.tree.CRow.TheVariants.{Var, Loc, Step}
use Rattle.c_tree.specs.declared.tree.CSel.{CSel}
use Rattle.c_tree.specs.declared.tree.CSel.TheVariants.{Field, Index}
use Rattle.c_tree.specs.declared.tree.CStmt.{Set, InitVar, SetVar, InitLocated, SetLocated, Copy, Publish, Call, If, While, Break, Goto, Label, Return}
use Rattle.c_tree.specs.declared.tree.CStmt.TheBlock.{hidden-the_row-CStmt-0}
use Rattle.c_tree.specs.declared.tree.CType.TheVariants.{Plain, Flagged, Celled, Struct as StructType}
use Rattle.c_tree.specs.declared.tree.CUn.TheVariants as un
use Rattle.c_tree.specs.declared.sign.Sign.TheVariants.{ShiftLeft, Equal, Assign}
use Rattle.c_tree.specs.CTokens.{Word, Number, Mark, Unfit, Stray, cut, cut_first}
use Rattle.c_tree.specs.declared.text.CText.{CText}
use Rattle.c_tree.specs.declared.tree.CUnit.{CUnit}
use Rattle.c_tree.specs.Layout.{laid, laid_after}
use Rattle.c_tree.specs.Printing.{printed_unit}
use Rattle.c_tree.specs.Spelled.{SpellsUnit}
use Rattle.c_tree.specs.Spelling.{part_pieces, part_tokens, path_pieces, expr_pieces, stmt_pieces, ctype_pieces, param_pieces, local_pieces, item_pieces}

abbrev member : List ℕ → CItem
member name = Object (Flagged elems.Int) name []

abbrev header : List CItem
header =
    Struct (member (codes "N") ∷ Object (Flagged elems.Bool) (codes "B") [] ∷ []) (codes "P")
    ∷ Object (StructType (codes "P")) (codes "X") []
    ∷ []

abbrev parts_of : List ℕ → List CSel → CPath
parts_of object parts = roll-CPath (record { first = object; arrow = None; parts = parts })

abbrev alone : List ℕ → CPath
alone object = parts_of object []

abbrev field : List ℕ → List ℕ → CPath
field object name = parts_of object (Field name ∷ [])

abbrev through : List ℕ → List ℕ → CPath
through pointer name = roll-CPath (record { first = pointer; arrow = Some name; parts = [] })

abbrev code : List CItem
code =
    Func None (codes "P_init__") (Pointer (codes "P") (codes "p__") ∷ []) []
    (InitVar (through (codes "p__") (codes "N")) (NumberExpr 12 ULL) ∷ [])
    ∷ Func None (codes "config_init__") [] []
    (Call (codes "P_init__") (Address (alone (codes "X")) ∷ []) ∷ [])
    ∷ DebugRow 0 elems.Int (field (codes "X") (codes "N")) Var
    ∷ []

abbrev header_text : List ℕ
header_text =
    codes "#include \"iec_std_lib.h\"\n"
    ++ codes "typedef struct{\n"
    ++ codes "__IEC_INT_t N;\n"
    ++ codes "__IEC_BOOL_t B;\n"
    ++ codes "}\n"
    ++ codes "P;\n"
    ++ codes "P X;\n"

abbrev code_text : List ℕ
code_text =
    codes "void P_init__(P*p__){\n"
    ++ codes "__INIT_VAR(p__->N,12ULL);\n"
    ++ codes "}\n"
    ++ codes "void config_init__(void){\n"
    ++ codes "P_init__(&X);\n"
    ++ codes "}\n"
    ++ codes "__DEBUG_ROW(0,INT,X.N,VAR);\n"

header_is_laid : laid (part_pieces true header) ≡ header_text
unfolding laid_after item_pieces ctype_pieces hidden-the_row-CItem-0 denote.Hole.Carrier.hidden
header_is_laid = refl

code_is_laid : laid (part_pieces false code) ≡ code_text
unfolding digits laid_after item_pieces stmt_pieces expr_pieces path_pieces param_pieces hidden-the_row-CSel-0 denote.Hole.Carrier.hidden
code_is_laid = refl

header_is_cut : cut_first header_text ≡ part_tokens true header
unfolding item_pieces ctype_pieces hidden-the_row-CItem-0 denote.Hole.Carrier.hidden
header_is_cut = refl

code_is_cut : cut code_text ≡ part_tokens false code
unfolding digits item_pieces stmt_pieces expr_pieces path_pieces param_pieces hidden-the_row-CSel-0 denote.Hole.Carrier.hidden
code_is_cut = refl

abbrev unit : CUnit
unit = record { parts = record { name = codes "plc.h"; items = header } ∷ record { name = codes "plc.c"; items = code } ∷ [] }

abbrev texts : List CText
texts = record { name = codes "plc.h"; bytes = header_text } ∷ record { name = codes "plc.c"; bytes = code_text } ∷ []

unit_is_printed : printed_unit unit ≡ texts
unfolding digits laid_after item_pieces stmt_pieces expr_pieces path_pieces ctype_pieces param_pieces hidden-the_row-CItem-0 hidden-the_row-CSel-0 denote.Hole.Carrier.hidden
unit_is_printed = refl

texts_spell_the_unit : SpellsUnit texts unit
texts_spell_the_unit = (refl, header_is_cut, (refl, code_is_cut, tt))

abbrev others : List CItem
others =
    Object (Plain elems.Lword) (codes "a") (3 ∷ 12 ∷ [])
    ∷ Func (Some elems.Bool) (codes "f") (Value elems.Time (codes "t") ∷ Pointer (codes "P") (codes "p") ∷ [])
    (record { elem = elems.Int; name = codes "i"; init = NumberExpr 5 LL } ∷ record { elem = elems.Sint; name = codes "j"; init = Path (through (codes "p") (codes "N")) } ∷ [])
    (Call (codes "g") [] ∷ Call (codes "h") (ValueArg (NumberExpr 0 Int) ∷ Pass (codes "p") ∷ Address (field (codes "X") (codes "N")) ∷ []) ∷ [])
    ∷ []

others_are_laid : laid (part_pieces false others)
    ≡ codes "LWORD a[3][12];\n" ++ codes "BOOL f(TIME t,P*p){\n" ++ codes "INT i = 5LL;\n" ++ codes "SINT j = p->N;\n" ++ codes "g();\n" ++ codes "h(0,p,&X.N);\n" ++ codes "}\n"
unfolding digits laid_after item_pieces stmt_pieces expr_pieces path_pieces ctype_pieces param_pieces local_pieces hidden-the_row-CSel-0 denote.Hole.Carrier.hidden
others_are_laid = refl

-- an `if` with and without `else`
abbrev branches : List CItem
branches =
    Func None (codes "f") (Value elems.Ulint (codes "n") ∷ []) []
    (If (Path (alone (codes "n"))) (Call (codes "g") [] ∷ []) (Some (Call (codes "h") [] ∷ []))
    ∷ If (NumberExpr 1 Int) (If (NumberExpr 0 Int) [] None ∷ []) None
    ∷ [])
    ∷ []

abbrev branches_text : List ℕ
branches_text =
    codes "void f(ULINT n){\n" ++ codes "if(n){\n" ++ codes "g();\n" ++ codes "}\n" ++ codes "else{\n" ++ codes "h();\n" ++ codes "}\n"
    ++ codes "if(1){\n" ++ codes "if(0){\n" ++ codes "}\n" ++ codes "}\n" ++ codes "}\n"

branches_are_laid : laid (part_pieces false branches) ≡ branches_text
unfolding digits laid_after item_pieces stmt_pieces expr_pieces path_pieces param_pieces hidden-the_row-CStmt-0 hidden-the_row-CSel-0 denote.Hole.Carrier.hidden
branches_are_laid = refl

branches_are_cut : cut branches_text ≡ part_tokens false branches
unfolding digits item_pieces stmt_pieces expr_pieces path_pieces param_pieces hidden-the_row-CStmt-0 hidden-the_row-CSel-0 denote.Hole.Carrier.hidden
branches_are_cut = refl

-- a unit with every item, type, statement, expression, selector, argument and kind of row

abbrev one : CExpr
one = NumberExpr 1 Int

abbrev read : List ℕ → CExpr
read name = Path (alone name)

abbrev deep : List ℕ → List CSel → CPath
deep name parts = roll-CPath (record { first = codes "p"; arrow = Some name; parts = parts })

abbrev objects : List CItem
objects =
    Struct [] (codes "Q")
    ∷ Struct
    (Object (Plain elems.Int) (codes "A") (3 ∷ 4 ∷ []) ∷ Object (Flagged elems.Bool) (codes "B") [] ∷ Object (Celled elems.Dword) (codes "C") [] ∷ Object (StructType (codes "Q")) (codes "D") [] ∷ [])
    (codes "S")
    ∷ Object (StructType (codes "S")) (codes "X") []
    ∷ Located elems.Bool (codes "K") 81 88 (1 ∷ 2 ∷ [])
    ∷ Located elems.Dword (codes "L") 77 68 []
    ∷ []

abbrev objects_text : List ℕ
objects_text =
    codes "#include \"iec_std_lib.h\"\n"
    ++ codes "typedef struct{\n"
    ++ codes "}\n"
    ++ codes "Q;\n"
    ++ codes "typedef struct{\n"
    ++ codes "INT A[3][4];\n"
    ++ codes "__IEC_BOOL_t B;\n"
    ++ codes "__IEC_DWORD_p C;\n"
    ++ codes "Q D;\n"
    ++ codes "}\n"
    ++ codes "S;\n"
    ++ codes "S X;\n"
    ++ codes "__LOCATED_VAR(BOOL,K,Q,X,1,2)\n"
    ++ codes "__LOCATED_VAR(DWORD,L,M,D)\n"

abbrev settings : CItem
settings =
    Func (Some elems.Lint) (codes "G") (Pointer (codes "S") (codes "p") ∷ Value elems.Int (codes "n") ∷ [])
    (record { elem = elems.Bool; name = codes "b"; init = NumberExpr 0 Int } ∷ record { elem = elems.Time; name = codes "t"; init = Moment } ∷ [])
    (Set (deep (codes "A") (Index (NumberExpr 0 Int) ∷ Index (Bin bin.Add (read (codes "n")) (NumberExpr 2 Int)) ∷ Field (codes "b") ∷ [])) (Un un.Minus one)
    ∷ InitVar (through (codes "p") (codes "B")) (NumberExpr 12 ULL)
    ∷ SetVar (field (codes "X") (codes "B")) (GetVar (through (codes "p") (codes "B")))
    ∷ InitLocated (field (codes "X") (codes "C")) (codes "L")
    ∷ SetLocated (field (codes "X") (codes "C")) (Cast elems.Dword (GetLocated (through (codes "p") (codes "C"))))
    ∷ Copy (field (codes "X") (codes "D")) (through (codes "p") (codes "D"))
    ∷ Publish (alone (codes "X"))
    ∷ Call (codes "F") []
    ∷ Call (codes "F") (ValueArg one ∷ Address (alone (codes "X")) ∷ Pass (codes "p") ∷ [])
    ∷ Return (Some (CallExpr (codes "H") (Address (through (codes "p") (codes "D")) ∷ ValueArg (NumberExpr 5 LL) ∷ [])))
    ∷ [])

abbrev settings_text : List ℕ
settings_text =
    codes "LINT G(S*p,INT n){\n"
    ++ codes "BOOL b = 0;\n"
    ++ codes "TIME t = __CURRENT_TIME;\n"
    ++ codes "p->A[0][(n + 2)].b = (-1);\n"
    ++ codes "__INIT_VAR(p->B,12ULL);\n"
    ++ codes "__SET_VAR(X.B,__GET_VAR(p->B));\n"
    ++ codes "__INIT_LOCATED(X.C,L);\n"
    ++ codes "__SET_LOCATED(X.C,((DWORD)__GET_LOCATED(p->C)));\n"
    ++ codes "__COPY(X.D,p->D);\n"
    ++ codes "__PUBLISH(X);\n"
    ++ codes "F();\n"
    ++ codes "F(1,&X,p);\n"
    ++ codes "return H(&p->D,5LL);\n"
    ++ codes "}\n"

abbrev turns : CItem
turns =
    Func None (codes "R") [] []
    (While (Bin bin.Lt (read (codes "n")) (NumberExpr 5 Int)) (If (read (codes "n")) (Break ∷ []) (Some (Goto (codes "l") ∷ [])) ∷ [])
    ∷ Label (codes "l")
    ∷ If (Un un.Not (read (codes "n"))) [] None
    ∷ Return None
    ∷ [])

abbrev turns_text : List ℕ
turns_text =
    codes "void R(void){\n"
    ++ codes "while((n < 5)){\n"
    ++ codes "if(n){\n"
    ++ codes "break;\n"
    ++ codes "}\n"
    ++ codes "else{\n"
    ++ codes "goto l;\n"
    ++ codes "}\n"
    ++ codes "}\n"
    ++ codes "l:\n"
    ++ codes "if((!n)){\n"
    ++ codes "}\n"
    ++ codes "return;\n"
    ++ codes "}\n"

abbrev rows : List CItem
rows =
    DebugRow 0 elems.Bool (field (codes "X") (codes "B")) Var
    ∷ DebugRow 1 elems.Dword (field (codes "X") (codes "C")) Loc
    ∷ DebugRow 2 elems.Int (parts_of (codes "X") (Field (codes "A") ∷ Index (NumberExpr 3 Int) ∷ Index (Bin bin.Add one (NumberExpr 2 Int)) ∷ [])) Step
    ∷ []

abbrev rows_text : List ℕ
rows_text =
    codes "__DEBUG_ROW(0,BOOL,X.B,VAR);\n"
    ++ codes "__DEBUG_ROW(1,DWORD,X.C,LOC);\n"
    ++ codes "__DEBUG_ROW(2,INT,X.A[3][(1 + 2)],STEP);\n"

abbrev every : CUnit
every = record { parts = record { name = codes "every.h"; items = objects } ∷ record { name = codes "every.c"; items = settings ∷ turns ∷ rows } ∷ [] }

abbrev every_texts : List CText
every_texts = record { name = codes "every.h"; bytes = objects_text } ∷ record { name = codes "every.c"; bytes = settings_text ++ turns_text ++ rows_text } ∷ []

every_is_printed : printed_unit every ≡ every_texts
unfolding digits laid_after item_pieces stmt_pieces expr_pieces path_pieces ctype_pieces param_pieces local_pieces hidden-the_row-CItem-0 hidden-the_row-CStmt-0 hidden-the_row-CSel-0 hidden-the_row-CArg-1 hidden-the_row-CExpr-2 denote.Hole.Carrier.hidden
every_is_printed = refl

every_is_spelled : SpellsUnit every_texts every
unfolding digits item_pieces stmt_pieces expr_pieces path_pieces ctype_pieces param_pieces local_pieces hidden-the_row-CItem-0 hidden-the_row-CStmt-0 hidden-the_row-CSel-0 hidden-the_row-CArg-1 hidden-the_row-CExpr-2 denote.Hole.Carrier.hidden
every_is_spelled = (refl, refl, (refl, refl, tt))

abbrev two_sided : List CBin
two_sided =
    bin.Add ∷ bin.Sub ∷ bin.Mul ∷ bin.Div ∷ bin.Rem ∷ bin.And ∷ bin.Or ∷ bin.Xor ∷ bin.Shl ∷ bin.Shr ∷ bin.Eq ∷ bin.Ne ∷ bin.Lt ∷ bin.Le ∷ bin.Gt ∷ bin.Ge ∷ []

operators_are_laid : laid (flat_map (λ op. expr_pieces (Bin op one one)) two_sided ++ flat_map (λ op. expr_pieces (Un op one)) (un.Minus ∷ un.Not ∷ un.Complement ∷ []))
    ≡ codes "(1 + 1)(1 - 1)(1 * 1)(1 / 1)(1 % 1)(1 & 1)(1 | 1)(1 ^ 1)(1 << 1)(1 >> 1)(1 == 1)(1 != 1)(1 < 1)(1 <= 1)(1 > 1)(1 >= 1)(-1)(!1)(~1)"
unfolding digits laid_after expr_pieces hidden-the_row-CExpr-2 denote.Hole.Carrier.hidden
operators_are_laid = refl

words_and_signs : cut (codes "a<<= b_1 ==c") ≡ Word (codes "a") ∷ Mark ShiftLeft ∷ Mark Assign ∷ Word (codes "b_1") ∷ Mark Equal ∷ Word (codes "c") ∷ []
words_and_signs = refl

numbers : cut (codes "0 2147483647 2147483648 2147483648LL 18446744073709551615ULL 18446744073709551616ULL 007LL 1x")
    ≡ Number 0 Int ∷ Number 2147483647 Int ∷ Unfit (codes "2147483648") ∷ Number 2147483648 LL ∷ Number 18446744073709551615 ULL
    ∷ Unfit (codes "18446744073709551616ULL") ∷ Unfit (codes "007LL") ∷ Number 1 Int ∷ Word (codes "x") ∷ []
unfolding digits
numbers = refl

-- the line of the library is a token at the first byte of the first text alone
later_line : cut (codes "#a") ≡ Stray 35 ∷ Word (codes "a") ∷ []
later_line = refl
