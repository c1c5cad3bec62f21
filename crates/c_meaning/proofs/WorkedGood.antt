-- A good unit with each kind of item, statement, expression, part of a path, argument and row, computed.
use Rattle.std.proofs.Common.{◌≡◌, refl, ℕ, List, [], ◌∷◌, ◌++◌, arith}
use Rattle.std.specs.Prelude.{true, codes, Some, None, IsTrue}
use Rattle.std.specs.Fmt.{digits}
use Rattle.plc_base.specs.declared.elem.Elem.TheVariants.{Sint as SINT, Int as INT, Lint as LINT, Ulint as ULINT, Bool as BOOL}
use Rattle.c_tree.specs.declared.tree.CArg.TheBlock.{hidden-the_row-CExpr-2}
use Rattle.c_tree.specs.declared.tree.CArg.TheVariants as arg
use Rattle.c_tree.specs.declared.tree.CBin.TheVariants.{Add, Sub, Mul, And, Lt}
use Rattle.c_tree.specs.declared.tree.CExpr.TheVariants.{Number, Path, Bin, Un, Cast, GetVar, GetLocated, Moment}
use Rattle.c_tree.specs.declared.tree.CItem.{CItem, Located}
use Rattle.c_tree.specs.declared.tree.CItem.TheBlock.{hidden-the_row-CItem-0}
use Rattle.c_tree.specs.declared.tree.CNum.TheVariants.{ULL}
use Rattle.c_tree.specs.declared.tree.CRow.TheVariants.{Var, Loc, Step}
use Rattle.c_tree.specs.declared.tree.CSel.TheVariants.{Index}
use Rattle.c_tree.specs.declared.tree.CStmt.{Set, InitVar, SetVar, InitLocated, SetLocated, Copy, Publish, If, While, Break, Return}
use Rattle.c_tree.specs.declared.tree.CStmt.TheBlock.{hidden-the_row-CStmt-0}
use Rattle.c_tree.specs.declared.tree.CType.TheVariants.{Plain, Flagged, Struct as StructType}
use Rattle.c_tree.specs.declared.tree.CUn.TheVariants.{Minus, Not, Complement}
use Rattle.c_tree.specs.declared.tree.CUnit.{CUnit}
use Rattle.c_tree.specs.declared.text.CText.{CText}
use Rattle.c_tree.specs.Layout.{laid_after}
use Rattle.c_tree.specs.Printing.{printed_unit}
use Rattle.c_tree.specs.Spelled.{SpellsUnit}
use Rattle.c_tree.specs.Spelling.{path_pieces, expr_pieces, sel_pieces, arg_pieces, stmt_pieces, ctype_pieces, param_pieces, local_pieces, item_pieces}
use Rattle.c_tree.specs.WellSpelled.{WellSpelledItem, WellSpelledItems, WellSpelled}
use Rattle.c_meaning.specs.Rules.{Good}
use Rattle.c_meaning.proofs.WorkedTrees.{alone, parts_of, through, dot, nth, int, read, called, set, call, goto, label, object, array, plain, flagged, celled, of_structure, structure, row, value, pointer, local, void, function, unit_of_two}

-- ---- its texts

abbrev header_text : List ℕ
header_text =
    codes "#include \"iec_std_lib.h\"\n"
    ++ codes "typedef struct{\n"
    ++ codes "__IEC_INT_t A;\n"
    ++ codes "__IEC_BOOL_t B[2];\n"
    ++ codes "}\n"
    ++ codes "E;\n"
    ++ codes "typedef struct{\n"
    ++ codes "__IEC_SINT_t N;\n"
    ++ codes "__IEC_INT_p P;\n"
    ++ codes "INT C;\n"
    ++ codes "E D[2][3];\n"
    ++ codes "__IEC_BOOL_t S[4];\n"
    ++ codes "}\n"
    ++ codes "S;\n"
    ++ codes "__LOCATED_VAR(INT,CELL,Q,W,0,1)\n"
    ++ codes "S X;\n"
    ++ codes "E Y[2];\n"
    ++ codes "__IEC_INT_p L;\n"
    ++ codes "LINT M[3];\n"

abbrev code_text : List ℕ
code_text =
    codes "INT add(INT a,S*p){\n"
    ++ codes "INT sum = 0;\n"
    ++ codes "INT twice = (sum + a);\n"
    ++ codes "top:\n"
    ++ codes "sum = (sum + a);\n"
    ++ codes "if((sum < 9)){\n"
    ++ codes "goto top;\n"
    ++ codes "}\n"
    ++ codes "else{\n"
    ++ codes "twice = ((INT)(-sum));\n"
    ++ codes "}\n"
    ++ codes "while(1){\n"
    ++ codes "break;\n"
    ++ codes "}\n"
    ++ codes "p->C = (~twice);\n"
    ++ codes "__SET_VAR(p->D[1][(a & 1)].B[0],(!sum));\n"
    ++ codes "return(sum + p->C);\n"
    ++ codes "}\n"
    ++ codes "void start(S*p){\n"
    ++ codes "__INIT_VAR(p->N,12ULL);\n"
    ++ codes "__INIT_LOCATED(p->P,CELL);\n"
    ++ codes "__INIT_LOCATED(L,CELL);\n"
    ++ codes "return;\n"
    ++ codes "}\n"
    ++ codes "void config_init__(void){\n"
    ++ codes "start(&X);\n"
    ++ codes "}\n"
    ++ codes "void scan(S*p,ULINT tick){\n"
    ++ codes "INT a = add(((INT)tick),p);\n"
    ++ codes "start(p);\n"
    ++ codes "__SET_LOCATED(p->P,(__GET_VAR(p->N) * add(a,&X)));\n"
    ++ codes "M[1] = __CURRENT_TIME;\n"
    ++ codes "M[(2 - 1)] = (__GET_LOCATED(L) + M[a]);\n"
    ++ codes "__COPY(Y[1],p->D[0][2]);\n"
    ++ codes "__PUBLISH(L);\n"
    ++ codes "}\n"
    ++ codes "void config_run__(ULINT tick){\n"
    ++ codes "scan(&X,tick);\n"
    ++ codes "}\n"
    ++ codes "__DEBUG_ROW(0,SINT,X.N,VAR);\n"
    ++ codes "__DEBUG_ROW(1,BOOL,X.D[1][2].B[0],VAR);\n"
    ++ codes "__DEBUG_ROW(2,INT,X.P,LOC);\n"
    ++ codes "__DEBUG_ROW(3,BOOL,X.S[3],STEP);\n"

abbrev texts : List CText
texts = record { name = codes "unit.h"; bytes = header_text } ∷ record { name = codes "unit.c"; bytes = code_text } ∷ []

-- ---- its trees

abbrev leaves : CItem
leaves = structure "E" (flagged "A" ∷ array (Flagged BOOL) "B" (2 ∷ []) ∷ [])

abbrev parts : CItem
parts = structure "S" (object (Flagged SINT) "N" ∷ celled "P" ∷ plain "C" ∷ array (StructType (codes "E")) "D" (2 ∷ 3 ∷ []) ∷ array (Flagged BOOL) "S" (4 ∷ []) ∷ [])

abbrev header : List CItem
header =
    leaves ∷ parts ∷ Located INT (codes "CELL") 81 87 (0 ∷ 1 ∷ [])
    ∷ of_structure "S" "X" ∷ array (StructType (codes "E")) "Y" (2 ∷ []) ∷ celled "L" ∷ array (Plain LINT) "M" (3 ∷ []) ∷ []

abbrev add : CItem
add =
    function INT "add" (value INT "a" ∷ pointer "S" "p" ∷ []) (local INT "sum" (int 0) ∷ local INT "twice" (Bin Add (read "sum") (read "a")) ∷ [])
    (label "top"
    ∷ set "sum" (Bin Add (read "sum") (read "a"))
    ∷ If (Bin Lt (read "sum") (int 9)) (goto "top" ∷ []) (Some (set "twice" (Cast INT (Un Minus (read "sum"))) ∷ []))
    ∷ While (int 1) (Break ∷ [])
    ∷ Set (through "p" "C" []) (Un Complement (read "twice"))
    ∷ SetVar (through "p" "D" (nth 1 ∷ Index (Bin And (read "a") (int 1)) ∷ dot "B" ∷ nth 0 ∷ [])) (Un Not (read "sum"))
    ∷ Return (Some (Bin Add (read "sum") (Path (through "p" "C" [])))) ∷ [])

abbrev start : CItem
start =
    void "start" (pointer "S" "p" ∷ []) []
    (InitVar (through "p" "N" []) (Number 12 ULL) ∷ InitLocated (through "p" "P" []) (codes "CELL") ∷ InitLocated (alone "L") (codes "CELL") ∷ Return None ∷ [])

abbrev scan : CItem
scan =
    void "scan" (pointer "S" "p" ∷ value ULINT "tick" ∷ []) (local INT "a" (called "add" (arg.Value (Cast INT (read "tick")) ∷ arg.Pass (codes "p") ∷ [])) ∷ [])
    (call "start" (arg.Pass (codes "p") ∷ [])
    ∷ SetLocated (through "p" "P" []) (Bin Mul (GetVar (through "p" "N" [])) (called "add" (arg.Value (read "a") ∷ arg.Address (alone "X") ∷ [])))
    ∷ Set (parts_of "M" (nth 1 ∷ [])) Moment
    ∷ Set (parts_of "M" (Index (Bin Sub (int 2) (int 1)) ∷ [])) (Bin Add (GetLocated (alone "L")) (Path (parts_of "M" (Index (read "a") ∷ []))))
    ∷ Copy (parts_of "Y" (nth 1 ∷ [])) (through "p" "D" (nth 0 ∷ nth 2 ∷ []))
    ∷ Publish (alone "L") ∷ [])

abbrev entries : List CItem
entries =
    void "config_run__" (value ULINT "tick" ∷ []) [] (call "scan" (arg.Address (alone "X") ∷ arg.Value (read "tick") ∷ []) ∷ [])
    ∷ row 0 SINT (parts_of "X" (dot "N" ∷ [])) Var
    ∷ row 1 BOOL (parts_of "X" (dot "D" ∷ nth 1 ∷ nth 2 ∷ dot "B" ∷ nth 0 ∷ [])) Var
    ∷ row 2 INT (parts_of "X" (dot "P" ∷ [])) Loc
    ∷ row 3 BOOL (parts_of "X" (dot "S" ∷ nth 3 ∷ [])) Step
    ∷ []

abbrev unit : CUnit
unit = unit_of_two header (add ∷ start ∷ void "config_init__" [] [] (call "start" (arg.Address (alone "X") ∷ []) ∷ []) ∷ scan ∷ entries)

unit_is_printed : printed_unit unit ≡ texts
unfolding digits laid_after item_pieces stmt_pieces expr_pieces path_pieces sel_pieces arg_pieces ctype_pieces param_pieces local_pieces hidden-the_row-CExpr-2 hidden-the_row-CStmt-0 hidden-the_row-CItem-0 denote.Hole.Carrier.hidden
unit_is_printed = refl

texts_spell_the_unit : SpellsUnit texts unit
unfolding digits item_pieces stmt_pieces expr_pieces path_pieces sel_pieces arg_pieces ctype_pieces param_pieces local_pieces hidden-the_row-CExpr-2 hidden-the_row-CStmt-0 hidden-the_row-CItem-0 denote.Hole.Carrier.hidden
texts_spell_the_unit = (refl, refl, (refl, refl, tt))

-- ---- it is good

-- a path of a name alone, as an expression
abbrev one_name : IsTrue true × Unit {0} × Unit {0}
one_name = (refl, tt, tt)

add_is_spelled : WellSpelledItem add
unfolding hidden-the_row-CExpr-2 hidden-the_row-CStmt-0 denote.Hole.Carrier.hidden
add_is_spelled = (
  refl,
  (refl, ((refl, refl), tt)),
  (record { name = refl; init = omega arith }, (record { name = refl; init = (one_name, one_name) }, tt)),
  (
    refl,
    (
      (record { first = refl; arrow = tt; parts = tt }, (one_name, one_name)),
      (
        ((one_name, omega arith), (refl, tt), ((record { first = refl; arrow = tt; parts = tt }, one_name), tt)),
        (
          (omega arith, (tt, tt)),
          (
            (record { first = refl; arrow = refl; parts = tt }, one_name),
            (
              (record { first = refl; arrow = refl; parts = (omega arith, ((one_name, omega arith), (refl, (omega arith, tt)))) }, one_name),
              (
                (one_name, (refl, refl, tt)),
                tt,
              ),
            ),
          ),
        ),
      ),
    ),
  ),
)

start_is_spelled : WellSpelledItem start
start_is_spelled = (
  refl,
  ((refl, refl), tt),
  tt,
  (
    (record { first = refl; arrow = refl; parts = tt }, omega arith),
    (
      (record { first = refl; arrow = refl; parts = tt }, refl),
      (
        (record { first = refl; arrow = tt; parts = tt }, refl),
        (
          tt,
          tt,
        ),
      ),
    ),
  ),
)

scan_is_spelled : WellSpelledItem scan
unfolding hidden-the_row-CExpr-2 denote.Hole.Carrier.hidden
scan_is_spelled = (
  refl,
  ((refl, refl), (refl, tt)),
  (record { name = refl; init = (refl, (one_name, (refl, tt))) }, tt),
  (
    (refl, (refl, tt)),
    (
      (record { first = refl; arrow = refl; parts = tt }, ((refl, refl, tt), (refl, (one_name, (one_name, tt))))),
      (
        (record { first = refl; arrow = tt; parts = (omega arith, tt) }, tt),
        (
          (record { first = refl; arrow = tt; parts = ((omega arith, omega arith), tt) }, (one_name, (refl, tt, (one_name, tt)))),
          (
            (record { first = refl; arrow = tt; parts = (omega arith, tt) }, record { first = refl; arrow = refl; parts = (omega arith, (omega arith, tt)) }),
            (
              record { first = refl; arrow = tt; parts = tt },
              tt,
            ),
          ),
        ),
      ),
    ),
  ),
)

entries_are_spelled : WellSpelledItems entries
unfolding hidden-the_row-CExpr-2 denote.Hole.Carrier.hidden
entries_are_spelled = (
  (refl, (refl, tt), tt, ((refl, (one_name, (one_name, tt))), tt)),
  (
    (omega arith, record { first = refl; arrow = tt; parts = (refl, tt) }),
    (
      (omega arith, record { first = refl; arrow = tt; parts = (refl, (omega arith, (omega arith, (refl, (omega arith, tt))))) }),
      (
        (omega arith, record { first = refl; arrow = tt; parts = (refl, tt) }),
        (
          (omega arith, record { first = refl; arrow = tt; parts = (refl, (omega arith, tt)) }),
          tt,
        ),
      ),
    ),
  ),
)

unit_is_spelled : WellSpelled unit
unfolding hidden-the_row-CExpr-2 hidden-the_row-CItem-0 denote.Hole.Carrier.hidden
unit_is_spelled = (
  (
    (((tt, refl, tt), ((tt, refl, (omega arith, tt)), tt)), refl),
    (
      (((tt, refl, tt), ((tt, refl, tt), ((tt, refl, tt), ((refl, refl, (omega arith, (omega arith, tt))), ((tt, refl, (omega arith, tt)), tt))))), refl),
      (
        (refl, refl, refl, (omega arith, (omega arith, tt))),
        (
          (refl, refl, tt),
          (
            (refl, refl, (omega arith, tt)),
            (
              (tt, refl, tt),
              (
                (tt, refl, (omega arith, tt)),
                tt,
              ),
            ),
          ),
        ),
      ),
    ),
  ),
  (
    (add_is_spelled, (start_is_spelled, ((refl, tt, tt, ((refl, (one_name, tt)), tt)), (scan_is_spelled, entries_are_spelled)))),
    tt,
  ),
)

unit_is_good : Good unit
unfolding item_pieces stmt_pieces expr_pieces path_pieces sel_pieces arg_pieces ctype_pieces param_pieces local_pieces hidden-the_row-CExpr-2 hidden-the_row-CStmt-0 hidden-the_row-CItem-0 denote.Hole.Carrier.hidden
unit_is_good = record {
  spelled = unit_is_spelled;
  free = (
    (refl, (refl, (refl, tt))),
    (
      (refl, (refl, (refl, (refl, (refl, (refl, tt)))))),
      (
        (refl, tt),
        (
          (refl, tt),
          (
            (refl, tt),
            (
              (refl, tt),
              (
                (refl, tt),
                (
                  (refl, (refl, (refl, (refl, (refl, (refl, tt)))))),
                  (
                    (refl, (refl, tt)),
                    (
                      (refl, tt),
                      (
                        (refl, (refl, (refl, (refl, tt)))),
                        (
                          (refl, (refl, tt)),
                          (
                            tt,
                            (
                              tt,
                              (
                                tt,
                                (
                                  tt,
                                  tt,
                                ),
                              ),
                            ),
                          ),
                        ),
                      ),
                    ),
                  ),
                ),
              ),
            ),
          ),
        ),
      ),
    ),
  );
  members = (refl, (refl, (refl, (refl, (refl, (refl, (refl, (refl, (refl, (refl, (refl, (refl, (refl, (refl, (refl, (refl, tt))))))))))))))));
  brackets = (
    omega arith,
    (
      omega arith,
      (
        omega arith,
        (
          omega arith,
          (
            omega arith,
            (
              omega arith,
              (
                omega arith,
                (
                  omega arith,
                  (
                    omega arith,
                    (
                      omega arith,
                      (
                        omega arith,
                        (
                          omega arith,
                          (
                            omega arith,
                            (
                              omega arith,
                              (
                                omega arith,
                                (
                                  omega arith,
                                  tt,
                                ),
                              ),
                            ),
                          ),
                        ),
                      ),
                    ),
                  ),
                ),
              ),
            ),
          ),
        ),
      ),
    ),
  );
  rules = refl;
}
