-- Where an undeclared name U stands in each form and behind it, computed. Above each unit stands its text as in WorkedNames.
use Rattle.std.proofs.Common.{◌≡◌, refl, [], ◌∷◌}
use Rattle.std.specs.Prelude.{codes, Some, None}
use Rattle.plc_base.specs.declared.elem.Elem.TheVariants.{Int as INT}
use Rattle.c_tree.specs.declared.tree.CArg.TheBlock.{hidden-the_row-CExpr-2}
use Rattle.c_tree.specs.declared.tree.CArg.TheVariants as arg
use Rattle.c_tree.specs.declared.tree.CBin.TheVariants.{Add}
use Rattle.c_tree.specs.declared.tree.CExpr.TheVariants.{Path, Bin, Un, Cast, GetVar, GetLocated, Moment}
use Rattle.c_tree.specs.declared.tree.CItem.{Located}
use Rattle.c_tree.specs.declared.tree.CItem.TheBlock.{hidden-the_row-CItem-0}
use Rattle.c_tree.specs.declared.tree.CRow.TheVariants.{Var}
use Rattle.c_tree.specs.declared.tree.CSel.TheVariants.{Index}
use Rattle.c_tree.specs.declared.tree.CStmt.{Set, InitVar, SetVar, InitLocated, SetLocated, Copy, Publish, If, While, Break, Return}
use Rattle.c_tree.specs.declared.tree.CStmt.TheBlock.{hidden-the_row-CStmt-0}
use Rattle.c_tree.specs.declared.tree.CType.TheVariants.{Plain, Flagged, Struct as StructType}
use Rattle.c_tree.specs.declared.tree.CUn.TheVariants.{Minus}
use Rattle.c_tree.specs.Spelling.{path_pieces, arg_pieces, stmt_pieces, ctype_pieces, param_pieces, local_pieces, item_pieces}
use Rattle.c_meaning.specs.Rules.{faults}
use Rattle.c_meaning.proofs.WorkedTrees.{alone, parts_of, through, nth, int, read, called, set, call, goto, label, array, plain, flagged, celled, of_structure, structure, row, value, pointer, local, void, function, unit_of, unit_of_two, unit_that}

-- ---- in expressions

-- INT X ; void f ( void ) { X = U ; X = ( U + U ) ; X = ( ( 1 + 2 ) + U ) ; }
sides : faults (unit_that (plain "X" ∷ []) (set "X" (read "U") ∷ set "X" (Bin Add (read "U") (read "U")) ∷ set "X" (Bin Add (Bin Add (int 1) (int 2)) (read "U")) ∷ [])) ≡ 12 ∷ 17 ∷ 19 ∷ 31 ∷ []
unfolding item_pieces stmt_pieces path_pieces arg_pieces ctype_pieces hidden-the_row-CExpr-2 denote.Hole.Carrier.hidden
sides = refl

-- INT X ; void f ( void ) { X = ( - U ) ; X = ( ( INT ) U ) ; X = ( ( ( INT ) ( - 1 ) ) + U ) ; }
behind_a_sign_and_a_cast :
    faults (unit_that (plain "X" ∷ []) (set "X" (Un Minus (read "U")) ∷ set "X" (Cast INT (read "U")) ∷ set "X" (Bin Add (Cast INT (Un Minus (int 1))) (read "U")) ∷ []))
    ≡ 14 ∷ 23 ∷ 39 ∷ []
unfolding item_pieces stmt_pieces path_pieces arg_pieces ctype_pieces hidden-the_row-CExpr-2 denote.Hole.Carrier.hidden
behind_a_sign_and_a_cast = refl

-- INT X ; void f ( void ) { X = ( __GET_VAR ( U ) + __GET_LOCATED ( U ) ) ; X = ( __CURRENT_TIME + U ) ; }
in_forms :
    faults (unit_that (plain "X" ∷ []) (set "X" (Bin Add (GetVar (alone "U")) (GetLocated (alone "U"))) ∷ set "X" (Bin Add Moment (read "U")) ∷ []))
    ≡ 15 ∷ 20 ∷ 29 ∷ []
unfolding item_pieces stmt_pieces path_pieces arg_pieces ctype_pieces hidden-the_row-CExpr-2 denote.Hole.Carrier.hidden
in_forms = refl

-- INT A [ 2 ] [ 2 ] ; void f ( void ) { A [ U ] [ U ] = A [ ( 1 + U ) ] [ U ] ; }
in_indices :
    faults (unit_that (array (Plain INT) "A" (2 ∷ 2 ∷ []) ∷ [])
    (Set (parts_of "A" (Index (read "U") ∷ Index (read "U") ∷ [])) (Path (parts_of "A" (Index (Bin Add (int 1) (read "U")) ∷ Index (read "U") ∷ []))) ∷ []))
    ≡ 18 ∷ 21 ∷ 29 ∷ 33 ∷ []
unfolding item_pieces path_pieces arg_pieces ctype_pieces hidden-the_row-CExpr-2 denote.Hole.Carrier.hidden
in_indices = refl

-- typedef struct { INT M [ 2 ] ; } S ; void f ( S * p ) { p -> M [ U ] = p -> M [ U ] ; }
in_indices_behind_an_arrow :
    faults (unit_of (structure "S" (array (Plain INT) "M" (2 ∷ []) ∷ [])
    ∷ void "f" (pointer "S" "p" ∷ []) [] (Set (through "p" "M" (Index (read "U") ∷ [])) (Path (through "p" "M" (Index (read "U") ∷ []))) ∷ []) ∷ []))
    ≡ 25 ∷ 32 ∷ []
unfolding item_pieces path_pieces arg_pieces ctype_pieces param_pieces hidden-the_row-CExpr-2 hidden-the_row-CItem-0 denote.Hole.Carrier.hidden
in_indices_behind_an_arrow = refl

-- INT X ; INT g ( INT a , INT b ) { return 1 ; } void f ( void ) { X = ( g ( ( 1 + 2 ) , U ) + U ) ; }
in_arguments_of_a_value :
    faults (unit_that (plain "X" ∷ function INT "g" (value INT "a" ∷ value INT "b" ∷ []) [] (Return (Some (int 1)) ∷ []) ∷ [])
    (set "X" (Bin Add (called "g" (arg.Value (Bin Add (int 1) (int 2)) ∷ arg.Value (read "U") ∷ [])) (read "U")) ∷ []))
    ≡ 35 ∷ 38 ∷ []
unfolding item_pieces stmt_pieces path_pieces arg_pieces ctype_pieces param_pieces hidden-the_row-CExpr-2 denote.Hole.Carrier.hidden
in_arguments_of_a_value = refl

-- typedef struct { INT M ; } S ; S X [ 2 ] ; void g ( S * p , INT b ) { } void f ( S * q ) { g ( & X [ U ] , U ) ; g ( q , U ) ; }
in_arguments_of_a_statement :
    faults (unit_of (structure "S" (plain "M" ∷ []) ∷ array (StructType (codes "S")) "X" (2 ∷ []) ∷ void "g" (pointer "S" "p" ∷ value INT "b" ∷ []) [] []
    ∷ void "f" (pointer "S" "q" ∷ []) []
    (call "g" (arg.Address (parts_of "X" (Index (read "U") ∷ [])) ∷ arg.Value (read "U") ∷ []) ∷ call "g" (arg.Pass (codes "q") ∷ arg.Value (read "U") ∷ []) ∷ []) ∷ []))
    ≡ 41 ∷ 44 ∷ 51 ∷ []
unfolding item_pieces stmt_pieces arg_pieces ctype_pieces param_pieces hidden-the_row-CExpr-2 hidden-the_row-CItem-0 denote.Hole.Carrier.hidden
in_arguments_of_a_statement = refl

-- ---- in statements and behind them

-- void f ( void ) { if ( U ) { U = 1 ; } U = 1 ; if ( U ) { U = 1 ; } else { U = 1 ; } U = 1 ; }
in_an_if :
    faults (unit_that [] (If (read "U") (set "U" (int 1) ∷ []) None ∷ set "U" (int 1) ∷ If (read "U") (set "U" (int 1) ∷ []) (Some (set "U" (int 1) ∷ [])) ∷ set "U" (int 1) ∷ []))
    ≡ 9 ∷ 12 ∷ 17 ∷ 23 ∷ 26 ∷ 33 ∷ 38 ∷ []
unfolding stmt_pieces path_pieces arg_pieces hidden-the_row-CExpr-2 hidden-the_row-CStmt-0 denote.Hole.Carrier.hidden
in_an_if = refl

-- void f ( void ) { if ( ( 1 + 2 ) ) { } else { U = 1 ; } while ( ( U + 1 ) ) { U = 1 ; } U = 1 ; }
in_a_loop :
    faults (unit_that [] (If (Bin Add (int 1) (int 2)) [] (Some (set "U" (int 1) ∷ [])) ∷ While (Bin Add (read "U") (int 1)) (set "U" (int 1) ∷ []) ∷ set "U" (int 1) ∷ []))
    ≡ 19 ∷ 27 ∷ 33 ∷ 38 ∷ []
unfolding stmt_pieces path_pieces arg_pieces hidden-the_row-CExpr-2 hidden-the_row-CStmt-0 denote.Hole.Carrier.hidden
in_a_loop = refl

-- __IEC_INT_t X ; void f ( void ) { __INIT_VAR ( X , U ) ; __SET_VAR ( X , U ) ; U = 1 ; }
in_forms_with_a_value :
    faults (unit_that (flagged "X" ∷ []) (InitVar (alone "X") (read "U") ∷ SetVar (alone "X") (read "U") ∷ set "U" (int 1) ∷ [])) ≡ 14 ∷ 21 ∷ 24 ∷ []
unfolding item_pieces stmt_pieces path_pieces arg_pieces ctype_pieces hidden-the_row-CExpr-2 denote.Hole.Carrier.hidden
in_forms_with_a_value = refl

-- __IEC_INT_p X ; void f ( void ) { __SET_LOCATED ( X , U ) ; __INIT_LOCATED ( X , U ) ; __PUBLISH ( X ) ; U = 1 ; }
in_forms_of_a_cell :
    faults (unit_that (celled "X" ∷ []) (SetLocated (alone "X") (read "U") ∷ InitLocated (alone "X") (codes "U") ∷ Publish (alone "X") ∷ set "U" (int 1) ∷ []))
    ≡ 14 ∷ 21 ∷ 29 ∷ []
unfolding item_pieces stmt_pieces path_pieces arg_pieces ctype_pieces hidden-the_row-CExpr-2 denote.Hole.Carrier.hidden
in_forms_of_a_cell = refl

-- __IEC_INT_t A [ 2 ] ; void f ( void ) { __COPY ( A [ U ] , A [ U ] ) ; U = 1 ; }
in_a_copy :
    faults (unit_that (array (Flagged INT) "A" (2 ∷ []) ∷ []) (Copy (parts_of "A" (Index (read "U") ∷ [])) (parts_of "A" (Index (read "U") ∷ [])) ∷ set "U" (int 1) ∷ []))
    ≡ 17 ∷ 22 ∷ 26 ∷ []
unfolding item_pieces stmt_pieces path_pieces arg_pieces ctype_pieces hidden-the_row-CExpr-2 denote.Hole.Carrier.hidden
in_a_copy = refl

-- INT f ( void ) { l : goto l ; while ( 1 ) { break ; } return U ; return ( U + 1 ) ; }
in_a_return :
    faults (unit_of (function INT "f" [] []
    (label "l" ∷ goto "l" ∷ While (int 1) (Break ∷ []) ∷ Return (Some (read "U")) ∷ Return (Some (Bin Add (read "U") (int 1))) ∷ []) ∷ []))
    ≡ 21 ∷ 25 ∷ []
unfolding stmt_pieces arg_pieces hidden-the_row-CExpr-2 hidden-the_row-CStmt-0 denote.Hole.Carrier.hidden
in_a_return = refl

-- void g ( void ) { } void f ( void ) { g ( ) ; return ; U = 1 ; }
behind_a_call : faults (unit_that (void "g" [] [] [] ∷ []) (call "g" [] ∷ Return None ∷ set "U" (int 1) ∷ [])) ≡ 20 ∷ []
unfolding item_pieces stmt_pieces
behind_a_call = refl

-- void f ( INT a ) { INT b = ( U + 1 ) ; INT c = U ; U = ( a + b ) ; }
in_locals :
    faults (unit_of (void "f" (value INT "a" ∷ []) (local INT "b" (Bin Add (read "U") (int 1)) ∷ local INT "c" (read "U") ∷ []) (set "U" (Bin Add (read "a") (read "b")) ∷ []) ∷ []))
    ≡ 12 ∷ 20 ∷ 22 ∷ []
unfolding arg_pieces param_pieces local_pieces hidden-the_row-CExpr-2 denote.Hole.Carrier.hidden
in_locals = refl

-- ---- behind items

-- typedef struct { INT M [ 2 ] ; __IEC_INT_t N ; } S ; typedef struct { U M ; INT N ; U O ; } T ;
behind_members :
    faults (unit_of (structure "S" (array (Plain INT) "M" (2 ∷ []) ∷ flagged "N" ∷ []) ∷ structure "T" (of_structure "U" "M" ∷ plain "N" ∷ of_structure "U" "O" ∷ []) ∷ []))
    ≡ 19 ∷ 25 ∷ []
unfolding item_pieces ctype_pieces hidden-the_row-CItem-0 denote.Hole.Carrier.hidden
behind_members = refl

-- __LOCATED_VAR ( INT , C , Q , W , 0 , 12 ) INT A [ 2 ] [ 3 ] ; U X ;
behind_a_cell : faults (unit_of (Located INT (codes "C") 81 87 (0 ∷ 12 ∷ []) ∷ array (Plain INT) "A" (2 ∷ 3 ∷ []) ∷ of_structure "U" "X" ∷ [])) ≡ 24 ∷ []
unfolding item_pieces ctype_pieces
behind_a_cell = refl

-- __IEC_INT_t A [ 2 ] ; __DEBUG_ROW ( 0 , INT , A [ 1 ] , VAR ) ; <end> U X ;
behind_a_row : faults (unit_of_two (array (Flagged INT) "A" (2 ∷ []) ∷ row 0 INT (parts_of "A" (nth 1 ∷ [])) Var ∷ []) (of_structure "U" "X" ∷ [])) ≡ 22 ∷ []
unfolding item_pieces path_pieces arg_pieces ctype_pieces
behind_a_row = refl

-- void f ( INT a , U * p , U * q ) { INT b = 1 ; return ; } U X ;
behind_a_function :
    faults (unit_of (void "f" (value INT "a" ∷ pointer "U" "p" ∷ pointer "U" "q" ∷ []) (local INT "b" (int 1) ∷ []) (Return None ∷ []) ∷ of_structure "U" "X" ∷ []))
    ≡ 7 ∷ 11 ∷ 24 ∷ []
unfolding item_pieces stmt_pieces arg_pieces param_pieces local_pieces
behind_a_function = refl

-- <end> U X ;
behind_an_empty_text : faults (unit_of_two [] (of_structure "U" "X" ∷ [])) ≡ 2 ∷ []
behind_an_empty_text = refl
