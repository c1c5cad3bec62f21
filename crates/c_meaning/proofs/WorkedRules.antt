-- Units that break one other rule, and the tokens where they do, computed. Above each stands its text as in WorkedNames.
use Rattle.std.proofs.Common.{◌≡◌, refl, [], ◌∷◌}
use Rattle.std.specs.Prelude.{codes, Some, None}
use Rattle.plc_base.specs.declared.elem.Elem.TheVariants.{Int as INT, Dint as DINT, Udint as UDINT, Ulint as ULINT, Bool as BOOL, Word as WORD}
use Rattle.c_tree.specs.declared.tree.CArg.TheBlock.{hidden-the_row-CExpr-2}
use Rattle.c_tree.specs.declared.tree.CBin.TheVariants.{Add}
use Rattle.c_tree.specs.declared.tree.CExpr.TheVariants.{Bin, GetVar, GetLocated}
use Rattle.c_tree.specs.declared.tree.CItem.{CItem}
use Rattle.c_tree.specs.declared.tree.CItem.TheBlock.{hidden-the_row-CItem-0}
use Rattle.c_tree.specs.declared.tree.CRow.TheVariants.{Var, Loc, Step}
use Rattle.c_tree.specs.declared.tree.CSel.TheVariants.{Index}
use Rattle.c_tree.specs.declared.tree.CStmt.{Set, InitVar, SetVar, InitLocated, SetLocated, Copy, Publish, If, While, Break, Return}
use Rattle.c_tree.specs.declared.tree.CStmt.TheBlock.{hidden-the_row-CStmt-0}
use Rattle.c_tree.specs.declared.tree.CType.TheVariants.{Plain, Flagged, Struct as StructType}
use Rattle.c_tree.specs.Spelling.{path_pieces, arg_pieces, stmt_pieces, ctype_pieces, param_pieces, item_pieces}
use Rattle.c_meaning.specs.Rules.{faults}
use Rattle.c_meaning.proofs.WorkedTrees.{alone, parts_of, through, dot, nth, int, read, set, goto, label, object, array, plain, flagged, celled, of_structure, structure, cell, row, value, pointer, void, function, unit_of, unit_of_two, unit_that}

-- typedef struct { INT M ; } S ;
abbrev structure_S : CItem
structure_S = structure "S" (plain "M" ∷ [])

-- ---- functions

-- void config_init__ ( INT a ) { }
start_with_a_parameter : faults (unit_of (void "config_init__" (value INT "a" ∷ []) [] [] ∷ [])) ≡ 2 ∷ []
start_with_a_parameter = refl

-- INT config_init__ ( void ) { return 1 ; }
start_with_a_result : faults (unit_of (function INT "config_init__" [] [] (Return (Some (int 1)) ∷ []) ∷ [])) ≡ 2 ∷ []
start_with_a_result = refl

-- void config_run__ ( void ) { }
scan_without_a_parameter : faults (unit_of (void "config_run__" [] [] [] ∷ [])) ≡ 2 ∷ []
scan_without_a_parameter = refl

-- void config_run__ ( UDINT t ) { }
scan_with_a_parameter_of_another_type : faults (unit_of (void "config_run__" (value UDINT "t" ∷ []) [] [] ∷ [])) ≡ 2 ∷ []
scan_with_a_parameter_of_another_type = refl

-- void config_run__ ( ULINT t , ULINT u ) { }
scan_with_two_parameters : faults (unit_of (void "config_run__" (value ULINT "t" ∷ value ULINT "u" ∷ []) [] [] ∷ [])) ≡ 2 ∷ []
scan_with_two_parameters = refl

-- typedef struct { INT M ; } S ; void config_run__ ( S * p ) { }
scan_with_a_pointer : faults (unit_of (structure_S ∷ void "config_run__" (pointer "S" "p" ∷ []) [] [] ∷ [])) ≡ 11 ∷ []
unfolding item_pieces ctype_pieces hidden-the_row-CItem-0 denote.Hole.Carrier.hidden
scan_with_a_pointer = refl

-- INT config_run__ ( ULINT t ) { return 1 ; }
scan_with_a_result : faults (unit_of (function INT "config_run__" (value ULINT "t" ∷ []) [] (Return (Some (int 1)) ∷ []) ∷ [])) ≡ 2 ∷ []
scan_with_a_result = refl

-- INT f ( void ) { }
ends_without_a_value : faults (unit_of (function INT "f" [] [] [] ∷ [])) ≡ 2 ∷ []
ends_without_a_value = refl

-- INT f ( void ) { if ( 1 ) { return 1 ; } }
ends_with_an_if : faults (unit_of (function INT "f" [] [] (If (int 1) (Return (Some (int 1)) ∷ []) None ∷ []) ∷ [])) ≡ 2 ∷ []
unfolding hidden-the_row-CStmt-0 denote.Hole.Carrier.hidden
ends_with_an_if = refl

-- INT f ( void ) { return 1 ; l : }
ends_with_a_label : faults (unit_of (function INT "f" [] [] (Return (Some (int 1)) ∷ label "l" ∷ []) ∷ [])) ≡ 2 ∷ []
ends_with_a_label = refl

-- ---- statements

-- INT f ( void ) { return ; return 1 ; }
no_value_returned : faults (unit_of (function INT "f" [] [] (Return None ∷ Return (Some (int 1)) ∷ []) ∷ [])) ≡ 7 ∷ []
no_value_returned = refl

-- void f ( void ) { return 1 ; }
value_returned : faults (unit_that [] (Return (Some (int 1)) ∷ [])) ≡ 7 ∷ []
value_returned = refl

-- void f ( void ) { break ; }
break_outside : faults (unit_that [] (Break ∷ [])) ≡ 7 ∷ []
break_outside = refl

-- void f ( void ) { if ( 1 ) { break ; } }
break_in_an_if : faults (unit_that [] (If (int 1) (Break ∷ []) None ∷ [])) ≡ 12 ∷ []
unfolding arg_pieces hidden-the_row-CStmt-0 denote.Hole.Carrier.hidden
break_in_an_if = refl

-- void f ( void ) { while ( 1 ) { break ; } break ; }
break_behind_a_loop : faults (unit_that [] (While (int 1) (Break ∷ []) ∷ Break ∷ [])) ≡ 15 ∷ []
unfolding stmt_pieces arg_pieces hidden-the_row-CStmt-0 denote.Hole.Carrier.hidden
break_behind_a_loop = refl

-- void f ( void ) { if ( 1 ) { l : } }
label_in_a_block : faults (unit_that [] (If (int 1) (label "l" ∷ []) None ∷ [])) ≡ 12 ∷ []
unfolding arg_pieces hidden-the_row-CStmt-0 denote.Hole.Carrier.hidden
label_in_a_block = refl

-- void f ( void ) { if ( 1 ) { } else { l : } }
label_in_an_else : faults (unit_that [] (If (int 1) [] (Some (label "l" ∷ [])) ∷ [])) ≡ 15 ∷ []
unfolding stmt_pieces arg_pieces hidden-the_row-CStmt-0 denote.Hole.Carrier.hidden
label_in_an_else = refl

-- void f ( void ) { while ( 1 ) { l : } }
label_in_a_loop : faults (unit_that [] (While (int 1) (label "l" ∷ []) ∷ [])) ≡ 12 ∷ []
unfolding arg_pieces hidden-the_row-CStmt-0 denote.Hole.Carrier.hidden
label_in_a_loop = refl

-- void f ( void ) { l : l : }
label_twice : faults (unit_that [] (label "l" ∷ label "l" ∷ [])) ≡ 9 ∷ []
unfolding stmt_pieces
label_twice = refl

-- void f ( void ) { goto l ; }
goto_without_a_label : faults (unit_that [] (goto "l" ∷ [])) ≡ 8 ∷ []
goto_without_a_label = refl

-- void g ( void ) { l : } void f ( void ) { while ( 1 ) { goto l ; } }
goto_out_of_the_function : faults (unit_that (void "g" [] [] (label "l" ∷ []) ∷ []) (While (int 1) (goto "l" ∷ []) ∷ [])) ≡ 22 ∷ []
unfolding item_pieces stmt_pieces arg_pieces hidden-the_row-CStmt-0 denote.Hole.Carrier.hidden
goto_out_of_the_function = refl

-- ---- dimensions

-- INT A [ 0 ] ;
dimension_of_0 : faults (unit_of (array (Plain INT) "A" (0 ∷ []) ∷ [])) ≡ 4 ∷ []
dimension_of_0 = refl

-- INT A [ 65537 ] ;
dimension_of_65537 : faults (unit_of (array (Plain INT) "A" (65537 ∷ []) ∷ [])) ≡ 4 ∷ []
dimension_of_65537 = refl

-- INT A [ 65536 ] [ 1 ] ;
dimensions_of_65536_and_1 : faults (unit_of (array (Plain INT) "A" (65536 ∷ 1 ∷ []) ∷ [])) ≡ []
dimensions_of_65536_and_1 = refl

-- INT A [ 1 ] [ 0 ] ;
second_dimension : faults (unit_of (array (Plain INT) "A" (1 ∷ 0 ∷ []) ∷ [])) ≡ 7 ∷ []
second_dimension = refl

-- typedef struct { INT M ; INT A [ 0 ] ; } S ;
dimension_of_a_member : faults (unit_of (structure "S" (plain "M" ∷ array (Plain INT) "A" (0 ∷ []) ∷ []) ∷ [])) ≡ 10 ∷ []
unfolding item_pieces ctype_pieces hidden-the_row-CItem-0 denote.Hole.Carrier.hidden
dimension_of_a_member = refl

-- ---- the kind of a path

-- __IEC_INT_t X ; void f ( void ) { X = 1 ; }
flagged_assigned : faults (unit_that (flagged "X" ∷ []) (set "X" (int 1) ∷ [])) ≡ 10 ∷ []
unfolding item_pieces ctype_pieces
flagged_assigned = refl

-- INT A [ 2 ] ; void f ( void ) { A = 1 ; }
array_assigned : faults (unit_that (array (Plain INT) "A" (2 ∷ []) ∷ []) (set "A" (int 1) ∷ [])) ≡ 13 ∷ []
unfolding item_pieces ctype_pieces
array_assigned = refl

-- typedef struct { INT M ; } S ; S X ; void f ( void ) { X = 1 ; }
structure_assigned : faults (unit_that (structure_S ∷ of_structure "S" "X" ∷ []) (set "X" (int 1) ∷ [])) ≡ 19 ∷ []
unfolding item_pieces ctype_pieces hidden-the_row-CItem-0 denote.Hole.Carrier.hidden
structure_assigned = refl

-- __IEC_INT_t T ; INT X ; void f ( void ) { X = T ; }
flagged_read : faults (unit_that (flagged "T" ∷ plain "X" ∷ []) (set "X" (read "T") ∷ [])) ≡ 15 ∷ []
unfolding item_pieces path_pieces ctype_pieces hidden-the_row-CExpr-2 denote.Hole.Carrier.hidden
flagged_read = refl

-- INT A [ 2 ] ; INT X ; void f ( void ) { X = A ; }
array_read : faults (unit_that (array (Plain INT) "A" (2 ∷ []) ∷ plain "X" ∷ []) (set "X" (read "A") ∷ [])) ≡ 18 ∷ []
unfolding item_pieces path_pieces ctype_pieces hidden-the_row-CExpr-2 denote.Hole.Carrier.hidden
array_read = refl

-- INT X ; void f ( void ) { __INIT_VAR ( X , 1 ) ; }
plain_in_INIT_VAR : faults (unit_that (plain "X" ∷ []) (InitVar (alone "X") (int 1) ∷ [])) ≡ 12 ∷ []
unfolding item_pieces ctype_pieces
plain_in_INIT_VAR = refl

-- INT X ; void f ( void ) { __SET_VAR ( X , 1 ) ; }
plain_in_SET_VAR : faults (unit_that (plain "X" ∷ []) (SetVar (alone "X") (int 1) ∷ [])) ≡ 12 ∷ []
unfolding item_pieces ctype_pieces
plain_in_SET_VAR = refl

-- __IEC_INT_p X ; void f ( void ) { __SET_VAR ( X , 1 ) ; }
celled_in_SET_VAR : faults (unit_that (celled "X" ∷ []) (SetVar (alone "X") (int 1) ∷ [])) ≡ 12 ∷ []
unfolding item_pieces ctype_pieces
celled_in_SET_VAR = refl

-- __IEC_INT_t A [ 2 ] ; void f ( void ) { __SET_VAR ( A , 1 ) ; }
array_in_SET_VAR : faults (unit_that (array (Flagged INT) "A" (2 ∷ []) ∷ []) (SetVar (alone "A") (int 1) ∷ [])) ≡ 15 ∷ []
unfolding item_pieces ctype_pieces
array_in_SET_VAR = refl

-- void f ( INT a ) { __SET_VAR ( a , 1 ) ; }
parameter_in_SET_VAR : faults (unit_of (void "f" (value INT "a" ∷ []) [] (SetVar (alone "a") (int 1) ∷ []) ∷ [])) ≡ 10 ∷ []
unfolding param_pieces
parameter_in_SET_VAR = refl

-- typedef struct { INT M ; } S ; void f ( S * p ) { __SET_VAR ( p -> M , 1 ) ; }
member_in_SET_VAR : faults (unit_of (structure_S ∷ void "f" (pointer "S" "p" ∷ []) [] (SetVar (through "p" "M" []) (int 1) ∷ []) ∷ [])) ≡ 20 ∷ []
unfolding item_pieces ctype_pieces param_pieces hidden-the_row-CItem-0 denote.Hole.Carrier.hidden
member_in_SET_VAR = refl

-- INT X ; void f ( void ) { X = __GET_VAR ( X ) ; }
plain_in_GET_VAR : faults (unit_that (plain "X" ∷ []) (set "X" (GetVar (alone "X")) ∷ [])) ≡ 14 ∷ []
unfolding item_pieces path_pieces ctype_pieces hidden-the_row-CExpr-2 denote.Hole.Carrier.hidden
plain_in_GET_VAR = refl

-- INT X ; __LOCATED_VAR ( INT , C , Q , W , 0 ) void f ( void ) { __INIT_LOCATED ( X , C ) ; }
plain_in_INIT_LOCATED : faults (unit_that (plain "X" ∷ cell INT "C" ∷ []) (InitLocated (alone "X") (codes "C") ∷ [])) ≡ 24 ∷ []
unfolding item_pieces ctype_pieces
plain_in_INIT_LOCATED = refl

-- __IEC_INT_t X ; void f ( void ) { __SET_LOCATED ( X , 1 ) ; }
flagged_in_SET_LOCATED : faults (unit_that (flagged "X" ∷ []) (SetLocated (alone "X") (int 1) ∷ [])) ≡ 12 ∷ []
unfolding item_pieces ctype_pieces
flagged_in_SET_LOCATED = refl

-- INT X ; __IEC_INT_t T ; void f ( void ) { X = __GET_LOCATED ( T ) ; }
flagged_in_GET_LOCATED : faults (unit_that (plain "X" ∷ flagged "T" ∷ []) (set "X" (GetLocated (alone "T")) ∷ [])) ≡ 17 ∷ []
unfolding item_pieces path_pieces ctype_pieces hidden-the_row-CExpr-2 denote.Hole.Carrier.hidden
flagged_in_GET_LOCATED = refl

-- __IEC_INT_t X ; void f ( void ) { __PUBLISH ( X ) ; }
flagged_in_PUBLISH : faults (unit_that (flagged "X" ∷ []) (Publish (alone "X") ∷ [])) ≡ 12 ∷ []
unfolding item_pieces ctype_pieces
flagged_in_PUBLISH = refl

-- ---- indices

-- INT X ; void f ( void ) { X [ 1 ] = 1 ; }
index_on_no_array : faults (unit_that (plain "X" ∷ []) (Set (parts_of "X" (nth 1 ∷ [])) (int 1) ∷ [])) ≡ 10 ∷ []
unfolding item_pieces ctype_pieces
index_on_no_array = refl

-- INT A [ 2 ] ; void f ( void ) { A [ 0 ] [ 0 ] = 1 ; }
one_index_too_many : faults (unit_that (array (Plain INT) "A" (2 ∷ []) ∷ []) (Set (parts_of "A" (nth 0 ∷ nth 0 ∷ [])) (int 1) ∷ [])) ≡ 13 ∷ []
unfolding item_pieces ctype_pieces
one_index_too_many = refl

-- INT X ; void f ( void ) { X [ 1 ] . M = 1 ; }
member_behind_an_index_on_no_array : faults (unit_that (plain "X" ∷ []) (Set (parts_of "X" (nth 1 ∷ dot "M" ∷ [])) (int 1) ∷ [])) ≡ 15 ∷ []
unfolding item_pieces arg_pieces ctype_pieces
member_behind_an_index_on_no_array = refl

-- INT A [ 2 ] ; __IEC_INT_t T ; void f ( void ) { A [ T ] = 1 ; }
flagged_as_an_index : faults (unit_that (array (Plain INT) "A" (2 ∷ []) ∷ flagged "T" ∷ []) (Set (parts_of "A" (Index (read "T") ∷ [])) (int 1) ∷ [])) ≡ 18 ∷ []
unfolding item_pieces ctype_pieces hidden-the_row-CExpr-2 denote.Hole.Carrier.hidden
flagged_as_an_index = refl

-- ---- cells and copies

-- __IEC_INT_p P ; __LOCATED_VAR ( WORD , C , Q , W , 0 ) void f ( void ) { __INIT_LOCATED ( P , C ) ; }
cell_of_another_type : faults (unit_that (celled "P" ∷ cell WORD "C" ∷ []) (InitLocated (alone "P") (codes "C") ∷ [])) ≡ 26 ∷ []
unfolding item_pieces path_pieces ctype_pieces
cell_of_another_type = refl

-- __IEC_INT_t X ; __IEC_DINT_t Y ; void f ( void ) { __COPY ( X , Y ) ; }
copy_of_another_type : faults (unit_that (flagged "X" ∷ object (Flagged DINT) "Y" ∷ []) (Copy (alone "X") (alone "Y") ∷ [])) ≡ 17 ∷ []
unfolding item_pieces path_pieces ctype_pieces
copy_of_another_type = refl

-- __IEC_INT_t X [ 2 ] ; __IEC_INT_t Y [ 3 ] ; void f ( void ) { __COPY ( X , Y ) ; }
copy_of_another_length :
    faults (unit_that (array (Flagged INT) "X" (2 ∷ []) ∷ array (Flagged INT) "Y" (3 ∷ []) ∷ []) (Copy (alone "X") (alone "Y") ∷ [])) ≡ 23 ∷ []
unfolding item_pieces path_pieces ctype_pieces
copy_of_another_length = refl

-- INT X ; INT Y ; void f ( void ) { __COPY ( X , Y ) ; }
copy_to_a_plain_value : faults (unit_that (plain "X" ∷ plain "Y" ∷ []) (Copy (alone "X") (alone "Y") ∷ [])) ≡ 17 ∷ []
unfolding item_pieces path_pieces ctype_pieces
copy_to_a_plain_value = refl

-- __IEC_INT_p X ; __IEC_INT_t Y ; void f ( void ) { __COPY ( X , Y ) ; }
copy_to_a_cell : faults (unit_that (celled "X" ∷ flagged "Y" ∷ []) (Copy (alone "X") (alone "Y") ∷ [])) ≡ 17 ∷ []
unfolding item_pieces path_pieces ctype_pieces
copy_to_a_cell = refl

-- typedef struct { __IEC_INT_t M ; INT N ; } S ; S X ; S Y ; void f ( void ) { __COPY ( X , Y ) ; }
copy_with_a_plain_member :
    faults (unit_that (structure "S" (flagged "M" ∷ plain "N" ∷ []) ∷ of_structure "S" "X" ∷ of_structure "S" "Y" ∷ []) (Copy (alone "X") (alone "Y") ∷ [])) ≡ 29 ∷ []
unfolding item_pieces path_pieces ctype_pieces hidden-the_row-CItem-0 denote.Hole.Carrier.hidden
copy_with_a_plain_member = refl

-- typedef struct { __IEC_INT_t A ; __IEC_BOOL_t B ; } S ; typedef struct { __IEC_BOOL_t B ; __IEC_INT_t A ; } T ; S X ; T Y ; void f ( void ) { __COPY ( X , Y ) ; }
copy_of_another_order :
    faults (unit_that
    (structure "S" (flagged "A" ∷ object (Flagged BOOL) "B" ∷ []) ∷ structure "T" (object (Flagged BOOL) "B" ∷ flagged "A" ∷ []) ∷ of_structure "S" "X" ∷ of_structure "T" "Y" ∷ [])
    (Copy (alone "X") (alone "Y") ∷ []))
    ≡ 41 ∷ []
unfolding item_pieces path_pieces ctype_pieces hidden-the_row-CItem-0 denote.Hole.Carrier.hidden
copy_of_another_order = refl

-- typedef struct { __IEC_INT_t A ; } S ; typedef struct { __IEC_INT_t B ; } T ; S X ; T Y [ 2 ] ; void f ( void ) { __COPY ( X , Y [ 1 ] ) ; __COPY ( X , Y ) ; }
copy_of_other_names :
    faults (unit_that
    (structure "S" (flagged "A" ∷ []) ∷ structure "T" (flagged "B" ∷ []) ∷ of_structure "S" "X" ∷ array (StructType (codes "T")) "Y" (2 ∷ []) ∷ [])
    (Copy (alone "X") (parts_of "Y" (nth 1 ∷ [])) ∷ Copy (alone "X") (alone "Y") ∷ []))
    ≡ 48 ∷ []
unfolding item_pieces stmt_pieces path_pieces arg_pieces ctype_pieces hidden-the_row-CItem-0 denote.Hole.Carrier.hidden
copy_of_other_names = refl

-- ---- debug rows

-- __IEC_INT_t X ; __DEBUG_ROW ( 1 , INT , X , VAR ) ;
first_number : faults (unit_of (flagged "X" ∷ row 1 INT (alone "X") Var ∷ [])) ≡ 6 ∷ []
unfolding item_pieces ctype_pieces
first_number = refl

-- __IEC_INT_t X ; __DEBUG_ROW ( 0 , INT , X , VAR ) ; <end> __DEBUG_ROW ( 0 , INT , X , VAR ) ;
second_number : faults (unit_of_two (flagged "X" ∷ row 0 INT (alone "X") Var ∷ []) (row 0 INT (alone "X") Var ∷ [])) ≡ 18 ∷ []
unfolding item_pieces path_pieces ctype_pieces
second_number = refl

-- __IEC_INT_t A [ 2 ] ; __DEBUG_ROW ( 0 , INT , A [ ( 0 + 1 ) ] , VAR ) ;
index_that_is_no_number : faults (unit_of (array (Flagged INT) "A" (2 ∷ []) ∷ row 0 INT (parts_of "A" (Index (Bin Add (int 0) (int 1)) ∷ [])) Var ∷ [])) ≡ 13 ∷ []
unfolding item_pieces ctype_pieces hidden-the_row-CExpr-2 denote.Hole.Carrier.hidden
index_that_is_no_number = refl

-- __IEC_INT_t A [ 2 ] ; __DEBUG_ROW ( 0 , INT , A [ 2 ] , VAR ) ;
index_out_of_bounds : faults (unit_of (array (Flagged INT) "A" (2 ∷ []) ∷ row 0 INT (parts_of "A" (nth 2 ∷ [])) Var ∷ [])) ≡ 13 ∷ []
unfolding item_pieces ctype_pieces
index_out_of_bounds = refl

-- __IEC_INT_t A [ 2 ] ; __DEBUG_ROW ( 0 , INT , A , VAR ) ;
row_of_an_array : faults (unit_of (array (Flagged INT) "A" (2 ∷ []) ∷ row 0 INT (alone "A") Var ∷ [])) ≡ 13 ∷ []
unfolding item_pieces ctype_pieces
row_of_an_array = refl

-- __IEC_INT_t X ; __DEBUG_ROW ( 0 , DINT , X , VAR ) ;
row_of_another_type : faults (unit_of (flagged "X" ∷ row 0 DINT (alone "X") Var ∷ [])) ≡ 10 ∷ []
unfolding item_pieces ctype_pieces
row_of_another_type = refl

-- __IEC_INT_t X ; __DEBUG_ROW ( 0 , INT , X , LOC ) ;
LOC_of_a_flagged_value : faults (unit_of (flagged "X" ∷ row 0 INT (alone "X") Loc ∷ [])) ≡ 10 ∷ []
unfolding item_pieces ctype_pieces
LOC_of_a_flagged_value = refl

-- INT X ; __DEBUG_ROW ( 0 , INT , X , STEP ) ;
STEP_of_a_plain_value : faults (unit_of (plain "X" ∷ row 0 INT (alone "X") Step ∷ [])) ≡ 10 ∷ []
unfolding item_pieces ctype_pieces
STEP_of_a_plain_value = refl

-- __IEC_INT_p X ; __DEBUG_ROW ( 0 , INT , X , VAR ) ;
VAR_of_a_cell : faults (unit_of (celled "X" ∷ row 0 INT (alone "X") Var ∷ [])) ≡ 10 ∷ []
unfolding item_pieces ctype_pieces
VAR_of_a_cell = refl

-- INT X ; __DEBUG_ROW ( 0 , INT , X , VAR ) ;
VAR_of_a_plain_value : faults (unit_of (plain "X" ∷ row 0 INT (alone "X") Var ∷ [])) ≡ 10 ∷ []
unfolding item_pieces ctype_pieces
VAR_of_a_plain_value = refl

-- __IEC_INT_t X ; __DEBUG_ROW ( 0 , INT , X -> M , VAR ) ;
row_with_an_arrow : faults (unit_of (flagged "X" ∷ row 0 INT (through "X" "M" []) Var ∷ [])) ≡ 10 ∷ 12 ∷ []
unfolding item_pieces ctype_pieces
row_with_an_arrow = refl
