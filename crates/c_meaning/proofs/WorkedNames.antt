-- Units that break one rule on names or calls, and the tokens where they do, computed. Above each stands its text, with a
-- space between its tokens, without the line of the library, which is token 0: so token k is the k-th word. <end> is the end
-- of a text that isn't the last.
use Rattle.std.proofs.Common.{◌≡◌, refl, [], ◌∷◌}
use Rattle.std.specs.Prelude.{codes, Some}
use Rattle.plc_base.specs.declared.elem.Elem.TheVariants.{Int as INT}
use Rattle.c_tree.specs.declared.tree.CArg.TheBlock.{hidden-the_row-CExpr-2}
use Rattle.c_tree.specs.declared.tree.CArg.TheVariants as arg
use Rattle.c_tree.specs.declared.tree.CBin.TheVariants.{Add}
use Rattle.c_tree.specs.declared.tree.CExpr.TheVariants.{Bin}
use Rattle.c_tree.specs.declared.tree.CItem.{CItem}
use Rattle.c_tree.specs.declared.tree.CItem.TheBlock.{hidden-the_row-CItem-0}
use Rattle.c_tree.specs.declared.tree.CRow.TheVariants.{Var}
use Rattle.c_tree.specs.declared.tree.CSel.TheVariants.{Index}
use Rattle.c_tree.specs.declared.tree.CStmt.{Set, SetVar, InitLocated, Copy, Publish, Return}
use Rattle.c_tree.specs.declared.tree.CType.TheVariants.{Struct as StructType}
use Rattle.c_tree.specs.Spelling.{path_pieces, arg_pieces, stmt_pieces, ctype_pieces, param_pieces, local_pieces, item_pieces}
use Rattle.c_meaning.specs.Rules.{faults}
use Rattle.c_meaning.proofs.WorkedTrees.{alone, parts_of, through, dot, nth, int, read, called, set, call, array, plain, flagged, celled, of_structure, structure, cell, row, value, pointer, local, void, function, unit_of, unit_of_two, unit_that}

-- typedef struct { INT M ; } S ;
abbrev structure_S : CItem
structure_S = structure "S" (plain "M" ∷ [])

-- ---- undeclared

-- void f ( void ) { U = 1 ; }
object_undeclared : faults (unit_that [] (set "U" (int 1) ∷ [])) ≡ 7 ∷ []
object_undeclared = refl

-- void f ( void ) { X = 1 ; } INT X ;
object_below : faults (unit_of (void "f" [] [] (set "X" (int 1) ∷ []) ∷ plain "X" ∷ [])) ≡ 7 ∷ []
object_below = refl

-- void f ( void ) { INT a = b ; INT b = 1 ; }
local_below : faults (unit_of (void "f" [] (local INT "a" (read "b") ∷ local INT "b" (int 1) ∷ []) [] ∷ [])) ≡ 10 ∷ []
unfolding hidden-the_row-CExpr-2 denote.Hole.Carrier.hidden
local_below = refl

-- typedef struct { INT M ; } S ; S X ; void f ( void ) { X . N = 1 ; }
member_undeclared : faults (unit_that (structure_S ∷ of_structure "S" "X" ∷ []) (Set (parts_of "X" (dot "N" ∷ [])) (int 1) ∷ [])) ≡ 21 ∷ []
unfolding item_pieces ctype_pieces hidden-the_row-CItem-0 denote.Hole.Carrier.hidden
member_undeclared = refl

-- INT X ; void f ( void ) { X . M = 1 ; }
member_of_no_structure : faults (unit_that (plain "X" ∷ []) (Set (parts_of "X" (dot "M" ∷ [])) (int 1) ∷ [])) ≡ 12 ∷ []
unfolding item_pieces ctype_pieces
member_of_no_structure = refl

-- typedef struct { INT M ; } S ; S X [ 2 ] ; void f ( void ) { X . M = 1 ; }
member_of_an_array : faults (unit_that (structure_S ∷ array (StructType (codes "S")) "X" (2 ∷ []) ∷ []) (Set (parts_of "X" (dot "M" ∷ [])) (int 1) ∷ [])) ≡ 24 ∷ []
unfolding item_pieces ctype_pieces hidden-the_row-CItem-0 denote.Hole.Carrier.hidden
member_of_an_array = refl

-- typedef struct { INT M ; } S ; void f ( S * p ) { p -> N = 1 ; }
member_behind_an_arrow : faults (unit_of (structure_S ∷ void "f" (pointer "S" "p" ∷ []) [] (Set (through "p" "N" []) (int 1) ∷ []) ∷ [])) ≡ 20 ∷ []
unfolding item_pieces ctype_pieces param_pieces hidden-the_row-CItem-0 denote.Hole.Carrier.hidden
member_behind_an_arrow = refl

-- void f ( void ) { q -> M = 1 ; }
pointer_undeclared : faults (unit_that [] (Set (through "q" "M" []) (int 1) ∷ [])) ≡ 7 ∷ 9 ∷ []
pointer_undeclared = refl

-- void f ( void ) { g ( ) ; }
function_undeclared : faults (unit_that [] (call "g" [] ∷ [])) ≡ 7 ∷ []
function_undeclared = refl

-- INT X ; void f ( void ) { X = g ( ) ; }
function_undeclared_in_a_value : faults (unit_that (plain "X" ∷ []) (set "X" (called "g" []) ∷ [])) ≡ 12 ∷ 12 ∷ []
unfolding item_pieces path_pieces ctype_pieces hidden-the_row-CExpr-2 denote.Hole.Carrier.hidden
function_undeclared_in_a_value = refl

-- S X ;
structure_undeclared : faults (unit_of (of_structure "S" "X" ∷ [])) ≡ 1 ∷ []
structure_undeclared = refl

-- S X ; typedef struct { INT M ; } S ;
structure_below : faults (unit_of (of_structure "S" "X" ∷ structure_S ∷ [])) ≡ 1 ∷ []
unfolding hidden-the_row-CItem-0 denote.Hole.Carrier.hidden
structure_below = refl

-- typedef struct { S M ; } T ;
structure_of_a_member : faults (unit_of (structure "T" (of_structure "S" "M" ∷ []) ∷ [])) ≡ 4 ∷ []
unfolding hidden-the_row-CItem-0 denote.Hole.Carrier.hidden
structure_of_a_member = refl

-- typedef struct { S M ; } S ;
structure_in_itself : faults (unit_of (structure "S" (of_structure "S" "M" ∷ []) ∷ [])) ≡ 4 ∷ []
unfolding hidden-the_row-CItem-0 denote.Hole.Carrier.hidden
structure_in_itself = refl

-- void f ( S * p ) { }
structure_of_a_parameter : faults (unit_of (void "f" (pointer "S" "p" ∷ []) [] [] ∷ [])) ≡ 4 ∷ []
structure_of_a_parameter = refl

-- ---- a path with an undeclared name breaks no other rule

-- void f ( void ) { __SET_VAR ( U , 1 ) ; }
no_kind : faults (unit_that [] (SetVar (alone "U") (int 1) ∷ [])) ≡ 9 ∷ []
no_kind = refl

-- typedef struct { INT M ; } S ; S X ; void f ( void ) { __PUBLISH ( X . N ) ; }
no_kind_of_a_member : faults (unit_that (structure_S ∷ of_structure "S" "X" ∷ []) (Publish (parts_of "X" (dot "N" ∷ [])) ∷ [])) ≡ 23 ∷ []
unfolding item_pieces ctype_pieces hidden-the_row-CItem-0 denote.Hole.Carrier.hidden
no_kind_of_a_member = refl

-- __IEC_INT_t X ; void f ( void ) { __COPY ( U , X ) ; __COPY ( X , U ) ; }
no_shape : faults (unit_that (flagged "X" ∷ []) (Copy (alone "U") (alone "X") ∷ Copy (alone "X") (alone "U") ∷ [])) ≡ 12 ∷ 21 ∷ []
unfolding item_pieces stmt_pieces path_pieces ctype_pieces
no_shape = refl

-- __LOCATED_VAR ( INT , C , Q , W , 0 ) void f ( void ) { __INIT_LOCATED ( U , C ) ; }
no_cell : faults (unit_that (cell INT "C" ∷ []) (InitLocated (alone "U") (codes "C") ∷ [])) ≡ 21 ∷ []
unfolding item_pieces
no_cell = refl

-- __DEBUG_ROW ( 0 , INT , U [ ( 1 + 1 ) ] , VAR ) ;
no_row : faults (unit_of (row 0 INT (parts_of "U" (Index (Bin Add (int 1) (int 1)) ∷ [])) Var ∷ [])) ≡ 7 ∷ []
unfolding hidden-the_row-CExpr-2 denote.Hole.Carrier.hidden
no_row = refl

-- typedef struct { INT M ; } S ; void g ( S * p , INT a ) { } void f ( void ) { g ( & U , U ) ; g ( U , & U ) ; }
no_argument :
    faults (unit_that (structure_S ∷ void "g" (pointer "S" "p" ∷ value INT "a" ∷ []) [] [] ∷ [])
    (call "g" (arg.Address (alone "U") ∷ arg.Value (read "U") ∷ []) ∷ call "g" (arg.Value (read "U") ∷ arg.Address (alone "U") ∷ []) ∷ []))
    ≡ 31 ∷ 33 ∷ 38 ∷ 41 ∷ []
unfolding item_pieces stmt_pieces arg_pieces ctype_pieces param_pieces hidden-the_row-CExpr-2 hidden-the_row-CItem-0 denote.Hole.Carrier.hidden
no_argument = refl

-- ---- declared again

-- INT X ; INT X ;
object_again : faults (unit_of (plain "X" ∷ plain "X" ∷ [])) ≡ 5 ∷ []
unfolding item_pieces ctype_pieces
object_again = refl

-- INT X ; typedef struct { INT M ; } X ;
structure_again : faults (unit_of (plain "X" ∷ structure "X" (plain "M" ∷ []) ∷ [])) ≡ 11 ∷ []
unfolding item_pieces ctype_pieces hidden-the_row-CItem-0 denote.Hole.Carrier.hidden
structure_again = refl

-- INT X ; __LOCATED_VAR ( INT , X , Q , W , 0 )
cell_again : faults (unit_of (plain "X" ∷ cell INT "X" ∷ [])) ≡ 8 ∷ []
unfolding item_pieces ctype_pieces
cell_again = refl

-- void g ( void ) { } void g ( void ) { }
function_again : faults (unit_of (void "g" [] [] [] ∷ void "g" [] [] [] ∷ [])) ≡ 9 ∷ []
unfolding item_pieces
function_again = refl

-- INT X ; <end> void X ( void ) { }
again_in_the_second_text : faults (unit_of_two (plain "X" ∷ []) (void "X" [] [] [] ∷ [])) ≡ 6 ∷ []
unfolding item_pieces ctype_pieces
again_in_the_second_text = refl

-- typedef struct { __IEC_INT_t M ; INT M ; } S ;
member_again : faults (unit_of (structure "S" (flagged "M" ∷ plain "M" ∷ []) ∷ [])) ≡ 8 ∷ []
unfolding item_pieces ctype_pieces hidden-the_row-CItem-0 denote.Hole.Carrier.hidden
member_again = refl

-- void f ( INT a , INT a ) { }
parameter_again : faults (unit_of (void "f" (value INT "a" ∷ value INT "a" ∷ []) [] [] ∷ [])) ≡ 8 ∷ []
unfolding param_pieces
parameter_again = refl

-- typedef struct { INT M ; } S ; void f ( INT a , S * a ) { }
pointer_again : faults (unit_of (structure_S ∷ void "f" (value INT "a" ∷ pointer "S" "a" ∷ []) [] [] ∷ [])) ≡ 18 ∷ []
unfolding item_pieces ctype_pieces param_pieces hidden-the_row-CItem-0 denote.Hole.Carrier.hidden
pointer_again = refl

-- void f ( INT a ) { INT a = 1 ; }
local_with_a_name_of_a_parameter : faults (unit_of (void "f" (value INT "a" ∷ []) (local INT "a" (int 1) ∷ []) [] ∷ [])) ≡ 9 ∷ []
unfolding param_pieces
local_with_a_name_of_a_parameter = refl

-- void f ( void ) { INT a = 1 ; INT a = 1 ; }
local_again : faults (unit_of (void "f" [] (local INT "a" (int 1) ∷ local INT "a" (int 1) ∷ []) [] ∷ [])) ≡ 13 ∷ []
unfolding arg_pieces local_pieces
local_again = refl

-- INT X ; void f ( void ) { INT X = 1 ; }
local_with_a_name_above : faults (unit_of (plain "X" ∷ void "f" [] (local INT "X" (int 1) ∷ []) [] ∷ [])) ≡ 11 ∷ []
unfolding item_pieces ctype_pieces
local_with_a_name_above = refl

-- void f ( void ) { INT X = 1 ; } INT X ;
local_with_a_name_below : faults (unit_of (void "f" [] (local INT "X" (int 1) ∷ []) [] ∷ plain "X" ∷ [])) ≡ 8 ∷ []
local_with_a_name_below = refl

-- void f ( INT X ) { } <end> void X ( void ) { }
parameter_with_a_name_of_the_second_text : faults (unit_of_two (void "f" (value INT "X" ∷ []) [] [] ∷ []) (void "X" [] [] [] ∷ [])) ≡ 5 ∷ []
parameter_with_a_name_of_the_second_text = refl

-- void f ( INT f ) { }
parameter_with_the_name_of_its_function : faults (unit_of (void "f" (value INT "f" ∷ []) [] [] ∷ [])) ≡ 5 ∷ []
parameter_with_the_name_of_its_function = refl

-- ---- used as another kind

-- void g ( void ) { } void f ( void ) { g = 1 ; }
function_as_a_path : faults (unit_that (void "g" [] [] [] ∷ []) (set "g" (int 1) ∷ [])) ≡ 14 ∷ 14 ∷ []
unfolding item_pieces
function_as_a_path = refl

-- typedef struct { INT M ; } S ; void f ( void ) { S . M = 1 ; }
structure_as_an_object : faults (unit_that (structure_S ∷ []) (Set (parts_of "S" (dot "M" ∷ [])) (int 1) ∷ [])) ≡ 16 ∷ 18 ∷ []
unfolding item_pieces ctype_pieces hidden-the_row-CItem-0 denote.Hole.Carrier.hidden
structure_as_an_object = refl

-- __LOCATED_VAR ( INT , C , Q , W , 0 ) void f ( void ) { C = 1 ; }
cell_as_a_path : faults (unit_that (cell INT "C" ∷ []) (set "C" (int 1) ∷ [])) ≡ 19 ∷ 19 ∷ []
unfolding item_pieces
cell_as_a_path = refl

-- typedef struct { INT M ; } S ; INT X ; void f ( S * p ) { X = p ; }
pointer_without_an_arrow : faults (unit_of (structure_S ∷ plain "X" ∷ void "f" (pointer "S" "p" ∷ []) [] (set "X" (read "p") ∷ []) ∷ [])) ≡ 23 ∷ 23 ∷ []
unfolding item_pieces path_pieces ctype_pieces param_pieces hidden-the_row-CExpr-2 hidden-the_row-CItem-0 denote.Hole.Carrier.hidden
pointer_without_an_arrow = refl

-- INT X ; void f ( void ) { X -> M = 1 ; }
object_before_an_arrow : faults (unit_that (plain "X" ∷ []) (Set (through "X" "M" []) (int 1) ∷ [])) ≡ 10 ∷ 12 ∷ []
unfolding item_pieces ctype_pieces
object_before_an_arrow = refl

-- INT X ; void f ( void ) { X ( ) ; }
object_called : faults (unit_that (plain "X" ∷ []) (call "X" [] ∷ [])) ≡ 10 ∷ []
unfolding item_pieces ctype_pieces
object_called = refl

-- void f ( INT a ) { a ( ) ; }
parameter_called : faults (unit_of (void "f" (value INT "a" ∷ []) [] (call "a" [] ∷ []) ∷ [])) ≡ 8 ∷ []
unfolding param_pieces
parameter_called = refl

-- __IEC_INT_p P ; INT X ; void f ( void ) { __INIT_LOCATED ( P , X ) ; }
object_as_a_cell : faults (unit_that (celled "P" ∷ plain "X" ∷ []) (InitLocated (alone "P") (codes "X") ∷ [])) ≡ 17 ∷ []
unfolding item_pieces path_pieces ctype_pieces
object_as_a_cell = refl

-- INT X ; X Y ;
object_as_a_structure : faults (unit_of (plain "X" ∷ of_structure "X" "Y" ∷ [])) ≡ 4 ∷ []
unfolding item_pieces ctype_pieces
object_as_a_structure = refl

-- void g ( void ) { } void f ( g * p ) { }
function_as_a_structure : faults (unit_of (void "g" [] [] [] ∷ void "f" (pointer "g" "p" ∷ []) [] [] ∷ [])) ≡ 11 ∷ []
unfolding item_pieces
function_as_a_structure = refl

-- ---- calls

-- void g ( INT a ) { } void f ( void ) { g ( ) ; }
too_few : faults (unit_that (void "g" (value INT "a" ∷ []) [] [] ∷ []) (call "g" [] ∷ [])) ≡ 15 ∷ []
unfolding item_pieces param_pieces
too_few = refl

-- void g ( void ) { } void f ( void ) { g ( 1 ) ; }
too_many : faults (unit_that (void "g" [] [] [] ∷ []) (call "g" (arg.Value (int 1) ∷ []) ∷ [])) ≡ 14 ∷ []
unfolding item_pieces
too_many = refl

-- typedef struct { INT M ; } S ; S X ; void g ( INT a ) { } void f ( void ) { g ( & X ) ; }
address_for_a_value :
    faults (unit_that (structure_S ∷ of_structure "S" "X" ∷ void "g" (value INT "a" ∷ []) [] [] ∷ []) (call "g" (arg.Address (alone "X") ∷ []) ∷ [])) ≡ 27 ∷ []
unfolding item_pieces ctype_pieces param_pieces hidden-the_row-CExpr-2 hidden-the_row-CItem-0 denote.Hole.Carrier.hidden
address_for_a_value = refl

-- typedef struct { INT M ; } S ; void g ( INT a ) { } void f ( S * p ) { g ( p ) ; }
pointer_for_a_value :
    faults (unit_of (structure_S ∷ void "g" (value INT "a" ∷ []) [] [] ∷ void "f" (pointer "S" "p" ∷ []) [] (call "g" (arg.Pass (codes "p") ∷ []) ∷ []) ∷ [])) ≡ 26 ∷ []
unfolding item_pieces ctype_pieces param_pieces hidden-the_row-CItem-0 denote.Hole.Carrier.hidden
pointer_for_a_value = refl

-- typedef struct { INT M ; } S ; void g ( S * p ) { } void f ( void ) { g ( 1 ) ; }
value_for_a_pointer : faults (unit_that (structure_S ∷ void "g" (pointer "S" "p" ∷ []) [] [] ∷ []) (call "g" (arg.Value (int 1) ∷ []) ∷ [])) ≡ 25 ∷ []
unfolding item_pieces ctype_pieces param_pieces hidden-the_row-CItem-0 denote.Hole.Carrier.hidden
value_for_a_pointer = refl

-- typedef struct { INT M ; } S ; typedef struct { INT M ; } T ; T X ; void g ( S * p ) { } void f ( void ) { g ( & X ) ; }
address_of_another_structure :
    faults (unit_that (structure_S ∷ structure "T" (plain "M" ∷ []) ∷ of_structure "T" "X" ∷ void "g" (pointer "S" "p" ∷ []) [] [] ∷ []) (call "g" (arg.Address (alone "X") ∷ []) ∷ []))
    ≡ 37 ∷ []
unfolding item_pieces ctype_pieces param_pieces hidden-the_row-CExpr-2 hidden-the_row-CItem-0 denote.Hole.Carrier.hidden
address_of_another_structure = refl

-- typedef struct { INT M ; } S ; typedef struct { INT M ; } T ; void g ( S * p ) { } void f ( T * p ) { g ( p ) ; }
pointer_to_another_structure :
    faults (unit_of (structure_S ∷ structure "T" (plain "M" ∷ []) ∷ void "g" (pointer "S" "p" ∷ []) [] [] ∷ void "f" (pointer "T" "p" ∷ []) [] (call "g" (arg.Pass (codes "p") ∷ []) ∷ []) ∷ []))
    ≡ 36 ∷ []
unfolding item_pieces ctype_pieces param_pieces hidden-the_row-CItem-0 denote.Hole.Carrier.hidden
pointer_to_another_structure = refl

-- typedef struct { INT M ; } S ; S X [ 2 ] ; void g ( S * p ) { } void f ( void ) { g ( & X [ 1 ] ) ; g ( & X ) ; }
address_of_an_array :
    faults (unit_that (structure_S ∷ array (StructType (codes "S")) "X" (2 ∷ []) ∷ void "g" (pointer "S" "p" ∷ []) [] [] ∷ [])
    (call "g" (arg.Address (parts_of "X" (nth 1 ∷ [])) ∷ []) ∷ call "g" (arg.Address (alone "X") ∷ []) ∷ []))
    ≡ 40 ∷ []
unfolding item_pieces stmt_pieces arg_pieces ctype_pieces param_pieces hidden-the_row-CExpr-2 hidden-the_row-CItem-0 denote.Hole.Carrier.hidden
address_of_an_array = refl

-- INT X ; INT g ( void ) { return 1 ; } void f ( void ) { X = ( 1 + g ( 1 ) ) ; }
too_many_in_a_value :
    faults (unit_that (plain "X" ∷ function INT "g" [] [] (Return (Some (int 1)) ∷ []) ∷ []) (set "X" (Bin Add (int 1) (called "g" (arg.Value (int 1) ∷ []))) ∷ [])) ≡ 25 ∷ []
unfolding item_pieces stmt_pieces path_pieces arg_pieces ctype_pieces hidden-the_row-CExpr-2 denote.Hole.Carrier.hidden
too_many_in_a_value = refl

-- INT X ; void g ( void ) { } void f ( void ) { X = g ( ) ; }
void_in_a_value : faults (unit_that (plain "X" ∷ void "g" [] [] [] ∷ []) (set "X" (called "g" []) ∷ [])) ≡ 19 ∷ []
unfolding item_pieces path_pieces ctype_pieces hidden-the_row-CExpr-2 denote.Hole.Carrier.hidden
void_in_a_value = refl

-- void f ( void ) { f ( ) ; }
calls_itself : faults (unit_that [] (call "f" [] ∷ [])) ≡ 7 ∷ []
calls_itself = refl

-- INT f ( void ) { return f ( ) ; }
calls_itself_in_a_value : faults (unit_of (function INT "f" [] [] (Return (Some (called "f" [])) ∷ []) ∷ [])) ≡ 8 ∷ 8 ∷ []
unfolding hidden-the_row-CExpr-2 denote.Hole.Carrier.hidden
calls_itself_in_a_value = refl

-- void f ( void ) { g ( ) ; } void g ( void ) { }
calls_a_function_below : faults (unit_of (void "f" [] [] (call "g" [] ∷ []) ∷ void "g" [] [] [] ∷ [])) ≡ 7 ∷ []
calls_a_function_below = refl
