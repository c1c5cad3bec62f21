-- Loops, what leaves them, and a unit that has them, computed.
use Rattle.std.proofs.Common.{◌≡◌, refl, ℕ, true, List, [], ◌∷◌, ◌++◌, arith}
use Rattle.std.specs.Prelude.{codes, pos, Some, None}
use Rattle.std.specs.Fmt.{digits}
use Rattle.plc_base.specs.declared.elem.Elem.TheVariants as elems
use Rattle.c_tree.specs.declared.tree.CArg.TheBlock.{hidden-the_row-CExpr-2}
use Rattle.c_tree.specs.declared.tree.CBin.TheVariants.{Add, Mul, And, Xor, Eq, Lt, Le, Gt}
use Rattle.c_tree.specs.declared.tree.CExpr.{CExpr}
use Rattle.c_tree.specs.declared.tree.CExpr.TheVariants.{Path, Bin, Number as NumberExpr}
use Rattle.c_tree.specs.declared.tree.CItem.{CItem, Object, Func}
use Rattle.c_tree.specs.declared.tree.CNum.TheVariants.{Int}
use Rattle.c_tree.specs.declared.tree.CParam.TheVariants.{Value}
use Rattle.c_tree.specs.declared.tree.CPath.{CPath, roll-CPath}
use Rattle.c_tree.specs.declared.tree.CStmt.{CStmt, Set, If, While, Break, Return}
use Rattle.c_tree.specs.declared.tree.CStmt.TheBlock.{hidden-the_row-CStmt-0}
use Rattle.c_tree.specs.declared.tree.CType.TheVariants.{Plain}
use Rattle.c_tree.specs.declared.tree.CUnit.{CUnit}
use Rattle.c_tree.specs.declared.text.CText.{CText}
use Rattle.c_tree.specs.CTokens.{cut_first}
use Rattle.c_tree.specs.Layout.{laid_after}
use Rattle.c_meaning.specs.Outcome.{CDone, CPast}
use Rattle.c_meaning.specs.Values.{I32, of_type}
use Rattle.c_meaning.specs.Objects.{Named, Objects, set_plain, no_objects}
use Rattle.c_meaning.specs.Items.{Function}
use Rattle.c_meaning.specs.Execution.{Frame, CStore, c_store, CNext, ByValue, c_value, c_exec}
use Rattle.c_meaning.specs.Run.{c_call}
use Rattle.c_meaning.specs.Rules.{Good}
use Rattle.c_tree.specs.WellSpelled.{WellSpelledExpr, WellSpelledStmt, WellSpelled}
use Rattle.c_tree.specs.Printing.{printed_unit}
use Rattle.c_tree.specs.Spelled.{SpellsUnit}
use Rattle.c_tree.specs.Spelling.{part_tokens, path_pieces, expr_pieces, stmt_pieces, param_pieces, local_pieces, item_pieces}

abbrev here : List ℕ → CPath
here name = roll-CPath (record { first = name; arrow = None; parts = [] })

abbrev i : CExpr
i = Path (here (codes "i"))

abbrev int : ℕ → CExpr
int k = NumberExpr k Int

-- a local i of INT
abbrev at : Objects → ℕ → CStore
at o k = c_store o (record { name = codes "i"; elem = elems.Int; value = pos k } ∷ [])

abbrev next : CStmt
next = Set (here (codes "i")) (Bin Add i (int 1))

abbrev count : CStmt
count = While (Bin Lt i (int 3)) (next ∷ [])

three_turns : (fr : Frame) (o : Objects) → c_exec fr count (at o 0) 3 ≡ CDone (at o 3, CNext) 0
unfolding hidden-the_row-CExpr-2 hidden-the_row-CStmt-0 denote.Hole.Carrier.hidden
three_turns fr o = refl

two_are_too_few : (fr : Frame) (o : Objects) → c_exec fr count (at o 0) 2 ≡ CPast
unfolding hidden-the_row-CExpr-2 hidden-the_row-CStmt-0 denote.Hole.Carrier.hidden
two_are_too_few fr o = refl

-- each turn has one of the inner loop, which ends with it
abbrev nested : CStmt
nested = While (Bin Lt i (int 2)) (While (int 1) (Break ∷ next ∷ []) ∷ next ∷ [])

break_leaves_one_loop : (fr : Frame) (o : Objects) → c_exec fr nested (at o 0) 5 ≡ CDone (at o 2, CNext) 1
unfolding hidden-the_row-CExpr-2 hidden-the_row-CStmt-0 denote.Hole.Carrier.hidden
break_leaves_one_loop fr o = refl

-- a plain object gets a number of its type: 300 in a SINT is 44
abbrev place_x : List CItem
place_x = Object (Plain elems.Sint) (codes "X") [] ∷ []

object_is_set : (o : Objects) (n : ℕ)
    → c_exec (record { items = place_x; pointers = []; call = λ f xs p k. CPast }) (Set (here (codes "X")) (int 300)) (c_store o []) n
    ≡ CDone (c_store (set_plain o (Named (codes "X") ∷ []) (pos 44)) [], CNext) n
object_is_set o n = refl

-- ---- operators

truths : (fr : Frame) (s : CStore) (n : ℕ) → c_value fr (Bin And (Bin Le (int 2) (int 2)) (Bin Lt (int 1) (int 2))) s n ≡ CDone (of_type I32 (pos 1), s) n
unfolding hidden-the_row-CExpr-2 denote.Hole.Carrier.hidden
truths fr s n = refl

untruth : (fr : Frame) (s : CStore) (n : ℕ) → c_value fr (Bin And (Bin Le (int 2) (int 2)) (Bin Gt (int 2) (int 2))) s n ≡ CDone (of_type I32 (pos 0), s) n
unfolding hidden-the_row-CExpr-2 denote.Hole.Carrier.hidden
untruth fr s n = refl

bits : (fr : Frame) (s : CStore) (n : ℕ) → c_value fr (Bin Xor (int 12) (int 10)) s n ≡ CDone (of_type I32 (pos 6), s) n
unfolding hidden-the_row-CExpr-2 denote.Hole.Carrier.hidden
bits fr s n = refl

-- ---- a unit

abbrev ends_at_2 : CStmt
ends_at_2 = If (Bin Eq i (int 2)) (Return (Some (Bin Mul i (int 150))) ∷ []) None

abbrev climb : CStmt
climb = While (Bin Lt i (Path (here (codes "n")))) (While (int 1) (Break ∷ []) ∷ ends_at_2 ∷ next ∷ [])

abbrev f : Function
f = record {
  result = Some elems.Sint;
  name = codes "f";
  params = Value elems.Int (codes "n") ∷ [];
  locals = record { elem = elems.Int; name = codes "i"; init = int 0 } ∷ [];
  body = climb ∷ Return (Some i) ∷ [];
}

abbrev items : List CItem
items = Func f.result f.name f.params f.locals f.body ∷ Func None (codes "g") [] [] (Return None ∷ []) ∷ []

abbrev unit : CUnit
unit = record { parts = record { name = codes "plc.c"; items = items } ∷ [] }

abbrev text : List ℕ
text =
    codes "#include \"iec_std_lib.h\"\n"
    ++ codes "SINT f(INT n){\n" ++ codes "INT i = 0;\n"
    ++ codes "while((i < n)){\n" ++ codes "while(1){\n" ++ codes "break;\n" ++ codes "}\n"
    ++ codes "if((i == 2)){\n" ++ codes "return(i * 150);\n" ++ codes "}\n"
    ++ codes "i = (i + 1);\n" ++ codes "}\n" ++ codes "return i;\n" ++ codes "}\n"
    ++ codes "void g(void){\n" ++ codes "return;\n" ++ codes "}\n"

abbrev texts : List CText
texts = record { name = codes "plc.c"; bytes = text } ∷ []

unit_is_printed : printed_unit unit ≡ texts
unfolding digits laid_after item_pieces stmt_pieces expr_pieces path_pieces param_pieces local_pieces hidden-the_row-CExpr-2 hidden-the_row-CStmt-0 denote.Hole.Carrier.hidden
unit_is_printed = refl

unit_is_cut : cut_first text ≡ part_tokens true items
unfolding digits item_pieces stmt_pieces expr_pieces path_pieces param_pieces local_pieces hidden-the_row-CExpr-2 hidden-the_row-CStmt-0 denote.Hole.Carrier.hidden
unit_is_cut = refl

text_spells_the_unit : SpellsUnit texts unit
text_spells_the_unit = (refl, unit_is_cut, tt)

-- a third turn returns from both the loop and the function: 300 in a SINT is 44
return_leaves_the_function : c_call unit (codes "f") (ByValue (of_type I32 (pos 9)) ∷ []) no_objects 6 ≡ CDone (record { objects = no_objects; result = Some (of_type I32 (pos 44)) }) 0
unfolding hidden-the_row-CExpr-2 hidden-the_row-CStmt-0 denote.Hole.Carrier.hidden
return_leaves_the_function = refl

last_return : c_call unit (codes "f") (ByValue (of_type I32 (pos 1)) ∷ []) no_objects 2 ≡ CDone (record { objects = no_objects; result = Some (of_type I32 (pos 1)) }) 0
unfolding hidden-the_row-CExpr-2 hidden-the_row-CStmt-0 denote.Hole.Carrier.hidden
last_return = refl

i_is_spelled : WellSpelledExpr i
unfolding hidden-the_row-CExpr-2 denote.Hole.Carrier.hidden
i_is_spelled = (refl, tt, tt)

n_is_spelled : WellSpelledExpr (Path (here (codes "n")))
unfolding hidden-the_row-CExpr-2 denote.Hole.Carrier.hidden
n_is_spelled = (refl, tt, tt)

loop_is_spelled : WellSpelledStmt climb
unfolding hidden-the_row-CExpr-2 hidden-the_row-CStmt-0 denote.Hole.Carrier.hidden
loop_is_spelled = (
  (i_is_spelled, n_is_spelled),
  (
    (omega arith, (tt, tt)),
    (
      ((i_is_spelled, omega arith), ((i_is_spelled, omega arith), tt), tt),
      ((record { first = refl; arrow = tt; parts = tt }, (i_is_spelled, omega arith)), tt),
    ),
  ),
)

unit_is_spelled : WellSpelled unit
unit_is_spelled = (((refl, (refl, tt), (record { name = refl; init = omega arith }, tt), (loop_is_spelled, (i_is_spelled, tt))), ((refl, tt, tt, (tt, tt)), tt)), tt)

unit_is_good : Good unit
unfolding hidden-the_row-CExpr-2 hidden-the_row-CStmt-0 denote.Hole.Carrier.hidden
unit_is_good = record {
  spelled = unit_is_spelled;
  free = ((refl, (refl, (refl, tt))), ((refl, tt), tt));
  members = (refl, (refl, tt));
  brackets = (omega arith, (omega arith, tt));
  rules = refl;
}
