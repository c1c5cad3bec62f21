-- For each production of statements, tokens that spell a value, and some that differ little and spell none.
use Rattle.std.proofs.Common.{◌≡◌, false, true, List, [], ◌∷◌, ◌++◌, refl, pos, negsuc, Ok, Err, Option, None, Some, codes}
use Rattle.plc_tree.specs.declared.tree.Whole.{Whole}
use Rattle.plc_tree.specs.declared.tree.Expr.{Expr}
use Rattle.plc_tree.specs.declared.tree.Arg.TheVariants as in_arg
use Rattle.plc_tree.specs.declared.tree.Stmt.{Stmt}
use Rattle.plc_tree.specs.declared.tree.Stmt.TheVariants as stmt
use Rattle.plc_tree.specs.declared.tree.Arm.{Arm, roll-Arm}
use Rattle.plc_tree.specs.declared.tree.Choice.{Choice, roll-Choice}
use Rattle.plc_tree.specs.declared.tree.Label.{Label}
use Rattle.plc_tree.specs.declared.tree.Label.TheVariants as in_label
use Rattle.plc_tokens.specs.Sets as G
use Rattle.phrase.specs.declared.Fault.TheVariants.{Wrong, Deep}
use Rattle.phrase.specs.Piece.{via}
use Rattle.phrase.specs.Exact.{Phrase}
use Rattle.phrase.proofs.Rules.{Laws, pureL, bindL, bind_anyL}
use Rattle.phrase.proofs.Views.{viaL}
use Rattle.st_expr.specs.Integers.{sint}
use Rattle.st_expr.proofs.IntegerLaws.{sint_laws}
use Rattle.st_parse.specs.Statements.{stmts, else_if_any, arm, next_arm, if_rest, numbers, label, labels, choice, choices, items, case_rest, step_if_any, for_rest, while_rest, repeat_rest, empty_stmt, exit_stmt, return_stmt, call_stmt, set_stmt, one_stmt}
use Rattle.st_parse.specs.Depth.{nested}
use Rattle.st_parse.proofs.Cases.{same_choices}
use Rattle.st_parse.proofs.DepthLaws.{below_stmts}
use Rattle.st_parse.proofs.StatementLaws.{more_stmts, stmts_laws, else_laws, arm_laws, next_arm_laws, if_laws, numbers_laws, label_laws, labels_laws, items_laws, case_laws, step_if_any_laws, for_laws, while_laws, repeat_laws, empty_laws, exit_laws, return_laws, call_stmt_laws, set_laws, one_laws}
use Rattle.st_expr.proofs.SampleTokens.{here, nth, from, var_path, var, int, A, B, C, F, one, two, five, int_five, assign, range, lparen, rparen, comma, semi, colon, dot, minus, equal, hash}
use Rattle.st_parse.proofs.SampleTokens.{statements_on_tokens, IF, THEN, ELSIF, ELSE, END_IF, CASE, OF, END_CASE, FOR, TO, BY, DO, END_FOR, WHILE, END_WHILE, REPEAT, UNTIL, END_REPEAT, EXIT, RETURN}
use Rattle.phrase.proofs.Worked.{spelled, denied, left_over}

-- ---- laws of productions that stand inside others

choice_laws : Laws true 3 false true (G.SIGNED ++ G.NAME) more_stmts (λ e. choice (nested e))
unfolding choice
choice_laws = bindL (labels_laws 3 true) (λ l. bind_anyL (stmts_laws 3 nested (below_stmts 3)) (λ b. pureL _) refl) refl

choices_laws : Laws true 3 false true (G.SIGNED ++ G.NAME) (G.FIRST_ITEM ++ G.LABELLED ++ G.LPAREN) (λ e. via (choices (nested e)) (items (nested e)))
choices_laws = viaL (same_choices nested) (items_laws 3 nested (below_stmts 3))

-- ---- lists of statements

-- none, and two; no ";" behind EXIT
stmts_none_reads : (stmts (nested 3)).run [] ≡ (Ok [], [])
unfolding statements_on_tokens
stmts_none_reads = refl

stmts_none_spelled : (stmts (nested 3)).lang [] []
stmts_none_spelled = spelled ((stmts_laws 3 nested (below_stmts 3)).law refl) stmts_none_reads

stmts_reads : (stmts (nested 3)).run (from 0 (semi ∷ EXIT ∷ semi ∷ [])) ≡ (Ok (stmt.Empty ∷ stmt.Exit (here 1) ∷ []), [])
unfolding statements_on_tokens
stmts_reads = refl

stmts_spelled : (stmts (nested 3)).lang (from 0 (semi ∷ EXIT ∷ semi ∷ [])) (stmt.Empty ∷ stmt.Exit (here 1) ∷ [])
stmts_spelled = spelled ((stmts_laws 3 nested (below_stmts 3)).law refl) stmts_reads

stmts_stops : (stmts (nested 3)).run (from 0 (semi ∷ EXIT ∷ [])) ≡ (Err Wrong, [])
unfolding statements_on_tokens
stmts_stops = refl

stmts_denied : (a : List Stmt) → Phrase (λ e. stmts (nested e)) (from 0 (semi ∷ EXIT ∷ [])) a → ⊥
stmts_denied = denied ((stmts_laws 3 nested (below_stmts 3)).law refl) stmts_stops

-- no ELSE, and ELSE with one statement; no ";" behind EXIT, and no second ELSE
else_none_reads : (else_if_any (nested 3)).run [] ≡ (Ok [], [])
unfolding statements_on_tokens
else_none_reads = refl

else_none_spelled : (else_if_any (nested 3)).lang [] []
else_none_spelled = spelled ((else_laws 3 nested (below_stmts 3)).law refl) else_none_reads

else_reads : (else_if_any (nested 3)).run (from 0 (ELSE ∷ semi ∷ [])) ≡ (Ok (stmt.Empty ∷ []), [])
unfolding statements_on_tokens
else_reads = refl

else_spelled : (else_if_any (nested 3)).lang (from 0 (ELSE ∷ semi ∷ [])) (stmt.Empty ∷ [])
else_spelled = spelled ((else_laws 3 nested (below_stmts 3)).law refl) else_reads

else_stops : (else_if_any (nested 3)).run (from 0 (ELSE ∷ EXIT ∷ [])) ≡ (Err Wrong, [])
unfolding statements_on_tokens
else_stops = refl

else_denied : (a : List Stmt) → Phrase (λ e. else_if_any (nested e)) (from 0 (ELSE ∷ EXIT ∷ [])) a → ⊥
else_denied = denied ((else_laws 3 nested (below_stmts 3)).law refl) else_stops

else_else_stops : (else_if_any (nested 3)).run (from 0 (ELSE ∷ ELSE ∷ semi ∷ [])) ≡ (Ok [], from 1 (ELSE ∷ semi ∷ []))
unfolding statements_on_tokens
else_else_stops = refl

else_else_denied : (a : List Stmt) → Phrase (λ e. else_if_any (nested e)) (from 0 (ELSE ∷ ELSE ∷ semi ∷ [])) a → ⊥
else_else_denied = left_over ((else_laws 3 nested (below_stmts 3)).law refl) else_else_stops

-- ---- IF

-- A THEN and a statement; no THEN
arm_reads : (arm (nested 3)).run (from 0 (A ∷ THEN ∷ semi ∷ [])) ≡ (Ok (roll-Arm (record { test = var A 0; body = stmt.Empty ∷ [] })), [])
unfolding statements_on_tokens
arm_reads = refl

arm_spelled : (arm (nested 3)).lang (from 0 (A ∷ THEN ∷ semi ∷ [])) (roll-Arm (record { test = var A 0; body = stmt.Empty ∷ [] }))
arm_spelled = spelled ((arm_laws 3 nested (below_stmts 3)).law refl) arm_reads

arm_stops : (arm (nested 3)).run (from 0 (A ∷ semi ∷ [])) ≡ (Err Wrong, from 1 (semi ∷ []))
unfolding statements_on_tokens
arm_stops = refl

arm_denied : (a : Arm) → Phrase (λ e. arm (nested e)) (from 0 (A ∷ semi ∷ [])) a → ⊥
arm_denied = denied ((arm_laws 3 nested (below_stmts 3)).law refl) arm_stops

-- ELSIF A THEN behind no arm, and ELSE is not ELSIF
next_arm_reads : (next_arm (nested 3) []).run (from 0 (ELSIF ∷ A ∷ THEN ∷ [])) ≡ (Ok (roll-Arm (record { test = var A 1; body = [] }) ∷ []), [])
unfolding statements_on_tokens
next_arm_reads = refl

next_arm_spelled : (next_arm (nested 3) []).lang (from 0 (ELSIF ∷ A ∷ THEN ∷ [])) (roll-Arm (record { test = var A 1; body = [] }) ∷ [])
next_arm_spelled = spelled ((next_arm_laws 3 nested (below_stmts 3) []).law refl) next_arm_reads

next_arm_stops : (next_arm (nested 3) []).run (from 0 (ELSE ∷ A ∷ THEN ∷ [])) ≡ (Err Wrong, from 0 (ELSE ∷ A ∷ THEN ∷ []))
unfolding statements_on_tokens
next_arm_stops = refl

next_arm_denied : (a : List Arm) → Phrase (λ e. next_arm (nested e) []) (from 0 (ELSE ∷ A ∷ THEN ∷ [])) a → ⊥
next_arm_denied = denied ((next_arm_laws 3 nested (below_stmts 3) []).law refl) next_arm_stops

-- behind IF: an arm, one behind ELSIF, and ELSE; ELSIF is refused behind ELSE
if_reads : (if_rest (nested 3) (nth 0 IF)).run (from 1 (A ∷ THEN ∷ EXIT ∷ semi ∷ ELSIF ∷ B ∷ THEN ∷ ELSE ∷ semi ∷ END_IF ∷ semi ∷ [])) ≡ (Ok (stmt.If (roll-Arm (record { test = var A 1; body = stmt.Exit (here 3) ∷ [] }) ∷ roll-Arm (record { test = var B 6; body = [] }) ∷ []) (stmt.Empty ∷ [])), [])
unfolding statements_on_tokens
if_reads = refl

if_spelled : (if_rest (nested 3) (nth 0 IF)).lang (from 1 (A ∷ THEN ∷ EXIT ∷ semi ∷ ELSIF ∷ B ∷ THEN ∷ ELSE ∷ semi ∷ END_IF ∷ semi ∷ [])) (stmt.If (roll-Arm (record { test = var A 1; body = stmt.Exit (here 3) ∷ [] }) ∷ roll-Arm (record { test = var B 6; body = [] }) ∷ []) (stmt.Empty ∷ []))
if_spelled = spelled ((if_laws 3 nested (below_stmts 3) (nth 0 IF)).law refl) if_reads

if_stops : (if_rest (nested 3) (nth 0 IF)).run (from 1 (A ∷ THEN ∷ EXIT ∷ semi ∷ ELSE ∷ semi ∷ ELSIF ∷ B ∷ THEN ∷ END_IF ∷ semi ∷ [])) ≡ (Err Wrong, from 7 (ELSIF ∷ B ∷ THEN ∷ END_IF ∷ semi ∷ []))
unfolding statements_on_tokens
if_stops = refl

if_denied : (a : Stmt) → Phrase (λ e. if_rest (nested e) (nth 0 IF)) (from 1 (A ∷ THEN ∷ EXIT ∷ semi ∷ ELSE ∷ semi ∷ ELSIF ∷ B ∷ THEN ∷ END_IF ∷ semi ∷ [])) a → ⊥
if_denied = denied ((if_laws 3 nested (below_stmts 3) (nth 0 IF)).law refl) if_stops

-- ---- labels of CASE

-- 5 and - 5; no second sign, and no type
sint_reads : (sint).run (from 0 (five ∷ [])) ≡ (Ok (record { value = pos 5; at = here 0 }), [])
unfolding statements_on_tokens
sint_reads = refl

sint_spelled : (sint).lang (from 0 (five ∷ [])) (record { value = pos 5; at = here 0 })
sint_spelled = spelled ((sint_laws 3 true).law refl) sint_reads

sint_negative_reads : (sint).run (from 0 (minus ∷ five ∷ [])) ≡ (Ok (record { value = negsuc 4; at = here 0 }), [])
unfolding statements_on_tokens
sint_negative_reads = refl

sint_negative_spelled : (sint).lang (from 0 (minus ∷ five ∷ [])) (record { value = negsuc 4; at = here 0 })
sint_negative_spelled = spelled ((sint_laws 3 true).law refl) sint_negative_reads

sint_stops : (sint).run (from 0 (minus ∷ minus ∷ five ∷ [])) ≡ (Err Wrong, from 1 (minus ∷ five ∷ []))
unfolding statements_on_tokens
sint_stops = refl

sint_denied : (a : Whole) → Phrase (λ e. sint) (from 0 (minus ∷ minus ∷ five ∷ [])) a → ⊥
sint_denied = denied ((sint_laws 3 true).law refl) sint_stops

sint_typed_stops : (sint).run (from 0 (minus ∷ int_five ∷ [])) ≡ (Err Wrong, from 1 (int_five ∷ []))
unfolding statements_on_tokens
sint_typed_stops = refl

sint_typed_denied : (a : Whole) → Phrase (λ e. sint) (from 0 (minus ∷ int_five ∷ [])) a → ⊥
sint_typed_denied = denied ((sint_laws 3 true).law refl) sint_typed_stops

-- 1 is the range from it to it; - 5 .. 1; a name ends no range
numbers_reads : (numbers).run (from 0 (one ∷ [])) ≡ (Ok (in_label.Range (pos 1) (pos 1) (here 0)), [])
unfolding statements_on_tokens
numbers_reads = refl

numbers_spelled : (numbers).lang (from 0 (one ∷ [])) (in_label.Range (pos 1) (pos 1) (here 0))
numbers_spelled = spelled ((numbers_laws 3 true).law refl) numbers_reads

numbers_range_reads : (numbers).run (from 0 (minus ∷ five ∷ range ∷ one ∷ [])) ≡ (Ok (in_label.Range (negsuc 4) (pos 1) (here 0)), [])
unfolding statements_on_tokens
numbers_range_reads = refl

numbers_range_spelled : (numbers).lang (from 0 (minus ∷ five ∷ range ∷ one ∷ [])) (in_label.Range (negsuc 4) (pos 1) (here 0))
numbers_range_spelled = spelled ((numbers_laws 3 true).law refl) numbers_range_reads

numbers_stops : (numbers).run (from 0 (one ∷ range ∷ A ∷ [])) ≡ (Err Wrong, from 2 (A ∷ []))
unfolding statements_on_tokens
numbers_stops = refl

numbers_denied : (a : Label) → Phrase (λ e. numbers) (from 0 (one ∷ range ∷ A ∷ [])) a → ⊥
numbers_denied = denied ((numbers_laws 3 true).law refl) numbers_stops

-- 5, A and C#A, and C#5 is none
label_reads : (label).run (from 0 (five ∷ [])) ≡ (Ok (in_label.Range (pos 5) (pos 5) (here 0)), [])
unfolding statements_on_tokens
label_reads = refl

label_spelled : (label).lang (from 0 (five ∷ [])) (in_label.Range (pos 5) (pos 5) (here 0))
label_spelled = spelled ((label_laws 3 true).law refl) label_reads

label_name_reads : (label).run (from 0 (A ∷ [])) ≡ (Ok (in_label.Value None (codes "A") (here 0) (here 0)), [])
unfolding statements_on_tokens
label_name_reads = refl

label_name_spelled : (label).lang (from 0 (A ∷ [])) (in_label.Value None (codes "A") (here 0) (here 0))
label_name_spelled = spelled ((label_laws 3 true).law refl) label_name_reads

label_value_reads : (label).run (from 0 (C ∷ hash ∷ A ∷ [])) ≡ (Ok (in_label.Value (Some (codes "C")) (codes "A") (here 0) (here 2)), [])
unfolding statements_on_tokens
label_value_reads = refl

label_value_spelled : (label).lang (from 0 (C ∷ hash ∷ A ∷ [])) (in_label.Value (Some (codes "C")) (codes "A") (here 0) (here 2))
label_value_spelled = spelled ((label_laws 3 true).law refl) label_value_reads

label_stops : (label).run (from 0 (C ∷ hash ∷ five ∷ [])) ≡ (Err Wrong, from 2 (five ∷ []))
unfolding statements_on_tokens
label_stops = refl

label_denied : (a : Label) → Phrase (λ e. label) (from 0 (C ∷ hash ∷ five ∷ [])) a → ⊥
label_denied = denied ((label_laws 3 true).law refl) label_stops

-- 1, A: and A, 1 .. 5:, and no label behind ","
labels_reads : (labels).run (from 0 (one ∷ comma ∷ A ∷ colon ∷ [])) ≡ (Ok (in_label.Range (pos 1) (pos 1) (here 0) ∷ in_label.Value None (codes "A") (here 2) (here 2) ∷ []), [])
unfolding statements_on_tokens
labels_reads = refl

labels_spelled : (labels).lang (from 0 (one ∷ comma ∷ A ∷ colon ∷ [])) (in_label.Range (pos 1) (pos 1) (here 0) ∷ in_label.Value None (codes "A") (here 2) (here 2) ∷ [])
labels_spelled = spelled ((labels_laws 3 true).law refl) labels_reads

labels_name_reads : (labels).run (from 0 (A ∷ comma ∷ one ∷ range ∷ five ∷ colon ∷ [])) ≡ (Ok (in_label.Value None (codes "A") (here 0) (here 0) ∷ in_label.Range (pos 1) (pos 5) (here 2) ∷ []), [])
unfolding statements_on_tokens
labels_name_reads = refl

labels_name_spelled : (labels).lang (from 0 (A ∷ comma ∷ one ∷ range ∷ five ∷ colon ∷ [])) (in_label.Value None (codes "A") (here 0) (here 0) ∷ in_label.Range (pos 1) (pos 5) (here 2) ∷ [])
labels_name_spelled = spelled ((labels_laws 3 true).law refl) labels_name_reads

labels_stops : (labels).run (from 0 (one ∷ comma ∷ colon ∷ [])) ≡ (Err Wrong, from 2 (colon ∷ []))
unfolding statements_on_tokens
labels_stops = refl

labels_denied : (a : List Label) → Phrase (λ e. labels) (from 0 (one ∷ comma ∷ colon ∷ [])) a → ⊥
labels_denied = denied ((labels_laws 3 true).law refl) labels_stops

-- ---- CASE

-- 1: and a statement; no ":"
choice_reads : (choice (nested 3)).run (from 0 (one ∷ colon ∷ semi ∷ [])) ≡ (Ok (roll-Choice (record { labels = in_label.Range (pos 1) (pos 1) (here 0) ∷ []; body = stmt.Empty ∷ [] })), [])
unfolding statements_on_tokens
choice_reads = refl

choice_spelled : (choice (nested 3)).lang (from 0 (one ∷ colon ∷ semi ∷ [])) (roll-Choice (record { labels = in_label.Range (pos 1) (pos 1) (here 0) ∷ []; body = stmt.Empty ∷ [] }))
choice_spelled = spelled ((choice_laws).law refl) choice_reads

choice_stops : (choice (nested 3)).run (from 0 (one ∷ semi ∷ [])) ≡ (Err Wrong, from 1 (semi ∷ []))
unfolding statements_on_tokens
choice_stops = refl

choice_denied : (a : Choice) → Phrase (λ e. choice (nested e)) (from 0 (one ∷ semi ∷ [])) a → ⊥
choice_denied = denied ((choice_laws).law refl) choice_stops

-- 1: A := 1; B: ;, where A begins a statement and B is a label, and C#B in its place; B; is no statement
choices_reads : (via (choices (nested 3)) (items (nested 3))).run (from 0 (one ∷ colon ∷ A ∷ assign ∷ one ∷ semi ∷ B ∷ colon ∷ semi ∷ [])) ≡ (Ok (roll-Choice (record { labels = in_label.Range (pos 1) (pos 1) (here 0) ∷ []; body = stmt.Set (var_path A 2) (int 1 4) ∷ [] }) ∷ roll-Choice (record { labels = in_label.Value None (codes "B") (here 6) (here 6) ∷ []; body = stmt.Empty ∷ [] }) ∷ []), [])
unfolding statements_on_tokens
choices_reads = refl

choices_spelled : (via (choices (nested 3)) (items (nested 3))).lang (from 0 (one ∷ colon ∷ A ∷ assign ∷ one ∷ semi ∷ B ∷ colon ∷ semi ∷ [])) (roll-Choice (record { labels = in_label.Range (pos 1) (pos 1) (here 0) ∷ []; body = stmt.Set (var_path A 2) (int 1 4) ∷ [] }) ∷ roll-Choice (record { labels = in_label.Value None (codes "B") (here 6) (here 6) ∷ []; body = stmt.Empty ∷ [] }) ∷ [])
choices_spelled = spelled ((choices_laws).law refl) choices_reads

choices_value_reads : (via (choices (nested 3)) (items (nested 3))).run (from 0 (B ∷ colon ∷ A ∷ assign ∷ one ∷ semi ∷ C ∷ hash ∷ B ∷ colon ∷ semi ∷ [])) ≡ (Ok (roll-Choice (record { labels = in_label.Value None (codes "B") (here 0) (here 0) ∷ []; body = stmt.Set (var_path A 2) (int 1 4) ∷ [] }) ∷ roll-Choice (record { labels = in_label.Value (Some (codes "C")) (codes "B") (here 6) (here 8) ∷ []; body = stmt.Empty ∷ [] }) ∷ []), [])
unfolding statements_on_tokens
choices_value_reads = refl

choices_value_spelled : (via (choices (nested 3)) (items (nested 3))).lang (from 0 (B ∷ colon ∷ A ∷ assign ∷ one ∷ semi ∷ C ∷ hash ∷ B ∷ colon ∷ semi ∷ [])) (roll-Choice (record { labels = in_label.Value None (codes "B") (here 0) (here 0) ∷ []; body = stmt.Set (var_path A 2) (int 1 4) ∷ [] }) ∷ roll-Choice (record { labels = in_label.Value (Some (codes "C")) (codes "B") (here 6) (here 8) ∷ []; body = stmt.Empty ∷ [] }) ∷ [])
choices_value_spelled = spelled ((choices_laws).law refl) choices_value_reads

choices_stops : (via (choices (nested 3)) (items (nested 3))).run (from 0 (one ∷ colon ∷ A ∷ assign ∷ one ∷ semi ∷ B ∷ semi ∷ [])) ≡ (Err Wrong, from 7 (semi ∷ []))
unfolding statements_on_tokens
choices_stops = refl

choices_denied : (a : List Choice) → Phrase (λ e. via (choices (nested e)) (items (nested e))) (from 0 (one ∷ colon ∷ A ∷ assign ∷ one ∷ semi ∷ B ∷ semi ∷ [])) a → ⊥
choices_denied = denied ((choices_laws).law refl) choices_stops

-- behind CASE: A OF, those arms, and ELSE; one arm at least
case_reads : (case_rest (nested 3) (nth 0 CASE)).run (from 1 (A ∷ OF ∷ one ∷ colon ∷ A ∷ assign ∷ one ∷ semi ∷ B ∷ colon ∷ semi ∷ ELSE ∷ semi ∷ END_CASE ∷ semi ∷ [])) ≡ (Ok (stmt.Case (var A 1) (roll-Choice (record { labels = in_label.Range (pos 1) (pos 1) (here 3) ∷ []; body = stmt.Set (var_path A 5) (int 1 7) ∷ [] }) ∷ roll-Choice (record { labels = in_label.Value None (codes "B") (here 9) (here 9) ∷ []; body = stmt.Empty ∷ [] }) ∷ []) (stmt.Empty ∷ [])), [])
unfolding statements_on_tokens
case_reads = refl

case_spelled : (case_rest (nested 3) (nth 0 CASE)).lang (from 1 (A ∷ OF ∷ one ∷ colon ∷ A ∷ assign ∷ one ∷ semi ∷ B ∷ colon ∷ semi ∷ ELSE ∷ semi ∷ END_CASE ∷ semi ∷ [])) (stmt.Case (var A 1) (roll-Choice (record { labels = in_label.Range (pos 1) (pos 1) (here 3) ∷ []; body = stmt.Set (var_path A 5) (int 1 7) ∷ [] }) ∷ roll-Choice (record { labels = in_label.Value None (codes "B") (here 9) (here 9) ∷ []; body = stmt.Empty ∷ [] }) ∷ []) (stmt.Empty ∷ []))
case_spelled = spelled ((case_laws 3 nested (below_stmts 3) (nth 0 CASE)).law refl) case_reads

case_stops : (case_rest (nested 3) (nth 0 CASE)).run (from 1 (A ∷ OF ∷ ELSE ∷ semi ∷ END_CASE ∷ semi ∷ [])) ≡ (Err Wrong, from 3 (ELSE ∷ semi ∷ END_CASE ∷ semi ∷ []))
unfolding statements_on_tokens
case_stops = refl

case_denied : (a : Stmt) → Phrase (λ e. case_rest (nested e) (nth 0 CASE)) (from 1 (A ∷ OF ∷ ELSE ∷ semi ∷ END_CASE ∷ semi ∷ [])) a → ⊥
case_denied = denied ((case_laws 3 nested (below_stmts 3) (nth 0 CASE)).law refl) case_stops

-- ---- loops

-- no BY, and BY 2; no expression behind BY
step_none_reads : (step_if_any (nested 3)).run [] ≡ (Ok None, [])
unfolding statements_on_tokens
step_none_reads = refl

step_none_spelled : (step_if_any (nested 3)).lang [] None
step_none_spelled = spelled ((step_if_any_laws 3 nested (below_stmts 3)).law refl) step_none_reads

step_reads : (step_if_any (nested 3)).run (from 0 (BY ∷ two ∷ [])) ≡ (Ok (Some (int 2 1)), [])
unfolding statements_on_tokens
step_reads = refl

step_spelled : (step_if_any (nested 3)).lang (from 0 (BY ∷ two ∷ [])) (Some (int 2 1))
step_spelled = spelled ((step_if_any_laws 3 nested (below_stmts 3)).law refl) step_reads

step_stops : (step_if_any (nested 3)).run (from 0 (BY ∷ DO ∷ [])) ≡ (Err Wrong, from 1 (DO ∷ []))
unfolding statements_on_tokens
step_stops = refl

step_denied : (a : Option Expr) → Phrase (λ e. step_if_any (nested e)) (from 0 (BY ∷ DO ∷ [])) a → ⊥
step_denied = denied ((step_if_any_laws 3 nested (below_stmts 3)).law refl) step_stops

-- behind FOR: A := 1 TO 5 BY 2 and its statements; A.B is no name
for_reads : (for_rest (nested 3) (nth 0 FOR)).run (from 1 (A ∷ assign ∷ one ∷ TO ∷ five ∷ BY ∷ two ∷ DO ∷ semi ∷ END_FOR ∷ semi ∷ [])) ≡ (Ok (stmt.For (var_path A 1) (int 1 3) (int 5 5) (Some (int 2 7)) (stmt.Empty ∷ [])), [])
unfolding statements_on_tokens
for_reads = refl

for_spelled : (for_rest (nested 3) (nth 0 FOR)).lang (from 1 (A ∷ assign ∷ one ∷ TO ∷ five ∷ BY ∷ two ∷ DO ∷ semi ∷ END_FOR ∷ semi ∷ [])) (stmt.For (var_path A 1) (int 1 3) (int 5 5) (Some (int 2 7)) (stmt.Empty ∷ []))
for_spelled = spelled ((for_laws 3 nested (below_stmts 3) (nth 0 FOR)).law refl) for_reads

for_stops : (for_rest (nested 3) (nth 0 FOR)).run (from 1 (A ∷ dot ∷ B ∷ assign ∷ one ∷ TO ∷ five ∷ DO ∷ semi ∷ END_FOR ∷ semi ∷ [])) ≡ (Err Wrong, from 2 (dot ∷ B ∷ assign ∷ one ∷ TO ∷ five ∷ DO ∷ semi ∷ END_FOR ∷ semi ∷ []))
unfolding statements_on_tokens
for_stops = refl

for_denied : (a : Stmt) → Phrase (λ e. for_rest (nested e) (nth 0 FOR)) (from 1 (A ∷ dot ∷ B ∷ assign ∷ one ∷ TO ∷ five ∷ DO ∷ semi ∷ END_FOR ∷ semi ∷ [])) a → ⊥
for_denied = denied ((for_laws 3 nested (below_stmts 3) (nth 0 FOR)).law refl) for_stops

-- behind WHILE: A DO and its statements; no DO
while_reads : (while_rest (nested 3) (nth 0 WHILE)).run (from 1 (A ∷ DO ∷ EXIT ∷ semi ∷ END_WHILE ∷ semi ∷ [])) ≡ (Ok (stmt.While (var A 1) (stmt.Exit (here 3) ∷ [])), [])
unfolding statements_on_tokens
while_reads = refl

while_spelled : (while_rest (nested 3) (nth 0 WHILE)).lang (from 1 (A ∷ DO ∷ EXIT ∷ semi ∷ END_WHILE ∷ semi ∷ [])) (stmt.While (var A 1) (stmt.Exit (here 3) ∷ []))
while_spelled = spelled ((while_laws 3 nested (below_stmts 3) (nth 0 WHILE)).law refl) while_reads

while_stops : (while_rest (nested 3) (nth 0 WHILE)).run (from 1 (A ∷ EXIT ∷ semi ∷ END_WHILE ∷ semi ∷ [])) ≡ (Err Wrong, from 2 (EXIT ∷ semi ∷ END_WHILE ∷ semi ∷ []))
unfolding statements_on_tokens
while_stops = refl

while_denied : (a : Stmt) → Phrase (λ e. while_rest (nested e) (nth 0 WHILE)) (from 1 (A ∷ EXIT ∷ semi ∷ END_WHILE ∷ semi ∷ [])) a → ⊥
while_denied = denied ((while_laws 3 nested (below_stmts 3) (nth 0 WHILE)).law refl) while_stops

-- behind REPEAT: a statement, UNTIL and A; no ";" stands behind A
repeat_reads : (repeat_rest (nested 3) (nth 0 REPEAT)).run (from 1 (semi ∷ UNTIL ∷ A ∷ END_REPEAT ∷ semi ∷ [])) ≡ (Ok (stmt.Repeat (stmt.Empty ∷ []) (var A 3)), [])
unfolding statements_on_tokens
repeat_reads = refl

repeat_spelled : (repeat_rest (nested 3) (nth 0 REPEAT)).lang (from 1 (semi ∷ UNTIL ∷ A ∷ END_REPEAT ∷ semi ∷ [])) (stmt.Repeat (stmt.Empty ∷ []) (var A 3))
repeat_spelled = spelled ((repeat_laws 3 nested (below_stmts 3) (nth 0 REPEAT)).law refl) repeat_reads

repeat_stops : (repeat_rest (nested 3) (nth 0 REPEAT)).run (from 1 (semi ∷ UNTIL ∷ A ∷ semi ∷ END_REPEAT ∷ semi ∷ [])) ≡ (Err Wrong, from 4 (semi ∷ END_REPEAT ∷ semi ∷ []))
unfolding statements_on_tokens
repeat_stops = refl

repeat_denied : (a : Stmt) → Phrase (λ e. repeat_rest (nested e) (nth 0 REPEAT)) (from 1 (semi ∷ UNTIL ∷ A ∷ semi ∷ END_REPEAT ∷ semi ∷ [])) a → ⊥
repeat_denied = denied ((repeat_laws 3 nested (below_stmts 3) (nth 0 REPEAT)).law refl) repeat_stops

-- ---- statements

-- ";", and "," is none
empty_reads : (empty_stmt).run (from 0 (semi ∷ [])) ≡ (Ok stmt.Empty, [])
unfolding statements_on_tokens
empty_reads = refl

empty_spelled : (empty_stmt).lang (from 0 (semi ∷ [])) stmt.Empty
empty_spelled = spelled ((empty_laws 3 nested (below_stmts 3)).law refl) empty_reads

empty_stops : (empty_stmt).run (from 0 (comma ∷ [])) ≡ (Err Wrong, from 0 (comma ∷ []))
unfolding statements_on_tokens
empty_stops = refl

empty_denied : (a : Stmt) → Phrase (λ e. empty_stmt) (from 0 (comma ∷ [])) a → ⊥
empty_denied = denied ((empty_laws 3 nested (below_stmts 3)).law refl) empty_stops

-- EXIT;, and no ";"
exit_reads : (exit_stmt).run (from 0 (EXIT ∷ semi ∷ [])) ≡ (Ok (stmt.Exit (here 0)), [])
unfolding statements_on_tokens
exit_reads = refl

exit_spelled : (exit_stmt).lang (from 0 (EXIT ∷ semi ∷ [])) (stmt.Exit (here 0))
exit_spelled = spelled ((exit_laws 3 nested (below_stmts 3)).law refl) exit_reads

exit_stops : (exit_stmt).run (from 0 (EXIT ∷ [])) ≡ (Err Wrong, [])
unfolding statements_on_tokens
exit_stops = refl

exit_denied : (a : Stmt) → Phrase (λ e. exit_stmt) (from 0 (EXIT ∷ [])) a → ⊥
exit_denied = denied ((exit_laws 3 nested (below_stmts 3)).law refl) exit_stops

-- RETURN;, and no value behind RETURN
return_reads : (return_stmt).run (from 0 (RETURN ∷ semi ∷ [])) ≡ (Ok (stmt.Return (here 0)), [])
unfolding statements_on_tokens
return_reads = refl

return_spelled : (return_stmt).lang (from 0 (RETURN ∷ semi ∷ [])) (stmt.Return (here 0))
return_spelled = spelled ((return_laws 3 nested (below_stmts 3)).law refl) return_reads

return_stops : (return_stmt).run (from 0 (RETURN ∷ A ∷ semi ∷ [])) ≡ (Err Wrong, from 1 (A ∷ semi ∷ []))
unfolding statements_on_tokens
return_stops = refl

return_denied : (a : Stmt) → Phrase (λ e. return_stmt) (from 0 (RETURN ∷ A ∷ semi ∷ [])) a → ⊥
return_denied = denied ((return_laws 3 nested (below_stmts 3)).law refl) return_stops

-- behind F and "(": A := 1 and ");"; no ")"
call_reads : (call_stmt (nested 3) (nth 0 F)).run (from 2 (A ∷ assign ∷ one ∷ rparen ∷ semi ∷ [])) ≡ (Ok (stmt.Call (codes "F") (here 0) (in_arg.Named (codes "A") (here 2) (int 1 4) ∷ [])), [])
unfolding statements_on_tokens
call_reads = refl

call_spelled : (call_stmt (nested 3) (nth 0 F)).lang (from 2 (A ∷ assign ∷ one ∷ rparen ∷ semi ∷ [])) (stmt.Call (codes "F") (here 0) (in_arg.Named (codes "A") (here 2) (int 1 4) ∷ []))
call_spelled = spelled ((call_stmt_laws 3 nested (below_stmts 3) (nth 0 F)).law refl) call_reads

call_stops : (call_stmt (nested 3) (nth 0 F)).run (from 2 (A ∷ assign ∷ one ∷ semi ∷ [])) ≡ (Err Wrong, from 5 (semi ∷ []))
unfolding statements_on_tokens
call_stops = refl

call_denied : (a : Stmt) → Phrase (λ e. call_stmt (nested e) (nth 0 F)) (from 2 (A ∷ assign ∷ one ∷ semi ∷ [])) a → ⊥
call_denied = denied ((call_stmt_laws 3 nested (below_stmts 3) (nth 0 F)).law refl) call_stops

-- A := 1;, and = is not :=
set_reads : (set_stmt 3 (nested 3)).run (from 0 (A ∷ assign ∷ one ∷ semi ∷ [])) ≡ (Ok (stmt.Set (var_path A 0) (int 1 2)), [])
unfolding statements_on_tokens
set_reads = refl

set_spelled : (set_stmt 3 (nested 3)).lang (from 0 (A ∷ assign ∷ one ∷ semi ∷ [])) (stmt.Set (var_path A 0) (int 1 2))
set_spelled = spelled ((set_laws 3 nested (below_stmts 3)).law refl) set_reads

set_stops : (set_stmt 3 (nested 3)).run (from 0 (A ∷ equal ∷ one ∷ semi ∷ [])) ≡ (Err Wrong, from 1 (equal ∷ one ∷ semi ∷ []))
unfolding statements_on_tokens
set_stops = refl

set_denied : (a : Stmt) → Phrase (λ e. set_stmt e (nested e)) (from 0 (A ∷ equal ∷ one ∷ semi ∷ [])) a → ⊥
set_denied = denied ((set_laws 3 nested (below_stmts 3)).law refl) set_stops

-- a short one of each; a call takes no value, a variable alone is no statement, and ";" stands behind END_IF
one_empty_reads : (one_stmt 3 (nested 3)).run (from 0 (semi ∷ [])) ≡ (Ok stmt.Empty, [])
unfolding statements_on_tokens
one_empty_reads = refl

one_empty_spelled : (one_stmt 3 (nested 3)).lang (from 0 (semi ∷ [])) stmt.Empty
one_empty_spelled = spelled ((one_laws 3 nested (below_stmts 3)).law refl) one_empty_reads

one_set_reads : (one_stmt 3 (nested 3)).run (from 0 (A ∷ assign ∷ one ∷ semi ∷ [])) ≡ (Ok (stmt.Set (var_path A 0) (int 1 2)), [])
unfolding statements_on_tokens
one_set_reads = refl

one_set_spelled : (one_stmt 3 (nested 3)).lang (from 0 (A ∷ assign ∷ one ∷ semi ∷ [])) (stmt.Set (var_path A 0) (int 1 2))
one_set_spelled = spelled ((one_laws 3 nested (below_stmts 3)).law refl) one_set_reads

one_call_reads : (one_stmt 3 (nested 3)).run (from 0 (F ∷ lparen ∷ rparen ∷ semi ∷ [])) ≡ (Ok (stmt.Call (codes "F") (here 0) []), [])
unfolding statements_on_tokens
one_call_reads = refl

one_call_spelled : (one_stmt 3 (nested 3)).lang (from 0 (F ∷ lparen ∷ rparen ∷ semi ∷ [])) (stmt.Call (codes "F") (here 0) [])
one_call_spelled = spelled ((one_laws 3 nested (below_stmts 3)).law refl) one_call_reads

one_if_reads : (one_stmt 3 (nested 3)).run (from 0 (IF ∷ A ∷ THEN ∷ END_IF ∷ semi ∷ [])) ≡ (Ok (stmt.If (roll-Arm (record { test = var A 1; body = [] }) ∷ []) []), [])
unfolding statements_on_tokens
one_if_reads = refl

one_if_spelled : (one_stmt 3 (nested 3)).lang (from 0 (IF ∷ A ∷ THEN ∷ END_IF ∷ semi ∷ [])) (stmt.If (roll-Arm (record { test = var A 1; body = [] }) ∷ []) [])
one_if_spelled = spelled ((one_laws 3 nested (below_stmts 3)).law refl) one_if_reads

one_case_reads : (one_stmt 3 (nested 3)).run (from 0 (CASE ∷ A ∷ OF ∷ one ∷ colon ∷ END_CASE ∷ semi ∷ [])) ≡ (Ok (stmt.Case (var A 1) (roll-Choice (record { labels = in_label.Range (pos 1) (pos 1) (here 3) ∷ []; body = [] }) ∷ []) []), [])
unfolding statements_on_tokens
one_case_reads = refl

one_case_spelled : (one_stmt 3 (nested 3)).lang (from 0 (CASE ∷ A ∷ OF ∷ one ∷ colon ∷ END_CASE ∷ semi ∷ [])) (stmt.Case (var A 1) (roll-Choice (record { labels = in_label.Range (pos 1) (pos 1) (here 3) ∷ []; body = [] }) ∷ []) [])
one_case_spelled = spelled ((one_laws 3 nested (below_stmts 3)).law refl) one_case_reads

one_for_reads : (one_stmt 3 (nested 3)).run (from 0 (FOR ∷ A ∷ assign ∷ one ∷ TO ∷ five ∷ DO ∷ END_FOR ∷ semi ∷ [])) ≡ (Ok (stmt.For (var_path A 1) (int 1 3) (int 5 5) None []), [])
unfolding statements_on_tokens
one_for_reads = refl

one_for_spelled : (one_stmt 3 (nested 3)).lang (from 0 (FOR ∷ A ∷ assign ∷ one ∷ TO ∷ five ∷ DO ∷ END_FOR ∷ semi ∷ [])) (stmt.For (var_path A 1) (int 1 3) (int 5 5) None [])
one_for_spelled = spelled ((one_laws 3 nested (below_stmts 3)).law refl) one_for_reads

one_while_reads : (one_stmt 3 (nested 3)).run (from 0 (WHILE ∷ A ∷ DO ∷ END_WHILE ∷ semi ∷ [])) ≡ (Ok (stmt.While (var A 1) []), [])
unfolding statements_on_tokens
one_while_reads = refl

one_while_spelled : (one_stmt 3 (nested 3)).lang (from 0 (WHILE ∷ A ∷ DO ∷ END_WHILE ∷ semi ∷ [])) (stmt.While (var A 1) [])
one_while_spelled = spelled ((one_laws 3 nested (below_stmts 3)).law refl) one_while_reads

one_repeat_reads : (one_stmt 3 (nested 3)).run (from 0 (REPEAT ∷ UNTIL ∷ A ∷ END_REPEAT ∷ semi ∷ [])) ≡ (Ok (stmt.Repeat [] (var A 2)), [])
unfolding statements_on_tokens
one_repeat_reads = refl

one_repeat_spelled : (one_stmt 3 (nested 3)).lang (from 0 (REPEAT ∷ UNTIL ∷ A ∷ END_REPEAT ∷ semi ∷ [])) (stmt.Repeat [] (var A 2))
one_repeat_spelled = spelled ((one_laws 3 nested (below_stmts 3)).law refl) one_repeat_reads

one_exit_reads : (one_stmt 3 (nested 3)).run (from 0 (EXIT ∷ semi ∷ [])) ≡ (Ok (stmt.Exit (here 0)), [])
unfolding statements_on_tokens
one_exit_reads = refl

one_exit_spelled : (one_stmt 3 (nested 3)).lang (from 0 (EXIT ∷ semi ∷ [])) (stmt.Exit (here 0))
one_exit_spelled = spelled ((one_laws 3 nested (below_stmts 3)).law refl) one_exit_reads

one_return_reads : (one_stmt 3 (nested 3)).run (from 0 (RETURN ∷ semi ∷ [])) ≡ (Ok (stmt.Return (here 0)), [])
unfolding statements_on_tokens
one_return_reads = refl

one_return_spelled : (one_stmt 3 (nested 3)).lang (from 0 (RETURN ∷ semi ∷ [])) (stmt.Return (here 0))
one_return_spelled = spelled ((one_laws 3 nested (below_stmts 3)).law refl) one_return_reads

one_call_stops : (one_stmt 3 (nested 3)).run (from 0 (F ∷ lparen ∷ rparen ∷ assign ∷ one ∷ semi ∷ [])) ≡ (Err Wrong, from 3 (assign ∷ one ∷ semi ∷ []))
unfolding statements_on_tokens
one_call_stops = refl

one_call_denied : (a : Stmt) → Phrase (λ e. one_stmt e (nested e)) (from 0 (F ∷ lparen ∷ rparen ∷ assign ∷ one ∷ semi ∷ [])) a → ⊥
one_call_denied = denied ((one_laws 3 nested (below_stmts 3)).law refl) one_call_stops

one_name_stops : (one_stmt 3 (nested 3)).run (from 0 (A ∷ semi ∷ [])) ≡ (Err Wrong, from 1 (semi ∷ []))
unfolding statements_on_tokens
one_name_stops = refl

one_name_denied : (a : Stmt) → Phrase (λ e. one_stmt e (nested e)) (from 0 (A ∷ semi ∷ [])) a → ⊥
one_name_denied = denied ((one_laws 3 nested (below_stmts 3)).law refl) one_name_stops

one_if_stops : (one_stmt 3 (nested 3)).run (from 0 (IF ∷ A ∷ THEN ∷ END_IF ∷ [])) ≡ (Err Wrong, [])
unfolding statements_on_tokens
one_if_stops = refl

one_if_denied : (a : Stmt) → Phrase (λ e. one_stmt e (nested e)) (from 0 (IF ∷ A ∷ THEN ∷ END_IF ∷ [])) a → ⊥
one_if_denied = denied ((one_laws 3 nested (below_stmts 3)).law refl) one_if_stops

-- ---- where nodes nest too nested

-- with no node, IF opens one
if_deep : (one_stmt 0 (nested 0)).run (from 0 (IF ∷ A ∷ THEN ∷ END_IF ∷ semi ∷ [])) ≡ (Err Deep, from 0 (IF ∷ A ∷ THEN ∷ END_IF ∷ semi ∷ []))
unfolding statements_on_tokens
if_deep = refl

-- and so does a call
call_deep : (one_stmt 0 (nested 0)).run (from 0 (F ∷ lparen ∷ rparen ∷ semi ∷ [])) ≡ (Err Deep, from 0 (F ∷ lparen ∷ rparen ∷ semi ∷ []))
unfolding statements_on_tokens
call_deep = refl

-- but not an assignment
set_fits : (one_stmt 0 (nested 0)).run (from 0 (A ∷ assign ∷ one ∷ semi ∷ [])) ≡ (Ok (stmt.Set (var_path A 0) (int 1 2)), [])
unfolding statements_on_tokens
set_fits = refl

-- with one node, WHILE opened it, so "(" behind it is too nested
while_deep : (one_stmt 1 (nested 1)).run (from 0 (WHILE ∷ lparen ∷ A ∷ rparen ∷ DO ∷ END_WHILE ∷ semi ∷ [])) ≡ (Err Deep, from 1 (lparen ∷ A ∷ rparen ∷ DO ∷ END_WHILE ∷ semi ∷ []))
unfolding statements_on_tokens
while_deep = refl

-- and so is IF among its statements
body_deep : (one_stmt 1 (nested 1)).run (from 0 (WHILE ∷ A ∷ DO ∷ IF ∷ B ∷ THEN ∷ END_IF ∷ semi ∷ END_WHILE ∷ semi ∷ [])) ≡ (Err Deep, from 3 (IF ∷ B ∷ THEN ∷ END_IF ∷ semi ∷ END_WHILE ∷ semi ∷ []))
unfolding statements_on_tokens
body_deep = refl

-- but not an assignment there
body_fits : (one_stmt 1 (nested 1)).run (from 0 (WHILE ∷ A ∷ DO ∷ A ∷ assign ∷ one ∷ semi ∷ END_WHILE ∷ semi ∷ [])) ≡ (Ok (stmt.While (var A 1) (stmt.Set (var_path A 3) (int 1 5) ∷ [])), [])
unfolding statements_on_tokens
body_fits = refl
