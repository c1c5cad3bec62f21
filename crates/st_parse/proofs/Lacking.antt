-- No token of statements ends a list or is left out.
use Rattle.std.proofs.Common.{◌≡◌, ℕ, zero, suc, true, false, List, [], ◌∷◌, refl}
use Rattle.plc_tokens.specs.declared.token.Token.{Token}
use Rattle.plc_tree.specs.declared.tree.Arm.{Arm}
use Rattle.plc_tree.specs.declared.tree.Label.{Label}
use Rattle.plc_tree.specs.declared.tree.Stmt.{Stmt}
use Rattle.plc_tokens.specs.Sorts.{sort}
use Rattle.plc_tokens.specs.Sets as G
use Rattle.phrase.specs.Piece.{pure, tok, ◌>>◌}
use Rattle.plc_tokens.proofs.Lacks.{Lacks, goes_on, lacks_pure, lacks_tok, lacks_bind, lacks_many, lacks_choose, lacks_choose_two, lacks_opens, lacks_none, lacks_also, lacks_via}
use Rattle.st_expr.specs.declared.level.Level.TheVariants as at
use Rattle.st_expr.proofs.IntegerLaws.{sint_lacks}
use Rattle.st_expr.proofs.Lacking.{BelowLacks, path_lacks, call_rest_lacks, standing_lacks, deep_lacks}
use Rattle.st_parse.specs.Nested.{Nested}
use Rattle.st_parse.specs.Statements.{next_stmt, stmts, other_stmts, else_if_any, arm, next_arm, if_rest, range_end, range_if_any, numbers, owned, value_label, named_label, label, next_label, more_labels, number_labels, value_labels, named_labels, labels, choice, next_choice, choices, items, case_rest, step, step_if_any, for_list, loop_body, for_rest, while_rest, repeat_rest, empty_stmt, exit_stmt, return_stmt, call_stmt, set_stmt, called_or_set, one_stmt}
use Rattle.st_parse.specs.Depth.{nested, stmt_under, Statements}
use Rattle.plc_tokens.specs.declared.sort.Seen.{Seen}

record NestedLacks (d : Nested) : Type 0 where
  inside : BelowLacks d.inside
  stmt : Lacks d.stmt

-- ---- labels

numbers_lacks : Lacks numbers
unfolding numbers range_if_any range_end
numbers_lacks = lacks_bind sint_lacks (λ low. lacks_choose G.RANGE (lacks_bind (lacks_tok false G.RANGE refl) (λ _. lacks_bind sint_lacks (λ _. lacks_pure _))) (lacks_pure _))

value_label_lacks : (t : Token) → Lacks (value_label t)
unfolding value_label owned
value_label_lacks t = lacks_choose G.HASH (lacks_bind (lacks_tok false G.HASH refl) (λ _. lacks_bind (lacks_tok false G.NAME refl) (λ _. lacks_pure _))) (lacks_pure _)

label_lacks : Lacks label
unfolding label named_label
label_lacks = lacks_choose G.SIGNED numbers_lacks (lacks_bind (lacks_tok false G.NAME refl) value_label_lacks)

more_labels_lacks : (l : Label) → Lacks (more_labels l)
unfolding more_labels next_label
more_labels_lacks l = lacks_bind (lacks_many G.COMMA (l ∷ []) (λ a. lacks_bind (lacks_tok false G.COMMA refl) (λ _. lacks_bind label_lacks (λ _. lacks_pure _)))) (λ _. lacks_bind (lacks_tok false G.COLON refl) (λ _. lacks_pure _))

labels_lacks : Lacks labels
unfolding labels number_labels named_labels value_labels
labels_lacks = lacks_choose G.SIGNED (lacks_bind numbers_lacks more_labels_lacks) (lacks_bind (lacks_tok false G.NAME refl) (λ t. lacks_bind (value_label_lacks t) more_labels_lacks))

-- ---- statements

module _ (d : Nested) (b : NestedLacks d) where
  next_stmt_lacks : (l : List Stmt) → Lacks (next_stmt d l)
  unfolding next_stmt
  next_stmt_lacks l = lacks_bind b.stmt (λ _. lacks_pure _)

  stmts_lacks : Lacks (stmts d)
  unfolding stmts
  stmts_lacks = lacks_many G.FIRST_STMT [] next_stmt_lacks

  else_lacks : Lacks (else_if_any d)
  unfolding else_if_any other_stmts
  else_lacks = lacks_choose G.ELSE (lacks_bind (lacks_tok false G.ELSE refl) (λ _. stmts_lacks)) (lacks_pure _)

  arm_lacks : Lacks (arm d)
  unfolding arm
  arm_lacks = lacks_bind (b.inside.operand at.Whole false) (λ _. lacks_bind (lacks_tok false G.THEN refl) (λ _. lacks_bind stmts_lacks (λ _. lacks_pure _)))

  next_arm_lacks : (l : List Arm) → Lacks (next_arm d l)
  unfolding next_arm
  next_arm_lacks l = lacks_bind (lacks_tok false G.ELSIF refl) (λ _. lacks_bind arm_lacks (λ _. lacks_pure _))

  -- a word that ends a statement, and ";"
  closed_by : {s : Stmt} (ks : List Seen) → goes_on ks ≡ true → Lacks (tok {sort = sort} ks >> (tok G.SEMI >> pure s))
  closed_by ks h = lacks_bind (lacks_tok false ks h) (λ _. lacks_bind (lacks_tok false G.SEMI refl) (λ _. lacks_pure _))

  if_lacks : (t : Token) → Lacks (if_rest d t)
  unfolding if_rest
  if_lacks t = lacks_bind arm_lacks (λ a. lacks_bind (lacks_many G.ELSIF (a ∷ []) next_arm_lacks) (λ _. lacks_bind else_lacks (λ _. closed_by G.END_IF refl)))

  choice_lacks : Lacks (choice d)
  unfolding choice
  choice_lacks = lacks_bind labels_lacks (λ _. lacks_bind stmts_lacks (λ _. lacks_pure _))

  choices_lacks : Lacks (choices d)
  unfolding choices next_choice
  choices_lacks = lacks_bind choice_lacks (λ c. lacks_many G.FIRST_ITEM (c ∷ []) (λ a. lacks_bind choice_lacks (λ _. lacks_pure _)))

  case_lacks : (t : Token) → Lacks (case_rest d t)
  unfolding case_rest
  case_lacks t = lacks_bind (b.inside.operand at.Whole false) (λ _. lacks_bind (lacks_tok false G.OF refl) (λ _. lacks_bind (lacks_via (items d) choices_lacks) (λ _. lacks_bind else_lacks (λ _. closed_by G.END_CASE refl))))

  step_lacks : Lacks (step_if_any d)
  unfolding step_if_any step
  step_lacks = lacks_choose G.BY (lacks_bind (lacks_tok false G.BY refl) (λ _. lacks_bind (b.inside.operand at.Whole false) (λ _. lacks_pure _))) (lacks_pure _)

  for_list_lacks : Lacks (for_list d)
  unfolding for_list
  for_list_lacks = lacks_bind (b.inside.operand at.Whole false) (λ _. lacks_bind (lacks_tok false G.TO refl) (λ _. lacks_bind (b.inside.operand at.Whole false) (λ _. lacks_bind step_lacks (λ _. lacks_pure _))))

  loop_body_lacks : (ks : List Seen) → goes_on ks ≡ true → Lacks (loop_body ks d)
  unfolding loop_body
  loop_body_lacks ks h = lacks_bind (lacks_tok false G.DO refl) (λ _. lacks_bind stmts_lacks (λ _. lacks_bind (lacks_tok false ks h) (λ _. lacks_bind (lacks_tok false G.SEMI refl) (λ _. lacks_pure _))))

  for_lacks : (t : Token) → Lacks (for_rest d t)
  unfolding for_rest
  for_lacks t = lacks_bind (lacks_tok false G.NAME refl) (λ _. lacks_bind (lacks_tok false G.ASSIGN refl) (λ _. lacks_bind for_list_lacks (λ _. lacks_bind (loop_body_lacks G.END_FOR refl) (λ _. lacks_pure _))))

  while_lacks : (t : Token) → Lacks (while_rest d t)
  unfolding while_rest
  while_lacks t = lacks_bind (b.inside.operand at.Whole false) (λ _. lacks_bind (loop_body_lacks G.END_WHILE refl) (λ _. lacks_pure _))

  repeat_lacks : (t : Token) → Lacks (repeat_rest d t)
  unfolding repeat_rest
  repeat_lacks t = lacks_bind stmts_lacks (λ _. lacks_bind (lacks_tok false G.UNTIL refl) (λ _. lacks_bind (b.inside.operand at.Whole false) (λ _. closed_by G.END_REPEAT refl)))

  call_stmt_lacks : (t : Token) → Lacks (call_stmt d t)
  unfolding call_stmt
  call_stmt_lacks t = lacks_bind (call_rest_lacks d.inside b.inside false) (λ _. lacks_bind (lacks_tok false G.SEMI refl) (λ _. lacks_pure _))

  set_lacks : (n : ℕ) → Lacks (set_stmt n d)
  unfolding set_stmt
  set_lacks n = lacks_bind (path_lacks d.inside b.inside false G.NAME refl n) (λ _. lacks_bind (lacks_tok false G.ASSIGN refl) (λ _. lacks_bind (standing_lacks d.inside b.inside false at.Whole n) (λ _. lacks_bind (lacks_tok false G.SEMI refl) (λ _. lacks_pure _))))

  exit_lacks : Lacks exit_stmt
  unfolding exit_stmt
  exit_lacks = lacks_bind (lacks_tok false G.EXIT refl) (λ _. lacks_bind (lacks_tok false G.SEMI refl) (λ _. lacks_pure _))

  return_lacks : Lacks return_stmt
  unfolding return_stmt
  return_lacks = lacks_bind (lacks_tok false G.RETURN refl) (λ _. lacks_bind (lacks_tok false G.SEMI refl) (λ _. lacks_pure _))

  stmt_lacks : (n : ℕ) → Lacks (one_stmt n d)
  unfolding one_stmt empty_stmt called_or_set
  stmt_lacks n =
      lacks_choose G.SEMI (lacks_bind (lacks_tok false G.SEMI refl) (λ _. lacks_pure _))
      (lacks_choose G.IF (lacks_opens false G.IF refl if_lacks)
      (lacks_choose G.CASE (lacks_opens false G.CASE refl case_lacks)
      (lacks_choose G.FOR (lacks_opens false G.FOR refl for_lacks)
      (lacks_choose G.WHILE (lacks_opens false G.WHILE refl while_lacks)
      (lacks_choose G.REPEAT (lacks_opens false G.REPEAT refl repeat_lacks)
      (lacks_choose G.EXIT exit_lacks
      (lacks_choose G.RETURN return_lacks
      (lacks_choose_two G.NAME G.LPAREN (lacks_opens false G.NAME refl (λ t. lacks_bind (lacks_tok false G.LPAREN refl) (λ _. call_stmt_lacks t))) (set_lacks n)))))))))

-- ---- at each number of nodes

nested_lacks : (n : ℕ) → NestedLacks (nested n)
unfolding stmt_under
nested_lacks zero = record { inside = deep_lacks zero; stmt = lacks_none _ }
nested_lacks (suc n) = record { inside = deep_lacks (suc n); stmt = lacks_also (nested_lacks n).stmt (stmt_lacks (nested n) (nested_lacks n) n) }

pub of_statements : (n : ℕ) → Lacks (Statements n)
of_statements n = stmts_lacks (nested (suc n)) (nested_lacks (suc n))
