-- The laws of the productions of statements, given those of what stands under one more node.
use Rattle.std.proofs.Common.{◌≡◌, ℕ, Bool, true, false, nat_le, List, [], ◌∷◌, ◌++◌, None, refl}
use Rattle.plc_tokens.specs.declared.token.Token.{Token}
use Rattle.plc_tree.specs.declared.tree.Whole.{Whole}
use Rattle.plc_tree.specs.declared.tree.Arm.{Arm}
use Rattle.plc_tree.specs.declared.tree.Label.{Label}
use Rattle.plc_tree.specs.declared.tree.Label.TheVariants as in_label
use Rattle.plc_tree.specs.declared.tree.Path.{Path}
use Rattle.plc_tree.specs.declared.tree.Stmt.{Stmt}
use Rattle.plc_tokens.specs.Sorts.{rank, sort, kinds}
use Rattle.plc_tokens.specs.Sets as G
use Rattle.plc_tokens.proofs.Known.{is_in}
use Rattle.phrase.specs.Piece.{pure, tok, ◌>>=◌, ◌>>◌}
use Rattle.phrase.proofs.Basics.{disjoint}
use Rattle.phrase.proofs.Rules.{Known, Laws, pureL, tokL, bindL, bind_anyL, chooseL, manyL, opensL, as_listed, choose_callL, choose_pairL, Avoids, avoids_then, avoids_bindL, pureS}
use Rattle.phrase.proofs.Views.{viaL}
use Rattle.st_expr.specs.declared.level.Level.TheVariants as at
use Rattle.st_parse.specs.declared.group.Group.{Group}
use Rattle.st_expr.specs.Nested.{Tall}
use Rattle.st_parse.specs.Nested.{Nested}
use Rattle.st_expr.specs.Expressions.{expr, path}
use Rattle.st_expr.proofs.IntegerLaws.{sint_laws}
use Rattle.st_parse.specs.Statements as S
use Rattle.st_parse.specs.Statements.{next_stmt, stmts, other_stmts, else_if_any, arm, next_arm, if_rest, range_end, range_if_any, numbers, owned, value_label, named_label, label, next_label, more_labels, number_labels, value_labels, named_labels, labels, number_item, value_item, named_item, stmt_item, item, items, choices, case_rest, step, step_if_any, for_list, loop_body, for_rest, while_rest, repeat_rest, empty_stmt, exit_stmt, return_stmt, call_stmt, set_stmt, called_or_set, one_stmt}
use Rattle.st_expr.proofs.Below.{more_path, more_at, expr_more}
use Rattle.st_parse.proofs.Below.{BelowStmts}
use Rattle.st_expr.proofs.Fronts.{path_avoids}
use Rattle.st_expr.proofs.ExpressionLaws.{first_call, call_rest_laws, path_laws, standing_laws}
use Rattle.st_parse.proofs.Cases.{same_choices}
use Rattle.plc_tokens.specs.declared.reserved.Reserved.TheVariants as word
use Rattle.plc_tokens.specs.declared.sort.Seen.{Seen}
use Rattle.plc_tokens.specs.declared.sort.Sort.TheVariants.{Word}

-- what may follow some statements
abbrev pub more_stmts : List Seen
more_stmts = G.FIRST_STMT ++ G.LPAREN

-- ---- labels, in which no node opens

module _ (d : ℕ) (on : Bool) where
  range_end_laws : (low : Whole) → Laws on d false true G.RANGE [] (λ _. range_end low)
  unfolding range_end
  range_end_laws low = bindL (tokL (is_in false G.RANGE refl)) (λ _. bindL (sint_laws d on) (λ high. pureL _) refl) refl

  range_if_any_laws : (low : Whole) → Laws on d true true G.RANGE G.RANGE (λ _. range_if_any low)
  unfolding range_if_any
  range_if_any_laws low = as_listed G.RANGE G.RANGE (chooseL (range_end_laws low) (pureL (in_label.Range low.value low.value low.at)) refl) refl refl refl

  pub numbers_laws : Laws on d false true G.SIGNED G.RANGE (λ _. numbers)
  unfolding numbers
  numbers_laws = bindL (sint_laws d on) range_if_any_laws refl

  owned_laws : (t : Token) → Laws on d false true G.HASH [] (λ _. owned t)
  unfolding owned
  owned_laws t = bindL (tokL (is_in false G.HASH refl)) (λ _. bindL (tokL (is_in false G.NAME refl)) (λ u. pureL _) refl) refl

  value_label_laws : (t : Token) → Laws on d true true G.HASH G.HASH (λ _. value_label t)
  unfolding value_label
  value_label_laws t = as_listed G.HASH G.HASH (chooseL (owned_laws t) (pureL (S.alone_of t)) refl) refl refl refl

  named_label_laws : Laws on d false true G.NAME G.HASH (λ _. named_label)
  unfolding named_label
  named_label_laws = bindL (tokL (is_in false G.NAME refl)) value_label_laws refl

  pub label_laws : Laws on d false true (G.SIGNED ++ G.NAME) (G.RANGE ++ G.HASH) (λ _. label)
  unfolding label
  label_laws = chooseL numbers_laws named_label_laws refl

  next_label_laws : (l : List Label) → Laws on d false true G.COMMA (G.RANGE ++ G.HASH) (λ _. next_label l)
  unfolding next_label
  next_label_laws l = bindL (tokL (is_in false G.COMMA refl)) (λ _. bindL label_laws (λ y. pureL _) refl) refl

  more_labels_laws : (first : Label) → Laws on d false true (G.COMMA ++ G.COLON) [] (λ _. more_labels first)
  unfolding more_labels
  more_labels_laws first = bind_anyL (manyL (first ∷ []) next_label_laws refl) (λ l. bindL (tokL (is_in false G.COLON refl)) (λ _. pureL l) refl) refl

  number_labels_laws : Laws on d false true G.SIGNED [] (λ _. number_labels)
  unfolding number_labels
  number_labels_laws = bindL numbers_laws more_labels_laws refl

  value_labels_laws : (t : Token) → Laws on d false true G.LABELLED [] (λ _. value_labels t)
  unfolding value_labels
  value_labels_laws t = as_listed G.LABELLED [] (bind_anyL (value_label_laws t) more_labels_laws refl) refl refl refl

  named_labels_laws : Laws on d false true G.NAME [] (λ _. named_labels)
  unfolding named_labels
  named_labels_laws = bindL (tokL (is_in false G.NAME refl)) value_labels_laws refl

  pub labels_laws : Laws on d false true (G.SIGNED ++ G.NAME) [] (λ _. labels)
  unfolding labels
  labels_laws = chooseL number_labels_laws named_labels_laws refl

  number_item_laws : (g : Group) → Laws on d false true G.SIGNED [] (λ _. number_item g)
  unfolding number_item
  number_item_laws g = bindL number_labels_laws (λ l. pureL _) refl

  value_item_laws : (g : Group) (t : Token) → Laws on d false true G.LABELLED [] (λ _. value_item g t)
  unfolding value_item
  value_item_laws g t = bindL (value_labels_laws t) (λ l. pureL _) refl

-- ---- at each number of nodes

module _ (d : ℕ) (x : ℕ → Nested) (b : BelowStmts (nat_le 1 d) d x) where
  abbrev on : Bool
  on = nat_le 1 d

  next_stmt_laws : (l : List Stmt) → Laws on d false true G.FIRST_STMT G.LPAREN (λ e. next_stmt (x e) l)
  unfolding next_stmt
  next_stmt_laws l = bindL b.stmt (λ s. pureL _) refl

  pub stmts_laws : Laws on d true true G.FIRST_STMT more_stmts (λ e. stmts (x e))
  unfolding stmts
  stmts_laws = manyL [] next_stmt_laws refl

  other_stmts_laws : Laws on d false true G.ELSE more_stmts (λ e. other_stmts (x e))
  unfolding other_stmts
  other_stmts_laws = as_listed G.ELSE more_stmts (bindL (tokL (is_in false G.ELSE refl)) (λ _. stmts_laws) refl) refl refl refl

  pub else_laws : Laws on d true true G.ELSE (G.ELSE ++ more_stmts) (λ e. else_if_any (x e))
  unfolding else_if_any
  else_laws = as_listed G.ELSE (G.ELSE ++ more_stmts) (chooseL other_stmts_laws (pureL []) refl) refl refl refl

  pub arm_laws : Laws on d false true G.FIRST_EXPR more_stmts (λ e. arm (x e))
  unfolding arm
  arm_laws = bindL (b.inside.operand at.Whole false) (λ a. bindL (tokL (is_in false G.THEN refl)) (λ _. bind_anyL stmts_laws (λ l. pureL _) refl) refl) refl

  pub next_arm_laws : (l : List Arm) → Laws on d false true G.ELSIF more_stmts (λ e. next_arm (x e) l)
  unfolding next_arm
  next_arm_laws l = bindL (tokL (is_in false G.ELSIF refl)) (λ _. bindL arm_laws (λ m. pureL _) refl) refl

  pub if_laws : (t : Token) → Laws on d false true G.FIRST_EXPR [] (λ e. if_rest (x e) t)
  unfolding if_rest
  if_laws t = bindL arm_laws (λ a. bind_anyL (manyL (a ∷ []) next_arm_laws refl) (λ l. bind_anyL else_laws (λ o. bindL (tokL (is_in false G.END_IF refl)) (λ _. bindL (tokL (is_in false G.SEMI refl)) (λ _. pureL _) refl) refl) refl) refl) refl

  stmt_item_laws : (g : Group) → Laws on d false true G.FIRST_STMT G.LPAREN (λ e. stmt_item (x e) g)
  unfolding stmt_item
  stmt_item_laws g = bindL b.stmt (λ s. pureL _) refl

  stmt_item_avoids : (g : Group) → Avoids G.NAME G.LABELLED (λ e. stmt_item (x e) g)
  unfolding stmt_item
  stmt_item_avoids g = avoids_then b.stmt_shape (λ s. pureS _) b.stmt_not_label refl

  item_laws : (g : Group) → Laws on d false true G.FIRST_ITEM (G.LABELLED ++ G.LPAREN) (λ e. item (x e) g)
  unfolding item named_item
  item_laws g = as_listed G.FIRST_ITEM (G.LABELLED ++ G.LPAREN)
      (chooseL (number_item_laws d on g) (choose_pairL (is_in false G.NAME refl) (value_item_laws d on g) (stmt_item_laws g) (λ _. stmt_item_avoids g) refl) refl) refl refl refl

  pub items_laws : Laws on d false true (G.SIGNED ++ G.NAME) (G.FIRST_ITEM ++ G.LABELLED ++ G.LPAREN) (λ e. items (x e))
  unfolding items
  items_laws = as_listed (G.SIGNED ++ G.NAME) (G.FIRST_ITEM ++ G.LABELLED ++ G.LPAREN)
      (bindL (labels_laws d on) (λ l. bind_anyL (manyL (S.begun l) item_laws refl) (λ g. pureL _) refl) refl) refl refl refl

  pub case_laws : (t : Token) → Laws on d false true G.FIRST_EXPR [] (λ e. case_rest (x e) t)
  unfolding case_rest
  case_laws t = bindL (b.inside.operand at.Whole false) (λ a. bindL (tokL (is_in false G.OF refl)) (λ _. bindL (viaL (same_choices x) items_laws) (λ l. bind_anyL else_laws (λ o. bindL (tokL (is_in false G.END_CASE refl)) (λ _. bindL (tokL (is_in false G.SEMI refl)) (λ _. pureL _) refl) refl) refl) refl) refl) refl

  step_laws : Laws on d false true G.BY (more_at at.Whole) (λ e. step (x e))
  unfolding step
  step_laws = bindL (tokL (is_in false G.BY refl)) (λ _. bindL (b.inside.operand at.Whole false) (λ a. pureL _) refl) refl

  pub step_if_any_laws : Laws on d true true G.BY (kinds (Word word.By ∷ expr_more)) (λ e. step_if_any (x e))
  unfolding step_if_any
  step_if_any_laws = as_listed G.BY (kinds (Word word.By ∷ expr_more)) (chooseL step_laws (pureL None) refl) refl refl refl

  for_list_laws : Laws on d false true G.FIRST_EXPR (kinds (Word word.By ∷ expr_more)) (λ e. for_list (x e))
  unfolding for_list
  for_list_laws = as_listed G.FIRST_EXPR (kinds (Word word.By ∷ expr_more))
      (bindL (b.inside.operand at.Whole false) (λ start. bindL (tokL (is_in false G.TO refl)) (λ _. bindL (b.inside.operand at.Whole false) (λ limit. bind_anyL step_if_any_laws (λ by. pureL _) refl) refl) refl) refl) refl refl refl

  loop_body_laws : {ks : List Seen} → Known sort ks → disjoint rank more_stmts ks ≡ true → Laws on d false true G.DO [] (λ e. loop_body ks (x e))
  unfolding loop_body
  loop_body_laws k h = bindL (tokL (is_in false G.DO refl)) (λ _. bind_anyL stmts_laws (λ l. bindL (tokL k) (λ _. bindL (tokL (is_in false G.SEMI refl)) (λ _. pureL l) refl) refl) h) refl

  pub for_laws : (t : Token) → Laws on d false true G.NAME [] (λ e. for_rest (x e) t)
  unfolding for_rest
  for_laws t = bindL (tokL (is_in false G.NAME refl)) (λ v. bindL (tokL (is_in false G.ASSIGN refl)) (λ _. bindL for_list_laws (λ l. bindL (loop_body_laws (is_in false G.END_FOR refl) refl) (λ s. pureL _) refl) refl) refl) refl

  pub while_laws : (t : Token) → Laws on d false true G.FIRST_EXPR [] (λ e. while_rest (x e) t)
  unfolding while_rest
  while_laws t = bindL (b.inside.operand at.Whole false) (λ a. bindL (loop_body_laws (is_in false G.END_WHILE refl) refl) (λ l. pureL _) refl) refl

  pub repeat_laws : (t : Token) → Laws on d false true (G.FIRST_STMT ++ G.UNTIL) [] (λ e. repeat_rest (x e) t)
  unfolding repeat_rest
  repeat_laws t = bind_anyL stmts_laws (λ l. bindL (tokL (is_in false G.UNTIL refl)) (λ _. bindL (b.inside.operand at.Whole false) (λ a. bindL (tokL (is_in false G.END_REPEAT refl)) (λ _. bindL (tokL (is_in false G.SEMI refl)) (λ _. pureL _) refl) refl) refl) refl) refl

  pub empty_laws : Laws true d false true G.SEMI [] (λ _. empty_stmt)
  unfolding empty_stmt
  empty_laws = bindL (tokL (is_in false G.SEMI refl)) (λ _. pureL _) refl

  pub exit_laws : Laws true d false true G.EXIT [] (λ _. exit_stmt)
  unfolding exit_stmt
  exit_laws = bindL (tokL (is_in false G.EXIT refl)) (λ t. bindL (tokL (is_in false G.SEMI refl)) (λ _. pureL _) refl) refl

  pub return_laws : Laws true d false true G.RETURN [] (λ _. return_stmt)
  unfolding return_stmt
  return_laws = bindL (tokL (is_in false G.RETURN refl)) (λ t. bindL (tokL (is_in false G.SEMI refl)) (λ _. pureL _) refl) refl

  pub call_stmt_laws : (t : Token) → Laws on d false true first_call [] (λ e. call_stmt (x e) t)
  unfolding call_stmt
  call_stmt_laws t = bindL (call_rest_laws d (λ e. (x e).inside) b.inside false) (λ l. bindL (tokL (is_in false G.SEMI refl)) (λ _. pureL _) refl) refl

  set_rest_laws : (p : Tall Path) → Laws true d false true G.ASSIGN [] (λ e. tok G.ASSIGN >> (expr false e (x e).inside >>= λ a. tok G.SEMI >> pure (S.set_of p a)))
  set_rest_laws p = bindL (tokL (is_in false G.ASSIGN refl)) (λ _. bindL (standing_laws d (λ e. (x e).inside) b.inside false at.Whole) (λ a. bindL (tokL (is_in false G.SEMI refl)) (λ _. pureL _) refl) refl) refl

  name_path : Laws true d false true G.NAME more_path (λ e. path G.NAME false e (x e).inside)
  name_path = path_laws d (λ e. (x e).inside) b.inside false (is_in false G.NAME refl)

  pub set_laws : Laws true d false true G.NAME [] (λ e. set_stmt e (x e))
  unfolding set_stmt
  set_laws = bindL name_path set_rest_laws refl

  set_not_call : Avoids G.NAME G.LPAREN (λ e. set_stmt e (x e))
  unfolding set_stmt
  set_not_call = avoids_bindL name_path set_rest_laws (path_avoids (λ e. (x e).inside) false G.NAME G.NAME G.LPAREN refl) refl

  called_or_set_laws : Laws true d false true G.NAME G.LPAREN (λ e. called_or_set e (x e))
  unfolding called_or_set
  called_or_set_laws = as_listed G.NAME G.LPAREN (choose_callL 0 (is_in false G.NAME refl) (is_in false G.LPAREN refl) call_stmt_laws set_laws (λ _. set_not_call) refl) refl refl refl

  pub one_laws : Laws true d false true G.FIRST_STMT G.LPAREN (λ e. one_stmt e (x e))
  unfolding one_stmt
  one_laws = as_listed G.FIRST_STMT G.LPAREN
      (chooseL empty_laws
      (chooseL (opensL 0 (is_in false G.IF refl) if_laws)
      (chooseL (opensL 0 (is_in false G.CASE refl) case_laws)
      (chooseL (opensL 0 (is_in false G.FOR refl) for_laws)
      (chooseL (opensL 0 (is_in false G.WHILE refl) while_laws)
      (chooseL (opensL 0 (is_in false G.REPEAT refl) repeat_laws)
      (chooseL exit_laws
      (chooseL return_laws called_or_set_laws refl) refl) refl) refl) refl) refl) refl) refl) refl refl refl
