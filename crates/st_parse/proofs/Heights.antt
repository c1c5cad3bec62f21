-- The statements of a phrase are no higher than as many nodes as may open.
use Rattle.std.proofs.Common.{ℕ, zero, suc, ◌≤◌, ◌<◌, false, List, [], ◌∷◌, arith}
use Rattle.plc_tokens.specs.declared.token.Token.{Token}
use Rattle.plc_tree.specs.declared.tree.Stmt.{Stmt}
use Rattle.plc_tree.specs.Heights.{height, height_if_any, stmt_height, list_height}
use Rattle.plc_tree.proofs.HeightViews.{highest, list_height-append, height-Var, arm_height, choice_height, height-Set, height-Invoke, height-If, height-Case, height-For, height-While, height-Repeat}
use Rattle.plc_tokens.specs.Sorts.{sort, name_of}
use Rattle.plc_tokens.specs.Sets as G
use Rattle.phrase.specs.Piece.{pure, tok, ◌>>◌}
use Rattle.phrase.proofs.Gives.{Any, every_any, Gives, gives_any, gives_more, gives_pure, gives_tok, gives_bind, gives_many, gives_choose, gives_choose_two, gives_opens, gives_opens_two, gives_none, gives_also, gives_via}
use Rattle.st_expr.specs.declared.level.Level.TheVariants as at
use Rattle.st_expr.proofs.Heights.{LowBelow, appended, path_low, call_rest_low, standing_low, deep_low}
use Rattle.st_parse.specs.declared.for_list.ForList.{ForList}
use Rattle.st_parse.specs.Nested.{Nested}
use Rattle.st_parse.specs.Statements.{next_stmt, stmts, other_stmts, else_if_any, arm, next_arm, if_rest, labels, choice, next_choice, choices, items, case_rest, step, step_if_any, for_list, variable_of, loop_body, for_rest, while_rest, repeat_rest, empty_stmt, exit_stmt, return_stmt, call_stmt, set_stmt, called_or_set, one_stmt}
use Rattle.st_parse.specs.Depth.{nested, stmt_under, Statements}
use Rattle.plc_tokens.specs.declared.sort.Seen.{Seen}

-- what stands under one more node
record LowNested (n : ℕ) (d : Nested) : Type 0 where
  inside : LowBelow n d.inside
  stmt : Gives Any d.stmt (λ s. stmt_height s < n)

-- of lists of them, where one node may open
module _ (n : ℕ) (d : Nested) (b : LowNested n d) (some : 0 < n) where
  stmts_low : Gives Any (stmts d) (λ l. list_height l < n)
  unfolding stmts next_stmt
  stmts_low = gives_many G.FIRST_STMT [] some (λ l hl. gives_bind b.stmt (λ s hs.
      gives_pure _ (omega (arith, list_height-append l (s ∷ []), hl, hs))))

  else_low : Gives Any (else_if_any d) (λ l. list_height l < n)
  unfolding else_if_any other_stmts
  else_low = gives_choose G.ELSE (gives_bind (gives_tok G.ELSE) (λ _ _. stmts_low)) (gives_pure [] some)

  arm_low : Gives Any (arm d) (λ a. arm_height a < n)
  unfolding arm
  arm_low = gives_bind (b.inside.operand at.Whole false) (λ x hx. gives_bind (gives_tok G.THEN) (λ _ _. gives_bind stmts_low (λ l hl.
      gives_pure _ (omega (arith, hx.tall, hx.low, hl)))))

  -- a word that ends a statement, and ";"
  closed_by : {s : Stmt} (ks : List Seen) → stmt_height s < suc n → Gives Any (tok {sort = sort} ks >> (tok G.SEMI >> pure s)) (λ s. stmt_height s < suc n)
  closed_by ks h = gives_bind (gives_tok ks) (λ _ _. gives_bind (gives_tok G.SEMI) (λ _ _. gives_pure _ h))

  if_low : (t : Token) → Gives Any (if_rest d t) (λ s. stmt_height s < suc n)
  unfolding if_rest next_arm
  if_low t = gives_bind arm_low (λ a ha. gives_bind
      (gives_many G.ELSIF (a ∷ []) (appended arm_height [] a some ha) (λ l hl. gives_bind (gives_tok G.ELSIF) (λ _ _. gives_bind arm_low (λ c hc. gives_pure _ (appended arm_height l c hl hc)))))
      (λ arms harms. gives_bind else_low (λ other hother. closed_by G.END_IF (omega (arith, height-If arms other, harms, hother)))))

  choice_low : Gives Any (choice d) (λ c. choice_height c < n)
  unfolding choice
  choice_low = gives_bind (gives_any labels) (λ l _. gives_bind stmts_low (λ s hs. gives_pure _ hs))

  choices_low : Gives Any (choices d) (λ l. highest choice_height l < n)
  unfolding choices next_choice
  choices_low = gives_bind choice_low (λ c hc. gives_many G.FIRST_ITEM (c ∷ []) (appended choice_height [] c some hc) (λ l hl.
      gives_bind choice_low (λ x hx. gives_pure _ (appended choice_height l x hl hx))))

  case_low : (t : Token) → Gives Any (case_rest d t) (λ s. stmt_height s < suc n)
  unfolding case_rest
  case_low t = gives_bind (b.inside.operand at.Whole false) (λ x hx. gives_bind (gives_tok G.OF) (λ _ _. gives_bind (gives_via (items d) choices_low) (λ l hl. gives_bind else_low (λ other hother.
      closed_by G.END_CASE (omega (arith, height-Case x.0 l other, hx.tall, hx.low, hl, hother))))))

  step_low : Gives Any (step_if_any d) (λ x. height_if_any x < n)
  unfolding step_if_any step
  step_low = gives_choose G.BY (gives_bind (gives_tok G.BY) (λ _ _. gives_bind (b.inside.operand at.Whole false) (λ x hx. gives_pure _ (omega (arith, hx.tall, hx.low))))) (gives_pure _ some)

  record IsLowRange (l : ForList) : Type 0 where
    start : height l.start < n
    limit : height l.limit < n
    step : height_if_any l.step < n

  for_list_low : Gives Any (for_list d) IsLowRange
  unfolding for_list
  for_list_low = gives_bind (b.inside.operand at.Whole false) (λ x hx. gives_bind (gives_tok G.TO) (λ _ _. gives_bind (b.inside.operand at.Whole false) (λ y hy. gives_bind step_low (λ z hz.
      gives_pure _ (record { start = omega (arith, hx.tall, hx.low); limit = omega (arith, hy.tall, hy.low); step = hz })))))

  loop_body_low : (ks : List Seen) → Gives Any (loop_body ks d) (λ l. list_height l < n)
  unfolding loop_body
  loop_body_low ks = gives_bind (gives_tok G.DO) (λ _ _. gives_bind stmts_low (λ l hl. gives_bind (gives_tok ks) (λ _ _. gives_bind (gives_tok G.SEMI) (λ _ _. gives_pure _ hl))))

  for_low : (t : Token) → Gives Any (for_rest d t) (λ s. stmt_height s < suc n)
  unfolding for_rest
  for_low t = gives_bind (gives_tok G.NAME) (λ v _. gives_bind (gives_tok G.ASSIGN) (λ _ _. gives_bind for_list_low (λ l hl. gives_bind (loop_body_low G.END_FOR) (λ s hs.
      gives_pure _ (omega (arith, height-For (variable_of v) l.start l.limit l.step s, height-Var (variable_of v), hl.start, hl.limit, hl.step, hs))))))

  while_low : (t : Token) → Gives Any (while_rest d t) (λ s. stmt_height s < suc n)
  unfolding while_rest
  while_low t = gives_bind (b.inside.operand at.Whole false) (λ x hx. gives_bind (loop_body_low G.END_WHILE) (λ s hs. gives_pure _ (omega (arith, height-While x.0 s, hx.tall, hx.low, hs))))

  repeat_low : (t : Token) → Gives Any (repeat_rest d t) (λ s. stmt_height s < suc n)
  unfolding repeat_rest
  repeat_low t = gives_bind stmts_low (λ s hs. gives_bind (gives_tok G.UNTIL) (λ _ _. gives_bind (b.inside.operand at.Whole false) (λ x hx.
      closed_by G.END_REPEAT (omega (arith, height-Repeat s x.0, hx.tall, hx.low, hs)))))

  call_stmt_low : (t : Token) → Gives Any (call_stmt d t) (λ s. stmt_height s < suc n)
  unfolding call_stmt
  call_stmt_low t = gives_bind (call_rest_low n d.inside b.inside false some) (λ l hl. gives_bind (gives_tok G.SEMI) (λ _ _.
      gives_pure _ (omega (arith, hl.tall, hl.low, height-Invoke (name_of t.kind) t.place l.0))))

module _ (n : ℕ) (d : Nested) (b : LowNested n d) where
  set_low : Gives Any (set_stmt n d) (λ s. stmt_height s < suc n)
  unfolding set_stmt
  set_low = gives_bind (path_low n d.inside b.inside false G.NAME) (λ p hp. gives_bind (gives_tok G.ASSIGN) (λ _ _. gives_bind (standing_low n d.inside b.inside false at.Whole) (λ x hx. gives_bind (gives_tok G.SEMI) (λ _ _.
      gives_pure _ (omega (arith, height-Set p.0 x.0, hp.tall, hp.low, hx.tall, hx.low))))))

  stmt_low : Gives Any (one_stmt n d) (λ s. stmt_height s < suc n)
  unfolding one_stmt empty_stmt exit_stmt return_stmt called_or_set
  stmt_low =
      gives_choose G.SEMI (gives_bind (gives_tok G.SEMI) (λ _ _. gives_pure _ (omega arith)))
      (gives_choose G.IF (gives_opens G.IF (λ some t _. if_low n d b some t))
      (gives_choose G.CASE (gives_opens G.CASE (λ some t _. case_low n d b some t))
      (gives_choose G.FOR (gives_opens G.FOR (λ some t _. for_low n d b some t))
      (gives_choose G.WHILE (gives_opens G.WHILE (λ some t _. while_low n d b some t))
      (gives_choose G.REPEAT (gives_opens G.REPEAT (λ some t _. repeat_low n d b some t))
      (gives_choose G.EXIT (gives_bind (gives_tok G.EXIT) (λ _ _. gives_bind (gives_tok G.SEMI) (λ _ _. gives_pure _ (omega arith))))
      (gives_choose G.RETURN (gives_bind (gives_tok G.RETURN) (λ _ _. gives_bind (gives_tok G.SEMI) (λ _ _. gives_pure _ (omega arith))))
      (gives_choose_two G.NAME G.LPAREN (gives_opens_two G.NAME G.LPAREN (λ some t _. call_stmt_low n d b some t)) set_low))))))))

-- ---- at each number of nodes

nested_low : (n : ℕ) → LowNested n (nested n)
unfolding stmt_under
nested_low zero = record { inside = deep_low zero; stmt = gives_none }
nested_low (suc n) = record { inside = deep_low (suc n); stmt = gives_also (gives_more (λ s h. omega (arith, h)) (nested_low n).stmt) (stmt_low n (nested n) (nested_low n)) }

-- a body's statements
pub statements_low : (n : ℕ) (w : List Token) (l : List Stmt) → (Statements n).lang w l → list_height l ≤ n
statements_low n w l k = let low = (stmts_low (suc n) (nested (suc n)) (nested_low (suc n)) (omega arith)).gives w l (every_any w) k in omega (arith, low)
