-- What holds of each emitted statement of a typed body, and of each of the function that sets its variables: it breaks
-- no rule, has no label, is well spelled, and opens few brackets and braces.
use Rattle.std.proofs.Common.{◌≡◌, refl, sym, ap, subst, ◌∙◌, ℕ, ◌+◌, ◌≤◌, List, [], ◌∷◌, ◌++◌, max, arith, Bool, true, false, Some, None}
use Rattle.std.specs.Prelude.{pos, is_some, if◌then◌else◌}
use Rattle.std.specs.List.{flat_map}
use Rattle.std.specs.Ordering.{int_eq}
use Rattle.std.proofs.Math.Nat.{max-le}
use Rattle.plc_base.proofs.Bytes.{bytes_eq-self}
use Rattle.plc_tree.specs.declared.typed.TVar.{TVar}
use Rattle.plc_tree.specs.declared.typed.TPou.{TPou}
use Rattle.plc_tree.specs.declared.typed.TBody.{TBody}
use Rattle.plc_tree.specs.Rows.{elem_of}
use Rattle.plc_tree.specs.TypedHeights.{body_height}
use Rattle.plc_tree.specs.WellTyped.{var_in, IsTypedBody}
use Rattle.c_tree.specs.declared.tree.CExpr.{CExpr}
use Rattle.c_tree.specs.declared.tree.CItem.{CItem}
use Rattle.c_tree.specs.declared.tree.CLocal.{CLocal}
use Rattle.c_tree.specs.declared.tree.CStmt.{CStmt}
use Rattle.c_tree.specs.declared.tree.CStmt.TheVariants as stmt
use Rattle.c_tree.specs.WellSpelled.{Every, WellSpelledPath, WellSpelledExpr, WellSpelledStmt}
use Rattle.c_tree.proofs.LayoutLaws.{Every-flat_map}
use Rattle.c_tree.proofs.WellSpelledViews.{WellSpelled-Path, WellSpelled-GetVar, WellSpelled-Bin, WellSpelled-Cast, WellSpelled-If, WellSpelled-While}
use Rattle.c_meaning.specs.Items.{structures_of, structure_in, objects_of, object_in, member_in, shape_of}
use Rattle.c_meaning.specs.Brackets.{greatest, open_expr, open_stmt}
use Rattle.c_meaning.specs.Reach.{Scope, or_else, is_declared, Astray, Unknown, leads_or, has_kind, is_plain, is_flagged}
use Rattle.c_meaning.specs.Rules.{wants, path_faults, path_size, expr_faults, stmt_faults}
use Rattle.c_meaning.proofs.RuleViews.{NoFaults, none, StmtsGood, faults-Path, faults-GetVar, faults-Bin, faults-Cast, faults-If, faults-While, NoLabel, labels-If, labels-While, open_expr-Path, open_expr-GetVar, open_expr-Bin, open_expr-Cast, open_stmt-If, open_stmt-While}
use Rattle.emit_pou.specs.Expressions.{plain_path, own, leaf, name_of_var, literal}
use Rattle.emit_pou.specs.Statements.{body_locals, body_stmts}
use Rattle.emit_pou.specs.Emitted.{self, init_stmt, init_stmts}
use Rattle.emit_pou.specs.SourceNames.{IsSourceName}
use Rattle.emit_pou.proofs.MemberRows.{variable, structure}
use Rattle.emit_pou.proofs.GoodRows.{IsFound}
use Rattle.emit_pou.proofs.KeptExpressions.{every_var, IsLocal, ExprsKeep, literal_kept}
use Rattle.emit_pou.proofs.KeptStatements.{StmtsKeep, stmt_opens, each_of_body}

-- ---- the statements that set the variables

at_most_one : (Q : CStmt → Type 0) (b : Bool) (c : CStmt) → Q c → Every Q (if b then [] else c ∷ [])
at_most_one Q true c h = tt
at_most_one Q false c h = (h, tt)

-- what holds of each that could stand there
each_init : (R : TVar → Type 0) (Q : CStmt → Type 0) → ((v : TVar) → R v → Q (stmt.InitVar (own v.name) (literal (elem_of v.ty) v.init))) → (vs : List TVar) → Every R vs
    → Every Q (flat_map init_stmt vs)
each_init R Q h = Every-flat_map R Q init_stmt (λ v r. at_most_one Q (int_eq v.init (pos 0)) _ (h v r))

-- ---- of any variables

abbrev IsAny : TVar → Type 0
IsAny v = Unit {0}

anything : (vs : List TVar) → Every IsAny vs
anything [] = tt
anything (v ∷ vs) = (tt, anything vs)

-- ---- they break no rule, below the structure of their program

module _ (p : TPou) (found : Every (IsFound p.vars) p.vars) (above : List CItem) (e : structures_of above ≡ structure p ∷ []) (own_name : List ℕ) (labels : List (List ℕ)) where
  -- in a function of the program with these locals
  abbrev pub own_scope : List CLocal → (inside outermost : Bool) → Scope
  own_scope locals inside outermost = record {
    above = above;
    own = own_name;
    params = self p.name ∷ [];
    locals = locals;
    labels = labels;
    result = None;
    inside = inside;
    outermost = outermost;
  }

  member_known : (v : TVar) → IsFound p.vars v → member_in (structure_in (structures_of above) p.name) v.name ≡ shape_of (Some (variable v))
  member_known v h =
      ap (λ ss. member_in (structure_in ss p.name) v.name) e ∙ ap (λ b. member_in (if b then Some (structure p) else None) v.name) (bytes_eq-self p.name) ∙ ap shape_of h

  own_good : (locals : List CLocal) (i o : Bool) (v : TVar) → IsFound p.vars v → NoFaults (λ at. path_faults (own_scope locals i o) is_flagged at (own v.name))
  own_good locals i o v h at =
      ap (λ s. (wants (has_kind is_flagged (leads_or Unknown s)) at ++ (wants true at ++ wants (is_some s) (at + 2))) ++ []) (member_known v h)

  leaf_good : (i o : Bool) (id : ℕ) (v : TVar) → var_in p.vars id ≡ Some v → NoFaults (λ at. path_faults (own_scope body_locals i o) is_flagged at (leaf p.vars id))
  leaf_good i o id v h at =
      subst (λ w. path_faults (own_scope body_locals i o) is_flagged at (own (name_of_var w)) ≡ []) (sym h) (own_good body_locals i o v (every_var (IsFound p.vars) p.vars id v found h) at)

  working_good : (i o : Bool) (name : List ℕ) → IsLocal name → NoFaults (λ at. path_faults (own_scope body_locals i o) is_plain at (plain_path name))
  working_good i o name l at =
      ap (λ s. (wants (has_kind is_plain (leads_or (if is_declared (own_scope body_locals i o) name then Astray else Unknown) (or_else s (shape_of (object_in (objects_of above) name))))) at
      ++ wants (is_some (or_else s (shape_of (object_in (objects_of above) name)))) at) ++ []) l.known

  -- in a block or not
  abbrev IsGood : Bool → ℕ → CExpr → Type 0
  IsGood i n c = (o : Bool) → NoFaults (λ at. expr_faults (own_scope body_locals i o) at c)

  abbrev IsGoodStmt : Bool → ℕ → CStmt → Type 0
  IsGoodStmt i n c = (o : Bool) → NoFaults (λ at. stmt_faults (own_scope body_locals i o) at c)

  good_exprs : (i : Bool) → ExprsKeep p.vars (IsGood i)
  good_exprs i = record {
    wider = λ n m c l h. h;
    number = λ value kind h o at. refl;
    var = λ id v h o at. faults-GetVar (own_scope body_locals i o) at (leaf p.vars id) ∙ leaf_good i o id v h (at + 2);
    working = λ name l o at. faults-Path (own_scope body_locals i o) at (plain_path name) ∙ working_good i o name l at;
    cast = λ n t c l h o. faults-Cast (own_scope body_locals i o) t c (h o);
    join = λ n op a b f g o. faults-Bin (own_scope body_locals i o) op a b (f o) (g o);
  }

  in_one_block : (i o : Bool) (n : ℕ) (body : List CStmt) → Every (IsGoodStmt i n) body → StmtsGood (own_scope body_locals i o) body
  in_one_block i o n [] h = tt
  in_one_block i o n (c ∷ cs) h = (h.0 o, in_one_block i o n cs h.1)

  good_forms : StmtsKeep p.vars IsGood IsGoodStmt
  good_forms = record {
    exprs = good_exprs;
    wider = λ i n m c l h. h;
    working = λ i n name e l h o at. none _ _ (working_good i o name l at) (h o (at + path_size (plain_path name) + 1));
    var = λ i n id v e k h o at. none _ _ (leaf_good i o id v k (at + 2)) (h o (at + 2 + path_size (leaf p.vars id) + 1));
    branch = λ i n test body t h o. faults-If (own_scope body_locals i o) test body None (t o) (in_one_block i false n body h) tt;
    loop = λ i n test body t h o. faults-While (own_scope body_locals i o) test body (t o) (in_one_block true false n body h);
    leaves = λ o at. refl;
    ends = λ i o at. refl;
  }

  pub good_stmts : IsTypedBody p.vars p.body → StmtsGood (own_scope body_locals false true) (body_stmts p.vars p.body)
  good_stmts t = in_one_block false true (stmt_opens (body_height p.body)) (body_stmts p.vars p.body) (each_of_body p.vars IsGood IsGoodStmt good_forms p.body (body_height p.body) (omega arith) t)

  pub good_inits : StmtsGood (own_scope [] false true) (init_stmts p)
  good_inits =
      each_init (IsFound p.vars) (λ c. NoFaults (λ at. stmt_faults (own_scope [] false true) at c))
      (λ v h at. none _ _ (own_good [] false true v h (at + 2)) (faults-Cast (own_scope [] false true) (elem_of v.ty) _ (λ k. refl) (at + 2 + path_size (own v.name) + 1))) p.vars found

-- ---- they are no labels and have none

unlabelled_exprs : (vs : List TVar) → ExprsKeep vs (λ n c. Unit {0})
unlabelled_exprs vs = record {
  wider = λ n m c l h. tt;
  number = λ value kind h. tt;
  var = λ id v h. tt;
  working = λ name l. tt;
  cast = λ n t c l h. tt;
  join = λ n o a b f g. tt;
}

unlabelled : (vs : List TVar) → StmtsKeep vs (λ i n c. Unit {0}) (λ i n c. NoLabel c)
unlabelled vs = record {
  exprs = λ i. unlabelled_exprs vs;
  wider = λ i n m c l h. h;
  working = λ i n name e l h. refl;
  var = λ i n id v e k h. refl;
  branch = λ i n test body t h. labels-If test body h;
  loop = λ i n test body t h. labels-While test body h;
  leaves = refl;
  ends = λ i. refl;
}

pub no_body_labels : (vs : List TVar) (b : TBody) → IsTypedBody vs b → Every NoLabel (body_stmts vs b)
no_body_labels vs b = each_of_body vs (λ i n c. Unit {0}) (λ i n c. NoLabel c) (unlabelled vs) b (body_height b) (omega arith)

pub no_init_labels : (vs : List TVar) → Every NoLabel (flat_map init_stmt vs)
no_init_labels vs = each_init IsAny NoLabel (λ v h. refl) vs (anything vs)

-- ---- they are well spelled

abbrev IsSpelled : ℕ → CExpr → Type 0
IsSpelled n c = WellSpelledExpr c

module _ (vs : List TVar) (names : Every (λ (v : TVar). IsSourceName v.name) vs) where
  own_named : (v : TVar) → IsSourceName v.name → WellSpelledPath (own v.name)
  own_named v h = record { first = refl; arrow = h.word; parts = tt }

  leaf_named : (id : ℕ) (v : TVar) → var_in vs id ≡ Some v → WellSpelledPath (leaf vs id)
  leaf_named id v h = subst (λ o. WellSpelledPath (own (name_of_var o))) (sym h) (own_named v (every_var (λ (w : TVar). IsSourceName w.name) vs id v names h))

  working_named : (name : List ℕ) → IsLocal name → WellSpelledPath (plain_path name)
  working_named name l = record { first = l.word; arrow = tt; parts = tt }

  spelled_exprs : ExprsKeep vs IsSpelled
  spelled_exprs = record {
    wider = λ n m c l h. h;
    number = λ value kind h. h;
    var = λ id v h. WellSpelled-GetVar (leaf vs id) (leaf_named id v h);
    working = λ name l. WellSpelled-Path (plain_path name) (working_named name l);
    cast = λ n t c l h. WellSpelled-Cast t c h;
    join = λ n o a b f g. WellSpelled-Bin o a b f g;
  }

  spelled_forms : StmtsKeep vs (λ i. IsSpelled) (λ i n c. WellSpelledStmt c)
  spelled_forms = record {
    exprs = λ i. spelled_exprs;
    wider = λ i n m c l h. h;
    working = λ i n name e l h. (working_named name l, h);
    var = λ i n id v e k h. (leaf_named id v k, h);
    branch = λ i n test body t h. WellSpelled-If test body None t h tt;
    loop = λ i n test body t h. WellSpelled-While test body t h;
    leaves = tt;
    ends = λ i. tt;
  }

  pub spelled_stmts : (b : TBody) → IsTypedBody vs b → Every WellSpelledStmt (body_stmts vs b)
  spelled_stmts b = each_of_body vs (λ i. IsSpelled) (λ i n c. WellSpelledStmt c) spelled_forms b (body_height b) (omega arith)

  pub spelled_inits : Every WellSpelledStmt (flat_map init_stmt vs)
  spelled_inits = each_init (λ (v : TVar). IsSourceName v.name) WellSpelledStmt (λ v h. (own_named v h, literal_kept vs IsSpelled spelled_exprs (elem_of v.ty) v.init)) vs names

-- ---- and open few brackets and braces

abbrev IsLowExpr : ℕ → CExpr → Type 0
IsLowExpr n c = open_expr c ≤ n

abbrev pub IsLowStmt : ℕ → CStmt → Type 0
IsLowStmt n c = open_stmt c ≤ n

pub greatest_every : {A : Type 0} (f : A → ℕ) (k : ℕ) (xs : List A) → Every (λ x. f x ≤ k) xs → greatest f xs ≤ k
greatest_every f k [] h = omega arith
greatest_every f k (x ∷ xs) h = max-le h.0 (greatest_every f k xs h.1)

low_exprs : (vs : List TVar) → ExprsKeep vs IsLowExpr
low_exprs vs = record {
  wider = λ n m c l h. omega (arith, l, h);
  number = λ value kind h. omega arith;
  var = λ id v h. let e = open_expr-GetVar (leaf vs id) in omega (arith, e);
  working = λ name l. let e = open_expr-Path (plain_path name) in omega (arith, e);
  cast = λ n t c l h. let m : max 1 (open_expr c) ≤ n = max-le l h in let e = open_expr-Cast t c in omega (arith, m, e);
  join = λ n o a b f g. let m : max (open_expr a) (open_expr b) ≤ n = max-le f g in let e = open_expr-Bin o a b in omega (arith, m, e);
}

low_forms : (vs : List TVar) → StmtsKeep vs (λ i. IsLowExpr) (λ i. IsLowStmt)
low_forms vs = record {
  exprs = λ i. low_exprs vs;
  wider = λ i n m c l h. omega (arith, l, h);
  working = λ i n name e l h. omega (arith, h);
  var = λ i n id v e k h. omega (arith, h);
  branch = λ i n test body t h.
      let g = greatest_every open_stmt n body h in
      let m : max (1 + open_expr test) (max (1 + greatest open_stmt body) 0) ≤ n + 1 = max-le (omega (arith, t)) (max-le (omega (arith, g)) (omega arith)) in
      let e = open_stmt-If test body None in omega (arith, m, e);
  loop = λ i n test body t h.
      let g = greatest_every open_stmt n body h in
      let m : max (1 + open_expr test) (1 + greatest open_stmt body) ≤ n + 1 = max-le (omega (arith, t)) (omega (arith, g)) in
      let e = open_stmt-While test body in omega (arith, m, e);
  leaves = omega arith;
  ends = λ i. omega arith;
}

pub low_stmts : (vs : List TVar) (b : TBody) → body_height b ≤ 64 → IsTypedBody vs b → Every (IsLowStmt 196) (body_stmts vs b)
low_stmts vs b l = each_of_body vs (λ i. IsLowExpr) (λ i. IsLowStmt) (low_forms vs) b 64 l

pub low_inits : (vs : List TVar) → Every (IsLowStmt 3) (flat_map init_stmt vs)
low_inits vs = each_init IsAny (IsLowStmt 3) (λ v h. let l = literal_kept vs IsLowExpr (low_exprs vs) (elem_of v.ty) v.init in omega (arith, l)) vs (anything vs)
