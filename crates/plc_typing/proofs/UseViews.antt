-- The broken uses of expressions and statements as equations, with expressions and lists where the definitions have rows.
use Rattle.std.proofs.Common.{◌≡◌, refl, sym, ap, ◌∙◌, List, [], ◌∷◌, ◌++◌, append_assoc, Option, Some, None, Bool, true, false, length, arith}
use Rattle.std.specs.Prelude.{is_some, ◌&&◌, ◌==◌}
use Rattle.std.proofs.lemmas.Bool.Decides.{nat_tests}
use Rattle.std.specs.List.{flat_map}
use Rattle.plc_base.specs.declared.elem.Elem.{Elem}
use Rattle.plc_base.specs.declared.elem.Elem.TheVariants.{Int, Bool as Boolean}
use Rattle.plc_base.specs.declared.refusal.Place.{Place}
use Rattle.plc_base.specs.declared.refusal.Refusal.{Refusal}
use Rattle.plc_tree.specs.declared.tree.BinOp.{BinOp}
use Rattle.plc_tree.specs.declared.tree.UnOp.{UnOp}
use Rattle.plc_tree.specs.declared.tree.Path.{Path}
use Rattle.plc_tree.specs.declared.tree.Part.{Part}
use Rattle.plc_tree.specs.declared.tree.Expr.{Expr, Var, Paren, Unary, Binary}
use Rattle.plc_tree.specs.declared.tree.Arg.TheBlock.{hidden-the_row-Expr-1, hidden-the_row-Part-0}
use Rattle.plc_tree.specs.declared.tree.Arm.{Arm}
use Rattle.plc_tree.specs.declared.tree.Choice.{Choice}
use Rattle.plc_tree.specs.declared.tree.Stmt.{Stmt}
use Rattle.plc_tree.specs.declared.tree.Stmt as stmt
use Rattle.plc_tree.specs.declared.tree.Stmt.TheBlock.{hidden-the_row-Stmt-0, hidden-the_row-Arm-1, hidden-the_row-Choice-2}
use Rattle.plc_typing.specs.Constants.{has_const}
use Rattle.plc_typing.specs.Plain.{plain_unary, plain_binary, plain_variable, plain, is_of}
use Rattle.plc_typing.specs.Scope.{Types}
use Rattle.plc_typing.specs.Uses.{suits, unplain, part_faults, parts_faults, path_faults, node_faults, expr_faults, pick_faults, step_faults, label_faults, stmt_faults, stmts_faults, arms_faults, choices_faults}
use Rattle.plc_typing.specs.UsesOfParts.{for_faults, arm_faults, choice_faults}

-- ---- expressions

parts_row : (parts : List Part) → parts_faults (hidden-the_row-Part-0 parts) ≡ flat_map part_faults parts
unfolding hidden-the_row-Part-0 denote.Hole.Carrier.hidden
parts_row [] = refl
parts_row (p ∷ parts) = ap (λ us. part_faults p ++ us) (parts_row parts)

-- nothing of a path with parts is plain
pub plain_bare : (o : Option Elem) (parts : List Part) → (length parts == 0) ≡ true → plain_variable o (hidden-the_row-Part-0 parts) ≡ o
unfolding hidden-the_row-Part-0 denote.Hole.Carrier.hidden
plain_bare o [] h = refl
plain_bare o (p ∷ parts) h = absurd (grind (arith, nat_tests))

pub plain_parts : (o : Option Elem) (parts : List Part) → (length parts == 0) ≡ false → plain_variable o (hidden-the_row-Part-0 parts) ≡ None
unfolding hidden-the_row-Part-0 denote.Hole.Carrier.hidden
plain_parts o [] h = absurd (grind (arith, nat_tests))
plain_parts o (p ∷ parts) h = refl

module _ (types : Types) where
  pub faults-Var : (p : Path) → node_faults types (Var p) ≡ path_faults types p
  faults-Var p = ap (λ us. suits (is_some (types p.first)) p.at ++ us) (parts_row p.parts)

  pub faults-Paren : (at : Place) (a : Expr) → node_faults types (Paren at a) ≡ node_faults types a
  unfolding hidden-the_row-Expr-1 denote.Hole.Carrier.hidden
  faults-Paren at a = refl

  pub plain-Paren : (at : Place) (a : Expr) → plain types (Paren at a) ≡ plain types a
  unfolding hidden-the_row-Expr-1 denote.Hole.Carrier.hidden
  plain-Paren at a = refl

  pub faults-Unary : (op : UnOp) (at : Place) (a : Expr)
      → node_faults types (Unary op at a) ≡ node_faults types a ++ unplain (is_some (plain types a)) (plain_unary op (has_const a) (plain types a)) at
  unfolding hidden-the_row-Expr-1 denote.Hole.Carrier.hidden
  faults-Unary op at a = refl

  pub plain-Unary : (op : UnOp) (at : Place) (a : Expr) → plain types (Unary op at a) ≡ plain_unary op (has_const a) (plain types a)
  unfolding hidden-the_row-Expr-1 denote.Hole.Carrier.hidden
  plain-Unary op at a = refl

  pub faults-Binary : (op : BinOp) (at : Place) (a b : Expr)
      → node_faults types (Binary op at a b)
      ≡ node_faults types a ++ (node_faults types b ++ unplain (is_some (plain types a) && is_some (plain types b)) (plain_binary op (has_const a && has_const b) (plain types a) (plain types b)) at)
  unfolding hidden-the_row-Expr-1 denote.Hole.Carrier.hidden
  faults-Binary op at a b = refl

  pub plain-Binary : (op : BinOp) (at : Place) (a b : Expr) → plain types (Binary op at a b) ≡ plain_binary op (has_const a && has_const b) (plain types a) (plain types b)
  unfolding hidden-the_row-Expr-1 denote.Hole.Carrier.hidden
  plain-Binary op at a b = refl

-- ---- statements

regrouped : (v p s l b x : List Refusal) → ((v ++ (p ++ (s ++ l))) ++ b) ++ x ≡ v ++ (p ++ (s ++ (l ++ (b ++ x))))
regrouped v p s l b x =
    append_assoc (v ++ (p ++ (s ++ l))) b x ∙ append_assoc v (p ++ (s ++ l)) (b ++ x)
    ∙ ap (λ us. v ++ us) (append_assoc p (s ++ l) (b ++ x) ∙ ap (λ us. p ++ us) (append_assoc s l (b ++ x)))

module _ (types : Types) where
  stmts_row : (inside : Bool) (xs : List Stmt) → stmts_faults types inside (hidden-the_row-Stmt-0 xs) ≡ flat_map (stmt_faults types inside) xs
  unfolding hidden-the_row-Stmt-0 denote.Hole.Carrier.hidden
  stmts_row inside [] = refl
  stmts_row inside (x ∷ xs) = ap (λ us. stmt_faults types inside x ++ us) (stmts_row inside xs)

  arms_row : (inside : Bool) (arms : List Arm) → arms_faults types inside (hidden-the_row-Arm-1 arms) ≡ flat_map (arm_faults types inside) arms
  unfolding hidden-the_row-Arm-1 hidden-the_row-Stmt-0 denote.Hole.Carrier.hidden
  arms_row inside [] = refl
  arms_row inside (a ∷ arms) =
      (λ i. expr_faults types (Some Boolean) a.test ++ (stmts_row inside a.body i ++ arms_row inside arms i))
      ∙ sym (append_assoc (expr_faults types (Some Boolean) a.test) (flat_map (stmt_faults types inside) a.body) (flat_map (arm_faults types inside) arms))

  choices_row : (inside : Bool) (choices : List Choice) → choices_faults types inside (hidden-the_row-Choice-2 choices) ≡ flat_map (choice_faults types inside) choices
  unfolding hidden-the_row-Choice-2 hidden-the_row-Stmt-0 denote.Hole.Carrier.hidden
  choices_row inside [] = refl
  choices_row inside (c ∷ choices) =
      (λ i. flat_map label_faults c.labels ++ (stmts_row inside c.body i ++ choices_row inside choices i))
      ∙ sym (append_assoc (flat_map label_faults c.labels) (flat_map (stmt_faults types inside) c.body) (flat_map (choice_faults types inside) choices))

  pub faults-If : (inside : Bool) (arms : List Arm) (other : List Stmt)
      → stmt_faults types inside (stmt.If arms other) ≡ flat_map (arm_faults types inside) arms ++ flat_map (stmt_faults types inside) other
  faults-If inside arms other = λ i. arms_row inside arms i ++ stmts_row inside other i

  pub faults-Case : (inside : Bool) (pick : Expr) (arms : List Choice) (other : List Stmt)
      → stmt_faults types inside (stmt.Case pick arms other) ≡ (pick_faults types pick ++ flat_map (choice_faults types inside) arms) ++ flat_map (stmt_faults types inside) other
  faults-Case inside pick arms other =
      (λ i. pick_faults types pick ++ (choices_row inside arms i ++ stmts_row inside other i))
      ∙ sym (append_assoc (pick_faults types pick) (flat_map (choice_faults types inside) arms) (flat_map (stmt_faults types inside) other))

  pub faults-For : (inside : Bool) (var : Path) (start limit : Expr) (step : Option Expr) (body : List Stmt)
      → stmt_faults types inside (stmt.For var start limit step body) ≡ for_faults types var start limit step ++ flat_map (stmt_faults types true) body
  faults-For inside var start limit step body =
      let here = suits (is_of Int (types var.first)) var.at in
      let parts = flat_map part_faults var.parts in
      let first = expr_faults types (Some Int) start in
      let last = expr_faults types (Some Int) limit in
      (λ i. here ++ (parts ++ (first ++ (last ++ (step_faults types step ++ stmts_row true body i)))))
      ∙ sym (regrouped here parts first last (step_faults types step) (flat_map (stmt_faults types true) body))

  pub faults-While : (inside : Bool) (test : Expr) (body : List Stmt) → stmt_faults types inside (stmt.While test body) ≡ expr_faults types (Some Boolean) test ++ flat_map (stmt_faults types true) body
  faults-While inside test body = λ i. expr_faults types (Some Boolean) test ++ stmts_row true body i

  pub faults-Repeat : (inside : Bool) (body : List Stmt) (test : Expr) → stmt_faults types inside (stmt.Repeat body test) ≡ flat_map (stmt_faults types true) body ++ expr_faults types (Some Boolean) test
  faults-Repeat inside body test = λ i. stmts_row true body i ++ expr_faults types (Some Boolean) test
