-- The typed body of a program without a broken use is typed well.
use Rattle.std.proofs.Common.{◌≡◌, refl, sym, ap, subst, ◌∙◌, ℕ, List, [], ◌∷◌, ◌++◌, map, Bool, true, false, Option, Some, None}
use Rattle.std.specs.Prelude.{◌&&◌, ◌||◌, not, is_some, unwrap_or}
use Rattle.std.specs.List.{flat_map}
use Rattle.std.proofs.lemmas.Bool.{and_parts}
use Rattle.plc_base.specs.declared.elem.Elem.{Elem}
use Rattle.plc_base.specs.declared.elem.Elem.TheVariants.{Int, Bool as Boolean}
use Rattle.plc_base.specs.declared.refusal.Place.{Place}
use Rattle.plc_tree.specs.declared.tree.Part.{Part}
use Rattle.plc_tree.specs.declared.tree.Part as in_part
use Rattle.plc_tree.specs.declared.tree.Path.{Path}
use Rattle.plc_tree.specs.declared.tree.Expr.{Expr, Row_of-Expr, more_of-Expr, Row_of-Part, end_of-Part, more_of-Part}
use Rattle.plc_tree.specs.declared.tree.Expr as e
use Rattle.plc_tree.specs.declared.tree.Label.{Label}
use Rattle.plc_tree.specs.declared.tree.Label.TheVariants as label
use Rattle.plc_tree.specs.declared.tree.Stmt.{Stmt, Row_of-Stmt, end_of-Stmt, more_of-Stmt, Row_of-Arm, end_of-Arm, more_of-Arm, Row_of-Choice, end_of-Choice, more_of-Choice}
use Rattle.plc_tree.specs.declared.tree.Stmt as s
use Rattle.plc_tree.specs.declared.typed.TypeId.TheVariants as of
use Rattle.plc_tree.specs.declared.typed.TVar.{TVar}
use Rattle.plc_tree.specs.WellTyped.{var_in, type_of, HasType, IsSet, IsPick, IsFor, IsStep, FitLabels, IsTypedStmt, AreTyped}
use Rattle.plc_tree.proofs.TreeViews.{type-Paren, type-Unary, type-Binary}
use Rattle.plc_tree.proofs.StatementViews.{AreArms, AreChoices, typed-If, typed-Case, typed-For, typed-While, typed-Repeat}
use Rattle.plc_typing.specs.Constants.{has_const}
use Rattle.plc_typing.specs.Scope.{Types}
use Rattle.plc_typing.specs.Plain.{is_in_int, is_of, side_of, result_of, type_of_one, plain_number, plain_unary, plain_binary, plain_variable, plain}
use Rattle.plc_typing.specs.Uses.{suits, unplain, place_of_expr, part_faults, parts_faults, path_faults, node_faults, is_as_wanted, whole_faults, expr_faults, pick_faults, step_faults, label_faults, stmt_faults, stmts_faults, arms_faults, choices_faults}
use Rattle.plc_typing.specs.Typing.{number_in, typed_path, typed_expr, typed_if_any, typed_label, typed_stmt, typed_stmts, typed_arms, typed_choices}
use Rattle.plc_typing.proofs.Faults.{none_of_both, holds, broken_there}
use Rattle.plc_typing.proofs.Tests.{of_type, as_wanted, known_type, int_fits, row_of_one, number_plain, unary_plain, binary_plain}

-- ---- expressions

-- each name that is of a type stands for a variable of the type
abbrev pub Resolves : List (List ℕ) → Types → List TVar → Type 0
Resolves N types vs = (name : List ℕ) (t : Elem) → types name ≡ Some t → type_of (var_in vs (number_in N name)) ≡ Some (of.Elem t)

-- a variable without an index or a field
bare : (o : Option Elem) {m : _} (parts : Row_of-Part m) → parts_faults parts ≡ [] → plain_variable o parts ≡ o
bare o end_of-Part h = refl
bare o (more_of-Part (in_part.Field name at dot) rest) h = absurd (broken_there dot (none_of_both (suits false dot) (parts_faults rest) h).0)
bare o (more_of-Part (in_part.Index' shape list at) rest) h = absurd (broken_there at (none_of_both (suits false at) (parts_faults rest) h).0)

-- an expression that has a type by itself, and its typed tree where this type is wanted
pub record IsPlain (N : List (List ℕ)) (types : Types) (vs : List TVar) (x : Expr) : Type 0 where
  pub ty : Elem
  pub plain : plain types x ≡ Some ty
  pub value : HasType vs (typed_expr N ty x) (of.Elem ty)

as_viewed : {A B : Type 0} → A ≡ B → B → A
as_viewed e b = let P : Type 0 → Type 0 = λ t. t in subst P (sym e) b

-- the labels of a CASE
labels_fit : (labels : List Label) → flat_map label_faults labels ≡ [] → FitLabels Int (map typed_label labels)
labels_fit [] h = tt
labels_fit (label.Range low high at ∷ labels) h =
    let two = none_of_both (suits (is_in_int low && is_in_int high) at) (flat_map label_faults labels) h in
    let ends = and_parts (is_in_int low) (is_in_int high) (holds (is_in_int low && is_in_int high) at two.0) in
    ((int_fits low ends.0, int_fits high ends.1), labels_fit labels two.1)
labels_fit (label.Value owner name at name_at ∷ labels) h = absurd (broken_there at (none_of_both (suits false at) (flat_map label_faults labels) h).0)

module _ (N : List (List ℕ)) (types : Types) (vs : List TVar) (resolves : Resolves N types vs) where
  -- where a type is wanted that it is of
  plain_value : (x : Expr) (want : Elem) → IsPlain N types vs x → plain types x ≡ Some want → HasType vs (typed_expr N want x) (of.Elem want)
  plain_value x want p h =
      let P : Elem → Type 0 = λ t. HasType vs (typed_expr N t x) (of.Elem t) in
      subst P (ap (λ o. unwrap_or o Int) (sym p.plain ∙ h)) p.value

  not_plain : {x : Expr} (at : Place) → suits false at ≡ [] → IsPlain N types vs x
  not_plain at h = absurd (broken_there at h)

  -- an operator is plain where its parts are
  whole_plain : (parts : Bool) (whole : Option Elem) (at : Place) → parts ≡ true → unplain parts whole at ≡ [] → is_some whole ≡ true
  whole_plain parts whole at e h = let does : (false || is_some whole) ≡ true = sym (ap (λ b. not b || is_some whole) e) ∙ holds (not parts || is_some whole) at h in does

  pub node_typed : (x : Expr) → node_faults types x ≡ [] → IsPlain N types vs x
  unfolding typed_expr
  node_typed (e.Number z want at) h =
      let number = number_plain z want (holds (is_some (plain_number z want)) at h) in
      record { ty = Int; plain = number.0; value = (refl, number.1) }
  node_typed (e.Truth b at) h = record { ty = Boolean; plain = refl; value = (refl, refl) }
  node_typed (e.Span ns at) h = not_plain at h
  node_typed (e.Value owner name at name_at) h = not_plain at h
  node_typed (e.Var' first at h parts) none =
      let two = none_of_both (suits (is_some (types first)) at) (parts_faults parts) none in
      let known = known_type (types first) (holds (is_some (types first)) at two.0) in
      record { ty = unwrap_or (types first) Int; plain = bare (types first) parts two.1 ∙ known; value = (refl, resolves first (unwrap_or (types first) Int) known) }
  node_typed (e.Paren' at h (more_of-Expr x rest)) none =
      let p = node_typed x none in
      let ty = of.Elem p.ty in
      record { ty = p.ty; plain = p.plain; value = as_viewed (type-Paren vs ty ty (typed_expr N p.ty x)) (refl, p.value) }
  node_typed (e.Unary' op at h (more_of-Expr x rest)) none =
      let two = none_of_both (node_faults types x) _ none in
      let side = type_of_one op in
      let p = node_typed x two.0 in
      let whole = plain_unary op (has_const x) (plain types x) in
      let is = unary_plain op (has_const x) (plain types x) (whole_plain (is_some (plain types x)) whole at (ap is_some p.plain) two.1) in
      let value = plain_value x side p is.1 in
      record { ty = side; plain = is.0; value = as_viewed (type-Unary vs op (of.Elem side) (of.Elem side) (typed_expr N side x)) (refl, row_of_one op, value) }
  node_typed (e.Binary' op at h (more_of-Expr x none_left) k (more_of-Expr y rest)) none =
      let two = none_of_both (node_faults types x) _ none in
      let right = none_of_both (node_faults types y) _ two.1 in
      let p = node_typed x two.0 in
      let q = node_typed y right.0 in
      let whole = plain_binary op (has_const x && has_const y) (plain types x) (plain types y) in
      let parts : (is_some (plain types x) && is_some (plain types y)) ≡ true = λ i. is_some (p.plain i) && is_some (q.plain i) in
      let is = binary_plain op (has_const x && has_const y) (plain types x) (plain types y) (whole_plain (is_some (plain types x) && is_some (plain types y)) whole at parts right.1) in
      let side = side_of op in
      let ty = of.Elem (result_of op) in
      let l = plain_value x side p is.left in
      let r = plain_value y side q is.right in
      record {
        ty = result_of op;
        plain = is.plain;
        value = as_viewed (type-Binary vs op ty ty (typed_expr N side x) (typed_expr N side y)) (refl, (of.Elem side, is.row, l, r));
      }
  node_typed (e.Call' name at h args) none = not_plain at none

  -- a whole expression where a type is wanted
  pub whole_typed : (does : Bool) (want : Elem) (x : Expr) → whole_faults types does (Some want) x ≡ [] → HasType vs (typed_expr N want x) (of.Elem want)
  whole_typed does want x h =
      let two = none_of_both (node_faults types x) _ h in
      let p = node_typed x two.0 in
      let is = and_parts does (is_as_wanted (Some want) (plain types x)) (holds (does && is_as_wanted (Some want) (plain types x)) (place_of_expr x) two.1) in
      plain_value x want p (as_wanted want p.ty (plain types x) p.plain is.1)

  -- ---- statements

  step_typed : (step : Option Expr) → step_faults types step ≡ [] → IsStep vs (typed_if_any N Int step) (of.Elem Int)
  step_typed None h = tt
  step_typed (Some x) h = whole_typed _ Int x h

  set_typed : (to : Path) (from : Expr) → path_faults types to ++ expr_faults types (types to.first) from ≡ []
      → IsSet vs (number_in N to.first) (typed_expr N (unwrap_or (types to.first) Int) from)
  set_typed to from h =
      let both = none_of_both (path_faults types to) (expr_faults types (types to.first) from) h in
      let two = none_of_both (suits (is_some (types to.first)) to.at) (flat_map part_faults to.parts) both.0 in
      let want = unwrap_or (types to.first) Int in
      let known : types to.first ≡ Some want = known_type (types to.first) (holds (is_some (types to.first)) to.at two.0) in
      record {
        ty = of.Elem want;
        target = resolves to.first want known;
        value = whole_typed true want from (ap (λ o. expr_faults types o from) (sym known) ∙ both.1);
      }

  mutual
    unfolding typed_stmt

    pub stmt_typed : (inside : Bool) (x : Stmt) → stmt_faults types inside x ≡ [] → IsTypedStmt vs inside (typed_stmt N types x)
    stmt_typed inside s.Empty none = tt
    stmt_typed inside (s.Set to from) none = set_typed to from none
    stmt_typed inside (s.Call name at args) none = absurd (broken_there at none)
    stmt_typed inside (s.If' h arms k other) none =
        let two = none_of_both (arms_faults types inside arms) _ none in
        typed-If vs inside (typed_arms N types arms) (typed_stmts N types other) (arms_typed inside arms two.0) (row_typed inside other two.1)
    stmt_typed inside (s.Case' pick h arms k other) none =
        let first = none_of_both (pick_faults types pick) _ none in
        let two = none_of_both (choices_faults types inside arms) _ first.1 in
        let selector : IsPick vs (typed_expr N Int pick) = record { ty = of.Elem Int; counts = refl; value = whole_typed _ Int pick first.0 } in
        typed-Case vs inside (typed_expr N Int pick) (typed_choices N types arms) (typed_stmts N types other) selector (choices_typed inside arms two.0) (row_typed inside other two.1)
    stmt_typed inside (s.For' var start limit step h body) none =
        let first = none_of_both (suits (is_of Int (types var.first)) var.at) _ none in
        let behind = none_of_both (flat_map part_faults var.parts) _ first.1 in
        let begins = none_of_both (expr_faults types (Some Int) start) _ behind.1 in
        let ends = none_of_both (expr_faults types (Some Int) limit) _ begins.1 in
        let two = none_of_both (step_faults types step) _ ends.1 in
        let head : IsFor vs (number_in N var.first) (typed_expr N Int start) (typed_expr N Int limit) (typed_if_any N Int step) = record {
          ty = of.Elem Int;
          counts = refl;
          target = resolves var.first Int (of_type Int (types var.first) (holds (is_of Int (types var.first)) var.at first.0));
          begins = whole_typed true Int start begins.0;
          ends = whole_typed true Int limit ends.0;
          steps = step_typed step two.0;
        } in
        typed-For vs inside (typed_path N var) (typed_expr N Int start) (typed_expr N Int limit) (typed_if_any N Int step) (typed_stmts N types body) head (row_typed true body two.1)
    stmt_typed inside (s.While' test h body) none =
        let two = none_of_both (expr_faults types (Some Boolean) test) _ none in
        typed-While vs inside (typed_expr N Boolean test) (typed_stmts N types body) (whole_typed true Boolean test two.0) (row_typed true body two.1)
    stmt_typed inside (s.Repeat' h body test) none =
        let two = none_of_both (stmts_faults types true body) _ none in
        typed-Repeat vs inside (typed_stmts N types body) (typed_expr N Boolean test) (row_typed true body two.0) (whole_typed true Boolean test two.1)
    stmt_typed inside (s.Exit at) none = holds inside at none
    stmt_typed inside (s.Return at) none = tt

    row_typed : (inside : Bool) {m : _} (xs : Row_of-Stmt m) → stmts_faults types inside xs ≡ [] → AreTyped vs inside (typed_stmts N types xs)
    row_typed inside end_of-Stmt h = tt
    row_typed inside (more_of-Stmt x xs) h =
        let two = none_of_both (stmt_faults types inside x) _ h in (stmt_typed inside x two.0, row_typed inside xs two.1)

    arms_typed : (inside : Bool) {m : _} (arms : Row_of-Arm m) → arms_faults types inside arms ≡ [] → AreArms vs inside (typed_arms N types arms)
    arms_typed inside end_of-Arm none = tt
    arms_typed inside (more_of-Arm test h body rest) none =
        let first = none_of_both (expr_faults types (Some Boolean) test) _ none in
        let two = none_of_both (stmts_faults types inside body) _ first.1 in
        (whole_typed true Boolean test first.0, row_typed inside body two.0, arms_typed inside rest two.1)

    choices_typed : (inside : Bool) {m : _} (arms : Row_of-Choice m) → choices_faults types inside arms ≡ [] → AreChoices vs inside Int (typed_choices N types arms)
    choices_typed inside end_of-Choice none = tt
    choices_typed inside (more_of-Choice labels h body rest) none =
        let first = none_of_both (flat_map label_faults labels) _ none in
        let two = none_of_both (stmts_faults types inside body) _ first.1 in
        (labels_fit labels first.0, row_typed inside body two.0, choices_typed inside rest two.1)

  pub stmts_typed : (inside : Bool) (xs : List Stmt) → flat_map (stmt_faults types inside) xs ≡ [] → AreTyped vs inside (map (typed_stmt N types) xs)
  stmts_typed inside [] h = tt
  stmts_typed inside (x ∷ xs) h = let two = none_of_both (stmt_faults types inside x) _ h in (stmt_typed inside x two.0, stmts_typed inside xs two.1)
