-- When a typed statement is typed well, and how high it is, with lists where the definitions have rows.
use Rattle.std.proofs.Common.{◌≡◌, refl, ap, ℕ, ◌+◌, List, [], ◌∷◌, Option, Bool, true}
use Rattle.std.specs.Prelude.{max}
use Rattle.plc_base.specs.declared.elem.Elem.{Elem}
use Rattle.plc_tree.specs.declared.typed.TVar.{TVar}
use Rattle.plc_tree.specs.declared.typed.TPath.{TPath}
use Rattle.plc_tree.specs.declared.typed.TExpr.{TExpr}
use Rattle.plc_tree.specs.declared.typed.TArm.{TArm}
use Rattle.plc_tree.specs.declared.typed.TChoice.{TChoice}
use Rattle.plc_tree.specs.declared.typed.TStmt.{TStmt, If, Case, For, While, Repeat}
use Rattle.plc_tree.specs.declared.typed.TStmt.TheBlock.{hidden-the_row-TStmt-0, hidden-the_row-TArm-1, hidden-the_row-TChoice-2}
use Rattle.plc_tree.specs.Rows.{elem_of}
use Rattle.plc_tree.specs.TypedHeights.{height, height_if_any, stmt_height, stmts_height, arms_height, choices_height, list_height}
use Rattle.plc_tree.specs.WellTyped.{IsTest, IsPick, IsFor, FitLabels, IsTypedStmt, AreTypedStmts, AreTypedArms, AreTypedChoices, AreTyped}

-- ---- typing

typed_row : (vs : List TVar) (inside : Bool) (xs : List TStmt) → AreTyped vs inside xs → AreTypedStmts vs inside (hidden-the_row-TStmt-0 xs)
unfolding hidden-the_row-TStmt-0 denote.Hole.Carrier.hidden
typed_row vs inside [] h = tt
typed_row vs inside (x ∷ xs) h = (h.0, typed_row vs inside xs h.1)

-- each arm of an IF
abbrev pub AreArms : List TVar → Bool → List TArm → Type 0
AreArms vs inside [] = Unit {0}
AreArms vs inside (a ∷ arms) = IsTest vs a.test × AreTyped vs inside a.body × AreArms vs inside arms

arms_row : (vs : List TVar) (inside : Bool) (arms : List TArm) → AreArms vs inside arms → AreTypedArms vs inside (hidden-the_row-TArm-1 arms)
unfolding hidden-the_row-TArm-1 hidden-the_row-TStmt-0 denote.Hole.Carrier.hidden
arms_row vs inside [] h = tt
arms_row vs inside (a ∷ arms) h = (h.0, typed_row vs inside a.body h.1, arms_row vs inside arms h.2)

-- each choice of a CASE
abbrev pub AreChoices : List TVar → Bool → Elem → List TChoice → Type 0
AreChoices vs inside t [] = Unit {0}
AreChoices vs inside t (c ∷ choices) = FitLabels t c.labels × AreTyped vs inside c.body × AreChoices vs inside t choices

choices_row : (vs : List TVar) (inside : Bool) (t : Elem) (choices : List TChoice) → AreChoices vs inside t choices → AreTypedChoices vs inside t (hidden-the_row-TChoice-2 choices)
unfolding hidden-the_row-TChoice-2 hidden-the_row-TStmt-0 denote.Hole.Carrier.hidden
choices_row vs inside t [] h = tt
choices_row vs inside t (c ∷ choices) h = (h.0, typed_row vs inside c.body h.1, choices_row vs inside t choices h.2)

module _ (vs : List TVar) (inside : Bool) where
  pub typed-If : (arms : List TArm) (other : List TStmt) → AreArms vs inside arms → AreTyped vs inside other → IsTypedStmt vs inside (If arms other)
  typed-If arms other h k = (arms_row vs inside arms h, typed_row vs inside other k)

  pub typed-Case : (pick : TExpr) (choices : List TChoice) (other : List TStmt) (p : IsPick vs pick) → AreChoices vs inside (elem_of p.ty) choices → AreTyped vs inside other
      → IsTypedStmt vs inside (Case pick choices other)
  typed-Case pick choices other p h k = ((p, choices_row vs inside (elem_of p.ty) choices h), typed_row vs inside other k)

  pub typed-For : (v : TPath) (start limit : TExpr) (step : Option TExpr) (body : List TStmt) → IsFor vs v.first start limit step → AreTyped vs true body
      → IsTypedStmt vs inside (For v start limit step body)
  typed-For v start limit step body h k = (h, typed_row vs true body k)

  pub typed-While : (test : TExpr) (body : List TStmt) → IsTest vs test → AreTyped vs true body → IsTypedStmt vs inside (While test body)
  typed-While test body h k = (h, typed_row vs true body k)

  pub typed-Repeat : (body : List TStmt) (test : TExpr) → AreTyped vs true body → IsTest vs test → IsTypedStmt vs inside (Repeat body test)
  typed-Repeat body test h k = (typed_row vs true body h, k)

-- ---- heights

height_row : (xs : List TStmt) → stmts_height (hidden-the_row-TStmt-0 xs) ≡ list_height xs
unfolding hidden-the_row-TStmt-0 denote.Hole.Carrier.hidden
height_row [] = refl
height_row (x ∷ xs) = ap (max (stmt_height x)) (height_row xs)

abbrev pub arm_list_height : List TArm → ℕ
arm_list_height [] = 0
arm_list_height (a ∷ arms) = max (height a.test) (max (list_height a.body) (arm_list_height arms))

height_arms : (arms : List TArm) → arms_height (hidden-the_row-TArm-1 arms) ≡ arm_list_height arms
unfolding hidden-the_row-TArm-1 hidden-the_row-TStmt-0 denote.Hole.Carrier.hidden
height_arms [] = refl
height_arms (a ∷ arms) = λ i. max (height a.test) (max (height_row a.body i) (height_arms arms i))

abbrev pub choice_list_height : List TChoice → ℕ
choice_list_height [] = 0
choice_list_height (c ∷ choices) = max (list_height c.body) (choice_list_height choices)

height_choices : (choices : List TChoice) → choices_height (hidden-the_row-TChoice-2 choices) ≡ choice_list_height choices
unfolding hidden-the_row-TChoice-2 hidden-the_row-TStmt-0 denote.Hole.Carrier.hidden
height_choices [] = refl
height_choices (c ∷ choices) = λ i. max (height_row c.body i) (height_choices choices i)

pub height-If : (arms : List TArm) (other : List TStmt) → stmt_height (If arms other) ≡ max (arm_list_height arms) (list_height other) + 1
height-If arms other = λ i. max (height_arms arms i) (height_row other i) + 1

pub height-Case : (pick : TExpr) (choices : List TChoice) (other : List TStmt)
    → stmt_height (Case pick choices other) ≡ max (height pick) (max (choice_list_height choices) (list_height other)) + 1
height-Case pick choices other = λ i. max (height pick) (max (height_choices choices i) (height_row other i)) + 1

pub height-For : (v : TPath) (start limit : TExpr) (step : Option TExpr) (body : List TStmt)
    → stmt_height (For v start limit step body) ≡ max (height start) (max (height limit) (max (height_if_any step) (list_height body))) + 1
height-For v start limit step body = λ i. max (height start) (max (height limit) (max (height_if_any step) (height_row body i))) + 1

pub height-While : (test : TExpr) (body : List TStmt) → stmt_height (While test body) ≡ max (height test) (list_height body) + 1
height-While test body = λ i. max (height test) (height_row body i) + 1

pub height-Repeat : (body : List TStmt) (test : TExpr) → stmt_height (Repeat body test) ≡ max (list_height body) (height test) + 1
height-Repeat body test = λ i. max (height_row body i) (height test) + 1
