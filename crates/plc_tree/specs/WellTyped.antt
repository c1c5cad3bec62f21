-- Which typed bodies are typed well: each node has the type that its place wants (IEC 61131-3, 2.5.1).
use Rattle.std.specs.Prelude.{◌≡◌, ℕ, ◌+◌, ◌≤◌, nat_eq, Bool, true, false, List, [], ◌∷◌, Option, Some, None, if◌then◌else◌}
use Rattle.plc_base.specs.declared.elem.Elem.{Elem}
use Rattle.plc_base.specs.declared.elem.Elem.TheVariants.{Sint, Int, Dint, Lint, Usint, Uint, Udint, Ulint, Byte, Word, Dword, Lword, Bool as Boolean, Time}
use Rattle.plc_base.specs.Numbers.{Fits}
use Rattle.plc_tree.specs.declared.tree.BinOp.{BinOp}
use Rattle.plc_tree.specs.declared.tree.BinOp.TheVariants.{Or, Xor, And, Eq, Ne, Lt, Gt, Le, Ge, Add, Sub, Mul, Div, Rem}
use Rattle.plc_tree.specs.declared.tree.UnOp.{UnOp}
use Rattle.plc_tree.specs.declared.tree.UnOp.TheVariants.{Minus, Not}
use Rattle.plc_tree.specs.declared.typed.TypeId.{TypeId}
use Rattle.plc_tree.specs.declared.typed.TypeId.TheVariants.{Elem as elementary}
use Rattle.plc_tree.specs.declared.typed.TVar.{TVar}
use Rattle.plc_tree.specs.declared.typed.TPou.{TPou}
use Rattle.plc_tree.specs.declared.typed.TExpr.{TExpr, Number, Truth, Var, Paren', Unary', Binary', Row_of-TExpr, end_of-TExpr, more_of-TExpr}
use Rattle.plc_tree.specs.declared.typed.TLabel.{TLabel}
use Rattle.plc_tree.specs.declared.typed.TLabel.TheVariants.{Range}
use Rattle.plc_tree.specs.declared.typed.TStmt.{TStmt, Empty, Set, If', Case', For', While', Repeat', Exit, Return, Row_of-TStmt, end_of-TStmt, more_of-TStmt, Row_of-TArm, end_of-TArm, more_of-TArm, Row_of-TChoice, end_of-TChoice, more_of-TChoice}
use Rattle.plc_tree.specs.declared.typed.TBody.{TBody}
use Rattle.plc_tree.specs.declared.typed.TBody.TheVariants.{St}
use Rattle.plc_tree.specs.Rows.{elem_of}
use Rattle.plc_tree.specs.TypedHeights.{body_height}

-- ---- variables by their numbers

abbrev pub var_in : List TVar → ℕ → Option TVar
var_in [] id = None
var_in (v ∷ vs) id = if nat_eq v.id id then Some v else var_in vs id

abbrev pub type_of : Option TVar → Option TypeId
type_of None = None
type_of (Some v) = Some v.ty

-- each variable has the number after the one before it
abbrev pub AreNumberedFrom : ℕ → List TVar → Type 0
AreNumberedFrom k [] = Unit {0}
AreNumberedFrom k (v ∷ vs) = (v.id ≡ k) × AreNumberedFrom (k + 1) vs

pub record AreNumbered (vs : List TVar) : Type 0 where
  pub first : ℕ
  pub from : AreNumberedFrom first vs

-- ---- expressions

-- the types whose numbers are counted: the integers
abbrev pub counts : Elem → Bool
counts Sint = true
counts Int = true
counts Dint = true
counts Lint = true
counts Usint = true
counts Uint = true
counts Udint = true
counts Ulint = true
counts Byte = false
counts Word = false
counts Dword = false
counts Lword = false
counts Boolean = false
counts Time = false

-- those that are bits
abbrev pub is_bits : Elem → Bool
is_bits Sint = false
is_bits Int = false
is_bits Dint = false
is_bits Lint = false
is_bits Usint = false
is_bits Uint = false
is_bits Udint = false
is_bits Ulint = false
is_bits Byte = true
is_bits Word = true
is_bits Dword = true
is_bits Lword = true
is_bits Boolean = true
is_bits Time = false

-- The sides of an operator are of the first type, its result is of the second. Division isn't built yet.
abbrev pub IsRow : BinOp → TypeId → TypeId → Type 0
IsRow Or side result = (result ≡ side) × (is_bits (elem_of side) ≡ true)
IsRow Xor side result = (result ≡ side) × (is_bits (elem_of side) ≡ true)
IsRow And side result = (result ≡ side) × (is_bits (elem_of side) ≡ true)
IsRow Eq side result = result ≡ elementary Boolean
IsRow Ne side result = result ≡ elementary Boolean
IsRow Lt side result = result ≡ elementary Boolean
IsRow Gt side result = result ≡ elementary Boolean
IsRow Le side result = result ≡ elementary Boolean
IsRow Ge side result = result ≡ elementary Boolean
IsRow Add side result = (result ≡ side) × (counts (elem_of side) ≡ true)
IsRow Sub side result = (result ≡ side) × (counts (elem_of side) ≡ true)
IsRow Mul side result = (result ≡ side) × (counts (elem_of side) ≡ true)
IsRow Div side result = ⊥
IsRow Rem side result = ⊥

-- an operator before an operand of the type that it gives
abbrev pub IsRowOfOne : UnOp → TypeId → Type 0
IsRowOfOne Minus ty = counts (elem_of ty) ≡ true
IsRowOfOne Not ty = is_bits (elem_of ty) ≡ true

abbrev mutual
  -- an expression of this type over these variables
  pub HasType : List TVar → TExpr → TypeId → Type 0
  HasType vs (Number z ty) t = (ty ≡ t) × Fits (elem_of ty) z
  HasType vs (Truth b ty) t = (ty ≡ t) × (ty ≡ elementary Boolean)
  HasType vs (Var p ty) t = (ty ≡ t) × (type_of (var_in vs p.first) ≡ Some ty)
  HasType vs (Paren' ty h inner) t = (ty ≡ t) × OneHasType vs inner ty
  HasType vs (Unary' op ty h inner) t = (ty ≡ t) × IsRowOfOne op ty × OneHasType vs inner ty
  HasType vs (Binary' op ty h l k r) t = (ty ≡ t) × ((o : TypeId) × IsRow op o ty × OneHasType vs l o × OneHasType vs r o)

  pub OneHasType : List TVar → {m : _} → Row_of-TExpr m → TypeId → Type 0
  OneHasType vs end_of-TExpr t = ⊥
  OneHasType vs (more_of-TExpr e rest) t = HasType vs e t

-- a condition
abbrev pub IsTest : List TVar → TExpr → Type 0
IsTest vs e = HasType vs e (elementary Boolean)

-- ---- statements

-- the value of an assignment is of its target's type
pub record IsSet (vs : List TVar) (to : ℕ) (from : TExpr) : Type 0 where
  pub ty : TypeId
  pub target : type_of (var_in vs to) ≡ Some ty
  pub value : HasType vs from ty

-- the selector of a CASE counts
pub record IsPick (vs : List TVar) (pick : TExpr) : Type 0 where
  pub ty : TypeId
  pub counts : counts (elem_of ty) ≡ true
  pub value : HasType vs pick ty

-- a step, where there is one
abbrev pub IsStep : List TVar → Option TExpr → TypeId → Type 0
IsStep vs None ty = Unit {0}
IsStep vs (Some e) ty = HasType vs e ty

-- the variable of a FOR counts, and its start, limit and step are of its type
pub record IsFor (vs : List TVar) (var : ℕ) (start limit : TExpr) (step : Option TExpr) : Type 0 where
  pub ty : TypeId
  pub counts : counts (elem_of ty) ≡ true
  pub target : type_of (var_in vs var) ≡ Some ty
  pub begins : HasType vs start ty
  pub ends : HasType vs limit ty
  pub steps : IsStep vs step ty

-- both ends of a label are of the selector's type
abbrev pub FitsLabel : Elem → TLabel → Type 0
FitsLabel t (Range low high) = Fits t low × Fits t high

abbrev pub FitLabels : Elem → List TLabel → Type 0
FitLabels t [] = Unit {0}
FitLabels t (l ∷ ls) = FitsLabel t l × FitLabels t ls

-- over these variables, inside a loop or not
abbrev mutual
  pub IsTypedStmt : List TVar → Bool → TStmt → Type 0
  IsTypedStmt vs inside Empty = Unit {0}
  IsTypedStmt vs inside (Set to from) = IsSet vs to.first from
  IsTypedStmt vs inside (If' h arms k other) = AreTypedArms vs inside arms × AreTypedStmts vs inside other
  IsTypedStmt vs inside (Case' pick h arms k other) = ((p : IsPick vs pick) × AreTypedChoices vs inside (elem_of p.ty) arms) × AreTypedStmts vs inside other
  IsTypedStmt vs inside (For' v start limit step h body) = IsFor vs v.first start limit step × AreTypedStmts vs true body
  IsTypedStmt vs inside (While' test h body) = IsTest vs test × AreTypedStmts vs true body
  IsTypedStmt vs inside (Repeat' h body test) = AreTypedStmts vs true body × IsTest vs test
  IsTypedStmt vs inside Exit = inside ≡ true
  IsTypedStmt vs inside Return = Unit {0}

  pub AreTypedStmts : List TVar → Bool → {m : _} → Row_of-TStmt m → Type 0
  AreTypedStmts vs inside end_of-TStmt = Unit {0}
  AreTypedStmts vs inside (more_of-TStmt x xs) = IsTypedStmt vs inside x × AreTypedStmts vs inside xs

  pub AreTypedArms : List TVar → Bool → {m : _} → Row_of-TArm m → Type 0
  AreTypedArms vs inside end_of-TArm = Unit {0}
  AreTypedArms vs inside (more_of-TArm test h body rest) = IsTest vs test × AreTypedStmts vs inside body × AreTypedArms vs inside rest

  pub AreTypedChoices : List TVar → Bool → Elem → {m : _} → Row_of-TChoice m → Type 0
  AreTypedChoices vs inside t end_of-TChoice = Unit {0}
  AreTypedChoices vs inside t (more_of-TChoice labels h body rest) = FitLabels t labels × AreTypedStmts vs inside body × AreTypedChoices vs inside t rest

abbrev pub AreTyped : List TVar → Bool → List TStmt → Type 0
AreTyped vs inside [] = Unit {0}
AreTyped vs inside (x ∷ xs) = IsTypedStmt vs inside x × AreTyped vs inside xs

abbrev pub IsTypedBody : List TVar → TBody → Type 0
IsTypedBody vs (St xs) = AreTyped vs false xs

-- each variable starts at a number of its type
abbrev pub AreFit : List TVar → Type 0
AreFit [] = Unit {0}
AreFit (v ∷ vs) = Fits (elem_of v.ty) v.init × AreFit vs

-- a POU whose variables are numbered and whose body is typed well and at most 64 high
pub record IsTypedPou (p : TPou) : Type 0 where
  pub numbered : AreNumbered p.vars
  pub fit : AreFit p.vars
  pub body : IsTypedBody p.vars p.body
  pub low : body_height p.body ≤ 64
