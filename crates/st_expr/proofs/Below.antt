-- What is known of the phrases under one more node.
use Rattle.std.proofs.Common.{◌≡◌, ℕ, Bool, true, false, List, [], ◌∷◌}
use Rattle.plc_tokens.specs.Sorts.{kinds}
use Rattle.plc_tokens.specs.Sets as G
use Rattle.phrase.proofs.Rules.{Laws, Shape, Avoids, Avoids_three, Reaches}
use Rattle.st_expr.specs.declared.level.Level.{Level}
use Rattle.st_expr.specs.declared.level.Level.TheVariants as at
use Rattle.st_expr.specs.Nested.{Deep}
use Rattle.plc_tokens.specs.declared.reserved.Reserved.TheVariants as word
use Rattle.plc_tokens.specs.declared.sort.Form.TheVariants as form
use Rattle.plc_tokens.specs.declared.sort.Seen.{Seen}
use Rattle.plc_tokens.specs.declared.sort.Sort.{Sort}
use Rattle.plc_tokens.specs.declared.sort.Symbol.TheVariants as symbol
use Rattle.plc_tokens.specs.declared.sort.Sort.TheVariants.{Form, Symbol, Word}

-- the sorts that begin an expression
abbrev pub expr_sorts : List Sort
expr_sorts = Symbol symbol.Minus ∷ Word word.Not ∷ Form form.Integer ∷ Form form.Typed ∷ Form form.Truth ∷ Form form.Span ∷ Symbol symbol.LeftParenthesis ∷ Word word.And ∷ Word word.Or ∷ Word word.Xor ∷ Word word.Mod ∷ Form form.Name ∷ []

abbrev pub other_sorts : List Sort
other_sorts = Form form.Typed ∷ Form form.Truth ∷ Form form.Span ∷ Symbol symbol.LeftParenthesis ∷ Word word.And ∷ Word word.Or ∷ Word word.Xor ∷ Word word.Mod ∷ Form form.Name ∷ []

-- what begins an expression of a level
abbrev pub first_at : Level → List Seen
first_at at.Other = kinds other_sorts
first_at at.Primary = kinds (Form form.Integer ∷ other_sorts)
first_at _ = kinds expr_sorts

-- the sorts that may follow one inside a longer one
abbrev pub other_more : List Sort
other_more = Symbol symbol.LeftParenthesis ∷ Symbol symbol.Hash ∷ Symbol symbol.LeftBracket ∷ Symbol symbol.Dot ∷ []

abbrev pub unary_more : List Sort
unary_more = Form form.Integer ∷ other_more

abbrev pub term_more : List Sort
term_more = Symbol symbol.Times ∷ Symbol symbol.Divided ∷ Word word.Mod ∷ unary_more

abbrev pub sum_more : List Sort
sum_more = Symbol symbol.Plus ∷ Symbol symbol.Minus ∷ term_more

abbrev pub comparison_more : List Sort
comparison_more = Symbol symbol.Below ∷ Symbol symbol.Above ∷ Symbol symbol.AtMost ∷ Symbol symbol.AtLeast ∷ sum_more

abbrev pub equality_more : List Sort
equality_more = Symbol symbol.Equal ∷ Symbol symbol.Unequal ∷ comparison_more

abbrev pub and_more : List Sort
and_more = Symbol symbol.Ampersand ∷ Word word.And ∷ equality_more

abbrev pub xor_more : List Sort
xor_more = Word word.Xor ∷ and_more

abbrev pub expr_more : List Sort
expr_more = Word word.Or ∷ xor_more

abbrev pub more_sorts : Level → List Sort
more_sorts at.Other = other_more
more_sorts at.Primary = other_more
more_sorts at.Unary = unary_more
more_sorts at.Term = term_more
more_sorts at.Sum = sum_more
more_sorts at.Comparison = comparison_more
more_sorts at.Equality = equality_more
more_sorts at.And = and_more
more_sorts at.Xor = xor_more
more_sorts at.Whole = expr_more

abbrev pub more_at : Level → List Seen
more_at level = kinds (more_sorts level)

abbrev pub more_operand : List Seen
more_operand = kinds (Symbol symbol.LeftBracket ∷ Symbol symbol.Dot ∷ Symbol symbol.Hash ∷ [])

abbrev pub more_path : List Seen
more_path = kinds (Symbol symbol.LeftBracket ∷ Symbol symbol.Dot ∷ [])

-- The laws of each phrase under one more node; on says that one more may open. The shapes hold at every number of nodes.
pub record Below (on : Bool) (d : ℕ) (x : ℕ → Deep) : Type 0 where
  pub operand : (level : Level) (line : Bool) → Laws on d false true (first_at level) (more_at level) (λ e. (x e).operand level line)
  pub path : Laws on d false true G.NAME more_path (λ e. (x e).path)
  pub shape : (level : Level) (line : Bool) → Shape false (first_at level) (λ e. (x e).operand level line)
  pub expr_not_named : Avoids G.NAME G.NAMED (λ e. (x e).operand at.Whole false)
  pub expr_not_out : Avoids_three G.NOT G.NAME G.NAMED (λ e. (x e).operand at.Whole false)
  pub expr_reaches : on ≡ true → Reaches G.NOT G.NAME d (λ e. (x e).operand at.Whole false)
