-- What the table of levels says of each of them.
use Rattle.std.proofs.Common.{◌≡◌, ℕ, suc, Bool, true, ◌++◌, refl, arith}
use Rattle.plc_tokens.specs.Sorts.{rank, sort_in}
use Rattle.plc_tokens.specs.Sets as G
use Rattle.plc_tokens.proofs.Known.{is_in}
use Rattle.plc_tokens.proofs.Lacks.{goes_on}
use Rattle.phrase.proofs.Basics.{disjoint}
use Rattle.phrase.proofs.Rules.{Known}
use Rattle.phrase.proofs.Sets.{subset}
use Rattle.st_expr.specs.declared.level.Level.{Level}
use Rattle.st_expr.specs.declared.level.Level.TheVariants as at
use Rattle.st_expr.specs.Expressions.{joining, side_of, levels_in}
use Rattle.st_expr.proofs.Below.{first_at, more_at}

-- the sides have one level of operators fewer
pub one_fewer : (level : Level) (k : ℕ) → levels_in level ≡ suc k → levels_in (side_of level) ≡ k
one_fewer at.Whole k h = omega (arith, h)
one_fewer _ k h = omega (arith, h)

-- a level with operators has one
pub known_at : (line : Bool) (level : Level) (k : ℕ) → levels_in level ≡ suc k → Known (sort_in line) (joining level)
known_at line at.Whole k h = is_in line G.OR refl
known_at line at.Xor k h = is_in line G.XOR refl
known_at line at.And k h = is_in line G.AND refl
known_at line at.Equality k h = is_in line G.EQUALITY refl
known_at line at.Comparison k h = is_in line G.COMPARISON refl
known_at line at.Sum k h = is_in line G.SIGN refl
known_at line at.Term k h = is_in line G.PRODUCT refl
known_at line _ k h = absurd (omega (arith, h))

-- a level begins as its sides do
pub as_side : (level : Level) → first_at (side_of level) ≡ first_at level
as_side at.Whole = refl
as_side _ = refl

pub side_begins : (level : Level) → subset rank (first_at (side_of level)) (first_at level) ≡ true
side_begins at.Whole = refl
side_begins _ = refl

pub begins_side : (level : Level) → subset rank (first_at level) (first_at (side_of level)) ≡ true
begins_side at.Whole = refl
begins_side _ = refl

-- no side goes on with an operator of the level
pub side_ends : (level : Level) → disjoint rank (more_at (side_of level)) (joining level) ≡ true
side_ends at.Whole = refl
side_ends _ = refl

-- a level goes on with its operators, and as its sides do
pub side_more : (level : Level) → subset rank ((joining level ++ more_at (side_of level)) ++ more_at (side_of level)) (more_at level) ≡ true
side_more at.Whole = refl
side_more _ = refl

-- no operator stands where the sign of an argument does
pub no_sign : (level : Level) → disjoint rank (joining level) G.NAMED ≡ true
no_sign at.Whole = refl
no_sign _ = refl

-- none is a name
pub no_name : (level : Level) → disjoint rank (joining level) G.NAME ≡ true
no_name at.Whole = refl
no_name _ = refl

-- none ends a list of tokens
pub no_end : (level : Level) → goes_on (joining level) ≡ true
no_end at.Whole = refl
no_end _ = refl
