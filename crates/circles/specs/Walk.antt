-- A walk along what nodes need, which finishes a node once all that it needs was met.
use Rattle.std.specs.Prelude.{◌≡◌, ℕ, ◌+◌, ◌*◌, ◌<◌, ◌≤◌, nat_eq, true, List, [], ◌∷◌, ◌++◌, length, slice_index, slice_set}
use Rattle.std.specs.List.{count_by}
use Rattle.circles.specs.Needs.{needs_of, needs, Path}
use Rattle.circles.specs.declared.walk.Walk.{Walk}

-- what stands in the place of a node that wasn't met, and of one that was met and isn't finished
abbrev pub new : ℕ
new = 0xffff_ffff

abbrev pub open_mark : ℕ
open_mark = 0xffff_fffe

-- what a walk keeps: `order` has the finished nodes and `place` where each stands there, `stack` the open ones, and
-- `at` how many of the needs of each of these were looked at
pub record IsWalk (g : List (List ℕ)) (order place stack at : List ℕ) : Type 0 where
  pub few : length g ≤ open_mark
  pub sized : length place ≡ length g
  pub paired : length at ≡ length stack
  pub counted : count_by (nat_eq new) place + length stack + length order ≡ length g
  pub marked : (a : ℕ) → a < length g → slice_index place a ≤ new
  pub placed : (p : ℕ) → p < length order → (slice_index order p < length g) × (slice_index place (slice_index order p) ≡ p)
  pub found : (a : ℕ) → a < length g → slice_index place a < open_mark → (slice_index place a < length order) × (slice_index order (slice_index place a) ≡ a)
  pub stacked : (k : ℕ) → k < length stack → (slice_index stack k < length g) × (slice_index place (slice_index stack k) ≡ open_mark)
  pub apart : (j k : ℕ) → j < k → k < length stack → slice_index stack j ≡ slice_index stack k → ⊥
  pub stands : (a : ℕ) → a < length g → slice_index place a ≡ open_mark → (k : ℕ) × (k < length stack) × (slice_index stack k ≡ a)
  pub trail : (k : ℕ) → k + 1 < length stack → needs g (slice_index stack k) (slice_index stack (k + 1)) ≡ true
  pub looked : (k : ℕ) → k < length stack → (i : ℕ) → i < slice_index at k → i < length (needs_of g (slice_index stack k)) → slice_index (needs_of g (slice_index stack k)) i < length g → slice_index place (slice_index (needs_of g (slice_index stack k)) i) ≡ new → ⊥
  pub finished : (p : ℕ) → p < length order → (b : ℕ) → b < length g → needs g (slice_index order p) b ≡ true → slice_index place b ≡ new → ⊥
  -- what a node needs and what finishes behind it: it leads to all that finishes before it
  pub behind : (p : ℕ) → p < length order → (b : ℕ) → b < length g → needs g (slice_index order p) b ≡ true → (q : ℕ) → p ≤ q → q < length order → q < slice_index place b → Path g b (slice_index order q)

-- a walk that met every node
pub record IsWalked (g : List (List ℕ)) (order place : List ℕ) : Type 0 where
  pub few : length g ≤ open_mark
  pub sized : length place ≡ length g
  pub whole : length order ≡ length g
  pub placed : (p : ℕ) → p < length order → (slice_index order p < length g) × (slice_index place (slice_index order p) ≡ p)
  pub found : (a : ℕ) → a < length g → (slice_index place a < length order) × (slice_index order (slice_index place a) ≡ a)
  pub behind : (a b x : ℕ) → a < length g → b < length g → x < length g → needs g a b ≡ true → slice_index place a ≤ slice_index place x → slice_index place x < slice_index place b → Path g b x

abbrev pub Goes : List (List ℕ) → Walk → Type 0
Goes g w = IsWalk g w.order.items w.place.items w.stack.items w.at.items

-- what was met stays so
abbrev pub Keeps : List ℕ → List ℕ → Type 0
Keeps before now = (a : ℕ) → slice_index now a ≡ new → slice_index before a ≡ new

-- how many steps are left at most
abbrev pub left : Walk → ℕ
left w = 2 * count_by (nat_eq new) w.place.items + length w.stack.items

-- the walk goes on, and a step less is left
pub record Steps (g : List (List ℕ)) (w v : Walk) : Type 0 where
  pub goes : Goes g v
  pub falls : left v < left w

-- a node is opened
pub record Opens (node : ℕ) (w v : Walk) : Type 0 where
  pub order : v.order.items ≡ w.order.items
  pub place : v.place.items ≡ slice_set w.place.items node open_mark
  pub stack : v.stack.items ≡ w.stack.items ++ node ∷ []
  pub at : v.at.items ≡ w.at.items ++ 0 ∷ []

-- the node on top is finished
pub record Finishes (w v : Walk) : Type 0 where
  pub node : ℕ
  pub seen : ℕ
  pub stack : w.stack.items ≡ v.stack.items ++ node ∷ []
  pub at : w.at.items ≡ v.at.items ++ seen ∷ []
  pub order : v.order.items ≡ w.order.items ++ node ∷ []
  pub place : v.place.items ≡ slice_set w.place.items node (length w.order.items)
