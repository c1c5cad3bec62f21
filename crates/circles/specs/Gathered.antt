-- Nodes that lead to one another are gathered under one number: the place in the order of the last that is finished.
use Rattle.std.specs.Prelude.{◌≡◌, ◌≢◌, ◌⊎◌, ℕ, ◌+◌, ◌<◌, ◌≤◌, nat_eq, true, List, length, slice_index}
use Rattle.std.specs.List.{count_by, list_any}
use Rattle.circles.specs.Needs.{needs, Reaches}
use Rattle.circles.specs.Walk.{new}

-- a number that was given to a node
abbrev pub given : List ℕ → ℕ → Type 0
given under a = slice_index under a ≢ new

-- every node from that place on has its number, and all that lead to it have theirs
pub record IsGathered (g : List (List ℕ)) (order place under : List ℕ) (p : ℕ) : Type 0 where
  pub sized : length under ≡ length g
  pub above : (a : ℕ) → a < length g → given under a → p ≤ slice_index under a
  pub linked : (a : ℕ) → a < length g → given under a → (slice_index under a < length order) × Reaches g a (slice_index order (slice_index under a)) × Reaches g (slice_index order (slice_index under a)) a
  pub covered : (a : ℕ) → a < length g → p ≤ slice_index place a → given under a
  pub closed : (a b : ℕ) → a < length g → b < length g → needs g a b ≡ true → given under b → given under a × (slice_index under b ≤ slice_index under a)

-- while a number is given: those behind `head` in the queue wait for what leads to them
pub record IsGathering (g : List (List ℕ)) (order place under queue : List ℕ) (head p : ℕ) : Type 0 where
  pub sized : length under ≡ length g
  pub above : (a : ℕ) → a < length g → given under a → p ≤ slice_index under a
  pub linked : (a : ℕ) → a < length g → given under a → (slice_index under a < length order) × Reaches g a (slice_index order (slice_index under a)) × Reaches g (slice_index order (slice_index under a)) a
  pub covered : (a : ℕ) → a < length g → p ≤ slice_index place a → given under a
  pub queued : (k : ℕ) → head ≤ k → k < length queue → (slice_index queue k < length g) × (slice_index under (slice_index queue k) ≡ p)
  pub closed : (a b : ℕ) → a < length g → b < length g → needs g a b ≡ true → given under b → ((k : ℕ) × (head ≤ k) × (k < length queue) × (slice_index queue k ≡ b)) ⊎ (given under a × (slice_index under b ≤ slice_index under a))

-- those of a row that had no number are given one
pub record TakesIn (row : List ℕ) (number : ℕ) (under queue later longer : List ℕ) : Type 0 where
  pub sized : length later ≡ length under
  pub counted : count_by (nat_eq new) later + length longer ≡ count_by (nat_eq new) under + length queue
  pub kept : (a : ℕ) → given under a → slice_index later a ≡ slice_index under a
  pub taken : (a : ℕ) → a < length under → list_any (nat_eq a) row ≡ true → given later a
  pub fresh : (a : ℕ) → slice_index under a ≡ new → given later a → (slice_index later a ≡ number) × (list_any (nat_eq a) row ≡ true) × ((k : ℕ) × (length queue ≤ k) × (k < length longer) × (slice_index longer k ≡ a))
  pub grows : length queue ≤ length longer
  pub stays : (k : ℕ) → k < length queue → slice_index longer k ≡ slice_index queue k
  pub joins : (k : ℕ) → length queue ≤ k → k < length longer → (slice_index longer k < length under) × (slice_index later (slice_index longer k) ≡ number)
