-- What needs what: for each node the nodes that it needs, and which nodes lie on a circle of needs.
use Rattle.std.specs.Prelude.{◌≡◌, ℕ, zero, suc, nat_eq, Bool, true, ◌||◌, List, [], ◌∷◌, ◌++◌, length, slice_index_or, slice_set}
use Rattle.std.specs.List.{list_any}

-- what a node needs; a node beyond the list needs nothing
abbrev pub needs_of : List (List ℕ) → ℕ → List ℕ
needs_of g a = slice_index_or g a []

-- whether a needs b itself
abbrev pub needs : List (List ℕ) → ℕ → ℕ → Bool
needs g a b = list_any (nat_eq b) (needs_of g a)

-- whether a leads to b in one need, or in up to n more
abbrev pub leads : ℕ → List (List ℕ) → ℕ → ℕ → Bool
leads zero g a b = needs g a b
leads (suc n) g a b = needs g a b || list_any (λ c. leads n g c b) (needs_of g a)

-- a node that needs itself, through as many others as there are at most
abbrev pub is_circular : List (List ℕ) → ℕ → Bool
is_circular g a = leads (length g) g a a

-- the same where a needs b too, behind all else that it needs
abbrev pub with_need : List (List ℕ) → ℕ → ℕ → List (List ℕ)
with_need g a b = slice_set g a (needs_of g a ++ b ∷ [])

-- ---- the same as a relation, through any number of others

-- b is reached from a in n needs, one from the next
abbrev pub ReachesIn : ℕ → List (List ℕ) → ℕ → ℕ → Type 0
ReachesIn zero g a b = a ≡ b
ReachesIn (suc n) g a b = (c : ℕ) × (needs g a c ≡ true) × ReachesIn n g c b

-- b is a itself, or is reached from it
abbrev pub Reaches : List (List ℕ) → ℕ → ℕ → Type 0
Reaches g a b = (n : ℕ) × ReachesIn n g a b

-- a leads to b in one need or more
abbrev pub Path : List (List ℕ) → ℕ → ℕ → Type 0
Path g a b = (c : ℕ) × (needs g a c ≡ true) × Reaches g c b
