-- Names in a list.
use Rattle.std.specs.Prelude.{ℕ, Bool, List}
use Rattle.std.specs.List.{list_any}
use Rattle.std.specs.Str.{bytes_eq}

abbrev pub is_listed : List (List ℕ) → List ℕ → Bool
is_listed names name = list_any (λ n. bytes_eq n name) names
