use Rattle.std.proofs.Common.{◌≡◌, length}
use Rattle.std.specs.Option.{option_map, option_or}
use Rattle.decl_parse.specs.Places.{last_of}
use Rattle.decl_parse.proofs.place.last_of.Given as goal

abbrev pub invariant-loop-tokens : goal.invariant-loop-tokens
invariant-loop-tokens l = option_or (last_of l.sorts l.tokens) (option_map (λ x. (x.0.now, x.1.now)) l.found) ≡ last_of l.sorts l.initial.tokens

abbrev pub decreases-loop-tokens : goal.decreases-loop-tokens
decreases-loop-tokens l = length l.tokens
