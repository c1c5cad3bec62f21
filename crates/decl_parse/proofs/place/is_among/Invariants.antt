use Rattle.std.proofs.Common.{◌≡◌, length, map}
use Rattle.decl_parse.specs.Places.{is_among}
use Rattle.decl_parse.proofs.place.is_among.Given as goal

abbrev pub invariant-loop-words : goal.invariant-loop-words
invariant-loop-words l = is_among (map (λ w. w.now) l.words) l.word ≡ is_among (map (λ w. w.now) l.initial.words) l.word

abbrev pub decreases-loop-words : goal.decreases-loop-words
decreases-loop-words l = length l.words
