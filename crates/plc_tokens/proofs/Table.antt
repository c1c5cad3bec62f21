-- Words that the tables have, and words that they have not, by computation.
use Rattle.std.proofs.Common.{◌≡◌, [], ◌∷◌, Some, None, codes, refl, map}
use Rattle.plc_tokens.specs.declared.reserved.Reserved.TheVariants as word
use Rattle.plc_tokens.specs.declared.sort.Form.TheVariants as form
use Rattle.plc_tokens.specs.declared.sort.Sort.TheVariants.{Form, Word}
use Rattle.plc_base.specs.declared.kind.Kind.TheVariants as kind
use Rattle.plc_tokens.specs.Sorts.{reserved_word, left_word, sort_of}

pub some_words : map reserved_word (codes "TYPE" ∷ codes "VAR" ∷ codes "CONSTANT" ∷ codes "AT" ∷ codes "TRUE" ∷ codes "FALSE" ∷ [])
    ≡ map Some (word.Type ∷ word.Var ∷ word.Constant ∷ word.At ∷ word.True ∷ word.False ∷ [])
unfolding reserved_word
some_words = refl

pub no_words : map reserved_word (codes "X" ∷ codes "N" ∷ codes "LD" ∷ codes "RETAIN" ∷ codes "RETAINED" ∷ []) ≡ None ∷ None ∷ None ∷ None ∷ None ∷ []
unfolding reserved_word
no_words = refl

pub left_out : map (λ w. sort_of (kind.Left w)) (codes "RETAIN" ∷ codes "NON_RETAIN" ∷ codes "REAL" ∷ [])
    ≡ Word word.Retain ∷ Word word.NonRetain ∷ Form form.Left ∷ []
unfolding left_word
left_out = refl
