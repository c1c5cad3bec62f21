-- For each production of names and types, tokens that spell a value, and some that differ little and spell none.
use Rattle.std.proofs.Common.{◌≡◌, ℕ, ◌+◌, List, [], ◌∷◌, Option, Some, None, refl, pos, negsuc, Ok, Err}
use Rattle.plc_tree.specs.declared.tree.Id.{Id}
use Rattle.plc_tree.specs.declared.tree.Bounds.{Bounds}
use Rattle.plc_tree.specs.declared.tree.Spec.{Spec}
use Rattle.plc_tree.specs.declared.tree.Spec.TheVariants as in_spec
use Rattle.plc_tree.specs.declared.tree.Init.{Init}
use Rattle.plc_tree.specs.declared.tree.Init.TheVariants as init
use Rattle.plc_tree.specs.declared.tree.Member.{Member}
use Rattle.plc_tree.specs.declared.tree.TypeDef.{TypeDef}
use Rattle.plc_tree.specs.declared.tree.TypeWhat.{TypeWhat}
use Rattle.plc_tree.specs.declared.tree.TypeWhat.TheVariants as what
use Rattle.phrase.specs.declared.Fault.TheVariants.{Wrong, Deep}
use Rattle.phrase.specs.Exact.{Phrase}
use Rattle.phrase.proofs.Worked.{spelled, denied, left_over}
use Rattle.st_expr.proofs.SampleTokens.{here, from, A, B, C, F, one, five, assign, range, lparen, rparen, lbracket, rbracket, comma, semi, colon, minus, equal}
use Rattle.type_parse.proofs.SampleTokens.{types_on_tokens, id, TYPE, END_TYPE, STRUCT, END_STRUCT, ARRAY, OF, INT, BOOL}
use Rattle.type_parse.specs.Names.{name, more_names, names, tname}
use Rattle.type_parse.specs.Types.{bounds_of, bounds, dimensions, array, limits, integer_type, other_type, spec, default, default_if_any, enumeration, member_of, field, structure, renamed, meaning, definition_of, definition, next_definition, types}
use Rattle.type_parse.proofs.TypeLaws.{name_laws, more_names_laws, names_laws, tname_laws, bounds_laws, dimensions_laws, array_laws, limits_laws, integer_type_laws, other_type_laws, spec_laws, default_laws, default_if_any_laws, enumeration_laws, field_laws, structure_laws, renamed_laws, meaning_laws, definition_laws, next_definition_laws, types_laws}

-- 1..5, the first token of this number
abbrev to_5 : ℕ → Bounds
to_5 n = bounds_of (record { value = pos 1; at = here n }) (record { value = pos 5; at = here (n + 2) })

-- -5..1
abbrev from_minus_5 : ℕ → Bounds
from_minus_5 n = bounds_of (record { value = negsuc 4; at = here n }) (record { value = pos 1; at = here (n + 3) })

-- 5 at this token
abbrev int_5 : ℕ → Option Init
int_5 n = Some (init.Number (pos 5) None (here n))

-- ---- names

-- A, and a word that is reserved is no name
name_reads : name.run (from 0 (A ∷ [])) ≡ (Ok (id 0 A), [])
unfolding types_on_tokens
name_reads = refl

name_spelled : name.lang (from 0 (A ∷ [])) (id 0 A)
name_spelled = spelled ((name_laws 3).law refl) name_reads

name_stops : name.run (from 0 (INT ∷ [])) ≡ (Err Wrong, from 0 (INT ∷ []))
unfolding types_on_tokens
name_stops = refl

name_denied : (a : Id) → Phrase (λ _. name) (from 0 (INT ∷ [])) a → ⊥
name_denied = denied ((name_laws 3).law refl) name_stops

-- behind A: , B; a name without "," is left
more_names_reads : (more_names (id 0 A)).run (from 1 (comma ∷ B ∷ [])) ≡ (Ok (id 0 A ∷ id 2 B ∷ []), [])
unfolding types_on_tokens
more_names_reads = refl

more_names_spelled : (more_names (id 0 A)).lang (from 1 (comma ∷ B ∷ [])) (id 0 A ∷ id 2 B ∷ [])
more_names_spelled = spelled ((more_names_laws 3 (id 0 A)).law refl) more_names_reads

more_names_stops : (more_names (id 0 A)).run (from 1 (B ∷ [])) ≡ (Ok (id 0 A ∷ []), from 1 (B ∷ []))
unfolding types_on_tokens
more_names_stops = refl

more_names_denied : (a : (List Id)) → Phrase (λ _. more_names (id 0 A)) (from 1 (B ∷ [])) a → ⊥
more_names_denied = left_over ((more_names_laws 3 (id 0 A)).law refl) more_names_stops

-- A, B, C in text order, and no name behind ","
names_reads : names.run (from 0 (A ∷ comma ∷ B ∷ comma ∷ C ∷ [])) ≡ (Ok (id 0 A ∷ id 2 B ∷ id 4 C ∷ []), [])
unfolding types_on_tokens
names_reads = refl

names_spelled : names.lang (from 0 (A ∷ comma ∷ B ∷ comma ∷ C ∷ [])) (id 0 A ∷ id 2 B ∷ id 4 C ∷ [])
names_spelled = spelled ((names_laws 3).law refl) names_reads

names_stops : names.run (from 0 (A ∷ comma ∷ [])) ≡ (Err Wrong, [])
unfolding types_on_tokens
names_stops = refl

names_denied : (a : (List Id)) → Phrase (λ _. names) (from 0 (A ∷ comma ∷ [])) a → ⊥
names_denied = denied ((names_laws 3).law refl) names_stops

-- INT and F, and ARRAY is no name of a type
tname_int_reads : tname.run (from 0 (INT ∷ [])) ≡ (Ok (id 0 INT), [])
unfolding types_on_tokens
tname_int_reads = refl

tname_int_spelled : tname.lang (from 0 (INT ∷ [])) (id 0 INT)
tname_int_spelled = spelled ((tname_laws 3).law refl) tname_int_reads

tname_reads : tname.run (from 0 (F ∷ [])) ≡ (Ok (id 0 F), [])
unfolding types_on_tokens
tname_reads = refl

tname_spelled : tname.lang (from 0 (F ∷ [])) (id 0 F)
tname_spelled = spelled ((tname_laws 3).law refl) tname_reads

tname_stops : tname.run (from 0 (ARRAY ∷ [])) ≡ (Err Wrong, from 0 (ARRAY ∷ []))
unfolding types_on_tokens
tname_stops = refl

tname_denied : (a : Id) → Phrase (λ _. tname) (from 0 (ARRAY ∷ [])) a → ⊥
tname_denied = denied ((tname_laws 3).law refl) tname_stops

-- ---- subranges and arrays

-- -5..1, one number alone, and a name for a number
bounds_reads : bounds.run (from 0 (minus ∷ five ∷ range ∷ one ∷ [])) ≡ (Ok (from_minus_5 0), [])
unfolding types_on_tokens
bounds_reads = refl

bounds_spelled : bounds.lang (from 0 (minus ∷ five ∷ range ∷ one ∷ [])) (from_minus_5 0)
bounds_spelled = spelled ((bounds_laws 3).law refl) bounds_reads

bounds_stops : bounds.run (from 0 (five ∷ [])) ≡ (Err Wrong, [])
unfolding types_on_tokens
bounds_stops = refl

bounds_denied : (a : Bounds) → Phrase (λ _. bounds) (from 0 (five ∷ [])) a → ⊥
bounds_denied = denied ((bounds_laws 3).law refl) bounds_stops

bounds_name_stops : bounds.run (from 0 (one ∷ range ∷ A ∷ [])) ≡ (Err Wrong, from 2 (A ∷ []))
unfolding types_on_tokens
bounds_name_stops = refl

bounds_name_denied : (a : Bounds) → Phrase (λ _. bounds) (from 0 (one ∷ range ∷ A ∷ [])) a → ⊥
bounds_name_denied = denied ((bounds_laws 3).law refl) bounds_name_stops

-- one to three dimensions, and a fourth is left
one_dimension_reads : dimensions.run (from 0 (one ∷ range ∷ five ∷ [])) ≡ (Ok (to_5 0 ∷ []), [])
unfolding types_on_tokens
one_dimension_reads = refl

one_dimension_spelled : dimensions.lang (from 0 (one ∷ range ∷ five ∷ [])) (to_5 0 ∷ [])
one_dimension_spelled = spelled ((dimensions_laws 3).law refl) one_dimension_reads

two_dimensions_reads : dimensions.run (from 0 (one ∷ range ∷ five ∷ comma ∷ minus ∷ five ∷ range ∷ one ∷ [])) ≡ (Ok (to_5 0 ∷ from_minus_5 4 ∷ []), [])
unfolding types_on_tokens
two_dimensions_reads = refl

two_dimensions_spelled : dimensions.lang (from 0 (one ∷ range ∷ five ∷ comma ∷ minus ∷ five ∷ range ∷ one ∷ [])) (to_5 0 ∷ from_minus_5 4 ∷ [])
two_dimensions_spelled = spelled ((dimensions_laws 3).law refl) two_dimensions_reads

dimensions_reads : dimensions.run (from 0 (one ∷ range ∷ five ∷ comma ∷ one ∷ range ∷ five ∷ comma ∷ minus ∷ five ∷ range ∷ one ∷ [])) ≡ (Ok (to_5 0 ∷ to_5 4 ∷ from_minus_5 8 ∷ []), [])
unfolding types_on_tokens
dimensions_reads = refl

dimensions_spelled : dimensions.lang (from 0 (one ∷ range ∷ five ∷ comma ∷ one ∷ range ∷ five ∷ comma ∷ minus ∷ five ∷ range ∷ one ∷ [])) (to_5 0 ∷ to_5 4 ∷ from_minus_5 8 ∷ [])
dimensions_spelled = spelled ((dimensions_laws 3).law refl) dimensions_reads

dimensions_stops : dimensions.run (from 0 (one ∷ range ∷ five ∷ comma ∷ one ∷ range ∷ five ∷ comma ∷ one ∷ range ∷ five ∷ comma ∷ one ∷ range ∷ five ∷ [])) ≡ (Ok (to_5 0 ∷ to_5 4 ∷ to_5 8 ∷ []), from 11 (comma ∷ one ∷ range ∷ five ∷ []))
unfolding types_on_tokens
dimensions_stops = refl

dimensions_denied : (a : (List Bounds)) → Phrase (λ _. dimensions) (from 0 (one ∷ range ∷ five ∷ comma ∷ one ∷ range ∷ five ∷ comma ∷ one ∷ range ∷ five ∷ comma ∷ one ∷ range ∷ five ∷ [])) a → ⊥
dimensions_denied = left_over ((dimensions_laws 3).law refl) dimensions_stops

-- ARRAY [1..5, -5..1] OF INT
array_reads : array.run (from 0 (ARRAY ∷ lbracket ∷ one ∷ range ∷ five ∷ comma ∷ minus ∷ five ∷ range ∷ one ∷ rbracket ∷ OF ∷ INT ∷ [])) ≡ (Ok (in_spec.Array (to_5 2 ∷ from_minus_5 6 ∷ []) (id 12 INT) (here 0) (here 1)), [])
unfolding types_on_tokens
array_reads = refl

array_spelled : array.lang (from 0 (ARRAY ∷ lbracket ∷ one ∷ range ∷ five ∷ comma ∷ minus ∷ five ∷ range ∷ one ∷ rbracket ∷ OF ∷ INT ∷ [])) (in_spec.Array (to_5 2 ∷ from_minus_5 6 ∷ []) (id 12 INT) (here 0) (here 1))
array_spelled = spelled ((array_laws 3).law refl) array_reads

-- no array has four dimensions
array_stops : array.run (from 0 (ARRAY ∷ lbracket ∷ one ∷ range ∷ five ∷ comma ∷ one ∷ range ∷ five ∷ comma ∷ one ∷ range ∷ five ∷ comma ∷ one ∷ range ∷ five ∷ rbracket ∷ OF ∷ INT ∷ [])) ≡ (Err Wrong, from 13 (comma ∷ one ∷ range ∷ five ∷ rbracket ∷ OF ∷ INT ∷ []))
unfolding types_on_tokens
array_stops = refl

array_denied : (a : Spec) → Phrase (λ _. array) (from 0 (ARRAY ∷ lbracket ∷ one ∷ range ∷ five ∷ comma ∷ one ∷ range ∷ five ∷ comma ∷ one ∷ range ∷ five ∷ comma ∷ one ∷ range ∷ five ∷ rbracket ∷ OF ∷ INT ∷ [])) a → ⊥
array_denied = denied ((array_laws 3).law refl) array_stops

-- and each has one
array_empty_stops : array.run (from 0 (ARRAY ∷ lbracket ∷ rbracket ∷ OF ∷ INT ∷ [])) ≡ (Err Wrong, from 2 (rbracket ∷ OF ∷ INT ∷ []))
unfolding types_on_tokens
array_empty_stops = refl

array_empty_denied : (a : Spec) → Phrase (λ _. array) (from 0 (ARRAY ∷ lbracket ∷ rbracket ∷ OF ∷ INT ∷ [])) a → ⊥
array_empty_denied = denied ((array_laws 3).law refl) array_empty_stops

-- an element's type has a name
array_of_array_stops : array.run (from 0 (ARRAY ∷ lbracket ∷ one ∷ range ∷ five ∷ rbracket ∷ OF ∷ ARRAY ∷ [])) ≡ (Err Wrong, from 7 (ARRAY ∷ []))
unfolding types_on_tokens
array_of_array_stops = refl

array_of_array_denied : (a : Spec) → Phrase (λ _. array) (from 0 (ARRAY ∷ lbracket ∷ one ∷ range ∷ five ∷ rbracket ∷ OF ∷ ARRAY ∷ [])) a → ⊥
array_of_array_denied = denied ((array_laws 3).law refl) array_of_array_stops

-- behind INT: (1..5), and no second range
limits_reads : (limits (id 0 INT)).run (from 1 (lparen ∷ one ∷ range ∷ five ∷ rparen ∷ [])) ≡ (Ok (in_spec.Sub (id 0 INT) (to_5 2)), [])
unfolding types_on_tokens
limits_reads = refl

limits_spelled : (limits (id 0 INT)).lang (from 1 (lparen ∷ one ∷ range ∷ five ∷ rparen ∷ [])) (in_spec.Sub (id 0 INT) (to_5 2))
limits_spelled = spelled ((limits_laws 3 (id 0 INT)).law refl) limits_reads

limits_stops : (limits (id 0 INT)).run (from 1 (lparen ∷ one ∷ range ∷ five ∷ comma ∷ one ∷ range ∷ five ∷ rparen ∷ [])) ≡ (Err Wrong, from 5 (comma ∷ one ∷ range ∷ five ∷ rparen ∷ []))
unfolding types_on_tokens
limits_stops = refl

limits_denied : (a : Spec) → Phrase (λ _. limits (id 0 INT)) (from 1 (lparen ∷ one ∷ range ∷ five ∷ comma ∷ one ∷ range ∷ five ∷ rparen ∷ [])) a → ⊥
limits_denied = denied ((limits_laws 3 (id 0 INT)).law refl) limits_stops

-- INT and INT(1..5), of which no subrange is
integer_type_reads : integer_type.run (from 0 (INT ∷ [])) ≡ (Ok (in_spec.Named (id 0 INT)), [])
unfolding types_on_tokens
integer_type_reads = refl

integer_type_spelled : integer_type.lang (from 0 (INT ∷ [])) (in_spec.Named (id 0 INT))
integer_type_spelled = spelled ((integer_type_laws 3).law refl) integer_type_reads

subrange_reads : integer_type.run (from 0 (INT ∷ lparen ∷ one ∷ range ∷ five ∷ rparen ∷ [])) ≡ (Ok (in_spec.Sub (id 0 INT) (to_5 2)), [])
unfolding types_on_tokens
subrange_reads = refl

subrange_spelled : integer_type.lang (from 0 (INT ∷ lparen ∷ one ∷ range ∷ five ∷ rparen ∷ [])) (in_spec.Sub (id 0 INT) (to_5 2))
subrange_spelled = spelled ((integer_type_laws 3).law refl) subrange_reads

subrange_stops : integer_type.run (from 0 (INT ∷ lparen ∷ one ∷ range ∷ five ∷ rparen ∷ lparen ∷ one ∷ range ∷ five ∷ rparen ∷ [])) ≡ (Ok (in_spec.Sub (id 0 INT) (to_5 2)), from 6 (lparen ∷ one ∷ range ∷ five ∷ rparen ∷ []))
unfolding types_on_tokens
subrange_stops = refl

subrange_denied : (a : Spec) → Phrase (λ _. integer_type) (from 0 (INT ∷ lparen ∷ one ∷ range ∷ five ∷ rparen ∷ lparen ∷ one ∷ range ∷ five ∷ rparen ∷ [])) a → ⊥
subrange_denied = left_over ((integer_type_laws 3).law refl) subrange_stops

-- BOOL and F, and INT is a type of whole numbers
other_type_bool_reads : other_type.run (from 0 (BOOL ∷ [])) ≡ (Ok (in_spec.Named (id 0 BOOL)), [])
unfolding types_on_tokens
other_type_bool_reads = refl

other_type_bool_spelled : other_type.lang (from 0 (BOOL ∷ [])) (in_spec.Named (id 0 BOOL))
other_type_bool_spelled = spelled ((other_type_laws 3).law refl) other_type_bool_reads

other_type_reads : other_type.run (from 0 (F ∷ [])) ≡ (Ok (in_spec.Named (id 0 F)), [])
unfolding types_on_tokens
other_type_reads = refl

other_type_spelled : other_type.lang (from 0 (F ∷ [])) (in_spec.Named (id 0 F))
other_type_spelled = spelled ((other_type_laws 3).law refl) other_type_reads

other_type_stops : other_type.run (from 0 (INT ∷ [])) ≡ (Err Wrong, from 0 (INT ∷ []))
unfolding types_on_tokens
other_type_stops = refl

other_type_denied : (a : Spec) → Phrase (λ _. other_type) (from 0 (INT ∷ [])) a → ⊥
other_type_denied = denied ((other_type_laws 3).law refl) other_type_stops

-- F, INT(1..5) and ARRAY [1..5] OF F
spec_reads : spec.run (from 0 (F ∷ [])) ≡ (Ok (in_spec.Named (id 0 F)), [])
unfolding types_on_tokens
spec_reads = refl

spec_spelled : spec.lang (from 0 (F ∷ [])) (in_spec.Named (id 0 F))
spec_spelled = spelled ((spec_laws 3).law refl) spec_reads

spec_subrange_reads : spec.run (from 0 (INT ∷ lparen ∷ one ∷ range ∷ five ∷ rparen ∷ [])) ≡ (Ok (in_spec.Sub (id 0 INT) (to_5 2)), [])
unfolding types_on_tokens
spec_subrange_reads = refl

spec_subrange_spelled : spec.lang (from 0 (INT ∷ lparen ∷ one ∷ range ∷ five ∷ rparen ∷ [])) (in_spec.Sub (id 0 INT) (to_5 2))
spec_subrange_spelled = spelled ((spec_laws 3).law refl) spec_subrange_reads

spec_array_reads : spec.run (from 0 (ARRAY ∷ lbracket ∷ one ∷ range ∷ five ∷ rbracket ∷ OF ∷ F ∷ [])) ≡ (Ok (in_spec.Array (to_5 2 ∷ []) (id 7 F) (here 0) (here 1)), [])
unfolding types_on_tokens
spec_array_reads = refl

spec_array_spelled : spec.lang (from 0 (ARRAY ∷ lbracket ∷ one ∷ range ∷ five ∷ rbracket ∷ OF ∷ F ∷ [])) (in_spec.Array (to_5 2 ∷ []) (id 7 F) (here 0) (here 1))
spec_array_spelled = spelled ((spec_laws 3).law refl) spec_array_reads

-- a subrange is of a type of whole numbers alone
spec_stops : spec.run (from 0 (F ∷ lparen ∷ one ∷ range ∷ five ∷ rparen ∷ [])) ≡ (Ok (in_spec.Named (id 0 F)), from 1 (lparen ∷ one ∷ range ∷ five ∷ rparen ∷ []))
unfolding types_on_tokens
spec_stops = refl

spec_denied : (a : Spec) → Phrase (λ _. spec) (from 0 (F ∷ lparen ∷ one ∷ range ∷ five ∷ rparen ∷ [])) a → ⊥
spec_denied = left_over ((spec_laws 3).law refl) spec_stops

-- and of no subrange
spec_subrange_stops : spec.run (from 0 (INT ∷ lparen ∷ one ∷ range ∷ five ∷ rparen ∷ lparen ∷ one ∷ range ∷ five ∷ rparen ∷ [])) ≡ (Ok (in_spec.Sub (id 0 INT) (to_5 2)), from 6 (lparen ∷ one ∷ range ∷ five ∷ rparen ∷ []))
unfolding types_on_tokens
spec_subrange_stops = refl

spec_subrange_denied : (a : Spec) → Phrase (λ _. spec) (from 0 (INT ∷ lparen ∷ one ∷ range ∷ five ∷ rparen ∷ lparen ∷ one ∷ range ∷ five ∷ rparen ∷ [])) a → ⊥
spec_subrange_denied = left_over ((spec_laws 3).law refl) spec_subrange_stops

-- and no array has one as its element
spec_array_stops : spec.run (from 0 (ARRAY ∷ lbracket ∷ one ∷ range ∷ five ∷ rbracket ∷ OF ∷ INT ∷ lparen ∷ one ∷ range ∷ five ∷ rparen ∷ [])) ≡ (Ok (in_spec.Array (to_5 2 ∷ []) (id 7 INT) (here 0) (here 1)), from 8 (lparen ∷ one ∷ range ∷ five ∷ rparen ∷ []))
unfolding types_on_tokens
spec_array_stops = refl

spec_array_denied : (a : Spec) → Phrase (λ _. spec) (from 0 (ARRAY ∷ lbracket ∷ one ∷ range ∷ five ∷ rbracket ∷ OF ∷ INT ∷ lparen ∷ one ∷ range ∷ five ∷ rparen ∷ [])) a → ⊥
spec_array_denied = left_over ((spec_laws 3).law refl) spec_array_stops

-- a structure is no type of a variable
spec_struct_stops : spec.run (from 0 (STRUCT ∷ [])) ≡ (Err Wrong, from 0 (STRUCT ∷ []))
unfolding types_on_tokens
spec_struct_stops = refl

spec_struct_denied : (a : Spec) → Phrase (λ _. spec) (from 0 (STRUCT ∷ [])) a → ⊥
spec_struct_denied = denied ((spec_laws 3).law refl) spec_struct_stops

-- ---- enumerations

-- := A, and a number is no value of an enumeration
default_reads : default.run (from 0 (assign ∷ A ∷ [])) ≡ (Ok (Some (id 1 A)), [])
unfolding types_on_tokens
default_reads = refl

default_spelled : default.lang (from 0 (assign ∷ A ∷ [])) (Some (id 1 A))
default_spelled = spelled ((default_laws 3).law refl) default_reads

default_stops : default.run (from 0 (assign ∷ five ∷ [])) ≡ (Err Wrong, from 1 (five ∷ []))
unfolding types_on_tokens
default_stops = refl

default_denied : (a : (Option Id)) → Phrase (λ _. default) (from 0 (assign ∷ five ∷ [])) a → ⊥
default_denied = denied ((default_laws 3).law refl) default_stops

-- ":=" or nothing, and "=" is left
no_default_reads : default_if_any.run [] ≡ (Ok None, [])
unfolding types_on_tokens
no_default_reads = refl

no_default_spelled : default_if_any.lang [] None
no_default_spelled = spelled ((default_if_any_laws 3).law refl) no_default_reads

default_if_any_reads : default_if_any.run (from 0 (assign ∷ A ∷ [])) ≡ (Ok (Some (id 1 A)), [])
unfolding types_on_tokens
default_if_any_reads = refl

default_if_any_spelled : default_if_any.lang (from 0 (assign ∷ A ∷ [])) (Some (id 1 A))
default_if_any_spelled = spelled ((default_if_any_laws 3).law refl) default_if_any_reads

default_if_any_stops : default_if_any.run (from 0 (equal ∷ A ∷ [])) ≡ (Ok None, from 0 (equal ∷ A ∷ []))
unfolding types_on_tokens
default_if_any_stops = refl

default_if_any_denied : (a : (Option Id)) → Phrase (λ _. default_if_any) (from 0 (equal ∷ A ∷ [])) a → ⊥
default_if_any_denied = left_over ((default_if_any_laws 3).law refl) default_if_any_stops

-- (A) and (A, B) := B
enumeration_one_reads : enumeration.run (from 0 (lparen ∷ A ∷ rparen ∷ [])) ≡ (Ok (what.Enum (id 1 A ∷ []) None), [])
unfolding types_on_tokens
enumeration_one_reads = refl

enumeration_one_spelled : enumeration.lang (from 0 (lparen ∷ A ∷ rparen ∷ [])) (what.Enum (id 1 A ∷ []) None)
enumeration_one_spelled = spelled ((enumeration_laws 3).law refl) enumeration_one_reads

enumeration_reads : enumeration.run (from 0 (lparen ∷ A ∷ comma ∷ B ∷ rparen ∷ assign ∷ B ∷ [])) ≡ (Ok (what.Enum (id 1 A ∷ id 3 B ∷ []) (Some (id 6 B))), [])
unfolding types_on_tokens
enumeration_reads = refl

enumeration_spelled : enumeration.lang (from 0 (lparen ∷ A ∷ comma ∷ B ∷ rparen ∷ assign ∷ B ∷ [])) (what.Enum (id 1 A ∷ id 3 B ∷ []) (Some (id 6 B)))
enumeration_spelled = spelled ((enumeration_laws 3).law refl) enumeration_reads

-- an enumeration has a value, and each is a name
enumeration_stops : enumeration.run (from 0 (lparen ∷ rparen ∷ [])) ≡ (Err Wrong, from 1 (rparen ∷ []))
unfolding types_on_tokens
enumeration_stops = refl

enumeration_denied : (a : TypeWhat) → Phrase (λ _. enumeration) (from 0 (lparen ∷ rparen ∷ [])) a → ⊥
enumeration_denied = denied ((enumeration_laws 3).law refl) enumeration_stops

enumeration_number_stops : enumeration.run (from 0 (lparen ∷ A ∷ comma ∷ five ∷ rparen ∷ [])) ≡ (Err Wrong, from 3 (five ∷ rparen ∷ []))
unfolding types_on_tokens
enumeration_number_stops = refl

enumeration_number_denied : (a : TypeWhat) → Phrase (λ _. enumeration) (from 0 (lparen ∷ A ∷ comma ∷ five ∷ rparen ∷ [])) a → ⊥
enumeration_number_denied = denied ((enumeration_laws 3).law refl) enumeration_number_stops

-- ---- structures

-- A : INT := 5; and no semicolon, and two names
field_reads : (field 3).run (from 0 (A ∷ colon ∷ INT ∷ assign ∷ five ∷ semi ∷ [])) ≡ (Ok (member_of (id 0 A) (in_spec.Named (id 2 INT)) (int_5 4)), [])
unfolding types_on_tokens
field_reads = refl

field_spelled : (field 3).lang (from 0 (A ∷ colon ∷ INT ∷ assign ∷ five ∷ semi ∷ [])) (member_of (id 0 A) (in_spec.Named (id 2 INT)) (int_5 4))
field_spelled = spelled ((field_laws 3).law refl) field_reads

field_stops : (field 3).run (from 0 (A ∷ colon ∷ INT ∷ assign ∷ five ∷ [])) ≡ (Err Wrong, [])
unfolding types_on_tokens
field_stops = refl

field_denied : (a : Member) → Phrase field (from 0 (A ∷ colon ∷ INT ∷ assign ∷ five ∷ [])) a → ⊥
field_denied = denied ((field_laws 3).law refl) field_stops

field_names_stops : (field 3).run (from 0 (A ∷ comma ∷ B ∷ colon ∷ INT ∷ semi ∷ [])) ≡ (Err Wrong, from 1 (comma ∷ B ∷ colon ∷ INT ∷ semi ∷ []))
unfolding types_on_tokens
field_names_stops = refl

field_names_denied : (a : Member) → Phrase field (from 0 (A ∷ comma ∷ B ∷ colon ∷ INT ∷ semi ∷ [])) a → ⊥
field_names_denied = denied ((field_laws 3).law refl) field_names_stops

-- STRUCT A : INT; B : BOOL; END_STRUCT
structure_reads : (structure 3).run (from 0 (STRUCT ∷ A ∷ colon ∷ INT ∷ semi ∷ B ∷ colon ∷ BOOL ∷ semi ∷ END_STRUCT ∷ [])) ≡ (Ok (what.Struct (member_of (id 1 A) (in_spec.Named (id 3 INT)) None ∷ member_of (id 5 B) (in_spec.Named (id 7 BOOL)) None ∷ [])), [])
unfolding types_on_tokens
structure_reads = refl

structure_spelled : (structure 3).lang (from 0 (STRUCT ∷ A ∷ colon ∷ INT ∷ semi ∷ B ∷ colon ∷ BOOL ∷ semi ∷ END_STRUCT ∷ [])) (what.Struct (member_of (id 1 A) (in_spec.Named (id 3 INT)) None ∷ member_of (id 5 B) (in_spec.Named (id 7 BOOL)) None ∷ []))
structure_spelled = spelled ((structure_laws 3).law refl) structure_reads

-- a structure has a field, and no structure inside
structure_stops : (structure 3).run (from 0 (STRUCT ∷ END_STRUCT ∷ [])) ≡ (Err Wrong, from 1 (END_STRUCT ∷ []))
unfolding types_on_tokens
structure_stops = refl

structure_denied : (a : TypeWhat) → Phrase structure (from 0 (STRUCT ∷ END_STRUCT ∷ [])) a → ⊥
structure_denied = denied ((structure_laws 3).law refl) structure_stops

structure_inside_stops : (structure 3).run (from 0 (STRUCT ∷ A ∷ colon ∷ STRUCT ∷ B ∷ colon ∷ INT ∷ semi ∷ END_STRUCT ∷ semi ∷ END_STRUCT ∷ [])) ≡ (Err Wrong, from 3 (STRUCT ∷ B ∷ colon ∷ INT ∷ semi ∷ END_STRUCT ∷ semi ∷ END_STRUCT ∷ []))
unfolding types_on_tokens
structure_inside_stops = refl

structure_inside_denied : (a : TypeWhat) → Phrase structure (from 0 (STRUCT ∷ A ∷ colon ∷ STRUCT ∷ B ∷ colon ∷ INT ∷ semi ∷ END_STRUCT ∷ semi ∷ END_STRUCT ∷ [])) a → ⊥
structure_inside_denied = denied ((structure_laws 3).law refl) structure_inside_stops

-- ---- declarations of types

-- BOOL, INT := 5, and nothing behind ":="
renamed_plain_reads : (renamed 3).run (from 0 (BOOL ∷ [])) ≡ (Ok (what.Spec (in_spec.Named (id 0 BOOL)) None), [])
unfolding types_on_tokens
renamed_plain_reads = refl

renamed_plain_spelled : (renamed 3).lang (from 0 (BOOL ∷ [])) (what.Spec (in_spec.Named (id 0 BOOL)) None)
renamed_plain_spelled = spelled ((renamed_laws 3).law refl) renamed_plain_reads

renamed_reads : (renamed 3).run (from 0 (INT ∷ assign ∷ five ∷ [])) ≡ (Ok (what.Spec (in_spec.Named (id 0 INT)) (int_5 2)), [])
unfolding types_on_tokens
renamed_reads = refl

renamed_spelled : (renamed 3).lang (from 0 (INT ∷ assign ∷ five ∷ [])) (what.Spec (in_spec.Named (id 0 INT)) (int_5 2))
renamed_spelled = spelled ((renamed_laws 3).law refl) renamed_reads

renamed_stops : (renamed 3).run (from 0 (INT ∷ assign ∷ [])) ≡ (Err Wrong, [])
unfolding types_on_tokens
renamed_stops = refl

renamed_denied : (a : TypeWhat) → Phrase renamed (from 0 (INT ∷ assign ∷ [])) a → ⊥
renamed_denied = denied ((renamed_laws 3).law refl) renamed_stops

-- an enumeration, a structure, another type, and a value is none of them
meaning_enumeration_reads : (meaning 3).run (from 0 (lparen ∷ A ∷ rparen ∷ [])) ≡ (Ok (what.Enum (id 1 A ∷ []) None), [])
unfolding types_on_tokens
meaning_enumeration_reads = refl

meaning_enumeration_spelled : (meaning 3).lang (from 0 (lparen ∷ A ∷ rparen ∷ [])) (what.Enum (id 1 A ∷ []) None)
meaning_enumeration_spelled = spelled ((meaning_laws 3).law refl) meaning_enumeration_reads

meaning_structure_reads : (meaning 3).run (from 0 (STRUCT ∷ A ∷ colon ∷ INT ∷ semi ∷ END_STRUCT ∷ [])) ≡ (Ok (what.Struct (member_of (id 1 A) (in_spec.Named (id 3 INT)) None ∷ [])), [])
unfolding types_on_tokens
meaning_structure_reads = refl

meaning_structure_spelled : (meaning 3).lang (from 0 (STRUCT ∷ A ∷ colon ∷ INT ∷ semi ∷ END_STRUCT ∷ [])) (what.Struct (member_of (id 1 A) (in_spec.Named (id 3 INT)) None ∷ []))
meaning_structure_spelled = spelled ((meaning_laws 3).law refl) meaning_structure_reads

meaning_reads : (meaning 3).run (from 0 (INT ∷ assign ∷ five ∷ [])) ≡ (Ok (what.Spec (in_spec.Named (id 0 INT)) (int_5 2)), [])
unfolding types_on_tokens
meaning_reads = refl

meaning_spelled : (meaning 3).lang (from 0 (INT ∷ assign ∷ five ∷ [])) (what.Spec (in_spec.Named (id 0 INT)) (int_5 2))
meaning_spelled = spelled ((meaning_laws 3).law refl) meaning_reads

meaning_stops : (meaning 3).run (from 0 (five ∷ [])) ≡ (Err Wrong, from 0 (five ∷ []))
unfolding types_on_tokens
meaning_stops = refl

meaning_denied : (a : TypeWhat) → Phrase meaning (from 0 (five ∷ [])) a → ⊥
meaning_denied = denied ((meaning_laws 3).law refl) meaning_stops

-- A : (B), and ":=" for ":"
definition_reads : (definition 3).run (from 0 (A ∷ colon ∷ lparen ∷ B ∷ rparen ∷ [])) ≡ (Ok (definition_of (id 0 A) (what.Enum (id 3 B ∷ []) None)), [])
unfolding types_on_tokens
definition_reads = refl

definition_spelled : (definition 3).lang (from 0 (A ∷ colon ∷ lparen ∷ B ∷ rparen ∷ [])) (definition_of (id 0 A) (what.Enum (id 3 B ∷ []) None))
definition_spelled = spelled ((definition_laws 3).law refl) definition_reads

definition_stops : (definition 3).run (from 0 (A ∷ assign ∷ lparen ∷ B ∷ rparen ∷ [])) ≡ (Err Wrong, from 1 (assign ∷ lparen ∷ B ∷ rparen ∷ []))
unfolding types_on_tokens
definition_stops = refl

definition_denied : (a : TypeDef) → Phrase definition (from 0 (A ∷ assign ∷ lparen ∷ B ∷ rparen ∷ [])) a → ⊥
definition_denied = denied ((definition_laws 3).law refl) definition_stops

-- TYPE A : INT; B : A; END_TYPE
types_reads : (types 3 []).run (from 0 (TYPE ∷ A ∷ colon ∷ INT ∷ semi ∷ B ∷ colon ∷ A ∷ semi ∷ END_TYPE ∷ [])) ≡ (Ok (definition_of (id 1 A) (what.Spec (in_spec.Named (id 3 INT)) None) ∷ definition_of (id 5 B) (what.Spec (in_spec.Named (id 7 A)) None) ∷ []), [])
unfolding types_on_tokens
types_reads = refl

types_spelled : (types 3 []).lang (from 0 (TYPE ∷ A ∷ colon ∷ INT ∷ semi ∷ B ∷ colon ∷ A ∷ semi ∷ END_TYPE ∷ [])) (definition_of (id 1 A) (what.Spec (in_spec.Named (id 3 INT)) None) ∷ definition_of (id 5 B) (what.Spec (in_spec.Named (id 7 A)) None) ∷ [])
types_spelled = spelled ((types_laws 3 []).law refl) types_reads

-- at least one declaration, and a semicolon behind each
types_stops : (types 3 []).run (from 0 (TYPE ∷ END_TYPE ∷ [])) ≡ (Err Wrong, from 1 (END_TYPE ∷ []))
unfolding types_on_tokens
types_stops = refl

types_denied : (a : (List TypeDef)) → Phrase (λ e. types e []) (from 0 (TYPE ∷ END_TYPE ∷ [])) a → ⊥
types_denied = denied ((types_laws 3 []).law refl) types_stops

types_semi_stops : (types 3 []).run (from 0 (TYPE ∷ A ∷ colon ∷ INT ∷ END_TYPE ∷ [])) ≡ (Err Wrong, from 4 (END_TYPE ∷ []))
unfolding types_on_tokens
types_semi_stops = refl

types_semi_denied : (a : (List TypeDef)) → Phrase (λ e. types e []) (from 0 (TYPE ∷ A ∷ colon ∷ INT ∷ END_TYPE ∷ [])) a → ⊥
types_semi_denied = denied ((types_laws 3 []).law refl) types_semi_stops

-- F : BOOL
abbrev before : TypeDef
before = definition_of (id 0 F) (what.Spec (in_spec.Named (id 2 BOOL)) None)

-- behind it: A : INT; and no semicolon
next_definition_reads : (next_definition 3 (before ∷ [])).run (from 4 (A ∷ colon ∷ INT ∷ semi ∷ [])) ≡ (Ok (before ∷ definition_of (id 4 A) (what.Spec (in_spec.Named (id 6 INT)) None) ∷ []), [])
unfolding types_on_tokens
next_definition_reads = refl

next_definition_spelled : (next_definition 3 (before ∷ [])).lang (from 4 (A ∷ colon ∷ INT ∷ semi ∷ [])) (before ∷ definition_of (id 4 A) (what.Spec (in_spec.Named (id 6 INT)) None) ∷ [])
next_definition_spelled = spelled ((next_definition_laws 3 (before ∷ [])).law refl) next_definition_reads

next_definition_stops : (next_definition 3 (before ∷ [])).run (from 4 (A ∷ colon ∷ INT ∷ [])) ≡ (Err Wrong, [])
unfolding types_on_tokens
next_definition_stops = refl

next_definition_denied : (a : (List TypeDef)) → Phrase (λ e. next_definition e (before ∷ [])) (from 4 (A ∷ colon ∷ INT ∷ [])) a → ⊥
next_definition_denied = denied ((next_definition_laws 3 (before ∷ [])).law refl) next_definition_stops

-- and so behind another TYPE
types_behind_reads : (types 3 (before ∷ [])).run (from 4 (TYPE ∷ A ∷ colon ∷ INT ∷ semi ∷ END_TYPE ∷ [])) ≡ (Ok (before ∷ definition_of (id 5 A) (what.Spec (in_spec.Named (id 7 INT)) None) ∷ []), [])
unfolding types_on_tokens
types_behind_reads = refl

types_behind_spelled : (types 3 (before ∷ [])).lang (from 4 (TYPE ∷ A ∷ colon ∷ INT ∷ semi ∷ END_TYPE ∷ [])) (before ∷ definition_of (id 5 A) (what.Spec (in_spec.Named (id 7 INT)) None) ∷ [])
types_behind_spelled = spelled ((types_laws 3 (before ∷ [])).law refl) types_behind_reads

-- ---- where initial values nest too deep

-- a fourth "[" is one node too many
renamed_deep : (renamed 3).run (from 0 (F ∷ assign ∷ lbracket ∷ lbracket ∷ lbracket ∷ lbracket ∷ five ∷ rbracket ∷ rbracket ∷ rbracket ∷ rbracket ∷ [])) ≡ (Err Deep, from 5 (lbracket ∷ five ∷ rbracket ∷ rbracket ∷ rbracket ∷ rbracket ∷ []))
unfolding types_on_tokens
renamed_deep = refl

-- and so it is in a field
field_deep : (field 3).run (from 0 (A ∷ colon ∷ F ∷ assign ∷ lbracket ∷ lbracket ∷ lbracket ∷ lbracket ∷ [])) ≡ (Err Deep, from 7 (lbracket ∷ []))
unfolding types_on_tokens
field_deep = refl
