-- Tokens of types and initial values for phrases that the checker reads.
use Rattle.std.specs.Prelude.{⊤, ℕ, codes}
use Rattle.plc_base.specs.declared.kind.Kind.{Kind}
use Rattle.plc_base.specs.declared.kind.Kind.TheVariants.{Word}
use Rattle.plc_tree.specs.declared.tree.Id.{Id}
use Rattle.st_expr.proofs.SampleTokens.{expressions_on_tokens, nth}
use Rattle.type_parse.specs.Names.{id_of, name, next_name, more_names, names, tname}
use Rattle.type_parse.specs.Initials.{number, negative, truth, span, literal, owned, owned_or_alone, value, next_item, list_rest, part, next_part, struct_rest, init, some_init, none_or_init, many_rest, counted, one_init, item}
use Rattle.type_parse.specs.Depth.{inner, assigned, init_if_any}
use Rattle.type_parse.specs.Types.{bounds, third_bounds, third_if_any, second_bounds, second_if_any, dimensions, array, limits, limits_if_any, integer_type, other_type, spec, default, default_if_any, enumeration, field, next_field, structure, renamed, meaning, definition, next_definition, types}

-- what an answer unfolds to compute the descent of a type or an initial value
unfoldable pub types_on_tokens : ⊤
unfolding expressions_on_tokens name next_name more_names names tname number negative truth span literal owned owned_or_alone value next_item list_rest part next_part struct_rest init some_init none_or_init many_rest counted one_init item inner assigned init_if_any bounds third_bounds third_if_any second_bounds second_if_any dimensions array limits limits_if_any integer_type other_type spec default default_if_any enumeration field next_field structure renamed meaning definition next_definition types
types_on_tokens = tt

-- the name at a token
abbrev pub id : ℕ → Kind → Id
id n k = id_of (nth n k)

-- ---- words

abbrev pub TYPE : Kind
TYPE = Word (codes "TYPE")

abbrev pub END_TYPE : Kind
END_TYPE = Word (codes "END_TYPE")

abbrev pub STRUCT : Kind
STRUCT = Word (codes "STRUCT")

abbrev pub END_STRUCT : Kind
END_STRUCT = Word (codes "END_STRUCT")

abbrev pub ARRAY : Kind
ARRAY = Word (codes "ARRAY")

abbrev pub OF : Kind
OF = Word (codes "OF")

abbrev pub INT : Kind
INT = Word (codes "INT")

abbrev pub BOOL : Kind
BOOL = Word (codes "BOOL")
