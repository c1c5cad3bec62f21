-- Tokens of declarations for phrases that the checker reads.
use Rattle.std.specs.Prelude.{⊤, [], ◌∷◌, codes}
use Rattle.plc_base.specs.declared.kind.Kind.{Kind}
use Rattle.plc_base.specs.declared.kind.Kind.TheVariants.{Word, Left, Address}
use Rattle.st_parse.proofs.SampleTokens.{statements_on_tokens}
use Rattle.type_parse.proofs.SampleTokens.{types_on_tokens}
pub use Rattle.type_parse.proofs.SampleTokens.{id, BOOL, INT}
use Rattle.decl_parse.specs.Sections.{vdecl_rest, vdecl, ldecl_rest, any_decl, next_vdecl, next_any_decl, plain_rest, located_rest, constant_rest, constant_or_not, retained_rest, retained_or_not, own_rest, located_constant_rest, any_rest, function_input, function_own, function_section, input_output, in_out, external, block_own, block_section, program_own, program_section, globals, next_function_section, next_block_section, next_program_section, next_globals}
use Rattle.decl_parse.specs.Units.{body, function, block, program, pou}
use Rattle.decl_parse.specs.Configurations.{interval, priority, task, next_task, with, with_if_any, inst, next_inst, resource, next_resource, config}
use Rattle.decl_parse.specs.Sources.{next_types, next_config, next_pou, next_declaration, source, closed}

-- what an answer unfolds to compute the descent of a source
unfoldable pub sources_on_tokens : ⊤
unfolding statements_on_tokens types_on_tokens vdecl_rest vdecl ldecl_rest any_decl next_vdecl next_any_decl plain_rest located_rest constant_rest constant_or_not retained_rest retained_or_not own_rest located_constant_rest any_rest function_input function_own function_section input_output in_out external block_own block_section program_own program_section globals next_function_section next_block_section next_program_section next_globals body function block program pou interval priority task next_task with with_if_any inst next_inst resource next_resource config next_types next_config next_pou next_declaration source closed
sources_on_tokens = tt

-- ---- words

abbrev pub RETAIN : Kind
RETAIN = Left (codes "RETAIN")

abbrev pub NON_RETAIN : Kind
NON_RETAIN = Left (codes "NON_RETAIN")

abbrev pub FUNCTION : Kind
FUNCTION = Word (codes "FUNCTION")

abbrev pub END_FUNCTION : Kind
END_FUNCTION = Word (codes "END_FUNCTION")

abbrev pub FUNCTION_BLOCK : Kind
FUNCTION_BLOCK = Word (codes "FUNCTION_BLOCK")

abbrev pub END_FUNCTION_BLOCK : Kind
END_FUNCTION_BLOCK = Word (codes "END_FUNCTION_BLOCK")

abbrev pub PROGRAM : Kind
PROGRAM = Word (codes "PROGRAM")

abbrev pub END_PROGRAM : Kind
END_PROGRAM = Word (codes "END_PROGRAM")

abbrev pub VAR : Kind
VAR = Word (codes "VAR")

abbrev pub VAR_INPUT : Kind
VAR_INPUT = Word (codes "VAR_INPUT")

abbrev pub VAR_OUTPUT : Kind
VAR_OUTPUT = Word (codes "VAR_OUTPUT")

abbrev pub VAR_IN_OUT : Kind
VAR_IN_OUT = Word (codes "VAR_IN_OUT")

abbrev pub VAR_EXTERNAL : Kind
VAR_EXTERNAL = Word (codes "VAR_EXTERNAL")

abbrev pub VAR_GLOBAL : Kind
VAR_GLOBAL = Word (codes "VAR_GLOBAL")

abbrev pub END_VAR : Kind
END_VAR = Word (codes "END_VAR")

abbrev pub CONSTANT : Kind
CONSTANT = Word (codes "CONSTANT")

abbrev pub AT : Kind
AT = Word (codes "AT")

abbrev pub CONFIGURATION : Kind
CONFIGURATION = Word (codes "CONFIGURATION")

abbrev pub END_CONFIGURATION : Kind
END_CONFIGURATION = Word (codes "END_CONFIGURATION")

abbrev pub RESOURCE : Kind
RESOURCE = Word (codes "RESOURCE")

abbrev pub END_RESOURCE : Kind
END_RESOURCE = Word (codes "END_RESOURCE")

abbrev pub ON : Kind
ON = Word (codes "ON")

abbrev pub TASK : Kind
TASK = Word (codes "TASK")

abbrev pub INTERVAL : Kind
INTERVAL = Word (codes "INTERVAL")

abbrev pub PRIORITY : Kind
PRIORITY = Word (codes "PRIORITY")

abbrev pub WITH : Kind
WITH = Word (codes "WITH")

-- %IX0.0
abbrev pub address : Kind
address = Address 73 88 (0 ∷ 0 ∷ [])
