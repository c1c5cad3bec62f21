-- Names that are declared twice, and values that are listed twice, in small sources, by computation.
use Rattle.std.proofs.Common.{◌≡◌, refl}
use Rattle.std.specs.Prelude.{false, [], ◌∷◌, None, codes}
use Rattle.plc_base.specs.declared.refusal.Rule.TheVariants.{N1, N6}
use Rattle.plc_tree.specs.declared.tree.SectionKind.TheVariants.{Input, Own, Global}
use Rattle.plc_standard.specs.Standard.{is_function, is_block, block_number}
use Rattle.plc_standard.specs.Files.{is_file}
use Rattle.plc_names.specs.Types.{elem_named, standing_in}
use Rattle.plc_names.specs.Rules.{faults}
use Rattle.plc_names.proofs.Samples.{id, named, alias, enum, member, struct, decl, one, section, function, block, program, task, inst, resource, config, source, nothing, broken}

-- PROGRAM P VAR A : INT; A : BOOL; END_VAR END_PROGRAM
variable_twice : faults false false nothing (source ([]) (program (codes "P") 1 (section Own false (one (codes "A") 3 (named (codes "INT") 5) ∷ one (codes "A") 7 (named (codes "BOOL") 9) ∷ []) ∷ []) ∷ []) ([])) ≡ broken N1 7 ∷ []
unfolding is_function is_block is_file block_number elem_named standing_in
variable_twice = refl

-- in two sections, and a third time
in_two_sections : faults false false nothing (source ([]) (program (codes "P") 1 (section Input false (one (codes "A") 3 (named (codes "INT") 5) ∷ []) ∷ section Own false (one (codes "A") 9 (named (codes "INT") 11) ∷ one (codes "A") 13 (named (codes "INT") 15) ∷ []) ∷ []) ∷ []) ([])) ≡ broken N1 9 ∷ broken N1 13 ∷ []
unfolding is_function is_block is_file block_number elem_named standing_in
in_two_sections = refl

-- A, B, A : INT
in_one_declaration : faults false false nothing (source ([]) (program (codes "P") 1 (section Own false (decl (id (codes "A") 3 ∷ id (codes "B") 5 ∷ id (codes "A") 7 ∷ []) (named (codes "INT") 9) None ∷ []) ∷ []) ∷ []) ([])) ≡ broken N1 7 ∷ []
unfolding is_function is_block is_file block_number elem_named standing_in
in_one_declaration = refl

-- each program is a scope of its own
in_two_programs : faults false false nothing (source ([]) (program (codes "P") 1 (section Own false (one (codes "A") 3 (named (codes "INT") 5) ∷ []) ∷ []) ∷ program (codes "Q") 20 (section Own false (one (codes "A") 22 (named (codes "INT") 24) ∷ []) ∷ []) ∷ []) ([])) ≡ []
unfolding is_function is_block is_file block_number elem_named standing_in
in_two_programs = refl

-- a variable may have the name of its program, of a type or of a standard function
as_its_program : faults false false nothing (source (alias (codes "T") 40 (named (codes "INT") 42) ∷ []) (program (codes "P") 1 (section Own false (one (codes "P") 3 (named (codes "INT") 5) ∷ one (codes "T") 7 (named (codes "INT") 9) ∷ one (codes "ABS") 11 (named (codes "INT") 13) ∷ []) ∷ []) ∷ []) ([])) ≡ []
unfolding is_function is_block is_file block_number elem_named standing_in
as_its_program = refl

-- a function may have a variable of its own name
as_its_function : faults false false nothing (source ([]) (function (codes "F") 1 (id (codes "INT") 3) (section Own false (one (codes "F") 5 (named (codes "INT") 7) ∷ []) ∷ []) [] ∷ []) ([])) ≡ []
unfolding is_function is_block is_file block_number elem_named standing_in
as_its_function = refl

-- two programs of one name
two_programs : faults false false nothing (source ([]) (program (codes "P") 1 ([]) ∷ program (codes "P") 20 ([]) ∷ []) ([])) ≡ broken N1 20 ∷ []
unfolding is_function is_block is_file block_number elem_named standing_in
two_programs = refl

-- a type behind a block of its name, and one in front of it
type_and_block : faults false false nothing (source (alias (codes "B") 20 (named (codes "INT") 22) ∷ []) (block (codes "B") 1 ([]) ∷ []) ([])) ≡ broken N1 20 ∷ []
unfolding is_function is_block is_file block_number elem_named standing_in
type_and_block = refl

block_and_type : faults false false nothing (source (alias (codes "B") 1 (named (codes "INT") 3) ∷ []) (block (codes "B") 20 ([]) ∷ []) ([])) ≡ broken N1 20 ∷ []
unfolding is_function is_block is_file block_number elem_named standing_in
block_and_type = refl

-- a function named ABS, a block named TON, a type named INT_TO_BOOL; a program may be named POUS
standard_function : faults false false nothing (source (alias (codes "INT_TO_BOOL") 50 (named (codes "INT") 52) ∷ []) (function (codes "ABS") 1 (id (codes "INT") 3) ([]) [] ∷ block (codes "TON") 20 ([]) ∷ program (codes "POUS") 40 ([]) ∷ []) ([])) ≡ broken N1 1 ∷ broken N1 20 ∷ broken N1 50 ∷ []
unfolding is_function is_block is_file block_number elem_named standing_in
standard_function = refl

-- a name of the library
of_the_library : faults false false (source ([]) (block (codes "L") 7 ([]) ∷ []) ([])) (source ([]) (program (codes "L") 7 ([]) ∷ []) ([])) ≡ broken N1 7 ∷ []
unfolding is_function is_block is_file block_number elem_named standing_in
of_the_library = refl

-- TYPE E : (R, G, R, R); END_TYPE
value_twice : faults false false nothing (source (enum (codes "E") 1 (id (codes "R") 4 ∷ id (codes "G") 6 ∷ id (codes "R") 8 ∷ id (codes "R") 10 ∷ []) ∷ []) ([]) ([])) ≡ broken N6 8 ∷ broken N6 10 ∷ []
unfolding is_function is_block is_file block_number elem_named standing_in
value_twice = refl

-- two enumerations may share a value, and a value may have the name of its type
value_of_two : faults false false nothing (source (enum (codes "E") 1 (id (codes "R") 4 ∷ id (codes "E") 6 ∷ []) ∷ enum (codes "D") 10 (id (codes "R") 13 ∷ id (codes "E") 15 ∷ []) ∷ []) ([]) ([])) ≡ []
unfolding is_function is_block is_file block_number elem_named standing_in
value_of_two = refl

-- a field twice, also of another type; two structures may share one
field_twice : faults false false nothing (source (struct (codes "S") 1 (member (codes "A") 4 (named (codes "INT") 6) ∷ member (codes "B") 8 (named (codes "INT") 10) ∷ member (codes "A") 12 (named (codes "BOOL") 14) ∷ []) ∷ struct (codes "T") 20 (member (codes "A") 23 (named (codes "INT") 25) ∷ []) ∷ []) ([]) ([])) ≡ broken N1 12 ∷ []
unfolding is_function is_block is_file block_number elem_named standing_in
field_twice = refl

-- a second and a third configuration; what stands in them is not looked at
second_configuration : faults false false nothing (source ([]) ([]) (config (codes "C") 1 ([]) (resource (codes "R") 3 ([]) ([]) ([]) ∷ []) ∷ config (codes "POUS") 20 ([]) (resource (codes "POUS") 22 ([]) ([]) ([]) ∷ []) ∷ config (codes "C") 40 ([]) (resource (codes "R") 42 ([]) ([]) ([]) ∷ []) ∷ [])) ≡ broken N1 20 ∷ broken N1 40 ∷ []
unfolding is_function is_block is_file block_number elem_named standing_in
second_configuration = refl

-- a resource named as its configuration, and two of one name; a program may have that name too
resource_as_configuration : faults false false nothing (source ([]) (program (codes "C") 80 ([]) ∷ []) (config (codes "C") 1 ([]) (resource (codes "C") 3 ([]) ([]) ([]) ∷ resource (codes "R") 9 ([]) ([]) ([]) ∷ resource (codes "R") 15 ([]) ([]) ([]) ∷ []) ∷ [])) ≡ broken N1 3 ∷ broken N1 15 ∷ []
unfolding is_function is_block is_file block_number elem_named standing_in
resource_as_configuration = refl

-- globals of the configuration and of its resources have different names
globals : faults false false nothing (source ([]) ([]) (config (codes "C") 1 (section Global false (one (codes "G") 3 (named (codes "INT") 5) ∷ one (codes "G") 7 (named (codes "INT") 9) ∷ []) ∷ []) (resource (codes "R") 11 (section Global false (one (codes "G") 13 (named (codes "INT") 15) ∷ one (codes "H") 17 (named (codes "INT") 19) ∷ []) ∷ []) ([]) ([]) ∷ resource (codes "S") 21 (section Global false (one (codes "H") 23 (named (codes "INT") 25) ∷ []) ∷ []) ([]) ([]) ∷ []) ∷ [])) ≡ broken N1 7 ∷ broken N1 13 ∷ broken N1 23 ∷ []
unfolding is_function is_block is_file block_number elem_named standing_in
globals = refl

-- the globals, tasks and instances of one resource have different names; those of two may share one
in_a_resource : faults false false nothing (source ([]) (program (codes "P") 90 ([]) ∷ []) (config (codes "C") 91 ([]) (resource (codes "R") 92 (section Global false (one (codes "G") 93 (named (codes "INT") 94) ∷ []) ∷ []) (task (codes "G") 95 ∷ task (codes "T") 105 ∷ []) (inst (codes "T") 112 None (id (codes "P") 114) ∷ inst (codes "I") 116 None (id (codes "P") 118) ∷ []) ∷ resource (codes "S") 120 ([]) (task (codes "T") 122 ∷ []) (inst (codes "I") 130 None (id (codes "P") 132) ∷ []) ∷ []) ∷ [])) ≡ broken N1 95 ∷ broken N1 112 ∷ []
unfolding is_function is_block is_file block_number elem_named standing_in
in_a_resource = refl

-- a task, an instance, a resource or the configuration may have the name of a global of the configuration
free_names : faults false false nothing (source ([]) (program (codes "P") 90 ([]) ∷ []) (config (codes "A") 91 (section Global false (one (codes "A") 92 (named (codes "INT") 93) ∷ one (codes "B") 94 (named (codes "INT") 95) ∷ one (codes "D") 96 (named (codes "INT") 97) ∷ one (codes "E") 98 (named (codes "INT") 99) ∷ []) ∷ []) (resource (codes "B") 100 ([]) (task (codes "D") 101 ∷ []) (inst (codes "E") 112 None (id (codes "P") 114) ∷ []) ∷ []) ∷ [])) ≡ []
unfolding is_function is_block is_file block_number elem_named standing_in
free_names = refl

-- the declarations of a type and of programs stand in the order of the text
only_the_later_in_text : faults false false nothing (source (alias (codes "A") 10 (named (codes "INT") 12) ∷ alias (codes "A") 30 (named (codes "INT") 32) ∷ []) (program (codes "A") 20 ([]) ∷ program (codes "A") 40 ([]) ∷ []) ([])) ≡ broken N1 20 ∷ broken N1 30 ∷ broken N1 40 ∷ []
unfolding is_function is_block is_file block_number elem_named standing_in
only_the_later_in_text = refl
