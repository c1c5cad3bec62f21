-- Names that are unknown, of the wrong kind or used before their declaration, in small sources, by computation.
use Rattle.std.proofs.Common.{◌≡◌, refl}
use Rattle.std.specs.Prelude.{pos, false, true, [], ◌∷◌, Some, None, codes}
use Rattle.plc_base.specs.declared.refusal.Rule.TheVariants.{N2, N3, N4}
use Rattle.plc_tree.specs.declared.tree.SectionKind.TheVariants.{Input, Output, InOut, Own, External, Global}
use Rattle.plc_tree.specs.declared.tree.Init.TheVariants as init
use Rattle.plc_standard.specs.Standard.{is_function, is_block, block_number}
use Rattle.plc_standard.specs.Files.{is_file}
use Rattle.plc_names.specs.Types.{elem_named, standing_in}
use Rattle.plc_names.specs.Rules.{faults}
use Rattle.plc_names.proofs.Samples.{at, id, named, sub, array, alias, enum, member, struct, decl, one, section, function, block, program, task, inst, resource, config, source, nothing, broken}

-- unknown types: another name, a field's, an element, a variable's, a result, a global's
unknown_types : faults false false nothing (source (alias (codes "A") 1 (named (codes "X") 3) ∷ struct (codes "S") 10 (member (codes "F") 12 (named (codes "X") 14) ∷ member (codes "G") 16 (array 18 (pos 3) (codes "X") 25) ∷ []) ∷ []) (function (codes "F0") 30 (id (codes "X") 32) (section Own false (one (codes "V") 34 (named (codes "X") 36) ∷ []) ∷ []) [] ∷ program (codes "P") 1 (section Own false (one (codes "W") 3 (named (codes "X") 5) ∷ []) ∷ []) ∷ []) (config (codes "C") 50 (section Global false (one (codes "G") 52 (named (codes "X") 54) ∷ []) ∷ []) (resource (codes "R") 56 ([]) ([]) ([]) ∷ []) ∷ [])) ≡ broken N2 3 ∷ broken N2 14 ∷ broken N2 25 ∷ broken N2 32 ∷ broken N2 36 ∷ broken N2 5 ∷ broken N2 54 ∷ []
unfolding is_function is_block is_file block_number elem_named standing_in
unknown_types = refl

-- an owner that is unknown, a value, of another kind; an enumeration, and another name for one
unknown_owner : faults false false nothing (source (enum (codes "E") 1 (id (codes "R") 3 ∷ []) ∷ alias (codes "A") 6 (named (codes "E") 8) ∷ alias (codes "I") 10 (named (codes "INT") 12) ∷ []) (program (codes "P") 20 (section Own false (decl (id (codes "V1") 25 ∷ []) (named (codes "E") 27) (Some (init.Value (codes "X") (codes "R") (at 29) (at 30))) ∷ decl (id (codes "V2") 30 ∷ []) (named (codes "E") 32) (Some (init.Value (codes "R") (codes "R") (at 34) (at 35))) ∷ decl (id (codes "V3") 35 ∷ []) (named (codes "E") 37) (Some (init.Value (codes "I") (codes "R") (at 39) (at 40))) ∷ decl (id (codes "V4") 40 ∷ []) (named (codes "E") 42) (Some (init.Value (codes "P") (codes "R") (at 44) (at 45))) ∷ decl (id (codes "V5") 45 ∷ []) (named (codes "E") 47) (Some (init.Value (codes "E") (codes "R") (at 49) (at 50))) ∷ decl (id (codes "V6") 50 ∷ []) (named (codes "E") 52) (Some (init.Value (codes "A") (codes "R") (at 54) (at 55))) ∷ decl (id (codes "V7") 55 ∷ []) (named (codes "E") 57) (Some (init.Value (codes "ABS") (codes "R") (at 59) (at 60))) ∷ decl (id (codes "V8") 60 ∷ []) (named (codes "E") 62) (Some (init.Value (codes "TON") (codes "R") (at 64) (at 65))) ∷ []) ∷ []) ∷ []) ([])) ≡ broken N2 29 ∷ broken N2 34 ∷ broken N3 39 ∷ broken N3 44 ∷ broken N3 59 ∷ broken N3 64 ∷ []
unfolding is_function is_block is_file block_number elem_named standing_in
unknown_owner = refl

-- a program, a function, standard functions and blocks as types
kinds : faults false false nothing (source (alias (codes "A") 50 (named (codes "ABS") 52) ∷ []) (program (codes "P") 1 (section Own false (one (codes "A") 3 (named (codes "P") 5) ∷ one (codes "B") 7 (named (codes "F") 9) ∷ one (codes "D") 11 (named (codes "INT_TO_DINT") 13) ∷ one (codes "T") 15 (named (codes "TON") 17) ∷ []) ∷ []) ∷ function (codes "F") 30 (id (codes "P") 32) ([]) [] ∷ []) ([])) ≡ broken N3 52 ∷ broken N3 5 ∷ broken N3 9 ∷ broken N3 13 ∷ broken N3 32 ∷ broken N4 9 ∷ []
unfolding is_function is_block is_file block_number elem_named standing_in
kinds = refl

-- a block is the type of a variable in VAR without CONSTANT of a block or a program alone
blocks : faults false false nothing (source (alias (codes "A") 80 (named (codes "B") 82) ∷ struct (codes "S") 84 (member (codes "F") 86 (named (codes "B") 88) ∷ []) ∷ []) (block (codes "B") 1 ([]) ∷ program (codes "P") 1 (section Own false (one (codes "V") 3 (named (codes "B") 5) ∷ []) ∷ section Own true (one (codes "K") 7 (named (codes "B") 9) ∷ []) ∷ section Input false (one (codes "I") 11 (named (codes "B") 13) ∷ []) ∷ section Output false (one (codes "O") 15 (named (codes "B") 17) ∷ []) ∷ section InOut false (one (codes "M") 19 (named (codes "B") 21) ∷ []) ∷ section Own false (one (codes "L") 23 (array 25 (pos 3) (codes "B") 32) ∷ []) ∷ []) ∷ block (codes "D") 40 (section Own false (one (codes "V") 42 (named (codes "B") 44) ∷ []) ∷ []) ∷ function (codes "F") 50 (id (codes "INT") 52) (section Own false (one (codes "V") 54 (named (codes "B") 56) ∷ []) ∷ []) [] ∷ []) (config (codes "C") 60 (section Global false (one (codes "G") 62 (named (codes "B") 64) ∷ []) ∷ []) (resource (codes "R") 66 ([]) ([]) ([]) ∷ []) ∷ [])) ≡ broken N3 82 ∷ broken N3 88 ∷ broken N3 9 ∷ broken N3 13 ∷ broken N3 17 ∷ broken N3 21 ∷ broken N3 32 ∷ broken N3 56 ∷ broken N3 64 ∷ []
unfolding is_function is_block is_file block_number elem_named standing_in
blocks = refl

-- so is a standard block
standard_blocks : faults false false nothing (source ([]) (program (codes "P") 1 (section Own false (one (codes "V") 3 (named (codes "TON") 5) ∷ []) ∷ section Own true (one (codes "K") 7 (named (codes "TON") 9) ∷ []) ∷ section Input false (one (codes "I") 11 (named (codes "CTU") 13) ∷ []) ∷ []) ∷ function (codes "F") 50 (id (codes "TP") 52) ([]) [] ∷ []) ([])) ≡ broken N3 9 ∷ broken N3 13 ∷ broken N3 52 ∷ []
unfolding is_function is_block is_file block_number elem_named standing_in
standard_blocks = refl

-- a function has variables and a result of leaf types
leaves : faults false false nothing (source (alias (codes "L") 1 (sub (codes "INT") 3 (pos 0) (pos 7)) ∷ enum (codes "E") 10 (id (codes "R") 12 ∷ []) ∷ alias (codes "Y") 15 (array 17 (pos 3) (codes "INT") 24) ∷ struct (codes "S") 30 (member (codes "A") 32 (named (codes "INT") 34) ∷ []) ∷ alias (codes "Z") 36 (named (codes "S") 38) ∷ []) (function (codes "F") 40 (id (codes "S") 42) (section Own false (one (codes "A") 44 (named (codes "L") 46) ∷ one (codes "B") 48 (named (codes "E") 50) ∷ one (codes "D") 52 (named (codes "Y") 54) ∷ one (codes "G") 56 (named (codes "S") 58) ∷ one (codes "H") 60 (named (codes "Z") 62) ∷ one (codes "K") 64 (array 66 (pos 3) (codes "INT") 73) ∷ one (codes "M") 80 (sub (codes "INT") 82 (pos 0) (pos 1)) ∷ one (codes "N") 84 (named (codes "TIME") 86) ∷ []) ∷ []) [] ∷ function (codes "G0") 90 (id (codes "E") 92) ([]) [] ∷ []) ([])) ≡ broken N3 42 ∷ broken N3 54 ∷ broken N3 58 ∷ broken N3 62 ∷ broken N3 67 ∷ []
unfolding is_function is_block is_file block_number elem_named standing_in
leaves = refl

-- without forward references a type or program organisation unit stands in front of its use
order : faults false false nothing (source (alias (codes "A") 1 (named (codes "B") 3) ∷ alias (codes "D") 40 (named (codes "INT") 42) ∷ alias (codes "B") 5 (named (codes "INT") 7) ∷ enum (codes "E") 9 (id (codes "R") 11 ∷ []) ∷ []) (function (codes "F") 20 (id (codes "D") 22) ([]) [] ∷ program (codes "P") 1 (section Own false (one (codes "X") 3 (named (codes "A") 5) ∷ []) ∷ []) ∷ program (codes "Q") 30 (section Own false (one (codes "Y") 32 (named (codes "D") 34) ∷ []) ∷ []) ∷ []) ([])) ≡ broken N4 3 ∷ broken N4 22 ∷ broken N4 34 ∷ []
unfolding is_function is_block is_file block_number elem_named standing_in
order = refl

-- with them it may stand anywhere
forward : faults true false nothing (source (alias (codes "A") 1 (named (codes "B") 3) ∷ alias (codes "B") 5 (named (codes "INT") 7) ∷ []) ([]) ([])) ≡ []
unfolding is_function is_block is_file block_number elem_named standing_in
forward = refl

-- an owner in front of its enumeration
owner_before : faults false false nothing (source (enum (codes "E") 30 (id (codes "R") 32 ∷ []) ∷ []) (program (codes "P") 1 (section Own false (decl (id (codes "V") 3 ∷ []) (named (codes "INT") 5) (Some (init.Value (codes "E") (codes "R") (at 7) (at 9))) ∷ []) ∷ []) ∷ []) ([])) ≡ broken N4 7 ∷ []
unfolding is_function is_block is_file block_number elem_named standing_in
owner_before = refl

-- a type's own name is behind its declaration
own_name : faults false false nothing (source (struct (codes "S") 1 (member (codes "A") 3 (named (codes "S") 5) ∷ []) ∷ []) ([]) ([])) ≡ []
unfolding is_function is_block is_file block_number elem_named standing_in
own_name = refl

-- the program of an instance: unknown, of another kind, behind its use, good
programs : faults false false nothing (source (alias (codes "T") 1 (named (codes "INT") 3) ∷ []) (block (codes "B") 5 ([]) ∷ program (codes "P") 7 ([]) ∷ program (codes "Q") 80 ([]) ∷ []) (config (codes "C") 10 ([]) (resource (codes "R") 12 ([]) ([]) (inst (codes "I") 20 None (id (codes "X") 22) ∷ inst (codes "J") 24 None (id (codes "T") 26) ∷ inst (codes "K") 28 None (id (codes "B") 30) ∷ inst (codes "L") 32 None (id (codes "Q") 34) ∷ inst (codes "M") 36 None (id (codes "P") 38) ∷ inst (codes "N") 40 None (id (codes "TON") 42) ∷ inst (codes "O") 44 None (id (codes "ABS") 46) ∷ inst (codes "H") 48 None (id (codes "C") 50) ∷ []) ∷ []) ∷ [])) ≡ broken N2 22 ∷ broken N2 50 ∷ broken N3 26 ∷ broken N3 30 ∷ broken N3 42 ∷ broken N3 46 ∷ broken N4 34 ∷ []
unfolding is_function is_block is_file block_number elem_named standing_in
programs = refl

-- the task of an instance is looked up in its resource alone
tasks : faults false false nothing (source ([]) (program (codes "P") 1 ([]) ∷ []) (config (codes "C") 10 (section Global false (one (codes "H") 12 (named (codes "INT") 14) ∷ []) ∷ []) (resource (codes "R") 16 (section Global false (one (codes "G") 18 (named (codes "INT") 20) ∷ []) ∷ []) (task (codes "T") 22 ∷ []) (inst (codes "I") 30 (Some (id (codes "T") 32)) (id (codes "P") 34) ∷ inst (codes "J") 36 (Some (id (codes "G") 38)) (id (codes "P") 40) ∷ inst (codes "K") 42 (Some (id (codes "I") 44)) (id (codes "P") 46) ∷ inst (codes "L") 48 (Some (id (codes "H") 50)) (id (codes "P") 52) ∷ inst (codes "M") 54 (Some (id (codes "U") 56)) (id (codes "P") 58) ∷ inst (codes "N") 60 (Some (id (codes "ABS") 62)) (id (codes "P") 64) ∷ []) ∷ resource (codes "S") 70 ([]) (task (codes "U") 72 ∷ []) ([]) ∷ []) ∷ [])) ≡ broken N2 50 ∷ broken N2 56 ∷ broken N2 62 ∷ broken N3 38 ∷ broken N3 44 ∷ []
unfolding is_function is_block is_file block_number elem_named standing_in
tasks = refl

-- a configuration or a resource named as a file that every compile writes
barred : faults false false nothing (source ([]) ([]) (config (codes "POUS") 1 ([]) (resource (codes "LOCATED_VARIABLES") 3 ([]) ([]) ([]) ∷ resource (codes "POU") 5 ([]) ([]) ([]) ∷ []) ∷ [])) ≡ broken N3 1 ∷ broken N3 3 ∷ []
unfolding is_function is_block is_file block_number elem_named standing_in
barred = refl

-- an external names a global of an equal type: unknown, another type, equal subranges, another name for the type; of a resource too
externals : faults false false nothing (source (alias (codes "T") 1 (named (codes "INT") 3) ∷ []) (program (codes "P") 10 (section External false (one (codes "X") 12 (named (codes "INT") 14) ∷ one (codes "A") 16 (named (codes "BOOL") 18) ∷ one (codes "B") 20 (sub (codes "INT") 22 (pos 0) (pos 7)) ∷ one (codes "D") 24 (sub (codes "INT") 26 (pos 0) (pos 6)) ∷ one (codes "E") 28 (named (codes "T") 30) ∷ one (codes "Q") 32 (named (codes "INT") 34) ∷ one (codes "P") 36 (named (codes "INT") 38) ∷ []) ∷ []) ∷ []) (config (codes "C") 80 (section Global false (one (codes "A") 82 (named (codes "INT") 83) ∷ one (codes "B") 84 (sub (codes "INT") 85 (pos 0) (pos 7)) ∷ one (codes "D") 86 (sub (codes "INT") 87 (pos 0) (pos 7)) ∷ one (codes "E") 88 (named (codes "INT") 89) ∷ []) ∷ []) (resource (codes "R") 90 (section Global false (one (codes "Q") 92 (named (codes "INT") 94) ∷ []) ∷ []) ([]) ([]) ∷ []) ∷ [])) ≡ broken N2 12 ∷ broken N2 36 ∷ broken N3 16 ∷ broken N3 24 ∷ []
unfolding is_function is_block is_file block_number elem_named standing_in
externals = refl

-- an array that is written twice is two types, unless types are compared as arrays without a name may be
external_array : faults false false nothing (source ([]) (program (codes "P") 10 (section External false (one (codes "A") 12 (array 14 (pos 3) (codes "INT") 21) ∷ []) ∷ []) ∷ []) (config (codes "C") 80 (section Global false (one (codes "A") 82 (array 83 (pos 3) (codes "INT") 89) ∷ []) ∷ []) (resource (codes "R") 90 (section Global false (one (codes "Q") 92 (named (codes "INT") 94) ∷ []) ∷ []) ([]) ([]) ∷ []) ∷ [])) ≡ broken N3 12 ∷ []
unfolding is_function is_block is_file block_number elem_named standing_in
external_array = refl

external_array_relaxed : faults false true nothing (source ([]) (program (codes "P") 10 (section External false (one (codes "A") 12 (array 14 (pos 3) (codes "INT") 21) ∷ []) ∷ []) ∷ []) (config (codes "C") 80 (section Global false (one (codes "A") 82 (array 83 (pos 3) (codes "INT") 89) ∷ []) ∷ []) (resource (codes "R") 90 (section Global false (one (codes "Q") 92 (named (codes "INT") 94) ∷ []) ∷ []) ([]) ([]) ∷ []) ∷ [])) ≡ []
unfolding is_function is_block is_file block_number elem_named standing_in
external_array_relaxed = refl

-- of one type with a name they are equal; an array with a name and one without are never
external_named_array : faults false true nothing (source (alias (codes "Y") 1 (array 3 (pos 3) (codes "INT") 9) ∷ []) (program (codes "P") 10 (section External false (one (codes "A") 12 (named (codes "Y") 14) ∷ one (codes "B") 16 (array 18 (pos 3) (codes "INT") 25) ∷ []) ∷ []) ∷ []) (config (codes "C") 80 (section Global false (one (codes "A") 82 (named (codes "Y") 83) ∷ one (codes "B") 84 (named (codes "Y") 85) ∷ []) ∷ []) (resource (codes "R") 90 (section Global false (one (codes "Q") 92 (named (codes "INT") 94) ∷ []) ∷ []) ([]) ([]) ∷ []) ∷ [])) ≡ broken N3 16 ∷ []
unfolding is_function is_block is_file block_number elem_named standing_in
external_named_array = refl

-- where a type isn't declared the types aren't compared
external_of_unknown : faults false false nothing (source ([]) (program (codes "P") 10 (section External false (one (codes "A") 12 (named (codes "X") 14) ∷ one (codes "B") 16 (named (codes "TON") 18) ∷ one (codes "D") 20 (named (codes "TON") 22) ∷ []) ∷ []) ∷ []) (config (codes "C") 80 (section Global false (one (codes "A") 82 (named (codes "INT") 83) ∷ one (codes "B") 84 (named (codes "TON") 85) ∷ one (codes "D") 86 (named (codes "INT") 87) ∷ []) ∷ []) (resource (codes "R") 90 (section Global false (one (codes "Q") 92 (named (codes "INT") 94) ∷ []) ∷ []) ([]) ([]) ∷ []) ∷ [])) ≡ broken N2 14 ∷ broken N3 18 ∷ broken N3 22 ∷ broken N3 85 ∷ broken N3 20 ∷ []
unfolding is_function is_block is_file block_number elem_named standing_in
external_of_unknown = refl

-- X : A in a function with A : ARRAY OF A: no rule speaks of the kind of A, nor of a name for it
circle_has_no_kind : faults false false nothing (source (alias (codes "A") 1 (array 3 (pos 1) (codes "A") 10) ∷ alias (codes "B") 12 (named (codes "A") 14) ∷ []) (function (codes "F") 20 (id (codes "A") 22) (section Own false (one (codes "X") 24 (named (codes "B") 26) ∷ []) ∷ []) [] ∷ []) ([])) ≡ []
unfolding is_function is_block is_file block_number elem_named standing_in
circle_has_no_kind = refl

-- a structure that holds a block that holds it has no kind either
circle_by_a_block : faults true false nothing (source (struct (codes "S") 1 (member (codes "F") 3 (named (codes "B") 5) ∷ []) ∷ []) (block (codes "B") 10 (section Own false (one (codes "V") 12 (named (codes "S") 14) ∷ []) ∷ []) ∷ function (codes "F") 20 (id (codes "S") 22) ([]) [] ∷ []) ([])) ≡ broken N3 5 ∷ []
unfolding is_function is_block is_file block_number elem_named standing_in
circle_by_a_block = refl

-- the same without forward references
circle_by_a_block_again : faults false false nothing (source (struct (codes "S") 1 (member (codes "F") 3 (named (codes "B") 5) ∷ []) ∷ []) (block (codes "B") 10 (section Own false (one (codes "V") 12 (named (codes "S") 14) ∷ []) ∷ []) ∷ function (codes "F") 20 (id (codes "S") 22) ([]) [] ∷ []) ([])) ≡ broken N3 5 ∷ broken N4 5 ∷ []
unfolding is_function is_block is_file block_number elem_named standing_in
circle_by_a_block_again = refl
