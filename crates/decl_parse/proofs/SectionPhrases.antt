-- For each production of sections, tokens that spell a value, and some that differ little and spell none.
use Rattle.std.proofs.Common.{◌≡◌, true, false, [], ◌∷◌, Some, None, refl, pos, Ok, Err}
use Rattle.plc_tree.specs.declared.tree.Decl.{Decl}
use Rattle.plc_tree.specs.declared.tree.Init.TheVariants as init
use Rattle.plc_tree.specs.declared.tree.Section.{Section}
use Rattle.plc_tree.specs.declared.tree.SectionKind.TheVariants.{Input, Output, InOut, Own, External, Global}
use Rattle.plc_tree.specs.declared.tree.Spec.TheVariants.{Named}
use Rattle.phrase.specs.declared.Fault.TheVariants.{Wrong}
use Rattle.phrase.specs.Exact.{Phrase}
use Rattle.phrase.proofs.Worked.{spelled, denied}
use Rattle.st_expr.proofs.SampleTokens.{here, nth, from, A, B, five, assign, lparen, comma, semi, colon}
use Rattle.decl_parse.proofs.SampleTokens.{sources_on_tokens, id, address, AT, BOOL, INT, CONSTANT, END_VAR, NON_RETAIN, RETAIN, VAR, VAR_EXTERNAL, VAR_GLOBAL, VAR_IN_OUT, VAR_INPUT, VAR_OUTPUT}
use Rattle.decl_parse.specs.Sections.{decl_of, vdecl, located_of, any_decl, section_of, function_section, block_section, program_section, globals}
use Rattle.decl_parse.proofs.SectionLaws.{vdecl_laws, any_decl_laws, function_section_laws, block_section_laws, program_section_laws, globals_laws}

-- ---- declarations

-- A, B : INT := 5; and no semicolon
vdecl_reads : (vdecl 3).run (from 0 (A ∷ comma ∷ B ∷ colon ∷ INT ∷ assign ∷ five ∷ semi ∷ [])) ≡ (Ok (decl_of (id 0 A ∷ id 2 B ∷ []) (Named (id 4 INT)) (Some (init.Number (pos 5) None (here 6)))), [])
unfolding sources_on_tokens
vdecl_reads = refl

vdecl_spelled : (vdecl 3).lang (from 0 (A ∷ comma ∷ B ∷ colon ∷ INT ∷ assign ∷ five ∷ semi ∷ [])) (decl_of (id 0 A ∷ id 2 B ∷ []) (Named (id 4 INT)) (Some (init.Number (pos 5) None (here 6))))
vdecl_spelled = spelled ((vdecl_laws 3).law refl) vdecl_reads

vdecl_stops : (vdecl 3).run (from 0 (A ∷ colon ∷ INT ∷ B ∷ [])) ≡ (Err Wrong, from 3 (B ∷ []))
unfolding sources_on_tokens
vdecl_stops = refl

vdecl_denied : (a : Decl) → Phrase vdecl (from 0 (A ∷ colon ∷ INT ∷ B ∷ [])) a → ⊥
vdecl_denied = denied ((vdecl_laws 3).law refl) vdecl_stops

-- an address is of some sections alone
unlocated_stops : (vdecl 3).run (from 0 (A ∷ AT ∷ address ∷ colon ∷ BOOL ∷ semi ∷ [])) ≡ (Err Wrong, from 1 (AT ∷ address ∷ colon ∷ BOOL ∷ semi ∷ []))
unfolding sources_on_tokens
unlocated_stops = refl

unlocated_denied : (a : Decl) → Phrase vdecl (from 0 (A ∷ AT ∷ address ∷ colon ∷ BOOL ∷ semi ∷ [])) a → ⊥
unlocated_denied = denied ((vdecl_laws 3).law refl) unlocated_stops

-- A AT %IX0.0 : BOOL; of one variable alone, and of a type that has a name
ldecl_reads : (any_decl 3).run (from 0 (A ∷ AT ∷ address ∷ colon ∷ BOOL ∷ semi ∷ [])) ≡ (Ok (located_of (id 0 A) (nth 2 address) (id 4 BOOL) None), [])
unfolding sources_on_tokens
ldecl_reads = refl

ldecl_spelled : (any_decl 3).lang (from 0 (A ∷ AT ∷ address ∷ colon ∷ BOOL ∷ semi ∷ [])) (located_of (id 0 A) (nth 2 address) (id 4 BOOL) None)
ldecl_spelled = spelled ((any_decl_laws 3).law refl) ldecl_reads

unlocated_decl_reads : (any_decl 3).run (from 0 (A ∷ colon ∷ BOOL ∷ semi ∷ [])) ≡ (Ok (decl_of (id 0 A ∷ []) (Named (id 2 BOOL)) None), [])
unfolding sources_on_tokens
unlocated_decl_reads = refl

unlocated_decl_spelled : (any_decl 3).lang (from 0 (A ∷ colon ∷ BOOL ∷ semi ∷ [])) (decl_of (id 0 A ∷ []) (Named (id 2 BOOL)) None)
unlocated_decl_spelled = spelled ((any_decl_laws 3).law refl) unlocated_decl_reads

two_located_stops : (any_decl 3).run (from 0 (A ∷ comma ∷ B ∷ AT ∷ address ∷ colon ∷ BOOL ∷ semi ∷ [])) ≡ (Err Wrong, from 3 (AT ∷ address ∷ colon ∷ BOOL ∷ semi ∷ []))
unfolding sources_on_tokens
two_located_stops = refl

two_located_denied : (a : Decl) → Phrase any_decl (from 0 (A ∷ comma ∷ B ∷ AT ∷ address ∷ colon ∷ BOOL ∷ semi ∷ [])) a → ⊥
two_located_denied = denied ((any_decl_laws 3).law refl) two_located_stops

located_subrange_stops : (any_decl 3).run (from 0 (A ∷ AT ∷ address ∷ colon ∷ INT ∷ lparen ∷ five ∷ [])) ≡ (Err Wrong, from 5 (lparen ∷ five ∷ []))
unfolding sources_on_tokens
located_subrange_stops = refl

located_subrange_denied : (a : Decl) → Phrase any_decl (from 0 (A ∷ AT ∷ address ∷ colon ∷ INT ∷ lparen ∷ five ∷ [])) a → ⊥
located_subrange_denied = denied ((any_decl_laws 3).law refl) located_subrange_stops

-- ---- sections

-- VAR_INPUT A : BOOL; END_VAR, which has no CONSTANT
function_input_reads : (function_section 3).run (from 0 (VAR_INPUT ∷ A ∷ colon ∷ BOOL ∷ semi ∷ END_VAR ∷ [])) ≡ (Ok (section_of Input false false (here 0) (here 0) (decl_of (id 1 A ∷ []) (Named (id 3 BOOL)) None ∷ [])), [])
unfolding sources_on_tokens
function_input_reads = refl

function_input_spelled : (function_section 3).lang (from 0 (VAR_INPUT ∷ A ∷ colon ∷ BOOL ∷ semi ∷ END_VAR ∷ [])) (section_of Input false false (here 0) (here 0) (decl_of (id 1 A ∷ []) (Named (id 3 BOOL)) None ∷ []))
function_input_spelled = spelled ((function_section_laws 3).law refl) function_input_reads

constant_input_stops : (function_section 3).run (from 0 (VAR_INPUT ∷ CONSTANT ∷ END_VAR ∷ [])) ≡ (Err Wrong, from 1 (CONSTANT ∷ END_VAR ∷ []))
unfolding sources_on_tokens
constant_input_stops = refl

constant_input_denied : (a : Section) → Phrase function_section (from 0 (VAR_INPUT ∷ CONSTANT ∷ END_VAR ∷ [])) a → ⊥
constant_input_denied = denied ((function_section_laws 3).law refl) constant_input_stops

-- VAR CONSTANT END_VAR, which has no RETAIN
function_constants_reads : (function_section 3).run (from 0 (VAR ∷ CONSTANT ∷ END_VAR ∷ [])) ≡ (Ok (section_of Own true false (here 0) (here 1) []), [])
unfolding sources_on_tokens
function_constants_reads = refl

function_constants_spelled : (function_section 3).lang (from 0 (VAR ∷ CONSTANT ∷ END_VAR ∷ [])) (section_of Own true false (here 0) (here 1) [])
function_constants_spelled = spelled ((function_section_laws 3).law refl) function_constants_reads

retained_function_stops : (function_section 3).run (from 0 (VAR ∷ RETAIN ∷ END_VAR ∷ [])) ≡ (Err Wrong, from 1 (RETAIN ∷ END_VAR ∷ []))
unfolding sources_on_tokens
retained_function_stops = refl

retained_function_denied : (a : Section) → Phrase function_section (from 0 (VAR ∷ RETAIN ∷ END_VAR ∷ [])) a → ⊥
retained_function_denied = denied ((function_section_laws 3).law refl) retained_function_stops

-- VAR_OUTPUT RETAIN is kept, NON_RETAIN is not
retained_output_reads : (block_section 3).run (from 0 (VAR_OUTPUT ∷ RETAIN ∷ END_VAR ∷ [])) ≡ (Ok (section_of Output false true (here 0) (here 1) []), [])
unfolding sources_on_tokens
retained_output_reads = refl

retained_output_spelled : (block_section 3).lang (from 0 (VAR_OUTPUT ∷ RETAIN ∷ END_VAR ∷ [])) (section_of Output false true (here 0) (here 1) [])
retained_output_spelled = spelled ((block_section_laws 3).law refl) retained_output_reads

unretained_input_reads : (block_section 3).run (from 0 (VAR_INPUT ∷ NON_RETAIN ∷ END_VAR ∷ [])) ≡ (Ok (section_of Input false false (here 0) (here 1) []), [])
unfolding sources_on_tokens
unretained_input_reads = refl

unretained_input_spelled : (block_section 3).lang (from 0 (VAR_INPUT ∷ NON_RETAIN ∷ END_VAR ∷ [])) (section_of Input false false (here 0) (here 1) [])
unretained_input_spelled = spelled ((block_section_laws 3).law refl) unretained_input_reads

constant_output_stops : (block_section 3).run (from 0 (VAR_OUTPUT ∷ CONSTANT ∷ END_VAR ∷ [])) ≡ (Err Wrong, from 1 (CONSTANT ∷ END_VAR ∷ []))
unfolding sources_on_tokens
constant_output_stops = refl

constant_output_denied : (a : Section) → Phrase block_section (from 0 (VAR_OUTPUT ∷ CONSTANT ∷ END_VAR ∷ [])) a → ⊥
constant_output_denied = denied ((block_section_laws 3).law refl) constant_output_stops

-- VAR_IN_OUT END_VAR, and nothing behind the word
in_out_reads : (block_section 3).run (from 0 (VAR_IN_OUT ∷ END_VAR ∷ [])) ≡ (Ok (section_of InOut false false (here 0) (here 0) []), [])
unfolding sources_on_tokens
in_out_reads = refl

in_out_spelled : (block_section 3).lang (from 0 (VAR_IN_OUT ∷ END_VAR ∷ [])) (section_of InOut false false (here 0) (here 0) [])
in_out_spelled = spelled ((block_section_laws 3).law refl) in_out_reads

retained_in_out_stops : (block_section 3).run (from 0 (VAR_IN_OUT ∷ RETAIN ∷ END_VAR ∷ [])) ≡ (Err Wrong, from 1 (RETAIN ∷ END_VAR ∷ []))
unfolding sources_on_tokens
retained_in_out_stops = refl

retained_in_out_denied : (a : Section) → Phrase block_section (from 0 (VAR_IN_OUT ∷ RETAIN ∷ END_VAR ∷ [])) a → ⊥
retained_in_out_denied = denied ((block_section_laws 3).law refl) retained_in_out_stops

-- VAR_EXTERNAL CONSTANT END_VAR, which has no RETAIN
external_reads : (block_section 3).run (from 0 (VAR_EXTERNAL ∷ CONSTANT ∷ END_VAR ∷ [])) ≡ (Ok (section_of External true false (here 0) (here 1) []), [])
unfolding sources_on_tokens
external_reads = refl

external_spelled : (block_section 3).lang (from 0 (VAR_EXTERNAL ∷ CONSTANT ∷ END_VAR ∷ [])) (section_of External true false (here 0) (here 1) [])
external_spelled = spelled ((block_section_laws 3).law refl) external_reads

retained_external_stops : (block_section 3).run (from 0 (VAR_EXTERNAL ∷ RETAIN ∷ END_VAR ∷ [])) ≡ (Err Wrong, from 1 (RETAIN ∷ END_VAR ∷ []))
unfolding sources_on_tokens
retained_external_stops = refl

retained_external_denied : (a : Section) → Phrase block_section (from 0 (VAR_EXTERNAL ∷ RETAIN ∷ END_VAR ∷ [])) a → ⊥
retained_external_denied = denied ((block_section_laws 3).law refl) retained_external_stops

-- VAR RETAIN END_VAR; one word alone, and no address in a block
block_own_reads : (block_section 3).run (from 0 (VAR ∷ RETAIN ∷ END_VAR ∷ [])) ≡ (Ok (section_of Own false true (here 0) (here 1) []), [])
unfolding sources_on_tokens
block_own_reads = refl

block_own_spelled : (block_section 3).lang (from 0 (VAR ∷ RETAIN ∷ END_VAR ∷ [])) (section_of Own false true (here 0) (here 1) [])
block_own_spelled = spelled ((block_section_laws 3).law refl) block_own_reads

two_words_stops : (block_section 3).run (from 0 (VAR ∷ CONSTANT ∷ RETAIN ∷ END_VAR ∷ [])) ≡ (Err Wrong, from 2 (RETAIN ∷ END_VAR ∷ []))
unfolding sources_on_tokens
two_words_stops = refl

two_words_denied : (a : Section) → Phrase block_section (from 0 (VAR ∷ CONSTANT ∷ RETAIN ∷ END_VAR ∷ [])) a → ⊥
two_words_denied = denied ((block_section_laws 3).law refl) two_words_stops

located_in_block_stops : (block_section 3).run (from 0 (VAR ∷ A ∷ AT ∷ address ∷ [])) ≡ (Err Wrong, from 2 (AT ∷ address ∷ []))
unfolding sources_on_tokens
located_in_block_stops = refl

located_in_block_denied : (a : Section) → Phrase block_section (from 0 (VAR ∷ A ∷ AT ∷ address ∷ [])) a → ⊥
located_in_block_denied = denied ((block_section_laws 3).law refl) located_in_block_stops

-- VAR CONSTANT A AT %IX0.0 : BOOL; END_VAR, and no address behind RETAIN
program_own_reads : (program_section 3).run (from 0 (VAR ∷ CONSTANT ∷ A ∷ AT ∷ address ∷ colon ∷ BOOL ∷ semi ∷ END_VAR ∷ [])) ≡ (Ok (section_of Own true false (here 0) (here 1) (located_of (id 2 A) (nth 4 address) (id 6 BOOL) None ∷ [])), [])
unfolding sources_on_tokens
program_own_reads = refl

program_own_spelled : (program_section 3).lang (from 0 (VAR ∷ CONSTANT ∷ A ∷ AT ∷ address ∷ colon ∷ BOOL ∷ semi ∷ END_VAR ∷ [])) (section_of Own true false (here 0) (here 1) (located_of (id 2 A) (nth 4 address) (id 6 BOOL) None ∷ []))
program_own_spelled = spelled ((program_section_laws 3).law refl) program_own_reads

program_input_reads : (program_section 3).run (from 0 (VAR_INPUT ∷ RETAIN ∷ END_VAR ∷ [])) ≡ (Ok (section_of Input false true (here 0) (here 1) []), [])
unfolding sources_on_tokens
program_input_reads = refl

program_input_spelled : (program_section 3).lang (from 0 (VAR_INPUT ∷ RETAIN ∷ END_VAR ∷ [])) (section_of Input false true (here 0) (here 1) [])
program_input_spelled = spelled ((program_section_laws 3).law refl) program_input_reads

retained_located_stops : (program_section 3).run (from 0 (VAR ∷ RETAIN ∷ A ∷ AT ∷ address ∷ [])) ≡ (Err Wrong, from 3 (AT ∷ address ∷ []))
unfolding sources_on_tokens
retained_located_stops = refl

retained_located_denied : (a : Section) → Phrase program_section (from 0 (VAR ∷ RETAIN ∷ A ∷ AT ∷ address ∷ [])) a → ⊥
retained_located_denied = denied ((program_section_laws 3).law refl) retained_located_stops

-- VAR_GLOBAL NON_RETAIN END_VAR, and no CONSTANT beside
globals_reads : (globals 3).run (from 0 (VAR_GLOBAL ∷ NON_RETAIN ∷ END_VAR ∷ [])) ≡ (Ok (section_of Global false false (here 0) (here 1) []), [])
unfolding sources_on_tokens
globals_reads = refl

globals_spelled : (globals 3).lang (from 0 (VAR_GLOBAL ∷ NON_RETAIN ∷ END_VAR ∷ [])) (section_of Global false false (here 0) (here 1) [])
globals_spelled = spelled ((globals_laws 3).law refl) globals_reads

located_globals_reads : (globals 3).run (from 0 (VAR_GLOBAL ∷ A ∷ AT ∷ address ∷ colon ∷ BOOL ∷ semi ∷ END_VAR ∷ [])) ≡ (Ok (section_of Global false false (here 0) (here 0) (located_of (id 1 A) (nth 3 address) (id 5 BOOL) None ∷ [])), [])
unfolding sources_on_tokens
located_globals_reads = refl

located_globals_spelled : (globals 3).lang (from 0 (VAR_GLOBAL ∷ A ∷ AT ∷ address ∷ colon ∷ BOOL ∷ semi ∷ END_VAR ∷ [])) (section_of Global false false (here 0) (here 0) (located_of (id 1 A) (nth 3 address) (id 5 BOOL) None ∷ []))
located_globals_spelled = spelled ((globals_laws 3).law refl) located_globals_reads

constant_kept_stops : (globals 3).run (from 0 (VAR_GLOBAL ∷ RETAIN ∷ CONSTANT ∷ END_VAR ∷ [])) ≡ (Err Wrong, from 2 (CONSTANT ∷ END_VAR ∷ []))
unfolding sources_on_tokens
constant_kept_stops = refl

constant_kept_denied : (a : Section) → Phrase globals (from 0 (VAR_GLOBAL ∷ RETAIN ∷ CONSTANT ∷ END_VAR ∷ [])) a → ⊥
constant_kept_denied = denied ((globals_laws 3).law refl) constant_kept_stops
