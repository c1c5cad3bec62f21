-- For each production of program organisation units, tokens that spell a value, and some that differ little and spell none.
use Rattle.std.proofs.Common.{◌≡◌, false, [], ◌∷◌, Some, None, refl, Ok, Err}
use Rattle.plc_tree.specs.declared.tree.Body.{Body}
use Rattle.plc_tree.specs.declared.tree.Body.TheVariants.{St}
use Rattle.plc_tree.specs.declared.tree.Pou.{Pou}
use Rattle.plc_tree.specs.declared.tree.PouKind.TheVariants.{Func, Block, Prog}
use Rattle.plc_tree.specs.declared.tree.SectionKind.TheVariants.{Input, Output, Own}
use Rattle.plc_tree.specs.declared.tree.Stmt.TheVariants.{Empty}
use Rattle.phrase.specs.declared.Fault.TheVariants.{Wrong}
use Rattle.phrase.specs.Exact.{Phrase}
use Rattle.phrase.proofs.Worked.{spelled, denied}
use Rattle.st_expr.proofs.SampleTokens.{here, from, A, assign, semi, colon}
use Rattle.decl_parse.proofs.SampleTokens.{sources_on_tokens, id, INT, END_FUNCTION, END_FUNCTION_BLOCK, END_PROGRAM, END_VAR, FUNCTION, FUNCTION_BLOCK, PROGRAM, VAR, VAR_GLOBAL, VAR_INPUT, VAR_OUTPUT}
use Rattle.decl_parse.specs.Sections.{section_of}
use Rattle.decl_parse.specs.Units.{body, pou_of, function, block, program, pou}
use Rattle.decl_parse.proofs.UnitLaws.{body_laws, function_laws, block_laws, program_laws, pou_laws}

-- two empty statements, and a body that stops in an assignment
body_reads : (body 3).run (from 0 (semi ∷ semi ∷ [])) ≡ (Ok (St (Empty ∷ Empty ∷ [])), [])
unfolding sources_on_tokens
body_reads = refl

body_spelled : (body 3).lang (from 0 (semi ∷ semi ∷ [])) (St (Empty ∷ Empty ∷ []))
body_spelled = spelled ((body_laws 3).law refl) body_reads

body_stops : (body 3).run (from 0 (A ∷ assign ∷ semi ∷ [])) ≡ (Err Wrong, from 2 (semi ∷ []))
unfolding sources_on_tokens
body_stops = refl

body_denied : (a : Body) → Phrase body (from 0 (A ∷ assign ∷ semi ∷ [])) a → ⊥
body_denied = denied ((body_laws 3).law refl) body_stops

-- FUNCTION A : INT END_FUNCTION; a function has no outputs
function_reads : (function 3).run (from 0 (FUNCTION ∷ A ∷ colon ∷ INT ∷ VAR_INPUT ∷ END_VAR ∷ END_FUNCTION ∷ [])) ≡ (Ok (pou_of Func (id 1 A) (Some (id 3 INT)) (section_of Input false false (here 4) (here 4) [] ∷ []) (St [])), [])
unfolding sources_on_tokens
function_reads = refl

function_spelled : (function 3).lang (from 0 (FUNCTION ∷ A ∷ colon ∷ INT ∷ VAR_INPUT ∷ END_VAR ∷ END_FUNCTION ∷ [])) (pou_of Func (id 1 A) (Some (id 3 INT)) (section_of Input false false (here 4) (here 4) [] ∷ []) (St []))
function_spelled = spelled ((function_laws 3).law refl) function_reads

function_stops : (function 3).run (from 0 (FUNCTION ∷ A ∷ colon ∷ INT ∷ VAR_OUTPUT ∷ END_VAR ∷ END_FUNCTION ∷ [])) ≡ (Err Wrong, from 4 (VAR_OUTPUT ∷ END_VAR ∷ END_FUNCTION ∷ []))
unfolding sources_on_tokens
function_stops = refl

function_denied : (a : Pou) → Phrase function (from 0 (FUNCTION ∷ A ∷ colon ∷ INT ∷ VAR_OUTPUT ∷ END_VAR ∷ END_FUNCTION ∷ [])) a → ⊥
function_denied = denied ((function_laws 3).law refl) function_stops

untyped_stops : (function 3).run (from 0 (FUNCTION ∷ A ∷ VAR ∷ END_VAR ∷ [])) ≡ (Err Wrong, from 2 (VAR ∷ END_VAR ∷ []))
unfolding sources_on_tokens
untyped_stops = refl

untyped_denied : (a : Pou) → Phrase function (from 0 (FUNCTION ∷ A ∷ VAR ∷ END_VAR ∷ [])) a → ⊥
untyped_denied = denied ((function_laws 3).law refl) untyped_stops

-- FUNCTION_BLOCK A, two sections, a statement, END_FUNCTION_BLOCK; a block has no type and no global variables
block_reads : (block 3).run (from 0 (FUNCTION_BLOCK ∷ A ∷ VAR ∷ END_VAR ∷ VAR_OUTPUT ∷ END_VAR ∷ semi ∷ END_FUNCTION_BLOCK ∷ [])) ≡ (Ok (pou_of Block (id 1 A) None (section_of Own false false (here 2) (here 2) [] ∷ section_of Output false false (here 4) (here 4) [] ∷ []) (St (Empty ∷ []))), [])
unfolding sources_on_tokens
block_reads = refl

block_spelled : (block 3).lang (from 0 (FUNCTION_BLOCK ∷ A ∷ VAR ∷ END_VAR ∷ VAR_OUTPUT ∷ END_VAR ∷ semi ∷ END_FUNCTION_BLOCK ∷ [])) (pou_of Block (id 1 A) None (section_of Own false false (here 2) (here 2) [] ∷ section_of Output false false (here 4) (here 4) [] ∷ []) (St (Empty ∷ [])))
block_spelled = spelled ((block_laws 3).law refl) block_reads

block_stops : (block 3).run (from 0 (FUNCTION_BLOCK ∷ A ∷ VAR_GLOBAL ∷ END_VAR ∷ [])) ≡ (Err Wrong, from 2 (VAR_GLOBAL ∷ END_VAR ∷ []))
unfolding sources_on_tokens
block_stops = refl

block_denied : (a : Pou) → Phrase block (from 0 (FUNCTION_BLOCK ∷ A ∷ VAR_GLOBAL ∷ END_VAR ∷ [])) a → ⊥
block_denied = denied ((block_laws 3).law refl) block_stops

-- PROGRAM A END_PROGRAM; no section stands behind a statement
program_reads : (program 3).run (from 0 (PROGRAM ∷ A ∷ END_PROGRAM ∷ [])) ≡ (Ok (pou_of Prog (id 1 A) None [] (St [])), [])
unfolding sources_on_tokens
program_reads = refl

program_spelled : (program 3).lang (from 0 (PROGRAM ∷ A ∷ END_PROGRAM ∷ [])) (pou_of Prog (id 1 A) None [] (St []))
program_spelled = spelled ((program_laws 3).law refl) program_reads

program_stops : (program 3).run (from 0 (PROGRAM ∷ A ∷ semi ∷ VAR ∷ END_VAR ∷ [])) ≡ (Err Wrong, from 3 (VAR ∷ END_VAR ∷ []))
unfolding sources_on_tokens
program_stops = refl

program_denied : (a : Pou) → Phrase program (from 0 (PROGRAM ∷ A ∷ semi ∷ VAR ∷ END_VAR ∷ [])) a → ⊥
program_denied = denied ((program_laws 3).law refl) program_stops

-- each by its first word
pou_reads : (pou 3).run (from 0 (FUNCTION_BLOCK ∷ A ∷ END_FUNCTION_BLOCK ∷ [])) ≡ (Ok (pou_of Block (id 1 A) None [] (St [])), [])
unfolding sources_on_tokens
pou_reads = refl

pou_spelled : (pou 3).lang (from 0 (FUNCTION_BLOCK ∷ A ∷ END_FUNCTION_BLOCK ∷ [])) (pou_of Block (id 1 A) None [] (St []))
pou_spelled = spelled ((pou_laws 3).law refl) pou_reads

pou_stops : (pou 3).run (from 0 (FUNCTION_BLOCK ∷ A ∷ END_FUNCTION ∷ [])) ≡ (Err Wrong, from 2 (END_FUNCTION ∷ []))
unfolding sources_on_tokens
pou_stops = refl

pou_denied : (a : Pou) → Phrase pou (from 0 (FUNCTION_BLOCK ∷ A ∷ END_FUNCTION ∷ [])) a → ⊥
pou_denied = denied ((pou_laws 3).law refl) pou_stops
