-- For each production of sources, tokens that spell a value, and some that differ little and spell none.
use Rattle.std.proofs.Common.{◌≡◌, [], ◌∷◌, None, refl, Ok, Err}
use Rattle.plc_base.specs.declared.kind.Kind.TheVariants.{End}
use Rattle.plc_tree.specs.declared.tree.Body.TheVariants.{St}
use Rattle.plc_tree.specs.declared.tree.PouKind.TheVariants.{Prog}
use Rattle.plc_tree.specs.declared.tree.Spec.TheVariants.{Named}
use Rattle.plc_tree.specs.declared.tree.TypeWhat.TheVariants as renames
use Rattle.plc_tree.specs.declared.tree.Unit.{Unit as Source}
use Rattle.phrase.specs.declared.Fault.TheVariants.{Wrong}
use Rattle.phrase.specs.Exact.{Phrase}
use Rattle.phrase.proofs.Worked.{spelled, denied}
use Rattle.st_expr.proofs.SampleTokens.{from, A, B, C, semi, colon}
use Rattle.type_parse.specs.Types.{definition_of}
use Rattle.type_parse.proofs.SampleTokens.{END_TYPE, TYPE}
use Rattle.decl_parse.proofs.SampleTokens.{sources_on_tokens, id, INT, CONFIGURATION, END_CONFIGURATION, END_PROGRAM, END_RESOURCE, ON, PROGRAM, RESOURCE, VAR}
use Rattle.decl_parse.specs.Units.{pou_of}
use Rattle.decl_parse.specs.Configurations.{inst_of, resource_of, config_of}
use Rattle.decl_parse.specs.Sources.{source_of, nothing, source, closed}
use Rattle.decl_parse.proofs.SourceLaws.{source_laws, closed_laws}

-- a configuration, a program and a type, in any order; and nothing
source_reads : (source 3).run (from 0 (CONFIGURATION ∷ C ∷ RESOURCE ∷ A ∷ ON ∷ B ∷ PROGRAM ∷ C ∷ colon ∷ A ∷ semi ∷ END_RESOURCE ∷ END_CONFIGURATION ∷ PROGRAM ∷ A ∷ END_PROGRAM ∷ TYPE ∷ B ∷ colon ∷ INT ∷ semi ∷ END_TYPE ∷ PROGRAM ∷ B ∷ END_PROGRAM ∷ [])) ≡ (Ok (source_of (definition_of (id 17 B) (renames.Spec (Named (id 19 INT)) None) ∷ []) (pou_of Prog (id 14 A) None [] (St []) ∷ pou_of Prog (id 23 B) None [] (St []) ∷ []) (config_of (id 1 C) [] (resource_of (id 3 A) (id 5 B) [] [] (inst_of (id 7 C) None (id 9 A) ∷ []) ∷ []) ∷ [])), [])
unfolding sources_on_tokens
source_reads = refl

source_spelled : (source 3).lang (from 0 (CONFIGURATION ∷ C ∷ RESOURCE ∷ A ∷ ON ∷ B ∷ PROGRAM ∷ C ∷ colon ∷ A ∷ semi ∷ END_RESOURCE ∷ END_CONFIGURATION ∷ PROGRAM ∷ A ∷ END_PROGRAM ∷ TYPE ∷ B ∷ colon ∷ INT ∷ semi ∷ END_TYPE ∷ PROGRAM ∷ B ∷ END_PROGRAM ∷ [])) (source_of (definition_of (id 17 B) (renames.Spec (Named (id 19 INT)) None) ∷ []) (pou_of Prog (id 14 A) None [] (St []) ∷ pou_of Prog (id 23 B) None [] (St []) ∷ []) (config_of (id 1 C) [] (resource_of (id 3 A) (id 5 B) [] [] (inst_of (id 7 C) None (id 9 A) ∷ []) ∷ []) ∷ []))
source_spelled = spelled ((source_laws 3).law refl) source_reads

nothing_reads : (source 3).run [] ≡ (Ok nothing, [])
unfolding sources_on_tokens
nothing_reads = refl

nothing_spelled : (source 3).lang [] nothing
nothing_spelled = spelled ((source_laws 3).law refl) nothing_reads

-- with the end, and with a word behind that begins no declaration
closed_reads : (closed 3).run (from 0 (PROGRAM ∷ A ∷ END_PROGRAM ∷ End ∷ [])) ≡ (Ok (source_of [] (pou_of Prog (id 1 A) None [] (St []) ∷ []) []), [])
unfolding sources_on_tokens
closed_reads = refl

closed_spelled : (closed 3).lang (from 0 (PROGRAM ∷ A ∷ END_PROGRAM ∷ End ∷ [])) (source_of [] (pou_of Prog (id 1 A) None [] (St []) ∷ []) [])
closed_spelled = spelled ((closed_laws 3).law refl) closed_reads

closed_stops : (closed 3).run (from 0 (PROGRAM ∷ A ∷ END_PROGRAM ∷ VAR ∷ End ∷ [])) ≡ (Err Wrong, from 3 (VAR ∷ End ∷ []))
unfolding sources_on_tokens
closed_stops = refl

closed_denied : (a : Source) → Phrase closed (from 0 (PROGRAM ∷ A ∷ END_PROGRAM ∷ VAR ∷ End ∷ [])) a → ⊥
closed_denied = denied ((closed_laws 3).law refl) closed_stops

resource_alone_stops : (closed 3).run (from 0 (RESOURCE ∷ A ∷ End ∷ [])) ≡ (Err Wrong, from 0 (RESOURCE ∷ A ∷ End ∷ []))
unfolding sources_on_tokens
resource_alone_stops = refl

resource_alone_denied : (a : Source) → Phrase closed (from 0 (RESOURCE ∷ A ∷ End ∷ [])) a → ⊥
resource_alone_denied = denied ((closed_laws 3).law refl) resource_alone_stops
