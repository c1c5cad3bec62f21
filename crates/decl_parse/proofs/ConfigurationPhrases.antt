-- For each production of configurations, tokens that spell a value, and some that differ little and spell none.
use Rattle.std.proofs.Common.{◌≡◌, true, false, [], ◌∷◌, Some, None, refl, Ok, Err}
use Rattle.plc_tokens.specs.declared.token.Token.{Token}
use Rattle.plc_tree.specs.declared.tree.Config.{Config}
use Rattle.plc_tree.specs.declared.tree.Inst.{Inst}
use Rattle.plc_tree.specs.declared.tree.Resource.{Resource}
use Rattle.plc_tree.specs.declared.tree.SectionKind.TheVariants.{Global}
use Rattle.plc_tree.specs.declared.tree.Task.{Task}
use Rattle.phrase.specs.declared.Fault.TheVariants.{Wrong}
use Rattle.phrase.specs.Exact.{Phrase}
use Rattle.phrase.proofs.Worked.{spelled, denied}
use Rattle.st_expr.proofs.SampleTokens.{here, nth, from, A, B, C, five, int_five, time, assign, lparen, rparen, comma, semi, colon}
use Rattle.decl_parse.proofs.SampleTokens.{sources_on_tokens, id, CONFIGURATION, CONSTANT, END_CONFIGURATION, END_RESOURCE, END_VAR, INTERVAL, ON, PRIORITY, PROGRAM, RESOURCE, TASK, VAR_GLOBAL, WITH}
use Rattle.decl_parse.specs.Sections.{section_of}
use Rattle.decl_parse.specs.Configurations.{interval, priority, task_of, task, inst_of, inst, resource_of, resource, config_of, config}
use Rattle.decl_parse.proofs.ConfigurationLaws.{interval_laws, priority_laws, task_laws, inst_laws, resource_laws, config_laws}

-- ---- tasks

-- INTERVAL := T#3ns, and an integer for a duration
interval_reads : interval.run (from 0 (INTERVAL ∷ assign ∷ time ∷ [])) ≡ (Ok (nth 2 time), [])
unfolding sources_on_tokens
interval_reads = refl

interval_spelled : interval.lang (from 0 (INTERVAL ∷ assign ∷ time ∷ [])) (nth 2 time)
interval_spelled = spelled ((interval_laws 3).law refl) interval_reads

interval_stops : interval.run (from 0 (INTERVAL ∷ assign ∷ five ∷ [])) ≡ (Err Wrong, from 2 (five ∷ []))
unfolding sources_on_tokens
interval_stops = refl

interval_denied : (a : Token) → Phrase (λ e. interval) (from 0 (INTERVAL ∷ assign ∷ five ∷ [])) a → ⊥
interval_denied = denied ((interval_laws 3).law refl) interval_stops

-- PRIORITY := 5, and a typed integer
priority_reads : priority.run (from 0 (PRIORITY ∷ assign ∷ five ∷ [])) ≡ (Ok (nth 2 five), [])
unfolding sources_on_tokens
priority_reads = refl

priority_spelled : priority.lang (from 0 (PRIORITY ∷ assign ∷ five ∷ [])) (nth 2 five)
priority_spelled = spelled ((priority_laws 3).law refl) priority_reads

priority_stops : priority.run (from 0 (PRIORITY ∷ assign ∷ int_five ∷ [])) ≡ (Err Wrong, from 2 (int_five ∷ []))
unfolding sources_on_tokens
priority_stops = refl

priority_denied : (a : Token) → Phrase (λ e. priority) (from 0 (PRIORITY ∷ assign ∷ int_five ∷ [])) a → ⊥
priority_denied = denied ((priority_laws 3).law refl) priority_stops

-- TASK B (INTERVAL := T#3ns, PRIORITY := 5); and a task without a priority
task_reads : task.run (from 0 (TASK ∷ B ∷ lparen ∷ INTERVAL ∷ assign ∷ time ∷ comma ∷ PRIORITY ∷ assign ∷ five ∷ rparen ∷ semi ∷ [])) ≡ (Ok (task_of (id 1 B) (nth 5 time) (nth 9 five)), [])
unfolding sources_on_tokens
task_reads = refl

task_spelled : task.lang (from 0 (TASK ∷ B ∷ lparen ∷ INTERVAL ∷ assign ∷ time ∷ comma ∷ PRIORITY ∷ assign ∷ five ∷ rparen ∷ semi ∷ [])) (task_of (id 1 B) (nth 5 time) (nth 9 five))
task_spelled = spelled ((task_laws 3).law refl) task_reads

task_stops : task.run (from 0 (TASK ∷ B ∷ lparen ∷ INTERVAL ∷ assign ∷ time ∷ rparen ∷ semi ∷ [])) ≡ (Err Wrong, from 6 (rparen ∷ semi ∷ []))
unfolding sources_on_tokens
task_stops = refl

task_denied : (a : Task) → Phrase (λ e. task) (from 0 (TASK ∷ B ∷ lparen ∷ INTERVAL ∷ assign ∷ time ∷ rparen ∷ semi ∷ [])) a → ⊥
task_denied = denied ((task_laws 3).law refl) task_stops

-- ---- instances

-- PROGRAM C WITH B : A; and PROGRAM C : A; and no name behind WITH
inst_reads : inst.run (from 0 (PROGRAM ∷ C ∷ WITH ∷ B ∷ colon ∷ A ∷ semi ∷ [])) ≡ (Ok (inst_of (id 1 C) (Some (id 3 B)) (id 5 A)), [])
unfolding sources_on_tokens
inst_reads = refl

inst_spelled : inst.lang (from 0 (PROGRAM ∷ C ∷ WITH ∷ B ∷ colon ∷ A ∷ semi ∷ [])) (inst_of (id 1 C) (Some (id 3 B)) (id 5 A))
inst_spelled = spelled ((inst_laws 3).law refl) inst_reads

free_inst_reads : inst.run (from 0 (PROGRAM ∷ C ∷ colon ∷ A ∷ semi ∷ [])) ≡ (Ok (inst_of (id 1 C) None (id 3 A)), [])
unfolding sources_on_tokens
free_inst_reads = refl

free_inst_spelled : inst.lang (from 0 (PROGRAM ∷ C ∷ colon ∷ A ∷ semi ∷ [])) (inst_of (id 1 C) None (id 3 A))
free_inst_spelled = spelled ((inst_laws 3).law refl) free_inst_reads

inst_stops : inst.run (from 0 (PROGRAM ∷ C ∷ WITH ∷ colon ∷ A ∷ semi ∷ [])) ≡ (Err Wrong, from 3 (colon ∷ A ∷ semi ∷ []))
unfolding sources_on_tokens
inst_stops = refl

inst_denied : (a : Inst) → Phrase (λ e. inst) (from 0 (PROGRAM ∷ C ∷ WITH ∷ colon ∷ A ∷ semi ∷ [])) a → ⊥
inst_denied = denied ((inst_laws 3).law refl) inst_stops

-- ---- resources and configurations

-- RESOURCE A ON B, global variables, a task and an instance, END_RESOURCE; a resource has an instance
resource_reads : (resource 3).run (from 0 (RESOURCE ∷ A ∷ ON ∷ B ∷ VAR_GLOBAL ∷ END_VAR ∷ PROGRAM ∷ C ∷ WITH ∷ B ∷ colon ∷ A ∷ semi ∷ PROGRAM ∷ C ∷ WITH ∷ B ∷ colon ∷ A ∷ semi ∷ END_RESOURCE ∷ [])) ≡ (Ok (resource_of (id 1 A) (id 3 B) (section_of Global false false (here 4) (here 4) [] ∷ []) [] (inst_of (id 7 C) (Some (id 9 B)) (id 11 A) ∷ inst_of (id 14 C) (Some (id 16 B)) (id 18 A) ∷ [])), [])
unfolding sources_on_tokens
resource_reads = refl

resource_spelled : (resource 3).lang (from 0 (RESOURCE ∷ A ∷ ON ∷ B ∷ VAR_GLOBAL ∷ END_VAR ∷ PROGRAM ∷ C ∷ WITH ∷ B ∷ colon ∷ A ∷ semi ∷ PROGRAM ∷ C ∷ WITH ∷ B ∷ colon ∷ A ∷ semi ∷ END_RESOURCE ∷ [])) (resource_of (id 1 A) (id 3 B) (section_of Global false false (here 4) (here 4) [] ∷ []) [] (inst_of (id 7 C) (Some (id 9 B)) (id 11 A) ∷ inst_of (id 14 C) (Some (id 16 B)) (id 18 A) ∷ []))
resource_spelled = spelled ((resource_laws 3).law refl) resource_reads

resource_with_task_reads : (resource 3).run (from 0 (RESOURCE ∷ A ∷ ON ∷ B ∷ TASK ∷ B ∷ lparen ∷ INTERVAL ∷ assign ∷ time ∷ comma ∷ PRIORITY ∷ assign ∷ five ∷ rparen ∷ semi ∷ PROGRAM ∷ C ∷ WITH ∷ B ∷ colon ∷ A ∷ semi ∷ END_RESOURCE ∷ [])) ≡ (Ok (resource_of (id 1 A) (id 3 B) [] (task_of (id 5 B) (nth 9 time) (nth 13 five) ∷ []) (inst_of (id 17 C) (Some (id 19 B)) (id 21 A) ∷ [])), [])
unfolding sources_on_tokens
resource_with_task_reads = refl

resource_with_task_spelled : (resource 3).lang (from 0 (RESOURCE ∷ A ∷ ON ∷ B ∷ TASK ∷ B ∷ lparen ∷ INTERVAL ∷ assign ∷ time ∷ comma ∷ PRIORITY ∷ assign ∷ five ∷ rparen ∷ semi ∷ PROGRAM ∷ C ∷ WITH ∷ B ∷ colon ∷ A ∷ semi ∷ END_RESOURCE ∷ [])) (resource_of (id 1 A) (id 3 B) [] (task_of (id 5 B) (nth 9 time) (nth 13 five) ∷ []) (inst_of (id 17 C) (Some (id 19 B)) (id 21 A) ∷ []))
resource_with_task_spelled = spelled ((resource_laws 3).law refl) resource_with_task_reads

resource_stops : (resource 3).run (from 0 (RESOURCE ∷ A ∷ ON ∷ B ∷ TASK ∷ B ∷ lparen ∷ INTERVAL ∷ assign ∷ time ∷ comma ∷ PRIORITY ∷ assign ∷ five ∷ rparen ∷ semi ∷ END_RESOURCE ∷ [])) ≡ (Err Wrong, from 16 (END_RESOURCE ∷ []))
unfolding sources_on_tokens
resource_stops = refl

resource_denied : (a : Resource) → Phrase resource (from 0 (RESOURCE ∷ A ∷ ON ∷ B ∷ TASK ∷ B ∷ lparen ∷ INTERVAL ∷ assign ∷ time ∷ comma ∷ PRIORITY ∷ assign ∷ five ∷ rparen ∷ semi ∷ END_RESOURCE ∷ [])) a → ⊥
resource_denied = denied ((resource_laws 3).law refl) resource_stops

task_behind_stops : (resource 3).run (from 0 (RESOURCE ∷ A ∷ ON ∷ B ∷ PROGRAM ∷ C ∷ colon ∷ A ∷ semi ∷ TASK ∷ [])) ≡ (Err Wrong, from 9 (TASK ∷ []))
unfolding sources_on_tokens
task_behind_stops = refl

task_behind_denied : (a : Resource) → Phrase resource (from 0 (RESOURCE ∷ A ∷ ON ∷ B ∷ PROGRAM ∷ C ∷ colon ∷ A ∷ semi ∷ TASK ∷ [])) a → ⊥
task_behind_denied = denied ((resource_laws 3).law refl) task_behind_stops

-- CONFIGURATION C, a resource, END_CONFIGURATION; a configuration has a resource
config_reads : (config 3).run (from 0 (CONFIGURATION ∷ C ∷ VAR_GLOBAL ∷ CONSTANT ∷ END_VAR ∷ RESOURCE ∷ A ∷ ON ∷ B ∷ PROGRAM ∷ C ∷ colon ∷ A ∷ semi ∷ END_RESOURCE ∷ END_CONFIGURATION ∷ [])) ≡ (Ok (config_of (id 1 C) (section_of Global true false (here 2) (here 3) [] ∷ []) (resource_of (id 6 A) (id 8 B) [] [] (inst_of (id 10 C) None (id 12 A) ∷ []) ∷ [])), [])
unfolding sources_on_tokens
config_reads = refl

config_spelled : (config 3).lang (from 0 (CONFIGURATION ∷ C ∷ VAR_GLOBAL ∷ CONSTANT ∷ END_VAR ∷ RESOURCE ∷ A ∷ ON ∷ B ∷ PROGRAM ∷ C ∷ colon ∷ A ∷ semi ∷ END_RESOURCE ∷ END_CONFIGURATION ∷ [])) (config_of (id 1 C) (section_of Global true false (here 2) (here 3) [] ∷ []) (resource_of (id 6 A) (id 8 B) [] [] (inst_of (id 10 C) None (id 12 A) ∷ []) ∷ []))
config_spelled = spelled ((config_laws 3).law refl) config_reads

config_stops : (config 3).run (from 0 (CONFIGURATION ∷ C ∷ END_CONFIGURATION ∷ [])) ≡ (Err Wrong, from 2 (END_CONFIGURATION ∷ []))
unfolding sources_on_tokens
config_stops = refl

config_denied : (a : Config) → Phrase config (from 0 (CONFIGURATION ∷ C ∷ END_CONFIGURATION ∷ [])) a → ⊥
config_denied = denied ((config_laws 3).law refl) config_stops
