-- The laws of configurations.
use Rattle.std.proofs.Common.{ℕ, true, false, List, [], ◌∷◌, None, refl}
use Rattle.plc_tree.specs.declared.tree.Resource.{Resource}
use Rattle.plc_tree.specs.declared.tree.Task.{Task}
use Rattle.plc_tree.specs.declared.tree.Inst.{Inst}
use Rattle.plc_tokens.specs.Sets as G
use Rattle.plc_tokens.proofs.Known.{is}
use Rattle.phrase.proofs.Rules.{Laws, pureL, tokL, bindL, bind_anyL, chooseL, manyL, as_listed}
use Rattle.type_parse.proofs.TypeLaws.{name_laws}
use Rattle.decl_parse.specs.Configurations.{interval, priority, task, next_task, with, with_if_any, inst, next_inst, resource, next_resource, config}
use Rattle.decl_parse.proofs.SectionLaws.{next_globals_laws}

module _ (d : ℕ) where
  pub interval_laws : Laws true d false true G.INTERVAL [] (λ _. interval)
  unfolding interval
  interval_laws = bindL (tokL (is G.INTERVAL refl)) (λ _. bindL (tokL (is G.ASSIGN refl)) (λ _. tokL (is G.SPAN refl)) refl) refl

  pub priority_laws : Laws true d false true G.PRIORITY [] (λ _. priority)
  unfolding priority
  priority_laws = bindL (tokL (is G.PRIORITY refl)) (λ _. bindL (tokL (is G.ASSIGN refl)) (λ _. tokL (is G.INTEGER refl)) refl) refl

  pub task_laws : Laws true d false true G.TASK [] (λ _. task)
  unfolding task
  task_laws = bindL (tokL (is G.TASK refl)) (λ _. bindL (name_laws d) (λ n. bindL (tokL (is G.LPAREN refl)) (λ _. bindL interval_laws (λ i. bindL (tokL (is G.COMMA refl)) (λ _.
      bindL priority_laws (λ p. bindL (tokL (is G.RPAREN refl)) (λ _. bindL (tokL (is G.SEMI refl)) (λ _. pureL _) refl) refl) refl) refl) refl) refl) refl) refl

  next_task_laws : (l : List Task) → Laws true d false true G.TASK [] (λ _. next_task l)
  unfolding next_task
  next_task_laws l = bindL task_laws (λ _. pureL _) refl

  with_laws : Laws true d false true G.WITH [] (λ _. with)
  unfolding with
  with_laws = bindL (tokL (is G.WITH refl)) (λ _. bindL (name_laws d) (λ t. pureL _) refl) refl

  with_if_any_laws : Laws true d true true G.WITH G.WITH (λ _. with_if_any)
  unfolding with_if_any
  with_if_any_laws = as_listed G.WITH G.WITH (chooseL with_laws (pureL None) refl) refl refl refl

  pub inst_laws : Laws true d false true G.PROGRAM [] (λ _. inst)
  unfolding inst
  inst_laws = bindL (tokL (is G.PROGRAM refl)) (λ _. bindL (name_laws d) (λ n. bind_anyL with_if_any_laws (λ t.
      bindL (tokL (is G.COLON refl)) (λ _. bindL (name_laws d) (λ p. bindL (tokL (is G.SEMI refl)) (λ _. pureL _) refl) refl) refl) refl) refl) refl

  next_inst_laws : (l : List Inst) → Laws true d false true G.PROGRAM [] (λ _. next_inst l)
  unfolding next_inst
  next_inst_laws l = bindL inst_laws (λ _. pureL _) refl

  pub resource_laws : Laws true d false true G.RESOURCE [] (λ e. resource e)
  unfolding resource
  resource_laws = bindL (tokL (is G.RESOURCE refl)) (λ _. bindL (name_laws d) (λ n. bindL (tokL (is G.ON refl)) (λ _. bindL (name_laws d) (λ o.
      bind_anyL (manyL [] (next_globals_laws d) refl) (λ g. bind_anyL (manyL [] next_task_laws refl) (λ t. bindL inst_laws (λ i. bind_anyL (manyL (i ∷ []) next_inst_laws refl) (λ l.
      bindL (tokL (is G.END_RESOURCE refl)) (λ _. pureL _) refl) refl) refl) refl) refl) refl) refl) refl) refl

  next_resource_laws : (l : List Resource) → Laws true d false true G.RESOURCE [] (λ e. next_resource e l)
  unfolding next_resource
  next_resource_laws l = bindL resource_laws (λ _. pureL _) refl

  pub config_laws : Laws true d false true G.CONFIGURATION [] (λ e. config e)
  unfolding config
  config_laws = bindL (tokL (is G.CONFIGURATION refl)) (λ _. bindL (name_laws d) (λ n. bind_anyL (manyL [] (next_globals_laws d) refl) (λ g.
      bindL resource_laws (λ r. bind_anyL (manyL (r ∷ []) next_resource_laws refl) (λ l. bindL (tokL (is G.END_CONFIGURATION refl)) (λ _. pureL _) refl) refl) refl) refl) refl) refl
