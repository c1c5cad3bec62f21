-- No token of a source ends a list or is left out, but for the words behind a section's first that say what variables keep.
use Rattle.std.proofs.Common.{ℕ, Bool, true, false, List, [], ◌∷◌, refl}
use Rattle.plc_base.specs.declared.refusal.Place.{Place}
use Rattle.plc_tree.specs.declared.tree.Id.{Id}
use Rattle.plc_tree.specs.declared.tree.Section.{Section}
use Rattle.plc_tree.specs.declared.tree.SectionKind.{SectionKind}
use Rattle.plc_tree.specs.declared.tree.Unit.{Unit as Source}
use Rattle.plc_tokens.specs.Sets as G
use Rattle.plc_tokens.proofs.Lacks.{Lacks, lacks_pure, lacks_tok, lacks_bind, lacks_many, lacks_choose}
use Rattle.plc_tokens.proofs.InPlace.{PlacedBehind, Placed, placed_lacks, placed_pure, placed_tok, placed_retention, placed_bind, placed_open, placed_choose, placed_many}
use Rattle.st_parse.proofs.Lacking.{of_statements}
use Rattle.type_parse.proofs.Lacking.{name_lacks, more_names_lacks, tname_lacks, spec_lacks, init_if_any_lacks, types_lacks}
use Rattle.decl_parse.specs.Sections.{vdecl_rest, vdecl, ldecl_rest, any_decl, next_vdecl, next_any_decl, plain_rest, located_rest, constant_rest, constant_or_not, retained_rest, retained_or_not, own_rest, located_constant_rest, any_rest, function_input, function_own, function_section, input_output, in_out, external, block_own, block_section, program_own, program_section, globals, next_function_section, next_block_section, next_program_section, next_globals}
use Rattle.decl_parse.specs.Units.{body, function, block, program, pou}
use Rattle.decl_parse.specs.Configurations.{interval, priority, task, next_task, with, with_if_any, inst, next_inst, resource, next_resource, config}
use Rattle.decl_parse.specs.Sources.{nothing, next_types, next_config, next_pou, next_declaration, source}

module _ (n : ℕ) where
  -- ---- declarations

  vdecl_rest_lacks : (i : Id) → Lacks (vdecl_rest n i)
  unfolding vdecl_rest
  vdecl_rest_lacks i = lacks_bind (more_names_lacks i) (λ _. lacks_bind (lacks_tok false G.COLON refl) (λ _. lacks_bind spec_lacks (λ _. lacks_bind (init_if_any_lacks n) (λ _. lacks_bind (lacks_tok false G.SEMI refl) (λ _. lacks_pure _)))))

  ldecl_rest_lacks : (i : Id) → Lacks (ldecl_rest n i)
  unfolding ldecl_rest
  ldecl_rest_lacks i = lacks_bind (lacks_tok false G.AT refl) (λ _. lacks_bind (lacks_tok false G.ADDRESS refl) (λ _. lacks_bind (lacks_tok false G.COLON refl) (λ _. lacks_bind tname_lacks (λ _.
      lacks_bind (init_if_any_lacks n) (λ _. lacks_bind (lacks_tok false G.SEMI refl) (λ _. lacks_pure _))))))

  -- ---- sections

  module _ (k : SectionKind) where
    plain_lacks : (constant keep : Bool) (at mark : Place) → Lacks (plain_rest n k constant keep at mark)
    unfolding plain_rest next_vdecl vdecl
    plain_lacks constant keep at mark = lacks_bind (lacks_many G.NAME [] (λ _. lacks_bind (lacks_bind name_lacks vdecl_rest_lacks) (λ _. lacks_pure _))) (λ _. lacks_bind (lacks_tok false G.END_VAR refl) (λ _. lacks_pure _))

    located_lacks : (constant : Bool) (at mark : Place) → Lacks (located_rest n k constant at mark)
    unfolding located_rest next_any_decl any_decl
    located_lacks constant at mark = lacks_bind (lacks_many G.NAME [] (λ _. lacks_bind (lacks_bind name_lacks (λ i. lacks_choose G.AT (ldecl_rest_lacks i) (vdecl_rest_lacks i))) (λ _. lacks_pure _)))
        (λ _. lacks_bind (lacks_tok false G.END_VAR refl) (λ _. lacks_pure _))

    constant_lacks : (at : Place) → Lacks (constant_rest n k at)
    unfolding constant_rest
    constant_lacks at = lacks_bind (lacks_tok false G.CONSTANT refl) (λ m. plain_lacks true false at m.place)

    constant_or_not_lacks : (at : Place) → Lacks (constant_or_not n k at)
    unfolding constant_or_not
    constant_or_not_lacks at = lacks_choose G.CONSTANT (constant_lacks at) (plain_lacks false false at at)

    retained_placed : (at : Place) → PlacedBehind true (retained_rest n k at)
    unfolding retained_rest
    retained_placed at = placed_bind (placed_retention G.RETENTION refl) (λ m. placed_lacks (plain_lacks false _ at m.place))

    retained_or_not_placed : (at : Place) → PlacedBehind true (retained_or_not n k at)
    unfolding retained_or_not
    retained_or_not_placed at = placed_choose G.RETENTION (retained_placed at) (placed_lacks (plain_lacks false false at at))

    own_placed : (at : Place) → PlacedBehind true (own_rest n k at)
    unfolding own_rest
    own_placed at = placed_choose G.CONSTANT (placed_lacks (constant_lacks at)) (retained_or_not_placed at)

    any_placed : (at : Place) → PlacedBehind true (any_rest n k at)
    unfolding any_rest located_constant_rest
    any_placed at = placed_choose G.CONSTANT (placed_lacks (lacks_bind (lacks_tok false G.CONSTANT refl) (λ m. located_lacks true at m.place)))
        (placed_choose G.RETENTION (retained_placed at) (placed_lacks (located_lacks false at at)))

  function_section_lacks : Lacks (function_section n)
  unfolding function_section function_input function_own
  function_section_lacks = lacks_choose G.VAR_INPUT (lacks_bind (lacks_tok false G.VAR_INPUT refl) (λ t. plain_lacks _ false false t.place t.place))
      (lacks_bind (lacks_tok false G.VAR refl) (λ t. constant_or_not_lacks _ t.place))

  input_output_placed : Placed (input_output n)
  unfolding input_output
  input_output_placed = placed_open G.INPUT_OUTPUT refl refl (λ t. retained_or_not_placed _ t.place)

  in_out_lacks : Lacks (in_out n)
  unfolding in_out
  in_out_lacks = lacks_bind (lacks_tok false G.VAR_IN_OUT refl) (λ t. plain_lacks _ false false t.place t.place)

  external_lacks : Lacks (external n)
  unfolding external
  external_lacks = lacks_bind (lacks_tok false G.VAR_EXTERNAL refl) (λ t. constant_or_not_lacks _ t.place)

  block_section_placed : Placed (block_section n)
  unfolding block_section block_own
  block_section_placed = placed_choose G.INPUT_OUTPUT input_output_placed (placed_choose G.VAR_IN_OUT (placed_lacks in_out_lacks) (placed_choose G.VAR_EXTERNAL (placed_lacks external_lacks)
      (placed_open G.VAR refl refl (λ t. own_placed _ t.place))))

  program_section_placed : Placed (program_section n)
  unfolding program_section program_own
  program_section_placed = placed_choose G.INPUT_OUTPUT input_output_placed (placed_choose G.VAR_IN_OUT (placed_lacks in_out_lacks) (placed_choose G.VAR_EXTERNAL (placed_lacks external_lacks)
      (placed_open G.VAR refl refl (λ t. any_placed _ t.place))))

  next_globals_placed : (l : List Section) → Placed (next_globals n l)
  unfolding next_globals globals
  next_globals_placed l = placed_bind (placed_open G.VAR_GLOBAL refl refl (λ t. any_placed _ t.place)) (λ _. placed_pure _)

  -- ---- program organisation units

  body_placed : Placed (body n)
  unfolding body
  body_placed = placed_bind (placed_lacks (of_statements n)) (λ _. placed_pure _)

  function_placed : Placed (function n)
  unfolding function next_function_section
  function_placed = placed_bind (placed_tok G.FUNCTION refl) (λ _. placed_bind (placed_lacks name_lacks) (λ _. placed_bind (placed_tok G.COLON refl) (λ _. placed_bind (placed_lacks tname_lacks) (λ _.
      placed_bind (placed_many G.FUNCTION_SECTION [] (λ _. placed_bind (placed_lacks function_section_lacks) (λ _. placed_pure _))) (λ _. placed_bind body_placed (λ _. placed_bind (placed_tok G.END_FUNCTION refl) (λ _. placed_pure _)))))))

  block_placed : Placed (block n)
  unfolding block next_block_section
  block_placed = placed_bind (placed_tok G.FUNCTION_BLOCK refl) (λ _. placed_bind (placed_lacks name_lacks) (λ _.
      placed_bind (placed_many G.UNIT_SECTION [] (λ _. placed_bind block_section_placed (λ _. placed_pure _))) (λ _. placed_bind body_placed (λ _. placed_bind (placed_tok G.END_FUNCTION_BLOCK refl) (λ _. placed_pure _)))))

  program_placed : Placed (program n)
  unfolding program next_program_section
  program_placed = placed_bind (placed_tok G.PROGRAM refl) (λ _. placed_bind (placed_lacks name_lacks) (λ _.
      placed_bind (placed_many G.UNIT_SECTION [] (λ _. placed_bind program_section_placed (λ _. placed_pure _))) (λ _. placed_bind body_placed (λ _. placed_bind (placed_tok G.END_PROGRAM refl) (λ _. placed_pure _)))))

  pou_placed : Placed (pou n)
  unfolding pou
  pou_placed = placed_choose G.FUNCTION function_placed (placed_choose G.FUNCTION_BLOCK block_placed program_placed)

  -- ---- configurations

  task_lacks : Lacks task
  unfolding task interval priority
  task_lacks = lacks_bind (lacks_tok false G.TASK refl) (λ _. lacks_bind name_lacks (λ _. lacks_bind (lacks_tok false G.LPAREN refl) (λ _.
      lacks_bind (lacks_bind (lacks_tok false G.INTERVAL refl) (λ _. lacks_bind (lacks_tok false G.ASSIGN refl) (λ _. lacks_tok false G.SPAN refl))) (λ _. lacks_bind (lacks_tok false G.COMMA refl) (λ _.
      lacks_bind (lacks_bind (lacks_tok false G.PRIORITY refl) (λ _. lacks_bind (lacks_tok false G.ASSIGN refl) (λ _. lacks_tok false G.INTEGER refl))) (λ _. lacks_bind (lacks_tok false G.RPAREN refl) (λ _. lacks_bind (lacks_tok false G.SEMI refl) (λ _. lacks_pure _))))))))

  inst_lacks : Lacks inst
  unfolding inst with_if_any with
  inst_lacks = lacks_bind (lacks_tok false G.PROGRAM refl) (λ _. lacks_bind name_lacks (λ _.
      lacks_bind (lacks_choose G.WITH (lacks_bind (lacks_tok false G.WITH refl) (λ _. lacks_bind name_lacks (λ _. lacks_pure _))) (lacks_pure _)) (λ _.
      lacks_bind (lacks_tok false G.COLON refl) (λ _. lacks_bind name_lacks (λ _. lacks_bind (lacks_tok false G.SEMI refl) (λ _. lacks_pure _))))))

  resource_placed : Placed (resource n)
  unfolding resource next_task next_inst
  resource_placed = placed_bind (placed_tok G.RESOURCE refl) (λ _. placed_bind (placed_lacks name_lacks) (λ _. placed_bind (placed_tok G.ON refl) (λ _. placed_bind (placed_lacks name_lacks) (λ _.
      placed_bind (placed_many G.VAR_GLOBAL [] next_globals_placed) (λ _. placed_bind (placed_lacks (lacks_many G.TASK [] (λ _. lacks_bind task_lacks (λ _. lacks_pure _)))) (λ _.
      placed_bind (placed_lacks inst_lacks) (λ i. placed_bind (placed_lacks (lacks_many G.PROGRAM (i ∷ []) (λ _. lacks_bind inst_lacks (λ _. lacks_pure _)))) (λ _. placed_bind (placed_tok G.END_RESOURCE refl) (λ _. placed_pure _)))))))))

  config_placed : Placed (config n)
  unfolding config next_resource
  config_placed = placed_bind (placed_tok G.CONFIGURATION refl) (λ _. placed_bind (placed_lacks name_lacks) (λ _. placed_bind (placed_many G.VAR_GLOBAL [] next_globals_placed) (λ _.
      placed_bind resource_placed (λ r. placed_bind (placed_many G.RESOURCE (r ∷ []) (λ _. placed_bind resource_placed (λ _. placed_pure _))) (λ _. placed_bind (placed_tok G.END_CONFIGURATION refl) (λ _. placed_pure _))))))

  -- ---- sources

  next_declaration_placed : (u : Source) → Placed (next_declaration n u)
  unfolding next_declaration next_types next_config next_pou
  next_declaration_placed u = placed_choose G.TYPE (placed_bind (placed_lacks (types_lacks n u.types)) (λ _. placed_pure _))
      (placed_choose G.CONFIGURATION (placed_bind config_placed (λ _. placed_pure _)) (placed_bind pou_placed (λ _. placed_pure _)))

  pub source_placed : Placed (source n)
  unfolding source
  source_placed = placed_many G.DECLARATION nothing next_declaration_placed
