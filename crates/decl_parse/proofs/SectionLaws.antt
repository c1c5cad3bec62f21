-- The laws of sections of declarations.
use Rattle.std.proofs.Common.{ℕ, Bool, true, false, List, [], ◌++◌, refl}
use Rattle.plc_base.specs.declared.refusal.Place.{Place}
use Rattle.plc_tree.specs.declared.tree.Id.{Id}
use Rattle.plc_tree.specs.declared.tree.Decl.{Decl}
use Rattle.plc_tree.specs.declared.tree.Section.{Section}
use Rattle.plc_tree.specs.declared.tree.SectionKind.{SectionKind}
use Rattle.plc_tokens.specs.Sets as G
use Rattle.plc_tokens.proofs.Known.{is}
use Rattle.phrase.proofs.Rules.{Laws, pureL, tokL, bindL, bind_anyL, chooseL, manyL, as_listed}
use Rattle.type_parse.proofs.TypeLaws.{name_laws, more_names_laws, tname_laws, spec_laws}
use Rattle.type_parse.proofs.DepthLaws.{init_if_any_laws}
use Rattle.decl_parse.specs.Sections.{vdecl_rest, vdecl, ldecl_rest, any_decl, next_vdecl, next_any_decl, plain_rest, located_rest, constant_rest, constant_or_not, retained_rest, retained_or_not, own_rest, located_constant_rest, any_rest, function_input, function_own, function_section, input_output, in_out, external, block_own, block_section, program_own, program_section, globals, next_function_section, next_block_section, next_program_section, next_globals}

module _ (d : ℕ) where
  vdecl_rest_laws : (i : Id) → Laws true d false true (G.COMMA ++ G.COLON) [] (λ e. vdecl_rest e i)
  unfolding vdecl_rest
  vdecl_rest_laws i = bind_anyL (more_names_laws d i) (λ l. bindL (tokL (is G.COLON refl)) (λ _. bindL (spec_laws d) (λ s. bind_anyL (init_if_any_laws d) (λ v. bindL (tokL (is G.SEMI refl)) (λ _. pureL _) refl) refl) refl) refl) refl

  pub vdecl_laws : Laws true d false true G.NAME [] (λ e. vdecl e)
  unfolding vdecl
  vdecl_laws = bindL (name_laws d) vdecl_rest_laws refl

  ldecl_rest_laws : (i : Id) → Laws true d false true G.AT [] (λ e. ldecl_rest e i)
  unfolding ldecl_rest
  ldecl_rest_laws i = bindL (tokL (is G.AT refl)) (λ _. bindL (tokL (is G.ADDRESS refl)) (λ a. bindL (tokL (is G.COLON refl)) (λ _. bindL (tname_laws d) (λ t.
      bind_anyL (init_if_any_laws d) (λ v. bindL (tokL (is G.SEMI refl)) (λ _. pureL _) refl) refl) refl) refl) refl) refl

  pub any_decl_laws : Laws true d false true G.NAME [] (λ e. any_decl e)
  unfolding any_decl
  any_decl_laws = bindL (name_laws d) (λ i. chooseL (ldecl_rest_laws i) (vdecl_rest_laws i) refl) refl

  next_vdecl_laws : (l : List Decl) → Laws true d false true G.NAME [] (λ e. next_vdecl e l)
  unfolding next_vdecl
  next_vdecl_laws l = bindL vdecl_laws (λ _. pureL _) refl

  next_any_decl_laws : (l : List Decl) → Laws true d false true G.NAME [] (λ e. next_any_decl e l)
  unfolding next_any_decl
  next_any_decl_laws l = bindL any_decl_laws (λ _. pureL _) refl

  -- ---- behind the first word

  module _ (k : SectionKind) where
    pub plain_rest_laws : (constant keep : Bool) (at mark : Place) → Laws true d false true (G.NAME ++ G.END_VAR) [] (λ e. plain_rest e k constant keep at mark)
    unfolding plain_rest
    plain_rest_laws constant keep at mark = bind_anyL (manyL [] next_vdecl_laws refl) (λ l. bindL (tokL (is G.END_VAR refl)) (λ _. pureL _) refl) refl

    pub located_rest_laws : (constant : Bool) (at mark : Place) → Laws true d false true (G.NAME ++ G.END_VAR) [] (λ e. located_rest e k constant at mark)
    unfolding located_rest
    located_rest_laws constant at mark = bind_anyL (manyL [] next_any_decl_laws refl) (λ l. bindL (tokL (is G.END_VAR refl)) (λ _. pureL _) refl) refl

    constant_rest_laws : (at : Place) → Laws true d false true G.CONSTANT [] (λ e. constant_rest e k at)
    unfolding constant_rest
    constant_rest_laws at = bindL (tokL (is G.CONSTANT refl)) (λ m. plain_rest_laws true false at m.place) refl

    pub constant_or_not_laws : (at : Place) → Laws true d false true (G.CONSTANT ++ G.NAME ++ G.END_VAR) [] (λ e. constant_or_not e k at)
    unfolding constant_or_not
    constant_or_not_laws at = chooseL (constant_rest_laws at) (plain_rest_laws false false at at) refl

    retained_rest_laws : (at : Place) → Laws true d false true G.RETENTION [] (λ e. retained_rest e k at)
    unfolding retained_rest
    retained_rest_laws at = bindL (tokL (is G.RETENTION refl)) (λ m. plain_rest_laws false _ at m.place) refl

    pub retained_or_not_laws : (at : Place) → Laws true d false true (G.RETENTION ++ G.NAME ++ G.END_VAR) [] (λ e. retained_or_not e k at)
    unfolding retained_or_not
    retained_or_not_laws at = chooseL (retained_rest_laws at) (plain_rest_laws false false at at) refl

    pub own_rest_laws : (at : Place) → Laws true d false true (G.CONSTANT ++ (G.RETENTION ++ G.NAME ++ G.END_VAR)) [] (λ e. own_rest e k at)
    unfolding own_rest
    own_rest_laws at = chooseL (constant_rest_laws at) (retained_or_not_laws at) refl

    located_constant_rest_laws : (at : Place) → Laws true d false true G.CONSTANT [] (λ e. located_constant_rest e k at)
    unfolding located_constant_rest
    located_constant_rest_laws at = bindL (tokL (is G.CONSTANT refl)) (λ m. located_rest_laws true at m.place) refl

    pub any_rest_laws : (at : Place) → Laws true d false true (G.CONSTANT ++ (G.RETENTION ++ (G.NAME ++ G.END_VAR))) [] (λ e. any_rest e k at)
    unfolding any_rest
    any_rest_laws at = chooseL (located_constant_rest_laws at) (chooseL (retained_rest_laws at) (located_rest_laws false at at) refl) refl

  -- ---- sections

  pub function_section_laws : Laws true d false true G.FUNCTION_SECTION [] (λ e. function_section e)
  unfolding function_section function_input function_own
  function_section_laws = as_listed G.FUNCTION_SECTION [] (chooseL
      (bindL (tokL (is G.VAR_INPUT refl)) (λ t. plain_rest_laws _ false false t.place t.place) refl)
      (bindL (tokL (is G.VAR refl)) (λ t. constant_or_not_laws _ t.place) refl) refl) refl refl refl

  input_output_laws : Laws true d false true G.INPUT_OUTPUT [] (λ e. input_output e)
  unfolding input_output
  input_output_laws = bindL (tokL (is G.INPUT_OUTPUT refl)) (λ t. retained_or_not_laws _ t.place) refl

  in_out_laws : Laws true d false true G.VAR_IN_OUT [] (λ e. in_out e)
  unfolding in_out
  in_out_laws = bindL (tokL (is G.VAR_IN_OUT refl)) (λ t. plain_rest_laws _ false false t.place t.place) refl

  external_laws : Laws true d false true G.VAR_EXTERNAL [] (λ e. external e)
  unfolding external
  external_laws = bindL (tokL (is G.VAR_EXTERNAL refl)) (λ t. constant_or_not_laws _ t.place) refl

  block_own_laws : Laws true d false true G.VAR [] (λ e. block_own e)
  unfolding block_own
  block_own_laws = bindL (tokL (is G.VAR refl)) (λ t. own_rest_laws _ t.place) refl

  program_own_laws : Laws true d false true G.VAR [] (λ e. program_own e)
  unfolding program_own
  program_own_laws = bindL (tokL (is G.VAR refl)) (λ t. any_rest_laws _ t.place) refl

  pub block_section_laws : Laws true d false true G.UNIT_SECTION [] (λ e. block_section e)
  unfolding block_section
  block_section_laws = as_listed G.UNIT_SECTION [] (chooseL input_output_laws (chooseL in_out_laws (chooseL external_laws block_own_laws refl) refl) refl) refl refl refl

  pub program_section_laws : Laws true d false true G.UNIT_SECTION [] (λ e. program_section e)
  unfolding program_section
  program_section_laws = as_listed G.UNIT_SECTION [] (chooseL input_output_laws (chooseL in_out_laws (chooseL external_laws program_own_laws refl) refl) refl) refl refl refl

  pub globals_laws : Laws true d false true G.VAR_GLOBAL [] (λ e. globals e)
  unfolding globals
  globals_laws = bindL (tokL (is G.VAR_GLOBAL refl)) (λ t. any_rest_laws _ t.place) refl

  pub next_function_section_laws : (l : List Section) → Laws true d false true G.FUNCTION_SECTION [] (λ e. next_function_section e l)
  unfolding next_function_section
  next_function_section_laws l = bindL function_section_laws (λ _. pureL _) refl

  pub next_block_section_laws : (l : List Section) → Laws true d false true G.UNIT_SECTION [] (λ e. next_block_section e l)
  unfolding next_block_section
  next_block_section_laws l = bindL block_section_laws (λ _. pureL _) refl

  pub next_program_section_laws : (l : List Section) → Laws true d false true G.UNIT_SECTION [] (λ e. next_program_section e l)
  unfolding next_program_section
  next_program_section_laws l = bindL program_section_laws (λ _. pureL _) refl

  pub next_globals_laws : (l : List Section) → Laws true d false true G.VAR_GLOBAL [] (λ e. next_globals e l)
  unfolding next_globals
  next_globals_laws l = bindL globals_laws (λ _. pureL _) refl
