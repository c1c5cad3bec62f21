-- The shape of what tokens spell, production by production.
use Rattle.std.proofs.Common.{ℕ, ◌≤◌, true, Bool, List, [], ◌∷◌, refl, subst}
use Rattle.plc_base.specs.declared.refusal.Place.{Place}
use Rattle.plc_tokens.specs.declared.token.Token.{Token}
use Rattle.plc_tree.specs.declared.tree.Id.{Id}
use Rattle.plc_tree.specs.declared.tree.Unit.{Unit as Source}
use Rattle.plc_tree.specs.declared.tree.Section.{Section}
use Rattle.plc_tree.specs.declared.tree.SectionKind.{SectionKind}
use Rattle.plc_tree.specs.declared.tree.Decl.{Decl}
use Rattle.plc_tree.specs.declared.tree.Resource.{Resource}
use Rattle.plc_tree.specs.declared.tree.Task.{Task}
use Rattle.plc_tree.specs.declared.tree.Inst.{Inst}
use Rattle.plc_tree.specs.Heights.{list_height}
use Rattle.phrase.specs.Every.{Every}
use Rattle.phrase.proofs.Gives.{every_both, every_parts, Gives, gives_any, gives_pure, gives_tok, gives_bind, gives_many, gives_choose}
use Rattle.plc_tokens.specs.Sets as G
use Rattle.st_parse.specs.Depth.{Statements}
use Rattle.st_parse.proofs.Heights.{statements_low}
use Rattle.type_parse.specs.Names.{name, next_name, more_names, tname}
use Rattle.type_parse.specs.Types.{spec, types}
use Rattle.type_parse.specs.Depth.{init_if_any}
use Rattle.decl_parse.specs.Sections.{vdecl_rest, vdecl, ldecl_rest, any_decl, next_vdecl, next_any_decl, plain_rest, located_rest, constant_rest, constant_or_not, retained_rest, retained_or_not, own_rest, located_constant_rest, any_rest, function_input, function_own, function_section, input_output, in_out, external, block_own, block_section, program_own, program_section, globals, next_function_section, next_block_section, next_program_section, next_globals}
use Rattle.decl_parse.specs.Units.{body, function, block, program, pou}
use Rattle.decl_parse.specs.Configurations.{interval, priority, task, next_task, with_if_any, inst, next_inst, resource, next_resource, config}
use Rattle.decl_parse.specs.Sources.{nothing, next_types, next_config, next_pou, next_declaration, source}
use Rattle.decl_parse.specs.Parsed.{MOST, IsAccepted}
use Rattle.decl_parse.specs.Shapes.{EveryToken, IsNamed, IsDecl, IsSection, IsBody, IsPou, IsResource, IsConfig, IsShaped}

module _ (P : Token → Type 0) where
  -- ---- names

  abbrev HasName : Id → Type 0
  HasName n = IsNamed P n.name

  named : Gives P name HasName
  unfolding name
  named = gives_bind (gives_tok G.NAME) (λ t k. gives_pure _ (record { token = t; is = refl; sort = k.among; holds = k.holds }))

  all_named : (n : Id) → HasName n → Gives P (more_names n) (Every HasName)
  unfolding more_names next_name
  all_named n hn = gives_many G.COMMA (n ∷ []) (hn, tt) (λ l hl. gives_bind (gives_tok G.COMMA) (λ _ _. gives_bind named (λ m hm.
      gives_pure _ (every_both HasName l (m ∷ []) hl (hm, tt)))))

  -- ---- declarations and sections

  module _ (n : ℕ) where
    plain_declared : (i : Id) → HasName i → Gives P (vdecl_rest n i) (IsDecl P)
    unfolding vdecl_rest
    plain_declared i hi = gives_bind (all_named i hi) (λ l hl. gives_bind (gives_tok G.COLON) (λ _ _. gives_bind (gives_any spec) (λ s _. gives_bind (gives_any (init_if_any n)) (λ v _. gives_bind (gives_tok G.SEMI) (λ _ _.
        gives_pure _ hl)))))

    located_declared : (i : Id) → HasName i → Gives P (ldecl_rest n i) (IsDecl P)
    unfolding ldecl_rest
    located_declared i hi = gives_bind (gives_tok G.AT) (λ _ _. gives_bind (gives_tok G.ADDRESS) (λ a _. gives_bind (gives_tok G.COLON) (λ _ _. gives_bind (gives_any tname) (λ t _.
        gives_bind (gives_any (init_if_any n)) (λ v _. gives_bind (gives_tok G.SEMI) (λ _ _. gives_pure _ (hi, tt)))))))

    next_declared : (l : List Decl) → Every (IsDecl P) l → Gives P (next_vdecl n l) (Every (IsDecl P))
    unfolding next_vdecl vdecl
    next_declared l hl = gives_bind (gives_bind named plain_declared) (λ d hd. gives_pure _ (every_both (IsDecl P) l (d ∷ []) hl (hd, tt)))

    next_any_declared : (l : List Decl) → Every (IsDecl P) l → Gives P (next_any_decl n l) (Every (IsDecl P))
    unfolding next_any_decl any_decl
    next_any_declared l hl = gives_bind (gives_bind named (λ i hi. gives_choose G.AT (located_declared i hi) (plain_declared i hi))) (λ d hd. gives_pure _ (every_both (IsDecl P) l (d ∷ []) hl (hd, tt)))

    module _ (k : SectionKind) where
      plain_sectioned : (constant keep : Bool) (at mark : Place) → Gives P (plain_rest n k constant keep at mark) (IsSection P)
      unfolding plain_rest
      plain_sectioned constant keep at mark = gives_bind (gives_many G.NAME [] tt next_declared) (λ l hl. gives_bind (gives_tok G.END_VAR) (λ _ _. gives_pure _ hl))

      located_sectioned : (constant : Bool) (at mark : Place) → Gives P (located_rest n k constant at mark) (IsSection P)
      unfolding located_rest
      located_sectioned constant at mark = gives_bind (gives_many G.NAME [] tt next_any_declared) (λ l hl. gives_bind (gives_tok G.END_VAR) (λ _ _. gives_pure _ hl))

      constant_sectioned : (at : Place) → Gives P (constant_rest n k at) (IsSection P)
      unfolding constant_rest
      constant_sectioned at = gives_bind (gives_tok G.CONSTANT) (λ m _. plain_sectioned true _ at m.place)

      constant_or_not_sectioned : (at : Place) → Gives P (constant_or_not n k at) (IsSection P)
      unfolding constant_or_not
      constant_or_not_sectioned at = gives_choose G.CONSTANT (constant_sectioned at) (plain_sectioned _ _ at at)

      retained_sectioned : (at : Place) → Gives P (retained_rest n k at) (IsSection P)
      unfolding retained_rest
      retained_sectioned at = gives_bind (gives_tok G.RETENTION) (λ m _. plain_sectioned _ _ at m.place)

      retained_or_not_sectioned : (at : Place) → Gives P (retained_or_not n k at) (IsSection P)
      unfolding retained_or_not
      retained_or_not_sectioned at = gives_choose G.RETENTION (retained_sectioned at) (plain_sectioned _ _ at at)

      own_sectioned : (at : Place) → Gives P (own_rest n k at) (IsSection P)
      unfolding own_rest
      own_sectioned at = gives_choose G.CONSTANT (constant_sectioned at) (retained_or_not_sectioned at)

      any_sectioned : (at : Place) → Gives P (any_rest n k at) (IsSection P)
      unfolding any_rest located_constant_rest
      any_sectioned at = gives_choose G.CONSTANT (gives_bind (gives_tok G.CONSTANT) (λ m _. located_sectioned true at m.place)) (gives_choose G.RETENTION (retained_sectioned at) (located_sectioned _ at at))

    function_sectioned : (l : List Section) → Every (IsSection P) l → Gives P (next_function_section n l) (Every (IsSection P))
    unfolding next_function_section function_section function_input function_own
    function_sectioned l hl = gives_bind (gives_choose G.VAR_INPUT (gives_bind (gives_tok G.VAR_INPUT) (λ t _. plain_sectioned _ _ _ t.place t.place)) (gives_bind (gives_tok G.VAR) (λ t _. constant_or_not_sectioned _ t.place)))
        (λ s hs. gives_pure _ (every_both (IsSection P) l (s ∷ []) hl (hs, tt)))

    passed_sectioned : Gives P (input_output n) (IsSection P)
    unfolding input_output
    passed_sectioned = gives_bind (gives_tok G.INPUT_OUTPUT) (λ t _. retained_or_not_sectioned _ t.place)

    in_out_sectioned : Gives P (in_out n) (IsSection P)
    unfolding in_out
    in_out_sectioned = gives_bind (gives_tok G.VAR_IN_OUT) (λ t _. plain_sectioned _ _ _ t.place t.place)

    external_sectioned : Gives P (external n) (IsSection P)
    unfolding external
    external_sectioned = gives_bind (gives_tok G.VAR_EXTERNAL) (λ t _. constant_or_not_sectioned _ t.place)

    block_sectioned : (l : List Section) → Every (IsSection P) l → Gives P (next_block_section n l) (Every (IsSection P))
    unfolding next_block_section block_section block_own
    block_sectioned l hl = gives_bind (gives_choose G.INPUT_OUTPUT passed_sectioned (gives_choose G.VAR_IN_OUT in_out_sectioned (gives_choose G.VAR_EXTERNAL external_sectioned (gives_bind (gives_tok G.VAR) (λ t _. own_sectioned _ t.place)))))
        (λ s hs. gives_pure _ (every_both (IsSection P) l (s ∷ []) hl (hs, tt)))

    program_sectioned : (l : List Section) → Every (IsSection P) l → Gives P (next_program_section n l) (Every (IsSection P))
    unfolding next_program_section program_section program_own
    program_sectioned l hl = gives_bind (gives_choose G.INPUT_OUTPUT passed_sectioned (gives_choose G.VAR_IN_OUT in_out_sectioned (gives_choose G.VAR_EXTERNAL external_sectioned (gives_bind (gives_tok G.VAR) (λ t _. any_sectioned _ t.place)))))
        (λ s hs. gives_pure _ (every_both (IsSection P) l (s ∷ []) hl (hs, tt)))

    globals_sectioned : (l : List Section) → Every (IsSection P) l → Gives P (next_globals n l) (Every (IsSection P))
    unfolding next_globals globals
    globals_sectioned l hl = gives_bind (gives_bind (gives_tok G.VAR_GLOBAL) (λ t _. any_sectioned _ t.place)) (λ s hs. gives_pure _ (every_both (IsSection P) l (s ∷ []) hl (hs, tt)))

  -- ---- program organisation units

  stated : (n : ℕ) → Gives P (Statements n) (λ l. list_height l ≤ n)
  stated n = record { gives = λ w l each k. statements_low n w l k }

  bodied : (n : ℕ) → Gives P (body n) (IsBody n)
  unfolding body
  bodied n = gives_bind (stated n) (λ l hl. gives_pure _ (record { stmts = l; is = refl; low = hl }))

  function_shaped : Gives P (function MOST) (IsPou P)
  unfolding function
  function_shaped = gives_bind (gives_tok G.FUNCTION) (λ _ _. gives_bind named (λ i hi. gives_bind (gives_tok G.COLON) (λ _ _. gives_bind (gives_any tname) (λ r _.
      gives_bind (gives_many G.FUNCTION_SECTION [] tt (function_sectioned MOST)) (λ s hs. gives_bind (bodied MOST) (λ b hb. gives_bind (gives_tok G.END_FUNCTION) (λ _ _.
      gives_pure _ (record { named = hi; sections = hs; body = hb }))))))))

  block_shaped : Gives P (block MOST) (IsPou P)
  unfolding block
  block_shaped = gives_bind (gives_tok G.FUNCTION_BLOCK) (λ _ _. gives_bind named (λ i hi.
      gives_bind (gives_many G.UNIT_SECTION [] tt (block_sectioned MOST)) (λ s hs. gives_bind (bodied MOST) (λ b hb. gives_bind (gives_tok G.END_FUNCTION_BLOCK) (λ _ _.
      gives_pure _ (record { named = hi; sections = hs; body = hb }))))))

  program_shaped : Gives P (program MOST) (IsPou P)
  unfolding program
  program_shaped = gives_bind (gives_tok G.PROGRAM) (λ _ _. gives_bind named (λ i hi.
      gives_bind (gives_many G.UNIT_SECTION [] tt (program_sectioned MOST)) (λ s hs. gives_bind (bodied MOST) (λ b hb. gives_bind (gives_tok G.END_PROGRAM) (λ _ _.
      gives_pure _ (record { named = hi; sections = hs; body = hb }))))))

  pou_shaped : Gives P (pou MOST) (IsPou P)
  unfolding pou
  pou_shaped = gives_choose G.FUNCTION function_shaped (gives_choose G.FUNCTION_BLOCK block_shaped program_shaped)

  -- ---- configurations

  abbrev IsTaskName : Task → Type 0
  IsTaskName t = IsNamed P t.name

  abbrev IsInstName : Inst → Type 0
  IsInstName i = IsNamed P i.name

  tasked : Gives P task IsTaskName
  unfolding task
  tasked = gives_bind (gives_tok G.TASK) (λ _ _. gives_bind named (λ n hn. gives_bind (gives_tok G.LPAREN) (λ _ _. gives_bind (gives_any interval) (λ i _.
      gives_bind (gives_tok G.COMMA) (λ _ _. gives_bind (gives_any priority) (λ p _. gives_bind (gives_tok G.RPAREN) (λ _ _. gives_bind (gives_tok G.SEMI) (λ _ _. gives_pure _ hn))))))))

  next_tasked : (l : List Task) → Every IsTaskName l → Gives P (next_task l) (Every IsTaskName)
  unfolding next_task
  next_tasked l hl = gives_bind tasked (λ t ht. gives_pure _ (every_both IsTaskName l (t ∷ []) hl (ht, tt)))

  instanced : Gives P inst IsInstName
  unfolding inst
  instanced = gives_bind (gives_tok G.PROGRAM) (λ _ _. gives_bind named (λ n hn. gives_bind (gives_any with_if_any) (λ t _.
      gives_bind (gives_tok G.COLON) (λ _ _. gives_bind named (λ p _. gives_bind (gives_tok G.SEMI) (λ _ _. gives_pure _ hn))))))

  next_instanced : (l : List Inst) → Every IsInstName l → Gives P (next_inst l) (Every IsInstName)
  unfolding next_inst
  next_instanced l hl = gives_bind instanced (λ i hi. gives_pure _ (every_both IsInstName l (i ∷ []) hl (hi, tt)))

  resource_shaped : (n : ℕ) → Gives P (resource n) (IsResource P)
  unfolding resource
  resource_shaped n = gives_bind (gives_tok G.RESOURCE) (λ _ _. gives_bind named (λ r hr. gives_bind (gives_tok G.ON) (λ _ _. gives_bind named (λ o _.
      gives_bind (gives_many G.VAR_GLOBAL [] tt (globals_sectioned n)) (λ g hg. gives_bind (gives_many G.TASK [] tt next_tasked) (λ t ht. gives_bind instanced (λ i hi.
      gives_bind (gives_many G.PROGRAM (i ∷ []) (hi, tt) next_instanced) (λ l hl. gives_bind (gives_tok G.END_RESOURCE) (λ _ _.
      gives_pure _ (record { named = hr; globals = hg; tasks = ht; insts = hl }))))))))))

  next_resource_shaped : (n : ℕ) (l : List Resource) → Every (IsResource P) l → Gives P (next_resource n l) (Every (IsResource P))
  unfolding next_resource
  next_resource_shaped n l hl = gives_bind (resource_shaped n) (λ r hr. gives_pure _ (every_both (IsResource P) l (r ∷ []) hl (hr, tt)))

  config_shaped : (n : ℕ) → Gives P (config n) (IsConfig P)
  unfolding config
  config_shaped n = gives_bind (gives_tok G.CONFIGURATION) (λ _ _. gives_bind named (λ c hc. gives_bind (gives_many G.VAR_GLOBAL [] tt (globals_sectioned n)) (λ g hg.
      gives_bind (resource_shaped n) (λ r hr. gives_bind (gives_many G.RESOURCE (r ∷ []) (hr, tt) (next_resource_shaped n)) (λ l hl. gives_bind (gives_tok G.END_CONFIGURATION) (λ _ _.
      gives_pure _ (record { named = hc; globals = hg; resources = hl })))))))

  -- ---- sources

  next_shaped : (u : Source) → IsShaped P u → Gives P (next_declaration MOST u) (IsShaped P)
  unfolding next_declaration next_types next_config next_pou
  next_shaped u hu = gives_choose G.TYPE (gives_bind (gives_any (types MOST u.types)) (λ t _. gives_pure _ (record { pous = hu.pous; configs = hu.configs })))
      (gives_choose G.CONFIGURATION
      (gives_bind (config_shaped MOST) (λ c hc. gives_pure _ (record { pous = hu.pous; configs = every_both (IsConfig P) u.configs (c ∷ []) hu.configs (hc, tt) })))
      (gives_bind pou_shaped (λ p hp. gives_pure _ (record { pous = every_both (IsPou P) u.pous (p ∷ []) hu.pous (hp, tt); configs = hu.configs }))))

  sourced : Gives P (source MOST) (IsShaped P)
  unfolding source
  sourced = gives_many G.DECLARATION nothing (record { pous = tt; configs = tt }) next_shaped

-- what is accepted of tokens with a property
pub shaped_accepted : (P : Token → Type 0) (s : List Token) (u : Source) → EveryToken P s → IsAccepted s u → IsShaped P u
shaped_accepted P s u h k = (sourced P).gives k.tokens u (every_parts P k.tokens (k.last ∷ []) (subst (EveryToken P) k.all h)).0 k.spells
