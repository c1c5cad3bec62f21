-- A source declares fewer variables than it has tokens.
use Rattle.std.proofs.Common.{ℕ, ◌+◌, ◌≤◌, ◌<◌, Bool, List, [], ◌∷◌, ◌++◌, length, ap, length-append, arith}
use Rattle.std.specs.List.{flat_map}
use Rattle.std.proofs.lemmas.Grind.{flat_map-append}
use Rattle.plc_base.specs.declared.refusal.Place.{Place}
use Rattle.plc_tokens.specs.declared.token.Token.{Token}
use Rattle.plc_tree.specs.declared.tree.Id.{Id}
use Rattle.plc_tree.specs.declared.tree.Unit.{Unit as Source}
use Rattle.plc_tree.specs.declared.tree.Pou.{Pou}
use Rattle.plc_tree.specs.declared.tree.Section.{Section}
use Rattle.plc_tree.specs.declared.tree.SectionKind.{SectionKind}
use Rattle.plc_tree.specs.declared.tree.Decl.{Decl}
use Rattle.phrase.specs.Piece.{tok}
use Rattle.phrase.proofs.Counts.{Counts, counts_none, counts_pure, counts_tok, counts_bind, counts_many, counts_choose}
use Rattle.plc_tokens.specs.Sets as G
use Rattle.type_parse.specs.Names.{name, next_name, more_names, tname}
use Rattle.type_parse.specs.Types.{spec, types}
use Rattle.type_parse.specs.Depth.{init_if_any}
use Rattle.decl_parse.specs.Sections.{vdecl_rest, vdecl, ldecl_rest, any_decl, next_vdecl, next_any_decl, plain_rest, located_rest, constant_rest, constant_or_not, retained_rest, retained_or_not, own_rest, located_constant_rest, any_rest, function_input, function_own, function_section, input_output, in_out, external, block_own, block_section, program_own, program_section, next_function_section, next_block_section, next_program_section}
use Rattle.decl_parse.specs.Units.{body, function, block, program, pou}
use Rattle.decl_parse.specs.Configurations.{config}
use Rattle.decl_parse.specs.Sources.{nothing, next_types, next_config, next_pou, next_declaration, source}
use Rattle.decl_parse.specs.Parsed.{MOST, IsAccepted}

abbrev decl_names : Decl → List Id
decl_names d = d.names

abbrev section_names : Section → List Id
section_names s = flat_map decl_names s.decls

abbrev sections_names : List Section → List Id
sections_names l = flat_map section_names l

abbrev pou_names : Pou → List Id
pou_names p = sections_names p.sections

-- the variables of all program organisation units
abbrev pub variable_names : Source → List Id
variable_names u = flat_map pou_names u.pous

-- one more of a list
one_more : {A : Type 0} (f : A → List Id) (l : List A) (x : A) (n : ℕ) → length (flat_map f l) + length (f x) ≤ n → length (flat_map f (l ++ x ∷ [])) ≤ n
one_more f l x n h = omega (arith, h, ap length (flat_map-append f l (x ∷ [])), length-append (flat_map f l) (f x ++ []), length-append (f x) [])

-- ---- names and declarations

module _ (n : ℕ) where
  one_name : (m : ℕ) → Counts m name (λ _. m + 1)
  unfolding name
  one_name m = counts_bind (counts_tok G.NAME) (λ t. counts_pure _ (omega arith))

  few_names : (m : ℕ) (i : Id) → Counts (m + 1) (more_names i) (λ l. m + length l)
  unfolding more_names next_name
  few_names m i = counts_many G.COMMA (i ∷ []) (omega arith) (λ l. counts_bind (counts_none (tok G.COMMA)) (λ _. counts_bind (one_name (m + length l)) (λ y.
      counts_pure _ (omega (arith, length-append l (y ∷ []))))))

  few_plain : (m : ℕ) (i : Id) → Counts (m + 1) (vdecl_rest n i) (λ d. m + length d.names)
  unfolding vdecl_rest
  few_plain m i = counts_bind (few_names m i) (λ l. counts_bind (counts_none (tok G.COLON)) (λ _. counts_bind (counts_none spec) (λ _.
      counts_bind (counts_none (init_if_any n)) (λ _. counts_bind (counts_none (tok G.SEMI)) (λ _. counts_pure _ (omega arith))))))

  few_located : (m : ℕ) (i : Id) → Counts (m + 1) (ldecl_rest n i) (λ d. m + length d.names)
  unfolding ldecl_rest
  few_located m i = counts_bind (counts_none (tok G.AT)) (λ _. counts_bind (counts_none (tok G.ADDRESS)) (λ _. counts_bind (counts_none (tok G.COLON)) (λ _. counts_bind (counts_none tname) (λ _.
      counts_bind (counts_none (init_if_any n)) (λ _. counts_bind (counts_none (tok G.SEMI)) (λ _. counts_pure _ (omega arith)))))))

  few_next : (m : ℕ) (l : List Decl) → Counts (m + length (flat_map decl_names l)) (next_vdecl n l) (λ k. m + length (flat_map decl_names k))
  unfolding next_vdecl vdecl
  few_next m l = counts_bind (counts_bind (one_name _) (few_plain (m + length (flat_map decl_names l)))) (λ d. counts_pure _ (longer l d))
    where
      longer : (l : List Decl) (d : Decl) → m + length (flat_map decl_names (l ++ d ∷ [])) ≤ m + length (flat_map decl_names l) + length d.names
      longer l d = omega (arith, one_more decl_names l d (length (flat_map decl_names l) + length d.names) (omega arith))

  few_next_any : (m : ℕ) (l : List Decl) → Counts (m + length (flat_map decl_names l)) (next_any_decl n l) (λ k. m + length (flat_map decl_names k))
  unfolding next_any_decl any_decl
  few_next_any m l = counts_bind (counts_bind (one_name _) (λ i. counts_choose G.AT (few_located (m + length (flat_map decl_names l)) i) (few_plain (m + length (flat_map decl_names l)) i))) (λ d. counts_pure _ (longer l d))
    where
      longer : (l : List Decl) (d : Decl) → m + length (flat_map decl_names (l ++ d ∷ [])) ≤ m + length (flat_map decl_names l) + length d.names
      longer l d = omega (arith, one_more decl_names l d (length (flat_map decl_names l) + length d.names) (omega arith))

  -- ---- sections

  module _ (m : ℕ) where
    abbrev more : Section → ℕ
    more s = m + length (section_names s)

    module _ (k : SectionKind) where
      few_plain_rest : (constant keep : Bool) (at mark : Place) → Counts m (plain_rest n k constant keep at mark) more
      unfolding plain_rest
      few_plain_rest constant keep at mark = counts_bind (counts_many G.NAME [] (omega arith) (few_next m)) (λ l. counts_bind (counts_none (tok G.END_VAR)) (λ _. counts_pure _ (omega arith)))

      few_located_rest : (constant : Bool) (at mark : Place) → Counts m (located_rest n k constant at mark) more
      unfolding located_rest
      few_located_rest constant at mark = counts_bind (counts_many G.NAME [] (omega arith) (few_next_any m)) (λ l. counts_bind (counts_none (tok G.END_VAR)) (λ _. counts_pure _ (omega arith)))

      few_constant : (at : Place) → Counts m (constant_rest n k at) more
      unfolding constant_rest
      few_constant at = counts_bind (counts_none (tok G.CONSTANT)) (λ _. few_plain_rest _ _ at _)

      few_constant_or_not : (at : Place) → Counts m (constant_or_not n k at) more
      unfolding constant_or_not
      few_constant_or_not at = counts_choose G.CONSTANT (few_constant at) (few_plain_rest _ _ at at)

      few_retained : (at : Place) → Counts m (retained_rest n k at) more
      unfolding retained_rest
      few_retained at = counts_bind (counts_none (tok G.RETENTION)) (λ _. few_plain_rest _ _ at _)

      few_retained_or_not : (at : Place) → Counts m (retained_or_not n k at) more
      unfolding retained_or_not
      few_retained_or_not at = counts_choose G.RETENTION (few_retained at) (few_plain_rest _ _ at at)

      few_own : (at : Place) → Counts m (own_rest n k at) more
      unfolding own_rest
      few_own at = counts_choose G.CONSTANT (few_constant at) (few_retained_or_not at)

      few_any : (at : Place) → Counts m (any_rest n k at) more
      unfolding any_rest located_constant_rest
      few_any at = counts_choose G.CONSTANT (counts_bind (counts_none (tok G.CONSTANT)) (λ _. few_located_rest _ at _)) (counts_choose G.RETENTION (few_retained at) (few_located_rest _ at at))

    few_input_output : Counts m (input_output n) more
    unfolding input_output
    few_input_output = counts_bind (counts_none (tok G.INPUT_OUTPUT)) (λ t. few_retained_or_not _ t.place)

    few_in_out : Counts m (in_out n) more
    unfolding in_out
    few_in_out = counts_bind (counts_none (tok G.VAR_IN_OUT)) (λ t. few_plain_rest _ _ _ t.place t.place)

    few_external : Counts m (external n) more
    unfolding external
    few_external = counts_bind (counts_none (tok G.VAR_EXTERNAL)) (λ t. few_constant_or_not _ t.place)

    few_function_section : Counts m (function_section n) more
    unfolding function_section function_input function_own
    few_function_section = counts_choose G.VAR_INPUT (counts_bind (counts_none (tok G.VAR_INPUT)) (λ t. few_plain_rest _ _ _ t.place t.place)) (counts_bind (counts_none (tok G.VAR)) (λ t. few_constant_or_not _ t.place))

    few_block_section : Counts m (block_section n) more
    unfolding block_section block_own
    few_block_section = counts_choose G.INPUT_OUTPUT few_input_output (counts_choose G.VAR_IN_OUT few_in_out (counts_choose G.VAR_EXTERNAL few_external (counts_bind (counts_none (tok G.VAR)) (λ t. few_own _ t.place))))

    few_program_section : Counts m (program_section n) more
    unfolding program_section program_own
    few_program_section = counts_choose G.INPUT_OUTPUT few_input_output (counts_choose G.VAR_IN_OUT few_in_out (counts_choose G.VAR_EXTERNAL few_external (counts_bind (counts_none (tok G.VAR)) (λ t. few_any _ t.place))))

  -- ---- program organisation units, behind m names

  longer_sections : (m : ℕ) (l : List Section) (s : Section) → m + length (sections_names (l ++ s ∷ [])) ≤ m + length (sections_names l) + length (section_names s)
  longer_sections m l s = omega (arith, one_more section_names l s (length (sections_names l) + length (section_names s)) (omega arith))

  abbrev more_pou : ℕ → Pou → ℕ
  more_pou m p = m + length (pou_names p)

  few_function : (m : ℕ) → Counts m (function n) (more_pou m)
  unfolding function next_function_section
  few_function m = counts_bind (counts_none (tok G.FUNCTION)) (λ _. counts_bind (counts_none name) (λ _. counts_bind (counts_none (tok G.COLON)) (λ _. counts_bind (counts_none tname) (λ _.
      counts_bind (counts_many G.FUNCTION_SECTION [] (omega arith) (λ l. counts_bind (few_function_section (m + length (sections_names l))) (λ s. counts_pure _ (longer_sections m l s)))) (λ l.
      counts_bind (counts_none (body n)) (λ _. counts_bind (counts_none (tok G.END_FUNCTION)) (λ _. counts_pure _ (omega arith))))))))

  few_block : (m : ℕ) → Counts m (block n) (more_pou m)
  unfolding block next_block_section
  few_block m = counts_bind (counts_none (tok G.FUNCTION_BLOCK)) (λ _. counts_bind (counts_none name) (λ _.
      counts_bind (counts_many G.UNIT_SECTION [] (omega arith) (λ l. counts_bind (few_block_section (m + length (sections_names l))) (λ s. counts_pure _ (longer_sections m l s)))) (λ l.
      counts_bind (counts_none (body n)) (λ _. counts_bind (counts_none (tok G.END_FUNCTION_BLOCK)) (λ _. counts_pure _ (omega arith))))))

  few_program : (m : ℕ) → Counts m (program n) (more_pou m)
  unfolding program next_program_section
  few_program m = counts_bind (counts_none (tok G.PROGRAM)) (λ _. counts_bind (counts_none name) (λ _.
      counts_bind (counts_many G.UNIT_SECTION [] (omega arith) (λ l. counts_bind (few_program_section (m + length (sections_names l))) (λ s. counts_pure _ (longer_sections m l s)))) (λ l.
      counts_bind (counts_none (body n)) (λ _. counts_bind (counts_none (tok G.END_PROGRAM)) (λ _. counts_pure _ (omega arith))))))

  few_pou : (m : ℕ) → Counts m (pou n) (more_pou m)
  unfolding pou
  few_pou m = counts_choose G.FUNCTION (few_function m) (counts_choose G.FUNCTION_BLOCK (few_block m) (few_program m))

  -- ---- sources

  few_next_declaration : (u : Source) → Counts (length (variable_names u)) (next_declaration n u) (λ v. length (variable_names v))
  unfolding next_declaration next_types next_config next_pou
  few_next_declaration u = counts_choose G.TYPE (counts_bind (counts_none (types n u.types)) (λ _. counts_pure _ (omega arith)))
      (counts_choose G.CONFIGURATION (counts_bind (counts_none (config n)) (λ _. counts_pure _ (omega arith)))
      (counts_bind (few_pou (length (variable_names u))) (λ p. counts_pure _ (one_more pou_names u.pous p (length (variable_names u) + length (pou_names p)) (omega arith)))))

  few_source : Counts 0 (source n) (λ u. length (variable_names u))
  unfolding source
  few_source = counts_many G.DECLARATION nothing (omega arith) few_next_declaration

pub few_accepted : (s : List Token) (u : Source) → IsAccepted s u → length (variable_names u) < length s
few_accepted s u k = omega (arith, (few_source MOST).few k.tokens u k.spells, ap length k.all, length-append k.tokens (k.last ∷ []))
