-- The laws of each production of names and types.
use Rattle.std.proofs.Common.{ℕ, true, false, List, [], ◌∷◌, ◌++◌, None, refl}
use Rattle.plc_tree.specs.declared.tree.Bounds.{Bounds}
use Rattle.plc_tree.specs.declared.tree.Id.{Id}
use Rattle.plc_tree.specs.declared.tree.Member.{Member}
use Rattle.plc_tree.specs.declared.tree.Spec.TheVariants as in_spec
use Rattle.plc_tree.specs.declared.tree.TypeDef.{TypeDef}
use Rattle.plc_tokens.specs.declared.sort.Seen.{Seen}
use Rattle.plc_tokens.specs.Sets as G
use Rattle.plc_tokens.proofs.Known.{is}
use Rattle.phrase.proofs.Rules.{Laws, pureL, tokL, bindL, bind_anyL, chooseL, manyL, as_listed}
use Rattle.st_expr.proofs.IntegerLaws.{sint_laws}
use Rattle.type_parse.specs.Names.{id_of, name, next_name, more_names, names, tname}
use Rattle.type_parse.specs.Types.{bounds, third_bounds, third_if_any, second_bounds, second_if_any, dimensions, array, limits, limits_if_any, integer_type, other_type, spec, default, default_if_any, enumeration, field, next_field, structure, renamed, meaning, definition, next_definition, types}
use Rattle.type_parse.proofs.DepthLaws.{init_if_any_laws}

-- what may follow a type that is named, and its initial value
abbrev pub more_renamed : List Seen
more_renamed = G.ASSIGN ++ G.HASH ++ G.LPAREN

module _ (d : ℕ) where
  -- ---- names

  pub name_laws : Laws true d false true G.NAME [] (λ _. name)
  unfolding name
  name_laws = bindL (tokL (is G.NAME refl)) (λ t. pureL _) refl

  pub next_name_laws : (l : List Id) → Laws true d false true G.COMMA [] (λ _. next_name l)
  unfolding next_name
  next_name_laws l = bindL (tokL (is G.COMMA refl)) (λ _. bindL name_laws (λ n. pureL _) refl) refl

  pub more_names_laws : (n : Id) → Laws true d true true G.COMMA G.COMMA (λ _. more_names n)
  unfolding more_names
  more_names_laws n = manyL (n ∷ []) next_name_laws refl

  pub names_laws : Laws true d false true G.NAME G.COMMA (λ _. names)
  unfolding names
  names_laws = bindL name_laws more_names_laws refl

  pub tname_laws : Laws true d false true G.TYPE_NAME [] (λ _. tname)
  unfolding tname
  tname_laws = bindL (tokL (is G.TYPE_NAME refl)) (λ t. pureL _) refl

  -- ---- subranges and arrays

  pub bounds_laws : Laws true d false true G.SIGNED [] (λ _. bounds)
  unfolding bounds
  bounds_laws = bindL (sint_laws d true) (λ low. bindL (tokL (is G.RANGE refl)) (λ _. bindL (sint_laws d true) (λ high. pureL _) refl) refl) refl

  third_bounds_laws : (a b : Bounds) → Laws true d false true G.COMMA [] (λ _. third_bounds a b)
  unfolding third_bounds
  third_bounds_laws a b = bindL (tokL (is G.COMMA refl)) (λ _. bindL bounds_laws (λ c. pureL _) refl) refl

  third_if_any_laws : (a b : Bounds) → Laws true d true true G.COMMA G.COMMA (λ _. third_if_any a b)
  unfolding third_if_any
  third_if_any_laws a b = as_listed G.COMMA G.COMMA (chooseL (third_bounds_laws a b) (pureL (a ∷ b ∷ [])) refl) refl refl refl

  second_bounds_laws : (a : Bounds) → Laws true d false true G.COMMA G.COMMA (λ _. second_bounds a)
  unfolding second_bounds
  second_bounds_laws a = bindL (tokL (is G.COMMA refl)) (λ _. bindL bounds_laws (third_if_any_laws a) refl) refl

  second_if_any_laws : (a : Bounds) → Laws true d true true G.COMMA G.COMMA (λ _. second_if_any a)
  unfolding second_if_any
  second_if_any_laws a = as_listed G.COMMA G.COMMA (chooseL (second_bounds_laws a) (pureL (a ∷ [])) refl) refl refl refl

  pub dimensions_laws : Laws true d false true G.SIGNED G.COMMA (λ _. dimensions)
  unfolding dimensions
  dimensions_laws = bindL bounds_laws second_if_any_laws refl

  pub array_laws : Laws true d false true G.ARRAY [] (λ _. array)
  unfolding array
  array_laws = bindL (tokL (is G.ARRAY refl)) (λ t. bindL (tokL (is G.LBRACKET refl)) (λ b. bindL dimensions_laws (λ l.
      bindL (tokL (is G.RBRACKET refl)) (λ _. bindL (tokL (is G.OF refl)) (λ _. bindL tname_laws (λ e. pureL _) refl) refl) refl) refl) refl) refl

  pub limits_laws : (base : Id) → Laws true d false true G.LPAREN [] (λ _. limits base)
  unfolding limits
  limits_laws base = bindL (tokL (is G.LPAREN refl)) (λ _. bindL bounds_laws (λ b. bindL (tokL (is G.RPAREN refl)) (λ _. pureL _) refl) refl) refl

  limits_if_any_laws : (base : Id) → Laws true d true true G.LPAREN G.LPAREN (λ _. limits_if_any base)
  unfolding limits_if_any
  limits_if_any_laws base = as_listed G.LPAREN G.LPAREN (chooseL (limits_laws base) (pureL (in_spec.Named base)) refl) refl refl refl

  pub integer_type_laws : Laws true d false true G.INTEGER_TYPE G.LPAREN (λ _. integer_type)
  unfolding integer_type
  integer_type_laws = bindL (tokL (is G.INTEGER_TYPE refl)) (λ t. limits_if_any_laws (id_of t)) refl

  pub other_type_laws : Laws true d false true G.OTHER_TYPE [] (λ _. other_type)
  unfolding other_type
  other_type_laws = bindL (tokL (is G.OTHER_TYPE refl)) (λ t. pureL _) refl

  pub spec_laws : Laws true d false true G.FIRST_SPEC G.LPAREN (λ _. spec)
  unfolding spec
  spec_laws = as_listed G.FIRST_SPEC G.LPAREN (chooseL array_laws (chooseL integer_type_laws other_type_laws refl) refl) refl refl refl

  -- ---- enumerations

  pub default_laws : Laws true d false true G.ASSIGN [] (λ _. default)
  unfolding default
  default_laws = bindL (tokL (is G.ASSIGN refl)) (λ _. bindL name_laws (λ i. pureL _) refl) refl

  pub default_if_any_laws : Laws true d true true G.ASSIGN G.ASSIGN (λ _. default_if_any)
  unfolding default_if_any
  default_if_any_laws = as_listed G.ASSIGN G.ASSIGN (chooseL default_laws (pureL None) refl) refl refl refl

  pub enumeration_laws : Laws true d false true G.LPAREN G.ASSIGN (λ _. enumeration)
  unfolding enumeration
  enumeration_laws = bindL (tokL (is G.LPAREN refl)) (λ _. bindL names_laws (λ l. bindL (tokL (is G.RPAREN refl)) (λ _. bind_anyL default_if_any_laws (λ i. pureL _) refl) refl) refl) refl

  -- ---- structures

  pub field_laws : Laws true d false true G.NAME [] (λ e. field e)
  unfolding field
  field_laws = bindL name_laws (λ f. bindL (tokL (is G.COLON refl)) (λ _. bindL spec_laws (λ s. bind_anyL (init_if_any_laws d) (λ i. bindL (tokL (is G.SEMI refl)) (λ _. pureL _) refl) refl) refl) refl) refl

  pub next_field_laws : (l : List Member) → Laws true d false true G.NAME [] (λ e. next_field e l)
  unfolding next_field
  next_field_laws l = bindL field_laws (λ f. pureL _) refl

  pub structure_laws : Laws true d false true G.STRUCT [] (λ e. structure e)
  unfolding structure
  structure_laws = bindL (tokL (is G.STRUCT refl)) (λ _. bindL field_laws (λ f. bind_anyL (manyL (f ∷ []) next_field_laws refl) (λ l. bindL (tokL (is G.END_STRUCT refl)) (λ _. pureL _) refl) refl) refl) refl

  -- ---- declarations of types

  pub renamed_laws : Laws true d false true G.FIRST_SPEC more_renamed (λ e. renamed e)
  unfolding renamed
  renamed_laws = as_listed G.FIRST_SPEC more_renamed (bindL spec_laws (λ s. bind_anyL (init_if_any_laws d) (λ i. pureL _) refl) refl) refl refl refl

  pub meaning_laws : Laws true d false true (G.LPAREN ++ G.STRUCT ++ G.FIRST_SPEC) more_renamed (λ e. meaning e)
  unfolding meaning
  meaning_laws = as_listed (G.LPAREN ++ G.STRUCT ++ G.FIRST_SPEC) more_renamed (chooseL enumeration_laws (chooseL structure_laws renamed_laws refl) refl) refl refl refl

  pub definition_laws : Laws true d false true G.NAME more_renamed (λ e. definition e)
  unfolding definition
  definition_laws = bindL name_laws (λ i. bindL (tokL (is G.COLON refl)) (λ _. bindL meaning_laws (λ w. pureL _) refl) refl) refl

  pub next_definition_laws : (l : List TypeDef) → Laws true d false true G.NAME [] (λ e. next_definition e l)
  unfolding next_definition
  next_definition_laws l = bindL definition_laws (λ t. bindL (tokL (is G.SEMI refl)) (λ _. pureL _) refl) refl

  pub types_laws : (l : List TypeDef) → Laws true d false true G.TYPE [] (λ e. types e l)
  unfolding types
  types_laws l = bindL (tokL (is G.TYPE refl)) (λ _. bindL (next_definition_laws l) (λ f. bind_anyL (manyL f next_definition_laws refl) (λ m. bindL (tokL (is G.END_TYPE refl)) (λ _. pureL _) refl) refl) refl) refl
