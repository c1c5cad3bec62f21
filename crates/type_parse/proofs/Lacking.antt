-- No token of names, types and initial values ends a list or is left out.
use Rattle.std.proofs.Common.{ℕ, zero, suc, false, List, [], ◌∷◌, refl}
use Rattle.plc_tokens.specs.declared.token.Token.{Token}
use Rattle.plc_tree.specs.declared.tree.Bounds.{Bounds}
use Rattle.plc_tree.specs.declared.tree.Id.{Id}
use Rattle.plc_tree.specs.declared.tree.InitPart.{InitPart}
use Rattle.plc_tree.specs.declared.tree.Item.{Item}
use Rattle.plc_tree.specs.declared.tree.Member.{Member}
use Rattle.plc_tree.specs.declared.tree.TypeDef.{TypeDef}
use Rattle.plc_tokens.specs.Sets as G
use Rattle.plc_tokens.proofs.Lacks.{Lacks, lacks_pure, lacks_tok, lacks_bind, lacks_many, lacks_choose, lacks_choose_two, lacks_opens, lacks_none, lacks_also}
use Rattle.st_expr.proofs.IntegerLaws.{sint_lacks}
use Rattle.type_parse.specs.Names.{name, next_name, more_names, names, tname}
use Rattle.type_parse.specs.Inner.{Inner}
use Rattle.type_parse.specs.Initials.{number, negative, truth, span, literal, owned, owned_or_alone, value, next_item, list_rest, part, next_part, struct_rest, init, some_init, none_or_init, many_rest, counted, one_init, item}
use Rattle.type_parse.specs.Depth.{inner, assigned, init_if_any}
use Rattle.type_parse.specs.Types.{bounds, third_bounds, third_if_any, second_bounds, second_if_any, dimensions, array, limits, limits_if_any, integer_type, other_type, spec, default, default_if_any, enumeration, field, next_field, structure, renamed, meaning, definition, next_definition, types}

-- ---- names

pub name_lacks : Lacks name
unfolding name
name_lacks = lacks_bind (lacks_tok false G.NAME refl) (λ _. lacks_pure _)

pub more_names_lacks : (n : Id) → Lacks (more_names n)
unfolding more_names next_name
more_names_lacks n = lacks_many G.COMMA (n ∷ []) (λ l. lacks_bind (lacks_tok false G.COMMA refl) (λ _. lacks_bind name_lacks (λ _. lacks_pure _)))

pub names_lacks : Lacks names
unfolding names
names_lacks = lacks_bind name_lacks more_names_lacks

pub tname_lacks : Lacks tname
unfolding tname
tname_lacks = lacks_bind (lacks_tok false G.TYPE_NAME refl) (λ _. lacks_pure _)

-- ---- literals and values

negative_lacks : Lacks negative
unfolding negative
negative_lacks = lacks_bind (lacks_tok false G.MINUS refl) (λ _. lacks_bind (lacks_tok false G.INTEGER refl) (λ _. lacks_pure _))

literal_lacks : Lacks literal
unfolding literal number truth span
literal_lacks =
    lacks_choose G.MINUS negative_lacks
    (lacks_choose G.NUMBER (lacks_bind (lacks_tok false G.NUMBER refl) (λ _. lacks_pure _))
    (lacks_choose G.TRUTH (lacks_bind (lacks_tok false G.TRUTH refl) (λ _. lacks_pure _))
    (lacks_bind (lacks_tok false G.SPAN refl) (λ _. lacks_pure _))))

owned_lacks : (t : Token) → Lacks (owned_or_alone t)
unfolding owned_or_alone owned
owned_lacks t = lacks_choose G.HASH (lacks_bind (lacks_tok false G.HASH refl) (λ _. lacks_bind (lacks_tok false G.NAME refl) (λ _. lacks_pure _))) (lacks_pure _)

value_lacks : Lacks value
unfolding value
value_lacks = lacks_bind (lacks_tok false G.NAME refl) owned_lacks

-- ---- initial values

record InnerLacks (d : Inner) : Type 0 where
  init : Lacks d.init
  item : Lacks d.item

module _ (d : Inner) (b : InnerLacks d) where
  next_item_lacks : (l : List Item) → Lacks (next_item d l)
  unfolding next_item
  next_item_lacks l = lacks_bind (lacks_tok false G.COMMA refl) (λ _. lacks_bind b.item (λ _. lacks_pure _))

  list_lacks : (t : Token) → Lacks (list_rest d t)
  unfolding list_rest
  list_lacks t = lacks_bind b.item (λ i. lacks_bind (lacks_many G.COMMA (i ∷ []) next_item_lacks) (λ _. lacks_bind (lacks_tok false G.RBRACKET refl) (λ _. lacks_pure _)))

  part_lacks : Lacks (part d)
  unfolding part
  part_lacks = lacks_bind (lacks_tok false G.NAME refl) (λ _. lacks_bind (lacks_tok false G.ASSIGN refl) (λ _. lacks_bind b.init (λ _. lacks_pure _)))

  next_part_lacks : (l : List InitPart) → Lacks (next_part d l)
  unfolding next_part
  next_part_lacks l = lacks_bind (lacks_tok false G.COMMA refl) (λ _. lacks_bind part_lacks (λ _. lacks_pure _))

  struct_lacks : (t : Token) → Lacks (struct_rest d t)
  unfolding struct_rest
  struct_lacks t = lacks_bind part_lacks (λ p. lacks_bind (lacks_many G.COMMA (p ∷ []) next_part_lacks) (λ _. lacks_bind (lacks_tok false G.RPAREN refl) (λ _. lacks_pure _)))

  init_lacks : (n : ℕ) → Lacks (init n d)
  unfolding init
  init_lacks n =
      lacks_choose G.LBRACKET (lacks_opens false G.LBRACKET refl list_lacks)
      (lacks_choose G.LPAREN (lacks_opens false G.LPAREN refl struct_lacks)
      (lacks_choose G.NAME value_lacks literal_lacks))

  none_or_init_lacks : Lacks (none_or_init d)
  unfolding none_or_init some_init
  none_or_init_lacks = lacks_choose G.FIRST_INIT (lacks_bind b.init (λ _. lacks_pure _)) (lacks_pure _)

  many_lacks : (t u : Token) → Lacks (many_rest d t u)
  unfolding many_rest
  many_lacks t u = lacks_bind none_or_init_lacks (λ _. lacks_bind (lacks_tok false G.RPAREN refl) (λ _. lacks_pure _))

  counted_lacks : (n : ℕ) (t : Token) → Lacks (counted n d t)
  unfolding counted
  counted_lacks n t = lacks_opens false G.LPAREN refl (many_lacks t)

  item_lacks : (n : ℕ) → Lacks (item n d)
  unfolding item one_init
  item_lacks n = lacks_choose_two G.INTEGER G.LPAREN (lacks_bind (lacks_tok false G.INTEGER refl) (counted_lacks n)) (lacks_bind (init_lacks n) (λ _. lacks_pure _))

inner_lacks : (n : ℕ) → InnerLacks (inner n)
unfolding inner
inner_lacks zero = record { init = lacks_none _; item = lacks_none _ }
inner_lacks (suc n) = record {
  init = lacks_also (inner_lacks n).init (init_lacks (inner n) (inner_lacks n) n);
  item = lacks_also (inner_lacks n).item (item_lacks (inner n) (inner_lacks n) n);
}

pub init_if_any_lacks : (n : ℕ) → Lacks (init_if_any n)
unfolding init_if_any assigned
init_if_any_lacks n = lacks_choose G.ASSIGN (lacks_bind (lacks_tok false G.ASSIGN refl) (λ _. lacks_bind (init_lacks (inner n) (inner_lacks n) n) (λ _. lacks_pure _))) (lacks_pure _)

-- ---- types

bounds_lacks : Lacks bounds
unfolding bounds
bounds_lacks = lacks_bind sint_lacks (λ _. lacks_bind (lacks_tok false G.RANGE refl) (λ _. lacks_bind sint_lacks (λ _. lacks_pure _)))

third_lacks : (a b : Bounds) → Lacks (third_if_any a b)
unfolding third_if_any third_bounds
third_lacks a b = lacks_choose G.COMMA (lacks_bind (lacks_tok false G.COMMA refl) (λ _. lacks_bind bounds_lacks (λ _. lacks_pure _))) (lacks_pure _)

second_lacks : (a : Bounds) → Lacks (second_if_any a)
unfolding second_if_any second_bounds
second_lacks a = lacks_choose G.COMMA (lacks_bind (lacks_tok false G.COMMA refl) (λ _. lacks_bind bounds_lacks (third_lacks a))) (lacks_pure _)

array_lacks : Lacks array
unfolding array dimensions
array_lacks = lacks_bind (lacks_tok false G.ARRAY refl) (λ _. lacks_bind (lacks_tok false G.LBRACKET refl) (λ _. lacks_bind (lacks_bind bounds_lacks second_lacks) (λ _.
    lacks_bind (lacks_tok false G.RBRACKET refl) (λ _. lacks_bind (lacks_tok false G.OF refl) (λ _. lacks_bind tname_lacks (λ _. lacks_pure _))))))

limits_lacks : (base : Id) → Lacks (limits_if_any base)
unfolding limits_if_any limits
limits_lacks base = lacks_choose G.LPAREN (lacks_bind (lacks_tok false G.LPAREN refl) (λ _. lacks_bind bounds_lacks (λ _. lacks_bind (lacks_tok false G.RPAREN refl) (λ _. lacks_pure _)))) (lacks_pure _)

pub spec_lacks : Lacks spec
unfolding spec integer_type other_type
spec_lacks =
    lacks_choose G.ARRAY array_lacks
    (lacks_choose G.INTEGER_TYPE (lacks_bind (lacks_tok false G.INTEGER_TYPE refl) (λ _. limits_lacks _))
    (lacks_bind (lacks_tok false G.OTHER_TYPE refl) (λ _. lacks_pure _)))

enumeration_lacks : Lacks enumeration
unfolding enumeration default_if_any default
enumeration_lacks = lacks_bind (lacks_tok false G.LPAREN refl) (λ _. lacks_bind names_lacks (λ _. lacks_bind (lacks_tok false G.RPAREN refl) (λ _.
    lacks_bind (lacks_choose G.ASSIGN (lacks_bind (lacks_tok false G.ASSIGN refl) (λ _. lacks_bind name_lacks (λ _. lacks_pure _))) (lacks_pure _)) (λ _. lacks_pure _))))

module _ (n : ℕ) where
  field_lacks : Lacks (field n)
  unfolding field
  field_lacks = lacks_bind name_lacks (λ _. lacks_bind (lacks_tok false G.COLON refl) (λ _. lacks_bind spec_lacks (λ _. lacks_bind (init_if_any_lacks n) (λ _. lacks_bind (lacks_tok false G.SEMI refl) (λ _. lacks_pure _)))))

  next_field_lacks : (l : List Member) → Lacks (next_field n l)
  unfolding next_field
  next_field_lacks l = lacks_bind field_lacks (λ _. lacks_pure _)

  structure_lacks : Lacks (structure n)
  unfolding structure
  structure_lacks = lacks_bind (lacks_tok false G.STRUCT refl) (λ _. lacks_bind field_lacks (λ f. lacks_bind (lacks_many G.NAME (f ∷ []) next_field_lacks) (λ _. lacks_bind (lacks_tok false G.END_STRUCT refl) (λ _. lacks_pure _))))

  definition_lacks : Lacks (definition n)
  unfolding definition meaning renamed
  definition_lacks = lacks_bind name_lacks (λ _. lacks_bind (lacks_tok false G.COLON refl) (λ _. lacks_bind
      (lacks_choose G.LPAREN enumeration_lacks (lacks_choose G.STRUCT structure_lacks (lacks_bind spec_lacks (λ _. lacks_bind (init_if_any_lacks n) (λ _. lacks_pure _)))))
      (λ _. lacks_pure _)))

  next_definition_lacks : (l : List TypeDef) → Lacks (next_definition n l)
  unfolding next_definition
  next_definition_lacks l = lacks_bind definition_lacks (λ _. lacks_bind (lacks_tok false G.SEMI refl) (λ _. lacks_pure _))

  pub types_lacks : (l : List TypeDef) → Lacks (types n l)
  unfolding types
  types_lacks l = lacks_bind (lacks_tok false G.TYPE refl) (λ _. lacks_bind (next_definition_lacks l) (λ f. lacks_bind (lacks_many G.NAME f next_definition_lacks) (λ _. lacks_bind (lacks_tok false G.END_TYPE refl) (λ _. lacks_pure _))))
