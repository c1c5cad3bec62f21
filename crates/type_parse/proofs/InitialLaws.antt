-- The laws of the productions of initial values, given those of what stands under one more node.
use Rattle.std.proofs.Common.{◌≡◌, ℕ, Bool, true, false, nat_le, List, [], ◌∷◌, ◌++◌, None, refl, inl, inr}
use Rattle.plc_tokens.specs.declared.token.Token.{Token}
use Rattle.plc_tree.specs.declared.tree.Init.TheVariants as in_init
use Rattle.plc_tree.specs.declared.tree.InitPart.{InitPart}
use Rattle.plc_tree.specs.declared.tree.Item.{Item}
use Rattle.plc_tokens.specs.Sorts.{rank, sort}
use Rattle.plc_tokens.specs.Sets as G
use Rattle.plc_tokens.proofs.Known.{is}
use Rattle.phrase.specs.Piece.{has}
use Rattle.phrase.proofs.Rules.{Laws, pureL, tokL, bindL, bind_anyL, chooseL, manyL, opensL, as_listed, Avoids, avoids_tok, avoids_opens, avoids_choose, avoids_first, avoids_bindL}
use Rattle.phrase.proofs.Sets.{within}
use Rattle.type_parse.specs.Names.{id_of}
use Rattle.type_parse.specs.Inner.{Inner}
use Rattle.type_parse.specs.Initials.{number, negative, truth, span, literal, owned, owned_or_alone, value, next_item, list_rest, part, next_part, struct_rest, init, some_init, none_or_init, many_rest, counted, one_init, item}
use Rattle.type_parse.proofs.Below.{more_item, BelowInits}
use Rattle.type_parse.proofs.Nodes.{choose_nodeL}

-- ---- literals and values, in which no node opens

module _ (d : ℕ) (on : Bool) where
  pub number_laws : Laws on d false true G.NUMBER [] (λ _. number)
  unfolding number
  number_laws = bindL (tokL (is G.NUMBER refl)) (λ t. pureL _) refl

  pub negative_laws : Laws on d false true G.MINUS [] (λ _. negative)
  unfolding negative
  negative_laws = bindL (tokL (is G.MINUS refl)) (λ t. bindL (tokL (is G.INTEGER refl)) (λ u. pureL _) refl) refl

  pub truth_laws : Laws on d false true G.TRUTH [] (λ _. truth)
  unfolding truth
  truth_laws = bindL (tokL (is G.TRUTH refl)) (λ t. pureL _) refl

  pub span_laws : Laws on d false true G.SPAN [] (λ _. span)
  unfolding span
  span_laws = bindL (tokL (is G.SPAN refl)) (λ t. pureL _) refl

  pub literal_laws : Laws on d false true (G.MINUS ++ G.NUMBER ++ G.TRUTH ++ G.SPAN) [] (λ _. literal)
  unfolding literal
  literal_laws = chooseL negative_laws (chooseL number_laws (chooseL truth_laws span_laws refl) refl) refl

  owned_laws : (t : Token) → Laws on d false true G.HASH [] (λ _. owned t)
  unfolding owned
  owned_laws t = bindL (tokL (is G.HASH refl)) (λ _. bindL (tokL (is G.NAME refl)) (λ u. pureL _) refl) refl

  owned_or_alone_laws : (t : Token) → Laws on d true true G.HASH G.HASH (λ _. owned_or_alone t)
  unfolding owned_or_alone
  owned_or_alone_laws t = as_listed G.HASH G.HASH (chooseL (owned_laws t) (pureL (in_init.Named (id_of t))) refl) refl refl refl

  pub value_laws : Laws on d false true G.NAME G.HASH (λ _. value)
  unfolding value
  value_laws = bindL (tokL (is G.NAME refl)) owned_or_alone_laws refl

-- ---- at each number of nodes

module _ (d : ℕ) (x : ℕ → Inner) (b : BelowInits (nat_le 1 d) d x) where
  abbrev on : Bool
  on = nat_le 1 d

  next_item_laws : (l : List Item) → Laws on d false true G.COMMA more_item (λ e. next_item (x e) l)
  unfolding next_item
  next_item_laws l = bindL (tokL (is G.COMMA refl)) (λ _. bindL b.item (λ i. pureL _) refl) refl

  pub list_laws : (t : Token) → Laws on d false true G.FIRST_INIT [] (λ e. list_rest (x e) t)
  unfolding list_rest
  list_laws t = bindL b.item (λ i. bind_anyL (manyL (i ∷ []) next_item_laws refl) (λ l. bindL (tokL (is G.RBRACKET refl)) (λ _. pureL _) refl) refl) refl

  pub part_laws : Laws on d false true G.NAME G.HASH (λ e. part (x e))
  unfolding part
  part_laws = bindL (tokL (is G.NAME refl)) (λ t. bindL (tokL (is G.ASSIGN refl)) (λ _. bindL b.init (λ i. pureL _) refl) refl) refl

  next_part_laws : (l : List InitPart) → Laws on d false true G.COMMA G.HASH (λ e. next_part (x e) l)
  unfolding next_part
  next_part_laws l = bindL (tokL (is G.COMMA refl)) (λ _. bindL part_laws (λ p. pureL _) refl) refl

  pub struct_laws : (t : Token) → Laws on d false true G.NAME [] (λ e. struct_rest (x e) t)
  unfolding struct_rest
  struct_laws t = bindL part_laws (λ p. bind_anyL (manyL (p ∷ []) next_part_laws refl) (λ l. bindL (tokL (is G.RPAREN refl)) (λ _. pureL _) refl) refl) refl

  pub init_laws : Laws true d false true G.FIRST_INIT G.HASH (λ e. init e (x e))
  unfolding init
  init_laws = as_listed G.FIRST_INIT G.HASH
      (chooseL (opensL 0 (is G.LBRACKET refl) list_laws)
      (chooseL (opensL 0 (is G.LPAREN refl) struct_laws)
      (chooseL (value_laws d true) (literal_laws d true) refl) refl) refl) refl refl refl

  -- ---- elements of lists

  some_init_laws : Laws on d false true G.FIRST_INIT G.HASH (λ e. some_init (x e))
  unfolding some_init
  some_init_laws = bindL b.init (λ i. pureL _) refl

  pub none_or_init_laws : Laws on d true true G.FIRST_INIT (G.FIRST_INIT ++ G.HASH) (λ e. none_or_init (x e))
  unfolding none_or_init
  none_or_init_laws = as_listed G.FIRST_INIT (G.FIRST_INIT ++ G.HASH) (chooseL some_init_laws (pureL None) refl) refl refl refl

  pub many_laws : (t u : Token) → Laws on d false true (G.FIRST_INIT ++ G.RPAREN) [] (λ e. many_rest (x e) t u)
  unfolding many_rest
  many_laws t u = bind_anyL none_or_init_laws (λ i. bindL (tokL (is G.RPAREN refl)) (λ _. pureL _) refl) refl

  pub counted_laws : (t : Token) → Laws true d false false G.LPAREN [] (λ e. counted e (x e) t)
  unfolding counted
  counted_laws t = opensL 0 (is G.LPAREN refl) (many_laws t)

  pub one_init_laws : Laws true d false true G.FIRST_INIT G.HASH (λ e. one_init e (x e))
  unfolding one_init
  one_init_laws = bindL init_laws (λ i. pureL _) refl

  number_alone : Avoids G.INTEGER G.LPAREN (λ _. number)
  unfolding number
  number_alone = avoids_bindL (tokL {on = true} {d = d} (is G.NUMBER refl)) (λ t. pureL _) (avoids_tok G.NUMBER) refl

  literal_alone : Avoids G.INTEGER G.LPAREN (λ _. literal)
  unfolding literal
  literal_alone =
      avoids_choose G.MINUS (avoids_first (negative_laws d true) refl)
      (avoids_choose G.NUMBER number_alone
      (avoids_choose G.TRUTH (avoids_first (truth_laws d true) refl) (avoids_first (span_laws d true) refl)))

  init_alone : Avoids G.INTEGER G.LPAREN (λ e. init e (x e))
  unfolding init
  init_alone =
      avoids_choose G.LBRACKET (avoids_opens G.LBRACKET refl)
      (avoids_choose G.LPAREN (avoids_opens G.LPAREN refl)
      (avoids_choose G.NAME (avoids_first (value_laws d true) refl) literal_alone))

  -- no initial value begins as a repetition does
  one_init_alone : Avoids G.INTEGER G.LPAREN (λ e. one_init e (x e))
  unfolding one_init
  one_init_alone = avoids_bindL init_laws (λ i. pureL {on = true} {d = d} _) init_alone refl

  -- but an integer is one
  integer_alone : (t : Token) → has rank (sort.of t) G.INTEGER ≡ true → (a : Item) × (one_init d (x d)).lang (t ∷ []) a
  unfolding one_init init literal number
  integer_alone t k = (_, (_, t ∷ [], [], refl, inr (inr (inr (inr (inl (t, t ∷ [], [], refl, (refl, within rank G.INTEGER G.NUMBER refl (sort.of t) k), (refl, refl)))))), (refl, refl)))

  pub item_laws : Laws true d false true G.FIRST_INIT more_item (λ e. item e (x e))
  unfolding item
  item_laws = as_listed G.FIRST_INIT more_item (choose_nodeL counted_laws one_init_laws integer_alone one_init_alone refl) refl refl refl
