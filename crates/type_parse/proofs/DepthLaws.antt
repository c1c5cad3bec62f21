-- The laws of initial values at each number of nodes, by one induction on that number.
use Rattle.std.proofs.Common.{◌≡◌, ℕ, zero, suc, true, false, nat_le, [], ◌∷◌, ◌++◌, None, refl, inl, inr}
use Rattle.plc_tokens.specs.declared.token.Token.{Token}
use Rattle.plc_tree.specs.declared.tree.Init.{Init}
use Rattle.plc_tree.specs.declared.tree.Init.TheVariants as in_init
use Rattle.plc_tree.specs.declared.tree.Item.TheVariants as in_item
use Rattle.plc_tokens.specs.Sorts.{truth_of}
use Rattle.plc_tokens.specs.Sets as G
use Rattle.plc_tokens.proofs.Known.{is, plain_of}
use Rattle.phrase.proofs.Rules.{Laws, under, pureL, tokL, bindL, chooseL, as_listed}
use Rattle.phrase.proofs.Under.{is_under, shut, lifted}
use Rattle.type_parse.specs.Initials.{truth, literal, init, one_init, item}
use Rattle.type_parse.specs.Depth.{inner, Initials, assigned, init_if_any}
use Rattle.type_parse.proofs.Below.{BelowInits}
use Rattle.type_parse.proofs.InitialLaws.{init_laws, item_laws}

-- ---- what stands under a node is what stood with fewer

under_init : under (λ n. init n (inner n)) ≡ (λ n. (inner n).init)
unfolding inner
under_init = is_under (λ n. (inner n).init) (λ n. init n (inner n)) refl (λ n. refl)

under_item : under (λ n. item n (inner n)) ≡ (λ n. (inner n).item)
unfolding inner
under_item = is_under (λ n. (inner n).item) (λ n. item n (inner n)) refl (λ n. refl)

-- ---- a small phrase of each

abbrev yes : Token
yes = plain_of G.TRUTH

abbrev as_init : Init
as_init = in_init.Truth (truth_of yes.kind) yes.place

an_init : (init 0 (inner 0)).lang (yes ∷ []) as_init
unfolding init literal truth
an_init = inr (inr (inr (inr (inr (inl (yes, yes ∷ [], [], refl, (refl, refl), (refl, refl)))))))

an_item : (item 0 (inner 0)).lang (yes ∷ []) (in_item.One as_init)
unfolding item one_init
an_item = inr (as_init, yes ∷ [], [], refl, an_init, (refl, refl))

-- ---- the knot

pub below_inits : (d : ℕ) → BelowInits (nat_le 1 d) d inner
below_inits zero = record {
  init = shut (λ n. (inner n).init) (λ n. init n (inner n)) under_init 0 (yes ∷ []) as_init an_init;
  item = shut (λ n. (inner n).item) (λ n. item n (inner n)) under_item 0 (yes ∷ []) (in_item.One as_init) an_item;
}
below_inits (suc d) = record {
  init = lifted (λ n. (inner n).init) (λ n. init n (inner n)) under_init (init_laws d inner (below_inits d));
  item = lifted (λ n. (inner n).item) (λ n. item n (inner n)) under_item (item_laws d inner (below_inits d));
}

-- ---- the laws of what is read

module _ (d : ℕ) where
  pub inits_laws : Laws true d false true G.FIRST_INIT G.HASH Initials
  inits_laws = init_laws d inner (below_inits d)

  assigned_laws : Laws true d false true G.ASSIGN G.HASH (λ e. assigned e)
  unfolding assigned
  assigned_laws = bindL (tokL (is G.ASSIGN refl)) (λ _. bindL inits_laws (λ i. pureL _) refl) refl

  -- "#" may follow a name, and ":=" where no value stands
  pub init_if_any_laws : Laws true d true true G.ASSIGN (G.ASSIGN ++ G.HASH) (λ e. init_if_any e)
  unfolding init_if_any
  init_if_any_laws = as_listed G.ASSIGN (G.ASSIGN ++ G.HASH) (chooseL assigned_laws (pureL None) refl) refl refl refl
