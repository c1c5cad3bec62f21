-- The laws of sources.
use Rattle.std.proofs.Common.{ℕ, true, false, List, [], ◌++◌, refl}
use Rattle.plc_tree.specs.declared.tree.Unit.{Unit as Source}
use Rattle.plc_tokens.specs.declared.sort.Seen.{Seen}
use Rattle.plc_tokens.specs.Sets as G
use Rattle.plc_tokens.proofs.Known.{is}
use Rattle.phrase.specs.Piece.{Law}
use Rattle.phrase.proofs.Rules.{Laws, pureL, tokL, bindL, bind_anyL, chooseL, manyL, as_listed}
use Rattle.type_parse.proofs.TypeLaws.{types_laws}
use Rattle.decl_parse.specs.Sources.{nothing, next_types, next_config, next_pou, next_declaration, source, closed}
use Rattle.decl_parse.proofs.UnitLaws.{pou_laws}
use Rattle.decl_parse.proofs.ConfigurationLaws.{config_laws}

-- what begins a source and its end
abbrev pub FIRST : List Seen
FIRST = G.DECLARATION ++ G.END

module _ (d : ℕ) where
  next_types_laws : (u : Source) → Laws true d false true G.TYPE [] (λ e. next_types e u)
  unfolding next_types
  next_types_laws u = bindL (types_laws d u.types) (λ _. pureL _) refl

  next_config_laws : (u : Source) → Laws true d false true G.CONFIGURATION [] (λ e. next_config e u)
  unfolding next_config
  next_config_laws u = bindL (config_laws d) (λ _. pureL _) refl

  next_pou_laws : (u : Source) → Laws true d false true G.UNIT [] (λ e. next_pou e u)
  unfolding next_pou
  next_pou_laws u = bindL (pou_laws d) (λ _. pureL _) refl

  next_declaration_laws : (u : Source) → Laws true d false true G.DECLARATION [] (λ e. next_declaration e u)
  unfolding next_declaration
  next_declaration_laws u = as_listed G.DECLARATION [] (chooseL (next_types_laws u) (chooseL (next_config_laws u) (next_pou_laws u) refl) refl) refl refl refl

  pub source_laws : Laws true d true true G.DECLARATION G.DECLARATION (λ e. source e)
  unfolding source
  source_laws = as_listed G.DECLARATION G.DECLARATION (manyL nothing next_declaration_laws refl) refl refl refl

  pub closed_laws : Laws true d false true FIRST [] (λ e. closed e)
  unfolding closed
  closed_laws = bind_anyL source_laws (λ u. bindL (tokL (is G.END refl)) (λ _. pureL _) refl) refl

pub source_law : (d : ℕ) → Law d true true G.DECLARATION G.DECLARATION source
source_law d = (source_laws d).law refl

pub closed_law : (d : ℕ) → Law d false true FIRST [] closed
closed_law d = (closed_laws d).law refl
