-- What is known of the names of a source's tree by the tokens that it was made of, and how high its bodies are.
use Rattle.std.specs.Prelude.{◌≡◌, ◌≤◌, ℕ, true, List}
use Rattle.plc_tokens.specs.declared.token.Token.{Token}
use Rattle.plc_tree.specs.declared.tree.Id.{Id}
use Rattle.plc_tree.specs.declared.tree.Unit.{Unit as Source}
use Rattle.plc_tree.specs.declared.tree.Pou.{Pou}
use Rattle.plc_tree.specs.declared.tree.Body.{Body}
use Rattle.plc_tree.specs.declared.tree.Body.TheVariants.{St}
use Rattle.plc_tree.specs.declared.tree.Section.{Section}
use Rattle.plc_tree.specs.declared.tree.Decl.{Decl}
use Rattle.plc_tree.specs.declared.tree.Stmt.{Stmt}
use Rattle.plc_tree.specs.declared.tree.Config.{Config}
use Rattle.plc_tree.specs.declared.tree.Resource.{Resource}
use Rattle.plc_tree.specs.declared.tree.Task.{Task}
use Rattle.plc_tree.specs.declared.tree.Inst.{Inst}
use Rattle.plc_tree.specs.Heights.{list_height}
use Rattle.phrase.specs.Piece.{has}
use Rattle.phrase.specs.Every.{Every}
use Rattle.plc_tokens.specs.Sorts.{rank, sort, name_of}
use Rattle.plc_tokens.specs.Sets.{NAME}
use Rattle.decl_parse.specs.Parsed.{MOST}

-- each token has the property
abbrev pub EveryToken : (Token → Type 0) → List Token → Type 0
EveryToken P tokens = Every P tokens

-- the name that a token with the property gives
pub record IsNamed (P : Token → Type 0) (name : List ℕ) : Type 0 where
  pub token : Token
  pub is : name ≡ name_of token.kind
  pub sort : has rank (sort.of token) NAME ≡ true
  pub holds : P token

-- statements that are no higher than so many nodes
pub record IsBody (most : ℕ) (b : Body) : Type 0 where
  pub stmts : List Stmt
  pub is : b ≡ St stmts
  pub low : list_height stmts ≤ most

module _ (P : Token → Type 0) where
  abbrev pub IsDecl : Decl → Type 0
  IsDecl d = Every (λ (n : Id). IsNamed P n.name) d.names

  abbrev pub IsSection : Section → Type 0
  IsSection s = Every IsDecl s.decls

  pub record IsPou (p : Pou) : Type 0 where
    pub named : IsNamed P p.name
    pub sections : Every IsSection p.sections
    pub body : IsBody MOST p.body

  pub record IsResource (r : Resource) : Type 0 where
    pub named : IsNamed P r.name
    pub globals : Every IsSection r.globals
    pub tasks : Every (λ (t : Task). IsNamed P t.name) r.tasks
    pub insts : Every (λ (i : Inst). IsNamed P i.name) r.insts

  pub record IsConfig (c : Config) : Type 0 where
    pub named : IsNamed P c.name
    pub globals : Every IsSection c.globals
    pub resources : Every IsResource c.resources

  -- the names of all but the types, and the bodies
  pub record IsShaped (u : Source) : Type 0 where
    pub pous : Every IsPou u.pous
    pub configs : Every IsConfig u.configs
