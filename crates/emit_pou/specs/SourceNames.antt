-- Names as a source has them: words in capitals that are no elementary type.
use Rattle.std.specs.Prelude.{◌≡◌, ℕ, Bool, false, ◌&&◌, ◌||◌, ◌==◌, nat_le, List, [], ◌∷◌, map}
use Rattle.plc_tree.specs.declared.typed.TVar.{TVar}
use Rattle.c_tree.specs.CTokens.{IsName}
use Rattle.c_tree.specs.Spelling.{elem_name}
use Rattle.c_tree.specs.WellSpelled.{Every}
use Rattle.plc_base.specs.Numbers.{elems}
use Rattle.c_meaning.specs.Names.{is_among, Apart}
use Rattle.emit_pou.specs.Single.{Single}

abbrev pub is_small : ℕ → Bool
is_small b = nat_le 97 b && nat_le b 122

abbrev pub has_small : List ℕ → Bool
has_small [] = false
has_small (b ∷ bs) = is_small b || has_small bs

abbrev pub starts_low : List ℕ → Bool
starts_low [] = false
starts_low (b ∷ bs) = b == 95

-- two _ together
abbrev pub has_double : List ℕ → Bool
has_double [] = false
has_double (b ∷ bs) = ((b == 95) && starts_low bs) || has_double bs

abbrev pub ends_low : List ℕ → Bool
ends_low [] = false
ends_low (b ∷ []) = b == 95
ends_low (b ∷ c ∷ bs) = ends_low (c ∷ bs)

pub record IsSourceName (name : List ℕ) : Type 0 where
  pub word : IsName name
  pub capitals : has_small name ≡ false
  pub single : has_double name ≡ false
  pub ends : ends_low name ≡ false
  pub no_type : is_among name (map elem_name elems) ≡ false

-- the names of a unit: those of its variables differ
pub record HasSourceNames (x : Single) : Type 0 where
  pub pou : IsSourceName x.pou.name
  pub resource : IsSourceName x.resource_name
  pub inst : IsSourceName x.inst_name
  pub vars : Every (λ (v : TVar). IsSourceName v.name) x.pou.vars
  pub apart : Apart (map (λ (v : TVar). v.name) x.pou.vars)
