-- What a map or a set of names holds, as a list of bytes.
use Rattle.std.proofs.Common.{◌≡◌, suc, refl, sym, ap, ◌∙◌, ℕ, ◌+◌, List, [], ◌∷◌, ◌++◌, map, false, cond, not, Option, Some, None, Vec, Global, length}
use Rattle.std.specs.Prelude.{is_some, ◌||◌, nat_lt, position, if◌then◌else◌}
use Rattle.std.specs.List.{list_any, position_or_len}
use Rattle.std.specs.Map.{lookup}
use Rattle.std.specs.Str.{bytes_eq}
use Rattle.std.specs.declared.hash.FoldHasher.{FoldHasher}
use Rattle.std.specs.declared.hash.BuildHasherDefault.{BuildHasherDefault}
use Rattle.std.proofs.lemmas.List.{map-append}
use Rattle.indexmap.specs.IndexMap.{IndexMap, insert_entry}
use Rattle.indexmap.proofs.CallerLemmas.{insert_entry-new}
use Rattle.plc_scopes.specs.Firsts.{bytes_of, plain, first_of, entered}

-- ---- a map

pub lookup-plain : (name : List ℕ) (es : List (Vec ℕ Global × ℕ)) → lookup (λ k. bytes_eq name k.items) es ≡ first_of (map plain es) name
lookup-plain name [] = refl
lookup-plain name (p ∷ ps) = ap (cond (bytes_eq name p.0.items) (Some p.1)) (lookup-plain name ps)

none_from : {A : Type 0} (o : Option A) → is_some o ≡ false → o ≡ None
none_from None h = refl
none_from (Some x) h = cc

-- a name that no entry has goes to the end
pub entered_new : (m : IndexMap (Vec ℕ Global) ℕ (BuildHasherDefault FoldHasher)) (old : List (List ℕ × ℕ)) (name : List ℕ) (key : Vec ℕ Global) (n : ℕ) (new : List (Vec ℕ Global × ℕ))
    → map plain m.entries ≡ old → key.items ≡ name → is_some (first_of old name) ≡ false → new ≡ insert_entry (λ x y. bytes_eq x.items y.items) m.entries key n
    → map plain new ≡ entered old name n
entered_new m old name key n new is e none h =
    let absent = lookup-plain key.items m.entries ∙ (λ i. first_of (is i) (e i)) ∙ none_from (first_of old name) none in
    ap (map plain) (h ∙ insert_entry-new (λ x y. bytes_eq x.items y.items) m key n absent)
    ∙ map-append plain m.entries ((key, n) ∷ [])
    ∙ (λ i. is i ++ (e i, n) ∷ [])
    ∙ sym (ap (λ b. if b then old else old ++ (name, n) ∷ []) none)

-- ---- a set

pub place-plain : (name : List ℕ) (ks : List (Vec ℕ Global)) → position_or_len (λ k. bytes_eq name k.items) ks ≡ position_or_len (bytes_eq name) (map bytes_of ks)
place-plain name [] = refl
place-plain name (k ∷ ks) = ap (λ n. cond (not (bytes_eq name k.items)) (1 + n) 0) (place-plain name ks)

pub any-plain : (name : List ℕ) (ks : List (Vec ℕ Global)) → list_any (λ k. bytes_eq name k.items) ks ≡ list_any (bytes_eq name) (map bytes_of ks)
any-plain name [] = refl
any-plain name (k ∷ ks) = ap (λ b. bytes_eq name k.items || b) (any-plain name ks)

length-plain : (ks : List (Vec ℕ Global)) → length ks ≡ length (map bytes_of ks)
length-plain [] = refl
length-plain (k ∷ ks) = ap suc (length-plain ks)

at : ℕ → ℕ → Option ℕ
at n len = cond (nat_lt n len) (Some n) None

pub position-plain : (name : List ℕ) (ks : List (Vec ℕ Global)) → position (λ k. bytes_eq name k.items) ks ≡ position (bytes_eq name) (map bytes_of ks)
unfolding at
position-plain name ks = λ i. at (place-plain name ks i) (length-plain ks i)
