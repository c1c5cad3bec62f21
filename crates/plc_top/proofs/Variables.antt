-- The variables of declarations of which no use is broken: their names differ, they are numbered, and each name stands for its own.
use Rattle.std.proofs.Common.{◌≡◌, refl, sym, ap, subst, ◌∙◌, ℕ, suc, ◌+◌, ◌<◌, ◌≤◌, List, [], ◌∷◌, ◌++◌, length, map, Bool, true, false, Option, Some, None, arith, append_assoc, append-nil, length-append}
use Rattle.std.specs.Prelude.{not, ◌||◌, cond, nat_lt, unwrap_or, if◌then◌else◌}
use Rattle.std.specs.List.{flat_map, list_any, position_or_len}
use Rattle.std.specs.Option.{option_map, option_or}
use Rattle.std.specs.Str.{bytes_eq}
use Rattle.std.proofs.lemmas.Bool.{not-true, or_parts, or_left, or_right, or_from}
use Rattle.std.proofs.lemmas.Bool.Decides.{nat_tests}
use Rattle.std.proofs.lemmas.List.{length-map, map-append}
use Rattle.std.proofs.lemmas.List.Folds.{list_any-append}
use Rattle.std.proofs.lemmas.Slice.Eq.{bytes_eq-Decides}
use Rattle.plc_base.specs.declared.elem.Elem.{Elem}
use Rattle.plc_base.proofs.Bytes.{bytes_eq-never, bytes_eq-self}
use Rattle.plc_base.specs.Numbers.{Fits}
use Rattle.plc_tree.specs.declared.tree.Id.{Id}
use Rattle.plc_tree.specs.declared.tree.Section.{Section}
use Rattle.plc_tree.specs.declared.tree.Decl.{Decl}
use Rattle.plc_tree.specs.declared.typed.TypeId.TheVariants as of
use Rattle.plc_tree.specs.declared.typed.TVar.{TVar}
use Rattle.plc_tree.specs.WellTyped.{var_in, type_of, AreNumberedFrom, AreFit}
use Rattle.phrase.specs.Every.{Every as EachOf}
use Rattle.decl_parse.specs.Shapes.{IsDecl, IsSection, IsNamed}
use Rattle.c_tree.specs.WellSpelled.{Every}
use Rattle.c_meaning.specs.Names.{is_among, Apart}
use Rattle.emit_pou.specs.SourceNames.{IsSourceName}
use Rattle.emit_pou.proofs.Numbered.{var_here, var_later}
use Rattle.plc_typing.specs.Scope.{Variable, elem_of_spec, type_in, decl_variables, variables}
use Rattle.plc_typing.specs.Standard.{is_standard, is_one_of}
use Rattle.plc_typing.specs.Uses.{words, section_names, names_faults, suits, is_plain_section, decl_faults, section_faults}
use Rattle.plc_typing.specs.Typing.{number_in, number_of_init, typed_var, typed_decl, typed_section}
use Rattle.plc_top.specs.Words.{IsKnown}
use Rattle.plc_top.proofs.SourceWords.{source_named}
use Rattle.plc_typing.proofs.Initial.{starts_fit}
use Rattle.plc_typing.proofs.Faults.{none_of_both, holds}
use Rattle.plc_typing.proofs.Declaring.{one_fault, faults-cons, faults-append}

-- ---- names and their numbers

-- a name among the earlier ones, and the one after them
is_earlier : (before : List (List ℕ)) (n m : List ℕ) → is_one_of before m ≡ true → is_one_of (before ++ n ∷ []) m ≡ true
is_earlier before n m e = list_any-append (bytes_eq m) before (n ∷ []) ∙ or_left _ _ e

is_last : (before : List (List ℕ)) (n : List ℕ) → is_one_of (before ++ n ∷ []) n ≡ true
is_last before n = list_any-append (bytes_eq n) before (n ∷ []) ∙ or_right _ _ (or_left _ _ (bytes_eq-self n))

-- the first that passes a test stands behind those that don't
place_behind : {X : Type 0} (test : X → Bool) (before : List X) (x : X) (rest : List X) → list_any test before ≡ false → test x ≡ true → position_or_len test (before ++ x ∷ rest) ≡ length before
place_behind test [] x rest h e = ap (λ b. cond (not b) (1 + position_or_len test rest) 0) e
place_behind test (y ∷ before) x rest h e =
    let parts = or_parts (test y) (list_any test before) h in
    ap (λ b. cond (not b) (1 + position_or_len test (before ++ x ∷ rest)) 0) parts.0 ∙ ap (λ n. 1 + n) (place_behind test before x rest parts.1 e) ∙ omega arith

-- a name's number is the number of the names before it
number_behind : (before : List (List ℕ)) (n : List ℕ) (rest : List (List ℕ)) → is_one_of before n ≡ false → number_in (before ++ n ∷ rest) n ≡ length before
number_behind before n rest h =
    let at = place_behind (bytes_eq n) before n rest h (bytes_eq-self n) in
    let within : nat_lt (position_or_len (bytes_eq n) (before ++ n ∷ rest)) (length (before ++ n ∷ rest)) ≡ true =
    ap (λ k. nat_lt k (length (before ++ n ∷ rest))) at ∙ is_less (length before) (length (before ++ n ∷ rest)) (omega (arith, length-append before (n ∷ rest))) in
    ap (λ b. unwrap_or (cond b (Some (position_or_len (bytes_eq n) (before ++ n ∷ rest))) None) 0) within ∙ at
  where
    is_less : (a b : ℕ) → a < b → nat_lt a b ≡ true
    is_less a b h = grind (arith, nat_tests)

-- a name that isn't broken is none of the words in front of it
is_new : (before : List (List ℕ)) (n : Id) → one_fault before n ≡ [] → is_one_of before n.name ≡ false
is_new before n e = (or_parts _ _ (not-true _ (holds (not (is_one_of before n.name || is_standard n.name)) n.at e))).0

-- ---- the names of declarations

abbrev names_of : List Decl → List Id
names_of ds = flat_map (λ (d : Decl). d.names) ds

-- ---- variables

module _ (N : List (List ℕ)) where
  -- a name of this type has a number from here on, and a variable of the type stands there
  abbrev Stands : ℕ → List TVar → List ℕ → Elem → Type 0
  Stands k vs name e = (k ≤ number_in N name) × (type_of (var_in vs (number_in N name)) ≡ Some (of.Elem e))

  -- what is known of some variables, where these names were declared before
  pub record Fine (before : List (List ℕ)) (vs : List TVar) (us : List Variable) : Type 0 where
    pub named : Every (λ (v : TVar). IsSourceName v.name) vs
    pub apart : Apart (map (λ (v : TVar). v.name) vs)
    pub later : (m : List ℕ) → is_one_of before m ≡ true → is_among m (map (λ (v : TVar). v.name) vs) ≡ false
    pub fit : AreFit vs
    pub numbered : AreNumberedFrom (length before) vs
    pub stands : (name : List ℕ) (e : Elem) → type_in us name ≡ Some e → Stands (length before) vs name e

  -- a variable before others
  stands_with : (v : TVar) (vs : List TVar) (us : List Variable) (own_type : Elem) (name : List ℕ) (e : Elem)
      → v.id ≡ number_in N v.name → v.ty ≡ of.Elem own_type
      → ((e : Elem) → type_in us name ≡ Some e → Stands (suc v.id) vs name e)
      → type_in ((v.name, own_type) ∷ us) name ≡ Some e → Stands v.id (v ∷ vs) name e
  stands_with v vs us own_type name e id ty tail h = by (type_in us name) refl
    where
      here : (b : Bool) → bytes_eq v.name name ≡ b → (if b then Some own_type else None) ≡ Some e → Stands v.id (v ∷ vs) name e
      here true eq k =
          let same : v.name ≡ name = (bytes_eq-Decides v.name name).0 eq in
          let number : v.id ≡ number_in N name = id ∙ ap (number_in N) same in
          (omega (arith, number), ap type_of (var_here v vs (number_in N name) number) ∙ ap Some ty ∙ ap (option_map of.Elem) k)
      here false eq k = absurd (let x : None ≡ Some e = k in cc)

      by : (o : Option Elem) → type_in us name ≡ o → Stands v.id (v ∷ vs) name e
      by None eq = here (bytes_eq v.name name) refl (sym (ap (λ o. option_or o (if bytes_eq v.name name then Some own_type else None)) eq) ∙ h)
      by (Some t) eq =
          let same : Some t ≡ Some e = sym (ap (λ o. option_or o (if bytes_eq v.name name then Some own_type else None)) eq) ∙ h in
          let rest = tail e (eq ∙ same) in
          (omega (arith, rest.0), ap type_of (var_later v vs (number_in N name) (λ same. omega (arith, rest.0, same))) ∙ rest.1)

  -- as many variables as names
  count_decls : (s : Section) (ds : List Decl) → length (flat_map (typed_decl N s) ds) ≡ length (names_of ds)
  count_decls s [] = refl
  count_decls s (d ∷ ds) = omega (arith, length-append (typed_decl N s d) (flat_map (typed_decl N s) ds), length-append d.names (names_of ds), length-map d.names (typed_var N s d), count_decls s ds)

  pub count : (ss : List Section) → length (flat_map (typed_section N) ss) ≡ length (flat_map section_names ss)
  count [] = refl
  count (s ∷ ss) = omega (arith, length-append (typed_section N s) (flat_map (typed_section N) ss), length-append (section_names s) (flat_map section_names ss), count_decls s s.decls, count ss)

  -- a declaration of a section, whose initial value fits its type
  module _ (s : Section) (d : Decl) (fits : Fits (elem_of_spec d.spec) (number_of_init d.init)) where
    abbrev variable : Id → Variable
    variable n = (n.name, elem_of_spec d.spec)

    -- one of its variables before others
    one_fine : (before rest : List (List ℕ)) (n : Id) (vs : List TVar) (us : List Variable) → N ≡ before ++ (n.name ∷ rest) → is_one_of before n.name ≡ false → IsSourceName n.name
        → Fine (before ++ n.name ∷ []) vs us → Fine before (typed_var N s d n ∷ vs) (variable n ∷ us)
    one_fine before rest n vs us all new word tail =
        let id : number_in N n.name ≡ length before = ap (λ names. number_in names n.name) all ∙ number_behind before n.name rest new in
        let more : length (before ++ n.name ∷ []) ≡ suc (length before) = length-append before (n.name ∷ []) ∙ omega arith in
        record {
          named = (word, tail.named);
          apart = (tail.later n.name (is_last before n.name), tail.apart);
          later = λ m k. or_from _ _ (bytes_eq-never n.name m (λ same. absurd (let x : false ≡ true = sym new ∙ ap (is_one_of before) same ∙ k in cc))) (tail.later m (is_earlier before n.name m k));
          fit = (fits, tail.fit);
          numbered = (id, subst (λ k. AreNumberedFrom k vs) (more ∙ omega arith) tail.numbered);
          stands = λ name t k.
              let here = stands_with (typed_var N s d n) vs us (elem_of_spec d.spec) name t refl refl
              (λ u q. let r = tail.stands name u q in (omega (arith, r.0, more, id), r.1)) k in
              (omega (arith, here.0, id), here.1);
        }

    -- all of them
    names_fine : (before rest : List (List ℕ)) (ns : List Id) (vs : List TVar) (us : List Variable) → N ≡ before ++ (words ns ++ rest) → EachOf (λ (n : Id). IsNamed IsKnown n.name) ns
        → names_faults before ns ≡ [] → Fine (before ++ words ns) vs us → Fine before (map (typed_var N s d) ns ++ vs) (map variable ns ++ us)
    names_fine before rest [] vs us all h e tail = subst (λ names. Fine names vs us) (append-nil before) tail
    names_fine before rest (n ∷ ns) vs us all (h, hs) e tail =
        let split = none_of_both (one_fault before n) (names_faults (before ++ n.name ∷ []) ns) (sym (faults-cons before n ns) ∙ e) in
        let next : N ≡ (before ++ n.name ∷ []) ++ (words ns ++ rest) = all ∙ sym (append_assoc before (n.name ∷ []) (words ns ++ rest)) in
        let behind = subst (λ names. Fine names vs us) (sym (append_assoc before (n.name ∷ []) (words ns))) tail in
        one_fine before (words ns ++ rest) n (map (typed_var N s d) ns ++ vs) (map variable ns ++ us) all (is_new before n split.0) (source_named n.name h)
        (names_fine (before ++ n.name ∷ []) rest ns vs us next hs split.1 behind)

  -- the declarations of a section before other variables
  fine : (s : Section) (before rest : List (List ℕ)) (ds : List Decl) (vs : List TVar) (us : List Variable) → N ≡ before ++ (words (names_of ds) ++ rest)
      → EachOf (IsDecl IsKnown) ds → names_faults before (names_of ds) ≡ [] → flat_map decl_faults ds ≡ [] → Fine (before ++ words (names_of ds)) vs us
      → Fine before (flat_map (typed_decl N s) ds ++ vs) (flat_map decl_variables ds ++ us)
  fine s before rest [] vs us whole h e f tail = subst (λ names. Fine names vs us) (append-nil before) tail
  fine s before rest (d ∷ ds) vs us whole (h, hs) e f tail =
      let ids = words d.names in
      let others = words (names_of ds) in
      let names = none_of_both (names_faults before d.names) (names_faults (before ++ ids) (names_of ds)) (sym (faults-append before d.names (names_of ds)) ∙ e) in
      let starts = none_of_both (decl_faults d) (flat_map decl_faults ds) f in
      let both : words (names_of (d ∷ ds)) ≡ ids ++ others = map-append (λ (n : Id). n.name) d.names (names_of ds) in
      let all : N ≡ before ++ (ids ++ (others ++ rest)) = whole ∙ ap (λ ns. before ++ (ns ++ rest)) both ∙ ap (λ ns. before ++ ns) (append_assoc ids others rest) in
      let behind = subst (λ ns. Fine ns vs us) (ap (λ ns. before ++ ns) both ∙ sym (append_assoc before ids others)) tail in
      let next = fine s (before ++ ids) rest ds vs us (all ∙ sym (append_assoc before ids (others ++ rest))) hs names.1 starts.1 behind in
      let here = names_fine s d (starts_fit d starts.0) before (others ++ rest) d.names (flat_map (typed_decl N s) ds ++ vs) (flat_map decl_variables ds ++ us) all h names.0 next in
      subst (λ ws. Fine before ws (decl_variables d ++ flat_map decl_variables ds ++ us)) (sym (append_assoc (typed_decl N s d) (flat_map (typed_decl N s) ds) vs))
      (subst (λ ws. Fine before (typed_decl N s d ++ (flat_map (typed_decl N s) ds ++ vs)) ws) (sym (append_assoc (decl_variables d) (flat_map decl_variables ds) us)) here)

  -- the sections of a program
  pub sections_fine : (before rest : List (List ℕ)) (ss : List Section) → N ≡ before ++ (words (flat_map section_names ss) ++ rest)
      → EachOf (IsSection IsKnown) ss → names_faults before (flat_map section_names ss) ≡ [] → flat_map section_faults ss ≡ [] → Fine before (flat_map (typed_section N) ss) (variables ss)
  sections_fine before rest [] whole h e f = record { named = tt; apart = tt; later = λ m k. refl; fit = tt; numbered = tt; stands = λ name t k. absurd (let x : None ≡ Some t = k in cc) }
  sections_fine before rest (s ∷ ss) whole (h, hs) e f =
      let ids = words (section_names s) in
      let others = words (flat_map section_names ss) in
      let names = none_of_both (names_faults before (section_names s)) (names_faults (before ++ ids) (flat_map section_names ss)) (sym (faults-append before (section_names s) (flat_map section_names ss)) ∙ e) in
      let uses = none_of_both (section_faults s) (flat_map section_faults ss) f in
      let starts = none_of_both (suits (is_plain_section s) s.at) (flat_map decl_faults s.decls) uses.0 in
      let both : words (flat_map section_names (s ∷ ss)) ≡ ids ++ others = map-append (λ (n : Id). n.name) (section_names s) (flat_map section_names ss) in
      let all : N ≡ before ++ (ids ++ (others ++ rest)) = whole ∙ ap (λ ns. before ++ (ns ++ rest)) both ∙ ap (λ ns. before ++ ns) (append_assoc ids others rest) in
      let next = sections_fine (before ++ ids) rest ss (all ∙ sym (append_assoc before ids (others ++ rest))) hs names.1 uses.1 in
      fine s before (others ++ rest) s.decls (flat_map (typed_section N) ss) (variables ss) all h names.0 starts.1 next
