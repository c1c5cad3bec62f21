-- The names that tokens carry are words in capitals, and no spelling is the end.
use Rattle.std.proofs.Common.{◌≡◌, ℕ, suc, ◌^◌, ◌<◌, ◌≤◌, Bool, true, false, not, ◌&&◌, ◌==◌, nat_lt, nat_le, List, [], ◌∷◌, ◌++◌, length, get_or, drop, Option, Some, None, refl, ap, sym, subst, ◌∙◌, arith, ⊎_elim}
use Rattle.std.specs.Prelude.{codes, bytes_eq}
use Rattle.std.specs.Char.{is_ascii_digit, to_ascii_uppercase}
use Rattle.std.specs.List.{list_all, list_any, prefix_len}
use Rattle.std.proofs.lemmas.List.{length-map, append-nil, map-append, take-append-drop}
use Rattle.std.proofs.lemmas.Bool.{and_parts, and_from, or_cases, cond_both, not-false, ltb-false, eqb-true}
use Rattle.std.proofs.lemmas.Bool.Decides.{nat_tests}
use Rattle.std.proofs.lemmas.Slice.Eq.{bytes_eq-Decides}
use Rattle.std.proofs.lemmas.Str.Ascii.{uppercase-uppercase}
use Rattle.plc_base.specs.declared.elem.Elem.{Elem}
use Rattle.plc_base.specs.declared.kind.Kind.{Kind}
use Rattle.plc_base.specs.declared.kind.Kind.TheVariants.{Word, Number, Truth, Span, Address, Symbol, Include, Left, End, Bad}
use Rattle.plc_base.specs.declared.refusal.Rule.TheVariants.{L3}
use Rattle.plc_spelling.specs.declared.literals.Owner.{Owner}
use Rattle.plc_spelling.specs.declared.literals.Owner.TheVariants as owned
use Rattle.plc_spelling.specs.Addresses.{letter, is_direction, are_numbers, is_star, numbers, address_kind}
use Rattle.plc_spelling.specs.Durations.{time, span_kind, duration_kind}
use Rattle.plc_spelling.specs.Integers.{is_number, value, digits_kind, integer_kind, negative_kind}
use Rattle.plc_spelling.specs.Literals.{owner_of, behind_hash, owned_kind, literal_kind}
use Rattle.plc_spelling.specs.Marks.{symbols, place_in, is_real, is_mark, marks}
use Rattle.plc_lex.specs.Names.{IsName, HasName}
use Rattle.plc_spelling.specs.Spelling.{Form, forms, passes, gives, kind_among, kind_of}
use Rattle.plc_spelling.specs.Spelling.Form.{Run, Integer, Literal, Address as AddressForm, Symbol as SymbolForm, Inclusion, Real, Mark}
use Rattle.plc_spelling.specs.Text.{is_nil, begins, begins_with, run_of, behind_run}
use Rattle.plc_spelling.specs.Words.{is_word_byte, is_run, stops, underscores_alone, is_left, capitals, named, run_kind}
use Rattle.plc_spelling.proofs.Runs.{run-passes}

-- what a spelling can spell: a word's name and what is left out are in capitals, and a symbol has a place
abbrev pub IsSpelt : Kind → Type 0
IsSpelt (Word name) = IsName name
IsSpelt (Left name) = capitals name ≡ name
IsSpelt (Symbol place) = place < 2 ^ 8
IsSpelt End = ⊥
IsSpelt (Address dir size numbers) = Unit {0}
IsSpelt (Include name) = Unit {0}
IsSpelt (Number value want) = Unit {0}
IsSpelt (Truth value) = Unit {0}
IsSpelt (Span value) = Unit {0}
IsSpelt (Bad rule) = Unit {0}

pub HasName-spelt : (kind : Kind) → IsSpelt kind → HasName kind
HasName-spelt (Word name) h = h
HasName-spelt (Left name) h = h
HasName-spelt (Symbol place) h = tt
HasName-spelt End h = tt
HasName-spelt (Address dir size numbers) h = tt
HasName-spelt (Include name) h = tt
HasName-spelt (Number value want) h = tt
HasName-spelt (Truth value) h = tt
HasName-spelt (Span value) h = tt
HasName-spelt (Bad rule) h = tt

-- ---- words

-- capitals keep underscores, digits and bytes of words
upper_underscore : (b : ℕ) → (to_ascii_uppercase b == 95) ≡ (b == 95)
upper_underscore b = grind (arith, nat_tests)

upper_digit : (b : ℕ) → is_ascii_digit b ≡ false → is_ascii_digit (to_ascii_uppercase b) ≡ false
upper_digit b h = grind (arith, nat_tests)

upper_word : (b : ℕ) → is_word_byte b ≡ true → is_word_byte (to_ascii_uppercase b) ≡ true
upper_word b h = grind (arith, nat_tests)

upper_stops : (run : List ℕ) → stops (capitals run) ≡ stops run
upper_stops [] = refl
upper_stops (b ∷ run) = upper_underscore b

upper_alone : (run : List ℕ) → underscores_alone (capitals run) ≡ underscores_alone run
upper_alone [] = refl
upper_alone (b ∷ run) =
    ap (λ t. not (t && stops (capitals run)) && underscores_alone (capitals run)) (upper_underscore b)
    ∙ ap (λ t. not ((b == 95) && t) && underscores_alone (capitals run)) (upper_stops run)
    ∙ ap (λ t. not ((b == 95) && stops run) && t) (upper_alone run)

upper_bytes : (run : List ℕ) → list_all is_word_byte run ≡ true → list_all is_word_byte (capitals run) ≡ true
upper_bytes [] h = refl
upper_bytes (b ∷ run) h =
    let parts = and_parts (is_word_byte b) (list_all is_word_byte run) h in
    and_from (is_word_byte (to_ascii_uppercase b)) (list_all is_word_byte (capitals run)) (upper_word b parts.0) (upper_bytes run parts.1)

upper_upper : (run : List ℕ) → capitals (capitals run) ≡ capitals run
upper_upper [] = refl
upper_upper (b ∷ run) = λ i. uppercase-uppercase b i ∷ upper_upper run i

upper_first : (run : List ℕ) → is_ascii_digit (get_or run 0 0) ≡ false → is_ascii_digit (get_or (capitals run) 0 0) ≡ false
upper_first [] h = h
upper_first (b ∷ run) h = upper_digit b h

not-true : (t : Bool) → not t ≡ true → t ≡ false
not-true true h = absurd cc
not-true false h = refl

some_in : (run : List ℕ) → not (is_nil run) ≡ true → 0 < length run
some_in [] h = absurd cc
some_in (b ∷ run) h = omega arith

name_of_run : (run : List ℕ) → is_run run ≡ true → underscores_alone run ≡ true → length run ≤ 64 → IsName (capitals run)
name_of_run run is alone short =
    let parts = and_parts (not (is_nil run) && not (is_ascii_digit (get_or run 0 0))) (list_all is_word_byte run) is in
    let front = and_parts (not (is_nil run)) (not (is_ascii_digit (get_or run 0 0))) parts.0 in
    record {
      some = omega (arith, some_in run front.0, length-map run to_ascii_uppercase);
      most = omega (arith, length-map run to_ascii_uppercase);
      alone = upper_alone run ∙ alone;
      bytes = upper_bytes run parts.1;
      no_digit = upper_first run (not-true (is_ascii_digit (get_or run 0 0)) front.1);
      capitals = upper_upper run;
    }

spelt-named : (name : List ℕ) → IsName name → IsSpelt (named name)
spelt-named name h =
    cond_both (bytes_eq name (codes "TRUE")) _ _ IsSpelt (λ _. tt) (λ _.
    cond_both (bytes_eq name (codes "FALSE")) _ _ IsSpelt (λ _. tt) (λ _.
    cond_both (is_left name) _ _ IsSpelt (λ _. h.capitals) (λ _. h)))

spelt-run : (run : List ℕ) → is_run run ≡ true → IsSpelt (run_kind run)
spelt-run run is =
    cond_both (not (underscores_alone run)) _ _ IsSpelt (λ _. tt) (λ alone.
    cond_both (nat_lt 64 (length run)) _ _ IsSpelt (λ _. tt) (λ short.
    spelt-named (capitals run) (name_of_run run is (not-false (underscores_alone run) alone) (ltb-false 64 (length run) short))))

-- ---- numbers, literals and addresses

spelt-digits : (want : Option Elem) (base : ℕ) (digits : List ℕ) → IsSpelt (digits_kind want base digits)
spelt-digits want base digits =
    cond_both (is_number base digits) _ _ IsSpelt (λ _. cond_both (nat_lt (value base digits) (2 ^ 64)) _ _ IsSpelt (λ _. tt) (λ _. tt)) (λ _. tt)

spelt-integer : (want : Option Elem) (bs : List ℕ) → IsSpelt (integer_kind want bs)
spelt-integer want bs =
    cond_both (begins (codes "2#") bs) _ _ IsSpelt (λ _. spelt-digits want 2 (drop 2 bs)) (λ _.
    cond_both (begins (codes "8#") bs) _ _ IsSpelt (λ _. spelt-digits want 8 (drop 2 bs)) (λ _.
    cond_both (begins (codes "16#") bs) _ _ IsSpelt (λ _. spelt-digits want 16 (drop 3 bs)) (λ _. spelt-digits want 10 bs)))

spelt-negative : (want : Option Elem) (digits : List ℕ) → IsSpelt (negative_kind want digits)
spelt-negative want digits = cond_both (nat_le (value 10 digits) (2 ^ 63)) _ _ IsSpelt (λ _. tt) (λ _. tt)

spelt-span : (negative : Bool) (n : ℕ) → IsSpelt (span_kind negative n)
spelt-span true n = cond_both (nat_le n (2 ^ 63)) _ _ IsSpelt (λ _. tt) (λ _. tt)
spelt-span false n = cond_both (nat_lt n (2 ^ 63)) _ _ IsSpelt (λ _. tt) (λ _. tt)

spelt-duration : (bs : List ℕ) → IsSpelt (duration_kind bs)
spelt-duration bs = at_time (time bs)
  where
    at_time : (found : Option ℕ) → IsSpelt (elim found [ None ↦ Bad L3 | Some n ↦ span_kind (begins_with 45 bs) n ])
    at_time None = tt
    at_time (Some n) = spelt-span (begins_with 45 bs) n

spelt-owned : (owner : Owner) (all bs : List ℕ) → IsSpelt (owned_kind owner all bs)
spelt-owned (owned.Bits elem) all bs = spelt-integer (Some elem) bs
spelt-owned (owned.Integer elem) all bs =
    cond_both (begins_with 45 bs) _ _ IsSpelt (λ _. spelt-negative (Some elem) (drop 1 bs)) (λ _. spelt-integer (Some elem) bs)
spelt-owned owned.Boolean all bs = cond_both (is_nil bs) _ _ IsSpelt (λ _. tt) (λ _. tt)
spelt-owned owned.Time all bs = spelt-duration bs
spelt-owned owned.LeftOut all bs = upper_upper all

spelt-literal : (bs : List ℕ) → IsSpelt (literal_kind bs)
spelt-literal bs = at_owner (owner_of bs)
  where
    at_owner : (found : Option Owner) → IsSpelt (elim found [ None ↦ Bad L3 | Some o ↦ owned_kind o bs (behind_hash bs) ])
    at_owner None = tt
    at_owner (Some o) = spelt-owned o bs (behind_hash bs)

spelt-address : (bs : List ℕ) → IsSpelt (address_kind bs)
spelt-address bs =
    cond_both (is_direction (letter (drop 1 bs)) && are_numbers (numbers bs)) _ _ IsSpelt (λ _. tt) (λ _.
    cond_both (is_direction (letter (drop 1 bs)) && is_star (numbers bs)) _ _ IsSpelt (λ _. upper_upper bs) (λ _. tt))

-- ---- symbols, and what is left out

place-within : (rows : List (List ℕ)) (bs : List ℕ) → place_in rows bs ≤ length rows
place-within [] bs = omega arith
place-within (row ∷ rows) bs = cond_both (bytes_eq row bs) 0 (suc (place_in rows bs)) (λ n. n ≤ length (row ∷ rows)) (λ _. omega arith) (λ _. omega (arith, place-within rows bs))

upper_digits : (bs : List ℕ) → list_all is_ascii_digit bs ≡ true → capitals bs ≡ bs
upper_digits [] h = refl
upper_digits (b ∷ bs) h =
    let parts = and_parts (is_ascii_digit b) (list_all is_ascii_digit bs) h in
    λ i. upper_of_digit b parts.0 i ∷ upper_digits bs parts.1 i
  where
    upper_of_digit : (b : ℕ) → is_ascii_digit b ≡ true → to_ascii_uppercase b ≡ b
    upper_of_digit b h = grind (arith, nat_tests)

-- behind the run stands nothing
whole_run : (bs : List ℕ) → is_nil (behind_run is_ascii_digit bs) ≡ true → list_all is_ascii_digit bs ≡ true
whole_run bs h = subst (λ xs. list_all is_ascii_digit xs ≡ true) same (run-passes is_ascii_digit bs)
  where
    nil : (xs : List ℕ) → is_nil xs ≡ true → xs ≡ []
    nil [] e = refl
    nil (x ∷ xs) e = absurd cc

    same : run_of is_ascii_digit bs ≡ bs
    same = sym (append-nil (run_of is_ascii_digit bs)) ∙ ap (λ xs. run_of is_ascii_digit bs ++ xs) (sym (nil (behind_run is_ascii_digit bs) h)) ∙ take-append-drop (prefix_len is_ascii_digit bs) bs

real-parts : (bs : List ℕ) → is_real bs ≡ true → (begins_with 46 (behind_run is_ascii_digit bs) ≡ true) × (is_nil (behind_run is_ascii_digit (drop 1 (behind_run is_ascii_digit bs))) ≡ true)
real-parts bs h =
    let last = and_parts _ _ h in
    let third = and_parts _ _ last.0 in
    let second = and_parts _ _ third.0 in
    (second.1, last.1)

upper_real : (bs : List ℕ) → is_real bs ≡ true → capitals bs ≡ bs
upper_real bs h =
    let (point, digits) = real-parts bs h in
    let whole : run_of is_ascii_digit bs ++ behind_run is_ascii_digit bs ≡ bs = take-append-drop (prefix_len is_ascii_digit bs) bs in
    subst (λ xs. capitals xs ≡ xs) whole
    (map-append to_ascii_uppercase (run_of is_ascii_digit bs) (behind_run is_ascii_digit bs)
    ∙ ap (λ xs. xs ++ capitals (behind_run is_ascii_digit bs)) (upper_digits (run_of is_ascii_digit bs) (run-passes is_ascii_digit bs))
    ∙ ap (λ xs. run_of is_ascii_digit bs ++ xs) (upper_fraction (behind_run is_ascii_digit bs) point digits))
  where
    upper_fraction : (xs : List ℕ) → begins_with 46 xs ≡ true → is_nil (behind_run is_ascii_digit (drop 1 xs)) ≡ true → capitals xs ≡ xs
    upper_fraction [] point digits = refl
    upper_fraction (x ∷ xs) point digits =
        let is : x ≡ 46 = eqb-true x 46 point in
        λ i. (ap to_ascii_uppercase is ∙ sym is) i ∷ upper_digits xs (whole_run xs digits) i

-- these rows are in capitals
abbrev InCapitals : List (List ℕ) → Type 0
InCapitals [] = Unit {0}
InCapitals (row ∷ rows) = (capitals row ≡ row) × InCapitals rows

upper_among : (table : List (List ℕ)) (bs : List ℕ) → InCapitals table → list_any (λ row. bytes_eq row bs) table ≡ true → capitals bs ≡ bs
upper_among [] bs plain h = absurd (let i : false ≡ true = h in cc)
upper_among (row ∷ rows) bs plain h = ⊎_elim
    (λ same. subst (λ xs. capitals xs ≡ xs) ((bytes_eq-Decides row bs).0 same) plain.0)
    (λ other. upper_among rows bs plain.1 other)
    (or_cases (bytes_eq row bs) (list_any (λ row. bytes_eq row bs) rows) h)

upper_mark : (bs : List ℕ) → is_mark bs ≡ true → capitals bs ≡ bs
upper_mark bs h = upper_among marks bs (refl, (refl, (refl, (refl, tt)))) h

-- ---- any spelling

spelt-form : (f : Form) (bs : List ℕ) → passes bs f ≡ true → IsSpelt (gives bs f)
spelt-form Run bs is = spelt-run bs is
spelt-form Integer bs is = spelt-integer None bs
spelt-form Literal bs is = spelt-literal bs
spelt-form AddressForm bs is = spelt-address bs
spelt-form SymbolForm bs is = omega (arith, place-within symbols bs)
spelt-form Inclusion bs is = tt
spelt-form Real bs is = upper_real bs is
spelt-form Mark bs is = upper_mark bs is

spelt-among : (fs : List Form) (bs : List ℕ) → IsSpelt (kind_among fs bs)
spelt-among [] bs = tt
spelt-among (f ∷ fs) bs = cond_both (passes bs f) _ _ IsSpelt (λ is. spelt-form f bs is) (λ _. spelt-among fs bs)

pub spelt-kind : (bs : List ℕ) → IsSpelt (kind_of bs)
spelt-kind bs = spelt-among forms bs
