-- Which forms of tokens can begin with a byte.
use Rattle.std.proofs.Common.{◌≡◌, ℕ, ◌+◌, ◌<◌, Bool, true, false, not, ◌||◌, ◌&&◌, ◌==◌, List, [], ◌∷◌, length, take, get_or, map, refl, ap, subst, ◌∙◌, arith, one-add, ⊎_elim, if◌then◌else◌}
use Rattle.std.specs.Prelude.{codes, bytes_eq, Option, Some, None, is_some}
use Rattle.std.specs.Char.{is_ascii_digit, is_ascii_uppercase, is_digit, to_ascii_lowercase}
use Rattle.std.specs.List.{list_any, list_all, prefix_len}
use Rattle.std.specs.Str.{str_eq_ignore_ascii_case}
use Rattle.std.proofs.lemmas.Bool.{cases_Bool, both_ways, or_cases, or_left, and_parts, and_from, false_from_ne_true, eq-eqb, cond-true, cond-false}
use Rattle.std.proofs.lemmas.Bool.Decides.{nat_tests}
use Rattle.std.proofs.lemmas.Slice.Eq.{bytes_eq-Decides}
use Rattle.plc_spelling.specs.Addresses.{is_address}
use Rattle.plc_spelling.specs.FirstBytes.{begins_word, begins_row, may_begin}
use Rattle.plc_spelling.specs.Integers.{is_number, is_based, is_integer}
use Rattle.plc_spelling.specs.Literals.{is_literal, owner_of, owner_in, owners, Owning, may_follow, behind_hash}
use Rattle.plc_spelling.specs.declared.literals.Owner.{Owner}
use Rattle.plc_spelling.specs.declared.literals.Owner.TheVariants.{LeftOut}
use Rattle.plc_spelling.specs.Marks.{symbols, marks, is_inclusion, is_real}
use Rattle.plc_spelling.specs.Spelling.{Form, passes}
use Rattle.plc_spelling.specs.Spelling.Form.{Run, Integer, Literal, Address, Symbol, Inclusion, Real, Mark}
use Rattle.plc_spelling.specs.Text.{is_nil, begins, begins_with, apart, run_of, behind_run}
use Rattle.plc_spelling.specs.Words.{is_word_byte, is_run, is_left, left_words}

-- ---- tables

row-first : (table : List (List ℕ)) (b : ℕ) (bs : List ℕ) → list_any (λ row. bytes_eq row (b ∷ bs)) table ≡ true → begins_row table b ≡ true
row-first [] b bs h = h
row-first (row ∷ rows) b bs h = ⊎_elim (λ e. here row ((bytes_eq-Decides row (b ∷ bs)).0 e)) (λ e. there (row-first rows b bs e)) (or_cases (bytes_eq row (b ∷ bs)) (list_any (λ row. bytes_eq row (b ∷ bs)) rows) h)
  where
    here : (row : List ℕ) → row ≡ b ∷ bs → ((get_or row 0 0 == b) || begins_row rows b) ≡ true
    here row e = ap (λ t. t || begins_row rows b) (eq-eqb (get_or row 0 0) b (ap (λ xs. get_or xs 0 0) e))

    there : begins_row rows b ≡ true → ((get_or row 0 0 == b) || begins_row rows b) ≡ true
    there e = elim (get_or row 0 0 == b) as (λ t. (t || begins_row rows b) ≡ true) [ true ↦ refl | false ↦ e ]

-- ---- letters of either case

same-first : (m : ℕ) (ms word : List ℕ) → str_eq_ignore_ascii_case (m ∷ ms) word ≡ true → to_ascii_lowercase m ≡ to_ascii_lowercase (get_or word 0 0)
same-first m ms [] h = absurd (let no = (bytes_eq-Decides (map to_ascii_lowercase (m ∷ ms)) []).0 h in cc)
same-first m ms (b ∷ bs) h = ap (λ xs. get_or xs 0 0) ((bytes_eq-Decides (map to_ascii_lowercase (m ∷ ms)) (map to_ascii_lowercase (b ∷ bs))).0 h)

begins-first : (m : ℕ) (ms : List ℕ) (b : ℕ) (bs : List ℕ) → begins (m ∷ ms) (b ∷ bs) ≡ true → to_ascii_lowercase m ≡ to_ascii_lowercase b
begins-first m ms b bs h = same-first m ms (b ∷ take (length ms) bs) h

lower_digit : (m b : ℕ) → is_ascii_digit m ≡ true → to_ascii_lowercase m ≡ to_ascii_lowercase b → is_ascii_digit b ≡ true
lower_digit m b h e = grind (arith, nat_tests)

lower_letter : (m b : ℕ) → is_ascii_uppercase m ≡ true → to_ascii_lowercase m ≡ to_ascii_lowercase b → begins_word b ≡ true
lower_letter m b h e = grind (arith, nat_tests)

names-first : (names : List (List ℕ)) (word : List ℕ) → list_all (λ name. is_ascii_uppercase (get_or name 0 0)) names ≡ true
    → list_any (λ name. str_eq_ignore_ascii_case name word) names ≡ true → begins_word (get_or word 0 0) ≡ true
names-first [] word all h = absurd (let no : false ≡ true = h in cc)
names-first (name ∷ names) word all h =
    let parts = and_parts (is_ascii_uppercase (get_or name 0 0)) _ all in
    ⊎_elim (λ e. by name parts.0 e) (λ e. names-first names word parts.1 e) (or_cases (str_eq_ignore_ascii_case name word) _ h)
  where
    by : (name : List ℕ) → is_ascii_uppercase (get_or name 0 0) ≡ true → str_eq_ignore_ascii_case name word ≡ true → begins_word (get_or word 0 0) ≡ true
    by [] upper e = absurd (let no : false ≡ true = upper in cc)
    by (m ∷ ms) upper e = lower_letter m (get_or word 0 0) upper (same-first m ms word e)

-- ---- runs

-- a run that isn't empty begins with a byte of its class
run_of-first : (class : ℕ → Bool) (b : ℕ) (bs : List ℕ) → 0 < length (run_of class (b ∷ bs)) → class b ≡ true
run_of-first class b bs some = ⊎_elim (λ e. e) (λ e. absurd (none e some)) (cases_Bool (class b))
  where
    none : class b ≡ false → 0 < length (run_of class (b ∷ bs)) → ⊥
    none e some = let empty : prefix_len class (b ∷ bs) ≡ 0 = cond-false (class b) (1 + prefix_len class bs) 0 e in
        omega (arith, subst (λ n. 0 < length (take n (b ∷ bs))) empty some)

run_of-head : (class : ℕ → Bool) (b : ℕ) (bs : List ℕ) → class b ≡ true → get_or (run_of class (b ∷ bs)) 0 0 ≡ b
run_of-head class b bs e = ap (λ n. get_or (take n (b ∷ bs)) 0 0) (cond-true (class b) (1 + prefix_len class bs) 0 e ∙ one-add (prefix_len class bs))

-- ---- form by form

run-first : (b : ℕ) (bs : List ℕ) → is_run (b ∷ bs) ≡ true → begins_word b ≡ true
run-first b bs h =
    let parts = and_parts (not (is_nil (b ∷ bs)) && not (is_ascii_digit b)) (list_all is_word_byte (b ∷ bs)) h in
    and_from (is_word_byte b) (not (is_ascii_digit b)) (and_parts (is_word_byte b) (list_all is_word_byte bs) parts.1).0 parts.0

apart-first : (class : ℕ → Bool) (separator b : ℕ) (bs : List ℕ) → apart class separator (b ∷ bs) ≡ true → class b ≡ true
apart-first class separator b [] h = h
apart-first class separator b (c ∷ bs) h = (and_parts (class b) _ h).0

decimal_digit : (b : ℕ) → is_digit b 10 ≡ true → is_ascii_digit b ≡ true
decimal_digit b h = grind (arith, nat_tests)

number-first : (b : ℕ) (bs : List ℕ) → is_number 10 (b ∷ bs) ≡ true → is_ascii_digit b ≡ true
number-first b bs h = decimal_digit b (apart-first (λ b. is_digit b 10) 95 b bs h)

based-first : (base m : ℕ) (ms : List ℕ) (b : ℕ) (bs : List ℕ) → is_ascii_digit m ≡ true → is_based base (m ∷ ms) (b ∷ bs) ≡ true → is_ascii_digit b ≡ true
based-first base m ms b bs digit h = lower_digit m b digit (begins-first m ms b bs (and_parts (begins (m ∷ ms) (b ∷ bs)) _ h).0)

integer-first : (b : ℕ) (bs : List ℕ) → is_integer (b ∷ bs) ≡ true → is_ascii_digit b ≡ true
integer-first b bs h =
    ⊎_elim (λ f. ⊎_elim (λ g. ⊎_elim (λ k. number-first b bs k) (λ k. based-first 2 50 (35 ∷ []) b bs refl k)
    (or_cases (is_number 10 (b ∷ bs)) (is_based 2 (codes "2#") (b ∷ bs)) g))
    (λ g. based-first 8 56 (35 ∷ []) b bs refl g)
    (or_cases (is_number 10 (b ∷ bs) || is_based 2 (codes "2#") (b ∷ bs)) (is_based 8 (codes "8#") (b ∷ bs)) f))
    (λ f. based-first 16 49 (54 ∷ 35 ∷ []) b bs refl f)
    (or_cases ((is_number 10 (b ∷ bs) || is_based 2 (codes "2#") (b ∷ bs)) || is_based 8 (codes "8#") (b ∷ bs)) (is_based 16 (codes "16#") (b ∷ bs)) h)

-- an owner is a word of a table
owner_in-first : (rows : List Owning) (word : List ℕ) → list_all (λ r. is_ascii_uppercase (get_or r.word 0 0)) rows ≡ true
    → is_some (owner_in rows word) ≡ true → begins_word (get_or word 0 0) ≡ true
owner_in-first [] word all h = ⊎_elim (λ e. names-first left_words word refl e) (λ e. absurd (no e h)) (cases_Bool (is_left word))
  where
    no : is_left word ≡ false → is_some (if is_left word then Some LeftOut else None) ≡ true → ⊥
    no e h = let same : is_some (if is_left word then Some LeftOut else None) ≡ false = ap (λ t. is_some (if t then Some LeftOut else None)) e in both_ways _ same h
owner_in-first (r ∷ rows) word all h =
    let parts = and_parts (is_ascii_uppercase (get_or r.word 0 0)) _ all in
    ⊎_elim (λ e. names-first (r.word ∷ []) word (and_from (is_ascii_uppercase (get_or r.word 0 0)) true parts.0 refl) (or_left (str_eq_ignore_ascii_case r.word word) false e))
    (λ e. owner_in-first rows word parts.1 (subst (λ x. is_some x ≡ true) (cond-false (str_eq_ignore_ascii_case r.word word) (Some r.owner) (owner_in rows word) e) h))
    (cases_Bool (str_eq_ignore_ascii_case r.word word))

owned : (b : ℕ) (bs : List ℕ) → is_literal (b ∷ bs) ≡ true → is_some (owner_of (b ∷ bs)) ≡ true
owned b bs h = by (owner_of (b ∷ bs)) (and_parts (begins_with 35 (behind_run is_word_byte (b ∷ bs))) _ h).1
  where
    by : (o : Option Owner) → elim o [ None ↦ false | Some o ↦ may_follow o (behind_hash (b ∷ bs)) ] ≡ true → is_some o ≡ true
    by None e = e
    by (Some o) e = refl

literal-first : (b : ℕ) (bs : List ℕ) → is_literal (b ∷ bs) ≡ true → begins_word b ≡ true
literal-first b bs h = ⊎_elim (λ e. subst (λ c. begins_word c ≡ true) (run_of-head is_word_byte b bs e) first) (λ e. absurd (none e)) (cases_Bool (is_word_byte b))
  where
    first : begins_word (get_or (run_of is_word_byte (b ∷ bs)) 0 0) ≡ true
    first = owner_in-first owners (run_of is_word_byte (b ∷ bs)) refl (owned b bs h)

    none : is_word_byte b ≡ false → ⊥
    none e =
        let empty : prefix_len is_word_byte (b ∷ bs) ≡ 0 = cond-false (is_word_byte b) (1 + prefix_len is_word_byte bs) 0 e in
        let no : begins_word 0 ≡ true = subst (λ n. begins_word (get_or (take n (b ∷ bs)) 0 0) ≡ true) empty first in
        cc

address-first : (b : ℕ) (bs : List ℕ) → is_address (b ∷ bs) ≡ true → (b == 37) ≡ true
address-first b bs h = (and_parts (b == 37) _ h).0

inclusion-first : (b : ℕ) (bs : List ℕ) → is_inclusion (b ∷ bs) ≡ true → (b == 123) ≡ true
inclusion-first b bs h = bracket b (begins-first 123 (codes "#include") b bs (all_first h))
  where
    bracket : (b : ℕ) → to_ascii_lowercase 123 ≡ to_ascii_lowercase b → (b == 123) ≡ true
    bracket b e = grind (arith, nat_tests)

    all_first : is_inclusion (b ∷ bs) ≡ true → begins (codes "{#include") (b ∷ bs) ≡ true
    all_first h = (and_parts _ _ (and_parts _ _ (and_parts _ _ (and_parts _ _ (and_parts _ _ h).0).0).0).0).0

real-first : (b : ℕ) (bs : List ℕ) → is_real (b ∷ bs) ≡ true → is_ascii_digit b ≡ true
real-first b bs h = run_of-first is_ascii_digit b bs (some (run_of is_ascii_digit (b ∷ bs)) (and_parts _ _ (and_parts _ _ (and_parts _ _ h).0).0).0)
  where
    some : (run : List ℕ) → not (is_nil run) ≡ true → 0 < length run
    some [] e = absurd (let no : false ≡ true = e in cc)
    some (c ∷ cs) e = omega arith

-- a spelling of a form begins with a byte that may begin it
pub form-first : (f : Form) (b : ℕ) (bs : List ℕ) → passes (b ∷ bs) f ≡ true → may_begin f b ≡ true
form-first Run b bs h = run-first b bs h
form-first Integer b bs h = integer-first b bs h
form-first Literal b bs h = literal-first b bs h
form-first Address b bs h = address-first b bs h
form-first Symbol b bs h = row-first symbols b bs h
form-first Inclusion b bs h = inclusion-first b bs h
form-first Real b bs h = real-first b bs h
form-first Mark b bs h = row-first marks b bs h

-- and with none that may not
pub form-not : (f : Form) (b : ℕ) (bs : List ℕ) → may_begin f b ≡ false → passes (b ∷ bs) f ≡ false
form-not f b bs e = false_from_ne_true (passes (b ∷ bs) f) (λ h. both_ways (may_begin f b) e (form-first f b bs h))
