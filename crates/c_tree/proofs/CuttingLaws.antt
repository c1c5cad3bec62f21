-- A token that is spelled and not run on is what its spelling is cut into.
use Rattle.std.proofs.Common.{◌≡◌, refl, sym, ap, ◌∙◌, subst, ℕ, zero, suc, ◌+◌, ◌-◌, ◌<◌, ◌≤◌, ◌^◌, ◌%◌, Bool, true, false, ◌&&◌, ◌||◌, List, [], ◌∷◌, ◌++◌, append_assoc, drop, length, get_or, arith}
use Rattle.std.specs.Prelude.{Some, option_to_list, nat_lt, nat_le, ◌==◌, decimal}
use Rattle.std.specs.Str.Parse.{digits_value}
use Rattle.std.proofs.lemmas.Bool.Decides.{nat_tests}
use Rattle.std.proofs.lemmas.Fmt.{decimal_by_steps, decimal_is_IsNumeral, decimal_nonempty, first_decimal, decimal_digit}
use Rattle.std.proofs.Math.Seq.{drop-append_seam}
use Rattle.c_tree.specs.declared.tree.CNum.{CNum}
use Rattle.c_tree.specs.declared.tree.CNum.TheVariants.{Int, LL, ULL}
use Rattle.c_tree.specs.declared.sign.Sign.{Sign}
use Rattle.c_tree.specs.declared.sign.Sign.TheVariants.{Arrow, Minus, Less, Greater, Assign, Bang}
use Rattle.c_tree.specs.CTokens.{CTok, Include, Word, Number, Mark, include_line, sign_text, suffix, most, spelled, is_digit, is_letter, is_word_byte, is_blank, Letter, Digit, byte_kind, run_of, all_signs, sign_at, mark_at, suffix_at, leads_with_zero, number_of, number_at, token_of, token_at, bytes_more, cut_from, cut, cut_first, are_word_bytes, IsName, IsOfKind}

-- ---- tests

pub and_left : (a b : Bool) → (a && b) ≡ true → a ≡ true
and_left true b h = refl
and_left false b h = h

pub and_right : (a b : Bool) → (a && b) ≡ true → b ≡ true
and_right true b h = h
and_right false b h = cc

or_right : (a b : Bool) → (a || b) ≡ false → b ≡ false
or_right true b h = cc
or_right false b h = h

-- whether a sign may go on with this byte
abbrev pub goes_on : ℕ → Bool
goes_on b = nat_le 60 b && nat_le b 62

letter_not_blank : (b : ℕ) → is_letter b ≡ true → is_blank b ≡ false
letter_not_blank b h = grind (arith, nat_tests)

letter_not_digit : (b : ℕ) → is_letter b ≡ true → is_digit b ≡ false
letter_not_digit b h = grind (arith, nat_tests)

pub letter_not_on : (b : ℕ) → is_letter b ≡ true → goes_on b ≡ false
letter_not_on b h = grind (arith, nat_tests)

digit_not_blank : (b : ℕ) → is_digit b ≡ true → is_blank b ≡ false
digit_not_blank b h = grind (arith, nat_tests)

pub digit_not_on : (b : ℕ) → is_digit b ≡ true → goes_on b ≡ false
digit_not_on b h = grind (arith, nat_tests)

digit_of : (m : ℕ) → m < 10 → is_digit (48 + m) ≡ true
digit_of m h = grind (arith, nat_tests)

not_u : (b : ℕ) → is_word_byte b ≡ false → (85 == b) ≡ false
not_u b h = grind (arith, nat_tests)

not_l : (b : ℕ) → is_word_byte b ≡ false → (76 == b) ≡ false
not_l b h = grind (arith, nat_tests)

not_less : (b : ℕ) → goes_on b ≡ false → (60 == b) ≡ false
not_less b h = grind (arith, nat_tests)

not_equal : (b : ℕ) → goes_on b ≡ false → (61 == b) ≡ false
not_equal b h = grind (arith, nat_tests)

not_greater : (b : ℕ) → goes_on b ≡ false → (62 == b) ≡ false
not_greater b h = grind (arith, nat_tests)

letter_kind : (b : ℕ) → is_letter b ≡ true → byte_kind b ≡ Letter
letter_kind b h = rw (letter_not_blank b h, letter_not_digit b h, h) refl

digit_kind : (b : ℕ) → is_digit b ≡ true → byte_kind b ≡ Digit
digit_kind b h = rw (digit_not_blank b h, h) refl

-- ---- runs of bytes

abbrev pub Passes : (ℕ → Bool) → List ℕ → Type 0
Passes test [] = Unit {0}
Passes test (b ∷ bs) = (test b ≡ true) × Passes test bs

-- what stands next fails a test
abbrev pub Stops : (ℕ → Bool) → List ℕ → Type 0
Stops test [] = Unit {0}
Stops test (b ∷ rest) = test b ≡ false

run_of-all : (test : ℕ → Bool) (bs rest : List ℕ) → Passes test bs → Stops test rest → run_of test (bs ++ rest) ≡ bs
run_of-all test [] [] h s = refl
run_of-all test [] (b ∷ rest) h s = rw s refl
run_of-all test (b ∷ bs) rest h s = rw h.0 (ap (λ (ys : List ℕ). b ∷ ys) (run_of-all test bs rest h.1 s))

passes_append : (test : ℕ → Bool) (xs ys : List ℕ) → Passes test xs → Passes test ys → Passes test (xs ++ ys)
passes_append test [] ys h k = k
passes_append test (x ∷ xs) ys h k = (h.0, passes_append test xs ys h.1 k)

passes_word : (bs : List ℕ) → are_word_bytes bs ≡ true → Passes is_word_byte bs
passes_word [] h = tt
passes_word (b ∷ bs) h = (and_left (is_word_byte b) (are_word_bytes bs) h, passes_word bs (and_right (is_word_byte b) (are_word_bytes bs) h))

stops_digit : (rest : List ℕ) → Stops is_word_byte rest → Stops is_digit rest
stops_digit [] s = tt
stops_digit (b ∷ rest) s = or_right (is_letter b) (is_digit b) s

pub decimal_passes : (n : ℕ) → n < 2 ^ 64 → Passes is_digit (decimal n)
decimal_passes n h =
    decimal_by_steps (λ m ds. Passes is_digit ds)
    (λ m lt. (digit_of m lt, tt))
    (λ m ds le before. passes_append is_digit ds ((48 + m % 10) ∷ []) before (digit_of (m % 10) (omega arith), tt))
    n h

-- ---- one token of a text

cut_past : (bs rest : List ℕ) → cut_from (length bs) (bs ++ rest) ≡ cut rest
cut_past [] rest = refl
cut_past (b ∷ bs) rest = cut_past bs rest

one_less : (n : ℕ) → suc n - 1 ≡ n
one_less n = omega arith

cut_token : (t : CTok) (b : ℕ) (bs rest : List ℕ) → spelled t ≡ b ∷ bs → token_at b (bs ++ rest) ≡ Some t → cut (b ∷ (bs ++ rest)) ≡ t ∷ cut rest
cut_token t b bs rest e h =
    ap (λ o. option_to_list o ++ cut_from (bytes_more o) (bs ++ rest)) h
    ∙ ap (λ (xs : List ℕ). t ∷ cut_from (length xs - 1) (bs ++ rest)) e
    ∙ ap (λ n. t ∷ cut_from n (bs ++ rest)) (one_less (length bs))
    ∙ ap (λ (ts : List CTok). t ∷ ts) (cut_past bs rest)

pub cut_word : (bytes rest : List ℕ) → IsName bytes → Stops is_word_byte rest → cut (bytes ++ rest) ≡ Word bytes ∷ cut rest
cut_word [] rest h s = cc
cut_word (b ∷ bs) rest h s =
    cut_token (Word (b ∷ bs)) b bs rest refl
    (ap (λ k. token_of k b (bs ++ rest)) (letter_kind b (and_left (is_letter b) (are_word_bytes bs) h))
    ∙ ap (λ (r : List ℕ). Some (Word (b ∷ r))) (run_of-all is_word_byte bs rest (passes_word bs (and_right (is_letter b) (are_word_bytes bs) h)) s))

suffix_at_is : (kind : CNum) (rest : List ℕ) → Stops is_word_byte rest → suffix_at (suffix kind ++ rest) ≡ kind
suffix_at_is Int [] s = refl
suffix_at_is Int (b ∷ rest) s = rw (not_u b s, not_l b s) refl
suffix_at_is LL rest s = refl
suffix_at_is ULL rest s = refl

suffix_stops : (kind : CNum) (rest : List ℕ) → Stops is_word_byte rest → Stops is_digit (suffix kind ++ rest)
suffix_stops Int rest s = stops_digit rest s
suffix_stops LL rest s = refl
suffix_stops ULL rest s = refl

above_zero : (d : ℕ) → 48 < d → (d == 48) ≡ false
above_zero d h = grind (arith, nat_tests)

no_zero : (n : ℕ) (ds : List ℕ) → n < 2 ^ 64 → decimal n ≡ ds → leads_with_zero ds ≡ false
no_zero n [] h e = refl
no_zero n (d ∷ []) h e = refl
no_zero zero (d ∷ c ∷ more) h e =
    let one = decimal_digit 0 (omega arith) in
    cc
no_zero (suc n) (d ∷ c ∷ more) h e = above_zero d (subst (λ (ds : List ℕ). 48 < get_or ds 0 0) e (first_decimal (suc n) (omega arith) h))

not_past : (n m : ℕ) → n ≤ m → nat_lt m n ≡ false
not_past n m h = grind (arith, nat_tests)

pub of_kind_small : (n : ℕ) (kind : CNum) → IsOfKind n kind → n < 2 ^ 64
of_kind_small n Int h = omega arith
of_kind_small n LL h = omega arith
of_kind_small n ULL h = omega arith

number_of_is : (n : ℕ) (kind : CNum) (ds : List ℕ) → IsOfKind n kind → decimal n ≡ ds → number_of ds kind ≡ Number n kind
number_of_is n kind ds h e =
    let small = of_kind_small n kind h in
    let value : digits_value 10 ds ≡ n = ap (digits_value 10) (sym e) ∙ (decimal_is_IsNumeral n small).1 in
    rw (no_zero n ds small e, value, not_past n (most kind) h) refl

cut_digits : (n : ℕ) (kind : CNum) (ds rest : List ℕ) → IsOfKind n kind → decimal n ≡ ds → Stops is_word_byte rest → cut ((ds ++ suffix kind) ++ rest) ≡ Number n kind ∷ cut rest
cut_digits n kind [] rest h e s =
    let small = of_kind_small n kind h in
    let some = decimal_nonempty n small in
    absurd (omega (arith, some, ap length e))
cut_digits n kind (d ∷ ds) rest h e s =
    let small = of_kind_small n kind h in
    let passes : Passes is_digit (d ∷ ds) = subst (Passes is_digit) e (decimal_passes n small) in
    let behind : (ds ++ suffix kind) ++ rest ≡ ds ++ (suffix kind ++ rest) = append_assoc ds (suffix kind) rest in
    let run : run_of is_digit ((ds ++ suffix kind) ++ rest) ≡ ds = ap (run_of is_digit) behind ∙ run_of-all is_digit ds (suffix kind ++ rest) passes.1 (suffix_stops kind rest s) in
    let left : drop (length ds) ((ds ++ suffix kind) ++ rest) ≡ suffix kind ++ rest = ap (drop (length ds)) behind ∙ drop-append_seam ds (suffix kind ++ rest) in
    cut_token (Number n kind) d (ds ++ suffix kind) rest (ap (λ (xs : List ℕ). xs ++ suffix kind) e)
    (ap (λ k. token_of k d ((ds ++ suffix kind) ++ rest)) (digit_kind d passes.0)
    ∙ ap (λ (r : List ℕ). Some (number_at (d ∷ r) (d ∷ ((ds ++ suffix kind) ++ rest)))) run
    ∙ ap (λ (xs : List ℕ). Some (number_of (d ∷ ds) (suffix_at xs))) left
    ∙ ap (λ k. Some (number_of (d ∷ ds) k)) (suffix_at_is kind rest s)
    ∙ ap Some (number_of_is n kind (d ∷ ds) h e))

pub cut_number : (n : ℕ) (kind : CNum) (rest : List ℕ) → IsOfKind n kind → Stops is_word_byte rest → cut ((decimal n ++ suffix kind) ++ rest) ≡ Number n kind ∷ cut rest
cut_number n kind rest h s = cut_digits n kind (decimal n) rest h refl s

sign_at_is : (s : Sign) (rest : List ℕ) → Stops goes_on rest → sign_at all_signs (sign_text s ++ rest) ≡ Some s
sign_at_is Minus [] h = refl
sign_at_is Minus (b ∷ rest) h = rw (not_greater b h) refl
sign_at_is Less [] h = refl
sign_at_is Less (b ∷ rest) h = rw (not_less b h, not_equal b h) refl
sign_at_is Greater [] h = refl
sign_at_is Greater (b ∷ rest) h = rw (not_greater b h, not_equal b h) refl
sign_at_is Assign [] h = refl
sign_at_is Assign (b ∷ rest) h = rw (not_equal b h) refl
sign_at_is Bang [] h = refl
sign_at_is Bang (b ∷ rest) h = rw (not_equal b h) refl
sign_at_is s rest h = refl

first_byte : List ℕ → ℕ
first_byte [] = 0
first_byte (b ∷ bs) = b

pub cut_mark : (s : Sign) (rest : List ℕ) → Stops goes_on rest → cut (sign_text s ++ rest) ≡ Mark s ∷ cut rest
unfolding first_byte
cut_mark Arrow rest h = cut_token (Mark Arrow) 45 (62 ∷ []) rest refl (ap (λ o. Some (mark_at o 45)) (sign_at_is Arrow rest h))
cut_mark s rest h = cut_token (Mark s) (first_byte (sign_text s)) (drop 1 (sign_text s)) rest refl (ap (λ o. Some (mark_at o (first_byte (sign_text s)))) (sign_at_is s rest h))

pub cut_include : (rest : List ℕ) → cut_first (include_line ++ rest) ≡ Include ∷ cut rest
cut_include rest = refl
