-- The kind of the longest spelling, by the class of its first byte.
use Rattle.std.proofs.Common.{◌≡◌, ℕ, zero, suc, ◌+◌, ◌≤◌, ◌<◌, ◌≢◌, Bool, true, false, not, ◌||◌, ◌&&◌, ◌==◌, List, [], ◌∷◌, length, take, drop, get_or, refl, sym, ap, subst, ◌∙◌, arith, length-take, one-add, ⊎_elim}
use Rattle.std.specs.Prelude.{codes, bytes_eq, None}
use Rattle.std.specs.Char.{is_ascii_digit, is_digit}
use Rattle.std.specs.List.{list_any, list_all, prefix_len}
use Rattle.std.proofs.lemmas.List.{take-append-drop}
use Rattle.std.proofs.lemmas.List.Sums.{prefix_len-le-length}
use Rattle.std.proofs.lemmas.Bool.{both_ways, or_cases, or_left, or_right, and_parts, and_from, false_from_ne_true, cond-true, cond-false, eqb-true, not-true}
use Rattle.std.proofs.lemmas.Bool.Decides.{nat_tests}
use Rattle.std.proofs.lemmas.Slice.Eq.{bytes_eq-Decides}
use Rattle.plc_base.specs.declared.kind.Kind.{Kind}
use Rattle.plc_base.specs.declared.kind.Kind.TheVariants.{Left, End, Bad}
use Rattle.plc_base.specs.declared.refusal.Rule.TheVariants.{L1}
use Rattle.plc_spelling.specs.Addresses.{is_address, address_kind}
use Rattle.plc_spelling.specs.FirstBytes.{may_begin, begins_word, begins_row}
use Rattle.plc_spelling.specs.Integers.{is_number, is_based, is_integer, integer_kind}
use Rattle.plc_spelling.specs.Literals.{is_literal, literal_kind}
use Rattle.plc_spelling.specs.Marks.{symbols, marks, is_symbol, symbol_kind, is_mark, is_inclusion, inclusion_kind, is_real}
use Rattle.plc_spelling.specs.Spelling.{Form, passes, gives, kind_among, kind_of, size, first_kind}
use Rattle.plc_spelling.specs.Spelling.Form.{Run, Integer, Literal, Address, Symbol, Inclusion, Real, Mark}
use Rattle.plc_spelling.specs.Text.{IsGreatest}
use Rattle.plc_spelling.specs.Words.{is_word_byte, is_run, run_kind}
use Rattle.plc_spelling.proofs.FirstBytes.{form-not}
use Rattle.plc_spelling.proofs.Runs.{run-passes, run-longest}
use Rattle.plc_spelling.proofs.Forms.{HasBounds, Bounds, size-spelled, size-none, bounds-of, bounds-not}

-- ---- kinds

-- the forms behind one in their order
abbrev after_real : List Form
after_real = Mark ∷ []

abbrev after_inclusion : List Form
after_inclusion = Real ∷ after_real

abbrev after_symbol : List Form
after_symbol = Inclusion ∷ after_inclusion

abbrev after_address : List Form
after_address = Symbol ∷ after_symbol

abbrev after_literal : List Form
after_literal = Address ∷ after_address

abbrev after_integer : List Form
after_integer = Literal ∷ after_literal

abbrev after_run : List Form
after_run = Integer ∷ after_integer

kind-here : (f : Form) (fs : List Form) (bs : List ℕ) → passes bs f ≡ true → kind_among (f ∷ fs) bs ≡ gives bs f
kind-here f fs bs h = cond-true (passes bs f) (gives bs f) (kind_among fs bs) h

kind-next : (f : Form) (fs : List Form) (bs : List ℕ) → passes bs f ≡ false → kind_among (f ∷ fs) bs ≡ kind_among fs bs
kind-next f fs bs h = cond-false (passes bs f) (gives bs f) (kind_among fs bs) h

-- a property of each row of a table
abbrev Each : (List ℕ → Type 0) → List (List ℕ) → Type 0
Each P [] = Unit {0}
Each P (row ∷ rows) = P row × Each P rows

each-row : (P : List ℕ → Type 0) (table : List (List ℕ)) (bs : List ℕ) → Each P table → list_any (λ row. bytes_eq row bs) table ≡ true → P bs
each-row P [] bs all h = absurd (let no : false ≡ true = h in cc)
each-row P (row ∷ rows) bs all h = ⊎_elim (λ e. subst P ((bytes_eq-Decides row bs).0 e) all.0) (λ e. each-row P rows bs all.1 e) (or_cases (bytes_eq row bs) _ h)

pub kind-symbol : (bs : List ℕ) → is_symbol bs ≡ true → kind_of bs ≡ symbol_kind bs
kind-symbol bs h = each-row (λ bs. kind_of bs ≡ symbol_kind bs) symbols bs (refl, (refl, (refl, (refl, (refl, (refl, (refl, (refl, (refl, (refl, (refl, (refl, (refl, (refl, (refl, (refl, (refl, (refl, (refl, (refl, (refl, (refl, (refl, tt))))))))))))))))))))))) h

pub kind-mark : (bs : List ℕ) → is_mark bs ≡ true → kind_of bs ≡ Left bs
kind-mark bs h = each-row (λ bs. kind_of bs ≡ Left bs) marks bs (refl, (refl, (refl, (refl, tt)))) h

-- a front that is longer than the greatest one doesn't pass
pub longer-not : (passes : List ℕ → Bool) (text : List ℕ) (m n : ℕ) → m < n → n ≤ length text → IsGreatest passes text m → passes (take n text) ≡ false
longer-not passes text m n less within law = false_from_ne_true (passes (take n text)) (λ h. omega (arith, law.most (take n text) (drop n text) (take-append-drop n text) h, length-take n text, less, within))

-- what stands at the front, of the longest spelling that was found
abbrev pub found : Kind → ℕ → Kind × ℕ
found kind n = (kind, n)

first-is : (text : List ℕ) (n : ℕ) (f : Form) (kind : Kind) → 0 < length text → HasBounds text n → passes (take n text) f ≡ true → kind_of (take n text) ≡ kind
    → found kind n ≡ found (first_kind text) (size text)
first-is [] n f kind some bounds h is = absurd (omega arith)
first-is (b ∷ bs) n f kind some bounds h is =
    ap (λ k. found k n) (sym is) ∙ ap (λ m. found (kind_of (take m (b ∷ bs))) m) (sym (size-spelled (b ∷ bs) n f bounds h))

-- ---- what a first byte rules out

-- a row of a table doesn't begin with a byte of a class that no row begins with
row-not : (class : ℕ → Bool) (table : List (List ℕ)) (b : ℕ) → list_all (λ row. not (class (get_or row 0 0))) table ≡ true → class b ≡ true → begins_row table b ≡ false
row-not class table b all h = false_from_ne_true (begins_row table b) (none table all)
  where
    none : (table : List (List ℕ)) → list_all (λ row. not (class (get_or row 0 0))) table ≡ true → begins_row table b ≡ true → ⊥
    none [] all e = cc
    none (row ∷ rows) all e =
        let parts = and_parts (not (class (get_or row 0 0))) _ all in
        ⊎_elim (λ same. both_ways (class (get_or row 0 0)) (not-true (class (get_or row 0 0)) parts.0) (subst (λ c. class c ≡ true) (sym (eqb-true (get_or row 0 0) b same)) h)) (none rows parts.1)
        (or_cases (get_or row 0 0 == b) (begins_row rows b) e)

byte-not : (class : ℕ → Bool) (b k : ℕ) → class k ≡ false → class b ≡ true → (b == k) ≡ false
byte-not class b k none h = false_from_ne_true (b == k) (λ e. both_ways (class k) none (subst (λ c. class c ≡ true) (eqb-true b k e) h))

-- ---- a letter or an underscore

-- a run has its greatest front
run-greatest : (b : ℕ) (bs : List ℕ) → begins_word b ≡ true → IsGreatest is_run (b ∷ bs) (prefix_len is_word_byte (b ∷ bs))
run-greatest b bs word = record {
  passed = λ _. subst (λ n. is_run (take n (b ∷ bs)) ≡ true) (sym whole) (and_from (not (is_ascii_digit b)) (list_all is_word_byte (b ∷ take (prefix_len is_word_byte bs) bs)) parts.1
      (subst (λ n. list_all is_word_byte (take n (b ∷ bs)) ≡ true) whole (run-passes is_word_byte (b ∷ bs))));
  most = λ front rest is h. subst (λ xs. length front ≤ prefix_len is_word_byte xs) is (run-longest is_word_byte front rest (and_parts _ (list_all is_word_byte front) h).1);
  within = prefix_len-le-length is_word_byte (b ∷ bs);
}
  where
    parts : (is_word_byte b ≡ true) × (not (is_ascii_digit b) ≡ true)
    parts = and_parts (is_word_byte b) (not (is_ascii_digit b)) word

    whole : prefix_len is_word_byte (b ∷ bs) ≡ suc (prefix_len is_word_byte bs)
    whole = cond-true (is_word_byte b) (1 + prefix_len is_word_byte bs) 0 parts.0 ∙ one-add (prefix_len is_word_byte bs)

word-not : (b : ℕ) (f : Form) → f ≢ Run → f ≢ Literal → begins_word b ≡ true → may_begin f b ≡ false
word-not b Run other another word = absurd (other refl)
word-not b Literal other another word = absurd (another refl)
word-not b Integer other another word = not-true (is_ascii_digit b) (and_parts (is_word_byte b) _ word).1
word-not b Real other another word = not-true (is_ascii_digit b) (and_parts (is_word_byte b) _ word).1
word-not b Address other another word = byte-not begins_word b 37 refl word
word-not b Inclusion other another word = byte-not begins_word b 123 refl word
word-not b Symbol other another word = row-not begins_word symbols b refl word
word-not b Mark other another word = row-not begins_word marks b refl word

-- a form that the first byte rules out doesn't have a front
take-not : (b : ℕ) (bs : List ℕ) (n : ℕ) (f : Form) → 0 < n → may_begin f b ≡ false → passes (take n (b ∷ bs)) f ≡ false
take-not b bs zero f some e = absurd (omega arith)
take-not b bs (suc n) f some e = form-not f b (take n bs) e

word-bounds : (b : ℕ) (bs : List ℕ) (l n : ℕ) → begins_word b ≡ true → prefix_len is_word_byte (b ∷ bs) ≤ n → l ≤ n → n ≤ length (b ∷ bs) → IsGreatest is_literal (b ∷ bs) l → HasBounds (b ∷ bs) n
word-bounds b bs l n word run literal fits law = record { each = each; within = fits }
  where
    each : (f : Form) → Bounds (b ∷ bs) n f
    each Run = bounds-of (b ∷ bs) Run (prefix_len is_word_byte (b ∷ bs)) n run (run-greatest b bs word)
    each Literal = bounds-of (b ∷ bs) Literal l n literal law
    each Integer = bounds-not b bs n Integer (word-not b Integer (λ e. cc) (λ e. cc) word)
    each Real = bounds-not b bs n Real (word-not b Real (λ e. cc) (λ e. cc) word)
    each Address = bounds-not b bs n Address (word-not b Address (λ e. cc) (λ e. cc) word)
    each Inclusion = bounds-not b bs n Inclusion (word-not b Inclusion (λ e. cc) (λ e. cc) word)
    each Symbol = bounds-not b bs n Symbol (word-not b Symbol (λ e. cc) (λ e. cc) word)
    each Mark = bounds-not b bs n Mark (word-not b Mark (λ e. cc) (λ e. cc) word)

-- a literal
pub word-literal : (text : List ℕ) (l : ℕ) → 0 < length text → begins_word (get_or text 0 0) ≡ true → prefix_len is_word_byte text < l → IsGreatest is_literal text l
    → found (literal_kind (take l text)) l ≡ found (first_kind text) (size text)
word-literal [] l some word longer law = absurd (omega arith)
word-literal (b ∷ bs) l some word longer law =
    let text : List ℕ = b ∷ bs in
    let front : List ℕ = take l text in
    let positive : 0 < l = omega (arith, longer) in
    first-is text l Literal (literal_kind front) some (word-bounds b bs l l word (omega (arith, longer)) (omega arith) law.within law) (law.passed positive)
    (kind-next Run after_run front (longer-not is_run text (prefix_len is_word_byte text) l longer law.within (run-greatest b bs word))
    ∙ kind-next Integer after_integer front (take-not b bs l Integer positive (word-not b Integer (λ e. cc) (λ e. cc) word))
    ∙ kind-here Literal after_literal front (law.passed positive))

-- a run
pub word-run : (text : List ℕ) (l : ℕ) → 0 < length text → begins_word (get_or text 0 0) ≡ true → l ≤ prefix_len is_word_byte text → IsGreatest is_literal text l
    → found (run_kind (take (prefix_len is_word_byte text) text)) (prefix_len is_word_byte text) ≡ found (first_kind text) (size text)
word-run [] l some word shorter law = absurd (omega arith)
word-run (b ∷ bs) l some word shorter law =
    let text : List ℕ = b ∷ bs in
    let run = run-greatest b bs word in
    let n : ℕ = prefix_len is_word_byte text in
    let positive : 0 < n = omega (arith, cond-true (is_word_byte b) (1 + prefix_len is_word_byte bs) 0 (and_parts (is_word_byte b) _ word).0) in
    first-is text n Run (run_kind (take n text)) some (word-bounds b bs l n word (omega arith) shorter run.within law) (run.passed positive)
    (kind-here Run after_run (take n text) (run.passed positive))

-- ---- a digit

and_false : (t : Bool) → (t && false) ≡ false
and_false true = refl
and_false false = refl

digit-no_word : (b : ℕ) → is_ascii_digit b ≡ true → begins_word b ≡ false
digit-no_word b h = ap (λ t. is_word_byte b && not t) h ∙ and_false (is_word_byte b)

digit-not : (b : ℕ) (f : Form) → f ≢ Integer → f ≢ Real → is_ascii_digit b ≡ true → may_begin f b ≡ false
digit-not b Integer other another digit = absurd (other refl)
digit-not b Real other another digit = absurd (another refl)
digit-not b Run other another digit = digit-no_word b digit
digit-not b Literal other another digit = digit-no_word b digit
digit-not b Address other another digit = byte-not is_ascii_digit b 37 refl digit
digit-not b Inclusion other another digit = byte-not is_ascii_digit b 123 refl digit
digit-not b Symbol other another digit = row-not is_ascii_digit symbols b refl digit
digit-not b Mark other another digit = row-not is_ascii_digit marks b refl digit

digit-bounds : (b : ℕ) (bs : List ℕ) (i r n : ℕ) → is_ascii_digit b ≡ true → i ≤ n → r ≤ n → n ≤ length (b ∷ bs) → IsGreatest is_integer (b ∷ bs) i → IsGreatest is_real (b ∷ bs) r → HasBounds (b ∷ bs) n
digit-bounds b bs i r n digit integer real fits law more = record { each = each; within = fits }
  where
    each : (f : Form) → Bounds (b ∷ bs) n f
    each Integer = bounds-of (b ∷ bs) Integer i n integer law
    each Real = bounds-of (b ∷ bs) Real r n real more
    each Run = bounds-not b bs n Run (digit-not b Run (λ e. cc) (λ e. cc) digit)
    each Literal = bounds-not b bs n Literal (digit-not b Literal (λ e. cc) (λ e. cc) digit)
    each Address = bounds-not b bs n Address (digit-not b Address (λ e. cc) (λ e. cc) digit)
    each Inclusion = bounds-not b bs n Inclusion (digit-not b Inclusion (λ e. cc) (λ e. cc) digit)
    each Symbol = bounds-not b bs n Symbol (digit-not b Symbol (λ e. cc) (λ e. cc) digit)
    each Mark = bounds-not b bs n Mark (digit-not b Mark (λ e. cc) (λ e. cc) digit)

-- a real
pub digit-real : (text : List ℕ) (i r : ℕ) → 0 < length text → is_ascii_digit (get_or text 0 0) ≡ true → i < r → IsGreatest is_integer text i → IsGreatest is_real text r
    → found (Left (take r text)) r ≡ found (first_kind text) (size text)
digit-real [] i r some digit longer law more = absurd (omega arith)
digit-real (b ∷ bs) i r some digit longer law more =
    let text : List ℕ = b ∷ bs in
    let front : List ℕ = take r text in
    let positive : 0 < r = omega (arith, longer) in
    let not_first : (f : Form) → f ≢ Integer → f ≢ Real → passes front f ≡ false = λ f other another. take-not b bs r f positive (digit-not b f other another digit) in
    first-is text r Real (Left front) some (digit-bounds b bs i r r digit (omega (arith, longer)) (omega arith) more.within law more) (more.passed positive)
    (kind-next Run after_run front (not_first Run (λ e. cc) (λ e. cc)) ∙ kind-next Integer after_integer front (longer-not is_integer text i r longer more.within law)
    ∙ kind-next Literal after_literal front (not_first Literal (λ e. cc) (λ e. cc)) ∙ kind-next Address after_address front (not_first Address (λ e. cc) (λ e. cc))
    ∙ kind-next Symbol after_symbol front (not_first Symbol (λ e. cc) (λ e. cc)) ∙ kind-next Inclusion after_inclusion front (not_first Inclusion (λ e. cc) (λ e. cc))
    ∙ kind-here Real after_real front (more.passed positive))

one_digit : (b : ℕ) → is_ascii_digit b ≡ true → is_digit b 10 ≡ true
one_digit b h = grind (arith, nat_tests)

-- an integer
pub digit-integer : (text : List ℕ) (i r : ℕ) → 0 < length text → is_ascii_digit (get_or text 0 0) ≡ true → r ≤ i → IsGreatest is_integer text i → IsGreatest is_real text r
    → found (integer_kind None (take i text)) i ≡ found (first_kind text) (size text)
digit-integer [] i r some digit shorter law more = absurd (omega arith)
digit-integer (b ∷ bs) i r some digit shorter law more =
    let text : List ℕ = b ∷ bs in
    let one : is_integer (b ∷ []) ≡ true = or_left _ (is_based 16 (codes "16#") (b ∷ [])) (or_left _ (is_based 8 (codes "8#") (b ∷ [])) (or_left (is_number 10 (b ∷ [])) (is_based 2 (codes "2#") (b ∷ [])) (one_digit b digit))) in
    let positive : 0 < i = omega (arith, law.most (b ∷ []) bs refl one) in
    first-is text i Integer (integer_kind None (take i text)) some (digit-bounds b bs i r i digit (omega arith) shorter law.within law more) (law.passed positive)
    (kind-next Run after_run (take i text) (take-not b bs i Run positive (digit-not b Run (λ e. cc) (λ e. cc) digit)) ∙ kind-here Integer after_integer (take i text) (law.passed positive))

-- ---- a percent sign

address-bounds : (bs : List ℕ) (n : ℕ) → IsGreatest is_address (37 ∷ bs) n → (f : Form) → Bounds (37 ∷ bs) n f
address-bounds bs n law Address = bounds-of (37 ∷ bs) Address n n (omega arith) law
address-bounds bs n law Run = bounds-not 37 bs n Run refl
address-bounds bs n law Integer = bounds-not 37 bs n Integer refl
address-bounds bs n law Literal = bounds-not 37 bs n Literal refl
address-bounds bs n law Symbol = bounds-not 37 bs n Symbol refl
address-bounds bs n law Inclusion = bounds-not 37 bs n Inclusion refl
address-bounds bs n law Real = bounds-not 37 bs n Real refl
address-bounds bs n law Mark = bounds-not 37 bs n Mark refl

at-percent : (bs : List ℕ) (n : ℕ) → IsGreatest is_address (37 ∷ bs) n → found (address_kind (take n (37 ∷ bs))) n ≡ found (first_kind (37 ∷ bs)) (size (37 ∷ bs))
at-percent bs n law =
    let front : List ℕ = take n (37 ∷ bs) in
    let positive : 0 < n = omega (arith, law.most (37 ∷ []) bs refl refl) in
    first-is (37 ∷ bs) n Address (address_kind front) (omega arith) (record { each = address-bounds bs n law; within = law.within }) (law.passed positive)
    (kind-next Run after_run front (take-not 37 bs n Run positive refl) ∙ kind-next Integer after_integer front (take-not 37 bs n Integer positive refl)
    ∙ kind-next Literal after_literal front (take-not 37 bs n Literal positive refl) ∙ kind-here Address after_address front (law.passed positive))

-- an address
pub address-token : (text : List ℕ) (n : ℕ) → 0 < length text → get_or text 0 0 ≡ 37 → IsGreatest is_address text n
    → found (address_kind (take n text)) n ≡ found (first_kind text) (size text)
address-token [] n some e law = absurd (omega arith)
address-token (b ∷ bs) n some e law =
    subst (λ c. IsGreatest is_address (c ∷ bs) n → found (address_kind (take n (c ∷ bs))) n ≡ found (first_kind (c ∷ bs)) (size (c ∷ bs))) (sym e) (at-percent bs n) law

-- ---- any other byte

abbrev other_byte : ℕ → Bool
other_byte b = is_word_byte b || (b == 37)

word_bytes : (b : ℕ) → other_byte b ≡ false → (begins_word b ≡ false) × (is_ascii_digit b ≡ false) × ((b == 37) ≡ false)
word_bytes b h = grind (arith, nat_tests)

mark-bounds : (b : ℕ) (bs : List ℕ) (m i n : ℕ) → other_byte b ≡ false → m ≤ n → i ≤ n
    → IsGreatest (λ bs. is_symbol bs || is_mark bs) (b ∷ bs) m → IsGreatest is_inclusion (b ∷ bs) i → (f : Form) → Bounds (b ∷ bs) n f
mark-bounds b bs m i n byte mark inclusion law more Run = bounds-not b bs n Run (word_bytes b byte).0
mark-bounds b bs m i n byte mark inclusion law more Literal = bounds-not b bs n Literal (word_bytes b byte).0
mark-bounds b bs m i n byte mark inclusion law more Integer = bounds-not b bs n Integer (word_bytes b byte).1
mark-bounds b bs m i n byte mark inclusion law more Real = bounds-not b bs n Real (word_bytes b byte).1
mark-bounds b bs m i n byte mark inclusion law more Address = bounds-not b bs n Address (word_bytes b byte).2
mark-bounds b bs m i n byte mark inclusion law more Inclusion = bounds-of (b ∷ bs) Inclusion i n inclusion more
mark-bounds b bs m i n byte mark inclusion law more Symbol = λ front rest is h. omega (arith, law.most front rest is (or_left (is_symbol front) (is_mark front) h), mark)
mark-bounds b bs m i n byte mark inclusion law more Mark = λ front rest is h. omega (arith, law.most front rest is (or_right (is_symbol front) (is_mark front) h), mark)

-- an inclusion
pub mark-inclusion : (text : List ℕ) (m i : ℕ) → 0 < length text → other_byte (get_or text 0 0) ≡ false → m < i → IsGreatest (λ bs. is_symbol bs || is_mark bs) text m → IsGreatest is_inclusion text i
    → found (inclusion_kind (take i text)) i ≡ found (first_kind text) (size text)
mark-inclusion [] m i some byte longer law more = absurd (omega arith)
mark-inclusion (b ∷ bs) m i some byte longer law more =
    let text : List ℕ = b ∷ bs in
    let front : List ℕ = take i text in
    let positive : 0 < i = omega (arith, longer) in
    let classes = word_bytes b byte in
    let none : (is_symbol front || is_mark front) ≡ false = longer-not (λ bs. is_symbol bs || is_mark bs) text m i longer more.within law in
    first-is text i Inclusion (inclusion_kind front) some (record { each = mark-bounds b bs m i i byte (omega (arith, longer)) (omega arith) law more; within = more.within }) (more.passed positive)
    (kind-next Run after_run front (take-not b bs i Run positive classes.0) ∙ kind-next Integer after_integer front (take-not b bs i Integer positive classes.1)
    ∙ kind-next Literal after_literal front (take-not b bs i Literal positive classes.0) ∙ kind-next Address after_address front (take-not b bs i Address positive classes.2)
    ∙ kind-next Symbol after_symbol front (false_from_ne_true (is_symbol front) (λ h. both_ways _ none (or_left (is_symbol front) (is_mark front) h)))
    ∙ kind-here Inclusion after_inclusion front (more.passed positive))

-- a symbol, or a mark of what is left out
pub mark-mark : (text : List ℕ) (m i : ℕ) → 0 < length text → other_byte (get_or text 0 0) ≡ false → 0 < m → i ≤ m → IsGreatest (λ bs. is_symbol bs || is_mark bs) text m → IsGreatest is_inclusion text i
    → found (kind_of (take m text)) m ≡ found (first_kind text) (size text)
mark-mark [] m i some byte positive shorter law more = absurd (omega arith)
mark-mark (b ∷ bs) m i some byte positive shorter law more =
    let text : List ℕ = b ∷ bs in
    let bounds : HasBounds text m = record { each = mark-bounds b bs m i m byte (omega arith) shorter law more; within = law.within } in
    ⊎_elim (λ h. first-is text m Symbol (kind_of (take m text)) some bounds h refl) (λ h. first-is text m Mark (kind_of (take m text)) some bounds h refl)
    (or_cases (is_symbol (take m text)) (is_mark (take m text)) (law.passed positive))

-- no token
pub mark-none : (text : List ℕ) → 0 < length text → other_byte (get_or text 0 0) ≡ false → IsGreatest (λ bs. is_symbol bs || is_mark bs) text 0 → IsGreatest is_inclusion text 0
    → found (Bad L1) 0 ≡ found (first_kind text) (size text)
mark-none [] some byte law more = absurd (omega arith)
mark-none (b ∷ bs) some byte law more =
    ap (λ n. found (kind_of (take n (b ∷ bs))) n) (sym (size-none (b ∷ bs) (mark-bounds b bs 0 0 0 byte (omega arith) (omega arith) law more)))

-- ---- the end

pub end-token : (text : List ℕ) → length text ≡ 0 → found End 0 ≡ found (first_kind text) (size text)
unfolding size
end-token [] e = refl
end-token (b ∷ bs) e = absurd (omega (arith, e))
