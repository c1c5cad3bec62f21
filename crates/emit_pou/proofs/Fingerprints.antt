-- Fingerprints of names: whether a name begins with `__`, whether it has `__`, and its small letters.
-- Names are told apart by their fingerprints, and that of a name which is put together computes.
use Rattle.std.proofs.Common.{◌≡◌, refl, sym, ap, ◌∙◌, ℕ, List, [], ◌∷◌, ◌++◌, map, append-nil, Bool, true, false}
use Rattle.std.specs.Prelude.{◌&&◌, ◌||◌, ◌==◌, if◌then◌else◌}
use Rattle.std.specs.Str.{bytes_eq}
use Rattle.std.proofs.lemmas.Bool.{or_from, or_parts, true≢false, false≢true}
use Rattle.plc_base.proofs.Bytes.{bytes_eq-never, bytes_eq-self, bytes_eq-turned}
use Rattle.c_tree.specs.CTokens.{IsName}
use Rattle.c_tree.specs.Spelling.{elem_name, flagged_name, celled_name}
use Rattle.plc_base.specs.Numbers.{elems}
use Rattle.c_meaning.specs.Names.{is_among, terminals, own_words, Apart, IsFree}
use Rattle.emit_pou.specs.SourceNames.{is_small, has_small, starts_low, has_double, ends_low, IsSourceName}

abbrev pub small : List ℕ → List ℕ
small [] = []
small (b ∷ bs) = if is_small b then b ∷ small bs else small bs

abbrev pub starts_double : List ℕ → Bool
starts_double [] = false
starts_double (b ∷ bs) = (b == 95) && starts_low bs

abbrev pub flag : Bool → ℕ
flag true = 1
flag false = 0

abbrev pub mark : List ℕ → List ℕ
mark n = flag (starts_double n) ∷ flag (has_double n) ∷ small n

-- ---- the fingerprint of a source's name, and of one with more behind it

pub small_after : (n t : List ℕ) → has_small n ≡ false → small (n ++ t) ≡ small t
small_after [] t h = refl
small_after (b ∷ bs) t h =
    let p = or_parts (is_small b) (has_small bs) h in
    ap (λ c. if c then b ∷ small (bs ++ t) else small (bs ++ t)) p.0 ∙ small_after bs t p.1

pub small_of : (n : List ℕ) → has_small n ≡ false → small n ≡ []
small_of n h = ap small (sym (append-nil n)) ∙ small_after n [] h

or_true : (a b : Bool) → b ≡ true → (a || b) ≡ true
or_true true b e = refl
or_true false b e = e

double_after : (n t : List ℕ) → has_double t ≡ true → has_double (n ++ t) ≡ true
double_after [] t h = h
double_after (b ∷ bs) t h = or_true ((b == 95) && starts_low (bs ++ t)) (has_double (bs ++ t)) (double_after bs t h)

-- a source's name does not begin with `__`, and is not `_`
starts_after : (n t : List ℕ) → IsName n → has_double n ≡ false → ends_low n ≡ false → starts_double (n ++ t) ≡ false
starts_after [] t w d l = absurd (false≢true w)
starts_after (a ∷ []) t w d l = ap (λ b. b && starts_low t) l
starts_after (a ∷ b ∷ bs) t w d l = (or_parts ((a == 95) && (b == 95)) (has_double (b ∷ bs)) d).0

pub mark_after : (n t : List ℕ) → IsSourceName n → has_double t ≡ true → mark (n ++ t) ≡ 0 ∷ 1 ∷ small t
mark_after n t s d = λ i. flag (starts_after n t s.word s.single s.ends i) ∷ flag (double_after n t d i) ∷ small_after n t s.capitals i

starts_of : (n : List ℕ) → IsSourceName n → starts_double n ≡ false
starts_of n s = ap starts_double (sym (append-nil n)) ∙ starts_after n [] s.word s.single s.ends

pub mark_of : (n : List ℕ) → IsSourceName n → mark n ≡ 0 ∷ 0 ∷ []
mark_of n s = λ i. flag (starts_of n s i) ∷ flag (s.single i) ∷ small_of n s.capitals i

-- ---- names whose fingerprints differ

pub apart_marks : (a b : List ℕ) → bytes_eq (mark a) (mark b) ≡ false → bytes_eq a b ≡ false
apart_marks a b h = bytes_eq-never a b (λ e. true≢false (sym (bytes_eq-self (mark b)) ∙ ap (λ c. bytes_eq (mark c) (mark b)) (sym e) ∙ h))

pub not_among : (n : List ℕ) (ws : List (List ℕ)) → is_among (mark n) (map mark ws) ≡ false → is_among n ws ≡ false
not_among n [] h = refl
not_among n (w ∷ ws) h =
    let p = or_parts (bytes_eq (mark w) (mark n)) (is_among (mark n) (map mark ws)) h in
    or_from (bytes_eq w n) (is_among n ws) (apart_marks w n p.0) (not_among n ws p.1)

pub all_apart : (ns : List (List ℕ)) → Apart (map mark ns) → Apart ns
all_apart [] h = tt
all_apart (n ∷ ns) h = (not_among n ns h.0, all_apart ns h.1)

-- ---- names that are new

-- a name that is among none of those before it, where no name stands twice
pub fresh : (before : List (List ℕ)) (n : List ℕ) (later : List (List ℕ)) → Apart (before ++ n ∷ later) → is_among n before ≡ false
fresh [] n later a = refl
fresh (b ∷ before) n later a =
    or_from (bytes_eq b n) (is_among n before) (bytes_eq-turned n b (among-here b before n later a.0)) (fresh before n later a.1)
  where
    among-here : (b : List ℕ) (before : List (List ℕ)) (n : List ℕ) (later : List (List ℕ)) → is_among b (before ++ n ∷ later) ≡ false → bytes_eq n b ≡ false
    among-here b [] n later h = (or_parts (bytes_eq n b) (is_among b later) h).0
    among-here b (c ∷ before) n later h = among-here b before n later (or_parts (bytes_eq c b) (is_among b (before ++ n ∷ later)) h).1

-- ---- names that may be declared

pub among-append : (n : List ℕ) (vs ws : List (List ℕ)) → is_among n vs ≡ false → is_among n ws ≡ false → is_among n (vs ++ ws) ≡ false
among-append n [] ws h g = g
among-append n (v ∷ vs) ws h g =
    let p = or_parts (bytes_eq v n) (is_among n vs) h in
    or_from (bytes_eq v n) (is_among n (vs ++ ws)) p.0 (among-append n vs ws p.1 g)

-- the words of the language but for the elementary types
abbrev other_words : List (List ℕ)
other_words = terminals ++ (map flagged_name elems ++ map celled_name elems)

pub free_marked : (n m : List ℕ) → mark n ≡ m → is_among m (map mark own_words) ≡ false → IsFree n
free_marked n m e h = not_among n own_words (ap (λ k. is_among k (map mark own_words)) e ∙ h)

pub free_source : (n : List ℕ) → IsSourceName n → IsFree n
free_source n s =
    let others : is_among n other_words ≡ false = not_among n other_words (ap (λ k. is_among k (map mark other_words)) (mark_of n s)) in
    among-append n other_words (map elem_name elems) others s.no_type
