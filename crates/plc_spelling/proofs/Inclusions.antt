-- The inclusion that a text begins with.
use Rattle.std.proofs.Common.{◌≡◌, ℕ, ◌+◌, ◌<◌, Bool, true, false, ◌&&◌, List, drop, refl, ap, subst, ◌∙◌, arith}
use Rattle.std.specs.Prelude.{not, codes, bytes_eq, take, get_or}
use Rattle.std.specs.List.{prefix_len}
use Rattle.std.proofs.lemmas.Bool.{and_from, cond-true, cond-false}
use Rattle.plc_spelling.specs.Marks.{is_inclusion, is_file_byte, behind_word, file_name}
use Rattle.plc_spelling.specs.Text.{IsGreatest, is_blank, begins, begins_with, run_of, behind_run}
use Rattle.plc_spelling.proofs.Fronts.{has_bytes, past, past-closed, past-none, past-some, known, greatest-byte, greatest-word, greatest-run, greatest-known, run-some, run-none, run-first, first-run}
use Rattle.plc_spelling.proofs.Greatest.{greatest-as}

-- ---- the name of a file and what closes an inclusion

abbrev is_name : List ℕ → Bool
is_name run = has_bytes run && not (begins_with 46 run)

abbrev pub named : List ℕ → Bool
named bs = has_bytes (run_of is_file_byte bs) && not (begins_with 46 (run_of is_file_byte bs)) && bytes_eq (codes "\"}") (behind_run is_file_byte bs)

abbrev named_size : List ℕ → ℕ
named_size text = past (is_name (run_of is_file_byte text)) (prefix_len is_file_byte text) (known (codes "\"}") (behind_run is_file_byte text))

named-greatest : (text : List ℕ) → IsGreatest named text (named_size text)
named-greatest text = greatest-run is_file_byte is_name (bytes_eq (codes "\"}")) text (known (codes "\"}") (behind_run is_file_byte text)) refl
    (greatest-known (codes "\"}") (behind_run is_file_byte text))

module _ (text : List ℕ) where
  as_named : (n : ℕ) → named_size text ≡ n → IsGreatest named text n
  as_named n e = subst (IsGreatest named text) e (named-greatest text)

  not_name : is_name (run_of is_file_byte text) ≡ false → IsGreatest named text 0
  not_name none = as_named 0 (past-closed (is_name (run_of is_file_byte text)) (prefix_len is_file_byte text) (known (codes "\"}") (behind_run is_file_byte text)) none)

  pub no-file : prefix_len is_file_byte text ≡ 0 → IsGreatest named text 0
  no-file none = not_name (ap (λ b. b && not (begins_with 46 (run_of is_file_byte text))) (run-none is_file_byte text none))

  pub no-hidden : 0 < prefix_len is_file_byte text → begins_with 46 text ≡ true → IsGreatest named text 0
  no-hidden some point = not_name (ap (λ b. b && not (begins_with 46 (run_of is_file_byte text))) (run-some is_file_byte text some)
      ∙ ap not (run-first is_file_byte 46 text some ∙ point))

  pub no-closing : bytes_eq (codes "\"}") (take 2 (behind_run is_file_byte text)) ≡ false → IsGreatest named text 0
  no-closing none = as_named 0 (past-none (is_name (run_of is_file_byte text)) (prefix_len is_file_byte text) (known (codes "\"}") (behind_run is_file_byte text))
      (cond-false (bytes_eq (codes "\"}") (take 2 (behind_run is_file_byte text))) 2 0 none))

  pub named-is : 0 < prefix_len is_file_byte text → begins_with 46 text ≡ false → bytes_eq (codes "\"}") (take 2 (behind_run is_file_byte text)) ≡ true
      → IsGreatest named text (prefix_len is_file_byte text + 2)
  named-is some point closed = as_named (prefix_len is_file_byte text + 2)
      (past-some (is_name (run_of is_file_byte text)) (prefix_len is_file_byte text) (known (codes "\"}") (behind_run is_file_byte text)) name (omega (arith, two))
      ∙ ap (λ n. prefix_len is_file_byte text + n) two)
    where
      two : known (codes "\"}") (behind_run is_file_byte text) ≡ 2
      two = cond-true (bytes_eq (codes "\"}") (take 2 (behind_run is_file_byte text))) 2 0 closed

      name : is_name (run_of is_file_byte text) ≡ true
      name = and_from (has_bytes (run_of is_file_byte text)) (not (begins_with 46 (run_of is_file_byte text))) (run-some is_file_byte text some)
          (ap not (run-first is_file_byte 46 text some ∙ point))

-- ---- the whole inclusion

abbrev pub quoted : List ℕ → Bool
quoted bs = begins_with 34 bs && named (drop 1 bs)

abbrev pub spaced : List ℕ → Bool
spaced bs = has_bytes (run_of is_blank bs) && quoted (behind_run is_blank bs)

-- the parts of an inclusion, each in what stands behind the one before
pub inclusion-parts : (bs : List ℕ) → is_inclusion bs ≡ (begins (codes "{#include") bs && spaced (drop 9 bs))
inclusion-parts bs =
    by (begins (codes "{#include") bs) (is_blank (get_or (drop 9 bs) 0 0)) (begins_with 34 (behind_word bs)) (has_bytes (file_name bs))
    (not (begins_with 46 (file_name bs)))
    (bytes_eq (codes "\"}") (behind_run is_file_byte (drop 1 (behind_word bs))))
    ∙ ap (λ b. begins (codes "{#include") bs && (b && quoted (behind_word bs))) (first-run is_blank (drop 9 bs) refl)
  where
    by : (a b c d e f : Bool) → (a && b && c && d && e && f) ≡ (a && (b && (c && (d && e && f))))
    by true true true d e f = refl
    by true true false d e f = refl
    by true false c d e f = refl
    by false b c d e f = refl

module _ (text : List ℕ) (n : ℕ) (law : IsGreatest named (drop 1 (behind_word text)) n) where
  abbrev quoted_size : ℕ
  quoted_size = past (begins_with 34 (behind_word text)) 1 n

  abbrev spaced_size : ℕ
  spaced_size = past (has_bytes (run_of is_blank (drop 9 text))) (prefix_len is_blank (drop 9 text)) quoted_size

  inclusion-greatest : IsGreatest is_inclusion text (past (begins (codes "{#include") text) 9 spaced_size)
  inclusion-greatest = greatest-as (λ bs. begins (codes "{#include") bs && spaced (drop 9 bs)) text is_inclusion (past (begins (codes "{#include") text) 9 spaced_size)
      (λ front rest is. inclusion-parts front)
      (greatest-word (codes "{#include") spaced text spaced_size refl
      (greatest-run is_blank has_bytes quoted (drop 9 text) quoted_size refl
      (greatest-byte 34 named (behind_word text) n refl law)))

  as_size : (m : ℕ) → past (begins (codes "{#include") text) 9 spaced_size ≡ m → IsGreatest is_inclusion text m
  as_size m e = subst (IsGreatest is_inclusion text) e inclusion-greatest

  unspaced : spaced_size ≡ 0 → IsGreatest is_inclusion text 0
  unspaced none = as_size 0 (past-none (begins (codes "{#include") text) 9 spaced_size none)

  unquoted : quoted_size ≡ 0 → IsGreatest is_inclusion text 0
  unquoted none = unspaced (past-none (has_bytes (run_of is_blank (drop 9 text))) (prefix_len is_blank (drop 9 text)) quoted_size none)

  without_blank : prefix_len is_blank (drop 9 text) ≡ 0 → IsGreatest is_inclusion text 0
  without_blank none = unspaced (past-closed (has_bytes (run_of is_blank (drop 9 text))) (prefix_len is_blank (drop 9 text)) quoted_size
      (run-none is_blank (drop 9 text) none))

  without_quote : begins_with 34 (behind_word text) ≡ false → IsGreatest is_inclusion text 0
  without_quote none = unquoted (past-closed (begins_with 34 (behind_word text)) 1 n none)

  pub no-name : n ≡ 0 → IsGreatest is_inclusion text 0
  no-name none = unquoted (past-none (begins_with 34 (behind_word text)) 1 n none)

  pub inclusion-is : begins (codes "{#include") text ≡ true → 0 < prefix_len is_blank (drop 9 text) → begins_with 34 (behind_word text) ≡ true → 0 < n
      → IsGreatest is_inclusion text (9 + prefix_len is_blank (drop 9 text) + 1 + n)
  inclusion-is opened blanks quote some = as_size (9 + prefix_len is_blank (drop 9 text) + 1 + n)
      (past-some (begins (codes "{#include") text) 9 spaced_size opened (omega (arith, tail)) ∙ omega (arith, tail))
    where
      behind_blanks : quoted_size ≡ 1 + n
      behind_blanks = past-some (begins_with 34 (behind_word text)) 1 n quote some

      tail : spaced_size ≡ prefix_len is_blank (drop 9 text) + (1 + n)
      tail = past-some (has_bytes (run_of is_blank (drop 9 text))) (prefix_len is_blank (drop 9 text)) quoted_size (run-some is_blank (drop 9 text) blanks)
          (omega (arith, behind_blanks)) ∙ ap (λ k. prefix_len is_blank (drop 9 text) + k) behind_blanks

module _ (text : List ℕ) where
  law : IsGreatest named (drop 1 (behind_word text)) (named_size (drop 1 (behind_word text)))
  law = named-greatest (drop 1 (behind_word text))

  pub no-blank : prefix_len is_blank (drop 9 text) ≡ 0 → IsGreatest is_inclusion text 0
  no-blank none = without_blank text (named_size (drop 1 (behind_word text))) law none

  pub no-quote : begins_with 34 (behind_word text) ≡ false → IsGreatest is_inclusion text 0
  no-quote none = without_quote text (named_size (drop 1 (behind_word text))) law none
