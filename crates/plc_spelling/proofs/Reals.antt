-- The real that a text begins with.
use Rattle.std.proofs.Common.{◌≡◌, ℕ, ◌+◌, ◌<◌, Bool, true, false, ◌&&◌, List, drop, refl, sym, ap, subst, ◌∙◌, arith}
use Rattle.std.specs.Char.{is_ascii_digit}
use Rattle.std.specs.List.{prefix_len}
use Rattle.std.proofs.Math.Bool.{and_assoc}
use Rattle.plc_spelling.specs.Marks.{is_real}
use Rattle.plc_spelling.specs.Text.{IsGreatest, is_nil, begins_with, run_of, behind_run}
use Rattle.plc_spelling.proofs.Fronts.{has_bytes, past, past-closed, past-none, past-some, greatest-byte, greatest-run, greatest-alone, run-some, run-none}
use Rattle.plc_spelling.proofs.Greatest.{greatest-as}

-- digits alone
abbrev pub digits : List ℕ → Bool
digits bs = has_bytes bs && is_nil (behind_run is_ascii_digit bs)

-- a point and digits
abbrev pub decimals : List ℕ → Bool
decimals bs = begins_with 46 bs && digits (drop 1 bs)

-- the parts of a real, each in what stands behind the one before
pub real-parts : (bs : List ℕ) → is_real bs ≡ (has_bytes (run_of is_ascii_digit bs) && decimals (behind_run is_ascii_digit bs))
real-parts bs = by (has_bytes (run_of is_ascii_digit bs)) (begins_with 46 (behind_run is_ascii_digit bs)) (has_bytes (drop 1 (behind_run is_ascii_digit bs)))
    (is_nil (behind_run is_ascii_digit (drop 1 (behind_run is_ascii_digit bs))))
  where
    by : (a b c d : Bool) → (a && b && c && d) ≡ (a && (b && (c && d)))
    by a b c d = and_assoc (a && b) c d ∙ and_assoc a b (c && d)

-- the bytes of the point and the decimals, and of the real
abbrev decimals_size : List ℕ → ℕ
decimals_size text = past (begins_with 46 text) 1 (prefix_len is_ascii_digit (drop 1 text))

abbrev size : List ℕ → ℕ
size text = past (has_bytes (run_of is_ascii_digit text)) (prefix_len is_ascii_digit text) (decimals_size (behind_run is_ascii_digit text))

real-greatest : (text : List ℕ) → IsGreatest is_real text (size text)
real-greatest text = greatest-as (λ bs. has_bytes (run_of is_ascii_digit bs) && decimals (behind_run is_ascii_digit bs)) text is_real (size text)
    (λ front rest is. real-parts front)
    (greatest-run is_ascii_digit has_bytes decimals text (decimals_size (behind_run is_ascii_digit text)) refl
    (greatest-byte 46 digits (behind_run is_ascii_digit text) (prefix_len is_ascii_digit (drop 1 (behind_run is_ascii_digit text))) refl
    (greatest-alone is_ascii_digit (drop 1 (behind_run is_ascii_digit text)))))

module _ (text : List ℕ) where
  as_size : (n : ℕ) → size text ≡ n → IsGreatest is_real text n
  as_size n e = subst (IsGreatest is_real text) e (real-greatest text)

  pub no-digit : prefix_len is_ascii_digit text ≡ 0 → IsGreatest is_real text 0
  no-digit none = as_size 0 (past-closed (has_bytes (run_of is_ascii_digit text)) (prefix_len is_ascii_digit text) (decimals_size (behind_run is_ascii_digit text))
      (run-none is_ascii_digit text none))

  pub no-point : begins_with 46 (behind_run is_ascii_digit text) ≡ false → IsGreatest is_real text 0
  no-point none = as_size 0 (past-none (has_bytes (run_of is_ascii_digit text)) (prefix_len is_ascii_digit text) (decimals_size (behind_run is_ascii_digit text))
      (past-closed (begins_with 46 (behind_run is_ascii_digit text)) 1 (prefix_len is_ascii_digit (drop 1 (behind_run is_ascii_digit text))) none))

  pub no-decimal : prefix_len is_ascii_digit (drop 1 (behind_run is_ascii_digit text)) ≡ 0 → IsGreatest is_real text 0
  no-decimal none = as_size 0 (past-none (has_bytes (run_of is_ascii_digit text)) (prefix_len is_ascii_digit text) (decimals_size (behind_run is_ascii_digit text))
      (past-none (begins_with 46 (behind_run is_ascii_digit text)) 1 (prefix_len is_ascii_digit (drop 1 (behind_run is_ascii_digit text))) none))

  pub real-is : (whole places : ℕ) → whole ≡ prefix_len is_ascii_digit text → places ≡ prefix_len is_ascii_digit (drop 1 (behind_run is_ascii_digit text))
      → 0 < whole → begins_with 46 (behind_run is_ascii_digit text) ≡ true → 0 < places → IsGreatest is_real text (whole + 1 + places)
  real-is whole places run is some opened more = as_size (whole + 1 + places)
      (past-some (has_bytes (run_of is_ascii_digit text)) (prefix_len is_ascii_digit text) (decimals_size (behind_run is_ascii_digit text))
      (run-some is_ascii_digit text (subst (λ n. 0 < n) run some)) (omega (arith, tail, more)) ∙ omega (arith, run, tail))
    where
      tail : decimals_size (behind_run is_ascii_digit text) ≡ 1 + places
      tail = past-some (begins_with 46 (behind_run is_ascii_digit text)) 1 (prefix_len is_ascii_digit (drop 1 (behind_run is_ascii_digit text)))
          opened (omega (arith, is, more)) ∙ ap (λ n. 1 + n) (sym is)
