use Rattle.std.proofs.Common.{◌≡◌, ◌≢◌, ℕ, ◌+◌, ◌-◌, ◌*◌, ◌≤◌, min, Bool, true, false, ◌==◌, List, [], ◌∷◌, ◌++◌, drop, get_or, map, sym, ap, ◌∙◌, arith, if◌then◌else◌}
use Rattle.std.proofs.lemmas.List.{append_assoc, at_drop_more}
use Rattle.std.proofs.lemmas.Bool.{eq-eqb, ne_eqb}
use Rattle.plc_spelling.specs.Addresses.{split_from}
use Rattle.plc_spelling.proofs.addresses.counted.Goals as goal
use Rattle.plc_spelling.proofs.addresses.counted.Goals.{then-b-eq46+in_ok-push, else-b-eq46}

-- two numbers that count alike do so with a digit behind them
same_capped : (bs : List ℕ) (m n : ℕ) → min m 65536 ≡ min n 65536 → map (λ n. min n 65536) (split_from m bs) ≡ map (λ n. min n 65536) (split_from n bs)
same_capped [] m n h = ap (λ n. n ∷ []) h
same_capped (b ∷ bs) m n h = by (b == 46) (same_capped bs (m * 10 + (b - 48)) (n * 10 + (b - 48)) (omega (arith, h)))
  where
    by : (t : Bool) → map (λ n. min n 65536) (split_from (m * 10 + (b - 48)) bs) ≡ map (λ n. min n 65536) (split_from (n * 10 + (b - 48)) bs)
        → map (λ n. min n 65536) (if t then m ∷ split_from 0 bs else split_from (m * 10 + (b - 48)) bs)
        ≡ map (λ n. min n 65536) (if t then n ∷ split_from 0 bs else split_from (n * 10 + (b - 48)) bs)
    by true rest = ap (λ k. k ∷ map (λ n. min n 65536) (split_from 0 bs)) h
    by false rest = rest

at_point : (numbers : List ℕ) (n b : ℕ) (bs : List ℕ) → n ≤ 65536 → b ≡ 46
    → numbers ++ map (λ n. min n 65536) (split_from n (b ∷ bs)) ≡ (numbers ++ n ∷ []) ++ map (λ n. min n 65536) (split_from 0 bs)
at_point numbers n b bs le is =
    let whole : min n 65536 ≡ n = omega (arith, le) in
    rw (eq-eqb b 46 is, whole) (sym (append_assoc numbers (n ∷ []) (map (λ n. min n 65536) (split_from 0 bs))))

at_digit : (numbers : List ℕ) (n b m : ℕ) (bs : List ℕ) → b ≢ 46 → m ≡ min 65536 (n * 10 + (b - 48))
    → numbers ++ map (λ n. min n 65536) (split_from n (b ∷ bs)) ≡ numbers ++ map (λ n. min n 65536) (split_from m bs)
at_digit numbers n b m bs other is = rw (ne_eqb b 46 other) (ap (λ rest. numbers ++ rest) (same_capped bs (n * 10 + (b - 48)) m (omega (arith, is))))

pub loop-b-preserved : goal.loop-b-preserved
loop-b-preserved c =
    let more = at_drop_more (λ (bs : List ℕ). c.loop-b.numbers ++ map (λ n. min n 65536) (split_from c.loop-b.number bs)) c.args.bytes.now c.loop-b.b-index 0 c.loop-b-test.true in
    elim c.if-b-eq46.branch [
      | then-b-eq46+in_ok-push w ↦ record {
        kept = omega (arith, w.number-is);
        counted = rw (w.numbers-is, w.number-is, w.in_ok-push.ensures.ok) (c.loop-b.invariant.counted ∙ more ∙ at_point c.loop-b.numbers c.loop-b.number
            (get_or c.args.bytes.now c.loop-b.b-index 0) (drop (c.loop-b.b-index + 1) c.args.bytes.now) c.loop-b.invariant.kept w.if-b-eq46.true);
      }
      | else-b-eq46 w ↦ record {
        kept = omega (arith, w.number-is, w.min-number.ensures);
        counted = rw w.numbers-is (c.loop-b.invariant.counted ∙ more ∙ at_digit c.loop-b.numbers c.loop-b.number
            (get_or c.args.bytes.now c.loop-b.b-index 0) c.if-b-eq46.number (drop (c.loop-b.b-index + 1) c.args.bytes.now) w.if-b-eq46.false
            (w.number-is ∙ w.min-number.ensures ∙ ap (λ d. min 65536 (c.loop-b.number * 10 + d)) (w.from.ensures ∙ w.saturating_sub.ensures)));
      }
    ]
