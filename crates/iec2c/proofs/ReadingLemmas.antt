-- What a loop that reads has added.
use Rattle.std.proofs.Common.{◌≡◌, ℕ, ◌+◌, ◌-◌, ◌<◌, ◌≤◌, List, ◌++◌, length, take, drop, Option, Some, None, Ok, Err, sym, ◌∙◌, ap, append_assoc, length-append, arith, true}
use Rattle.std.specs.Prelude.{IfSome, nat_lt}
use Rattle.std.specs.Io.KnownBytes.{Consumes}
use Rattle.std.proofs.Math.Seq.{take-append_seam, take-append-add}
use Rattle.std.proofs.lemmas.Bool.Decides.{nat_tests}
use Rattle.std.proofs.lemmas.List.{take-append-le, take-append-drop, length-take-le}
use Rattle.plc_outside.specs.declared.fault.FileFault.{FileFault}
use Rattle.iec2c.specs.Reading.{AddsFirst}

-- ---- bytes that a reader has left

consumes_both : (a b c : Option (List ℕ)) (p q : List ℕ) → Consumes a b p → Consumes b c q → Consumes a c (p ++ q)
consumes_both None b c p q h k = tt
consumes_both (Some xs) None c p q h k = absurd h
consumes_both (Some xs) (Some ys) None p q h k = absurd k
consumes_both (Some xs) (Some ys) (Some zs) p q h k = h ∙ ap (λ l. p ++ l) k ∙ sym (append_assoc p q zs)

-- ---- what was added so far

-- so many bytes are wanted yet, and those that were added are gone from the reader
pub record AddedSoFar (most left : ℕ) (start now : Option (List ℕ)) (held holds : List ℕ) : Type 0 where
  pub p : List ℕ
  pub is : holds ≡ held ++ p
  pub room : length p + left ≡ most
  pub gone : Consumes start now p

more_added : (most left next : ℕ) (start now later : Option (List ℕ)) (held holds new bytes : List ℕ) → AddedSoFar most left start now held holds
    → new ≡ holds ++ bytes → length bytes + next ≡ left → Consumes now later bytes → AddedSoFar most next start later held new
more_added most left next start now later held holds new bytes h e k c = record {
  p = h.p ++ bytes;
  is = e ∙ ap (λ xs. xs ++ bytes) h.is ∙ append_assoc held h.p bytes;
  room = omega (arith, length-append h.p bytes, h.room);
  gone = consumes_both start now later h.p bytes h.gone c;
}

-- ---- of a reader whose bytes are known

pub first_at_fault : (most left : ℕ) (start now : Option (List ℕ)) (held holds : List ℕ) (e : FileFault) → AddedSoFar most left start now held holds
    → IfSome start (λ bytes. AddsFirst most bytes held holds (Err e))
first_at_fault most left None now held holds e h = tt
first_at_fault most left (Some xs) None held holds e h = absurd h.gone
first_at_fault most left (Some xs) (Some ys) held holds e h = (length h.p, h.is ∙ ap (λ l. held ++ l) (sym (ap (take (length h.p)) h.gone ∙ take-append_seam h.p ys)))

-- a part of a part
take_part : (left count : ℕ) (buffer : List ℕ) → left < count → count ≤ length buffer → take left (take count buffer) ≡ take left buffer
take_part left count buffer lt le =
    let size = length-take-le count buffer le in
    sym (take-append-le left (take count buffer) (drop count buffer) (omega (arith, size, lt))) ∙ ap (take left) (take-append-drop count buffer)

pub first_of_more : (most left count given : ℕ) (start now later : Option (List ℕ)) (held holds new buffer : List ℕ) → AddedSoFar most left start now held holds
    → left < count → count ≤ length buffer → given ≡ left → Consumes now later (take count buffer) → new ≡ holds ++ take given buffer
    → IfSome start (λ bytes. AddsFirst most bytes held new (Ok true))
first_of_more most left count given None now later held holds new buffer h lt le k c e = tt
first_of_more most left count given (Some xs) None later held holds new buffer h lt le k c e = absurd h.gone
first_of_more most left count given (Some xs) (Some ys) None held holds new buffer h lt le k c e = absurd c
first_of_more most left count given (Some xs) (Some ys) (Some zs) held holds new buffer h lt le k c e =
    let bytes : List ℕ = take count buffer in
    let long : length bytes ≡ count = length-take-le count buffer le in
    let all : xs ≡ h.p ++ (bytes ++ zs) = h.gone ∙ ap (λ l. h.p ++ l) c in
    let size : length xs ≡ length h.p + (length bytes + length zs) = ap length all ∙ length-append h.p (bytes ++ zs) ∙ ap (λ n. length h.p + n) (length-append bytes zs) in
    let yes : nat_lt most (length xs) ≡ true = let more : most < length xs = omega (arith, size, h.room, lt, long) in grind (arith, nat_tests) in
    let part : take left (bytes ++ zs) ≡ take given buffer = take-append-le left bytes zs (omega (arith, lt, long)) ∙ take_part left count buffer lt le ∙ ap (λ n. take n buffer) (sym k) in
    let first : take most xs ≡ h.p ++ take given buffer =
    ap (λ n. take n xs) (sym h.room) ∙ ap (take (length h.p + left)) all ∙ take-append-add h.p (bytes ++ zs) left ∙ ap (λ l. h.p ++ l) part in
    (e ∙ ap (λ l. l ++ take given buffer) h.is ∙ append_assoc held h.p (take given buffer) ∙ ap (λ l. held ++ l) (sym first), sym yes)

-- ---- after a read

-- what a read gave was wanted whole
pub whole_added : (most left count given : ℕ) (start now later : Option (List ℕ)) (held holds new buffer : List ℕ) → AddedSoFar most left start now held holds
    → count ≤ length buffer → given ≡ count → count ≤ left → Consumes now later (take count buffer) → new ≡ holds ++ take given buffer
    → AddedSoFar most (left - count) start later held new
whole_added most left count given start now later held holds new buffer h le k fits c e =
    let long : length (take count buffer) ≡ count = length-take-le count buffer le in
    more_added most left (left - count) start now later held holds new (take count buffer) h (e ∙ ap (λ n. holds ++ take n buffer) k) (omega (arith, long, fits)) c
