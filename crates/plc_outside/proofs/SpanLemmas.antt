-- Spans in bytes that grow.
use Rattle.std.proofs.Common.{Bool, true, false, cond, suc, ◌≢◌, add-one, nat_eq, get_or, Some, None, ◌≡◌, ℕ, ◌+◌, ◌-◌, ◌≤◌, ◌<◌, List, [], ◌∷◌, ◌++◌, length, take, drop, refl, ap, sym, ◌∙◌, arith, append_assoc, length-append, slice_range}
use Rattle.std.proofs.lemmas.List.{take-append-le, drop-take}
use Rattle.std.proofs.lemmas.List.Elements.{All-head, All-tail}
use Rattle.std.proofs.Math.Seq.{drop-append_seam, take-append_seam}
use Rattle.std.proofs.Math.Seq.{drop-cons}
use Rattle.std.proofs.lemmas.Map.Text.{is_eq-slice_cmp}
use Rattle.std.proofs.lemmas.Slice.Eq.{bytes_eq-Decides}
use Rattle.std.specs.Str.{bytes_eq}
use Rattle.std.specs.Ordering.{nat_cmp, eq_by_cmp}
use Rattle.std.specs.Cmp.Lexicographic.{slice_cmp, pointwise, nat_list_cmp_total}
use Rattle.plc_outside.specs.Outside.{Map}
use Rattle.std.specs.List.{All}
use Rattle.std.proofs.lemmas.Grind.{common_steps}
use Rattle.std.specs.FinMap as map
use Rattle.plc_outside.specs.Spans.{IsWithin, HasSlots, files_of}
use Rattle.plc_outside.specs.declared.span.Span.{Span}

pub slice_range-append : (xs ys : List ℕ) (a b : ℕ) → a ≤ b → b ≤ length xs → slice_range (xs ++ ys) a b ≡ slice_range xs a b
slice_range-append xs ys a b h k =
    let within : a + (b - a) ≤ length xs = omega arith in
    sym (drop-take a (b - a) (xs ++ ys)) ∙ ap (drop a) (take-append-le (a + (b - a)) xs ys within) ∙ drop-take a (b - a) xs

less : (m n : ℕ) → (m + n) - m ≡ n
less m n = omega arith

-- the part between two others
pub slice_range-between : (xs ys zs : List ℕ) (a b : ℕ) → a ≡ length xs → b ≡ length xs + length ys → slice_range (xs ++ (ys ++ zs)) a b ≡ ys
slice_range-between xs ys zs a b p q =
    ap (λ n. slice_range (xs ++ (ys ++ zs)) n b) p
    ∙ ap (λ n. slice_range (xs ++ (ys ++ zs)) (length xs) n) q
    ∙ ap (λ n. take n (drop (length xs) (xs ++ (ys ++ zs)))) (less (length xs) (length ys))
    ∙ ap (take (length ys)) (drop-append_seam xs (ys ++ zs))
    ∙ take-append_seam ys zs

-- bytes behind all spans change no file
pub files_of-append : (bytes more : List ℕ) (spans : List Span) → All (IsWithin (length bytes)) spans → files_of (bytes ++ more) spans ≡ files_of bytes spans
files_of-append bytes more [] h = refl
files_of-append bytes more (s ∷ spans) h =
    let w : IsWithin (length bytes) s = All-head (IsWithin (length bytes)) s spans h in
    let to_end : s.middle ≤ length bytes = omega arith in
    ap (λ m. map.insert m (slice_range (bytes ++ more) s.start s.middle) (slice_range (bytes ++ more) s.middle s.end))
    (files_of-append bytes more spans (All-tail (IsWithin (length bytes)) s spans h))
    ∙ ap (λ n. map.insert (files_of bytes spans) n (slice_range (bytes ++ more) s.middle s.end)) (slice_range-append bytes more s.start s.middle w.front to_end)
    ∙ ap (λ c. map.insert (files_of bytes spans) (slice_range bytes s.start s.middle) c) (slice_range-append bytes more s.middle s.end w.back w.last)

nothing_more : (xs : List ℕ) → xs ++ [] ≡ xs
nothing_more [] = refl
nothing_more (x ∷ xs) = ap (λ ys. x ∷ ys) (nothing_more xs)

-- a new span in front
pub files_of-bound : (bytes name content : List ℕ) (s : Span) (spans : List Span) → All (IsWithin (length bytes)) spans
    → s.start ≡ length bytes → s.middle ≡ length bytes + length name → s.end ≡ length bytes + length name + length content
    → files_of ((bytes ++ name) ++ content) (s ∷ spans) ≡ map.insert (files_of bytes spans) name content
files_of-bound bytes name content s spans h p q r =
    let all : List ℕ = bytes ++ (name ++ content) in
    let e : (bytes ++ name) ++ content ≡ all = append_assoc bytes name content in
    let f : length (bytes ++ name) ≡ s.middle = length-append bytes name ∙ sym q in
    let g : s.end ≡ length (bytes ++ name) + length content = omega (arith, length-append bytes name) in
    let c : slice_range ((bytes ++ name) ++ (content ++ [])) s.middle s.end ≡ content = slice_range-between (bytes ++ name) content [] s.middle s.end (sym f) g in
    let d : slice_range ((bytes ++ name) ++ content) s.middle s.end ≡ content = ap (λ ys. slice_range ((bytes ++ name) ++ ys) s.middle s.end) (sym (nothing_more content)) ∙ c in
    ap (λ xs. map.insert (files_of xs spans) (slice_range xs s.start s.middle) (slice_range ((bytes ++ name) ++ content) s.middle s.end)) e
    ∙ ap (λ m. map.insert m (slice_range all s.start s.middle) (slice_range ((bytes ++ name) ++ content) s.middle s.end)) (files_of-append bytes (name ++ content) spans h)
    ∙ ap (λ n. map.insert (files_of bytes spans) n (slice_range ((bytes ++ name) ++ content) s.middle s.end)) (slice_range-between bytes name content s.start s.middle p q)
    ∙ ap (map.insert (files_of bytes spans) name) d

-- the bytes decide which key of a map is meant
pub key_test : (x y : List ℕ) (b : Bool) → b ≡ pointwise nat_eq y x → eq_by_cmp (slice_cmp nat_cmp) x y ≡ b
key_test x y b e = is_eq-slice_cmp x y ∙ same_test x y ∙ sym e
  where
    same_test : (x y : List ℕ) → bytes_eq x y ≡ bytes_eq y x
    same_test x y = equal_tests (bytes_eq x y) (bytes_eq y x) (λ h. (bytes_eq-Decides y x).1 (sym ((bytes_eq-Decides x y).0 h))) (λ h. (bytes_eq-Decides x y).1 (sym ((bytes_eq-Decides y x).0 h)))
      where
        equal_tests : (a b : Bool) → (a ≡ true → b ≡ true) → (b ≡ true → a ≡ true) → a ≡ b
        equal_tests true b p q = sym (p refl)
        equal_tests false true p q = q refl
        equal_tests false false p q = refl

drop-all : {A : Type 0} (xs : List A) (i : ℕ) → length xs ≤ i → drop i xs ≡ []
drop-all xs i h = grind (arith, common_steps)

-- a look-up in files with a newest span
pub newest_is : (bytes name : List ℕ) (spans : List Span) (i : ℕ) (s : Span) (b : Bool) → i < length spans → s ≡ get_or spans i s
    → b ≡ pointwise nat_eq (slice_range bytes s.start s.middle) name
    → map.get (files_of bytes (drop i spans)) name ≡ cond b (Some (slice_range bytes s.middle s.end)) (map.get (files_of bytes (drop (i + 1) spans)) name)
newest_is bytes name spans i s b lt is test =
    let rest : drop i spans ≡ s ∷ drop (i + 1) spans = drop-cons spans i s lt ∙ ap (λ t. t ∷ drop (suc i) spans) (sym is) ∙ ap (λ n. s ∷ drop n spans) (sym (add-one i)) in
    let more : Map = files_of bytes (drop (i + 1) spans) in
    ap (λ xs. map.get (files_of bytes xs) name) rest
    ∙ map.get-insert nat_list_cmp_total more (slice_range bytes s.start s.middle) (slice_range bytes s.middle s.end) name
    ∙ ap (λ t. cond t (Some (slice_range bytes s.middle s.end)) (map.get more name)) (key_test name (slice_range bytes s.start s.middle) b test)

pub none_newest : (bytes name : List ℕ) (spans : List Span) (i : ℕ) → length spans ≤ i → map.get (files_of bytes (drop i spans)) name ≡ None
none_newest bytes name spans i h = ap (λ xs. map.get (files_of bytes xs) name) (drop-all spans i h) ∙ map.get-empty (slice_cmp nat_cmp) name

-- a name that is bound to nothing is bound to nothing again
pub same_blank : (files : Map) → map.get files [] ≡ Some [] → map.insert files [] [] ≡ files
same_blank files e = map.same_map nat_list_cmp_total (map.slice_cmp-IsAntisymmetric map.nat_cmp-IsAntisymmetric) (map.insert files [] []) files same
  where
    same : (q : List ℕ) → map.get (map.insert files [] []) q ≡ map.get files q
    same [] = map.get-insert nat_list_cmp_total files [] [] [] ∙ sym e
    same (x ∷ q) = map.get-insert nat_list_cmp_total files [] [] (x ∷ q)

pub empty_list : (xs : List ℕ) → length xs ≡ 0 → xs ≡ []
empty_list [] h = refl
empty_list (x ∷ xs) h = absurd cc

pub slots-bound : (files : Map) (name content : List ℕ) (used left slots more : ℕ) → HasSlots files used left slots → length name + length content ≤ left
    → (length name + length content ≡ 0 → map.get files [] ≢ Some []) → slots ≤ more → HasSlots (map.insert files name content) (used + 1) (left - (length name + length content)) more
slots-bound files [] [] used left slots more h k f m =
    let lt = h.blank (f refl) in
    record { bytes = omega arith; blank = λ g. absurd (g (map.get-insert nat_list_cmp_total files [] [] [])) }
slots-bound files [] (x ∷ content) used left slots more h k f m = record { bytes = omega (arith, h.bytes); blank = λ g. omega (arith, h.bytes) }
slots-bound files (x ∷ name) content used left slots more h k f m = record { bytes = omega (arith, h.bytes); blank = λ g. omega (arith, h.bytes) }

pub slots-after : (files now : Map) (name content : List ℕ) (used left slots taken less more : ℕ) → HasSlots files used left slots → length name + length content ≤ left
    → (length name + length content ≡ 0 → map.get files [] ≢ Some []) → now ≡ map.insert files name content → taken ≡ used + 1
    → less ≡ left - (length name + length content) → slots ≤ more → HasSlots now taken less more
slots-after files now name content used left slots taken less more h k f p q r m =
    let s = slots-bound files name content used left slots more h k f m in
    rw (p, q, r) s
