-- Room for lines about several names.
use Rattle.std.proofs.Common.{◌≡◌, ℕ, ◌+◌, ◌<◌, ◌≤◌, List, [], ◌∷◌, ◌++◌, length, take, get_or, ap, sym, ◌∙◌, subst, add-one, arith}
use Rattle.std.proofs.Math.Seq.{take-suc}
use Rattle.std.proofs.lemmas.Grind.{common_steps}
use Rattle.std.proofs.lemmas.List.Elements.{All-append, All-cons, All-weaker}
use Rattle.std.specs.List.{All}
use Rattle.c_tree.specs.declared.text.CText.{CText}
use Rattle.plc_top.specs.Complaints.{HasRoom}

-- a line about the name of this text has room
abbrev pub HasRoomFor : ℕ → CText → Type 0
HasRoomFor room text = HasRoom room text.name

-- more room, and room for one text more
pub one_more_room : (texts : List CText) (i m n : ℕ) (text : CText) → i < length texts → text ≡ get_or texts i text → m ≤ n → HasRoom n text.name
    → All (HasRoomFor m) (take i texts) → All (HasRoomFor n) (take (i + 1) texts)
one_more_room texts i m n text lt is le here all =
    let P : List CText → Type 0 = All (HasRoomFor n) in
    let wider : (t : CText) → HasRoomFor m t → HasRoomFor n t = λ t h. omega (arith, h) in
    let last : All (HasRoomFor n) (text ∷ []) = All-cons (HasRoomFor n) text [] here (λ k d no_index. absurd (omega (arith, no_index))) in
    let next : take i texts ++ text ∷ [] ≡ take (i + 1) texts =
    ap (λ t. take i texts ++ t ∷ []) is ∙ sym (take-suc texts i text lt) ∙ ap (λ k. take k texts) (sym (add-one i)) in
    subst P next (All-append (HasRoomFor n) (take i texts) (text ∷ []) (All-weaker (HasRoomFor m) (HasRoomFor n) wider (take i texts) all) last)

take-all : {A : Type 0} (xs : List A) (i : ℕ) → length xs ≤ i → take i xs ≡ xs
take-all xs i h = grind (arith, common_steps)

pub all_rooms : (texts : List CText) (i n : ℕ) → length texts ≤ i → All (HasRoomFor n) (take i texts) → All (HasRoomFor n) texts
all_rooms texts i n le all = let P : List CText → Type 0 = All (HasRoomFor n) in subst P (take-all texts i le) all
