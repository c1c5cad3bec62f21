use Rattle.std.proofs.Common.{◌≡◌, ℕ, ◌+◌, ◌-◌, ◌≤◌, Bool, true, false, ◌||◌, ◌==◌, List, [], ◌∷◌, ◌++◌, length, drop, get_or, refl, sym, ap, subst, ◌∙◌, arith, length-drop, if◌then◌else◌, rules}
use Rattle.std.specs.Char.{to_ascii_uppercase}
use Rattle.std.proofs.lemmas.Bool.{both_ways, eq-eqb}
use Rattle.std.proofs.lemmas.List.{take_rest}
use Rattle.plc_spelling.specs.Text.{IsGreatest, is_nil}
use Rattle.plc_spelling.specs.Addresses.{letter, is_direction, is_size, has_size, numbers, are_numbers, is_star, is_address}
use Rattle.plc_spelling.proofs.Greatest.{greatest-behind}
use Rattle.plc_spelling.proofs.addresses.address_size.Goals as goal

-- what may stand behind the direction and the size
abbrev ends : List ℕ → Bool
ends bs = is_nil bs || are_numbers bs || is_star bs

-- a text that begins with `%` and a direction
abbrev Directed : List ℕ → Type 0
Directed text = ((get_or text 0 0 == 37) ≡ true) × (is_direction (letter (drop 1 text)) ≡ true)

two : (text : List ℕ) → Directed text → 2 ≤ length text
two [] d = absurd (both_ways false refl d.1)
two (a ∷ []) d = absurd (both_ways false refl d.1)
two (a ∷ b ∷ bs) d = omega arith

three : (text : List ℕ) → has_size text ≡ true → 3 ≤ length text
three [] h = absurd (both_ways false refl h)
three (a ∷ []) h = absurd (both_ways false refl h)
three (a ∷ b ∷ []) h = absurd (both_ways false refl h)
three (a ∷ b ∷ c ∷ bs) h = omega arith

sized : (a b c : ℕ) (bs : List ℕ) → (a == 37) ≡ true → is_direction (to_ascii_uppercase b) ≡ true → is_size (to_ascii_uppercase c) ≡ true
    → is_address (a ∷ b ∷ c ∷ bs) ≡ ends bs
sized a b c bs opened directed h = rw (opened, directed, h) refl

unsized : (a b c : ℕ) (bs : List ℕ) → (a == 37) ≡ true → is_direction (to_ascii_uppercase b) ≡ true → is_size (to_ascii_uppercase c) ≡ false
    → is_address (a ∷ b ∷ c ∷ bs) ≡ ends (c ∷ bs)
unsized a b c bs opened directed h = rw (opened, directed, h) refl

front_directed : (front rest text : List ℕ) → front ++ rest ≡ text → Directed text → Directed (front ++ rest)
front_directed front rest text is d = subst Directed (sym is) d

front_sized : (front rest text : List ℕ) → front ++ rest ≡ text → Directed text → has_size text ≡ true → 3 ≤ length front → is_address front ≡ ends (drop 3 front)
front_sized [] rest text is d h le = absurd (omega arith)
front_sized (a ∷ []) rest text is d h le = absurd (omega arith)
front_sized (a ∷ b ∷ []) rest text is d h le = absurd (omega arith)
front_sized (a ∷ b ∷ c ∷ bs) rest text is d h le =
    let parts = front_directed (a ∷ b ∷ c ∷ bs) rest text is d in
    sized a b c bs parts.0 parts.1 (subst (λ bs. has_size bs ≡ true) (sym is) h)

front_unsized : (front rest text : List ℕ) → front ++ rest ≡ text → Directed text → has_size text ≡ false → 2 ≤ length front → is_address front ≡ ends (drop 2 front)
front_unsized [] rest text is d h le = absurd (omega arith)
front_unsized (a ∷ []) rest text is d h le = absurd (omega arith)
front_unsized (a ∷ b ∷ []) rest text is d h le =
    let parts = front_directed (a ∷ b ∷ []) rest text is d in
    rw (parts.0, parts.1) refl
front_unsized (a ∷ b ∷ c ∷ bs) rest text is d h le =
    let parts = front_directed (a ∷ b ∷ c ∷ bs) rest text is d in
    unsized a b c bs parts.0 parts.1 (subst (λ bs. has_size bs ≡ false) (sym is) h)

directed_size : (text : List ℕ) (n : ℕ) → Directed text → IsGreatest ends (numbers text) n → IsGreatest is_address text (length text - length (numbers text) + n)
directed_size text n d law = by (has_size text) refl law
  where
    by : (s : Bool) → has_size text ≡ s → IsGreatest ends (if s then drop 3 text else drop 2 text) n
        → IsGreatest is_address text (length text - length (if s then drop 3 text else drop 2 text) + n)
    by true e law =
        let le : 3 ≤ length text = three text e in
        let gone : 3 ≡ length text - length (drop 3 text) = omega (arith, length-drop 3 text, le) in
        subst (λ k. IsGreatest is_address text (k + n)) gone
        (greatest-behind is_address ends text 3 n le refl (λ front rest is fits. front_sized front rest text is d e fits) law)
    by false e law =
        let le : 2 ≤ length text = two text d in
        let gone : 2 ≡ length text - length (drop 2 text) = omega (arith, length-drop 2 text, le) in
        subst (λ k. IsGreatest is_address text (k + n)) gone
        (greatest-behind is_address ends text 2 n le refl (λ front rest is fits. front_unsized front rest text is d e fits) law)

pub returns-in-37 : goal.returns-in-37
returns-in-37 c =
    let opened : get_or c.args.text.now 0 0 ≡ 37 = search rules in
    let directed = sym c.is_direction.ensures ∙ c.if-is_direction.true in
    let rest : c.letter.result ≡ letter (drop 1 c.args.text.now) = c.letter.ensures ∙ ap letter (take_rest c.args.text.now 1) in
    let law = subst (λ bs. IsGreatest ends bs c.numbers_size.result) c.behind_size-numbers.ensures c.numbers_size.ensures in
    subst (λ bs. IsGreatest is_address c.args.text.now (length c.args.text.now - length bs + c.numbers_size.result)) (sym c.behind_size-numbers.ensures)
    (directed_size c.args.text.now c.numbers_size.result
    (eq-eqb (get_or c.args.text.now 0 0) 37 opened, subst (λ b. is_direction b ≡ true) rest directed) law)
