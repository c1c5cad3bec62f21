use Rattle.std.proofs.Common.{◌≡◌, ℕ, Bool, List, ◌+◌, drop, get_or, sym, subst, ◌∙◌, arith, inl, inr, ⊎_elim}
use Rattle.std.specs.Char.{is_digit}
use Rattle.std.proofs.lemmas.List.{at_drop_more, at_drop_all}
use Rattle.plc_spelling.proofs.Apart.{reach, reach-greatest, walk, walk-end, walk-class, walk-separator, walk-other, walk-reach}
use Rattle.plc_spelling.specs.Text.{apart, IsGreatest}
use Rattle.plc_spelling.proofs.text.apart_size.Goals as goal
use Rattle.plc_spelling.proofs.text.apart_size.Goals.{then-is_digit, else-is_digit+else-b-separator+else-size-eq0+else-size-i}

-- what the loop knows: the walk from its state finds what the text has
greatest_at : (class : ℕ → Bool) (separator : ℕ) (text : List ℕ) (i n : ℕ) → reach class separator text ≡ walk class separator i n (drop i text)
    → walk class separator i n (drop i text) ≡ n → IsGreatest (apart class separator) text n
greatest_at class separator text i n is end = subst (IsGreatest (apart class separator) text) (is ∙ end) (reach-greatest class separator text)

pub loop-i-init : goal.loop-i-init
loop-i-init c = sym (walk-reach (λ b. is_digit b c.args.base) c.args.separator c.requires c.args.text.now)

pub returns : goal.returns
returns c =
    let e = at_drop_all (walk (λ b. is_digit b c.args.base) c.args.separator c.loop-i.i c.loop-i.size) c.args.text.now c.loop-i.i (omega arith) in
    greatest_at (λ b. is_digit b c.args.base) c.args.separator c.args.text.now c.loop-i.i c.loop-i.size c.loop-i.invariant
    (e ∙ walk-end (λ b. is_digit b c.args.base) c.args.separator c.loop-i.i c.loop-i.size)

pub returns-then-b-separator : goal.returns-then-b-separator
returns-then-b-separator c =
    let class : ℕ → Bool = λ b. is_digit b c.args.base in
    let more = at_drop_more (walk class c.args.separator c.loop-i.i c.loop-i.size) c.args.text.now c.loop-i.i 0 c.loop-i-test.true in
    greatest_at class c.args.separator c.args.text.now c.loop-i.i c.loop-i.size c.loop-i.invariant
    (more ∙ walk-other class c.args.separator c.loop-i.i c.loop-i.size (get_or c.args.text.now c.loop-i.i 0) (drop (c.loop-i.i + 1) c.args.text.now)
    (sym c.is_digit.ensures ∙ c.if-is_digit.false)
    (⊎_elim (λ other. inl other) (λ at. ⊎_elim (λ none. inr (inl none.1)) (λ less. inr (inr less.2)) at) c.then-b-separator.either))

pub loop-i-preserved : goal.loop-i-preserved
loop-i-preserved c =
    let class : ℕ → Bool = λ b. is_digit b c.args.base in
    let more = at_drop_more (walk class c.args.separator c.loop-i.i c.loop-i.size) c.args.text.now c.loop-i.i 0 c.loop-i-test.true in
    elim c.if-is_digit.branch [
      | then-is_digit w ↦ rw w.size-is (c.loop-i.invariant ∙ more ∙ walk-class class c.args.separator c.loop-i.i c.loop-i.size
          (get_or c.args.text.now c.loop-i.i 0) (drop (c.loop-i.i + 1) c.args.text.now) (sym c.is_digit.ensures ∙ w.if-is_digit.true))
      | else-is_digit+else-b-separator+else-size-eq0+else-size-i w ↦ rw w.size-is (c.loop-i.invariant ∙ more ∙ walk-separator class c.args.separator c.loop-i.i c.loop-i.size
          (get_or c.args.text.now c.loop-i.i 0) (drop (c.loop-i.i + 1) c.args.text.now) (sym c.is_digit.ensures ∙ w.if-is_digit.false)
          w.if-b-separator.false (omega arith) w.if-size-i.false)
    ]
