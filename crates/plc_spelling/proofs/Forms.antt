-- The longest spelling, from the greatest front of each form.
use Rattle.std.proofs.Common.{◌≡◌, ℕ, zero, suc, ◌≤◌, ◌<◌, true, false, List, [], ◌∷◌, ◌++◌, length, take, get_or, sym, ap, subst, arith, ⊎_elim}
use Rattle.std.specs.List.{list_any}
use Rattle.std.proofs.lemmas.Bool.{both_ways, or_cases, or_left, or_right}
use Rattle.plc_spelling.specs.FirstBytes.{may_begin}
use Rattle.plc_spelling.specs.Spelling.{Form, forms, passes, is_spelling, size}
use Rattle.plc_spelling.specs.Spelling.Form.{Run, Integer, Literal, Address, Symbol, Inclusion, Real, Mark}
use Rattle.plc_spelling.specs.Text.{IsGreatest}
use Rattle.plc_spelling.proofs.FirstBytes.{form-not}
use Rattle.plc_spelling.proofs.Greatest.{longest-is}

-- ---- spellings and their forms

any-at : (bs : List ℕ) (fs : List Form) (k : ℕ) → k < length fs → passes bs (get_or fs k Run) ≡ true → list_any (passes bs) fs ≡ true
any-at bs [] k less h = absurd (omega arith)
any-at bs (f ∷ fs) zero less h = or_left (passes bs f) (list_any (passes bs) fs) h
any-at bs (f ∷ fs) (suc k) less h = or_right (passes bs f) (list_any (passes bs) fs) (any-at bs fs k (omega arith) h)

pub spelling-of : (bs : List ℕ) (f : Form) → passes bs f ≡ true → is_spelling bs ≡ true
spelling-of bs Run h = any-at bs forms 0 (omega arith) h
spelling-of bs Integer h = any-at bs forms 1 (omega arith) h
spelling-of bs Literal h = any-at bs forms 2 (omega arith) h
spelling-of bs Address h = any-at bs forms 3 (omega arith) h
spelling-of bs Symbol h = any-at bs forms 4 (omega arith) h
spelling-of bs Inclusion h = any-at bs forms 5 (omega arith) h
spelling-of bs Real h = any-at bs forms 6 (omega arith) h
spelling-of bs Mark h = any-at bs forms 7 (omega arith) h

form-among : (bs : List ℕ) (fs : List Form) → list_any (passes bs) fs ≡ true → (f : Form) × (passes bs f ≡ true)
form-among bs [] h = absurd (let no : false ≡ true = h in cc)
form-among bs (f ∷ fs) h = ⊎_elim (λ e. (f, e)) (λ e. form-among bs fs e) (or_cases (passes bs f) (list_any (passes bs) fs) h)

-- a spelling is of some form
pub spelling-form : (bs : List ℕ) → is_spelling bs ≡ true → (f : Form) × (passes bs f ≡ true)
spelling-form bs h = form-among bs forms h

-- ---- the longest one

module _ (text : List ℕ) (n : ℕ) where
  -- no front of a form is longer
  abbrev pub Bounds : Form → Type 0
  Bounds f = (front rest : List ℕ) → front ++ rest ≡ text → passes front f ≡ true → length front ≤ n

  -- each form has a greatest front of at most so many bytes
  pub record HasBounds : Type 0 where
    pub each : (f : Form) → Bounds f
    pub within : n ≤ length text

  pub size-spelled : (f : Form) → HasBounds → passes (take n text) f ≡ true → size text ≡ n
  unfolding size
  size-spelled f bounds h = longest-is is_spelling text n (record {
    passed = λ some. spelling-of (take n text) f h;
    most = λ front rest is e. let found = spelling-form front e in bounds.each found.0 front rest is found.1;
    within = bounds.within;
  })

-- where no form has a front
pub size-none : (text : List ℕ) → ((f : Form) → Bounds text 0 f) → size text ≡ 0
unfolding size
size-none text bounds = longest-is is_spelling text 0 (record {
  passed = λ some. absurd (omega arith);
  most = λ front rest is e. let found = spelling-form front e in bounds found.0 front rest is found.1;
  within = omega arith;
})

pub bounds-of : (text : List ℕ) (f : Form) (m n : ℕ) → m ≤ n → IsGreatest (λ bs. passes bs f) text m → Bounds text n f
bounds-of text f m n le law front rest is h = omega (arith, law.most front rest is h, le)

-- a form that the first byte rules out has no front
pub bounds-not : (b : ℕ) (bs : List ℕ) (n : ℕ) (f : Form) → may_begin f b ≡ false → Bounds (b ∷ bs) n f
bounds-not b bs n f e [] rest is h = omega arith
bounds-not b bs n f e (c ∷ front) rest is h =
    let same : c ≡ b = ap (λ xs. get_or xs 0 0) is in
    absurd (both_ways (passes (c ∷ front) f) (form-not f c front (subst (λ d. may_begin f d ≡ false) (sym same) e)) h)
