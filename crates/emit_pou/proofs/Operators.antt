-- The C of an operator gives what the operator gives, over all types and operators.
use Rattle.std.proofs.Common.{◌≡◌, refl, sym, ap, subst, ◌∙◌, ℕ, ◌^◌, ◌%◌, ◌<◌, ◌≤◌, Bool, true, false, arith}
use Rattle.std.specs.Prelude.{ℤ, pos, negsuc, ◌+ℤ◌, ◌-ℤ◌, ◌*ℤ◌, int_le, not, ◌&&◌, nat_le, nat_lt}
use Rattle.std.specs.Ordering.{int_eq}
use Rattle.std.specs.Int.Bits.{bit_and, bit_or, bit_xor}
use Rattle.std.proofs.Math.Nat.{mod-eq_of_lt}
use Rattle.std.proofs.Math.Pow.{pow_mono}
use Rattle.std.proofs.lemmas.Bool.Decides.{nat_tests}
use Rattle.std.proofs.lemmas.Nat.{and_le_l, or_lt, xor_lt}
use Rattle.plc_base.specs.declared.elem.Elem.{Elem}
use Rattle.plc_base.specs.declared.elem.Elem.TheVariants.{Ulint, Bool as Boolean}
use Rattle.plc_base.specs.Numbers.{width, is_signed, FitsBits, Fits, residue, reading, wrap}
use Rattle.plc_base.proofs.Elems.{each}
use Rattle.plc_base.proofs.Wrapping.{width_some, fits-wrap, unsigned_64, unsigned_64-twice, wrap_add, wrap_sub, wrap_mul, fits-zero, fits-one, IsWider, wrap_bits-wider}
use Rattle.plc_tree.specs.declared.tree.BinOp.{BinOp}
use Rattle.plc_tree.specs.declared.tree.BinOp.TheVariants.{Or, Xor, And, Eq, Ne, Lt, Gt, Le, Ge, Add, Sub, Mul, Div, Rem}
use Rattle.plc_tree.specs.declared.tree.UnOp.{UnOp}
use Rattle.plc_tree.specs.declared.tree.UnOp.TheVariants.{Minus, Not}
use Rattle.plc_tree.specs.declared.typed.TypeId.{TypeId}
use Rattle.plc_tree.specs.declared.typed.TypeId.TheVariants.{Elem as elementary}
use Rattle.plc_tree.specs.Outcome.{Out, Done, then_do}
use Rattle.plc_tree.specs.Rows.{elem_of}
use Rattle.plc_tree.specs.Execution.{truth, bitwise, apply, apply_one}
use Rattle.plc_tree.specs.WellTyped.{is_bits, IsRow}
use Rattle.c_tree.specs.declared.tree.CBin.{CBin}
use Rattle.c_tree.specs.declared.tree.CBin.TheVariants as bin
use Rattle.c_tree.specs.declared.tree.CExpr.{CExpr}
use Rattle.c_tree.specs.declared.tree.CExpr.TheVariants as expr
use Rattle.c_tree.specs.declared.tree.CNum.TheVariants.{ULL}
use Rattle.c_meaning.specs.Outcome.{COut, CDone, c_then}
use Rattle.c_meaning.specs.Values.{Arith, I32, U32, I64, U64, CVal, c_width, c_signed, promoted, of_type, convert, usual, c_truth, c_bitwise, c_bin}
use Rattle.c_meaning.specs.Execution.{Frame, CStore, Got, c_cast, c_value}
use Rattle.c_meaning.proofs.MeaningViews.{c_value-Bin, c_value-Cast}
use Rattle.emit_pou.specs.Expressions.{in_64_bits, operation, taken_from, operation_of_one}
use Rattle.emit_pou.specs.Like.{Sim, both_done, Alike, Gives}
use Rattle.emit_pou.proofs.Steps.{sim_then, sim_after}

-- ---- numbers in the types that operators work on

pub usual-self : (a : Arith) → usual a a ≡ a
usual-self I32 = refl
usual-self U32 = refl
usual-self I64 = refl
usual-self U64 = refl

-- of the widths: the one without a sign has one bit less, or as many
abbrev wider : Bool → Bool → ℕ → ℕ → Bool
wider false false w v = nat_le w v
wider false true w v = nat_lt w v
wider true false w v = false
wider true true w v = nat_le w v

as_wider : (s q : Bool) (w v : ℕ) → wider s q w v ≡ true → IsWider s w q v
as_wider false false w v h = grind (arith, nat_tests)
as_wider false true w v h = grind (arith, nat_tests)
as_wider true false w v h = absurd (let e : false ≡ true = h in cc)
as_wider true true w v h = grind (arith, nat_tests)

abbrev is_wider : Elem → Bool
is_wider t = wider (is_signed t) (c_signed (promoted t)) (width t) (c_width (promoted t))

-- each type has a place in the one that it is promoted to
pub wider-promoted : (t : Elem) → IsWider (is_signed t) (width t) (c_signed (promoted t)) (c_width (promoted t))
wider-promoted t = as_wider (is_signed t) (c_signed (promoted t)) (width t) (c_width (promoted t)) (each is_wider refl t)

pub convert_promoted : (t : Elem) (z : ℤ) → Fits t z → convert (promoted t) z ≡ z
convert_promoted t z f = wrap_bits-wider (is_signed t) (c_signed (promoted t)) (width t) (c_width (promoted t)) z (width_some t) (wider-promoted t) f

pub fits-truth : (b : Bool) → Fits Boolean (truth b)
fits-truth true = fits-one
fits-truth false = fits-zero Boolean

truth_is : (b : Bool) → c_truth b ≡ of_type I32 (truth b)
truth_is true = refl
truth_is false = refl

-- a comparison in the usual type is that of the numbers
compared : (op : CBin) (f : ℤ → ℤ → Bool) → ((v q : CVal) (m : ℕ) → c_bin op v q m ≡ CDone (c_truth (f (convert (usual v.ty q.ty) v.z) (convert (usual v.ty q.ty) q.z))) m)
    → (t : Elem) (z w : ℤ) (n : ℕ) → Fits t z → Fits t w → c_bin op (of_type (promoted t) z) (of_type (promoted t) w) n ≡ CDone (of_type I32 (truth (f z w))) n
compared op f step t z w n g h =
    step (of_type (promoted t) z) (of_type (promoted t) w) n
    ∙ ap (λ a. CDone (c_truth (f (convert a z) (convert a w))) n) (usual-self (promoted t))
    ∙ (λ i. CDone (c_truth (f (convert_promoted t z g i) (convert_promoted t w h i))) n)
    ∙ ap (λ v. CDone v n) (truth_is (f z w))

-- ---- an operator on bits, of which no type has a sign

unsigned_bits : (t : Elem) → is_bits t ≡ true → is_signed t ≡ false
unsigned_bits t h = apart (is_bits t) (is_signed t) (each (λ t. not (is_bits t && is_signed t)) refl t) h
  where
    apart : (a b : Bool) → not (a && b) ≡ true → a ≡ true → b ≡ false
    apart true true k i = sym k
    apart true false k i = refl
    apart false b k i = absurd (let e : false ≡ true = i in cc)

-- one that makes no number of more bits
abbrev Narrow : (ℕ → ℕ → ℕ) → Type 0
Narrow on = (w i j : ℕ) → i < 2 ^ w → j < 2 ^ w → on i j < 2 ^ w

and_narrow : Narrow bit_and
and_narrow w i j h k = omega (arith, h, and_le_l i j)

or_narrow : Narrow bit_or
or_narrow w i j h k = or_lt w i j h k

xor_narrow : Narrow bit_xor
xor_narrow w i j h k = xor_lt w i j h k

module _ (on : ℕ → ℕ → ℕ) (narrow : Narrow on) (w v : ℕ) (some : 0 < w) where
  -- as many bits, or more of them with a sign
  on_bits : (q : Bool) → IsWider false w q v → (z y : ℤ) → FitsBits false w z → FitsBits false w y
      → (r : ℤ) × FitsBits false w r × (reading false w (on (residue (2 ^ w) z) (residue (2 ^ w) y)) ≡ r) × (reading q v (on (residue (2 ^ v) z) (residue (2 ^ v) y)) ≡ r)
  on_bits q wide (negsuc i) y h k = absurd h
  on_bits q wide (pos i) (negsuc j) h k = absurd k
  on_bits q wide (pos i) (pos j) h k =
      let less : on i j < 2 ^ w = narrow w i j h k in
      let most : 2 ^ w ≤ 2 ^ v = pow_mono (wide_enough q wide) in
      let i_is : i % 2 ^ v ≡ i = mod-eq_of_lt (omega (arith, h, most)) in
      let j_is : j % 2 ^ v ≡ j = mod-eq_of_lt (omega (arith, k, most)) in
      let r_is : on i j % 2 ^ v ≡ on i j = mod-eq_of_lt (omega (arith, less, most)) in
      (pos (on i j), less, (λ n. pos (on (mod-eq_of_lt h n) (mod-eq_of_lt k n))), (λ n. reading q v (on (i_is n) (j_is n))) ∙ ap (reading q v) (sym r_is) ∙ wrap_bits-wider false q w v (pos (on i j)) some wide less)
    where
      wide_enough : (q : Bool) → IsWider false w q v → w ≤ v
      wide_enough false e = e
      wide_enough true e = omega (arith, e)

-- what the C gives is what the operator gives, a number of the type
bits_are : (on : ℕ → ℕ → ℕ) → Narrow on → (t : Elem) → is_bits t ≡ true → (z y : ℤ) → Fits t z → Fits t y
    → Fits t (bitwise on t z y) × (c_bitwise on (promoted t) z y ≡ of_type (promoted t) (bitwise on t z y))
bits_are on narrow t bits z y h k =
    by (is_signed t) (unsigned_bits t bits) (wider-promoted t) h k
  where
    by : (s : Bool) → s ≡ false → IsWider s (width t) (c_signed (promoted t)) (c_width (promoted t)) → FitsBits s (width t) z → FitsBits s (width t) y
        → FitsBits s (width t) (reading s (width t) (on (residue (2 ^ width t) z) (residue (2 ^ width t) y)))
        × (c_bitwise on (promoted t) z y ≡ of_type (promoted t) (reading s (width t) (on (residue (2 ^ width t) z) (residue (2 ^ width t) y))))
    by true e wide g f = absurd (let x : true ≡ false = e in cc)
    by false e wide g f =
        let r = on_bits on narrow (width t) (c_width (promoted t)) (width_some t) (c_signed (promoted t)) wide z y g f in
        (subst (FitsBits false (width t)) (sym r.2) r.1, ap (of_type (promoted t)) (r.3 ∙ sym r.2))

joined : (op : CBin) (on : ℕ → ℕ → ℕ) → Narrow on → ((v q : CVal) (m : ℕ) → c_bin op v q m ≡ CDone (c_bitwise on (usual v.ty q.ty) (convert (usual v.ty q.ty) v.z) (convert (usual v.ty q.ty) q.z)) m)
    → (t : Elem) → is_bits t ≡ true → (z y : ℤ) (n : ℕ) → Fits t z → Fits t y → c_bin op (of_type (promoted t) z) (of_type (promoted t) y) n ≡ CDone (of_type (promoted t) (bitwise on t z y)) n
joined op on narrow step t bits z y n g h =
    step (of_type (promoted t) z) (of_type (promoted t) y) n
    ∙ ap (λ a. CDone (c_bitwise on a (convert a z) (convert a y)) n) (usual-self (promoted t))
    ∙ (λ i. CDone (c_bitwise on (promoted t) (convert_promoted t z g i) (convert_promoted t y h i)) n)
    ∙ ap (λ v. CDone v n) (bits_are on narrow t bits z y g h).1

module _ (fr : Frame) (c : CStore) where
  -- ---- a rule for each form of the C

  -- in the store that each side leaves as it is
  abbrev Given : {A : Type 0} → (A → CVal → Type 0) → A → Got CVal → Type 0
  Given R = Gives c R

  pub cast_sim : {A : Type 0} {R S : A → CVal → Type 0} (x : Out A) (t : Elem) (e : CExpr) (n : ℕ)
      → Sim (Given R) x (c_value fr e c n) → ((a : A) (v : CVal) → R a v → S a (c_cast t v)) → Sim (Given S) x (c_value fr (expr.Cast t e) c n)
  cast_sim {S = S} x t e n r h =
      subst (Sim (Given S) x) (sym (c_value-Cast fr t e c n))
      (sim_after x (c_value fr e c n) (λ v m. CDone (c_cast t v.0, v.1) m) r (λ a v m q. both_done (record { value = h a v.0 q.value; stays = q.stays })))

  -- an operator that is done gives its value in the same store
  bin_done : {C : Type 0} {S : C → CVal → Type 0} (k : Out C) (y : COut CVal) → Sim S k y → Sim (Given S) k (c_then y (λ v j. CDone (v, c) j))
  bin_done k y r = sim_after k y _ r (λ a v n p. both_done (record { value = p; stays = refl }))

  pub bin_sim : {C : Type 0} {R : ℤ → CVal → Type 0} {S : C → CVal → Type 0} (op : CBin) (x : Out ℤ) (y : ℕ → Out ℤ) (k : ℤ → ℤ → ℕ → Out C) (a b : CExpr) (n : ℕ)
      → Sim (Given R) x (c_value fr a c n) → ((m : ℕ) → Sim (Given R) (y m) (c_value fr b c m))
      → ((z w : ℤ) (v q : CVal) (m : ℕ) → R z v → R w q → Sim S (k z w m) (c_bin op v q m))
      → Sim (Given S) (then_do x (λ z r. then_do (y r) (λ w m. k z w m))) (c_value fr (expr.Bin op a b) c n)
  bin_sim {S = S} op x y k a b n r s h =
      subst (Sim (Given S) (then_do x (λ z r. then_do (y r) (λ w m. k z w m)))) (sym (c_value-Bin fr op a b c n))
      (sim_then x (c_value fr a c n) _ _ r
      (λ z v m p. subst (λ d. Sim (Given S) (then_do (y m) (λ w j. k z w j)) (c_then (c_value fr b d m) (λ q i. c_then (c_bin op v.0 q.0 i) (λ u j. CDone (u, q.1) j)))) (sym p.stays)
      (sim_then (y m) (c_value fr b c m) _ _ (s m)
      (λ w q i p'. subst (λ d. Sim (Given S) (k z w i) (c_then (c_bin op v.0 q.0 i) (λ u j. CDone (u, d) j))) (sym p'.stays)
      (bin_done (k z w i) (c_bin op v.0 q.0 i) (h z w v.0 q.0 i p.value p'.value))))))

  -- ---- operators

  -- a number in 64 bits
  abbrev Wide : ℤ → CVal → Type 0
  Wide z v = v ≡ of_type U64 (unsigned_64 z)

  wide_sim : (x : Out ℤ) (t : Elem) (e : CExpr) (n : ℕ) → Sim (Given (Alike t)) x (c_value fr e c n) → Sim (Given Wide) x (c_value fr (expr.Cast Ulint e) c n)
  wide_sim x t e n r = cast_sim x Ulint e n r (λ z v q. ap (λ w. of_type U64 (unsigned_64 w.z)) q.is)

  -- an operator on numbers in 64 bits, cut to its type
  narrow_sim : (op : CBin) (f g : ℤ → ℤ → ℤ) (t : Elem) (x : Out ℤ) (y : ℕ → Out ℤ) (a b : CExpr) (n : ℕ)
      → ((z w : ℤ) (m : ℕ) → c_bin op (of_type U64 (unsigned_64 z)) (of_type U64 (unsigned_64 w)) m ≡ CDone (of_type U64 (g z w)) m)
      → ((z w : ℤ) → wrap t (g z w) ≡ wrap t (f z w))
      → Sim (Given Wide) x (c_value fr a c n) → ((m : ℕ) → Sim (Given Wide) (y m) (c_value fr b c m))
      → Sim (Given (Alike t)) (then_do x (λ z r. then_do (y r) (λ w m. Done (wrap t (f z w)) m))) (c_value fr (expr.Cast t (expr.Bin op a b)) c n)
  narrow_sim op f g t x y a b n step is r s =
      cast_sim {R = λ z v. wrap t v.z ≡ z} (then_do x (λ z r. then_do (y r) (λ w m. Done (wrap t (f z w)) m))) t (expr.Bin op a b) n
      (bin_sim {R = Wide} op x y (λ z w m. Done (wrap t (f z w)) m) a b n r s
      (λ z w v q m p p'. subst (Sim (λ z v. wrap t v.z ≡ z) (Done (wrap t (f z w)) m)) (sym ((λ i. c_bin op (p i) (p' i) m) ∙ step z w m)) (both_done (is z w))))
      (λ z v p. record { is = ap (of_type (promoted t)) p; fits = subst (Fits t) p (fits-wrap t v.z) })

  cut_sim : (op : CBin) (f g : ℤ → ℤ → ℤ) (t : Elem) (x : Out ℤ) (y : ℕ → Out ℤ) (a b : CExpr) (n : ℕ)
      → ((z w : ℤ) (m : ℕ) → c_bin op (of_type U64 (unsigned_64 z)) (of_type U64 (unsigned_64 w)) m ≡ CDone (of_type U64 (g z w)) m)
      → ((z w : ℤ) → wrap t (g z w) ≡ wrap t (f z w))
      → Sim (Given (Alike t)) x (c_value fr a c n) → ((m : ℕ) → Sim (Given (Alike t)) (y m) (c_value fr b c m))
      → Sim (Given (Alike t)) (then_do x (λ z r. then_do (y r) (λ w m. Done (wrap t (f z w)) m))) (c_value fr (in_64_bits t (expr.Bin op) a b) c n)
  cut_sim op f g t x y a b n step is r s = narrow_sim op f g t x y (expr.Cast Ulint a) (expr.Cast Ulint b) n step is (wide_sim x t a n r) (λ m. wide_sim (y m) t b m (s m))

  pub add_sim : (t : Elem) (x : Out ℤ) (y : ℕ → Out ℤ) (a b : CExpr) (n : ℕ) → Sim (Given (Alike t)) x (c_value fr a c n) → ((m : ℕ) → Sim (Given (Alike t)) (y m) (c_value fr b c m))
      → Sim (Given (Alike t)) (then_do x (λ z r. then_do (y r) (λ w m. Done (apply Add t z w) m))) (c_value fr (operation Add t a b) c n)
  add_sim t x y a b n r s =
      cut_sim bin.Add (λ z w. z +ℤ w) (λ z w. unsigned_64 (unsigned_64 (unsigned_64 z) +ℤ unsigned_64 (unsigned_64 w))) t x y a b n (λ z w m. refl)
      (λ z w. (λ i. wrap t (unsigned_64 (unsigned_64-twice z i +ℤ unsigned_64-twice w i))) ∙ wrap_add t z w) r s

  sub_sim : (t : Elem) (x : Out ℤ) (y : ℕ → Out ℤ) (a b : CExpr) (n : ℕ) → Sim (Given (Alike t)) x (c_value fr a c n) → ((m : ℕ) → Sim (Given (Alike t)) (y m) (c_value fr b c m))
      → Sim (Given (Alike t)) (then_do x (λ z r. then_do (y r) (λ w m. Done (apply Sub t z w) m))) (c_value fr (operation Sub t a b) c n)
  sub_sim t x y a b n r s =
      cut_sim bin.Sub (λ z w. z -ℤ w) (λ z w. unsigned_64 (unsigned_64 (unsigned_64 z) -ℤ unsigned_64 (unsigned_64 w))) t x y a b n (λ z w m. refl)
      (λ z w. (λ i. wrap t (unsigned_64 (unsigned_64-twice z i -ℤ unsigned_64-twice w i))) ∙ wrap_sub t z w) r s

  mul_sim : (t : Elem) (x : Out ℤ) (y : ℕ → Out ℤ) (a b : CExpr) (n : ℕ) → Sim (Given (Alike t)) x (c_value fr a c n) → ((m : ℕ) → Sim (Given (Alike t)) (y m) (c_value fr b c m))
      → Sim (Given (Alike t)) (then_do x (λ z r. then_do (y r) (λ w m. Done (apply Mul t z w) m))) (c_value fr (operation Mul t a b) c n)
  mul_sim t x y a b n r s =
      cut_sim bin.Mul (λ z w. z *ℤ w) (λ z w. unsigned_64 (unsigned_64 (unsigned_64 z) *ℤ unsigned_64 (unsigned_64 w))) t x y a b n (λ z w m. refl)
      (λ z w. (λ i. wrap t (unsigned_64 (unsigned_64-twice z i *ℤ unsigned_64-twice w i))) ∙ wrap_mul t z w) r s

  -- a comparison
  pub compare_sim : (op : CBin) (f : ℤ → ℤ → Bool) → ((v q : CVal) (m : ℕ) → c_bin op v q m ≡ CDone (c_truth (f (convert (usual v.ty q.ty) v.z) (convert (usual v.ty q.ty) q.z))) m)
      → (t : Elem) (x : Out ℤ) (y : ℕ → Out ℤ) (a b : CExpr) (n : ℕ) → Sim (Given (Alike t)) x (c_value fr a c n) → ((m : ℕ) → Sim (Given (Alike t)) (y m) (c_value fr b c m))
      → Sim (Given (Alike Boolean)) (then_do x (λ z r. then_do (y r) (λ w m. Done (truth (f z w)) m))) (c_value fr (expr.Bin op a b) c n)
  compare_sim op f step t x y a b n r s =
      bin_sim {R = Alike t} op x y (λ z w m. Done (truth (f z w)) m) a b n r s
      (λ z w v q m p p'. subst (Sim (Alike Boolean) (Done (truth (f z w)) m)) (sym ((λ i. c_bin op (p.is i) (p'.is i) m) ∙ compared op f step t z w m p.fits p'.fits))
      (both_done (record { is = refl; fits = fits-truth (f z w) })))

  -- an operator on bits
  pub bits_sim : (op : CBin) (on : ℕ → ℕ → ℕ) → Narrow on → ((v q : CVal) (m : ℕ) → c_bin op v q m ≡ CDone (c_bitwise on (usual v.ty q.ty) (convert (usual v.ty q.ty) v.z) (convert (usual v.ty q.ty) q.z)) m)
      → (t : Elem) → is_bits t ≡ true → (x : Out ℤ) (y : ℕ → Out ℤ) (a b : CExpr) (n : ℕ) → Sim (Given (Alike t)) x (c_value fr a c n) → ((m : ℕ) → Sim (Given (Alike t)) (y m) (c_value fr b c m))
      → Sim (Given (Alike t)) (then_do x (λ z r. then_do (y r) (λ w m. Done (bitwise on t z w) m))) (c_value fr (expr.Bin op a b) c n)
  bits_sim op on narrow step t bits x y a b n r s =
      bin_sim {R = Alike t} op x y (λ z w m. Done (bitwise on t z w) m) a b n r s
      (λ z w v q m p p'. subst (Sim (Alike t) (Done (bitwise on t z w) m)) (sym ((λ i. c_bin op (p.is i) (p'.is i) m) ∙ joined op on narrow step t bits z w m p.fits p'.fits))
      (both_done (record { is = refl; fits = (bits_are on narrow t bits z w p.fits p'.fits).0 })))

  pub and_sim : (t : Elem) → is_bits t ≡ true → (x : Out ℤ) (y : ℕ → Out ℤ) (a b : CExpr) (n : ℕ) → Sim (Given (Alike t)) x (c_value fr a c n) → ((m : ℕ) → Sim (Given (Alike t)) (y m) (c_value fr b c m))
      → Sim (Given (Alike t)) (then_do x (λ z r. then_do (y r) (λ w m. Done (apply And t z w) m))) (c_value fr (expr.Bin bin.And a b) c n)
  and_sim = bits_sim bin.And bit_and and_narrow (λ v q m. refl)

  pub or_sim : (t : Elem) → is_bits t ≡ true → (x : Out ℤ) (y : ℕ → Out ℤ) (a b : CExpr) (n : ℕ) → Sim (Given (Alike t)) x (c_value fr a c n) → ((m : ℕ) → Sim (Given (Alike t)) (y m) (c_value fr b c m))
      → Sim (Given (Alike t)) (then_do x (λ z r. then_do (y r) (λ w m. Done (apply Or t z w) m))) (c_value fr (expr.Bin bin.Or a b) c n)
  or_sim = bits_sim bin.Or bit_or or_narrow (λ v q m. refl)

  xor_sim : (t : Elem) → is_bits t ≡ true → (x : Out ℤ) (y : ℕ → Out ℤ) (a b : CExpr) (n : ℕ) → Sim (Given (Alike t)) x (c_value fr a c n) → ((m : ℕ) → Sim (Given (Alike t)) (y m) (c_value fr b c m))
      → Sim (Given (Alike t)) (then_do x (λ z r. then_do (y r) (λ w m. Done (apply Xor t z w) m))) (c_value fr (expr.Bin bin.Xor a b) c n)
  xor_sim = bits_sim bin.Xor bit_xor xor_narrow (λ v q m. refl)

  -- from a side that gives the number, the C of an operator before it gives the operator's number
  pub one_sim : (op : UnOp) (t : Elem) (y : ℕ → Out ℤ) (a : CExpr) (n : ℕ) → ((m : ℕ) → Sim (Given (Alike t)) (y m) (c_value fr a c m))
      → Sim (Given (Alike t)) (then_do (y n) (λ z r. Done (apply_one op t z) r)) (c_value fr (operation_of_one op t a) c n)
  one_sim Minus t y a n s =
      narrow_sim bin.Sub (λ z w. z -ℤ w) (λ z w. unsigned_64 (unsigned_64 (unsigned_64 z) -ℤ unsigned_64 (unsigned_64 w))) t (Done (pos 0) n) y (expr.Number (taken_from Minus) ULL) (expr.Cast Ulint a) n (λ z w m. refl)
      (λ z w. (λ i. wrap t (unsigned_64 (unsigned_64-twice z i -ℤ unsigned_64-twice w i))) ∙ wrap_sub t z w) (both_done (record { value = refl; stays = refl })) (λ m. wide_sim (y m) t a m (s m))
  one_sim Not t y a n s =
      narrow_sim bin.Sub (λ z w. z -ℤ w) (λ z w. unsigned_64 (unsigned_64 (unsigned_64 z) -ℤ unsigned_64 (unsigned_64 w))) t (Done (negsuc 0) n) y (expr.Number (taken_from Not) ULL) (expr.Cast Ulint a) n (λ z w m. refl)
      (λ z w. (λ i. wrap t (unsigned_64 (unsigned_64-twice z i -ℤ unsigned_64-twice w i))) ∙ wrap_sub t z w) (both_done (record { value = refl; stays = refl })) (λ m. wide_sim (y m) t a m (s m))

  -- where the type of the result is given by an equation
  at_type : (op : BinOp) (t result : TypeId) → result ≡ t → (x : Out ℤ) (a b : CExpr) (n : ℕ) → Sim (Given (Alike (elem_of t))) x (c_value fr (operation op (elem_of t) a b) c n)
      → Sim (Given (Alike (elem_of result))) x (c_value fr (operation op (elem_of result) a b) c n)
  at_type op t result e x a b n h = subst (λ t. Sim (Given (Alike (elem_of t))) x (c_value fr (operation op (elem_of t) a b) c n)) (sym e) h

  -- from sides that give the numbers, an operator's C gives the operator's number
  pub operation_sim : (op : BinOp) (side result : TypeId) → IsRow op side result → (x : Out ℤ) (y : ℕ → Out ℤ) (a b : CExpr) (n : ℕ)
      → Sim (Given (Alike (elem_of side))) x (c_value fr a c n) → ((m : ℕ) → Sim (Given (Alike (elem_of side))) (y m) (c_value fr b c m))
      → Sim (Given (Alike (elem_of result))) (then_do x (λ z r. then_do (y r) (λ w m. Done (apply op (elem_of side) z w) m))) (c_value fr (operation op (elem_of result) a b) c n)
  operation_sim Or side result row x y a b n r s = at_type Or side result row.0 _ a b n (or_sim (elem_of side) row.1 x y a b n r s)
  operation_sim Xor side result row x y a b n r s = at_type Xor side result row.0 _ a b n (xor_sim (elem_of side) row.1 x y a b n r s)
  operation_sim And side result row x y a b n r s = at_type And side result row.0 _ a b n (and_sim (elem_of side) row.1 x y a b n r s)
  operation_sim Eq side result row x y a b n r s = at_type Eq (elementary Boolean) result row _ a b n (compare_sim bin.Eq (λ z w. int_eq z w) (λ v q m. refl) (elem_of side) x y a b n r s)
  operation_sim Ne side result row x y a b n r s = at_type Ne (elementary Boolean) result row _ a b n (compare_sim bin.Ne (λ z w. not (int_eq z w)) (λ v q m. refl) (elem_of side) x y a b n r s)
  operation_sim Lt side result row x y a b n r s = at_type Lt (elementary Boolean) result row _ a b n (compare_sim bin.Lt (λ z w. not (int_le w z)) (λ v q m. refl) (elem_of side) x y a b n r s)
  operation_sim Gt side result row x y a b n r s = at_type Gt (elementary Boolean) result row _ a b n (compare_sim bin.Gt (λ z w. not (int_le z w)) (λ v q m. refl) (elem_of side) x y a b n r s)
  operation_sim Le side result row x y a b n r s = at_type Le (elementary Boolean) result row _ a b n (compare_sim bin.Le (λ z w. int_le z w) (λ v q m. refl) (elem_of side) x y a b n r s)
  operation_sim Ge side result row x y a b n r s = at_type Ge (elementary Boolean) result row _ a b n (compare_sim bin.Ge (λ z w. int_le w z) (λ v q m. refl) (elem_of side) x y a b n r s)
  operation_sim Add side result row x y a b n r s = at_type Add side result row.0 _ a b n (add_sim (elem_of side) x y a b n r s)
  operation_sim Sub side result row x y a b n r s = at_type Sub side result row.0 _ a b n (sub_sim (elem_of side) x y a b n r s)
  operation_sim Mul side result row x y a b n r s = at_type Mul side result row.0 _ a b n (mul_sim (elem_of side) x y a b n r s)
  operation_sim Div side result row x y a b n r s = absurd row
  operation_sim Rem side result row x y a b n r s = absurd row
