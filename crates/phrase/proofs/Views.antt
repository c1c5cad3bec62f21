-- A piece in another view: read by another descent, among tokens of other sorts, with one node more.
use Rattle.std.proofs.Common.{◌≡◌, ℕ, suc, Bool, List, [], ◌∷◌, ◌++◌, Result, Ok, Err, sym, ◌∙◌, arith, inl, inr}
use Rattle.phrase.specs.declared.Fault.{Fault}
use Rattle.phrase.specs.declared.Fault.TheVariants.{Wrong, Deep}
use Rattle.phrase.specs.Piece.{Sight, has, Out, Piece, via, seen, Kept, Sound, Meets, done, goes, deep, Begins, Law}
use Rattle.phrase.proofs.Basics.{sound_map}
use Rattle.phrase.proofs.Rules.{Laws}

-- ---- read by another descent

module _ {T S : Type 0} {sort : Sight T S} where
  -- two pieces have the same phrases
  pub record Alike {A : Type 0} (p q : ℕ → Piece sort A) : Type 0 where
    pub to : (e : ℕ) (w : List T) (a : A) → (p e).lang w a → (q e).lang w a
    pub back : (e : ℕ) (w : List T) (a : A) → (q e).lang w a → (p e).lang w a

  via_kept : {A : Type 0} {p q : ℕ → Piece sort A} (h : Alike p q) (g : Bool) (d : ℕ) (w : List T) → Kept g q d w → Kept g (λ e. via (p e) (q e)) d w
  via_kept h g d w (inl (v, a, k)) = inl (v, a, h.back d (w ++ v) a k)
  via_kept h g d w (inr k) = inr k

  via_law : {A : Type 0} {p q : ℕ → Piece sort A} (h : Alike p q) {d : ℕ} {n g : Bool} {fs cs : List S} → Law d n g fs cs q → Law d n g fs cs (λ e. via (p e) (q e))
  via_law {A} {p} {q} h {d} {n} {g} {fs} {cs} l = record {
    begins = λ e w a k. l.begins e w a (h.to e w a k);
    mono = λ e m w a le k. h.back m w a (l.mono e m w a le (h.to e w a k));
    some = let (e, w, a, k) = l.some in (e, w, a, h.back e w a k);
    sound = λ s. sound_map g g q (λ e. via (p e) (q e)) d h.back (via_kept h g d) s (λ w r i k. k) ((q d).run s).0 ((q d).run s).1 (l.sound s);
    meets = λ e w a r k. l.meets e w a r (h.to e w a k);
    local = l.local;
    stuck_at = l.stuck_at;
    takes = l.takes;
    here = λ o. let (v, a, k) = l.here o in (v, a, h.back d v a k);
    empty = λ o. let (a, k) = l.empty o in (a, h.back d [] a k);
  }

  pub viaL : {A : Type 0} {p q : ℕ → Piece sort A} (h : Alike p q) {on : Bool} {d : ℕ} {n g : Bool} {fs cs : List S} → Laws on d n g fs cs q → Laws on d n g fs cs (λ e. via (p e) (q e))
  viaL h l = record {
    half = record { mono = λ e m w a le k. h.back m w a (l.half.mono e m w a le (h.to e w a k)); some = let (e, w, a, k) = l.half.some in (e, w, a, h.back e w a k) };
    law = λ o. via_law h (l.law o);
  }

-- ---- among tokens of other sorts

-- a token is of the one sorts exactly where it is of the others
pub record Matches {T S : Type 0} (sort other : Sight T S) (fs gs : List S) : Type 0 where
  pub same : (t : T) → has sort.rank (sort.of t) fs ≡ has other.rank (other.of t) gs

module _ {T S : Type 0} {sort : Sight T S} (other : Sight T S) where
  seen_kept : {A : Type 0} (f : ℕ → Piece sort A) (g : Bool) (d : ℕ) (w : List T) → Kept g f d w → Kept g (λ e. seen {other = other} (f e)) d w
  seen_kept f g d w (inl k) = inl k
  seen_kept f g d w (inr k) = inr k

  seen_sound : {A : Type 0} (f : ℕ → Piece sort A) (g : Bool) (d : ℕ) (s : List T) (o : Result A Fault) (r : List T) → Sound g f d s o r → Sound g (λ e. seen {other = other} (f e)) d s o r
  seen_sound f g d s (Ok a) r k = k
  seen_sound f g d s (Err Wrong) r (w, k, l) = (w, k, seen_kept f g d w l)
  seen_sound f g d s (Err Deep) r (w, t, q, k, l, m, n, o) = (w, t, q, k, l, m, seen_kept f g d w n, o)

module _ {T S : Type 0} {sort other : Sight T S} where
  seen_begins : {fs gs : List S} → Matches sort other fs gs → (n : Bool) (w : List T) → Begins sort n fs w → Begins other n gs w
  seen_begins h n [] k = k
  seen_begins h n (t ∷ w) k = sym (h.same t) ∙ k

  seen_meets : {A : Type 0} {cs ks : List S} → Matches sort other cs ks → (d e : ℕ) (o : Out T A) (a : A) (r : List T) → Meets sort d e cs o a r → Meets other d e ks o a r
  seen_meets i d e o a r (done k) = done k
  seen_meets i d e o a r (goes t q k l m) = goes t q k (sym (i.same t) ∙ l) m
  seen_meets i d e o a r (deep k l) = deep k l

  seen_law : {A : Type 0} {f : ℕ → Piece sort A} {fs gs cs ks : List S} {d : ℕ} {n g : Bool} → Matches sort other fs gs → Matches sort other cs ks → Law d n g fs cs f → Law d n g gs ks (λ e. seen {other = other} (f e))
  seen_law {A} {f} {fs} {gs} {cs} {ks} {d} {n} {g} h i l = record {
    begins = λ e w a k. seen_begins h n w (l.begins e w a k);
    mono = l.mono;
    some = l.some;
    sound = λ s. seen_sound other f g d s ((f d).run s).0 ((f d).run s).1 (l.sound s);
    meets = λ e w a r k. seen_meets i d e ((f d).run (w ++ r)) a r (l.meets e w a r k);
    local = l.local;
    stuck_at = l.stuck_at;
    takes = λ t s k. l.takes t s (h.same t ∙ k);
    here = l.here;
    empty = l.empty;
  }

  pub seenL : {A : Type 0} {on : Bool} {d : ℕ} {n g : Bool} {f : ℕ → Piece sort A} {fs gs cs ks : List S} → Matches sort other fs gs → Matches sort other cs ks → Laws on d n g fs cs f → Laws on d n g gs ks (λ e. seen {other = other} (f e))
  seenL h i l = record { half = record { mono = l.half.mono; some = l.half.some }; law = λ o. seen_law h i (l.law o) }

-- ---- with one node more

module _ {T S : Type 0} {sort : Sight T S} {A : Type 0} (f : ℕ → Piece sort A) where
  up_kept : (g : Bool) (d : ℕ) (w : List T) → Kept g f (suc d) w → Kept g (λ e. f (suc e)) d w
  up_kept g d w (inl k) = inl k
  up_kept g d w (inr k) = inr k

  up_sound : (g : Bool) (d : ℕ) → ((e : ℕ) (w : List T) (a : A) → (f e).lang w a → (f (suc e)).lang w a) → (s : List T) (o : Result A Fault) (r : List T) → Sound g f (suc d) s o r → Sound g (λ e. f (suc e)) d s o r
  up_sound g d up s (Ok a) r k = k
  up_sound g d up s (Err Wrong) r (w, k, m) = (w, k, up_kept g d w m)
  up_sound g d up s (Err Deep) r (w, t, q, k, m, (e, v, a, x), y, z) = (w, t, q, k, m, (e, v, a, up e ((w ++ t ∷ []) ++ v) a x), up_kept g d w y, z)

module _ {T S : Type 0} {sort : Sight T S} {A : Type 0} where
  up_meets : (d e : ℕ) (cs : List S) (o : Out T A) (a : A) (r : List T) → Meets sort (suc d) (suc e) cs o a r → Meets sort d e cs o a r
  up_meets d e cs o a r (done k) = done k
  up_meets d e cs o a r (goes t q k m p) = goes t q k m p
  up_meets d e cs o a r (deep k m) = deep (omega arith) m

module _ {T S : Type 0} {sort : Sight T S} {A : Type 0} {f : ℕ → Piece sort A} {d : ℕ} {n g : Bool} {fs cs : List S} (l : Law (suc d) n g fs cs f) where
  up_mono : (e : ℕ) (w : List T) (a : A) → (f e).lang w a → (f (suc e)).lang w a
  up_mono e w a k = l.mono e (suc e) w a (omega arith) k

  pub up_law : Law d n g fs cs (λ e. f (suc e))
  up_law = record {
    begins = λ e w a k. l.begins (suc e) w a k;
    mono = λ e m w a le k. l.mono (suc e) (suc m) w a (omega arith) k;
    some = let (e, w, a, k) = l.some in (e, w, a, up_mono e w a k);
    sound = λ s. up_sound f g d up_mono s ((f (suc d)).run s).0 ((f (suc d)).run s).1 (l.sound s);
    meets = λ e w a r k. up_meets d e cs ((f (suc d)).run (w ++ r)) a r (l.meets (suc e) w a r k);
    local = l.local;
    stuck_at = l.stuck_at;
    takes = l.takes;
    here = l.here;
    empty = l.empty;
  }
