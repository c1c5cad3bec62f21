-- From the descent's outcome to what a parser answers.
use Rattle.std.proofs.Common.{◌≡◌, ℕ, zero, suc, ◌+◌, ◌-◌, ◌≤◌, ◌<◌, Bool, true, false, List, [], ◌∷◌, ◌++◌, length, drop, Result, Ok, Err, refl, sym, ◌∙◌, ap, subst, length-append, arith, Some, inl, inr}
use Rattle.std.proofs.lemmas.Grind.{common_steps}
use Rattle.plc_tokens.specs.declared.token.Token.{Token}
use Rattle.plc_base.specs.declared.refusal.Refusal.{Refusal}
use Rattle.plc_tokens.specs.Sorts.{first_of}
use Rattle.plc_tokens.specs.Tokens.{IsClosed, stops, AllKept}
use Rattle.plc_tokens.proofs.Ends.{last_stops}
use Rattle.plc_tokens.proofs.Lacks.{Lacks}
use Rattle.phrase.specs.declared.Fault.{Fault}
use Rattle.phrase.specs.declared.Fault.TheVariants.{Wrong, Deep}
use Rattle.phrase.specs.Piece.{Sight, Out, Piece, Law}
use Rattle.phrase.specs.Exact.{Answer, Exact}
use Rattle.plc_base.specs.declared.refusal.Stop.{Stop}
use Rattle.plc_base.specs.declared.refusal.Stop.TheVariants.{Refused, OutOfMemory}
use Rattle.phrase.specs.declared.Stop.{Stop as Failure}
use Rattle.phrase.specs.declared.Stop.TheVariants.{Memory, At}
use Rattle.phrase.specs.Reads.{Reads}
use Rattle.phrase.proofs.Basics.{no_more}
use Rattle.phrase.proofs.Exactly.{exactly}
use Rattle.st_expr.specs.Parsed.{IsRead, IsRefused, Parses, ParsesTree, rule_of}
use Rattle.st_expr.specs.Nested.{Tall}
use Rattle.st_expr.specs.Answered.{CanAnswer, IsFailed, Answered, AnsweredTree}

-- ---- a list that has an end has a token that no phrase has

last_kept : (p v : List Token) (t : Token) → AllKept ((p ++ t ∷ []) ++ v) → stops t.sort ≡ false
last_kept [] v t k = k.0
last_kept (a ∷ p) v t k = last_kept p v t k.1

-- the end of a list with an end stands in each rest that is not empty
last_in : (tokens s : List Token) (from : ℕ) (last : Token) → from < length (tokens ++ last ∷ []) → s ≡ drop from (tokens ++ last ∷ []) → (p : List Token) × (s ≡ p ++ last ∷ [])
last_in [] s from last lt i = let z : from ≡ 0 = omega arith in ([], i ∙ ap (λ n. drop n (last ∷ [])) z)
last_in (t ∷ tokens) s zero last lt i = (t ∷ tokens, i)
last_in (t ∷ tokens) s (suc from) last lt i = last_in tokens s from last (omega (arith, lt)) i

pub no_whole : {S : Type 0} {sort : Sight Token S} {A : Type 0} {p : Piece sort A} → Lacks p → (tokens v w : List Token) (from : ℕ) (a : A) → IsClosed tokens → from < length tokens → drop from tokens ≡ w ++ [] → p.lang (w ++ v) a → ⊥
no_whole k tokens v w from a c lt i l =
    let (q, j) = last_in c.tokens (drop from tokens) from c.last (subst (λ z. from < length z) c.all lt) (ap (λ z. drop from z) c.all) in
    let w_is : w ≡ q ++ c.last ∷ [] = sym (no_more w) ∙ sym i ∙ j in
    let high = last_kept q v c.last (subst (λ z. AllKept (z ++ v)) w_is (k.none (w ++ v) a l)) in
    absurd (let e : true ≡ false = sym (last_stops c.last.sort c.ends) ∙ high in cc)

starts_with : (r : List Token) (t : Token) → first_of r ≡ Some t → (q : List Token) × (r ≡ t ∷ q)
starts_with [] t h = cc
starts_with (x ∷ q) t h = let i : x ≡ t = cc in (q, ap (λ z. z ∷ q) i)

-- ---- what a descent's outcome says

module _ {S : Type 0} {sort : Sight Token S} {A : Type 0} (null : Bool) (fs cs : List S) (f : ℕ → Piece sort A) (law : (d : ℕ) → Law d null true fs cs f) (lacks : (d : ℕ) → Lacks (f d)) (room : ℕ) (tokens : List Token) (from : ℕ) where
  outcome : (s : List Token) (o : Result A Fault) (r : List Token) → s ≡ drop from tokens → (f room).run s ≡ (o, r) → Exact f room (drop from tokens) o r
  outcome s o r i e = subst (λ (z : Out Token A). Exact f room (drop from tokens) z.0 z.1) (ap (f room).run (sym i) ∙ e) (exactly room null fs cs f (law room) (drop from tokens))

  reads : (s : List Token) (a : A) (r : List Token) (next : ℕ) → from ≤ length tokens → s ≡ drop from tokens → (f room).run s ≡ (Ok a, r) → next ≡ length tokens - length r → IsRead f room tokens from a next
  reads s a r next le i e n =
      let (w, j, k) = outcome s (Ok a) r i e in
      let m = ap length j in
      record { phrase = w; after = r; stands = j; ends = n ∙ ending (length (drop from tokens)) (length w) (length r) (drop_length from tokens le) (m ∙ length-append w r); spells = k.0; longest = k.1 }
    where
      drop_length : (from : ℕ) (tokens : List Token) → from ≤ length tokens → length (drop from tokens) + from ≡ length tokens
      drop_length from tokens le = grind (arith, common_steps)

      ending : (all w r : ℕ) → all + from ≡ length tokens → all ≡ w + r → length tokens - r ≡ from + w
      ending all w r h k = omega arith

  -- a reading that fails stops at a token
  some_left : (s : List Token) (x : Fault) (r : List Token) → IsClosed tokens → from < length tokens → s ≡ drop from tokens → (f room).run s ≡ (Err x, r) → 0 < length r
  some_left s x (t ∷ q) c lt i e = omega arith
  some_left s Wrong [] c lt i e = let (w, j, k) = outcome s (Err Wrong) [] i e in absurd (no_whole (lacks room) tokens k.0.0 w from k.0.1 c lt j k.0.2)
  some_left s Deep [] c lt i e = let (w, j, k) = outcome s (Err Deep) [] i e in absurd k.2

  refuses : (s : List Token) (x : Fault) (r : List Token) (t : Token) (refusal : Refusal) → s ≡ drop from tokens → (f room).run s ≡ (Err x, r) → first_of r ≡ Some t → refusal.rule ≡ rule_of x t.kind → refusal.place ≡ t.place → IsRefused f room tokens from refusal
  refuses s Wrong r t refusal i e h k l =
      let (q, g) = starts_with r t h in
      let (w, j, m) = outcome s (Err Wrong) r i e in
      record { before = w; token = t; after = q; stands = j ∙ ap (λ z. w ++ z) g; place = l; why = inl (k, subst (Answer f room w (Err Wrong)) g m) }
  refuses s Deep r t refusal i e h k l =
      let (q, g) = starts_with r t h in
      let (w, j, m) = outcome s (Err Deep) r i e in
      record { before = w; token = t; after = q; stands = j ∙ ap (λ z. w ++ z) g; place = l; why = inr (k, subst (Answer f room w (Err Deep)) g m) }

  -- what the descent leaves can be answered
  answerable : (s : List Token) (o : Result A Failure) (r : List Token) → IsClosed tokens → from < length tokens → s ≡ drop from tokens → Reads ((f room).run s) o r → CanAnswer o (length tokens) r
  answerable s (Ok a) r c lt i e = let (w, j, k) = outcome s (Ok a) r i e in let m = ap length j in let n = length_drop from tokens in omega (arith, m, n, length-append w r)
    where
      length_drop : (from : ℕ) (tokens : List Token) → length (drop from tokens) ≤ length tokens
      length_drop from tokens = grind (arith, common_steps)
  answerable s (Err Memory) r c lt i e = tt
  answerable s (Err (At x)) r c lt i e = some_left s x r c lt i e

  pub can_answer : (s : List Token) (o : Result A Failure) (r : List Token) (whole : ℕ) → whole ≡ length tokens → IsClosed tokens → from < length tokens → s ≡ drop from tokens → Reads ((f room).run s) o r → CanAnswer o whole r
  can_answer s o r whole n c lt i e = subst (λ z. CanAnswer o z r) (sym n) (answerable s o r c lt i e)

  refused_by : (s : List Token) (x : Fault) (r : List Token) (stop : Stop) → s ≡ drop from tokens → (f room).run s ≡ (Err x, r) → IsFailed (At x) r stop → Parses f room tokens from (Err stop)
  refused_by s x r OutOfMemory i e h = absurd h
  refused_by s x r (Refused refusal) i e h = refuses s x r h.token refusal i e h.next h.rule h.place

  -- and what is answered is what the grammar says
  answered : (s : List Token) (o : Result A Failure) (r : List Token) (result : Result (A × ℕ) Stop) → from < length tokens → s ≡ drop from tokens → Reads ((f room).run s) o r → Answered o (length tokens) r result → Parses f room tokens from result
  answered s (Ok a) r (Ok x) lt i e h = subst (λ z. IsRead f room tokens from z x.1) (sym h.0) (reads s a r x.1 (omega (arith, lt)) i e h.1)
  answered s (Ok a) r (Err stop) lt i e h = absurd h
  answered s (Err x) r (Ok y) lt i e h = absurd h
  answered s (Err Memory) r (Err stop) lt i e h = subst (λ z. Parses f room tokens from (Err z)) (sym h) tt
  answered s (Err (At x)) r (Err stop) lt i e h = refused_by s x r stop i e h

  pub list_answered : (s : List Token) (o : Result A Failure) (r : List Token) (whole : ℕ) (result : Result (A × ℕ) Stop) → whole ≡ length tokens → from < length tokens → s ≡ drop from tokens → Reads ((f room).run s) o r → Answered o whole r result → Parses f room tokens from result
  list_answered s o r whole result n lt i e h = answered s o r result lt i e (subst (λ z. Answered o z r result) n h)

-- the same of a value with its height
module _ {S : Type 0} {sort : Sight Token S} {A : Type 0} (null : Bool) (fs cs : List S) (f : ℕ → Piece sort (Tall A)) (law : (d : ℕ) → Law d null true fs cs f) (lacks : (d : ℕ) → Lacks (f d)) (room : ℕ) (tokens : List Token) (from : ℕ) where
  abbrev whole_answered : (s : List Token) (o : Result (Tall A) Failure) (r : List Token) (result : Result (Tall A × ℕ) Stop) → from < length tokens → s ≡ drop from tokens → Reads ((f room).run s) o r → Answered o (length tokens) r result → Parses f room tokens from result
  whole_answered = answered null fs cs f law lacks room tokens from

  with_tree : (s : List Token) (o : Result (Tall A) Failure) (r : List Token) (result : Result (A × ℕ) Stop) → from < length tokens → s ≡ drop from tokens → Reads ((f room).run s) o r → AnsweredTree o (length tokens) r result → ParsesTree f room tokens from result
  with_tree s (Ok a) r (Ok x) lt i e h =
      let same : (x.0, a.1) ≡ a = ap (λ z. (z, a.1)) h.0 in
      (a.1, subst (λ z. IsRead f room tokens from z x.1) (sym same) (whole_answered s (Ok a) r (Ok (a, x.1)) lt i e (refl, h.1)))
  with_tree s (Ok a) r (Err stop) lt i e h = absurd h
  with_tree s (Err x) r (Ok y) lt i e h = absurd h
  with_tree s (Err Memory) r (Err stop) lt i e h = subst (λ z. ParsesTree f room tokens from (Err z)) (sym h) tt
  with_tree s (Err (At x)) r (Err OutOfMemory) lt i e h = absurd h
  with_tree s (Err (At x)) r (Err (Refused refusal)) lt i e h = whole_answered s (Err (At x)) r (Err (Refused refusal)) lt i e h

  pub tree_answered : (s : List Token) (o : Result (Tall A) Failure) (r : List Token) (whole : ℕ) (result : Result (A × ℕ) Stop) → whole ≡ length tokens → from < length tokens → s ≡ drop from tokens → Reads ((f room).run s) o r → AnsweredTree o whole r result → ParsesTree f room tokens from result
  tree_answered s o r whole result n lt i e h = with_tree s o r result lt i e (subst (λ z. AnsweredTree o z r result) n h)

-- one node more
pub one_more : (n : ℕ) → n + 1 ≡ suc n
one_more n = omega arith
