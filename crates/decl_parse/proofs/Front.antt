-- From the descent's outcome to what is accepted and what is refused, and how the two stand to each other.
use Rattle.std.proofs.Common.{◌⊎◌, inl, inr, ◌≡◌, ◌-◌, ◌≤◌, ◌<◌, true, false, List, [], ◌∷◌, ◌++◌, length, take, Result, Ok, Err, refl, sym, ◌∙◌, ap, subst, append_assoc, length-append, arith, Some}
use Rattle.std.proofs.lemmas.Grind.{common_steps}
use Rattle.plc_tokens.specs.declared.token.Token.{Token}
use Rattle.plc_base.specs.declared.refusal.Refusal.{Refusal}
use Rattle.plc_base.specs.declared.refusal.Rule.{Rule}
use Rattle.plc_base.specs.declared.refusal.Place.{Place}
use Rattle.plc_base.specs.declared.refusal.Rule.TheVariants.{G2}
use Rattle.plc_tree.specs.declared.tree.Unit.{Unit as Source}
use Rattle.plc_tokens.specs.Tokens.{IsClosed, AllInPlace}
use Rattle.plc_tokens.specs.Sorts.{sort, first_of}
use Rattle.plc_tokens.specs.Sets.{DECLARATION}
use Rattle.plc_tokens.proofs.InPlace.{no_end_at}
use Rattle.plc_tokens.proofs.Ranks.{one_kind, is_kind}
use Rattle.phrase.specs.declared.Fault.{Fault}
use Rattle.phrase.specs.declared.Fault.TheVariants.{Wrong, Deep}
use Rattle.phrase.specs.Piece.{Out, Viable, Within, Meets, done, goes, deep}
use Rattle.phrase.specs.Exact.{Ends_at, Ahead, NonePasses, OnlyPasses, Exact, Phrase}
use Rattle.phrase.proofs.Basics.{no_more, ok_not_err}
use Rattle.phrase.proofs.Exactly.{exactly, one_value}
use Rattle.decl_parse.specs.Sources.{source, closed}
use Rattle.decl_parse.specs.Places.{rule_behind}
use Rattle.decl_parse.specs.Parsed.{MOST, SpellsUnit, IsAccepted, IsFront, IsTooDeep, IsRefused, IsAtFront}
use Rattle.decl_parse.proofs.SourceLaws.{FIRST, source_law, closed_law}
use Rattle.decl_parse.proofs.Placing.{source_placed}
use Rattle.plc_tokens.specs.declared.sort.Form.TheVariants as form
use Rattle.plc_tokens.specs.declared.sort.Sort.TheVariants.{Form}

take_front : {T : Type 0} (w r : List T) → take (length (w ++ r) - length r) (w ++ r) ≡ w
take_front w r = grind (arith, common_steps)

-- ---- what is accepted is what the grammar of closed sources spells

pub to_accepted : (s : List Token) (u : Source) → (closed MOST).lang s u → IsAccepted s u
unfolding closed
to_accepted s u (a, w, v, i, k, (t, x, y, j, l, m)) = record {
  tokens = w;
  last = t;
  all = i ∙ ap (λ z. w ++ z) (j ∙ ap (λ z. z ++ y) l.0 ∙ ap (λ z. t ∷ z) m.0);
  ends = one_kind t (Form form.End) l.1;
  spells = subst ((source MOST).lang w) (sym m.1) k;
}

pub from_accepted : (s : List Token) (u : Source) → IsAccepted s u → (closed MOST).lang s u
unfolding closed
from_accepted s u h = (u, h.tokens, h.last ∷ [], h.all, h.spells, (h.last, h.last ∷ [], [], refl, (refl, is_kind h.last (Form form.End) h.ends), (refl, refl)))

-- ---- the outcome of the descent

outcome : (s : List Token) (o : Result Source Fault) (r : List Token) → (closed MOST).run s ≡ (o, r) → Exact closed MOST s o r
outcome s o r e = subst (λ (z : Out Token Source). Exact closed MOST s z.0 z.1) e (exactly MOST false FIRST [] closed (closed_law MOST) s)

-- the same of a list that is this one
pub on : (s z : List Token) (o : Result Source Fault) (r : List Token) → z ≡ s → (closed MOST).run z ≡ (o, r) → (closed MOST).run s ≡ (o, r)
on s z o r i e = subst (λ y. (closed MOST).run y ≡ (o, r)) i e

starts_with : (r : List Token) (t : Token) → first_of r ≡ Some t → (q : List Token) × (r ≡ t ∷ q)
starts_with [] t h = cc
starts_with (x ∷ q) t h = let i : x ≡ t = cc in (q, ap (λ z. z ∷ q) i)

-- the whole list was read
pub accepted : (s : List Token) (u : Source) (r : List Token) → (closed MOST).run s ≡ (Ok u, r) → length r ≡ 0 → IsAccepted s u
accepted s u [] e n = let (w, j, k) = outcome s (Ok u) [] e in to_accepted s u (subst (λ z. (closed MOST).lang z u) (sym (no_more w) ∙ sym j) k.0)
accepted s u (t ∷ q) e n = absurd (omega arith)

-- a token at the front, behind some others
front_at : (s w : List Token) (r : List Token) (x : Refusal) → s ≡ w ++ r → Within closed MOST w → Ends_at closed w r → NonePasses closed MOST (w ++ r) → IsAtFront s r x → IsRefused s x
front_at s w r x i k n p h =
    let (q, g) = starts_with r h.token h.next in
    let front : take (length s - length r) s ≡ w = subst (λ z. take (length z - length r) z ≡ w) (sym i) (take_front w r) in
    record {
      before = w;
      token = h.token;
      after = q;
      all = i ∙ ap (λ z. w ++ z) g;
      place = h.place;
      why = inl (h.rule ∙ ap (λ z. rule_behind z h.token h.token.kind) front, (k, subst (Ends_at closed w) g n, subst (λ z. NonePasses closed MOST (w ++ z)) g p));
    }

-- a source and an end were read, and a token follows
pub more_than : (s : List Token) (u : Source) (r : List Token) (x : Refusal) → (closed MOST).run s ≡ (Ok u, r) → IsAtFront s r x → IsRefused s x
more_than s u r x e h = let (w, j, k) = outcome s (Ok u) r e in front_at s w r x j ([], u, subst (λ z. (closed MOST).lang z u) (sym (no_more w)) k.0) k.1 k.2 h

-- the reading stopped at the front
pub wrong_at : (s : List Token) (r : List Token) (x : Refusal) → (closed MOST).run s ≡ (Err Wrong, r) → IsAtFront s r x → IsRefused s x
wrong_at s r x e h = let (w, j, k) = outcome s (Err Wrong) r e in front_at s w r x j k.0 k.2 k.3 h

-- or at a node past the limit
pub too_deep : (s : List Token) (r : List Token) (x : Refusal) (t : Token) → (closed MOST).run s ≡ (Err Deep, r) → first_of r ≡ Some t → x.rule ≡ G2 → x.place ≡ t.place → IsRefused s x
too_deep s r x t e h rule place =
    let (q, g) = starts_with r t h in
    let (w, j, k) = outcome s (Err Deep) r e in
    record {
      before = w;
      token = t;
      after = q;
      all = j ∙ ap (λ z. w ++ z) g;
      place = place;
      why = inr (rule, (k.0, subst (λ z. (closed MOST).over w z) g k.1, subst (Ahead closed w) g k.2, subst (λ z. OnlyPasses closed MOST (w ++ z) w) g k.3));
    }

-- ---- a reading of a closed list does not stop behind its end

-- nothing that is accepted has what ends a list before its last token
no_longer : (s v : List Token) (y : Token) (u : Source) → IsClosed s → IsAccepted (s ++ y ∷ v) u → ⊥
no_longer s v y u h k =
    let stays = no_end_at false h.tokens h.last y v k.tokens k.last (sym (append_assoc h.tokens (h.last ∷ []) (y ∷ v)) ∙ ap (λ z. z ++ y ∷ v) (sym h.all) ∙ k.all) ((source_placed MOST).placed k.tokens u k.spells) in
    absurd (let e : true ≡ false = sym h.ends ∙ stays in cc)

no_whole : (s w v : List Token) (u : Source) → IsClosed s → s ≡ w ++ [] → (closed MOST).lang (w ++ v) u → ((u : Source) → Phrase closed w u → ⊥) → ⊥
no_whole s w [] u h i k n = n u (MOST, subst (λ z. (closed MOST).lang z u) (no_more w) k)
no_whole s w (y ∷ v) u h i k n = no_longer s v y u h (to_accepted (s ++ y ∷ v) u (subst (λ z. (closed MOST).lang (z ++ y ∷ v) u) (sym (no_more w) ∙ sym i) k))

pub some_left : (s : List Token) (f : Fault) (r : List Token) → IsClosed s → (closed MOST).run s ≡ (Err f, r) → 0 < length r
some_left s f (t ∷ q) h e = omega arith
some_left s Wrong [] h e = let (w, j, k) = outcome s (Err Wrong) [] e in absurd (no_whole s w k.0.0 k.0.1 h j k.0.2 k.1)
some_left s Deep [] h e = let (w, j, k) = outcome s (Err Deep) [] e in absurd k.2

-- and leaves no more than all
pub left_fits : (s : List Token) (o : Result Source Fault) (r : List Token) → (closed MOST).run s ≡ (o, r) → length r ≤ length s
left_fits s o r e = let (w, j, k) = outcome s o r e in let m = ap length j in omega (arith, m, length-append w r)

-- ---- a list has one tree at most

pub one_spelled : (w : List Token) (a b : Source) → SpellsUnit w a → SpellsUnit w b → a ≡ b
one_spelled w a b h k = one_value true DECLARATION DECLARATION source source_law w a b h k

pub one_accepted : (s : List Token) (a b : Source) → IsAccepted s a → IsAccepted s b → a ≡ b
one_accepted s a b h k = one_value false FIRST [] closed closed_law s a b (MOST, from_accepted s a h) (MOST, from_accepted s b k)

-- no token of a source ends a list or is left out, but for the words of a section that say what variables keep
pub no_stop : (w : List Token) (u : Source) → SpellsUnit w u → AllInPlace w
no_stop w u (n, k) = (source_placed n).placed w u k

-- ---- what ends as a list of tokens does is accepted or refused

at_token : (s : List Token) (t : Token) (q : List Token) → (r : Refusal) × IsAtFront s (t ∷ q) r
at_token s t q =
    let r : Refusal = record { rule = rule_behind (take (length s - length (t ∷ q)) s) t t.kind; place = t.place } in
    (r, record { token = t; next = refl; rule = refl; place = refl })

pub decided : (s : List Token) → IsClosed s → ((u : Source) × IsAccepted s u) ⊎ ((r : Refusal) × IsRefused s r)
decided s h = by_outcome ((closed MOST).run s).0 ((closed MOST).run s).1 refl
  where
    by_outcome : (o : Result Source Fault) (r : List Token) → (closed MOST).run s ≡ (o, r) → ((u : Source) × IsAccepted s u) ⊎ ((r : Refusal) × IsRefused s r)
    by_outcome (Ok u) [] e = inl (u, accepted s u [] e refl)
    by_outcome (Ok u) (t ∷ q) e = let (x, k) = at_token s t q in inr (x, more_than s u (t ∷ q) x e k)
    by_outcome (Err f) [] e = let none = some_left s f [] h e in absurd (omega arith)
    by_outcome (Err Wrong) (t ∷ q) e = let (x, k) = at_token s t q in inr (x, wrong_at s (t ∷ q) x e k)
    by_outcome (Err Deep) (t ∷ q) e = let x : Refusal = record { rule = G2; place = t.place } in inr (x, too_deep s (t ∷ q) x t e refl refl refl)

-- ---- how what is accepted and what is refused stand to each other

-- an accepted list is read to its end
read_whole : (s : List Token) (u : Source) → IsAccepted s u → (closed MOST).run s ≡ (Ok u, [])
read_whole s u h = by_meets (subst (λ z. Meets sort MOST MOST [] ((closed MOST).run z) u []) (no_more s) ((closed_law MOST).meets MOST s u [] (from_accepted s u h)))
  where
    by_meets : Meets sort MOST MOST [] ((closed MOST).run s) u [] → (closed MOST).run s ≡ (Ok u, [])
    by_meets (done e) = e
    by_meets (goes t q i k p) = cc
    by_meets (deep lt k) = absurd (omega arith)

pub accepted_not_refused : (s : List Token) (u : Source) (r : Refusal) → IsAccepted s u → IsRefused s r → ⊥
accepted_not_refused s u r h x = by_reason x.why
  where
    by_reason : ((r.rule ≡ rule_behind x.before x.token x.token.kind) × IsFront x.before x.token x.after) ⊎ ((r.rule ≡ G2) × IsTooDeep x.before x.token x.after) → ⊥
    by_reason (inl (i, k)) = k.1 (MOST, x.after, u, subst (λ z. (closed MOST).lang z u) (x.all ∙ sym (append_assoc x.before (x.token ∷ []) x.after)) (from_accepted s u h))
    by_reason (inr (i, k)) = ok_not_err (ap (λ z. z.0) (sym (read_whole s u h) ∙ ap (closed MOST).run x.all ∙ (closed_law MOST).stuck_at x.before (x.token ∷ x.after) k.1))

-- two splits of a list at a token: at the same token, or the one before the other
data Splits (b c : List Token) (t u : Token) : Type 0 where
  same : b ≡ c → t ≡ u → Splits b c t u
  before : (v : List Token) → c ≡ (b ++ t ∷ []) ++ v → Splits b c t u
  behind : (v : List Token) → b ≡ (c ++ u ∷ []) ++ v → Splits b c t u

splits : (b c x y : List Token) (t u : Token) → b ++ t ∷ x ≡ c ++ u ∷ y → Splits b c t u
splits [] [] x y t u h = same refl (cc)
splits [] (a ∷ c) x y t u h = let i : t ≡ a = cc in before c (ap (λ z. z ∷ c) (sym i))
splits (a ∷ b) [] x y t u h = let i : u ≡ a = cc in behind b (ap (λ z. z ∷ b) (sym i))
splits (a ∷ b) (e ∷ c) x y t u h = let i : a ≡ e = cc in let j : b ++ t ∷ x ≡ c ++ u ∷ y = cc in one_more i (splits b c x y t u j)
  where
    one_more : a ≡ e → Splits b c t u → Splits (a ∷ b) (e ∷ c) t u
    one_more i (same k l) = same (ap (λ z. z ∷ b) i ∙ ap (λ z. e ∷ z) k) l
    one_more i (before v k) = before v (ap (λ z. e ∷ z) k ∙ ap (λ z. z ∷ ((b ++ t ∷ []) ++ v)) (sym i))
    one_more i (behind v k) = behind v (ap (λ z. a ∷ z) k ∙ ap (λ z. z ∷ ((c ++ u ∷ []) ++ v)) i)

-- a token at the front stands in nothing that a source begins with
not_within : (b c v : List Token) (t : Token) → (Viable closed (b ++ t ∷ []) → ⊥) → Within closed MOST c → c ≡ (b ++ t ∷ []) ++ v → ⊥
not_within b c v t n (x, u, k) i = n (MOST, v ++ x, u, subst (λ z. (closed MOST).lang z u) (ap (λ z. z ++ x) i ∙ append_assoc (b ++ t ∷ []) v x) k)

one_place : (r q : Refusal) → r.rule ≡ q.rule → r.place ≡ q.place → r ≡ q
one_place r q i j =
    let with_rule : Rule → Refusal = λ z. record { rule = z; place = r.place } in
    let with_place : Place → Refusal = λ z. record { rule = q.rule; place = z } in
    ap with_rule i ∙ ap with_place j

pub one_refusal : (s : List Token) (r q : Refusal) → IsRefused s r → IsRefused s q → r ≡ q
one_refusal s r q h k = by_reasons h.why k.why
  where
    at_one : h.before ≡ k.before → h.token ≡ k.token → r.rule ≡ rule_behind h.before h.token h.token.kind → q.rule ≡ rule_behind k.before k.token k.token.kind → r ≡ q
    at_one i j m n = one_place r q (m ∙ ap (λ z. rule_behind z h.token h.token.kind) i ∙ ap (λ z. rule_behind k.before z z.kind) j ∙ sym n) (h.place ∙ ap (λ z. z.place) j ∙ sym k.place)

    fronts : r.rule ≡ rule_behind h.before h.token h.token.kind → q.rule ≡ rule_behind k.before k.token k.token.kind → IsFront h.before h.token h.after → IsFront k.before k.token k.after → Splits h.before k.before h.token k.token → r ≡ q
    fronts m n x y (same i j) = at_one i j m n
    fronts m n x y (before v i) = absurd (not_within h.before k.before v h.token x.1 y.0 i)
    fronts m n x y (behind v i) = absurd (not_within k.before h.before v k.token y.1 x.0 i)

    next_token : h.before ≡ k.before → h.token ≡ k.token
    next_token i = by_split (splits h.before k.before h.after k.after h.token k.token (sym h.all ∙ k.all))
      where
        no_longer_than : (b v : List Token) (t : Token) → b ≡ (b ++ t ∷ []) ++ v → ⊥
        no_longer_than b v t e = let l = ap length e in omega (arith, length-append (b ++ t ∷ []) v, length-append b (t ∷ []))

        by_split : Splits h.before k.before h.token k.token → h.token ≡ k.token
        by_split (same _ j) = j
        by_split (before v e) = absurd (no_longer_than h.before v h.token (i ∙ e))
        by_split (behind v e) = absurd (no_longer_than k.before v k.token (sym i ∙ e))

    by_reasons : ((r.rule ≡ rule_behind h.before h.token h.token.kind) × IsFront h.before h.token h.after) ⊎ ((r.rule ≡ G2) × IsTooDeep h.before h.token h.after)
        → ((q.rule ≡ rule_behind k.before k.token k.token.kind) × IsFront k.before k.token k.after) ⊎ ((q.rule ≡ G2) × IsTooDeep k.before k.token k.after) → r ≡ q
    by_reasons (inl (m, x)) (inl (n, y)) = fronts m n x y (splits h.before k.before h.after k.after h.token k.token (sym h.all ∙ k.all))
    by_reasons (inl (m, x)) (inr (n, y)) = absurd (x.2 k.before (k.token ∷ k.after, sym h.all ∙ k.all, y.1))
    by_reasons (inr (m, x)) (inl (n, y)) = absurd (y.2 h.before (h.token ∷ h.after, sym k.all ∙ h.all, x.1))
    by_reasons (inr (m, x)) (inr (n, y)) =
        let i : h.before ≡ k.before = sym (x.3 k.before (k.token ∷ k.after, sym h.all ∙ k.all, y.1)) in
        one_place r q (m ∙ sym n) (h.place ∙ ap (λ z. z.place) (next_token i) ∙ sym k.place)
