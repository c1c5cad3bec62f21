-- The tree of a phrase is no higher than the number that it comes with, and this is at most how many nodes may open.
use Rattle.std.proofs.Common.{◌≡◌, ℕ, zero, suc, ◌+◌, ◌≤◌, ◌<◌, Bool, true, false, List, [], ◌∷◌, ◌++◌, refl, arith}
use Rattle.std.specs.Prelude.{max}
use Rattle.plc_tokens.specs.declared.token.Token.{Token}
use Rattle.plc_tree.specs.declared.tree.UnOp.TheVariants as sign
use Rattle.plc_tree.specs.declared.tree.Part.{Part}
use Rattle.plc_tree.specs.declared.tree.Part.TheVariants as in_part
use Rattle.plc_tree.specs.Heights.{height, part_height, arg_height, path_height}
use Rattle.plc_tree.proofs.HeightViews.{highest, highest-append, height-Var, height-Index, height-Paren, height-Unary, height-Binary, height-Call}
use Rattle.plc_tokens.specs.Sorts.{name_of}
use Rattle.plc_tokens.specs.Sets as G
use Rattle.phrase.proofs.Gives.{Any, Gives, gives_more, gives_pure, gives_tok, gives_bind, gives_many, gives_choose, gives_choose_two, gives_choose_three, gives_opens, gives_opens_two, gives_none, gives_also, gives_seen}
use Rattle.st_expr.specs.declared.level.Level.{Level}
use Rattle.st_expr.specs.declared.level.Level.TheVariants as at
use Rattle.st_expr.specs.Nested.{Tall, Deep}
use Rattle.st_expr.specs.Expressions.{number, truth, span, negative, negative_rest, next_expr, exprs, index_rest, field, part, path_of, path, plain, named, named_rest, out, out_rest, not_out, named_or_plain, out_or_in, arg, next_arg, args, args_if_any, call_rest, call, paren_rest, value, value_rest, variable, named_operand, called_or_named, other, primary, signed, unary, op_of, joining, side_of, levels_in, side_rest, next_side, innermost, layered, standing}
use Rattle.st_expr.specs.Depth.{deep}
use Rattle.plc_tokens.specs.declared.sort.Seen.{Seen}

-- ---- heights of parts

-- no higher than its number, which is below m
pub record Low {A : Type 0} (h : A → ℕ) (m : ℕ) (x : Tall A) : Type 0 where
  pub tall : h x.0 ≤ x.1
  pub low : x.1 < m

module _ {A : Type 0} {h : A → ℕ} where
  flat : {m : ℕ} (x : A) → h x ≡ 0 → 0 < m → Low h m (x, 0)
  flat x e some = record { tall = omega (arith, e); low = some }

  raised : {m : ℕ} (x : Tall A) → Low h m x → Low h (suc m) x
  raised x l = record { tall = l.tall; low = omega (arith, l.low) }

module _ {A : Type 0} (h : A → ℕ) where
  -- one more in a list
  added : {m : ℕ} (l : Tall (List A)) (x : A) (k : ℕ) → Low (highest h) m l → h x ≤ k → k < m → Low (highest h) m (l.0 ++ x ∷ [], max l.1 k)
  added l x k hl hx lt = record { tall = omega (arith, highest-append h l.0 (x ∷ []), hl.tall, hx); low = omega (arith, hl.low, lt) }

  -- the first of a list
  first : {m : ℕ} (x : Tall A) → Low h m x → Low (highest h) m (x.0 ∷ [], max 0 x.1)
  first x l = added ([], 0) x.0 x.1 (record { tall = omega arith; low = omega (arith, l.low) }) l.tall l.low

  pub appended : {m : ℕ} (xs : List A) (x : A) → highest h xs < m → h x < m → highest h (xs ++ x ∷ []) < m
  appended xs x l k = omega (arith, highest-append h xs (x ∷ []), l, k)

-- what stands under one more node
pub record LowBelow (n : ℕ) (d : Deep) : Type 0 where
  pub operand : (level : Level) (line : Bool) → Gives Any (d.operand level line) (Low height n)
  pub path : Gives Any d.path (Low path_height n)

-- ---- expressions

module _ (n : ℕ) (line : Bool) where
  number_low : (ks : List Seen) → Gives Any (number ks line) (Low height (suc n))
  unfolding number
  number_low ks = gives_bind (gives_tok ks) (λ t _. gives_pure _ (flat _ refl (omega arith)))

  truth_low : (ks : List Seen) → Gives Any (truth ks line) (Low height (suc n))
  unfolding truth
  truth_low ks = gives_bind (gives_tok ks) (λ t _. gives_pure _ (flat _ refl (omega arith)))

  span_low : (ks : List Seen) → Gives Any (span ks line) (Low height (suc n))
  unfolding span
  span_low ks = gives_bind (gives_tok ks) (λ t _. gives_pure _ (flat _ refl (omega arith)))

  negative_low : (ks : List Seen) → Gives Any (negative ks line) (Low height (suc n))
  unfolding negative negative_rest
  negative_low ks = gives_bind (gives_tok ks) (λ t _. gives_bind (gives_tok G.INTEGER) (λ u _. gives_pure _ (flat _ refl (omega arith))))

  value_low : (ks : List Seen) → Gives Any (value ks line) (Low height (suc n))
  unfolding value value_rest
  value_low ks = gives_bind (gives_tok ks) (λ t _. gives_bind (gives_tok G.HASH) (λ _ _. gives_bind (gives_tok G.NAME) (λ u _. gives_pure _ (flat _ refl (omega arith)))))

  field_low : (p : Tall (List Part)) → Low (highest part_height) (suc n) p → Gives Any (field line p) (Low (highest part_height) (suc n))
  unfolding field
  field_low p hp = gives_bind (gives_tok G.DOT) (λ d _. gives_bind (gives_tok G.NAME) (λ t _.
      gives_pure _ (record { tall = omega (arith, hp.tall, highest-append part_height p.0 (in_part.Field (name_of t.kind) t.place d.place ∷ [])); low = hp.low })))

module _ (n : ℕ) (d : Deep) (b : LowBelow n d) where
  module _ (line : Bool) where
    exprs_low : Gives Any (exprs line d) (Low (highest height) n)
    unfolding exprs next_expr
    exprs_low = gives_bind (b.operand at.Whole line) (λ x hx. gives_many G.COMMA _ (first height x hx) (λ l hl.
        gives_bind (gives_tok G.COMMA) (λ _ _. gives_bind (b.operand at.Whole line) (λ y hy. gives_pure _ (added height l y.0 y.1 hl hy.tall hy.low)))))

    index_low : (p : Tall (List Part)) (t : Token) → Low (highest part_height) (suc n) p → Gives Any (index_rest line d p t) (Low (highest part_height) (suc n))
    unfolding index_rest
    index_low p t hp = gives_bind exprs_low (λ l hl. gives_bind (gives_tok G.RBRACKET) (λ _ _.
        gives_pure _ (added part_height p (in_part.Index l.0 t.place) (l.1 + 1) hp (omega (arith, height-Index l.0 t.place, hl.tall)) (omega (arith, hl.low)))))

    pub path_low : (ks : List Seen) → Gives Any (path ks line n d) (Low path_height (suc n))
    unfolding path part
    path_low ks = gives_bind (gives_tok ks) (λ t _. gives_bind
        (gives_many G.PARTS ([], 0) (record { tall = omega arith; low = omega arith }) (λ p hp. gives_choose G.LBRACKET (gives_opens G.LBRACKET (λ _ t _. index_low p t hp)) (field_low n line p hp)))
        (λ p hp. gives_pure _ (record { tall = omega (arith, hp.tall, height-Var (path_of t p).0); low = hp.low })))

  out_low : (negate : Bool) (t : Token) → Gives Any (out_rest d negate t) (Low arg_height n)
  unfolding out_rest
  out_low negate t = gives_bind (gives_tok G.ARROW) (λ _ _. gives_bind b.path (λ p hp. gives_pure _ (record { tall = hp.tall; low = hp.low })))

  arg_low : Gives Any (arg d) (Low arg_height n)
  unfolding arg not_out out out_or_in named_or_plain named named_rest plain
  arg_low = gives_choose_three G.NOT G.NAME G.ARROW
      (gives_bind (gives_tok G.NOT) (λ _ _. gives_bind (gives_tok G.NAME) (λ t _. out_low true t)))
      (gives_choose_two G.NAME G.ARROW (gives_bind (gives_tok G.NAME) (λ t _. out_low false t))
      (gives_choose_two G.NAME G.ASSIGN (gives_bind (gives_tok G.NAME) (λ t _. gives_bind (gives_tok G.ASSIGN) (λ _ _. gives_bind (b.operand at.Whole false) (λ x hx.
      gives_pure _ (record { tall = hx.tall; low = hx.low })))))
      (gives_bind (b.operand at.Whole false) (λ x hx. gives_pure _ (record { tall = hx.tall; low = hx.low })))))

  args_low : Gives Any (args d) (Low (highest arg_height) n)
  unfolding args next_arg
  args_low = gives_bind arg_low (λ x hx. gives_many G.COMMA _ (first arg_height x hx) (λ l hl.
      gives_bind (gives_tok G.COMMA) (λ _ _. gives_bind arg_low (λ y hy. gives_pure _ (added arg_height l y.0 y.1 hl hy.tall hy.low)))))

  -- what a call adds to its arguments
  pub call_rest_low : (line : Bool) → 0 < n → Gives Any (call_rest line d) (Low (λ l. highest arg_height l + 1) (suc n))
  unfolding call_rest args_if_any
  call_rest_low line some = gives_bind (gives_seen (gives_choose G.FIRST_EXPR args_low (gives_pure ([], 0) (record { tall = omega arith; low = some }))))
      (λ l hl. gives_bind (gives_tok G.RPAREN) (λ _ _. gives_pure _ (record { tall = omega (arith, hl.tall); low = omega (arith, hl.low) })))

  module _ (line : Bool) where
    call_low : (t : Token) → 0 < n → Gives Any (call line d t) (Low height (suc n))
    unfolding call
    call_low t some = gives_bind (call_rest_low line some) (λ l hl. gives_pure _ (record { tall = omega (arith, hl.tall, height-Call (name_of t.kind) t.place l.0); low = hl.low }))

    paren_low : (t : Token) → Gives Any (paren_rest line d t) (Low height (suc n))
    unfolding paren_rest
    paren_low t = gives_bind (b.operand at.Whole line) (λ x hx. gives_bind (gives_tok G.RPAREN) (λ _ _.
        gives_pure _ (record { tall = omega (arith, hx.tall, height-Paren t.place x.0); low = omega (arith, hx.low) })))

    named_operand_low : (ks : List Seen) → Gives Any (named_operand ks line n d) (Low height (suc n))
    unfolding named_operand variable
    named_operand_low ks = gives_choose_two ks G.HASH (value_low n line ks) (gives_bind (path_low line ks) (λ p hp. gives_pure _ (record { tall = hp.tall; low = hp.low })))

    other_low : Gives Any (other line n d) (Low height (suc n))
    unfolding other called_or_named
    other_low =
        gives_choose G.TYPED (number_low n line G.TYPED)
        (gives_choose G.TRUTH (truth_low n line G.TRUTH)
        (gives_choose G.SPAN (span_low n line G.SPAN)
        (gives_choose G.LPAREN (gives_opens G.LPAREN (λ _ t _. paren_low t))
        (gives_choose G.OPERATION (gives_opens_two G.OPERATION G.LPAREN (λ some t _. call_low t some))
        (gives_choose_two G.NAME G.LPAREN (gives_opens_two G.NAME G.LPAREN (λ some t _. call_low t some)) (named_operand_low G.NAME))))))

    primary_low : Gives Any (primary line n d) (Low height (suc n))
    unfolding primary
    primary_low = gives_choose G.INTEGER (number_low n line G.INTEGER) other_low

    unary_low : Gives Any (unary line n d) (Low height (suc n))
    unfolding unary signed
    unary_low = gives_choose_two G.MINUS G.INTEGER (negative_low n line G.MINUS)
        (gives_choose G.MINUS (gives_opens G.MINUS (λ _ t _. gives_bind (b.operand at.Other line) (λ x hx.
        gives_pure _ (record { tall = omega (arith, hx.tall, height-Unary sign.Minus t.place x.0); low = omega (arith, hx.low) }))))
        (gives_choose G.NOT (gives_opens G.NOT (λ _ t _. gives_bind (b.operand at.Primary line) (λ x hx.
        gives_pure _ (record { tall = omega (arith, hx.tall, height-Unary sign.Not t.place x.0); low = omega (arith, hx.low) })))) primary_low))

    innermost_low : (level : Level) → Gives Any (innermost level line n d) (Low height (suc n))
    innermost_low at.Primary = primary_low
    innermost_low at.Other = other_low
    innermost_low _ = unary_low

    layered_low : (k : ℕ) (level : Level) → Gives Any (layered k level line n d) (Low height (suc n))
    unfolding layered next_side side_rest
    layered_low zero level = innermost_low level
    layered_low (suc k) level = gives_bind (layered_low k (side_of level)) (λ l hl. gives_many (joining level) l hl (λ l hl. gives_opens (joining level) (λ lt t _. gives_bind (b.operand (side_of level) line) (λ r hr.
        gives_pure _ (record { tall = omega (arith, hl.tall, hr.tall, height-Binary (op_of t.sort) t.place l.0 r.0); low = omega (arith, lt, hr.low) })))))

    pub standing_low : (level : Level) → Gives Any (standing level line n d) (Low height (suc n))
    standing_low level = layered_low (levels_in level) level

-- ---- at each number of nodes

pub deep_low : (n : ℕ) → LowBelow n (deep n)
unfolding deep
deep_low zero = record { operand = λ level line. gives_none; path = gives_none }
deep_low (suc n) = record {
  operand = λ level line. gives_also (gives_more raised ((deep_low n).operand level line)) (standing_low n (deep n) (deep_low n) line level);
  path = gives_also (gives_more raised (deep_low n).path) (path_low n (deep n) (deep_low n) false G.NAME);
}
