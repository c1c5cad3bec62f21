-- The arms of CASE, read item by item, are the arms of the grammar.
use Rattle.std.proofs.Common.{◌≡◌, ℕ, zero, suc, List, [], ◌∷◌, ◌++◌, refl, sym, ◌∙◌, ap, subst, append_assoc, inl, inr}
use Rattle.plc_tokens.specs.declared.token.Token.{Token}
use Rattle.plc_tree.specs.declared.tree.Choice.{Choice}
use Rattle.plc_tree.specs.declared.tree.Label.{Label}
use Rattle.plc_tree.specs.declared.tree.Stmt.{Stmt}
use Rattle.phrase.specs.Piece.{Turns}
use Rattle.phrase.proofs.Basics.{no_more}
use Rattle.phrase.proofs.Views.{Alike}
use Rattle.st_parse.specs.declared.group.Group.{Group}
use Rattle.st_parse.specs.Nested.{Nested}
use Rattle.st_parse.specs.Statements.{next_stmt, stmts, labels, choice_of, choice, next_choice, choices, begun, group_end, next_group, longer, number_item, value_item, named_item, number_labels, named_labels, stmt_item, item, items}

module _ (d : Nested) where
  -- the next item is the labels of an arm
  labels_item : (g : Group) (w : List Token) (l : List Label) → labels.lang w l → (item d g).lang w (next_group g l)
  unfolding item labels number_item named_item value_item named_labels
  labels_item g w l (inl k) = inl (l, w, [], sym (no_more w), k, (refl, refl))
  labels_item g w l (inr (t, u, v, i, k, m)) = inr (inl (t, u, v, i, k, (l, v, [], sym (no_more v), m, (refl, refl))))

  -- or a statement
  one_item : (g : Group) (w : List Token) (s : Stmt) → d.stmt.lang w s → (item d g).lang w (longer g s)
  unfolding item stmt_item
  one_item g w s k = inr (inr (s, w, [], sym (no_more w), k, (refl, refl)))

  -- and nothing else
  data IsItem (g h : Group) (w : List Token) : Type 0 where
    opens_arm : (l : List Label) → labels.lang w l → h ≡ next_group g l → IsItem g h w
    goes_on : (s : Stmt) → d.stmt.lang w s → h ≡ longer g s → IsItem g h w

  an_item : (g h : Group) (w : List Token) → (item d g).lang w h → IsItem g h w
  unfolding item labels number_item named_item value_item named_labels stmt_item
  an_item g h w (inl (l, u, v, i, k, (j, e))) = opens_arm l (inl (subst (λ z. number_labels.lang z l) (sym (whole i j)) k)) e
    where
      whole : {u v : List Token} → w ≡ u ++ v → v ≡ [] → w ≡ u
      whole {u} {v} i j = i ∙ ap (λ z. u ++ z) j ∙ no_more u
  an_item g h w (inr (inl (t, u, v, i, k, (l, u', v', i', k', (j, e))))) = opens_arm l (inr (t, u, u', i ∙ ap (λ z. u ++ z) (i' ∙ ap (λ z. u' ++ z) j ∙ no_more u'), k, k')) e
  an_item g h w (inr (inr (s, u, v, i, k, (j, e)))) = goes_on s (subst (λ z. d.stmt.lang z s) (sym (i ∙ ap (λ z. u ++ z) j ∙ no_more u)) k) e

  -- ---- from the arms to the items

  -- some statements are items of an arm
  of_stmts : (n : ℕ) (b c : List Stmt) (whole : List Choice) (l : List Label) (w v : List Token) (h : Group) (m : ℕ) → Turns (next_stmt d) n b w c
      → Turns (item d) m (record { whole = whole; labels = l; body = c }) v h → (k : ℕ) × Turns (item d) k (record { whole = whole; labels = l; body = b }) (w ++ v) h
  unfolding next_stmt
  of_stmts zero b c whole l w v h m k t = (m, subst (λ z. Turns (item d) m (record { whole = whole; labels = l; body = z }) (w ++ v) h) k.1 (subst (λ z. Turns (item d) m (record { whole = whole; labels = l; body = c }) (z ++ v) h) (sym k.0) t))
  of_stmts (suc n) b c whole l w v h m (b', u, u', i, (s, x, y, j, k, (o, e)), r) t =
      let (q, z) = of_stmts n b' c whole l u' v h m r t in
      let is : u ≡ x = j ∙ ap (λ z. x ++ z) o ∙ no_more x in (
        suc q,
        (
          record { whole = whole; labels = l; body = b' },
          u,
          u' ++ v,
          ap (λ z. z ++ v) i ∙ append_assoc u u' v,
          subst (λ z. (item d (record { whole = whole; labels = l; body = b })).lang u (record { whole = whole; labels = l; body = z })) (sym e) (one_item (record { whole = whole; labels = l; body = b }) u s (subst (λ z. d.stmt.lang z s) (sym is) k)),
          z,
        ),
      )

  -- the arms behind one that is read are items
  of_choices : (m : ℕ) (g : Group) (w : List Token) (c : List Choice) → Turns (next_choice d) m (group_end g) w c → (k : ℕ) × (h : Group) × Turns (item d) k g w h × (group_end h ≡ c)
  unfolding next_choice choice stmts
  of_choices zero g w c (i, e) = (0, g, (i, refl), sym e)
  of_choices (suc m) g w c (b, u, v, i, (a, x, y, j, (l, p, q, r, kl, (bs, p', q', r', (n, t), (o', e'))), (o, e)), rest) =
      let after : Group = record { whole = group_end g; labels = l; body = bs } in
      let at_end : b ≡ group_end after = e ∙ ap (λ z. group_end g ++ z ∷ []) e' in
      let (k, h, s, f) = of_choices m after v c (subst (λ z. Turns (next_choice d) m z v c) at_end rest) in
      let (k', s') = of_stmts n [] bs (group_end g) l p' v h k t s in
      let is : u ≡ p ++ p' = j ∙ ap (λ z. x ++ z) o ∙ no_more x ∙ r ∙ ap (λ z. p ++ z) (r' ∙ ap (λ z. p' ++ z) o' ∙ no_more p') in
      (suc k', h, (next_group g l, p, p' ++ v, i ∙ ap (λ z. z ++ v) is ∙ append_assoc p p' v, labels_item g p l kl, s'), f)

  to_items : (w : List Token) (c : List Choice) → (choices d).lang w c → (items d).lang w c
  unfolding choices items choice stmts
  to_items w c (a, u, v, i, (l, p, q, r, kl, (bs, p', q', r', (n, t), (o, e))), (m, s)) =
      let after : Group = record { whole = []; labels = l; body = bs } in
      let (k, h, z, f) = of_choices m after v c (subst (λ y. Turns (next_choice d) m (y ∷ []) v c) e s) in
      let (k', z') = of_stmts n [] bs [] l p' v h k t z in
      let is : u ≡ p ++ p' = r ∙ ap (λ z. p ++ z) (r' ∙ ap (λ z. p' ++ z) o ∙ no_more p') in
      (l, p, p' ++ v, i ∙ ap (λ z. z ++ v) is ∙ append_assoc p p' v, kl, (h, p' ++ v, [], sym (no_more (p' ++ v)), (k', z'), (refl, sym f)))

  -- ---- from the items to the arms

  -- the items behind a group are the rest of its statements, and arms
  abbrev Behind : Group → List Token → Group → Type 0
  Behind g w h = (b : List Stmt) × (u : List Token) × (v : List Token) × (w ≡ u ++ v) × ((n : ℕ) × Turns (next_stmt d) n g.body u b) × ((m : ℕ) × Turns (next_choice d) m (g.whole ++ choice_of g.labels b ∷ []) v (group_end h))

  goes_behind : (g h : Group) (u v : List Token) (s : Stmt) → d.stmt.lang u s → Behind (longer g s) v h → Behind g (u ++ v) h
  unfolding next_stmt
  goes_behind g h u v s k (b, x, y, i, (n, t), (m, r)) =
      (b, u ++ x, y, ap (λ z. u ++ z) i ∙ sym (append_assoc u x y), (suc n, (g.body ++ s ∷ [], u, x, refl, (s, u, [], sym (no_more u), k, (refl, refl)), t)), (m, r))

  opens_behind : (g h : Group) (u v : List Token) (l : List Label) → labels.lang u l → Behind (next_group g l) v h → Behind g (u ++ v) h
  unfolding next_choice choice stmts
  opens_behind g h u v l k (b, x, y, i, (n, t), (m, r)) = (
    g.body,
    [],
    u ++ v,
    refl,
    (0, (refl, refl)),
    (
      suc m,
      (
        group_end g ++ choice_of l b ∷ [],
        u ++ x,
        y,
        ap (λ z. u ++ z) i ∙ sym (append_assoc u x y),
        (choice_of l b, u ++ x, [], sym (no_more (u ++ x)), (l, u, x, refl, k, (b, x, [], sym (no_more x), (n, t), (refl, refl))), (refl, refl)),
        r,
      ),
    ),
  )

  by_item : (g g' h : Group) (w u v : List Token) → w ≡ u ++ v → IsItem g g' u → Behind g' v h → Behind g w h
  by_item g g' h w u v i (opens_arm l k e) t = subst (λ z. Behind g z h) (sym i) (opens_behind g h u v l k (subst (λ z. Behind z v h) e t))
  by_item g g' h w u v i (goes_on s k e) t = subst (λ z. Behind g z h) (sym i) (goes_behind g h u v s k (subst (λ z. Behind z v h) e t))

  of_items : (k : ℕ) (g h : Group) (w : List Token) → Turns (item d) k g w h → Behind g w h
  of_items zero g h w (i, e) = (g.body, [], w, refl, (0, (refl, refl)), (0, (i, ap group_end e)))
  of_items (suc k) g h w (g', u, v, i, t, r) = by_item g g' h w u v i (an_item g g' u t) (of_items k g' h v r)

  to_choices : (w : List Token) (c : List Choice) → (items d).lang w c → (choices d).lang w c
  unfolding choices items choice stmts
  to_choices w c (l, p, q, i, kl, (h, u, v, j, (k, t), (o, e))) = of_behind (of_items k (begun l) h u t)
    where
      whole : w ≡ p ++ u
      whole = i ∙ ap (λ z. p ++ z) (j ∙ ap (λ z. u ++ z) o ∙ no_more u)

      of_behind : Behind (begun l) u h → (choices d).lang w c
      of_behind (b, x, y, f, (n, s), (m, r)) = (
        choice_of l b,
        p ++ x,
        y,
        whole ∙ ap (λ z. p ++ z) f ∙ sym (append_assoc p x y),
        (l, p, x, refl, kl, (b, x, [], sym (no_more x), (n, s), (refl, refl))),
        (m, subst (λ z. Turns (next_choice d) m (choice_of l b ∷ []) y z) (sym e) r),
      )

pub same_choices : (x : ℕ → Nested) → Alike (λ e. choices (x e)) (λ e. items (x e))
same_choices x = record { to = λ e. to_items (x e); back = λ e. to_choices (x e) }
