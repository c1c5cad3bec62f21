-- What statements begin with, and that none begins as a label, at every number of nodes.
use Rattle.std.proofs.Common.{ℕ, false, refl}
use Rattle.plc_tokens.specs.Sets as G
use Rattle.phrase.proofs.Rules.{Shape, shaped, tokS, opensS, bindS, chooseS, choose_twoS, Avoids, avoids_then, avoids_firstS, avoids_choose, avoids_choose_two, avoids_opens, avoids_opens_two}
use Rattle.st_expr.proofs.Fronts.{path_shape, path_avoids}
use Rattle.st_parse.specs.Nested.{Nested}
use Rattle.st_parse.specs.Statements.{empty_stmt, exit_stmt, return_stmt, set_stmt, called_or_set, one_stmt}

module _ (x : ℕ → Nested) where
  set_not_label : Avoids G.NAME G.LABELLED (λ e. set_stmt e (x e))
  unfolding set_stmt
  set_not_label = avoids_then (path_shape (λ e. (x e).inside) false G.NAME) (λ p. bindS _ (tokS G.ASSIGN)) (path_avoids (λ e. (x e).inside) false G.NAME G.NAME G.LABELLED refl) refl

  pub stmt_not_label : Avoids G.NAME G.LABELLED (λ e. one_stmt e (x e))
  unfolding one_stmt empty_stmt exit_stmt return_stmt called_or_set
  stmt_not_label =
      avoids_choose G.SEMI (avoids_firstS (bindS _ (tokS G.SEMI)) refl)
      (avoids_choose G.IF (avoids_opens G.IF refl)
      (avoids_choose G.CASE (avoids_opens G.CASE refl)
      (avoids_choose G.FOR (avoids_opens G.FOR refl)
      (avoids_choose G.WHILE (avoids_opens G.WHILE refl)
      (avoids_choose G.REPEAT (avoids_opens G.REPEAT refl)
      (avoids_choose G.EXIT (avoids_firstS (bindS _ (tokS G.EXIT)) refl)
      (avoids_choose G.RETURN (avoids_firstS (bindS _ (tokS G.RETURN)) refl)
      (avoids_choose_two G.NAME G.LPAREN (avoids_opens_two G.NAME G.LPAREN refl) set_not_label))))))))

  pub stmt_shape : Shape false G.FIRST_STMT (λ e. one_stmt e (x e))
  unfolding one_stmt empty_stmt exit_stmt return_stmt called_or_set set_stmt
  stmt_shape = shaped G.FIRST_STMT
      (chooseS (bindS _ (tokS G.SEMI))
      (chooseS (opensS G.IF)
      (chooseS (opensS G.CASE)
      (chooseS (opensS G.FOR)
      (chooseS (opensS G.WHILE)
      (chooseS (opensS G.REPEAT)
      (chooseS (bindS _ (tokS G.EXIT))
      (chooseS (bindS _ (tokS G.RETURN))
      (choose_twoS G.NAME G.LPAREN (opensS G.NAME) (bindS _ (path_shape (λ e. (x e).inside) false G.NAME))))))))))) refl
