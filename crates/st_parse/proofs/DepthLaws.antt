-- The laws of statements at each number of nodes, by one induction on that number.
use Rattle.std.proofs.Common.{◌≡◌, ℕ, zero, suc, true, false, nat_le, [], ◌∷◌, refl, subst, inl}
use Rattle.plc_tokens.specs.declared.token.Token.{Token}
use Rattle.plc_tree.specs.declared.tree.Stmt.TheVariants.{Empty}
use Rattle.plc_tokens.specs.Sets as G
use Rattle.plc_tokens.proofs.Known.{plain_of}
use Rattle.phrase.specs.Piece.{Law}
use Rattle.phrase.proofs.Rules.{Shape, underS, under, Avoids, under_avoids}
use Rattle.phrase.proofs.Views.{up_law}
use Rattle.phrase.proofs.Under.{is_under, shut, lifted}
use Rattle.st_expr.proofs.DepthLaws.{below, one_fits}
use Rattle.st_parse.specs.Statements.{one_stmt, empty_stmt}
use Rattle.st_parse.specs.Depth.{nested, stmt_under, Statements}
use Rattle.st_parse.proofs.Below.{BelowStmts}
use Rattle.st_parse.proofs.Fronts.{stmt_shape, stmt_not_label}
use Rattle.st_parse.proofs.StatementLaws.{more_stmts, stmts_laws, one_laws}

under_stmt : under (λ n. one_stmt n (nested n)) ≡ stmt_under
unfolding stmt_under
under_stmt = is_under stmt_under (λ n. one_stmt n (nested n)) refl (λ n. refl)

-- a small statement
abbrev a_semi : Token
a_semi = plain_of G.SEMI

one_empty : (one_stmt 0 (nested 0)).lang (a_semi ∷ []) Empty
unfolding one_stmt empty_stmt
one_empty = inl (a_semi, a_semi ∷ [], [], refl, (refl, refl), (refl, refl))

under_shape : Shape false G.FIRST_STMT stmt_under
under_shape = subst (Shape false G.FIRST_STMT) under_stmt (underS (stmt_shape nested))

under_not_label : Avoids G.NAME G.LABELLED stmt_under
under_not_label = subst (Avoids G.NAME G.LABELLED) under_stmt (under_avoids (λ n. one_stmt n (nested n)) (stmt_not_label nested))

pub below_stmts : (d : ℕ) → BelowStmts (nat_le 1 d) d nested
below_stmts zero = record {
  inside = below zero;
  stmt = shut stmt_under (λ n. one_stmt n (nested n)) under_stmt 0 (a_semi ∷ []) _ one_empty;
  stmt_shape = under_shape;
  stmt_not_label = under_not_label;
}
below_stmts (suc d) = record {
  inside = below (suc d);
  stmt = lifted stmt_under (λ n. one_stmt n (nested n)) under_stmt (one_laws d nested (below_stmts d));
  stmt_shape = under_shape;
  stmt_not_label = under_not_label;
}

pub stmts_law : (d : ℕ) → Law d true true G.FIRST_STMT more_stmts Statements
stmts_law d = up_law ((stmts_laws (suc d) nested (below_stmts (suc d))).law (one_fits d))
