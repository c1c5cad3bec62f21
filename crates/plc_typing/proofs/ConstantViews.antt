-- The numbers of expressions, with expressions where the definitions have rows.
use Rattle.std.proofs.Common.{◌≡◌, refl}
use Rattle.std.specs.Prelude.{◌&&◌}
use Rattle.plc_base.specs.declared.refusal.Place.{Place}
use Rattle.plc_tree.specs.declared.tree.BinOp.{BinOp}
use Rattle.plc_tree.specs.declared.tree.UnOp.{UnOp}
use Rattle.plc_tree.specs.declared.tree.Expr.{Expr, Paren, Unary, Binary}
use Rattle.plc_tree.specs.declared.tree.Arg.TheBlock.{hidden-the_row-Expr-1}
use Rattle.plc_typing.specs.Constants.{folds, folds_one, has_const, of_two, of_one, const_of}

pub has_const-Paren : (at : Place) (a : Expr) → has_const (Paren at a) ≡ has_const a
unfolding hidden-the_row-Expr-1 denote.Hole.Carrier.hidden
has_const-Paren at a = refl

pub has_const-Unary : (op : UnOp) (at : Place) (a : Expr) → has_const (Unary op at a) ≡ (folds_one op && has_const a)
unfolding hidden-the_row-Expr-1 denote.Hole.Carrier.hidden
has_const-Unary op at a = refl

pub has_const-Binary : (op : BinOp) (at : Place) (a b : Expr) → has_const (Binary op at a b) ≡ (folds op && (has_const a && has_const b))
unfolding hidden-the_row-Expr-1 denote.Hole.Carrier.hidden
has_const-Binary op at a b = refl

pub const_of-Paren : (at : Place) (a : Expr) → const_of (Paren at a) ≡ const_of a
unfolding hidden-the_row-Expr-1 denote.Hole.Carrier.hidden
const_of-Paren at a = refl

pub const_of-Unary : (op : UnOp) (at : Place) (a : Expr) → const_of (Unary op at a) ≡ of_one op (const_of a)
unfolding hidden-the_row-Expr-1 denote.Hole.Carrier.hidden
const_of-Unary op at a = refl

pub const_of-Binary : (op : BinOp) (at : Place) (a b : Expr) → const_of (Binary op at a b) ≡ of_two op (const_of a) (const_of b)
unfolding hidden-the_row-Expr-1 denote.Hole.Carrier.hidden
const_of-Binary op at a b = refl
