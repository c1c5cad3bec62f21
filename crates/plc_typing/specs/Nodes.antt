-- What the walk over an expression knows of each node: its type, where it is plain, and whether it has a number by itself.
use Rattle.std.specs.Prelude.{◌&&◌, List, is_some}
use Rattle.plc_base.specs.declared.refusal.Place.{Place}
use Rattle.plc_base.specs.declared.refusal.Refusal.{Refusal}
use Rattle.plc_tree.specs.declared.tree.BinOp.{BinOp}
use Rattle.plc_tree.specs.declared.tree.UnOp.{UnOp}
use Rattle.plc_tree.specs.declared.tree.Expr.{Expr}
use Rattle.plc_typing.specs.declared.plain.Plain.{Plain}
use Rattle.plc_typing.specs.Constants.{has_const, folds, folds_one}
use Rattle.plc_typing.specs.Plain.{plain, plain_unary, plain_binary}
use Rattle.plc_typing.specs.Scope.{Types}
use Rattle.plc_typing.specs.Uses.{unplain}

abbrev pub known : Types → Expr → Plain
known types x = record { elem = plain types x; has_const = has_const x }

-- ---- operators, by what is known of their operands

abbrev pub of_unary : UnOp → Plain → Plain
of_unary op p = record { elem = plain_unary op p.has_const p.elem; has_const = folds_one op && p.has_const }

abbrev pub unary_faults : UnOp → Place → Plain → List Refusal
unary_faults op at p = unplain (is_some p.elem) (plain_unary op p.has_const p.elem) at

abbrev pub of_binary : BinOp → Plain → Plain → Plain
of_binary op p q = record { elem = plain_binary op (p.has_const && q.has_const) p.elem q.elem; has_const = folds op && (p.has_const && q.has_const) }

abbrev pub binary_faults : BinOp → Place → Plain → Plain → List Refusal
binary_faults op at p q = unplain (is_some p.elem && is_some q.elem) (plain_binary op (p.has_const && q.has_const) p.elem q.elem) at
