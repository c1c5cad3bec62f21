use Rattle.std.proofs.Common.{◌-◌, ◌∙◌}
use Rattle.st_expr.specs.Depth.{Expressions}
use Rattle.st_expr.proofs.DepthLaws.{expr_law}
use Rattle.st_expr.proofs.Lacking.{of_expressions}
use Rattle.st_expr.proofs.Reading.{can_answer, tree_answered}
use Rattle.st_expr.proofs.parse.parse_expr.Goals as goal

pub answer_tree-requires : goal.answer_tree-requires
answer_tree-requires c = can_answer _ _ _ Expressions expr_law of_expressions (64 - c.args.around) c.args.tokens.now c.args.from c.new-reader.result c.read-outcome.result c.read-outcome.new.tokens c.len.result c.len.ensures c.requires.closed c.requires.from (c.new-reader.ensures ∙ c.behind.ensures) c.read-outcome.ensures.value

pub returns : goal.returns
returns c = tree_answered _ _ _ Expressions expr_law of_expressions (64 - c.args.around) c.args.tokens.now c.args.from c.new-reader.result c.read-outcome.result c.read-outcome.new.tokens c.len.result c.answer_tree.result c.len.ensures c.requires.from (c.new-reader.ensures ∙ c.behind.ensures) c.read-outcome.ensures.value c.answer_tree.ensures
