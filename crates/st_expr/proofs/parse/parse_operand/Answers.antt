use Rattle.std.proofs.Common.{◌-◌, ◌∙◌}
use Rattle.st_expr.specs.Depth.{Operands}
use Rattle.st_expr.proofs.DepthLaws.{operand_law}
use Rattle.st_expr.proofs.Lacking.{of_operands}
use Rattle.st_expr.proofs.Reading.{can_answer, tree_answered}
use Rattle.st_expr.proofs.parse.parse_operand.Goals as goal

pub answer_tree-requires : goal.answer_tree-requires
answer_tree-requires c = can_answer _ _ _ (Operands c.args.line) (operand_law c.args.line) (of_operands c.args.line) (64 - c.args.around) c.args.tokens.now c.args.from c.new-reader.result c.operand-outcome.result c.operand-outcome.new.tokens c.len.result c.len.ensures c.requires.closed c.requires.from (c.new-reader.ensures ∙ c.behind.ensures) c.operand-outcome.ensures.value

pub returns : goal.returns
returns c = tree_answered _ _ _ (Operands c.args.line) (operand_law c.args.line) (of_operands c.args.line) (64 - c.args.around) c.args.tokens.now c.args.from c.new-reader.result c.operand-outcome.result c.operand-outcome.new.tokens c.len.result c.answer_tree.result c.len.ensures c.requires.from (c.new-reader.ensures ∙ c.behind.ensures) c.operand-outcome.ensures.value c.answer_tree.ensures
