use Rattle.std.proofs.Common.{◌-◌, ◌∙◌, subst}
use Rattle.phrase.specs.Reads.{Reads}
use Rattle.st_expr.specs.Expressions.{args}
use Rattle.st_expr.specs.Depth.{deep, Arguments}
use Rattle.st_expr.proofs.DepthLaws.{args_law}
use Rattle.st_expr.proofs.Lacking.{of_arguments}
use Rattle.st_expr.proofs.Reading.{can_answer, tree_answered, one_more}
use Rattle.st_expr.proofs.parse.parse_args.Goals as goal

pub answer_tree-requires : goal.answer_tree-requires
answer_tree-requires c = can_answer _ _ _ Arguments args_law of_arguments (64 - c.args.around) c.args.tokens.now c.args.from c.new-reader.result c.args-outcome.result c.args-outcome.new.tokens c.len.result c.len.ensures c.requires.closed c.requires.from (c.new-reader.ensures ∙ c.behind.ensures) (subst (λ m. Reads ((args (deep m)).run c.new-reader.result) c.args-outcome.result c.args-outcome.new.tokens) (one_more (64 - c.args.around)) c.args-outcome.ensures.value)

pub returns : goal.returns
returns c = tree_answered _ _ _ Arguments args_law of_arguments (64 - c.args.around) c.args.tokens.now c.args.from c.new-reader.result c.args-outcome.result c.args-outcome.new.tokens c.len.result c.answer_tree.result c.len.ensures c.requires.from (c.new-reader.ensures ∙ c.behind.ensures) (subst (λ m. Reads ((args (deep m)).run c.new-reader.result) c.args-outcome.result c.args-outcome.new.tokens) (one_more (64 - c.args.around)) c.args-outcome.ensures.value) c.answer_tree.ensures
