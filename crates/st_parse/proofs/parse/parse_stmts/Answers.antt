use Rattle.std.proofs.Common.{◌-◌, ◌∙◌, subst}
use Rattle.phrase.specs.Reads.{Reads}
use Rattle.st_parse.specs.Statements.{stmts}
use Rattle.st_parse.specs.Depth.{nested, Statements}
use Rattle.st_parse.proofs.DepthLaws.{stmts_law}
use Rattle.st_parse.proofs.Lacking.{of_statements}
use Rattle.st_expr.proofs.Reading.{can_answer, list_answered, one_more}
use Rattle.st_parse.proofs.parse.parse_stmts.Goals as goal

pub answer-requires : goal.answer-requires
answer-requires c = can_answer _ _ _ Statements stmts_law of_statements (64 - c.args.around) c.args.tokens.now c.args.from c.new-reader.result c.stmts-outcome.result c.stmts-outcome.new.tokens c.len.result c.len.ensures c.requires.closed c.requires.from (c.new-reader.ensures ∙ c.behind.ensures) (subst (λ m. Reads ((stmts (nested m)).run c.new-reader.result) c.stmts-outcome.result c.stmts-outcome.new.tokens) (one_more (64 - c.args.around)) c.stmts-outcome.ensures)

pub returns : goal.returns
returns c = list_answered _ _ _ Statements stmts_law of_statements (64 - c.args.around) c.args.tokens.now c.args.from c.new-reader.result c.stmts-outcome.result c.stmts-outcome.new.tokens c.len.result c.answer.result c.len.ensures c.requires.from (c.new-reader.ensures ∙ c.behind.ensures) (subst (λ m. Reads ((stmts (nested m)).run c.new-reader.result) c.stmts-outcome.result c.stmts-outcome.new.tokens) (one_more (64 - c.args.around)) c.stmts-outcome.ensures) c.answer.ensures
