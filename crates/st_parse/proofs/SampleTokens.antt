-- Tokens of statements for phrases that the checker reads.
use Rattle.std.specs.Prelude.{⊤, codes}
use Rattle.plc_base.specs.declared.kind.Kind.{Kind}
use Rattle.plc_base.specs.declared.kind.Kind.TheVariants.{Word}
use Rattle.st_expr.proofs.SampleTokens.{expressions_on_tokens}
use Rattle.st_parse.specs.Statements.{next_stmt, stmts, other_stmts, else_if_any, arm, next_arm, if_rest, range_end, range_if_any, numbers, owned, value_label, named_label, label, next_label, more_labels, number_labels, value_labels, named_labels, labels, choice, next_choice, choices, number_item, value_item, named_item, stmt_item, item, items, case_rest, step, step_if_any, for_list, loop_body, for_rest, while_rest, repeat_rest, empty_stmt, exit_stmt, return_stmt, call_stmt, set_stmt, called_or_set, one_stmt}
use Rattle.st_parse.specs.Depth.{stmt_under}

-- what an answer unfolds to compute the descent of a statement
unfoldable pub statements_on_tokens : ⊤
unfolding expressions_on_tokens stmt_under next_stmt stmts other_stmts else_if_any arm next_arm if_rest range_end range_if_any numbers owned value_label named_label label next_label more_labels number_labels value_labels named_labels labels choice next_choice choices number_item value_item named_item stmt_item item items case_rest step step_if_any for_list loop_body for_rest while_rest repeat_rest empty_stmt exit_stmt return_stmt call_stmt set_stmt called_or_set one_stmt
statements_on_tokens = tt

-- ---- reserved words

abbrev pub IF : Kind
IF = Word (codes "IF")

abbrev pub THEN : Kind
THEN = Word (codes "THEN")

abbrev pub ELSIF : Kind
ELSIF = Word (codes "ELSIF")

abbrev pub ELSE : Kind
ELSE = Word (codes "ELSE")

abbrev pub END_IF : Kind
END_IF = Word (codes "END_IF")

abbrev pub CASE : Kind
CASE = Word (codes "CASE")

abbrev pub OF : Kind
OF = Word (codes "OF")

abbrev pub END_CASE : Kind
END_CASE = Word (codes "END_CASE")

abbrev pub FOR : Kind
FOR = Word (codes "FOR")

abbrev pub TO : Kind
TO = Word (codes "TO")

abbrev pub BY : Kind
BY = Word (codes "BY")

abbrev pub DO : Kind
DO = Word (codes "DO")

abbrev pub END_FOR : Kind
END_FOR = Word (codes "END_FOR")

abbrev pub WHILE : Kind
WHILE = Word (codes "WHILE")

abbrev pub END_WHILE : Kind
END_WHILE = Word (codes "END_WHILE")

abbrev pub REPEAT : Kind
REPEAT = Word (codes "REPEAT")

abbrev pub UNTIL : Kind
UNTIL = Word (codes "UNTIL")

abbrev pub END_REPEAT : Kind
END_REPEAT = Word (codes "END_REPEAT")

abbrev pub EXIT : Kind
EXIT = Word (codes "EXIT")

abbrev pub RETURN : Kind
RETURN = Word (codes "RETURN")
