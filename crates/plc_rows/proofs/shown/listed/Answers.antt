use Rattle.std.proofs.Common.{refl, sym, subst, [], false}
use Rattle.plc_base.specs.declared.refusal.Rule.TheVariants.{L6}
use Rattle.plc_lex.proofs.Laws.{lexed-has_end}
use Rattle.plc_tokens.specs.Tokens.{IsClosed, bad, start}
use Rattle.plc_rows.proofs.shown.listed.Goals as goal

pub returns-then-text-gt-MOST : goal.returns-then-text-gt-MOST
returns-then-text-gt-MOST c = subst IsClosed (sym c.in_ok-bad.ensures) (record { tokens = []; last = bad L6 (start 0) false; all = refl; ends = refl })

pub returns : goal.returns
returns c = subst IsClosed (sym c.in_ok-tokens.ensures) (lexed-has_end c.args.text.now 0 c.args.nested)
