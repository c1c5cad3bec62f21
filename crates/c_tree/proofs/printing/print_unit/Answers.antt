use Rattle.std.proofs.Common.{sym, subst, ap, ◌∙◌, List}
use Rattle.c_tree.specs.declared.text.CText.{CText}
use Rattle.c_tree.specs.Printing.{part_texts}
use Rattle.c_tree.specs.Spelled.{SpellsUnit}
use Rattle.c_tree.proofs.LayoutLaws.{spells_unit}
use Rattle.c_tree.proofs.printing.print_unit.Goals as goal

pub returns-clause-spells : goal.returns-clause-spells
returns-clause-spells c = λ h. subst (λ (ts : List CText). SpellsUnit ts c.args.unit.now) (sym (c.in_ok-texts.ensures ∙ ap part_texts c.as_slice.ensures)) (spells_unit c.args.unit.now h)
