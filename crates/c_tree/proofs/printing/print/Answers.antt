use Rattle.std.proofs.Common.{◌≡◌, ◌∙◌, ap, sym, subst, nat_eq, get_or, List}
use Rattle.std.specs.Prelude.{IfOk}
use Rattle.c_tree.specs.declared.tree.CItem.{CItem}
use Rattle.c_tree.specs.declared.tree.CPart.{CPart}
use Rattle.c_tree.specs.Printing as spec
use Rattle.c_tree.proofs.PartTexts.{items_at-get}
use Rattle.c_tree.proofs.printing.print.Goals as goal

pub returns : goal.returns
returns c =
    let part = c.index-as_slice-part.result in
    let parts = c.args.unit.now.parts in
    let is : part ≡ get_or parts c.args.part part = c.index-as_slice-part.is ∙ ap (λ (ps : List CPart). get_or ps c.args.part part) c.as_slice.ensures in
    let items : c.as_slice-2.result.now ≡ spec.items_at parts c.args.part =
    c.as_slice-2.ensures ∙ ap (λ (p : CPart). p.items) (sym c.index-as_slice-part.is) ∙ sym (items_at-get parts c.args.part part c.requires is) in
    subst (λ (xs : List CItem). IfOk c.print_items.result (λ text. text.items ≡ spec.printed_part (nat_eq c.args.part 0) xs)) items c.print_items.ensures
