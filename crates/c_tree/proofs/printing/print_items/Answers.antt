use Rattle.std.proofs.Common.{◌∙◌, ap, [], false}
use Rattle.c_tree.specs.Layout.{Written, put_all}
use Rattle.c_tree.specs.Spelling.{part_pieces}
use Rattle.c_tree.proofs.GrowingText.{put_all-text}
use Rattle.c_tree.proofs.printing.print_items.Goals as goal

pub returns : goal.returns
returns c =
    c.into_text.ensures
    ∙ ap (λ (w : Written). w.text) c.in_ok-part.ensures
    ∙ ap (λ (w : Written). (put_all w (part_pieces c.args.first c.args.items.now)).text) c.new-printer.ensures
    ∙ put_all-text (record { text = []; wordy = false }) (part_pieces c.args.first c.args.items.now)
