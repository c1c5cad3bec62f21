use Rattle.std.proofs.Common.{rules, ◌≡◌, ◌+◌, ◌++◌, ◌∷◌, length, vec_len}
use Rattle.plc_outside.proofs.SpanLemmas.{files_of-bound}
use Rattle.plc_outside.specs.declared.span.Span.{Span}
use Rattle.plc_outside.proofs.span.bind.Goals as goal

pub returns-clause-files : goal.returns-clause-files
returns-clause-files c =
    let s : Span = record { start = c.len-start.result; middle = c.len-middle.result; end = c.len-end.result } in
    let items : c.extend_from_slice-2.new.self.items ≡ (c.args.bytes.now.items ++ c.args.name.now) ++ c.args.content.now = search rules in
    let spans : c.push_front.new.self.items ≡ s ∷ c.args.spans.now.items = search rules in
    let start : s.start ≡ length c.args.bytes.now.items = search rules in
    let middle : s.middle ≡ length c.args.bytes.now.items + length c.args.name.now = search rules in
    let end : s.end ≡ length c.args.bytes.now.items + length c.args.name.now + length c.args.content.now = search rules in
    let len : vec_len c.args.bytes.now ≡ length c.args.bytes.now.items = search rules in
    let within = rw len at c.requires.within in
    rw (items, spans) (files_of-bound c.args.bytes.now.items c.args.name.now c.args.content.now s c.args.spans.now.items within start middle end)
