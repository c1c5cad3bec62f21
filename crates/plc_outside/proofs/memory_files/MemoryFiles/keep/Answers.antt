use Rattle.std.proofs.Common.{refl, ◌≡◌, ◌+◌, ◌≢◌, length, Some, []}
use Rattle.std.specs.FinMap as map
use Rattle.plc_outside.specs.MemoryFiles.{files_seen}
use Rattle.plc_outside.specs.Spans.{files_of}
use Rattle.plc_outside.proofs.KeptLemmas.{blank_seen}
use Rattle.plc_outside.proofs.SpanLemmas.{slots-after}
use Rattle.plc_outside.proofs.memory_files.MemoryFiles.keep.Goals as goal

pub returns-then-is_blank-clause-seen : goal.returns-then-is_blank-clause-seen
returns-then-is_blank-clause-seen c =
    let blank = rw c.deref.ensures.value at c.if-is_blank.ensures.0 refl in
    blank_seen (files_seen c.args.self.now) _ _ _ refl blank.0 blank.1

pub invariant_of-self-2-clause-slots : goal.invariant_of-self-2-clause-slots
invariant_of-self-2-clause-slots c =
    let not_blank = rw c.deref.ensures.value at c.if-is_blank.ensures.1 in
    let unlike : length c.args.name.now + length c.args.bytes.now ≡ 0 → map.get (files_of c.args.self.now.bytes.items c.args.self.now.spans.items) [] ≢ Some []
    = λ e g. absurd (let x = not_blank (e, g) in cc) in
    slots-after _ _ _ _ _ _ _ _ _ _ c.args.self.now.slots c.requires unlike c.bind.ensures.files c.bind.ensures.used refl c.bind.ensures.slots
