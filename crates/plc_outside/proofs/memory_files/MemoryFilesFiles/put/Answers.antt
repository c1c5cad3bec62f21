use Rattle.std.proofs.Common.{refl}
use Rattle.plc_outside.proofs.KeptLemmas.{refused_put}
use Rattle.plc_outside.proofs.memory_files.MemoryFilesFiles.put.Goals as goal

pub returns-then-is_refused-clause-kept : goal.returns-then-is_refused-clause-kept
returns-then-is_refused-clause-kept c =
    let cause = rw (c.deref.ensures.value, c.bytes-name.ensures) at c.if-is_refused.ensures.cause in
    refused_put _ _ _ _ _ _ _ _ _ c.saturating_add-self.ensures cause c.saturating_add-self-then-is_refused.ensures refl
