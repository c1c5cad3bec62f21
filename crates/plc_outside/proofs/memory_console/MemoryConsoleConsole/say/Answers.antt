use Rattle.std.proofs.Common.{refl}
use Rattle.plc_outside.proofs.KeptLemmas.{refused_write}
use Rattle.plc_outside.proofs.memory_console.MemoryConsoleConsole.say.Goals as goal

pub returns-then-is_refused-clause-kept : goal.returns-then-is_refused-clause-kept
returns-then-is_refused-clause-kept c =
    let cause = rw c.deref.ensures.value at c.if-is_refused.ensures.cause in
    record {
      write = refused_write _ _ _ _ _ _ c.saturating_add-self.ensures cause;
      answered = tt;
      failed = (c.saturating_add-self-then-is_refused.ensures, refl);
    }
