use Rattle.std.proofs.Common.{refl, map, string_bytes}
use Rattle.plc_top.proofs.Commands.{usage_performed, file_performed, compile_ran_out}
use Rattle.plc_top.proofs.command.obey.Goals as goal

pub returns-in-None-clause-run : goal.returns-in-None-clause-run
returns-in-None-clause-run g c =
    usage_performed (map string_bytes c.args.words.now) (g.F.Files.seen c.args.files.now).files _ _ c.in-None.ensures (record { files = refl; console = c.tell_usage.ensures })

pub returns-in-Err-clause-run : goal.returns-in-Err-clause-run
returns-in-Err-clause-run g c =
    file_performed (map string_bytes c.args.words.now) _ (g.F.Files.seen c.args.files.now).files _ _ _ c.in-Some.ensures
    (compile_ran_out _ _ _ _ _ c.run_out.ensures.is (record { files = refl; console = c.run_out.ensures.told }))
