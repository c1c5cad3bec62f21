use Rattle.std.proofs.Common.{List, ℕ, map, string_bytes}
use Rattle.plc_outside.specs.Calls.{World, world}
use Rattle.plc_top.specs.Headline.{Decides, LeavesRefused, LeavesWritten, LeavesHalf, IsComplete, Tells}
use Rattle.plc_top.proofs.HeadlineLemmas.{decides, leaves_refused, leaves_written, completes, accounted, ends_by_fault, ends_by_want, tells_usage, read_fault, write_fault, usage_form, of_form}
use Rattle.plc_top.proofs.FaultLemmas.{leaves_unread, leaves_half, leaves_untouched}
use Rattle.plc_top.specs.Lines.{read_line}
use Rattle.plc_top.proofs.command.iec2c.Goals as goal

pub returns-clause-usage : goal.returns-clause-usage
returns-clause-usage g c = (usage_form (map string_bytes c.args.words.now) _ (world (g.F.Files.seen c.args.files.now) (g.O.Console.seen c.args.console.now)) _ c.obey.ensures.run, c.obey.ensures.usage)

pub returns-clause-decides : goal.returns-clause-decides
returns-clause-decides g c =
    let a : World = world (g.F.Files.seen c.args.files.now) (g.O.Console.seen c.args.console.now) in
    let b : World = world (g.F.Files.seen c.obey.new.files) (g.O.Console.seen c.obey.new.console) in
    let P : List ℕ → Type 0 = λ name. Decides name c.obey.result a b in
    of_form P (map string_bytes c.args.words.now) a.files.files c.obey.result a b (λ name h. decides name c.obey.result a b h) c.obey.ensures.run

pub returns-clause-refused : goal.returns-clause-refused
returns-clause-refused g c is =
    let a : World = world (g.F.Files.seen c.args.files.now) (g.O.Console.seen c.args.console.now) in
    let b : World = world (g.F.Files.seen c.obey.new.files) (g.O.Console.seen c.obey.new.console) in
    let P : List ℕ → Type 0 = λ name. LeavesRefused name a b in
    of_form P (map string_bytes c.args.words.now) a.files.files c.obey.result a b (λ name h. leaves_refused name c.obey.result a b h is) c.obey.ensures.run

pub returns-clause-written : goal.returns-clause-written
returns-clause-written g c is =
    let a : World = world (g.F.Files.seen c.args.files.now) (g.O.Console.seen c.args.console.now) in
    let b : World = world (g.F.Files.seen c.obey.new.files) (g.O.Console.seen c.obey.new.console) in
    let P : List ℕ → Type 0 = λ name. LeavesWritten name a b in
    of_form P (map string_bytes c.args.words.now) a.files.files c.obey.result a b (λ name h. leaves_written name c.obey.result a b h is) c.obey.ensures.run

pub returns-clause-read_fault : goal.returns-clause-read_fault
returns-clause-read_fault g c is = read_fault (map string_bytes c.args.words.now) _ (world (g.F.Files.seen c.args.files.now) (g.O.Console.seen c.args.console.now)) (world (g.F.Files.seen c.obey.new.files) (g.O.Console.seen c.obey.new.console)) c.obey.ensures.run is

pub returns-clause-write_fault : goal.returns-clause-write_fault
returns-clause-write_fault g c is = write_fault (map string_bytes c.args.words.now) _ (world (g.F.Files.seen c.args.files.now) (g.O.Console.seen c.args.console.now)) (world (g.F.Files.seen c.obey.new.files) (g.O.Console.seen c.obey.new.console)) c.obey.ensures.run is

pub returns-clause-fault : goal.returns-clause-fault
returns-clause-fault g c call is = ends_by_fault (map string_bytes c.args.words.now) _ call _ _ c.obey.ensures.run is

pub returns-clause-account : goal.returns-clause-account
returns-clause-account g c = accounted (map string_bytes c.args.words.now) _ _ _ c.obey.ensures.run

pub returns-clause-unread : goal.returns-clause-unread
returns-clause-unread g c is = tells_usage (map string_bytes c.args.words.now) _ (world (g.F.Files.seen c.args.files.now) (g.O.Console.seen c.args.console.now)) _ c.obey.ensures.run is

pub returns-clause-complete : goal.returns-clause-complete
returns-clause-complete g c =
    let a : World = world (g.F.Files.seen c.args.files.now) (g.O.Console.seen c.args.console.now) in
    let b : World = world (g.F.Files.seen c.obey.new.files) (g.O.Console.seen c.obey.new.console) in
    let P : List ℕ → Type 0 = λ name. IsComplete name c.obey.result a b in
    of_form P (map string_bytes c.args.words.now) a.files.files c.obey.result a b (λ name h. completes name c.obey.result a b h) c.obey.ensures.run

pub returns-clause-want : goal.returns-clause-want
returns-clause-want g c is = ends_by_want (map string_bytes c.args.words.now) _ _ _ c.obey.ensures.run is

pub returns-clause-untouched : goal.returns-clause-untouched
returns-clause-untouched g c is = leaves_untouched (map string_bytes c.args.words.now) _ (world (g.F.Files.seen c.args.files.now) (g.O.Console.seen c.args.console.now)) _ c.obey.ensures.run is

pub returns-clause-unreadable : goal.returns-clause-unreadable
returns-clause-unreadable g c is =
    let a : World = world (g.F.Files.seen c.args.files.now) (g.O.Console.seen c.args.console.now) in
    let b : World = world (g.F.Files.seen c.obey.new.files) (g.O.Console.seen c.obey.new.console) in
    let P : List ℕ → Type 0 = λ name. Tells (read_line name) a b in
    of_form P (map string_bytes c.args.words.now) a.files.files c.obey.result a b (λ name h. leaves_unread name c.obey.result a b h is) c.obey.ensures.run

pub returns-clause-half : goal.returns-clause-half
returns-clause-half g c is =
    let a : World = world (g.F.Files.seen c.args.files.now) (g.O.Console.seen c.args.console.now) in
    let b : World = world (g.F.Files.seen c.obey.new.files) (g.O.Console.seen c.obey.new.console) in
    let P : List ℕ → Type 0 = λ name. LeavesHalf name a b in
    of_form P (map string_bytes c.args.words.now) a.files.files c.obey.result a b (λ name h. leaves_half name c.obey.result a b h is) c.obey.ensures.run
