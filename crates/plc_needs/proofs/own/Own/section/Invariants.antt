use Rattle.std.proofs.Common.{take}
use Rattle.std.specs.List.{list_any}
use Rattle.plc_names.specs.Needs.{decl_has}
use Rattle.plc_needs.specs.Own.{Joins}
use Rattle.plc_needs.proofs.own.Own.section.Given as goal

abbrev pub invariant-loop-decl : goal.invariant-loop-decl
invariant-loop-decl l = Joins l.initial.self (λ name. list_any (decl_has name) (take l.decl-index l.section.decls)) l.self
