use Rattle.plc_typing.proofs.Declaring.{declares_as, declares_on, declares_all}
use Rattle.plc_typing.proofs.names.section.Goals as goal

pub loop-decl-preserved : goal.loop-decl-preserved
loop-decl-preserved c =
    let lt = rw c.as_slice-decl-items.ensures at c.loop-decl-test.true in
    let is = rw c.as_slice-decl-items.ensures at c.decl-item.is in
    let names = declares_as c.as_slice.result.now c.decl-item.result.names c.loop-decl.numbers c.ids.new.numbers c.loop-decl.met c.ids.new.met c.as_slice.ensures c.in_ok-ids.ensures in
    declares_on (λ d. d.names) c.args.section.now.decls c.loop-decl.decl-index c.decl-item.result c.args.numbers.now c.loop-decl.numbers c.ids.new.numbers c.args.met.now c.loop-decl.met c.ids.new.met lt is c.loop-decl.invariant names

pub returns : goal.returns
returns c =
    let le = rw c.as_slice-decl-items.ensures at c.loop-decl-test.false in
    declares_all (λ d. d.names) c.args.section.now.decls c.loop-decl.decl-index c.args.numbers.now c.loop-decl.numbers c.args.met.now c.loop-decl.met le c.loop-decl.invariant
