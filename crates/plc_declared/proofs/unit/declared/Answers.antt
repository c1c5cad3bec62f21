use Rattle.std.proofs.Common.{◌≡◌, ap, ◌∙◌, [], ◌++◌, false, true, length}
use Rattle.std.specs.List.{flat_map}
use Rattle.plc_names.specs.Declarations.{library_entries, source_entries, declared_from, made_of}
use Rattle.plc_declared.specs.declared.row.Declared.{Declared}
use Rattle.plc_declared.specs.Row.{added}
use Rattle.plc_declared.proofs.Adding.{made_added, names_added}
use Rattle.plc_declared.proofs.unit.declared.Goals as goal

pub returns-clause-names : goal.returns-clause-names
returns-clause-names c =
    let library = library_entries c.args.library.now in
    let source = source_entries c.args.library.now c.args.unit.now in
    let row = c.library.new.self in
    let blank : Declared = record { names = []; made = [] } in
    let is : row ≡ added false blank library = c.in_ok-library.ensures ∙ (λ i. added false (record { names = c.new.ensures i; made = c.new-2.ensures i }) library) in
    ap (λ r. r.names) c.in_ok-source.ensures ∙ names_added true row source
    ∙ (λ i. (is i).names ++ declared_from true (length (is i).made) source)
    ∙ (λ i. names_added false blank library i ++ declared_from true (length (made_added false blank library i)) source)

pub returns-clause-made : goal.returns-clause-made
returns-clause-made c =
    let library = library_entries c.args.library.now in
    let source = source_entries c.args.library.now c.args.unit.now in
    let row = c.library.new.self in
    let blank : Declared = record { names = []; made = [] } in
    let is : row ≡ added false blank library = c.in_ok-library.ensures ∙ (λ i. added false (record { names = c.new.ensures i; made = c.new-2.ensures i }) library) in
    ap (λ r. r.made) c.in_ok-source.ensures ∙ made_added true row source
    ∙ (λ i. (is i).made ++ flat_map made_of source)
    ∙ (λ i. made_added false blank library i ++ flat_map made_of source)
