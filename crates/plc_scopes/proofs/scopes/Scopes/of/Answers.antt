use Rattle.std.proofs.Common.{ap, ◌∙◌, arith}
use Rattle.std.specs.List.{position_from}
use Rattle.plc_names.specs.Lookup.{number_in, is_global_named, members_in, owners_in}
use Rattle.plc_scopes.proofs.scopes.Scopes.of.Goals as goal

pub invariant_of-result : goal.invariant_of-result
invariant_of-result c = record {
  numbers = let a = c.has_numbers.ensures c.if-not-has_numbers.false in let b = c.len.ensures in omega arith;
  spaces_are = λ scope name. c.in_ok-spaces.ensures scope name ∙ ap (λ ds. number_in ds scope name) c.as_slice.ensures;
  globals_are = λ name. c.in_ok-globals.ensures name ∙ ap (λ ds. position_from (is_global_named name) 0 ds) c.as_slice-2.ensures;
  each_scope = c.in_ok-members.ensures.count;
  members_are = λ scope lt. c.in_ok-members.ensures.lists scope lt ∙ ap (λ ds. members_in ds scope) c.as_slice-3.ensures;
  owners_are = λ name. c.in_ok-owners.ensures name ∙ ap (λ ms. owners_in ms name) c.as_slice-4.ensures;
}
