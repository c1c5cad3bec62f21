use Rattle.std.proofs.Common.{◌∙◌, ap}
use Rattle.std.specs.Map.{lookup}
use Rattle.plc_typing.specs.Scope.{types_of}
use Rattle.plc_typing.proofs.Joining.{pointwise_is}
use Rattle.plc_typing.proofs.scope.Scope.elem_of.Goals as goal

pub returns : goal.returns
returns c =
    c.copied.ensures ∙ c.get.ensures.value ∙ (λ i. lookup (λ k. pointwise_is c.in_ok-word.word k i) c.self.inside.types.entries)
    ∙ ap (λ es. types_of es c.in_ok-word.word) c.self.view_is
    ∙ ap (types_of c.args.self.now) c.in_ok-word.ensures
