use Rattle.std.proofs.Common.{◌∙◌, ap, Some}
use Rattle.std.specs.Prelude.{cond}
use Rattle.std.specs.Map.{lookup}
use Rattle.std.specs.Str.{bytes_eq}
use Rattle.plc_typing.specs.Scope.{types_of}
use Rattle.plc_typing.proofs.Joining.{pointwise_is, joined_one}
use Rattle.plc_typing.proofs.scope.Scope.add.Goals as goal

pub returns : goal.returns
returns c name =
    c.in_ok-insert.ensures.updates.0 name
    ∙ (λ i. cond (pointwise_is c.in_ok-word.word name i) (Some c.args.elem) (lookup (λ k. pointwise_is name k i) c.self.inside.types.entries))
    ∙ ap (λ es. cond (bytes_eq c.in_ok-word.word name) (Some c.args.elem) (types_of es name)) c.self.view_is
    ∙ ap (λ w. cond (bytes_eq w name) (Some c.args.elem) (types_of c.args.self.now name)) c.in_ok-word.ensures
    ∙ joined_one (bytes_eq c.args.name.now name) c.args.elem (types_of c.args.self.now name)
