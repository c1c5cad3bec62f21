use Rattle.std.proofs.Common.{◌≡◌, ◌∙◌}
use Rattle.std.specs.Prelude.{◌||◌}
use Rattle.std.specs.Str.{bytes_eq}
use Rattle.plc_needs.specs.Own.{has}
use Rattle.plc_needs.proofs.Joining.{joins_key}
use Rattle.plc_needs.proofs.own.Own.add.Goals as goal

pub returns : goal.returns
returns c name =
    let key : c.in_ok-key.key.items ≡ c.args.name.now = c.in_ok-key.ensures.items ∙ c.bytes.ensures in
    joins_key c.self.inside.names.keys c.insert.new.self.keys c.in_ok-key.key c.in_ok-insert.ensures.keys name ∙ (λ i. has (c.self.view_is i) name || bytes_eq name (key i))
