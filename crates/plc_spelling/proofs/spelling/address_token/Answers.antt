use Rattle.std.proofs.Common.{◌∙◌, ap}
use Rattle.plc_spelling.proofs.FirstTokens.{found, address-token}
use Rattle.plc_spelling.proofs.spelling.address_token.Goals as goal

pub returns : goal.returns
returns c =
    ap (λ kind. found kind c.address_size-size.result) (c.in_ok-address_kind.ensures)
    ∙ address-token c.args.text.now c.address_size-size.result c.requires.some c.requires.first c.address_size-size.ensures
