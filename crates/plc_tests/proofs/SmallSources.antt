-- The tokens of a source that is not too large.
use Rattle.std.proofs.Common.{rules, ◌≡◌, ◌∙◌, sym, ap, ℕ, ◌≤◌, List, length, false, nat_lt, if◌then◌else◌}
use Rattle.plc_base.specs.declared.refusal.Rule.TheVariants.{L6}
use Rattle.plc_tokens.specs.declared.token.Token.{Token}
use Rattle.plc_lex.specs.Tokens.{lexed, bad_only}
use Rattle.plc_top.specs.Decision.{IsLexed}

pub small : (source : List ℕ) (tokens : List Token) → length source ≤ 4194304 → tokens ≡ lexed source 0 false → IsLexed tokens
small source tokens fits is =
    let no : nat_lt 4194304 (length source) ≡ false = search rules in
    record { source = source; is = is ∙ ap (λ large. if large then bad_only 0 L6 else lexed source 0 false) (sym no) }
