-- What each pass hands to the next one.
use Rattle.std.proofs.Common.{◌≡◌, subst, ℕ, ◌<◌, ◌^◌, List, [], length, Result, Ok, Err, arith}
use Rattle.std.specs.Prelude.{Vec}
use Rattle.std.specs.Global.{Global}
use Rattle.plc_tokens.specs.declared.token.Token.{Token}
use Rattle.plc_base.specs.declared.refusal.Stop.{Stop}
use Rattle.plc_base.specs.declared.refusal.Stop.TheVariants.{Refused, OutOfMemory}
use Rattle.plc_tree.specs.declared.tree.Unit.{Unit as Source}
use Rattle.c_tree.specs.declared.text.CText.{CText}
use Rattle.decl_parse.specs.Parsed.{IsAccepted as IsSpelled}
use Rattle.decl_parse.proofs.Shapes.{shaped_accepted}
use Rattle.decl_parse.proofs.Counting.{variable_names, few_accepted}
use Rattle.plc_typing.specs.Uses.{faults}
use Rattle.plc_typing.specs.Typing.{typed, declared}
use Rattle.plc_top.specs.Decision.{end_of, IsTyped, Compiles, CompilesTokens, IsCompiled, IsRefused, source_tokens}
use Rattle.plc_top.specs.Words.{IsKnown}
use Rattle.plc_top.proofs.Accepted.{known, few_tokens}
use Rattle.plc_top.proofs.Shaped.{shaped_fit, few_names}

module _ (source : List ℕ) (unit : Source) (spelled : IsSpelled (source_tokens source) unit) (unbroken : faults (end_of (source_tokens source)) unit ≡ []) where
  abbrev fewer : length (variable_names unit) < length (source_tokens source)
  fewer = few_accepted (source_tokens source) unit spelled

  -- without a broken use, the declared names are numbered in 32 bits
  pub numbered : length (declared unit) < 2 ^ 32
  numbered = omega (arith, few_names (end_of (source_tokens source)) unit unbroken, fewer, few_tokens source)

  -- and the typed unit has texts
  pub fit : IsTyped (typed unit)
  fit = shaped_fit (end_of (source_tokens source)) unit (shaped_accepted IsKnown (source_tokens source) unit (known source) spelled) (omega (arith, fewer, few_tokens source)) unbroken

-- what the tokens of a source compile to is what the source compiles to
pub compiled : (source : List ℕ) (tokens : List Token) (result : Result (Vec CText Global) Stop) → tokens ≡ source_tokens source → CompilesTokens tokens result → Compiles source result
unfolding IsCompiled IsRefused
compiled source tokens (Ok texts) is h = subst (λ ts. CompilesTokens ts (Ok texts)) is h
compiled source tokens (Err (Refused why)) is h = subst (λ ts. CompilesTokens ts (Err (Refused why))) is h
compiled source tokens (Err OutOfMemory) is h = tt
