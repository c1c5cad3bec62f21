-- Which sources are accepted, which are refused and why, and which texts have the meaning of a source.
use Rattle.std.specs.Prelude.{◌≡◌, ◌⊎◌, ℕ, ◌-◌, false, nat_lt, ◌<◌, ◌≤◌, ◌^◌, unsigned_abs, List, [], ◌∷◌, ◌++◌, map, length, codes, slice_get, Some, Result, Ok, Err, if◌then◌else◌}
use Rattle.std.specs.Option.{option_map_or}
use Rattle.std.specs.Prelude.{Vec}
use Rattle.std.specs.Global.{Global}
use Rattle.plc_base.specs.Trace.{Event}
use Rattle.plc_base.specs.declared.refusal.Place.{Place}
use Rattle.plc_base.specs.declared.refusal.Refusal.{Refusal}
use Rattle.plc_base.specs.declared.refusal.Rule.TheVariants.{L6}
use Rattle.plc_base.specs.declared.refusal.Stop.{Stop}
use Rattle.plc_base.specs.declared.refusal.Stop.TheVariants.{Refused, OutOfMemory}
use Rattle.plc_tokens.specs.declared.token.Token.{Token}
use Rattle.plc_tokens.specs.Tokens.{start}
use Rattle.plc_lex.specs.Tokens.{lexed, bad_only}
use Rattle.plc_tree.specs.declared.tree.Unit.{Unit as Source}
use Rattle.plc_tree.specs.declared.typed.TUnit.{TUnit}
use Rattle.plc_tree.specs.Files.{file_names}
use Rattle.plc_tree.specs.Run.{Fair, trace_src}
use Rattle.decl_parse.specs.Parsed.{IsAccepted as IsSpelled, IsRefused as IsUnspelled}
use Rattle.c_tree.specs.declared.text.CText.{CText}
use Rattle.c_tree.specs.declared.tree.CUnit.{CUnit}
use Rattle.c_tree.specs.declared.tree.CPart.{CPart}
use Rattle.c_tree.specs.Printing.{printed_unit}
use Rattle.c_tree.specs.Spelled.{SpellsUnit}
use Rattle.c_meaning.specs.Rules.{Good}
use Rattle.c_meaning.specs.Run.{trace_c}
use Rattle.emit_pou.specs.Emitted.{c_unit, part, debug_items}
use Rattle.emit_pou.specs.Single.{Single, unit_of}
use Rattle.emit_pou.specs.SourceNames.{HasSourceNames}
use Rattle.plc_tree.specs.Rows.{kept, rows}
use Rattle.plc_tree.specs.WellTyped.{IsTypedPou}
use Rattle.plc_typing.specs.Uses.{faults, broken}
use Rattle.plc_typing.specs.Typing.{typed}

-- ---- tokens

-- the tokens of a source: those of its text, or the rule L6 where the file is over 4 MiB
abbrev pub source_tokens : List ℕ → List Token
source_tokens source = if nat_lt 4194304 (length source) then bad_only 0 L6 else lexed source 0 false

-- the tokens of some source
pub record IsLexed (tokens : List Token) : Type 0 where
  pub source : List ℕ
  pub is : tokens ≡ source_tokens source

-- where a list of tokens ends: the place of its last one
abbrev pub end_of : List Token → Place
end_of tokens = option_map_or (λ (t : Token). t.place) (slice_get tokens (length tokens - 1)) (start 0)

-- ---- the decision

-- the tokens spell this source, and none of its uses is broken
pub record IsUnitOf (tokens : List Token) (tree : Source) : Type 0 where
  pub spelled : IsSpelled tokens tree
  pub unbroken : faults (end_of tokens) tree ≡ []

-- the tokens spell a source, and this is the least of its broken uses
pub record HasBrokenUse (tokens : List Token) (why : Refusal) : Type 0 where
  pub tree : Source
  pub spelled : IsSpelled tokens tree
  pub least : broken (end_of tokens) tree ≡ Some why

-- the first phase, then the least broken use
abbrev pub IsRefusedFor : List Token → Refusal → Type 0
IsRefusedFor tokens why = IsUnspelled tokens why ⊎ HasBrokenUse tokens why

-- ---- the typed unit

-- a typed unit that has texts: the one program, task and instance of a source, with the names of a source, a body
-- that is typed well and a number for each row
pub record IsTyped (unit : TUnit) : Type 0 where
  pub parts : Single
  pub is : unit ≡ unit_of parts
  pub interval : 0 < unsigned_abs parts.task.interval
  pub names : HasSourceNames parts
  pub typed : IsTypedPou parts.pou
  pub few : length (rows unit) ≤ 2 ^ 31

-- the typed unit of tokens
pub record IsTypedFrom (tokens : List Token) (unit : TUnit) : Type 0 where
  pub tree : Source
  pub is_unit : IsUnitOf tokens tree
  pub is : unit ≡ typed tree
  pub fit : IsTyped unit

abbrev pub TypesTokens : List Token → Result TUnit Stop → Type 0
TypesTokens tokens (Ok unit) = IsTypedFrom tokens unit
TypesTokens tokens (Err (Refused why)) = IsRefusedFor tokens why
TypesTokens tokens (Err OutOfMemory) = Unit {0}

-- ---- the texts

-- these texts are the print of the source's C, whose debug rows stand in the last of them; it is good, and with
-- any bound and any inputs, forces, releases and starts each of its scans shows what the source's scan shows
pub record Means (unit : TUnit) (texts : List CText) : Type 0 where
  pub c : CUnit
  pub is : c ≡ c_unit unit
  pub names : map (λ (t : CText). t.name) texts ≡ file_names unit
  pub printed : texts ≡ printed_unit c
  pub spells : SpellsUnit texts c
  pub good : Good c
  pub front : List CPart
  pub debugger : c.parts ≡ front ++ (part (codes "plc_debugger.c") (debug_items unit) ∷ [])
  pub traces : (bound : ℕ) (events : List Event) → Fair unit events → trace_c c (kept unit) bound events ≡ trace_src unit bound events

-- the texts of accepted tokens
pub record IsCompiledFrom (tokens : List Token) (texts : List CText) : Type 0 where
  pub tree : Source
  pub is_unit : IsUnitOf tokens tree
  pub means : Means (typed tree) texts

-- what a compile of tokens answers
abbrev pub CompilesTokens : List Token → Result (Vec CText Global) Stop → Type 0
CompilesTokens tokens (Ok texts) = IsCompiledFrom tokens texts.items
CompilesTokens tokens (Err (Refused why)) = IsRefusedFor tokens why
CompilesTokens tokens (Err OutOfMemory) = Unit {0}

-- ---- of a source

unfoldable pub IsAccepted : List ℕ → Type 0
IsAccepted source = (tree : Source) × IsUnitOf (source_tokens source) tree

unfoldable pub IsRefused : List ℕ → Refusal → Type 0
IsRefused source why = IsRefusedFor (source_tokens source) why

unfoldable pub IsCompiled : List ℕ → List CText → Type 0
IsCompiled source texts = IsCompiledFrom (source_tokens source) texts

-- what a compile of a source answers
abbrev pub Compiles : List ℕ → Result (Vec CText Global) Stop → Type 0
Compiles source (Ok texts) = IsCompiled source texts.items
Compiles source (Err (Refused why)) = IsRefused source why
Compiles source (Err OutOfMemory) = Unit {0}
