-- How a descent's outcome is answered: with the number of the next token, or as a refusal at it.
use Rattle.std.specs.Prelude.{◌≡◌, ℕ, ◌-◌, ◌<◌, ◌≤◌, List, length, Result, Ok, Err, Some}
use Rattle.plc_tokens.specs.declared.token.Token.{Token}
use Rattle.plc_base.specs.declared.refusal.Refusal.{Refusal}
use Rattle.plc_base.specs.declared.refusal.Stop.{Stop}
use Rattle.plc_base.specs.declared.refusal.Stop.TheVariants.{Refused, OutOfMemory}
use Rattle.phrase.specs.declared.Stop.{Stop as Failure}
use Rattle.phrase.specs.declared.Stop.TheVariants.{Memory, At}
use Rattle.phrase.specs.declared.Fault.{Fault}
use Rattle.plc_tokens.specs.Sorts.{first_of}
use Rattle.st_expr.specs.Parsed.{rule_of}

-- a token is left where the reading failed at one, and no more than all where it didn't
abbrev pub CanAnswer : {A : Type 0} → Result A Failure → ℕ → List Token → Type 0
CanAnswer (Ok a) whole rest = length rest ≤ whole
CanAnswer (Err Memory) whole rest = Unit {0}
CanAnswer (Err (At fault)) whole rest = 0 < length rest

-- the refusal at the next token
pub record IsFault (fault : Fault) (rest : List Token) (r : Refusal) : Type 0 where
  pub token : Token
  pub next : first_of rest ≡ Some token
  pub rule : r.rule ≡ rule_of fault token.kind
  pub place : r.place ≡ token.place

abbrev pub IsFailed : Failure → List Token → Stop → Type 0
IsFailed Memory rest stop = stop ≡ OutOfMemory
IsFailed (At fault) rest OutOfMemory = ⊥
IsFailed (At fault) rest (Refused r) = IsFault fault rest r

-- of the whole list, these tokens are left
abbrev pub Answered : {A : Type 0} → Result A Failure → ℕ → List Token → Result (A × ℕ) Stop → Type 0
Answered (Ok a) whole rest (Ok x) = (x.0 ≡ a) × (x.1 ≡ whole - length rest)
Answered (Ok a) whole rest (Err stop) = ⊥
Answered (Err failure) whole rest (Ok x) = ⊥
Answered (Err failure) whole rest (Err stop) = IsFailed failure rest stop

-- the same of a value with its height
abbrev pub AnsweredTree : {A : Type 0} → Result (A × ℕ) Failure → ℕ → List Token → Result (A × ℕ) Stop → Type 0
AnsweredTree (Ok a) whole rest (Ok x) = (x.0 ≡ a.0) × (x.1 ≡ whole - length rest)
AnsweredTree (Ok a) whole rest (Err stop) = ⊥
AnsweredTree (Err failure) whole rest (Ok x) = ⊥
AnsweredTree (Err failure) whole rest (Err stop) = IsFailed failure rest stop
