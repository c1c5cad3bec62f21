-- The commands, step by step.
use Rattle.std.proofs.Common.{◌≡◌, ℕ, List, [], ◌∷◌, ◌++◌, refl, ap, sym, subst, inl, inr, Option, Some, None, take, IfSome}
use Rattle.std.specs.Option.{IsSomeAnd, option_map}
use Rattle.std.specs.FinMap as map
use Rattle.plc_outside.specs.Outside.{Map}
use Rattle.plc_outside.specs.Calls.{Call, Fetches, Says, World, Finished, Complains}
use Rattle.plc_outside.proofs.CallsLemmas.{Finished-append, Finished-nothing}
use Rattle.plc_outside.proofs.ComplaintLemmas.{AllComplained-nothing}
use Rattle.plc_base.specs.declared.refusal.Refusal.{Refusal}
use Rattle.c_tree.specs.declared.text.CText.{CText}
use Rattle.plc_top.specs.declared.status.Status.{Status}
use Rattle.plc_top.specs.declared.status.Status.TheVariants as status
use Rattle.plc_top.specs.Run.{Plan, plan, after_calls, Ends, GoesOn, AreFetches, Stopped, Runs}
use Rattle.plc_top.specs.Decision.{IsCompiled, IsRefused}
use Rattle.plc_top.specs.Lines.{no_memory_line, usage_line, refusal_line}
use Rattle.plc_top.specs.Words.{form}
use Rattle.plc_top.specs.Plans.{IsPlan, IsPlanOfForm, IsFetchedPlan, IsCompilePlan, HasSource, Performs, puts_of, lines_of, most}
use Rattle.plc_top.proofs.RunLemmas.{Stopped-after, ran_out}

pub Complains-nothing : (a : World) → Complains [] a a
Complains-nothing a = record { files = refl; console = inl (AllComplained-nothing a.console) }

-- what was fetched before a plan
pub Runs-after : (xs : List Call) (p : Plan) (s : Status) (a b c : World) → AreFetches xs → Finished xs a b → Runs p s b c → Runs (after_calls xs p) s a c
Runs-after xs p s a b c only f h = elim h [
  | inl r ↦ inl (record { line = r.line; ending = r.ending; mid = r.mid; finished = Finished-append xs p.calls a b r.mid f r.finished; told = r.told })
  | inr r ↦ inr (Stopped-after xs p.calls s a b c only f r)
]

-- memory was refused with nothing planned
pub fetched_ran_out : (name source : List ℕ) (s : Status) (a b : World) → s ≡ status.NoMemory → Complains no_memory_line a b → Performs (IsFetchedPlan name source) s a b
fetched_ran_out name source s a b is told =
    let P : Status → Type 0 = λ s. Performs (IsFetchedPlan name source) s a b in
    subst P (sym is) (plan [] GoesOn, inl refl, inr (ran_out [] a a b (Finished-nothing a) told))

pub fetched_refused : (name source : List ℕ) (why : Refusal) (a b : World) → IsRefused source why → Complains (refusal_line name why) a b → Performs (IsFetchedPlan name source) status.Refused a b
fetched_refused name source why a b is told = (
  plan [] (Ends status.Refused (refusal_line name why)),
  inr (inl (record { why = why; refused = is; is = refl })),
  inl (record { line = refusal_line name why; ending = refl; mid = a; finished = Finished-nothing a; told = told }),
)

pub fetched_written : (name source : List ℕ) (texts : List CText) (a b : World) → IsCompiled source texts
    → Finished (puts_of texts ++ Says (lines_of texts) ∷ []) a b → Performs (IsFetchedPlan name source) status.Done a b
fetched_written name source texts a b compiled f = (
  plan (puts_of texts ++ Says (lines_of texts) ∷ []) (Ends status.Done []),
  inr (inr (record { texts = texts; compiled = compiled; is = refl })),
  inl (record { line = []; ending = refl; mid = b; finished = f; told = Complains-nothing b }),
)

pub fetched_stopped : (name source : List ℕ) (texts : List CText) (s : Status) (a b : World) → IsCompiled source texts
    → Stopped (puts_of texts ++ Says (lines_of texts) ∷ []) s a b → Performs (IsFetchedPlan name source) s a b
fetched_stopped name source texts s a b compiled h = (
  plan (puts_of texts ++ Says (lines_of texts) ∷ []) (Ends status.Done []),
  inr (inr (record { texts = texts; compiled = compiled; is = refl })),
  inr h,
)

pub fetch_stopped : (name : List ℕ) (known : Option Map) (s : Status) (a b : World) → Stopped (Fetches name ∷ []) s a b → Performs (IsCompilePlan name known) s a b
fetch_stopped name known s a b h = (plan (Fetches name ∷ []) GoesOn, inl refl, inr h)

found_in : (file : Option (List ℕ)) (text : List ℕ) → IsSomeAnd file (λ file. text ≡ take most file) → option_map (take most) file ≡ Some text
found_in None text h = absurd h
found_in (Some file) text h = ap Some (sym h)

-- memory was refused before the fetch
pub compile_ran_out : (name : List ℕ) (known : Option Map) (s : Status) (a b : World) → s ≡ status.NoMemory → Complains no_memory_line a b → Performs (IsCompilePlan name known) s a b
compile_ran_out name known s a b is told =
    let p : Plan = plan (Fetches name ∷ []) GoesOn in
    let Q : Status → Type 0 = λ s. Runs p s a b in
    (p, inl refl, subst Q (sym is) (inr (ran_out (Fetches name ∷ []) a a b (Finished-nothing a) told)))

-- a source that was found
pub found : (known : Option Map) (name text : List ℕ) → IfSome known (λ files. IsSomeAnd (map.get files name) (λ file. text ≡ take most file)) → HasSource known name text
found None name text h = tt
found (Some files) name text h = found_in (map.get files name) text h

pub source_compiled : (name source : List ℕ) (known : Option Map) (s : Status) (a b c : World) → HasSource known name source
    → Finished (Fetches name ∷ []) a b → Performs (IsFetchedPlan name source) s b c → Performs (IsCompilePlan name known) s a c
source_compiled name source known s a b c has f h = (
  after_calls (Fetches name ∷ []) h.0,
  inr (record { source = source; found = has; next = h.0; planned = h.1; is = refl }),
  Runs-after (Fetches name ∷ []) h.0 s a b c tt f h.2,
)

pub usage_performed : (words : List (List ℕ)) (known : Option Map) (a b : World) → None ≡ form words → Complains usage_line a b → Performs (IsPlan words known) status.Usage a b
usage_performed words known a b is told =
    let p : Plan = plan [] (Ends status.Usage usage_line) in
    let P : Option (List ℕ) → Type 0 = λ o. IsPlanOfForm o known p in
    (p, subst P is refl, inl (record { line = usage_line; ending = refl; mid = a; finished = Finished-nothing a; told = told }))

pub file_performed : (words : List (List ℕ)) (name : List ℕ) (known : Option Map) (s : Status) (a b : World) → Some name ≡ form words
    → Performs (IsCompilePlan name known) s a b → Performs (IsPlan words known) s a b
file_performed words name known s a b is h =
    let P : Option (List ℕ) → Type 0 = λ o. Performs (IsPlanOfForm o known) s a b in
    subst P is h
