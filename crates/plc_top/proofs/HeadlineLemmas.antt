-- From the plan to the clauses of the headline.
use Rattle.std.proofs.Common.{◌≡◌, ◌⊎◌, ℕ, zero, suc, ◌≤◌, List, [], ◌∷◌, ◌++◌, refl, ap, sym, ◌∙◌, subst, inl, inr, Option, Some, None, take, IfSome, arith, append_assoc, append-nil}
use Rattle.std.specs.Option.{option_map}
use Rattle.plc_outside.specs.Outside.{Map, Rose, also, ConsoleSeen}
use Rattle.plc_outside.specs.Calls.{Call, Fetches, Puts, Says, World, Counts, Finished, Fails, Complains, Complained, changed, said_in}
use Rattle.plc_outside.proofs.CallsLemmas.{changed-append, Counts-append, also-nothing}
use Rattle.plc_base.specs.declared.refusal.Refusal.{Refusal}
use Rattle.c_tree.specs.declared.text.CText.{CText}
use Rattle.plc_top.specs.declared.status.Status.{Status}
use Rattle.plc_top.specs.declared.status.Status.TheVariants.{Done, Refused, Usage, ReadFault, WriteFault, NoMemory}
use Rattle.plc_top.specs.Run.{Plan, after_calls, Ends, GoesOn, Stopped, fault_status, fault_line}
use Rattle.plc_top.specs.Plans.{HasSource, source_of, IsPlan, IsPlanOfForm, IsCompilePlan, Performs, puts_of, lines_of}
use Rattle.plc_top.specs.Decision.{IsAccepted, IsCompiled, IsRefused}
use Rattle.plc_top.specs.Lines.{usage_line, refusal_line}
use Rattle.plc_top.specs.Words.{form}
use Rattle.plc_top.proofs.DecisionLaws.{compiled_accepted, accepted_not_refused, one_refusal}
use Rattle.plc_top.specs.Headline.{IsQuiet, IsComplained, Decides, Tells, Writes, LeavesRefused, LeavesWritten, IsComplete, IsCutShort, Account, EndsByFault, EndsByWant}

-- a compile that came to its end refused its source
pub record EndsRefused (name : List ℕ) (known : Option Map) (p : Plan) (status : Status) (line : List ℕ) : Type 0 where
  pub source : List ℕ
  pub found : HasSource known name source
  pub why : Refusal
  pub refused : IsRefused source why
  pub calls : p.calls ≡ Fetches name ∷ []
  pub is : status ≡ Refused
  pub line_is : line ≡ refusal_line name why

-- or wrote its files
pub record EndsWritten (name : List ℕ) (known : Option Map) (p : Plan) (status : Status) (line : List ℕ) : Type 0 where
  pub source : List ℕ
  pub found : HasSource known name source
  pub texts : List CText
  pub compiled : IsCompiled source texts
  pub calls : p.calls ≡ Fetches name ∷ (puts_of texts ++ Says (lines_of texts) ∷ [])
  pub is : status ≡ Done
  pub line_is : line ≡ []

no_end : (status : Status) (line : List ℕ) → GoesOn ≡ Ends status line → ⊥
no_end status line e = cc

-- how the plan of a compile ends
pub completed : (name : List ℕ) (known : Option Map) (p : Plan) (status : Status) (line : List ℕ) → IsCompilePlan name known p → p.ending ≡ Ends status line
    → EndsRefused name known p status line ⊎ EndsWritten name known p status line
completed name known p status line (inl is) ends = absurd (no_end status line (sym (ap (λ q. q.ending) is) ∙ ends))
completed name known p status line (inr h) ends = elim h.planned [
  | inl is ↦ absurd (no_end status line (sym (ap (λ q. q.ending) (h.is ∙ ap (after_calls (Fetches name ∷ [])) is)) ∙ ends))
  | inr (inl r) ↦
      let e : Ends Refused (refusal_line name r.why) ≡ Ends status line = sym (ap (λ q. q.ending) (h.is ∙ ap (after_calls (Fetches name ∷ [])) r.is)) ∙ ends in
      inl (record {
        source = h.source;
        found = h.found;
        why = r.why;
        refused = r.refused;
        calls = ap (λ q. q.calls) (h.is ∙ ap (after_calls (Fetches name ∷ [])) r.is);
        is = cc;
        line_is = cc;
      })
  | inr (inr w) ↦
      let e : Ends Done [] ≡ Ends status line = sym (ap (λ q. q.ending) (h.is ∙ ap (after_calls (Fetches name ∷ [])) w.is)) ∙ ends in
      inr (record {
        source = h.source;
        found = h.found;
        texts = w.texts;
        compiled = w.compiled;
        calls = ap (λ q. q.calls) (h.is ∙ ap (after_calls (Fetches name ∷ [])) w.is);
        is = cc;
        line_is = cc;
      })
]

take_nothing : (n : ℕ) → take {A = ℕ} n [] ≡ []
take_nothing zero = refl
take_nothing (suc n) = refl

fault_is_cut : (call : Call) → IsCutShort (fault_status call)
fault_is_cut (Fetches name) = tt
fault_is_cut (Puts name bytes) = tt
fault_is_cut (Says bytes) = tt

-- what stopped early has a status that says so
stopped_is_cut : (calls : List Call) (status : Status) (a b : World) → Stopped calls status a b → IsCutShort status
stopped_is_cut calls status a b (inl r) = let P : Status → Type 0 = IsCutShort in subst P (sym r.is) tt
stopped_is_cut calls status a b (inr r) = let P : Status → Type 0 = IsCutShort in subst P (sym r.is) (fault_is_cut r.last)

pub not_stopped : (s : Status) (calls : List Call) (status : Status) (a b : World) → (IsCutShort s → ⊥) → status ≡ s → Stopped calls status a b → ⊥
not_stopped s calls status a b whole is h = let P : Status → Type 0 = IsCutShort in whole (subst P is (stopped_is_cut calls status a b h))

say_same : (line : List ℕ) (c d : ConsoleSeen) → Complained line c d → d.say_faults ≡ c.say_faults
say_same line c d (inl h) = h.say_faults
say_same line c d (inr h) = h.say_faults

-- with no rise, what stopped early ran out of memory
quiet_ran_out : (calls : List Call) (status : Status) (a b : World) → IsQuiet a b → Stopped calls status a b → status ≡ NoMemory
quiet_ran_out calls status a b q (inl r) = r.is
quiet_ran_out calls status a b q (inr r) = absurd (raised r.last r.mid r.after r.done r.finished r.failed r.told)
  where
    raised : (last : Call) (mid after : World) (done : List Call) → Finished done a mid → Fails last mid after → Complains (fault_line last) after b → ⊥
    raised (Fetches name) mid after done f h t =
        let e : b.files.fetch_faults ≡ after.files.fetch_faults = ap (λ w. w.fetch_faults) t.files in
        let l : a.files.fetch_faults ≤ mid.files.fetch_faults = f.counts.fetch_later in
        q.fetches (omega (arith, h.rose))
    raised (Puts name bytes) mid after done f h t =
        let e : b.files.put_faults ≡ after.files.put_faults = ap (λ w. w.put_faults) t.files in
        let l : a.files.put_faults ≤ mid.files.put_faults = f.counts.put_later in
        q.puts (omega (arith, h.rose))
    raised (Says bytes) mid after done f h t =
        let e : b.console.say_faults ≡ after.console.say_faults = say_same _ after.console b.console t.console in
        let l : a.console.say_faults ≤ mid.console.say_faults = f.counts.say_later in
        q.says (omega (arith, h.rose))

same_source : (known : Option Map) (files : Map) (name source text : List ℕ) → known ≡ Some files → HasSource known name text → source_of files name ≡ Some source → source ≡ text
same_source known files name source text is has found =
    let P : Option Map → Type 0 = λ o. HasSource o name text in
    let found_here : source_of files name ≡ Some text = subst P is has in
    let e : Some source ≡ Some text = sym found ∙ found_here in cc

-- what holds of the source in the files holds of the one that was found
at_found : (P : List ℕ → Type 0) (known : Option Map) (files : Map) (name source text : List ℕ) → known ≡ Some files → HasSource known name text
    → source_of files name ≡ Some source → P source → P text
at_found P known files name source text is has found h = subst P (same_source known files name source text is has found) h

pub decides : (name : List ℕ) (status : Status) (a b : World) → Performs (IsCompilePlan name a.files.files) status a b → Decides name status a b
decides name status a b (p, planned, inl r) = elim (completed name a.files.files p status r.line planned r.ending) [
  | inl e ↦ record {
    done = λ is. absurd (let x : Refused ≡ Done = sym e.is ∙ is in cc);
    refused = λ is. record { source = e.source; found = e.found; why = e.why; refused = e.refused };
    exactly_done = λ files source q is found accepted.
        absurd (accepted_not_refused e.source e.why (at_found IsAccepted a.files.files files name source e.source is e.found found accepted) e.refused);
    exactly_refused = λ files source why q is found refused. inl e.is;
  }
  | inr e ↦ record {
    done = λ is. record { source = e.source; found = e.found; accepted = compiled_accepted e.source e.texts e.compiled };
    refused = λ is. absurd (let x : Done ≡ Refused = sym e.is ∙ is in cc);
    exactly_done = λ files source q is found accepted. inl e.is;
    exactly_refused = λ files source why q is found refused.
        let P : List ℕ → Type 0 = λ text. IsRefused text why in
        absurd (accepted_not_refused e.source why (compiled_accepted e.source e.texts e.compiled) (at_found P a.files.files files name source e.source is e.found found refused));
  }
]
decides name status a b (p, planned, inr h) = record {
  done = λ is. absurd (not_stopped Done p.calls status a b (λ x. x) is h);
  refused = λ is. absurd (not_stopped Refused p.calls status a b (λ x. x) is h);
  exactly_done = λ files source q is found accepted. inr (quiet_ran_out p.calls status a b q h);
  exactly_refused = λ files source why q is found refused. inr (quiet_ran_out p.calls status a b q h);
}

-- the outside after calls and then a complaint

pub complaint_after : (line : List ℕ) (a mid b : World) → a.console.complain_faults ≤ mid.console.complain_faults → mid.console.complained ≡ a.console.complained
    → Complained line mid.console b.console → IsComplained line a b
complaint_after line a mid b later same (inl h) = inl (h.complained ∙ ap (also line) same)
complaint_after line a mid b later same (inr h) = inr (omega (arith, h.rose), (h.count, h.complained ∙ ap (also (take h.count line)) same))

pub said_same : (line : List ℕ) (c d : ConsoleSeen) → Complained line c d → d.said ≡ c.said
said_same line c d (inl h) = h.said
said_same line c d (inr h) = h.said

say_handed_same : (line : List ℕ) (c d : ConsoleSeen) → Complained line c d → d.handed ≡ c.handed
say_handed_same line c d (inl h) = h.handed
say_handed_same line c d (inr h) = h.handed

complain_later : (line : List ℕ) (c d : ConsoleSeen) → Complained line c d → c.complain_faults ≤ d.complain_faults
complain_later line c d (inl h) = h.later
complain_later line c d (inr h) = h.later

same_files : (o : Option Map) → option_map (changed (Fetches [] ∷ [])) o ≡ o
same_files None = refl
same_files (Some files) = refl

pub same_changed : (name : List ℕ) (calls : List Call) (o : Option Map) → option_map (changed (Fetches name ∷ calls)) o ≡ option_map (changed calls) o
same_changed name calls None = refl
same_changed name calls (Some files) = refl

-- counts are not touched by a complaint
Counts-told : (calls : List Call) (line : List ℕ) (a mid b : World) → Counts calls a mid → Complains line mid b → Counts calls a b
Counts-told calls line a mid b h t =
    let f : b.files ≡ mid.files = t.files in
    let s : b.console.say_faults ≡ mid.console.say_faults = say_same line mid.console b.console t.console in
    let l : mid.console.complain_faults ≤ b.console.complain_faults = complain_later line mid.console b.console t.console in
    let e : b.files.fetch_faults ≡ mid.files.fetch_faults = ap (λ w. w.fetch_faults) t.files in
    let d : b.files.put_faults ≡ mid.files.put_faults = ap (λ w. w.put_faults) t.files in
    record {
      fetch_later = omega (arith, h.fetch_later);
      put_later = omega (arith, h.put_later);
      say_later = omega (arith, h.say_later);
      complain_later = omega (arith, h.complain_later);
      asked = ap (λ w. w.asked) t.files ∙ h.asked;
      puts = ap (λ w. w.puts) t.files ∙ h.puts;
      handed = ap (λ w. w.handed) t.files ∙ h.handed;
      say_handed = say_handed_same line mid.console b.console t.console ∙ h.say_handed;
    }

-- a compile that refused tells why
tells_refused : (name : List ℕ) (known : Option Map) (p : Plan) (status : Status) (line : List ℕ) (a mid b : World) → (e : EndsRefused name known p status line)
    → Finished p.calls a mid → Complains line mid b → Tells (refusal_line name e.why) a b
tells_refused name known p status line a mid b e finished told =
    let P : List Call → Type 0 = λ calls. Finished calls a mid in
    let Q : List ℕ → Type 0 = λ line. Complains line mid b in
    let f : Finished (Fetches name ∷ []) a mid = subst P e.calls finished in
    let t : Complains (refusal_line name e.why) mid b = subst Q e.line_is told in
    record {
      files = ap (λ w. w.files) t.files ∙ f.files ∙ same_changed name [] a.files.files ∙ same_files a.files.files;
      said = said_same _ mid.console b.console t.console ∙ f.said ∙ also-nothing a.console.said;
      complained = complaint_after _ a mid b f.counts.complain_later f.complained t.console;
    }

pub leaves_refused : (name : List ℕ) (status : Status) (a b : World) → Performs (IsCompilePlan name a.files.files) status a b → status ≡ Refused → LeavesRefused name a b
leaves_refused name status a b (p, planned, inl r) is = elim (completed name a.files.files p status r.line planned r.ending) [
  | inl e ↦ record {
    source = e.source;
    found = e.found;
    why = e.why;
    refused = e.refused;
    tells = tells_refused name a.files.files p status r.line a r.mid b e r.finished r.told;
  }
  | inr e ↦ absurd (let x : Done ≡ Refused = sym e.is ∙ is in cc)
]
leaves_refused name status a b (p, planned, inr h) is = absurd (not_stopped Refused p.calls status a b (λ x. x) is h)

puts_say_nothing : (texts : List CText) (lines : List ℕ) → said_in (puts_of texts ++ Says lines ∷ []) ≡ lines
puts_say_nothing [] lines = append-nil lines
puts_say_nothing (text ∷ texts) lines = puts_say_nothing texts lines

saying_changes_nothing : (calls : List Call) (lines : List ℕ) (o : Option Map) → option_map (changed (calls ++ Says lines ∷ [])) o ≡ option_map (changed calls) o
saying_changes_nothing calls lines None = refl
saying_changes_nothing calls lines (Some files) = ap Some (changed-append calls (Says lines ∷ []) files)

no_complaint : (c d : ConsoleSeen) → Complained [] c d → d.complained ≡ c.complained
no_complaint c d (inl h) = h.complained ∙ also-nothing c.complained
no_complaint c d (inr h) = h.complained ∙ ap (λ xs. also xs c.complained) (take_nothing h.count) ∙ also-nothing c.complained

-- a compile that wrote put all and said all
writes_all : (name : List ℕ) (known : Option Map) (p : Plan) (status : Status) (line : List ℕ) (a mid b : World) → (e : EndsWritten name known p status line)
    → Finished p.calls a mid → Complains line mid b → Writes e.source a b
writes_all name known p status line a mid b e finished told =
    let calls : List Call = puts_of e.texts ++ Says (lines_of e.texts) ∷ [] in
    let P : List Call → Type 0 = λ calls. Finished calls a mid in
    let Q : List ℕ → Type 0 = λ line. Complains line mid b in
    let f : Finished (Fetches name ∷ calls) a mid = subst P e.calls finished in
    let t : Complains [] mid b = subst Q e.line_is told in
    record {
      texts = e.texts;
      compiled = e.compiled;
      files = ap (λ w. w.files) t.files ∙ f.files ∙ same_changed name calls a.files.files ∙ saying_changes_nothing (puts_of e.texts) (lines_of e.texts) a.files.files;
      said = said_same _ mid.console b.console t.console ∙ f.said ∙ ap (λ xs. also xs a.console.said) (puts_say_nothing e.texts (lines_of e.texts));
      complained = no_complaint mid.console b.console t.console ∙ f.complained;
    }

pub leaves_written : (name : List ℕ) (status : Status) (a b : World) → Performs (IsCompilePlan name a.files.files) status a b → status ≡ Done → LeavesWritten name a b
leaves_written name status a b (p, planned, inl r) is = elim (completed name a.files.files p status r.line planned r.ending) [
  | inl e ↦ absurd (let x : Refused ≡ Done = sym e.is ∙ is in cc)
  | inr e ↦ record { source = e.source; found = e.found; writes = writes_all name a.files.files p status r.line a r.mid b e r.finished r.told }
]
leaves_written name status a b (p, planned, inr h) is = absurd (not_stopped Done p.calls status a b (λ x. x) is h)

-- with no rise, all that is due is done
pub completes : (name : List ℕ) (status : Status) (a b : World) → Performs (IsCompilePlan name a.files.files) status a b → IsComplete name status a b
completes name status a b (p, planned, inl r) = elim (completed name a.files.files p status r.line planned r.ending) [
  | inl e ↦ record {
    accepted = λ files source q is found accepted.
        absurd (accepted_not_refused e.source e.why (at_found IsAccepted a.files.files files name source e.source is e.found found accepted) e.refused);
    refused = λ files source why q is found refused.
        let P : List ℕ → Type 0 = λ text. IsRefused text why in
        let Q : Refusal → Type 0 = λ why. Tells (refusal_line name why) a b in
        let same : e.why ≡ why = one_refusal e.source e.why why e.refused (at_found P a.files.files files name source e.source is e.found found refused) in
        inl (e.is, subst Q same (tells_refused name a.files.files p status r.line a r.mid b e r.finished r.told));
  }
  | inr e ↦ record {
    accepted = λ files source q is found accepted.
        let P : List ℕ → Type 0 = λ text. Writes text a b in
        let same : source ≡ e.source = same_source a.files.files files name source e.source is e.found found in
        inl (e.is, subst P (sym same) (writes_all name a.files.files p status r.line a r.mid b e r.finished r.told));
    refused = λ files source why q is found refused.
        let P : List ℕ → Type 0 = λ text. IsRefused text why in
        absurd (accepted_not_refused e.source why (compiled_accepted e.source e.texts e.compiled) (at_found P a.files.files files name source e.source is e.found found refused));
  }
]
completes name status a b (p, planned, inr h) = record {
  accepted = λ files source q is found accepted. inr (quiet_ran_out p.calls status a b q h);
  refused = λ files source why q is found refused. inr (quiet_ran_out p.calls status a b q h);
}

nothing_left : (calls : List Call) → calls ≡ calls ++ []
nothing_left calls = sym (append-nil calls)

pub accounted : (words : List (List ℕ)) (status : Status) (a b : World) → Performs (IsPlan words a.files.files) status a b → Account words status a b
accounted words status a b (p, planned, inl r) = record {
  p = p;
  planned = planned;
  made = p.calls;
  rest = [];
  split = nothing_left p.calls;
  whole = inr (r.line, r.ending, refl);
  counts = Counts-told p.calls r.line a r.mid b r.finished.counts r.told;
}
accounted words status a b (p, planned, inr (inl r)) = record {
  p = p;
  planned = planned;
  made = r.done;
  rest = r.rest;
  split = r.split;
  whole = inl (stopped_is_cut p.calls status a b (inl r));
  counts = Counts-told r.done _ a r.mid b r.finished.counts r.told;
}
accounted words status a b (p, planned, inr (inr r)) = record {
  p = p;
  planned = planned;
  made = r.done ++ r.last ∷ [];
  rest = r.rest;
  split = r.split ∙ sym (append_assoc r.done (r.last ∷ []) r.rest);
  whole = inl (stopped_is_cut p.calls status a b (inr r));
  counts = Counts-told (r.done ++ r.last ∷ []) _ a r.after b (Counts-append r.done (r.last ∷ []) a r.mid r.after r.finished.counts r.failed.counts) r.told;
}

-- no plan ends by a fault
plan_is_whole : (o : Option (List ℕ)) (known : Option Map) (p : Plan) (status : Status) (line : List ℕ) → IsPlanOfForm o known p → p.ending ≡ Ends status line → IsCutShort status → ⊥
plan_is_whole None known p status line is ends cut =
    let e : Ends Usage usage_line ≡ Ends status line = sym (ap (λ q. q.ending) is) ∙ ends in
    let P : Status → Type 0 = IsCutShort in
    let same : Usage ≡ status = cc in subst P (sym same) cut
plan_is_whole (Some name) known p status line is ends cut = elim (completed name known p status line is ends) [
  | inl e ↦ let P : Status → Type 0 = IsCutShort in subst P e.is cut
  | inr e ↦ let P : Status → Type 0 = IsCutShort in subst P e.is cut
]

pub no_fault : (call : Call) → NoMemory ≡ fault_status call → ⊥
no_fault (Fetches name) e = cc
no_fault (Puts name bytes) e = cc
no_fault (Says bytes) e = cc

-- a fault is the end of a plan
pub ends_by_fault : (words : List (List ℕ)) (status : Status) (call : Call) (a b : World) → Performs (IsPlan words a.files.files) status a b
    → status ≡ fault_status call → EndsByFault words status a b
ends_by_fault words status call a b (p, planned, inl r) is =
    let P : Status → Type 0 = IsCutShort in
    absurd (plan_is_whole (form words) a.files.files p status r.line planned r.ending (subst P (sym is) (fault_is_cut call)))
ends_by_fault words status call a b (p, planned, inr (inl r)) is = absurd (no_fault call (sym r.is ∙ is))
ends_by_fault words status call a b (p, planned, inr (inr r)) is = record { p = p; planned = planned; broke = r }

read_rose : (last : Call) (a mid after b : World) (done : List Call) → ReadFault ≡ fault_status last → Finished done a mid → Fails last mid after → Complains (fault_line last) after b
    → Rose a.files.fetch_faults b.files.fetch_faults
read_rose (Fetches name) a mid after b done is f h t =
    let e : b.files.fetch_faults ≡ after.files.fetch_faults = ap (λ w. w.fetch_faults) t.files in
    let l : a.files.fetch_faults ≤ mid.files.fetch_faults = f.counts.fetch_later in
    omega (arith, h.rose)
read_rose (Puts name bytes) a mid after b done is f h t = absurd (let x : ReadFault ≡ WriteFault = is in cc)
read_rose (Says bytes) a mid after b done is f h t = absurd (let x : ReadFault ≡ WriteFault = is in cc)

write_rose : (last : Call) (a mid after b : World) (done : List Call) → WriteFault ≡ fault_status last → Finished done a mid → Fails last mid after → Complains (fault_line last) after b
    → Rose a.files.put_faults b.files.put_faults ⊎ Rose a.console.say_faults b.console.say_faults
write_rose (Fetches name) a mid after b done is f h t = absurd (let x : WriteFault ≡ ReadFault = is in cc)
write_rose (Puts name bytes) a mid after b done is f h t =
    let e : b.files.put_faults ≡ after.files.put_faults = ap (λ w. w.put_faults) t.files in
    let l : a.files.put_faults ≤ mid.files.put_faults = f.counts.put_later in
    inl (omega (arith, h.rose))
write_rose (Says bytes) a mid after b done is f h t =
    let e : b.console.say_faults ≡ after.console.say_faults = say_same _ after.console b.console t.console in
    let l : a.console.say_faults ≤ mid.console.say_faults = f.counts.say_later in
    inr (omega (arith, h.rose))

pub read_fault : (words : List (List ℕ)) (status : Status) (a b : World) → Performs (IsPlan words a.files.files) status a b → status ≡ ReadFault → Rose a.files.fetch_faults b.files.fetch_faults
read_fault words status a b h is =
    let r = ends_by_fault words status (Fetches []) a b h is in
    read_rose r.broke.last a r.broke.mid r.broke.after b r.broke.done (sym is ∙ r.broke.is) r.broke.finished r.broke.failed r.broke.told

pub write_fault : (words : List (List ℕ)) (status : Status) (a b : World) → Performs (IsPlan words a.files.files) status a b → status ≡ WriteFault
    → Rose a.files.put_faults b.files.put_faults ⊎ Rose a.console.say_faults b.console.say_faults
write_fault words status a b h is =
    let r = ends_by_fault words status (Says []) a b h is in
    write_rose r.broke.last a r.broke.mid r.broke.after b r.broke.done (sym is ∙ r.broke.is) r.broke.finished r.broke.failed r.broke.told

-- Usage has no file to compile
usage_of_form : (o : Option (List ℕ)) (known : Option Map) (p : Plan) (line : List ℕ) → IsPlanOfForm o known p → p.ending ≡ Ends Usage line → o ≡ None
usage_of_form None known p line is ends = refl
usage_of_form (Some name) known p line is ends = elim (completed name known p Usage line is ends) [
  | inl e ↦ absurd (let x : Usage ≡ Refused = e.is in cc)
  | inr e ↦ absurd (let x : Usage ≡ Done = e.is in cc)
]

pub usage_form : (words : List (List ℕ)) (status : Status) (a b : World) → Performs (IsPlan words a.files.files) status a b → status ≡ Usage → form words ≡ None
usage_form words status a b (p, planned, inl r) is = usage_of_form (form words) a.files.files p r.line planned (r.ending ∙ ap (λ s. Ends s r.line) is)
usage_form words status a b (p, planned, inr h) is = absurd (not_stopped Usage p.calls status a b (λ x. x) is h)

pub same_in_all : (o : Option Map) → option_map (changed []) o ≡ o
same_in_all None = refl
same_in_all (Some files) = refl

usage_told : (o : Option (List ℕ)) (p : Plan) (status : Status) (line : List ℕ) (a mid b : World) → IsPlanOfForm o a.files.files p → p.ending ≡ Ends status line → status ≡ Usage
    → Finished p.calls a mid → Complains line mid b → Tells usage_line a b
usage_told None p status line a mid b is ends usage finished told =
    let P : List Call → Type 0 = λ calls. Finished calls a mid in
    let Q : List ℕ → Type 0 = λ line. Complains line mid b in
    let e : Ends Usage usage_line ≡ Ends status line = sym (ap (λ q. q.ending) is) ∙ ends in
    let same : line ≡ usage_line = cc in
    let f : Finished [] a mid = subst P (ap (λ q. q.calls) is) finished in
    let t : Complains usage_line mid b = subst Q same told in
    record {
      files = ap (λ w. w.files) t.files ∙ f.files ∙ same_in_all a.files.files;
      said = said_same _ mid.console b.console t.console ∙ f.said ∙ also-nothing a.console.said;
      complained = complaint_after _ a mid b f.counts.complain_later f.complained t.console;
    }
usage_told (Some name) p status line a mid b is ends usage finished told = elim (completed name a.files.files p status line is ends) [
  | inl e ↦ absurd (let x : Refused ≡ Usage = sym e.is ∙ usage in cc)
  | inr e ↦ absurd (let x : Done ≡ Usage = sym e.is ∙ usage in cc)
]

-- words of no form are told so, and nothing else is done
pub tells_usage : (words : List (List ℕ)) (status : Status) (a b : World) → Performs (IsPlan words a.files.files) status a b → status ≡ Usage → Tells usage_line a b
tells_usage words status a b (p, planned, inl r) is = usage_told (form words) p status r.line a r.mid b planned r.ending is r.finished r.told
tells_usage words status a b (p, planned, inr h) is = absurd (not_stopped Usage p.calls status a b (λ x. x) is h)

-- want of memory is the end of a plan
pub ends_by_want : (words : List (List ℕ)) (status : Status) (a b : World) → Performs (IsPlan words a.files.files) status a b → status ≡ NoMemory → EndsByWant words status a b
ends_by_want words status a b (p, planned, inl r) is =
    let P : Status → Type 0 = IsCutShort in
    absurd (plan_is_whole (form words) a.files.files p status r.line planned r.ending (subst P (sym is) tt))
ends_by_want words status a b (p, planned, inr (inl r)) is = record { p = p; planned = planned; ran = r }
ends_by_want words status a b (p, planned, inr (inr r)) is = absurd (no_fault r.last (sym is ∙ r.is))

-- of words of the compile form, the plan is that of a compile
pub of_form : (P : List ℕ → Type 0) (words : List (List ℕ)) (known : Option Map) (status : Status) (a b : World)
    → ((name : List ℕ) → Performs (IsCompilePlan name known) status a b → P name) → Performs (IsPlan words known) status a b → IfSome (form words) P
of_form P words known status a b each h = at_form (form words) h
  where
    at_form : (o : Option (List ℕ)) → Performs (IsPlanOfForm o known) status a b → IfSome o P
    at_form None g = tt
    at_form (Some name) g = each name g
