-- What a compile leaves whose plan was broken by a fault, or cut short by want of memory.
use Rattle.std.proofs.Common.{◌≡◌, ◌⊎◌, ℕ, List, [], ◌∷◌, ◌++◌, refl, ap, sym, ◌∙◌, subst, inl, inr, Option, Some, None, take, arith}
use Rattle.std.specs.Option.{option_map}
use Rattle.plc_outside.specs.Outside.{Map, also, IsPartly}
use Rattle.plc_outside.specs.Calls.{Call, Fetches, Puts, Says, World, Finished, Fails, Complains, changed, said_in}
use Rattle.plc_outside.proofs.CallsLemmas.{also-nothing}
use Rattle.c_tree.specs.declared.text.CText.{CText}
use Rattle.plc_top.specs.declared.status.Status.{Status}
use Rattle.plc_top.specs.declared.status.Status.TheVariants.{Done, Refused, ReadFault, WriteFault, NoMemory}
use Rattle.plc_top.specs.Decision.{IsCompiled}
use Rattle.plc_top.specs.Lines.{no_memory_line, read_line, write_line, console_line}
use Rattle.plc_top.specs.Run.{Plan, after_calls, AreFetches, RanOut, Broke, fault_status, fault_line}
use Rattle.plc_top.specs.Plans.{HasSource, IsPlan, IsCompilePlan, Performs, puts_of, lines_of}
use Rattle.plc_top.specs.Headline.{Tells, PutFailed, SayFailed, LeavesHalf}
use Rattle.plc_top.proofs.HeadlineLemmas.{completed, complaint_after, said_same, same_changed, same_in_all, no_fault, ends_by_want}

-- the calls of a compile that writes
record WritingCalls (name : List ℕ) (known : Option Map) (calls : List Call) : Type 0 where
  pub source : List ℕ
  pub found : HasSource known name source
  pub texts : List CText
  pub compiled : IsCompiled source texts
  pub is : calls ≡ Fetches name ∷ (puts_of texts ++ Says (lines_of texts) ∷ [])

-- a compile fetches, and writes or ends
calls_of : (name : List ℕ) (known : Option Map) (p : Plan) → IsCompilePlan name known p → (p.calls ≡ Fetches name ∷ []) ⊎ WritingCalls name known p.calls
calls_of name known p (inl is) = inl (ap (λ q. q.calls) is)
calls_of name known p (inr h) = elim h.planned [
  | inl is ↦ inl (ap (λ q. q.calls) (h.is ∙ ap (after_calls (Fetches name ∷ [])) is))
  | inr (inl r) ↦ inl (ap (λ q. q.calls) (h.is ∙ ap (after_calls (Fetches name ∷ [])) r.is))
  | inr (inr w) ↦ inr (record {
    source = h.source;
    found = h.found;
    texts = w.texts;
    compiled = w.compiled;
    is = ap (λ q. q.calls) (h.is ∙ ap (after_calls (Fetches name ∷ [])) w.is);
  })
]

-- calls that are cut at one are cut at the first or behind it
record CutLater (first : Call) (calls done : List Call) (last : Call) (rest : List Call) : Type 0 where
  pub more : List Call
  pub done_is : done ≡ first ∷ more
  pub split : calls ≡ more ++ last ∷ rest

cut : (first : Call) (calls done : List Call) (last : Call) (rest : List Call) → first ∷ calls ≡ done ++ last ∷ rest
    → ((done ≡ []) × (last ≡ first)) ⊎ CutLater first calls done last rest
cut first calls [] last rest e = inl (refl, cc)
cut first calls (call ∷ more) last rest e =
    let same : call ≡ first = cc in
    inr (record { more = more; done_is = ap (λ c. c ∷ more) same; split = cc })

no_cut : (done : List Call) (last : Call) (rest : List Call) → [] ≡ done ++ last ∷ rest → ⊥
no_cut [] last rest e = cc
no_cut (call ∷ done) last rest e = cc

-- puts and a say are cut at a put or at the say
record AtPut (texts : List CText) (done : List Call) (last : Call) : Type 0 where
  pub whole : List CText
  pub text : CText
  pub rest : List CText
  pub split : texts ≡ whole ++ text ∷ rest
  pub done_is : done ≡ puts_of whole
  pub last_is : last ≡ Puts text.name text.bytes

record AtSay (texts : List CText) (lines : List ℕ) (done : List Call) (last : Call) : Type 0 where
  pub done_is : done ≡ puts_of texts
  pub last_is : last ≡ Says lines

cut_puts : (texts : List CText) (lines : List ℕ) (done : List Call) (last : Call) (rest : List Call) → puts_of texts ++ Says lines ∷ [] ≡ done ++ last ∷ rest
    → AtPut texts done last ⊎ AtSay texts lines done last
cut_puts [] lines done last rest e = elim (cut (Says lines) [] done last rest e) [
  | inl h ↦ inr (record { done_is = h.0; last_is = h.1 })
  | inr h ↦ absurd (no_cut h.more last rest h.split)
]
cut_puts (text ∷ texts) lines done last rest e = elim (cut (Puts text.name text.bytes) (puts_of texts ++ Says lines ∷ []) done last rest e) [
  | inl h ↦ inl (record { whole = []; text = text; rest = texts; split = refl; done_is = h.0; last_is = h.1 })
  | inr h ↦ elim (cut_puts texts lines h.more last rest h.split) [
    | inl k ↦ inl (record {
      whole = text ∷ k.whole;
      text = k.text;
      rest = k.rest;
      split = ap (λ ts. text ∷ ts) k.split;
      done_is = h.done_is ∙ ap (λ cs. Puts text.name text.bytes ∷ cs) k.done_is;
      last_is = k.last_is;
    })
    | inr k ↦ inr (record { done_is = h.done_is ∙ ap (λ cs. Puts text.name text.bytes ∷ cs) k.done_is; last_is = k.last_is })
  ]
]

-- the outside after a fetch that failed first
tells_unread : (name : List ℕ) (last : Call) (done : List Call) (a mid after b : World) → done ≡ [] → last ≡ Fetches name
    → Finished done a mid → Fails last mid after → Complains (fault_line last) after b → Tells (read_line name) a b
tells_unread name last done a mid after b done_is last_is finished failed told =
    let P : List Call → Type 0 = λ calls. Finished calls a mid in
    let Q : Call → Type 0 = λ call. Fails call mid after in
    let R : Call → Type 0 = λ call. Complains (fault_line call) after b in
    let f : Finished [] a mid = subst P done_is finished in
    let g : Fails (Fetches name) mid after = subst Q last_is failed in
    let t : Complains (read_line name) after b = subst R last_is told in
    record {
      files = ap (λ w. w.files) t.files ∙ g.files ∙ f.files ∙ same_in_all a.files.files;
      said = said_same _ after.console b.console t.console ∙ g.said ∙ f.said ∙ also-nothing a.console.said;
      complained = complaint_after _ a after b (omega (arith, f.counts.complain_later, g.counts.complain_later)) (g.complained ∙ f.complained) t.console;
    }

puts_say_nothing : (texts : List CText) → said_in (puts_of texts) ≡ []
puts_say_nothing [] = refl
puts_say_nothing (text ∷ texts) = puts_say_nothing texts

-- after a put that failed
put_failed : (name : List ℕ) (texts whole rest : List CText) (text : CText) (last : Call) (done : List Call) (a mid after b : World) → texts ≡ whole ++ text ∷ rest
    → done ≡ Fetches name ∷ puts_of whole → last ≡ Puts text.name text.bytes
    → Finished done a mid → Fails last mid after → Complains (fault_line last) after b → PutFailed texts a b
put_failed name texts whole rest text last done a mid after b split done_is last_is finished failed told =
    let P : List Call → Type 0 = λ calls. Finished calls a mid in
    let Q : Call → Type 0 = λ call. Fails call mid after in
    let R : Call → Type 0 = λ call. Complains (fault_line call) after b in
    let f : Finished (Fetches name ∷ puts_of whole) a mid = subst P done_is finished in
    let g : Fails (Puts text.name text.bytes) mid after = subst Q last_is failed in
    let t : Complains (write_line text.name) after b = subst R last_is told in
    let held : mid.files.files ≡ option_map (changed (puts_of whole)) a.files.files = f.files ∙ same_changed name (puts_of whole) a.files.files in
    let S : Option Map → Type 0 = λ o. IsPartly text.name text.bytes o b.files.files in
    let U : Option Map → Type 0 = λ o. IsPartly text.name text.bytes mid.files.files o in
    record {
      whole = whole;
      text = text;
      rest = rest;
      split = split;
      files = subst S held (subst U (sym (ap (λ w. w.files) t.files)) g.files);
      said = said_same _ after.console b.console t.console ∙ g.said ∙ f.said ∙ ap (λ xs. also xs a.console.said) (puts_say_nothing whole) ∙ also-nothing a.console.said;
      complained = complaint_after _ a after b (omega (arith, f.counts.complain_later, g.counts.complain_later)) (g.complained ∙ f.complained) t.console;
    }

-- after the say failed
say_failed : (name : List ℕ) (texts : List CText) (last : Call) (done : List Call) (a mid after b : World) → done ≡ Fetches name ∷ puts_of texts → last ≡ Says (lines_of texts)
    → Finished done a mid → Fails last mid after → Complains (fault_line last) after b → SayFailed texts a b
say_failed name texts last done a mid after b done_is last_is finished failed told =
    let P : List Call → Type 0 = λ calls. Finished calls a mid in
    let Q : Call → Type 0 = λ call. Fails call mid after in
    let R : Call → Type 0 = λ call. Complains (fault_line call) after b in
    let f : Finished (Fetches name ∷ puts_of texts) a mid = subst P done_is finished in
    let g : Fails (Says (lines_of texts)) mid after = subst Q last_is failed in
    let t : Complains console_line after b = subst R last_is told in
    let quiet : mid.console.said ≡ a.console.said = f.said ∙ ap (λ xs. also xs a.console.said) (puts_say_nothing texts) ∙ also-nothing a.console.said in
    record {
      files = ap (λ w. w.files) t.files ∙ g.files ∙ f.files ∙ same_changed name (puts_of texts) a.files.files;
      count = g.said.0;
      said = said_same _ after.console b.console t.console ∙ g.said.1 ∙ ap (also (take g.said.0 (lines_of texts))) quiet;
      complained = complaint_after _ a after b (omega (arith, f.counts.complain_later, g.counts.complain_later)) (g.complained ∙ f.complained) t.console;
    }

-- a fault of a compile broke its plan
broken : (name : List ℕ) (status : Status) (call : Call) (a b : World) → Performs (IsCompilePlan name a.files.files) status a b → status ≡ fault_status call
    → (p : Plan) × IsCompilePlan name a.files.files p × Broke p.calls status a b
broken name status call a b (p, planned, inl r) is = elim (completed name a.files.files p status r.line planned r.ending) [
  | inl e ↦ absurd (no_refusal call (sym e.is ∙ is))
  | inr e ↦ absurd (no_end call (sym e.is ∙ is))
]
  where
    no_refusal : (call : Call) → Refused ≡ fault_status call → ⊥
    no_refusal (Fetches name) e = cc
    no_refusal (Puts name bytes) e = cc
    no_refusal (Says bytes) e = cc

    no_end : (call : Call) → Done ≡ fault_status call → ⊥
    no_end (Fetches name) e = cc
    no_end (Puts name bytes) e = cc
    no_end (Says bytes) e = cc
broken name status call a b (p, planned, inr (inl r)) is = absurd (no_fault call (sym r.is ∙ is))
broken name status call a b (p, planned, inr (inr r)) is = (p, planned, r)

no_reading : (status : Status) (last call : Call) → status ≡ fault_status last → last ≡ call → fault_status call ≡ WriteFault → status ≡ ReadFault → ⊥
no_reading status last call is last_is writes reads =
    let e : ReadFault ≡ WriteFault = sym reads ∙ is ∙ ap fault_status last_is ∙ writes in cc

-- a source that could not be read
pub leaves_unread : (name : List ℕ) (status : Status) (a b : World) → Performs (IsCompilePlan name a.files.files) status a b → status ≡ ReadFault → Tells (read_line name) a b
leaves_unread name status a b h reads = at_plan (broken name status (Fetches name) a b h reads)
  where
    behind : (calls : List Call) (r : Broke calls status a b) (tail : List Call) → calls ≡ Fetches name ∷ tail → (CutLater (Fetches name) tail r.done r.last r.rest → ⊥) → Tells (read_line name) a b
    behind calls r tail is none = elim (cut (Fetches name) tail r.done r.last r.rest (sym is ∙ r.split)) [
      | inl k ↦ tells_unread name r.last r.done a r.mid r.after b k.0 k.1 r.finished r.failed r.told
      | inr k ↦ absurd (none k)
    ]

    at_plan : (p : Plan) × IsCompilePlan name a.files.files p × Broke p.calls status a b → Tells (read_line name) a b
    at_plan (p, planned, r) = elim (calls_of name a.files.files p planned) [
      | inl is ↦ behind p.calls r [] is (λ k. no_cut k.more r.last r.rest k.split)
      | inr w ↦ behind p.calls r (puts_of w.texts ++ Says (lines_of w.texts) ∷ []) w.is (λ k. elim (cut_puts w.texts (lines_of w.texts) k.more r.last r.rest k.split) [
        | inl m ↦ no_reading status r.last (Puts m.text.name m.text.bytes) r.is m.last_is refl reads
        | inr m ↦ no_reading status r.last (Says (lines_of w.texts)) r.is m.last_is refl reads
      ])
    ]

no_writing : (status : Status) (last : Call) (name : List ℕ) → status ≡ fault_status last → last ≡ Fetches name → status ≡ WriteFault → ⊥
no_writing status last name is last_is writes =
    let e : WriteFault ≡ ReadFault = sym writes ∙ is ∙ ap fault_status last_is in cc

-- texts that could not all be written
pub leaves_half : (name : List ℕ) (status : Status) (a b : World) → Performs (IsCompilePlan name a.files.files) status a b → status ≡ WriteFault → LeavesHalf name a b
leaves_half name status a b h writes = at_plan (broken name status (Says []) a b h writes)
  where
    at_plan : (p : Plan) × IsCompilePlan name a.files.files p × Broke p.calls status a b → LeavesHalf name a b
    at_plan (p, planned, r) = elim (calls_of name a.files.files p planned) [
      | inl is ↦ elim (cut (Fetches name) [] r.done r.last r.rest (sym is ∙ r.split)) [
        | inl k ↦ absurd (no_writing status r.last name r.is k.1 writes)
        | inr k ↦ absurd (no_cut k.more r.last r.rest k.split)
      ]
      | inr w ↦ elim (cut (Fetches name) (puts_of w.texts ++ Says (lines_of w.texts) ∷ []) r.done r.last r.rest (sym w.is ∙ r.split)) [
        | inl k ↦ absurd (no_writing status r.last name r.is k.1 writes)
        | inr k ↦ record {
          source = w.source;
          found = w.found;
          texts = w.texts;
          compiled = w.compiled;
          failed = elim (cut_puts w.texts (lines_of w.texts) k.more r.last r.rest k.split) [
            | inl m ↦ inl (put_failed name w.texts m.whole m.rest m.text r.last r.done a r.mid r.after b m.split (k.done_is ∙ ap (λ cs. Fetches name ∷ cs) m.done_is) m.last_is r.finished r.failed r.told)
            | inr m ↦ inr (say_failed name w.texts r.last r.done a r.mid r.after b (k.done_is ∙ ap (λ cs. Fetches name ∷ cs) m.done_is) m.last_is r.finished r.failed r.told)
          ];
        }
      ]
    ]

-- ---- want of memory

fetches_change_nothing : (calls : List Call) → AreFetches calls → (files : Map) → changed calls files ≡ files
fetches_change_nothing [] h files = refl
fetches_change_nothing (Fetches name ∷ calls) h files = fetches_change_nothing calls h files
fetches_change_nothing (Puts name bytes ∷ calls) h files = absurd h
fetches_change_nothing (Says bytes ∷ calls) h files = absurd h

fetches_leave : (calls : List Call) → AreFetches calls → (known : Option Map) → option_map (changed calls) known ≡ known
fetches_leave calls h None = refl
fetches_leave calls h (Some files) = ap Some (fetches_change_nothing calls h files)

fetches_say_nothing : (calls : List Call) → AreFetches calls → said_in calls ≡ []
fetches_say_nothing [] h = refl
fetches_say_nothing (Fetches name ∷ calls) h = fetches_say_nothing calls h
fetches_say_nothing (Puts name bytes ∷ calls) h = absurd h
fetches_say_nothing (Says bytes ∷ calls) h = absurd h

-- no file changed and nothing was said
pub leaves_untouched : (words : List (List ℕ)) (status : Status) (a b : World) → Performs (IsPlan words a.files.files) status a b → status ≡ NoMemory → Tells no_memory_line a b
leaves_untouched words status a b h is = at_plan (ends_by_want words status a b h is).p.calls (ends_by_want words status a b h is).ran
  where
    at_plan : (calls : List Call) → RanOut calls status a b → Tells no_memory_line a b
    at_plan calls r = record {
      files = ap (λ w. w.files) r.told.files ∙ r.finished.files ∙ fetches_leave r.done r.early a.files.files;
      said =
          said_same _ r.mid.console b.console r.told.console ∙ r.finished.said
          ∙ ap (λ xs. also xs a.console.said) (fetches_say_nothing r.done r.early) ∙ also-nothing a.console.said;
      complained = complaint_after _ a r.mid b r.finished.counts.complain_later r.finished.complained r.told.console;
    }
