-- Steps one after the other.
use Rattle.std.proofs.Common.{◌≡◌, List, [], ◌∷◌, ◌++◌, refl, ap, sym, ◌∙◌, append_assoc, inl, inr, Result, Ok, Err, subst}
use Rattle.plc_outside.specs.Calls.{Call, Fetches, Puts, Says, World, Finished, Fails, Complains}
use Rattle.plc_outside.proofs.CallsLemmas.{Finished-append, Finished-nothing}
use Rattle.plc_top.specs.declared.status.Status.{Status}
use Rattle.plc_top.specs.declared.status.Status.TheVariants.{NoMemory}
use Rattle.plc_top.specs.Lines.{no_memory_line}
use Rattle.plc_top.specs.Run.{AreFetches, Broke, Stopped, Goes, Makes, fault_status, fault_line}

-- a call failed with more calls to come
pub Broke-more : (xs ys : List Call) (s : Status) (a b : World) → Broke xs s a b → Broke (xs ++ ys) s a b
Broke-more xs ys s a b r = record {
  done = r.done;
  last = r.last;
  rest = r.rest ++ ys;
  split = ap (λ zs. zs ++ ys) r.split ∙ append_assoc r.done (r.last ∷ r.rest) ys;
  is = r.is;
  mid = r.mid;
  finished = r.finished;
  after = r.after;
  failed = r.failed;
  told = r.told;
}

-- a call failed after calls that went well
pub Broke-after : (xs ys : List Call) (s : Status) (a b c : World) → Finished xs a b → Broke ys s b c → Broke (xs ++ ys) s a c
Broke-after xs ys s a b c f r = record {
  done = xs ++ r.done;
  last = r.last;
  rest = r.rest;
  split = ap (λ zs. xs ++ zs) r.split ∙ sym (append_assoc xs r.done (r.last ∷ r.rest));
  is = r.is;
  mid = r.mid;
  finished = Finished-append xs r.done a b r.mid f r.finished;
  after = r.after;
  failed = r.failed;
  told = r.told;
}

fetches-append : (xs ys : List Call) → AreFetches xs → AreFetches ys → AreFetches (xs ++ ys)
fetches-append [] ys h k = k
fetches-append (Fetches name ∷ xs) ys h k = fetches-append xs ys h k
fetches-append (Puts name bytes ∷ xs) ys h k = absurd h
fetches-append (Says bytes ∷ xs) ys h k = absurd h

-- what stopped early after fetches that went well
pub Stopped-after : (xs ys : List Call) (s : Status) (a b c : World) → AreFetches xs → Finished xs a b → Stopped ys s b c → Stopped (xs ++ ys) s a c
Stopped-after xs ys s a b c only f h = elim h [
  | inl r ↦ inl (record {
    is = r.is;
    done = xs ++ r.done;
    rest = r.rest;
    split = ap (λ zs. xs ++ zs) r.split ∙ sym (append_assoc xs r.done r.rest);
    early = fetches-append xs r.done only r.early;
    mid = r.mid;
    finished = Finished-append xs r.done a b r.mid f r.finished;
    told = r.told;
  })
  | inr r ↦ inr (Broke-after xs ys s a b c f r)
]

-- a call failed, and its line was complained
pub broke : (last : Call) (rest : List Call) (a b c : World) → Fails last a b → Complains (fault_line last) b c → Broke (last ∷ rest) (fault_status last) a c
broke last rest a b c h told = record {
  done = [];
  last = last;
  rest = rest;
  split = refl;
  is = refl;
  mid = a;
  finished = Finished-nothing a;
  after = b;
  failed = h;
  told = told;
}

-- memory was refused
pub ran_out : (calls : List Call) (a b c : World) → Finished [] a b → Complains no_memory_line b c → Stopped calls NoMemory a c
ran_out calls a b c h told = inl (record {
  is = refl;
  done = [];
  rest = calls;
  split = refl;
  early = tt;
  mid = b;
  finished = h;
  told = told;
})

-- a step that takes no memory, after calls that went well
pub Makes-after : {T : Type 0} (xs ys : List Call) (r : Result T Status) (a b c : World) → Finished xs a b → Makes ys r b c → Goes (xs ++ ys) r a c
Makes-after xs ys (Ok x) a b c f h = Finished-append xs ys a b c f h
Makes-after xs ys (Err s) a b c f h = inr (Broke-after xs ys s a b c f h)

-- what `?` hands on of such a step
pub Makes-handed_on : {T : Type 0} (xs ys : List Call) (r : Result T Status) (s : Status) (a b : World) → r ≡ Err s → Broke xs s a b → Goes (xs ++ ys) r a b
Makes-handed_on {T} xs ys r s a b is h =
    let P : Result T Status → Type 0 = λ r. Goes (xs ++ ys) r a b in
    subst P (sym is) (inr (Broke-more xs ys s a b h))
