-- What a form in memory keeps after a call.
use Rattle.std.proofs.Common.{◌≡◌, ◌⊎◌, ℕ, ◌+◌, ◌<◌, true, nat_eq, List, None, IfSome, [], length, refl, ap, sym, ◌∙◌, subst, arith, Some, Err}
use Rattle.std.specs.List.{list_any}
use Rattle.std.specs.FinMap as map
use Rattle.plc_outside.specs.Outside.{FilesSeen, Map}
use Rattle.plc_outside.specs.Kept.{one_more, KeepsFetch, KeepsPut, KeepsWrite}
use Rattle.plc_outside.specs.declared.fault.FileFault.{FileFault}
use Rattle.plc_outside.specs.declared.fault.FileFault.TheVariants.{Failed}
use Rattle.plc_outside.proofs.SpanLemmas.{same_blank, empty_list}

-- a write that is refused
pub refused_write : {T E : Type 0} (bytes : List ℕ) (e : E) (left calls number : ℕ) (fail : List ℕ) → number ≡ one_more calls
    → (list_any (λ listed. nat_eq listed number) fail ≡ true) ⊎ (left < length bytes)
    → KeepsWrite {T = T} bytes (Err e) (record { left = left; calls = calls; fail = fail }) (record { left = left; calls = number; fail = fail })
refused_write {T} bytes e left calls number fail p h = subst
    (λ n. (list_any (λ listed. nat_eq listed n) fail ≡ true) ⊎ (left < length bytes)
    → KeepsWrite {T = T} bytes (Err e) (record { left = left; calls = calls; fail = fail }) (record { left = left; calls = n; fail = fail }))
    (sym p) (λ h. record { fits = tt; cause = h; taken = tt; left = refl }) h

-- nothing, bound to the empty name where nothing is bound to it
pub blank_seen : (s : FilesSeen) (files : Map) (name content : List ℕ) → s.files ≡ Some files → length name + length content ≡ 0 → map.get files [] ≡ Some []
    → s ≡ record s { files = Some (map.insert files name content) }
blank_seen s files name content p e g =
    let first : length name ≡ 0 = omega arith in
    let second : length content ≡ 0 = omega arith in
    let same : map.insert files name content ≡ files = ap (λ n. map.insert files n content) (empty_list name first) ∙ ap (map.insert files []) (empty_list content second) ∙ same_blank files g in
    ap (λ o. record s { files = o }) (p ∙ ap Some (sym same))

-- a fetch that is refused, unless it found no memory
pub refused_fetch : (name held : List ℕ) (e : FileFault) (f g : FilesSeen) (left calls number : ℕ) (fail : List ℕ) → number ≡ one_more calls
    → (list_any (λ listed. nat_eq listed number) fail ≡ true) ⊎ IfSome f.files (λ files. map.get files name ≡ None)
    → (e ≡ Failed → g.fetch_faults ≡ one_more f.fetch_faults)
    → KeepsFetch name (Err e) held held f g (record { left = left; calls = calls; fail = fail }) (record { left = left; calls = number; fail = fail })
refused_fetch name held e f g left calls number fail p h q = subst
    (λ n. (list_any (λ listed. nat_eq listed n) fail ≡ true) ⊎ IfSome f.files (λ files. map.get files name ≡ None)
    → KeepsFetch name (Err e) held held f g (record { left = left; calls = calls; fail = fail }) (record { left = left; calls = n; fail = fail }))
    (sym p) (λ h. record { after = refl; answered = tt; cause = λ x. h; failed = λ x. (refl, q cc) }) h

-- a put that is refused
pub refused_put : {T : Type 0} (name bytes : List ℕ) (e : FileFault) (f g : FilesSeen) (left calls number : ℕ) (fail : List ℕ) → number ≡ one_more calls
    → (list_any (λ listed. nat_eq listed number) fail ≡ true) ⊎ (left < length name + length bytes)
    → g.put_faults ≡ one_more f.put_faults → g.files ≡ f.files
    → KeepsPut {T = T} name bytes (Err e) f g (record { left = left; calls = calls; fail = fail }) (record { left = left; calls = number; fail = fail })
refused_put {T} name bytes e f g left calls number fail p h q r = subst
    (λ n. (list_any (λ listed. nat_eq listed n) fail ≡ true) ⊎ (left < length name + length bytes)
    → KeepsPut {T = T} name bytes (Err e) f g (record { left = left; calls = calls; fail = fail }) (record { left = left; calls = n; fail = fail }))
    (sym p) (λ h. record { fits = tt; cause = h; taken = tt; left = (refl, q, r) }) h
