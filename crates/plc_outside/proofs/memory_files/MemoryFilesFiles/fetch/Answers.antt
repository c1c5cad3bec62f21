use Rattle.std.proofs.Common.{inl, Some, refl, sym, ap, ◌≤◌, length, take, [], List, ℕ, unwrap_or, slice_range, ◌∙◌, arith}
use Rattle.std.proofs.lemmas.List.{append-nil, length-take}
use Rattle.plc_outside.proofs.FetchLemmas.{fetch_ran_out}
use Rattle.plc_outside.proofs.KeptLemmas.{refused_fetch}
use Rattle.plc_outside.proofs.memory_files.MemoryFilesFiles.fetch.Goals as goal

pub returns-in-Err-clause-means : goal.returns-in-Err-clause-means
returns-in-Err-clause-means c =
    fetch_ran_out _ _ _ _ [] _ _ refl refl refl refl refl refl (c.in-Err.ensures.err ∙ sym (append-nil _)) (omega arith) (0, refl)

pub returns-in-Err-remember-clause-means : goal.returns-in-Err-remember-clause-means
returns-in-Err-remember-clause-means c =
    let content = rw (c.deref-2.ensures.value, c.bytes-2.ensures) at c.in-Some.ensures.content in
    let copied = rw c.deref-3.ensures.value at c.in-Ok.ensures.ok in
    let file : List ℕ = slice_range c.args.self.now.bytes.items c.in-Some.span.middle c.in-Some.span.end in
    let short : length (take c.args.most file) ≤ c.args.most = omega (arith, length-take c.args.most file) in
    fetch_ran_out _ _ _ _ (take c.args.most file) _ _ refl refl refl refl refl (ap Some c.in-Err-remember.ensures.err) copied.0 short
    (c.args.most, ap (λ o. take c.args.most (unwrap_or o [])) content)

pub returns-then-contains-clause-kept : goal.returns-then-contains-clause-kept
returns-then-contains-clause-kept c =
    let hit = sym c.contains.ensures.value ∙ c.if-contains.true in
    let listed = rw c.deref.ensures.value at hit in
    refused_fetch _ _ _ _ _ _ _ _ _ c.saturating_add-self.ensures (inl listed) (λ e. (c.refuse.ensures.failed e).1)
