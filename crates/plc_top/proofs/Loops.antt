-- What the loops of the steps keep.
use Rattle.std.proofs.Common.{◌≡◌, ℕ, suc, ◌+◌, ◌<◌, List, [], ◌∷◌, ◌++◌, length, drop, get_or, refl, ap, sym, ◌∙◌, subst, append_assoc, add-one}
use Rattle.std.proofs.Math.Seq.{drop-cons}
use Rattle.plc_outside.specs.Calls.{Call, Puts, World, Finished, Fails, Complains}
use Rattle.plc_outside.proofs.CallsLemmas.{Finished-append, Finished-nothing}
use Rattle.c_tree.specs.declared.text.CText.{CText}
use Rattle.plc_top.specs.Run.{Broke, fault_status, fault_line}
use Rattle.plc_top.specs.Plans.{puts_of}
use Rattle.plc_top.proofs.RunLemmas.{broke, Broke-after}

-- of all calls, all but the rest were made
pub record MadeSoFar (all rest : List Call) (start now : World) : Type 0 where
  pub done : List Call
  pub split : all ≡ done ++ rest
  pub finished : Finished done start now

-- an element is the first of those that are left
pub rest_of : {A : Type 0} (xs : List A) (i : ℕ) (x : A) → i < length xs → x ≡ get_or xs i x → drop i xs ≡ x ∷ drop (i + 1) xs
rest_of xs i x h e = drop-cons xs i x h ∙ ap (λ y. y ∷ drop (suc i) xs) (sym e) ∙ ap (λ n. x ∷ drop n xs) (sym (add-one i))

pub none_made : (all : List Call) (a : World) → MadeSoFar all all a a
none_made all a = record { done = []; split = refl; finished = Finished-nothing a }

pub one_made : (all rest : List Call) (call : Call) (a b c : World) → MadeSoFar all (call ∷ rest) a b → Finished (call ∷ []) b c → MadeSoFar all rest a c
one_made all rest call a b c h f = record {
  done = h.done ++ call ∷ [];
  split = h.split ∙ sym (append_assoc h.done (call ∷ []) rest);
  finished = Finished-append h.done (call ∷ []) a b c h.finished f;
}

pub one_failed : (all rest : List Call) (call : Call) (a b c d : World) → MadeSoFar all (call ∷ rest) a b → Fails call b c → Complains (fault_line call) c d → Broke all (fault_status call) a d
one_failed all rest call a b c d h f t =
    let P : List Call → Type 0 = λ calls. Broke calls (fault_status call) a d in
    subst P (sym h.split) (Broke-after h.done (call ∷ rest) (fault_status call) a b d h.finished (broke call rest b c d f t))

-- the next text to put
pub next_put : (all : List Call) (texts : List CText) (i : ℕ) (text : CText) (a b : World) → i < length texts → text ≡ get_or texts i text
    → MadeSoFar all (puts_of (drop i texts)) a b → MadeSoFar all (Puts text.name text.bytes ∷ puts_of (drop (i + 1) texts)) a b
next_put all texts i text a b lt is h =
    let P : List CText → Type 0 = λ xs. MadeSoFar all (puts_of xs) a b in
    subst P (rest_of texts i text lt is) h
