-- A source without a broken use is one of each.
use Rattle.std.proofs.Common.{◌≡◌, refl, sym, ap, ◌∙◌, ℕ, List, [], ◌∷◌, Bool, true, false, Option, Some, None}
use Rattle.std.specs.Prelude.{◌&&◌, ◌||◌, nat_lt}
use Rattle.std.specs.Str.{bytes_eq}
use Rattle.std.proofs.lemmas.Bool.{and_parts}
use Rattle.std.proofs.lemmas.Slice.Eq.{bytes_eq-Decides}
use Rattle.plc_base.specs.declared.refusal.Place.{Place}
use Rattle.plc_base.specs.declared.refusal.Refusal.{Refusal}
use Rattle.plc_tree.specs.declared.tree.Id.{Id}
use Rattle.plc_tree.specs.declared.tree.Unit.{Unit as Source}
use Rattle.plc_tree.specs.declared.tree.TypeDef.{TypeDef}
use Rattle.plc_tree.specs.declared.tree.Pou.{Pou}
use Rattle.plc_tree.specs.declared.tree.Section.{Section}
use Rattle.plc_tree.specs.declared.tree.Config.{Config}
use Rattle.plc_tree.specs.declared.tree.Resource.{Resource}
use Rattle.plc_tree.specs.declared.tree.Task.{Task}
use Rattle.plc_tree.specs.declared.tree.Inst.{Inst}
use Rattle.plc_typing.specs.Sole.{Sole}
use Rattle.plc_typing.specs.Uses.{suits, unbuilt_faults, sole_faults, is_prog, pou_faults, task_faults, is_task, is_program, reference_faults, inst_faults, resource_faults, config_faults, names, names_faults, other_faults, faults}
use Rattle.plc_typing.proofs.Faults.{none_of_both, broken_there, holds}

-- ---- lists of none and of one

none_built : {X : Type 0} (at : X → Place) (xs : List X) → unbuilt_faults at xs ≡ [] → xs ≡ []
none_built at [] e = refl
none_built at (x ∷ xs) e = absurd (broken_there (at x) e)

-- a list of one element, of whose uses none is broken
record IsOne {X : Type 0} (faults : X → List Refusal) (xs : List X) : Type 0 where
  one : X
  is : xs ≡ one ∷ []
  unbroken : faults one ≡ []

is_one : {X : Type 0} (at : X → Place) (faults : X → List Refusal) (missing : Place) (xs : List X) → sole_faults at faults missing xs ≡ [] → IsOne faults xs
is_one at faults missing [] e = absurd (broken_there missing e)
is_one at faults missing (x ∷ []) e = record { one = x; is = refl; unbroken = e }
is_one at faults missing (x ∷ (y ∷ ys)) e = absurd (broken_there (at y) (none_of_both (faults x) (suits false (at y)) e).1)

-- ---- what an instance names

record IsReference (tasks : List Task) (name : Option Id) : Type 0 where
  with : Id
  is : name ≡ Some with
  known : is_task tasks with.name ≡ true

is_reference : (tasks : List Task) (at : Place) (name : Option Id) → reference_faults tasks at name ≡ [] → IsReference tasks name
is_reference tasks at None e = absurd (broken_there at e)
is_reference tasks at (Some n) e = record { with = n; is = refl; known = holds (is_task tasks n.name) n.at e }

one_of_one : (a : Bool) → (a || false) ≡ true → a ≡ true
one_of_one true e = refl
one_of_one false e = absurd (let x : false ≡ true = e in cc)

same_name : (a b : List ℕ) → bytes_eq a b ≡ true → a ≡ b
same_name a b e = (bytes_eq-Decides a b).0 e

of_task : (task : Task) (name : List ℕ) → is_task (task ∷ []) name ≡ true → name ≡ task.name
of_task task name e = same_name name task.name (one_of_one (bytes_eq name task.name) e)

of_program : (pou : Pou) (before : Place) (name : List ℕ) → is_program (pou ∷ []) before name ≡ true → (name ≡ pou.name) × (nat_lt pou.at.token before.token ≡ true)
of_program pou before name e =
    let both = and_parts (bytes_eq name pou.name) (nat_lt pou.at.token before.token) (one_of_one (bytes_eq name pou.name && nat_lt pou.at.token before.token) e) in
    (same_name name pou.name both.0, both.1)

-- ---- the source

pub sole : (end : Place) (u : Source) → faults end u ≡ [] → Sole u
sole end u e =
    let others = (none_of_both (names_faults [] (names u)) (other_faults end u) e).1 in
    let types = none_of_both (unbuilt_faults (λ (t : TypeDef). t.at) u.types) _ others in
    let both = none_of_both (sole_faults (λ (p : Pou). p.at) pou_faults end u.pous) (sole_faults (λ (c : Config). c.at) (config_faults u.pous) end u.configs) types.1 in
    let p = is_one (λ (p : Pou). p.at) pou_faults end u.pous both.0 in
    let c = is_one (λ (c : Config). c.at) (config_faults u.pous) end u.configs both.1 in
    let of_config = none_of_both (unbuilt_faults (λ (s : Section). s.at) c.one.globals) _ c.unbroken in
    let r = is_one (λ (r : Resource). r.at) (resource_faults u.pous c.one.at) c.one.at c.one.resources of_config.1 in
    let of_resource = none_of_both (unbuilt_faults (λ (s : Section). s.at) r.one.globals) _ r.unbroken in
    let inner = none_of_both (sole_faults (λ (t : Task). t.at) task_faults r.one.at r.one.tasks) (sole_faults (λ (i : Inst). i.at) (inst_faults u.pous c.one.at r.one.tasks) r.one.at r.one.insts) of_resource.1 in
    let t = is_one (λ (t : Task). t.at) task_faults r.one.at r.one.tasks inner.0 in
    let i = is_one (λ (i : Inst). i.at) (inst_faults u.pous c.one.at r.one.tasks) r.one.at r.one.insts inner.1 in
    let of_inst = none_of_both (reference_faults r.one.tasks i.one.at i.one.task) (suits (is_program u.pous c.one.at i.one.program.name) i.one.program.at) i.unbroken in
    let w = is_reference r.one.tasks i.one.at i.one.task of_inst.0 in
    let known = ap (λ ps. is_program ps c.one.at i.one.program.name) (sym p.is) ∙ holds (is_program u.pous c.one.at i.one.program.name) i.one.program.at of_inst.1 in
    let program = of_program p.one c.one.at i.one.program.name known in
    record {
      pou = p.one;
      config = c.one;
      resource = r.one;
      task = t.one;
      inst = i.one;
      with = w.with;
      is = λ k. record { types = none_built (λ (t : TypeDef). t.at) u.types types.0 k; pous = p.is k; configs = c.is k };
      program = holds (is_prog p.one.kind) p.one.at (none_of_both (suits (is_prog p.one.kind) p.one.at) _ p.unbroken).0;
      first = program.1;
      no_globals = none_built (λ (s : Section). s.at) c.one.globals of_config.0;
      resources = r.is;
      no_locals = none_built (λ (s : Section). s.at) r.one.globals of_resource.0;
      tasks = t.is;
      insts = i.is;
      reference = w.is;
      of_task = of_task t.one w.with.name (ap (λ ts. is_task ts w.with.name) (sym t.is) ∙ w.known);
      of_program = program.0;
    }
