-- The names of an emitted unit are names of C, and its row numbers are numbers of C.
use Rattle.std.proofs.Common.{refl, sym, subst, ℕ, ◌+◌, ◌^◌, ◌≤◌, List, [], ◌∷◌, ◌++◌, map, length, arith}
use Rattle.std.specs.Prelude.{codes}
use Rattle.plc_tree.specs.declared.typed.TVar.{TVar}
use Rattle.plc_tree.specs.declared.typed.TUnit.{TUnit}
use Rattle.plc_tree.specs.declared.typed.TResource.{TResource}
use Rattle.plc_tree.specs.declared.typed.TInst.{TInst}
use Rattle.plc_tree.specs.Rows.{var_row}
use Rattle.plc_tree.specs.WellTyped.{IsTypedPou}
use Rattle.c_tree.specs.CTokens.{IsName}
use Rattle.c_tree.specs.WellSpelled.{Every, WellSpelled, WellSpelledItems, WellSpelledParam, WellSpelledLocal, WellSpelledPath}
use Rattle.c_tree.proofs.Names.{IsName-append, are_word_bytes-name}
use Rattle.c_tree.proofs.WellSpelledViews.{WellSpelled-Struct, WellSpelled-Path, WellSpelled-Address}
use Rattle.emit_pou.specs.CNames.{tick_name}
use Rattle.emit_pou.specs.Expressions.{plain_path}
use Rattle.emit_pou.specs.Statements.{body_locals}
use Rattle.emit_pou.specs.Emitted.{c_unit, member, self, name_of, program_name, debug_rows_from}
use Rattle.emit_pou.specs.Single.{Single, unit_of}
use Rattle.emit_pou.specs.SourceNames.{HasSourceNames, IsSourceName}
use Rattle.emit_pou.proofs.Schedules.{inst_of, resource_of}
use Rattle.emit_pou.proofs.Program.{program_is}
use Rattle.emit_pou.proofs.GoodBodies.{spelled_stmts, spelled_inits}
use Rattle.emit_pou.proofs.GoodNames.{object, rows_are}

named_members : (vs : List TVar) → Every (λ (v : TVar). IsSourceName v.name) vs → WellSpelledItems (map member vs)
named_members [] h = tt
named_members (v ∷ vs) h = ((tt, h.0.word, tt), named_members vs h.1)

locals_named : Every WellSpelledLocal body_locals
locals_named = (
  record { name = refl; init = omega arith },
  (record { name = refl; init = omega arith }, (record { name = refl; init = omega arith }, (record { name = refl; init = omega arith }, tt))),
)

module _ (x : Single) (s : HasSourceNames x) where
  abbrev u : TUnit
  u = unit_of x

  abbrev r : TResource
  r = resource_of x

  abbrev i : TInst
  i = inst_of x

  object_named : IsName (object x)
  object_named = IsName-append (x.resource_name ++ codes "__") x.inst_name (IsName-append x.resource_name (codes "__") s.resource.word refl) (are_word_bytes-name x.inst_name s.inst.word)

  program_named : IsName (program_name u i)
  program_named = subst (λ p. IsName (name_of p)) (sym (program_is x)) s.pou.word

  object_path : WellSpelledPath (plain_path (object x))
  object_path = record { first = object_named; arrow = tt; parts = tt }

  tick_path : WellSpelledPath (plain_path tick_name)
  tick_path = record { first = refl; arrow = tt; parts = tt }

  self_named : Every WellSpelledParam (self x.pou.name ∷ [])
  self_named = ((s.pou.word, refl), tt)

  rows_named : (k : ℕ) (vs : List TVar) → Every (λ (v : TVar). IsSourceName v.name) vs → k + length vs ≤ 2 ^ 31 → WellSpelledItems (debug_rows_from k (map (var_row r i) vs))
  rows_named k [] h m = tt
  rows_named k (v ∷ vs) h m =
      ((omega (arith, m), record { first = object_named; arrow = tt; parts = (h.0.word, tt) }), rows_named (k + 1) vs h.1 (omega (arith, m)))

  pub well_spelled : IsTypedPou x.pou → length x.pou.vars ≤ 2 ^ 31 → WellSpelled (c_unit u)
  well_spelled t m = (
    (WellSpelled-Struct (map member x.pou.vars) x.pou.name (named_members x.pou.vars s.vars) s.pou.word, tt),
    (
      tt,
      (
        (
          (IsName-append x.pou.name (codes "_init__") s.pou.word refl, self_named, tt, spelled_inits x.pou.vars s.vars),
          ((IsName-append x.pou.name (codes "_body__") s.pou.word refl, self_named, locals_named, spelled_stmts x.pou.vars s.vars x.pou.body t.body), tt),
        ),
        (
          (
            (program_named, object_named, tt),
            (
              (IsName-append x.resource_name (codes "_start__") s.resource.word refl, tt, tt, ((IsName-append (program_name u i) (codes "_init__") program_named refl, (WellSpelled-Address (plain_path (object x)) object_path, tt)), tt)),
              ((IsName-append x.resource_name (codes "_run__") s.resource.word refl, (refl, tt), tt, ((IsName-append (program_name u i) (codes "_body__") program_named refl, (WellSpelled-Address (plain_path (object x)) object_path, tt)), tt)), tt),
            ),
          ),
          (
            (
              (refl, tt, tt, ((IsName-append x.resource_name (codes "_start__") s.resource.word refl, tt), tt)),
              ((refl, (refl, tt), tt, ((IsName-append x.resource_name (codes "_run__") s.resource.word refl, (WellSpelled-Path (plain_path tick_name) tick_path, tt)), tt)), tt),
            ),
            (subst (λ rs. WellSpelledItems (debug_rows_from 0 rs)) (sym (rows_are x)) (rows_named 0 x.pou.vars s.vars (omega (arith, m))), tt),
          ),
        ),
      ),
    ),
  )
