-- The typed unit of a source without a broken use.
use Rattle.std.proofs.Common.{◌≡◌, sym, ap, subst, ◌∙◌, ℕ, ◌+◌, ◌<◌, ◌≤◌, ◌^◌, List, [], ◌∷◌, ◌++◌, length, map, true, false, Option, Some, arith, length-append, le_trans, if◌then◌else◌}
use Rattle.std.specs.Prelude.{ℤ, pos, negsuc, unsigned_abs, nat_le}
use Rattle.std.specs.List.{flat_map}
use Rattle.std.specs.Option.{option_map}
use Rattle.std.proofs.lemmas.Bool.{and_parts}
use Rattle.std.proofs.lemmas.Bool.Decides.{nat_tests}
use Rattle.std.proofs.lemmas.List.{length-map, map-append}
use Rattle.plc_base.specs.declared.refusal.Place.{Place}
use Rattle.plc_tree.specs.declared.tree.Id.{Id}
use Rattle.plc_tree.specs.declared.tree.Unit.{Unit as Source}
use Rattle.plc_tree.specs.declared.tree.Section.{Section}
use Rattle.plc_tree.specs.declared.tree.Body.{Body}
use Rattle.plc_tree.specs.declared.tree.Resource.{Resource}
use Rattle.plc_tree.specs.declared.tree.Task.{Task}
use Rattle.plc_tree.specs.declared.tree.Inst.{Inst}
use Rattle.plc_tree.specs.declared.typed.TVar.{TVar}
use Rattle.plc_tree.specs.declared.typed.TPou.{TPou}
use Rattle.plc_tree.specs.declared.typed.TUnit.{TUnit}
use Rattle.plc_tree.specs.Rows.{rows}
use Rattle.plc_tree.specs.WellTyped.{IsTypedPou}
use Rattle.decl_parse.specs.Parsed.{MOST}
use Rattle.phrase.specs.Every.{Every as EachOf}
use Rattle.decl_parse.specs.Shapes.{IsNamed, IsBody, IsResource, IsShaped}
use Rattle.decl_parse.proofs.Counting.{variable_names}
use Rattle.emit_pou.specs.Single.{Single, unit_of}
use Rattle.emit_pou.proofs.GoodNames.{rows_are}
use Rattle.plc_typing.specs.Scope.{Types, type_in, variables}
use Rattle.plc_typing.specs.Sole.{Sole}
use Rattle.plc_typing.specs.Uses.{suits, is_prog, body_faults, section_faults, pou_faults, is_interval, task_faults, resource_faults, config_faults, unbuilt_faults, sole_faults, first_names, section_names, pou_names, task_names, inst_names, resource_names, config_names, names, words, names_faults, other_faults, faults}
use Rattle.plc_typing.specs.Typing.{typed, declared, number_in, typed_of_body, typed_pou, typed_task, typed_inst, typed_resource, typed_section}
use Rattle.plc_typing.proofs.Declaring.{one_fault, faults-cons, faults-append}
use Rattle.plc_typing.proofs.Faults.{none_of_both, holds}
use Rattle.plc_typing.proofs.SoleSources.{sole}
use Rattle.plc_typing.proofs.TypedBodies.{stmts_typed}
use Rattle.plc_typing.proofs.TypedHeights.{typed_low}
use Rattle.plc_top.specs.Decision.{IsTyped}
use Rattle.plc_top.specs.Words.{IsKnown}
use Rattle.plc_top.proofs.SourceWords.{source_named}
use Rattle.plc_top.proofs.Variables.{Fine, sections_fine, count}

-- an interval is above 0
positive : (z : ℤ) → is_interval z ≡ true → 0 < unsigned_abs z
positive (pos n) e = let le : nat_le 1000000 n ≡ true = (and_parts _ _ e).0 in grind (arith, nat_tests)
positive (negsuc n) e = absurd (let x : false ≡ true = e in cc)

-- of the first one no more than this
first_few : {X : Type 0} (of_first : X → List Id) (n : ℕ) (xs : List X) → ((x : X) → length (of_first x) ≤ n) → length (first_names of_first xs) ≤ n
first_few of_first n [] h = omega arith
first_few of_first n (x ∷ xs) h = h x

resource_few : (r : Resource) → length (resource_names r) ≤ 3
resource_few r = omega (
  arith,
  length-append (first_names task_names r.tasks) (first_names inst_names r.insts),
  first_few task_names 1 r.tasks (λ t. omega arith),
  first_few inst_names 1 r.insts (λ i. omega arith),
)

-- ---- a source of one of each

module _ (u : Source) (s : Sole u) where
  abbrev tree : Source
  tree = record { types = []; pous = s.pou ∷ []; configs = s.config ∷ [] }

  abbrev N : List (List ℕ)
  N = declared tree

  abbrev vars : List TVar
  vars = flat_map (typed_section N) s.pou.sections

  abbrev types : Types
  types = type_in (variables s.pou.sections)

  -- its typed unit
  abbrev parts : Single
  parts = record {
    pou = typed_pou N s.pou;
    task = typed_task N s.task;
    config_id = number_in N s.config.name;
    config_name = s.config.name;
    resource_id = number_in N s.resource.name;
    resource_name = s.resource.name;
    inst_id = number_in N s.inst.name;
    inst_name = s.inst.name;
  }

  abbrev of_resources : List Resource → TUnit
  of_resources rs = record { pous = parts.pou ∷ []; configs = record { id = parts.config_id; name = parts.config_name; resources = map (typed_resource N) rs } ∷ [] }

  abbrev of_resource : List Task → List Inst → TUnit
  of_resource ts is = record {
    pous = parts.pou ∷ [];
    configs = record {
      id = parts.config_id;
      name = parts.config_name;
      resources = record { id = parts.resource_id; name = parts.resource_name; tasks = map (typed_task N) ts; insts = map (typed_inst N) is } ∷ [];
    } ∷ [];
  }

  abbrev of_inst : Option ℕ → List ℕ → TUnit
  of_inst task program = record {
    pous = parts.pou ∷ [];
    configs = record {
      id = parts.config_id;
      name = parts.config_name;
      resources = record {
        id = parts.resource_id;
        name = parts.resource_name;
        tasks = parts.task ∷ [];
        insts = record { id = parts.inst_id; name = parts.inst_name; task = task; program = number_in N program } ∷ [];
      } ∷ [];
    } ∷ [];
  }

  unit_is : typed tree ≡ unit_of parts
  unit_is =
      ap of_resources s.resources ∙ ap (λ ts. of_resource ts s.resource.insts) s.tasks ∙ ap (of_resource (s.task ∷ [])) s.insts
      ∙ ap (λ (o : Option Id). of_inst (option_map (λ (n : Id). number_in N n.name) o) s.inst.program.name) s.reference
      ∙ ap (λ name. of_inst (Some (number_in N name)) s.inst.program.name) s.of_task ∙ ap (of_inst (Some (number_in N s.task.name))) s.of_program

  -- ---- its names: the program's, then those of its variables, and then those of the configuration

  abbrev program_id : Id
  program_id = record { name = s.pou.name; at = s.pou.at }

  abbrev declaring : List Id
  declaring = flat_map section_names s.pou.sections

  abbrev configured : List Id
  configured = config_names s.config

  ids_are : names tree ≡ program_id ∷ (declaring ++ configured)
  ids_are = ap (λ b. if b then pou_names s.pou ++ configured else (configured ++ pou_names s.pou)) s.first

  names_are : N ≡ (s.pou.name ∷ []) ++ (words declaring ++ words configured)
  names_are = ap words ids_are ∙ ap (λ ns. s.pou.name ∷ ns) (map-append (λ (n : Id). n.name) declaring configured)

  -- as many as the variables, and few more
  names_few : length N ≤ length (variable_names tree) + 6
  names_few = omega (
    arith,
    ap length names_are,
    length-append (words declaring) (words configured),
    length-map declaring (λ (n : Id). n.name),
    length-map configured (λ (n : Id). n.name),
    length-append declaring [],
    first_few resource_names 3 s.config.resources resource_few,
  )

  -- ---- its uses, of which none is broken

  module _ (end : Place) (e : faults end tree ≡ []) where
    of_both : (names_faults [] (names tree) ≡ []) × (pou_faults s.pou ++ config_faults (s.pou ∷ []) s.config ≡ [])
    of_both = none_of_both (names_faults [] (names tree)) (other_faults end tree) e

    apart : (pou_faults s.pou ≡ []) × (config_faults (s.pou ∷ []) s.config ≡ [])
    apart = none_of_both (pou_faults s.pou) (config_faults (s.pou ∷ []) s.config) of_both.1

    program : (flat_map section_faults s.pou.sections ≡ []) × (body_faults types s.pou.body ≡ [])
    program = none_of_both (flat_map section_faults s.pou.sections) (body_faults types s.pou.body) (none_of_both (suits (is_prog s.pou.kind) s.pou.at) _ apart.0).1

    timed : is_interval s.task.interval ≡ true
    timed =
        let of_task : List Task → Type 0 = λ ts. sole_faults (λ (t : Task). t.at) task_faults s.resource.at ts ≡ [] in
        let of_resource : List Resource → Type 0 = λ rs. sole_faults (λ (r : Resource). r.at) (resource_faults (s.pou ∷ []) s.config.at) s.config.at rs ≡ [] in
        let resource = subst of_resource s.resources (none_of_both (unbuilt_faults (λ (x : Section). x.at) s.config.globals) _ apart.1).1 in
        let inner = (none_of_both (unbuilt_faults (λ (x : Section). x.at) s.resource.globals) _ resource).1 in
        let task = subst of_task s.tasks (none_of_both (sole_faults (λ (t : Task). t.at) task_faults s.resource.at s.resource.tasks) _ inner).0 in
        holds (is_interval s.task.interval) s.task.interval_at (none_of_both (suits (is_interval s.task.interval) s.task.interval_at) _ task).0

    names_fine : names_faults (s.pou.name ∷ []) declaring ≡ []
    names_fine =
        let later = none_of_both (one_fault [] program_id) (names_faults (s.pou.name ∷ []) (declaring ++ configured)) (sym (faults-cons [] program_id (declaring ++ configured)) ∙ ap (names_faults []) (sym ids_are) ∙ of_both.0) in
        (none_of_both (names_faults (s.pou.name ∷ []) declaring) _ (sym (faults-append (s.pou.name ∷ []) declaring configured) ∙ later.1)).0

    module _ (h : IsShaped IsKnown tree) where
      known : Fine N (s.pou.name ∷ []) vars (variables s.pou.sections)
      known = sections_fine N (s.pou.name ∷ []) (words configured) s.pou.sections names_are h.pous.0.sections names_fine program.0

      -- the program with this body
      abbrev pou_with : Body → TPou
      pou_with b = record { id = number_in N s.pou.name; kind = s.pou.kind; name = s.pou.name; vars = vars; body = typed_of_body N types b }

      with_body : (b : Body) → IsBody MOST b → body_faults types b ≡ [] → IsTypedPou (pou_with b)
      with_body b k f =
          let P : Body → Type 0 = λ b. body_faults types b ≡ [] in
          let Q : Body → Type 0 = λ b. IsTypedPou (pou_with b) in
          subst Q (sym k.is) (record {
            numbered = record { first = 1; from = known.numbered };
            fit = known.fit;
            body = stmts_typed N types vars (λ name t k. (known.stands name t k).1) false k.stmts (subst P k.is f);
            low = le_trans (typed_low N types k.stmts) k.low;
          })

      resource : IsResource IsKnown s.resource
      resource = (subst (EachOf (IsResource IsKnown)) s.resources h.configs.0.resources).0

      fit : length (variable_names tree) ≤ 2 ^ 31 → IsTyped (typed tree)
      fit few =
          let many : length (rows (typed tree)) ≡ length declaring =
          ap (λ (t : TUnit). length (rows t)) unit_is ∙ ap length (rows_are parts) ∙ length-map parts.pou.vars _ ∙ count N s.pou.sections in
          record {
            parts = parts;
            is = unit_is;
            interval = positive s.task.interval timed;
            names = record {
              pou = source_named s.pou.name h.pous.0.named;
              resource = source_named s.resource.name resource.named;
              inst = source_named s.inst.name (subst (EachOf (λ (i : Inst). IsNamed IsKnown i.name)) s.insts resource.insts).0;
              vars = known.named;
              apart = known.apart;
            };
            typed = with_body s.pou.body h.pous.0.body program.1;
            few = omega (arith, few, many, length-append declaring []);
          }

pub shaped_fit : (end : Place) (u : Source) (h : IsShaped IsKnown u) → length (variable_names u) ≤ 2 ^ 31 → faults end u ≡ [] → IsTyped (typed u)
shaped_fit end u h few e =
    let s = sole end u e in
    let P : Source → Type 0 = λ t. faults end t ≡ [] in
    let Q : Source → Type 0 = λ t. IsTyped (typed t) in
    let R : Source → Type 0 = λ t. length (variable_names t) ≤ 2 ^ 31 in
    subst Q (sym s.is) (fit u s end (subst P s.is e) (subst (IsShaped IsKnown) s.is h) (subst R s.is few))

pub few_names : (end : Place) (u : Source) → faults end u ≡ [] → length (declared u) ≤ length (variable_names u) + 6
few_names end u e =
    let s = sole end u e in
    let P : Source → Type 0 = λ t. length (declared t) ≤ length (variable_names t) + 6 in
    subst P (sym s.is) (names_few u s)
