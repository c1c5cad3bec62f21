-- The texts of a typed unit mean what it means.
use Rattle.std.proofs.Common.{◌≡◌, refl, sym, ap, ◌∙◌, ℕ, List, [], ◌∷◌, ◌++◌, map, append_assoc, false}
use Rattle.std.specs.Prelude.{codes}
use Rattle.std.specs.List.{flat_map}
use Rattle.std.proofs.lemmas.List.{map-append}
use Rattle.plc_base.specs.Trace.{Event}
use Rattle.plc_tree.specs.declared.typed.TUnit.{TUnit}
use Rattle.plc_tree.specs.declared.typed.TConfig.{TConfig}
use Rattle.plc_tree.specs.declared.typed.TResource.{TResource}
use Rattle.plc_tree.specs.Files.{file_names, config_code_names, header_name, code_name}
use Rattle.plc_tree.specs.Rows.{kept}
use Rattle.plc_tree.specs.Run.{Fair, trace_src}
use Rattle.plc_tree.specs.WellTyped.{IsTypedPou}
use Rattle.c_tree.specs.declared.text.CText.{CText}
use Rattle.c_tree.specs.declared.tree.CUnit.{CUnit}
use Rattle.c_tree.specs.declared.tree.CPart.{CPart}
use Rattle.c_tree.specs.Printing.{printed_unit, part_text, part_texts}
use Rattle.c_tree.specs.Spelled.{SpellsUnit}
use Rattle.c_tree.specs.WellSpelled.{WellSpelled}
use Rattle.c_meaning.specs.Rules.{Good}
use Rattle.c_meaning.specs.Run.{trace_c}
use Rattle.emit_pou.specs.Emitted.{c_unit, part, header_part, resource_part, config_parts, pou_struct, pou_functions, debug_items}
use Rattle.emit_pou.specs.Single.{Single, IsSingle, unit_of}
use Rattle.emit_pou.specs.SourceNames.{HasSourceNames}
use Rattle.plc_top.specs.Decision.{IsTyped, Means}

-- ---- the names of the files

later_names : (ps : List CPart) → map (λ (t : CText). t.name) (map (part_text false) ps) ≡ map (λ (p : CPart). p.name) ps
later_names [] = refl
later_names (p ∷ ps) = ap (λ ns. p.name ∷ ns) (later_names ps)

text_names : (ps : List CPart) → map (λ (t : CText). t.name) (part_texts ps) ≡ map (λ (p : CPart). p.name) ps
text_names [] = refl
text_names (p ∷ ps) = ap (λ ns. p.name ∷ ns) (later_names ps)

header_names : (cs : List TConfig) → map (λ (p : CPart). p.name) (map header_part cs) ≡ map (λ (c : TConfig). header_name c.name) cs
header_names [] = refl
header_names (c ∷ cs) = ap (λ ns. header_name c.name ∷ ns) (header_names cs)

resource_names : (u : TUnit) (rs : List TResource) → map (λ (p : CPart). p.name) (map (resource_part u) rs) ≡ map (λ (r : TResource). code_name r.name) rs
resource_names u [] = refl
resource_names u (r ∷ rs) = ap (λ ns. code_name r.name ∷ ns) (resource_names u rs)

config_names : (u : TUnit) (cs : List TConfig) → map (λ (p : CPart). p.name) (flat_map (config_parts u) cs) ≡ flat_map config_code_names cs
config_names u [] = refl
config_names u (c ∷ cs) =
    map-append (λ (p : CPart). p.name) (config_parts u c) (flat_map (config_parts u) cs)
    ∙ ap (λ ns. ns ++ map (λ (p : CPart). p.name) (flat_map (config_parts u) cs)) (map-append (λ (p : CPart). p.name) (map (resource_part u) c.resources) _ ∙ ap (λ ns. ns ++ (code_name c.name ∷ [])) (resource_names u c.resources))
    ∙ ap (λ ns. config_code_names c ++ ns) (config_names u cs)

part_names : (u : TUnit) → map (λ (p : CPart). p.name) (c_unit u).parts ≡ file_names u
part_names u =
    ap (λ ns. codes "POUS.h" ∷ ns)
    (map-append (λ (p : CPart). p.name) (map header_part u.configs) _
    ∙ ap (λ ns. ns ++ (codes "POUS.c" ∷ map (λ (p : CPart). p.name) (flat_map (config_parts u) u.configs ++ (part (codes "plc_debugger.c") (debug_items u) ∷ [])))) (header_names u.configs)
    ∙ ap (λ ns. map (λ (c : TConfig). header_name c.name) u.configs ++ (codes "POUS.c" ∷ ns))
    (map-append (λ (p : CPart). p.name) (flat_map (config_parts u) u.configs) _ ∙ ap (λ ns. ns ++ (codes "plc_debugger.c" ∷ [])) (config_names u u.configs)))

-- ---- the debug rows stand last

front : TUnit → List CPart
front u = part (codes "POUS.h") (map pou_struct u.pous) ∷ (map header_part u.configs ++ (part (codes "POUS.c") (flat_map pou_functions u.pous) ∷ flat_map (config_parts u) u.configs))

last_part : (u : TUnit) → (c_unit u).parts ≡ front u ++ (part (codes "plc_debugger.c") (debug_items u) ∷ [])
unfolding front
last_part u = sym (append_assoc (part (codes "POUS.h") (map pou_struct u.pous) ∷ map header_part u.configs) (part (codes "POUS.c") (flat_map pou_functions u.pous) ∷ flat_map (config_parts u) u.configs) _)

pub means : (u : TUnit) (c : CUnit) (texts : List CText) → IsTyped u → c ≡ c_unit u → texts ≡ printed_unit c → (WellSpelled c → SpellsUnit texts c)
    → ((x : Single) → u ≡ unit_of x → HasSourceNames x → IsTypedPou x.pou → Good c)
    → (IsSingle u → (bound : ℕ) (events : List Event) → Fair u events → trace_c c (kept u) bound events ≡ trace_src u bound events) → Means u texts
means u c texts fit is printed spells good traces =
    let g = good fit.parts fit.is fit.names fit.typed in
    record {
      c = c;
      is = is;
      names = ap (map (λ (t : CText). t.name)) printed ∙ text_names c.parts ∙ ap (λ (k : CUnit). map (λ (p : CPart). p.name) k.parts) is ∙ part_names u;
      printed = printed;
      spells = spells g.spelled;
      good = g;
      front = front u;
      debugger = ap (λ (k : CUnit). k.parts) is ∙ last_part u;
      traces = traces (record { parts = fit.parts; is = fit.is; interval = fit.interval; typed = fit.typed; apart = fit.names.apart });
    }
