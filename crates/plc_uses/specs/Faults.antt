-- The rules that each place of a source breaks, in the order in which a walk comes to them.
use Rattle.std.specs.Prelude.{ℕ, Bool, not, ◌||◌, List, [], ◌∷◌, ◌++◌, map, Option, Some, None, is_some, if◌then◌else◌}
use Rattle.std.specs.List.{flat_map}
use Rattle.plc_base.specs.Least.{unless}
use Rattle.plc_base.specs.declared.refusal.Refusal.{Refusal}
use Rattle.plc_base.specs.declared.refusal.Rule.TheVariants.{N2, N3, N4}
use Rattle.plc_tree.specs.declared.tree.Id.{Id}
use Rattle.plc_tree.specs.declared.tree.Unit.{Unit as Source}
use Rattle.plc_tree.specs.declared.tree.TypeDef.{TypeDef}
use Rattle.plc_tree.specs.declared.tree.TypeWhat.{TypeWhat}
use Rattle.plc_tree.specs.declared.tree.TypeWhat.TheVariants as what
use Rattle.plc_tree.specs.declared.tree.Member.{Member}
use Rattle.plc_tree.specs.declared.tree.Spec.{Spec}
use Rattle.plc_tree.specs.declared.tree.Init.{Init}
use Rattle.plc_tree.specs.declared.tree.Item.{Item}
use Rattle.plc_tree.specs.declared.tree.InitPart.{InitPart}
use Rattle.plc_tree.specs.declared.tree.Pou.{Pou}
use Rattle.plc_tree.specs.declared.tree.PouKind.{PouKind}
use Rattle.plc_tree.specs.declared.tree.Section.{Section}
use Rattle.plc_tree.specs.declared.tree.Decl.{Decl}
use Rattle.plc_tree.specs.declared.tree.Config.{Config}
use Rattle.plc_tree.specs.declared.tree.Resource.{Resource}
use Rattle.plc_tree.specs.declared.tree.Inst.{Inst}
use Rattle.plc_names.specs.declared.wants.Want.{Want}
use Rattle.plc_names.specs.declared.wants.Want.TheVariants.{AType, ATypeOrBlock, ALeafType, AnEnum, AProgram}
use Rattle.plc_names.specs.Items.{first_config}
use Rattle.plc_names.specs.Needs.{element_owners, init_owners, start_owners}
use Rattle.plc_names.specs.Rules.{is_nothing, is_later, fits, found}
use Rattle.plc_names.specs.Types.{World}
use Rattle.plc_names.specs.Uses.{Use, use_of, start_uses, want_in, result_uses, inst_use}

-- of a name that is used in the scope of the source
abbrev pub use_faults : (forward : Bool) → World → Use → List Refusal
use_faults forward w x =
    unless (not (is_nothing (found w x.name))) N2 x.at
    ++ (unless (fits w x.want x.name (found w x.name)) N3 x.at ++ unless (forward || not (is_later x.at (found w x.name))) N4 x.at)

abbrev pub uses_faults : (forward : Bool) → World → List Use → List Refusal
uses_faults forward w xs = flat_map (use_faults forward w) xs

-- of owners before "#"
abbrev pub owners_faults : (forward : Bool) → World → List Id → List Refusal
owners_faults forward w ns = uses_faults forward w (map (use_of AnEnum) ns)

abbrev pub element_faults : (forward : Bool) → World → Item → List Refusal
element_faults forward w x = owners_faults forward w (element_owners x)

abbrev pub part_faults : (forward : Bool) → World → InitPart → List Refusal
part_faults forward w p = owners_faults forward w (init_owners p.init)

-- of a type and an initial value
abbrev pub start_faults : (forward : Bool) → World → Want → Spec → Option Init → List Refusal
start_faults forward w want what start = uses_faults forward w (start_uses want what start)

abbrev pub member_faults : (forward : Bool) → World → Member → List Refusal
member_faults forward w m = start_faults forward w AType m.spec m.init

abbrev pub what_faults : (forward : Bool) → World → TypeWhat → List Refusal
what_faults forward w (what.Enum values start) = []
what_faults forward w (what.Struct members) = flat_map (member_faults forward w) members
what_faults forward w (what.Spec s start) = start_faults forward w AType s start

abbrev pub type_faults : (forward : Bool) → World → TypeDef → List Refusal
type_faults forward w t = what_faults forward w t.what

abbrev pub want_of_decl : Want → Decl → Want
want_of_decl want d = if is_some d.located then ATypeOrBlock else want

abbrev pub decl_faults : (forward : Bool) → World → Want → Decl → List Refusal
decl_faults forward w want d = start_faults forward w (want_of_decl want d) d.spec d.init

abbrev pub section_faults : (forward : Bool) → World → Option PouKind → Section → List Refusal
section_faults forward w owner s = flat_map (decl_faults forward w (want_in owner s)) s.decls

abbrev pub pou_faults : (forward : Bool) → World → Pou → List Refusal
pou_faults forward w p = uses_faults forward w (result_uses p.result) ++ flat_map (section_faults forward w (Some p.kind)) p.sections

abbrev pub inst_faults : (forward : Bool) → World → Inst → List Refusal
inst_faults forward w i = use_faults forward w (inst_use i)

abbrev pub resource_faults : (forward : Bool) → World → Resource → List Refusal
resource_faults forward w r = flat_map (section_faults forward w None) r.globals ++ flat_map (inst_faults forward w) r.insts

abbrev pub config_faults : (forward : Bool) → World → Config → List Refusal
config_faults forward w c = flat_map (section_faults forward w None) c.globals ++ flat_map (resource_faults forward w) c.resources

-- of all names that are used in the scope of the source
abbrev pub all_uses_faults : (forward : Bool) → World → Source → List Refusal
all_uses_faults forward w u = flat_map (type_faults forward w) u.types ++ (flat_map (pou_faults forward w) u.pous ++ flat_map (config_faults forward w) (first_config u))
