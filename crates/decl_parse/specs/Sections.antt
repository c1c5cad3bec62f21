-- The grammar of sections of declarations (IEC 61131-3, Annex B.1.4.3 and B.1.5), a production each: which tokens spell
-- which tree, and the descent that reads them. Where n stands, so many nodes may open in an initial value.
use Rattle.std.specs.Prelude.{ℕ, Bool, true, false, List, [], ◌∷◌, ◌++◌, Option, Some, None, if◌then◌else◌}
use Rattle.plc_base.specs.declared.kind.Kind.{Kind}
use Rattle.plc_base.specs.declared.kind.Kind.TheVariants as kind
use Rattle.plc_base.specs.declared.refusal.Place.{Place}
use Rattle.plc_tokens.specs.declared.token.Token.{Token}
use Rattle.plc_tree.specs.declared.tree.Id.{Id}
use Rattle.plc_tree.specs.declared.tree.Spec.{Spec}
use Rattle.plc_tree.specs.declared.tree.Spec.TheVariants.{Named}
use Rattle.plc_tree.specs.declared.tree.Init.{Init}
use Rattle.plc_tree.specs.declared.tree.Located.{Located}
use Rattle.plc_tree.specs.declared.tree.Decl.{Decl}
use Rattle.plc_tree.specs.declared.tree.SectionKind.{SectionKind}
use Rattle.plc_tree.specs.declared.tree.SectionKind.TheVariants.{Input, Output, InOut, Own, External, Global}
use Rattle.plc_tree.specs.declared.tree.Section.{Section}
use Rattle.plc_tokens.specs.Sorts.{rank, sort}
use Rattle.plc_tokens.specs.Sets.{NAME, SEMI, COLON, AT, ADDRESS, VAR, VAR_INPUT, VAR_IN_OUT, VAR_EXTERNAL, VAR_GLOBAL, END_VAR, CONSTANT, RETAIN, RETENTION, INPUT_OUTPUT}
use Rattle.phrase.specs.Piece.{has, Piece, pure, tok, ◌>>=◌, ◌>>◌, choose, many}
use Rattle.type_parse.specs.Names.{name, more_names, tname}
use Rattle.type_parse.specs.Types.{spec}
use Rattle.type_parse.specs.Depth.{init_if_any}

-- ---- declarations

abbrev pub decl_of : List Id → Spec → Option Init → Decl
decl_of l s i = record { names = l; located = None; spec = s; init = i }

-- behind the first name: { "," name } ":" spec [ ":=" init ] ";"
unfoldable pub vdecl_rest : ℕ → Id → Piece sort Decl
vdecl_rest n first = do
  l ← more_names first
  tok COLON
  s ← spec
  i ← init_if_any n
  tok SEMI
  pure (decl_of l s i)

-- vdecl = name { "," name } ":" spec [ ":=" init ] ";"
unfoldable pub vdecl : ℕ → Piece sort Decl
vdecl n = do
  first ← name
  vdecl_rest n first

-- where a variable lies, as a token says
abbrev pub lies_at : Place → Kind → Located
lies_at at (kind.Address dir size numbers) = record { dir = dir; size = size; numbers = numbers; at = at }
lies_at at _ = record { dir = 0; size = 0; numbers = []; at = at }

abbrev pub location : Token → Located
location t = lies_at t.place t.kind

abbrev pub located_of : Id → Token → Id → Option Init → Decl
located_of n a t i = record { names = n ∷ []; located = Some (location a); spec = Named t; init = i }

-- behind the name: AT address ":" tname [ ":=" init ] ";"
unfoldable pub ldecl_rest : ℕ → Id → Piece sort Decl
ldecl_rest n first = do
  tok AT
  a ← tok ADDRESS
  tok COLON
  t ← tname
  i ← init_if_any n
  tok SEMI
  pure (located_of first a t i)

-- vdecl | ldecl, where ldecl = name AT address ":" tname [ ":=" init ] ";"
unfoldable pub any_decl : ℕ → Piece sort Decl
any_decl n = do
  first ← name
  choose AT (ldecl_rest n first) (vdecl_rest n first)

-- a declaration after others
unfoldable pub next_vdecl : ℕ → List Decl → Piece sort (List Decl)
next_vdecl n l = do
  d ← vdecl n
  pure (l ++ d ∷ [])

unfoldable pub next_any_decl : ℕ → List Decl → Piece sort (List Decl)
next_any_decl n l = do
  d ← any_decl n
  pure (l ++ d ∷ [])

-- ---- sections

abbrev pub section_of : SectionKind → (constant keep : Bool) → (at mark : Place) → List Decl → Section
section_of k constant keep at mark l = record { kind = k; constant = constant; keep = keep; at = at; mark = mark; decls = l }

-- { vdecl } END_VAR
unfoldable pub plain_rest : ℕ → SectionKind → (constant keep : Bool) → (at mark : Place) → Piece sort Section
plain_rest n k constant keep at mark = do
  l ← many NAME (next_vdecl n) []
  tok END_VAR
  pure (section_of k constant keep at mark l)

-- { vdecl | ldecl } END_VAR
unfoldable pub located_rest : ℕ → SectionKind → (constant : Bool) → (at mark : Place) → Piece sort Section
located_rest n k constant at mark = do
  l ← many NAME (next_any_decl n) []
  tok END_VAR
  pure (section_of k constant false at mark l)

-- CONSTANT { vdecl } END_VAR
unfoldable pub constant_rest : ℕ → SectionKind → Place → Piece sort Section
constant_rest n k at = do
  m ← tok CONSTANT
  plain_rest n k true false at m.place

-- [ CONSTANT ] { vdecl } END_VAR
unfoldable pub constant_or_not : ℕ → SectionKind → Place → Piece sort Section
constant_or_not n k at = choose CONSTANT (constant_rest n k at) (plain_rest n k false false at at)

-- whether the variables are kept: RETAIN, and not NON_RETAIN
abbrev pub keeps : Token → Bool
keeps t = has rank (sort.of t) RETAIN

-- ( RETAIN | NON_RETAIN ) { vdecl } END_VAR
unfoldable pub retained_rest : ℕ → SectionKind → Place → Piece sort Section
retained_rest n k at = do
  m ← tok RETENTION
  plain_rest n k false (keeps m) at m.place

-- [ RETAIN | NON_RETAIN ] { vdecl } END_VAR
unfoldable pub retained_or_not : ℕ → SectionKind → Place → Piece sort Section
retained_or_not n k at = choose RETENTION (retained_rest n k at) (plain_rest n k false false at at)

-- [ CONSTANT | RETAIN | NON_RETAIN ] { vdecl } END_VAR
unfoldable pub own_rest : ℕ → SectionKind → Place → Piece sort Section
own_rest n k at = choose CONSTANT (constant_rest n k at) (retained_or_not n k at)

-- CONSTANT { vdecl | ldecl } END_VAR
unfoldable pub located_constant_rest : ℕ → SectionKind → Place → Piece sort Section
located_constant_rest n k at = do
  m ← tok CONSTANT
  located_rest n k true at m.place

-- [ CONSTANT ] { vdecl | ldecl } END_VAR | ( RETAIN | NON_RETAIN ) { vdecl } END_VAR
unfoldable pub any_rest : ℕ → SectionKind → Place → Piece sort Section
any_rest n k at = choose CONSTANT (located_constant_rest n k at) (choose RETENTION (retained_rest n k at) (located_rest n k false at at))

-- ---- the sections of functions, of function blocks, of programs and of configurations

unfoldable pub function_input : ℕ → Piece sort Section
function_input n = do
  t ← tok VAR_INPUT
  plain_rest n Input false false t.place t.place

unfoldable pub function_own : ℕ → Piece sort Section
function_own n = do
  t ← tok VAR
  constant_or_not n Own t.place

-- fvars = ( VAR_INPUT | VAR [ CONSTANT ] ) { vdecl } END_VAR
unfoldable pub function_section : ℕ → Piece sort Section
function_section n = choose VAR_INPUT (function_input n) (function_own n)

-- inputs or outputs
abbrev pub passed : Token → SectionKind
passed t = if has rank (sort.of t) VAR_INPUT then Input else Output

-- ( VAR_INPUT | VAR_OUTPUT ) [ RETAIN | NON_RETAIN ] { vdecl } END_VAR
unfoldable pub input_output : ℕ → Piece sort Section
input_output n = do
  t ← tok INPUT_OUTPUT
  retained_or_not n (passed t) t.place

-- VAR_IN_OUT { vdecl } END_VAR
unfoldable pub in_out : ℕ → Piece sort Section
in_out n = do
  t ← tok VAR_IN_OUT
  plain_rest n InOut false false t.place t.place

-- VAR_EXTERNAL [ CONSTANT ] { vdecl } END_VAR
unfoldable pub external : ℕ → Piece sort Section
external n = do
  t ← tok VAR_EXTERNAL
  constant_or_not n External t.place

unfoldable pub block_own : ℕ → Piece sort Section
block_own n = do
  t ← tok VAR
  own_rest n Own t.place

-- bvars = ( VAR_INPUT | VAR_OUTPUT | VAR ) [ RETAIN | NON_RETAIN ] { vdecl } END_VAR
--       | ( VAR_IN_OUT | VAR CONSTANT | VAR_EXTERNAL [ CONSTANT ] ) { vdecl } END_VAR
unfoldable pub block_section : ℕ → Piece sort Section
block_section n = choose INPUT_OUTPUT (input_output n) (choose VAR_IN_OUT (in_out n) (choose VAR_EXTERNAL (external n) (block_own n)))

unfoldable pub program_own : ℕ → Piece sort Section
program_own n = do
  t ← tok VAR
  any_rest n Own t.place

-- bvars | lvars, where lvars = VAR [ CONSTANT ] { vdecl | ldecl } END_VAR
unfoldable pub program_section : ℕ → Piece sort Section
program_section n = choose INPUT_OUTPUT (input_output n) (choose VAR_IN_OUT (in_out n) (choose VAR_EXTERNAL (external n) (program_own n)))

-- gvars = VAR_GLOBAL [ CONSTANT ] { vdecl | ldecl } END_VAR | VAR_GLOBAL ( RETAIN | NON_RETAIN ) { vdecl } END_VAR
unfoldable pub globals : ℕ → Piece sort Section
globals n = do
  t ← tok VAR_GLOBAL
  any_rest n Global t.place

-- a section after others
unfoldable pub next_function_section : ℕ → List Section → Piece sort (List Section)
next_function_section n l = do
  s ← function_section n
  pure (l ++ s ∷ [])

unfoldable pub next_block_section : ℕ → List Section → Piece sort (List Section)
next_block_section n l = do
  s ← block_section n
  pure (l ++ s ∷ [])

unfoldable pub next_program_section : ℕ → List Section → Piece sort (List Section)
next_program_section n l = do
  s ← program_section n
  pure (l ++ s ∷ [])

unfoldable pub next_globals : ℕ → List Section → Piece sort (List Section)
next_globals n l = do
  s ← globals n
  pure (l ++ s ∷ [])
