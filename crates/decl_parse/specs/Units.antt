-- The grammar of program organisation units (IEC 61131-3, Annex B.1.5), a production each: which tokens spell which
-- tree, and the descent that reads them. Where n stands, so many nodes may open in a body or an initial value.
use Rattle.std.specs.Prelude.{ℕ, List, [], Option, Some, None}
use Rattle.plc_tree.specs.declared.tree.Id.{Id}
use Rattle.plc_tree.specs.declared.tree.Body.{Body}
use Rattle.plc_tree.specs.declared.tree.Body.TheVariants.{St}
use Rattle.plc_tree.specs.declared.tree.PouKind.{PouKind}
use Rattle.plc_tree.specs.declared.tree.PouKind.TheVariants.{Func, Block, Prog}
use Rattle.plc_tree.specs.declared.tree.Pou.{Pou}
use Rattle.plc_tree.specs.declared.tree.Section.{Section}
use Rattle.plc_tokens.specs.Sorts.{sort}
use Rattle.plc_tokens.specs.Sets.{COLON, FUNCTION, END_FUNCTION, FUNCTION_BLOCK, END_FUNCTION_BLOCK, PROGRAM, END_PROGRAM, FUNCTION_SECTION, UNIT_SECTION}
use Rattle.phrase.specs.Piece.{Piece, pure, tok, ◌>>=◌, ◌>>◌, choose, many}
use Rattle.st_parse.specs.Depth.{Statements}
use Rattle.type_parse.specs.Names.{name, tname}
use Rattle.decl_parse.specs.Sections.{next_function_section, next_block_section, next_program_section}

-- body = stmts
unfoldable pub body : ℕ → Piece sort Body
body n = do
  l ← Statements n
  pure (St l)

abbrev pub pou_of : PouKind → Id → Option Id → List Section → Body → Pou
pou_of k n r s b = record { kind = k; name = n.name; at = n.at; result = r; sections = s; body = b }

-- function = FUNCTION name ":" tname { fvars } body END_FUNCTION
unfoldable pub function : ℕ → Piece sort Pou
function n = do
  tok FUNCTION
  i ← name
  tok COLON
  r ← tname
  s ← many FUNCTION_SECTION (next_function_section n) []
  b ← body n
  tok END_FUNCTION
  pure (pou_of Func i (Some r) s b)

-- block = FUNCTION_BLOCK name { bvars } body END_FUNCTION_BLOCK
unfoldable pub block : ℕ → Piece sort Pou
block n = do
  tok FUNCTION_BLOCK
  i ← name
  s ← many UNIT_SECTION (next_block_section n) []
  b ← body n
  tok END_FUNCTION_BLOCK
  pure (pou_of Block i None s b)

-- program = PROGRAM name { bvars | lvars } body END_PROGRAM
unfoldable pub program : ℕ → Piece sort Pou
program n = do
  tok PROGRAM
  i ← name
  s ← many UNIT_SECTION (next_program_section n) []
  b ← body n
  tok END_PROGRAM
  pure (pou_of Prog i None s b)

-- function | block | program
unfoldable pub pou : ℕ → Piece sort Pou
pou n = choose FUNCTION (function n) (choose FUNCTION_BLOCK (block n) (program n))
