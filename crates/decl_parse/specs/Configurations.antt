-- The grammar of configurations (IEC 61131-3, Annex B.1.7), a production each: which tokens spell which tree, and the
-- descent that reads them. Where n stands, so many nodes may open in an initial value.
use Rattle.std.specs.Prelude.{ℕ, List, [], ◌∷◌, ◌++◌, Option, Some, None}
use Rattle.plc_tokens.specs.declared.token.Token.{Token}
use Rattle.plc_tree.specs.declared.tree.Id.{Id}
use Rattle.plc_tree.specs.declared.tree.Section.{Section}
use Rattle.plc_tree.specs.declared.tree.Config.{Config}
use Rattle.plc_tree.specs.declared.tree.Resource.{Resource}
use Rattle.plc_tree.specs.declared.tree.Task.{Task}
use Rattle.plc_tree.specs.declared.tree.Inst.{Inst}
use Rattle.plc_tokens.specs.Sorts.{sort, span_of}
use Rattle.plc_tokens.specs.Sets.{INTEGER, SPAN, ASSIGN, LPAREN, RPAREN, COMMA, SEMI, COLON, PROGRAM, VAR_GLOBAL, CONFIGURATION, END_CONFIGURATION, RESOURCE, END_RESOURCE, ON, TASK, INTERVAL, PRIORITY, WITH}
use Rattle.phrase.specs.Piece.{Piece, pure, tok, ◌>>=◌, ◌>>◌, choose, many}
use Rattle.st_expr.specs.Integers.{whole_of}
use Rattle.type_parse.specs.Names.{name}
use Rattle.decl_parse.specs.Sections.{next_globals}

-- ---- tasks

-- interval = INTERVAL ":=" duration
unfoldable pub interval : Piece sort Token
interval = do
  tok INTERVAL
  tok ASSIGN
  tok SPAN

-- priority = PRIORITY ":=" integer
unfoldable pub priority : Piece sort Token
priority = do
  tok PRIORITY
  tok ASSIGN
  tok INTEGER

abbrev pub task_of : Id → Token → Token → Task
task_of n i p = record { name = n.name; at = n.at; interval = span_of i.kind; interval_at = i.place; priority = whole_of p }

-- task = TASK name "(" interval "," priority ")" ";"
unfoldable pub task : Piece sort Task
task = do
  tok TASK
  n ← name
  tok LPAREN
  i ← interval
  tok COMMA
  p ← priority
  tok RPAREN
  tok SEMI
  pure (task_of n i p)

unfoldable pub next_task : List Task → Piece sort (List Task)
next_task l = do
  t ← task
  pure (l ++ t ∷ [])

-- ---- instances

unfoldable pub with : Piece sort (Option Id)
with = do
  tok WITH
  t ← name
  pure (Some t)

-- [ WITH name ]
unfoldable pub with_if_any : Piece sort (Option Id)
with_if_any = choose WITH with (pure None)

abbrev pub inst_of : Id → Option Id → Id → Inst
inst_of n t p = record { name = n.name; at = n.at; task = t; program = p }

-- inst = PROGRAM name [ WITH name ] ":" name ";"
unfoldable pub inst : Piece sort Inst
inst = do
  tok PROGRAM
  n ← name
  t ← with_if_any
  tok COLON
  p ← name
  tok SEMI
  pure (inst_of n t p)

unfoldable pub next_inst : List Inst → Piece sort (List Inst)
next_inst l = do
  i ← inst
  pure (l ++ i ∷ [])

-- ---- resources

abbrev pub resource_of : Id → Id → List Section → List Task → List Inst → Resource
resource_of n o g t i = record { name = n.name; at = n.at; on = o; globals = g; tasks = t; insts = i }

-- resource = RESOURCE name ON name { gvars } { task } inst { inst } END_RESOURCE
unfoldable pub resource : ℕ → Piece sort Resource
resource n = do
  tok RESOURCE
  r ← name
  tok ON
  o ← name
  g ← many VAR_GLOBAL (next_globals n) []
  t ← many TASK next_task []
  first ← inst
  i ← many PROGRAM next_inst (first ∷ [])
  tok END_RESOURCE
  pure (resource_of r o g t i)

unfoldable pub next_resource : ℕ → List Resource → Piece sort (List Resource)
next_resource n l = do
  r ← resource n
  pure (l ++ r ∷ [])

-- ---- configurations

abbrev pub config_of : Id → List Section → List Resource → Config
config_of n g r = record { name = n.name; at = n.at; globals = g; resources = r }

-- config = CONFIGURATION name { gvars } resource { resource } END_CONFIGURATION
unfoldable pub config : ℕ → Piece sort Config
config n = do
  tok CONFIGURATION
  c ← name
  g ← many VAR_GLOBAL (next_globals n) []
  first ← resource n
  r ← many RESOURCE (next_resource n) (first ∷ [])
  tok END_CONFIGURATION
  pure (config_of c g r)
