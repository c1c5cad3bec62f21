-- The grammar of statements (IEC 61131-3, Annex B.3.2), a production each: which tokens spell which tree, and the
-- descent that reads them. A production stands where n more nodes may open, and d is what stands under one of them.
use Rattle.std.specs.Prelude.{ℕ, false, List, [], ◌∷◌, ◌++◌, Option, Some, None}
use Rattle.plc_tokens.specs.declared.token.Token.{Token}
use Rattle.plc_tree.specs.declared.tree.Whole.{Whole}
use Rattle.plc_tree.specs.declared.tree.Expr.{Expr}
use Rattle.plc_tree.specs.declared.tree.Path.{Path}
use Rattle.plc_tree.specs.declared.tree.Stmt.{Stmt}
use Rattle.plc_tree.specs.declared.tree.Stmt.TheVariants as stmt
use Rattle.plc_tree.specs.declared.tree.Arm.{Arm, roll-Arm}
use Rattle.plc_tree.specs.declared.tree.Choice.{Choice, roll-Choice}
use Rattle.plc_tree.specs.declared.tree.Label.{Label}
use Rattle.plc_tree.specs.declared.tree.Label.TheVariants as in_label
use Rattle.plc_tokens.specs.Sorts.{sort, name_of}
use Rattle.plc_tokens.specs.Sets.{NAME, ASSIGN, RANGE, LPAREN, COMMA, SEMI, COLON, HASH, OF, IF, THEN, ELSIF, ELSE, END_IF, CASE, END_CASE, FOR, TO, BY, DO, END_FOR, WHILE, END_WHILE, REPEAT, UNTIL, END_REPEAT, EXIT, RETURN, SIGNED, LABELLED, FIRST_STMT, FIRST_ITEM}
use Rattle.phrase.specs.Piece.{Piece, pure, tok, ◌>>=◌, ◌>>◌, choose, choose_two, many, opens, opens_two, via}
use Rattle.st_expr.specs.declared.level.Level.TheVariants as at
use Rattle.st_parse.specs.declared.group.Group.{Group}
use Rattle.st_parse.specs.declared.for_list.ForList.{ForList}
use Rattle.st_expr.specs.Integers.{sint}
use Rattle.st_expr.specs.Nested.{Tall}
use Rattle.st_parse.specs.Nested.{Nested}
use Rattle.st_expr.specs.Expressions.{path, path_of, call_rest, expr}
use Rattle.plc_tokens.specs.declared.sort.Seen.{Seen}

-- ---- lists of statements

unfoldable pub next_stmt : Nested → List Stmt → Piece sort (List Stmt)
next_stmt d l = do
  s ← d.stmt
  pure (l ++ s ∷ [])

-- stmts = { stmt }
unfoldable pub stmts : Nested → Piece sort (List Stmt)
stmts d = many FIRST_STMT (next_stmt d) []

-- ELSE stmts
unfoldable pub other_stmts : Nested → Piece sort (List Stmt)
other_stmts d = do
  tok ELSE
  stmts d

-- [ ELSE stmts ]
unfoldable pub else_if_any : Nested → Piece sort (List Stmt)
else_if_any d = choose ELSE (other_stmts d) (pure [])

-- ---- IF

abbrev pub arm_of : Tall Expr → List Stmt → Arm
arm_of x b = roll-Arm (record { test = x.0; body = b })

-- expr THEN stmts
unfoldable pub arm : Nested → Piece sort Arm
arm d = do
  x ← d.inside.operand at.Whole false
  tok THEN
  b ← stmts d
  pure (arm_of x b)

-- ELSIF expr THEN stmts
unfoldable pub next_arm : Nested → List Arm → Piece sort (List Arm)
next_arm d l = do
  tok ELSIF
  a ← arm d
  pure (l ++ a ∷ [])

-- behind IF: expr THEN stmts { ELSIF expr THEN stmts } [ ELSE stmts ] END_IF ";"
unfoldable pub if_rest : Nested → Token → Piece sort Stmt
if_rest d t = do
  first ← arm d
  arms ← many ELSIF (next_arm d) (first ∷ [])
  other ← else_if_any d
  tok END_IF
  tok SEMI
  pure (stmt.If arms other)

-- ---- labels of CASE

-- ".." sint
unfoldable pub range_end : Whole → Piece sort Label
range_end low = do
  tok RANGE
  high ← sint
  pure (in_label.Range low.value high.value low.at)

-- [ ".." sint ]; one number is the range from it to it
unfoldable pub range_if_any : Whole → Piece sort Label
range_if_any low = choose RANGE (range_end low) (pure (in_label.Range low.value low.value low.at))

-- sint [ ".." sint ]
unfoldable pub numbers : Piece sort Label
numbers = do
  low ← sint
  range_if_any low

abbrev pub owned_of : Token → Token → Label
owned_of t u = in_label.Value (Some (name_of t.kind)) (name_of u.kind) t.place u.place

unfoldable pub owned : Token → Piece sort Label
owned t = do
  tok HASH
  u ← tok NAME
  pure (owned_of t u)

abbrev pub alone_of : Token → Label
alone_of t = in_label.Value None (name_of t.kind) t.place t.place

-- behind a name: [ "#" name ]
unfoldable pub value_label : Token → Piece sort Label
value_label t = choose HASH (owned t) (pure (alone_of t))

unfoldable pub named_label : Piece sort Label
named_label = do
  t ← tok NAME
  value_label t

-- label = sint [ ".." sint ] | name | name "#" name
unfoldable pub label : Piece sort Label
label = choose SIGNED numbers named_label

unfoldable pub next_label : List Label → Piece sort (List Label)
next_label l = do
  tok COMMA
  x ← label
  pure (l ++ x ∷ [])

-- behind the first label: { "," label } ":"
unfoldable pub more_labels : Label → Piece sort (List Label)
more_labels first = do
  l ← many COMMA next_label (first ∷ [])
  tok COLON
  pure l

unfoldable pub number_labels : Piece sort (List Label)
number_labels = do
  first ← numbers
  more_labels first

-- behind a name at the front of labels
unfoldable pub value_labels : Token → Piece sort (List Label)
value_labels t = do
  first ← value_label t
  more_labels first

unfoldable pub named_labels : Piece sort (List Label)
named_labels = do
  t ← tok NAME
  value_labels t

-- label { "," label } ":"
unfoldable pub labels : Piece sort (List Label)
labels = choose SIGNED number_labels named_labels

-- ---- CASE

abbrev pub choice_of : List Label → List Stmt → Choice
choice_of l b = roll-Choice (record { labels = l; body = b })

-- arm = label { "," label } ":" stmts
unfoldable pub choice : Nested → Piece sort Choice
choice d = do
  l ← labels
  b ← stmts d
  pure (choice_of l b)

unfoldable pub next_choice : Nested → List Choice → Piece sort (List Choice)
next_choice d l = do
  c ← choice d
  pure (l ++ c ∷ [])

-- arm { arm }
unfoldable pub choices : Nested → Piece sort (List Choice)
choices d = do
  c ← choice d
  many FIRST_ITEM (next_choice d) (c ∷ [])

-- The descent reads the arms as labels and then an item after another, a statement or the labels of the next arm,
-- since two tokens tell a name that is a label from one that begins a statement.

-- a group of the arms that are whole, and the one that is read
abbrev pub begun : List Label → Group
begun l = record { whole = []; labels = l; body = [] }

abbrev pub group_end : Group → List Choice
group_end g = g.whole ++ choice_of g.labels g.body ∷ []

abbrev pub next_group : Group → List Label → Group
next_group g l = record { whole = group_end g; labels = l; body = [] }

abbrev pub longer : Group → Stmt → Group
longer g s = record { whole = g.whole; labels = g.labels; body = g.body ++ s ∷ [] }

unfoldable pub number_item : Group → Piece sort Group
number_item g = do
  l ← number_labels
  pure (next_group g l)

unfoldable pub value_item : Group → Token → Piece sort Group
value_item g t = do
  l ← value_labels t
  pure (next_group g l)

unfoldable pub named_item : Group → Piece sort Group
named_item g = do
  t ← tok NAME
  value_item g t

unfoldable pub stmt_item : Nested → Group → Piece sort Group
stmt_item d g = do
  s ← d.stmt
  pure (longer g s)

unfoldable pub item : Nested → Group → Piece sort Group
item d g = choose SIGNED (number_item g) (choose_two NAME LABELLED (named_item g) (stmt_item d g))

unfoldable pub items : Nested → Piece sort (List Choice)
items d = do
  l ← labels
  g ← many FIRST_ITEM (item d) (begun l)
  pure (group_end g)

-- behind CASE: expr OF arm { arm } [ ELSE stmts ] END_CASE ";"
unfoldable pub case_rest : Nested → Token → Piece sort Stmt
case_rest d t = do
  x ← d.inside.operand at.Whole false
  tok OF
  arms ← via (choices d) (items d)
  other ← else_if_any d
  tok END_CASE
  tok SEMI
  pure (stmt.Case x.0 arms other)

-- ---- loops

-- BY expr
unfoldable pub step : Nested → Piece sort (Option Expr)
step d = do
  tok BY
  x ← d.inside.operand at.Whole false
  pure (Some x.0)

-- [ BY expr ]
unfoldable pub step_if_any : Nested → Piece sort (Option Expr)
step_if_any d = choose BY (step d) (pure None)

abbrev pub variable_of : Token → Path
variable_of t = (path_of t ([], 0)).0

abbrev pub range_of : Tall Expr → Tall Expr → Option Expr → ForList
range_of start limit by = record { start = start.0; limit = limit.0; step = by }

-- expr TO expr [ BY expr ]
unfoldable pub for_list : Nested → Piece sort ForList
for_list d = do
  start ← d.inside.operand at.Whole false
  tok TO
  limit ← d.inside.operand at.Whole false
  by ← step_if_any d
  pure (range_of start limit by)

abbrev pub for_of : Token → ForList → List Stmt → Stmt
for_of v l b = stmt.For (variable_of v) l.start l.limit l.step b

-- DO stmts, the word that ends the loop, ";"
unfoldable pub loop_body : List Seen → Nested → Piece sort (List Stmt)
loop_body ks d = do
  tok DO
  b ← stmts d
  tok ks
  tok SEMI
  pure b

-- behind FOR: name ":=" for_list DO stmts END_FOR ";"
unfoldable pub for_rest : Nested → Token → Piece sort Stmt
for_rest d t = do
  v ← tok NAME
  tok ASSIGN
  l ← for_list d
  b ← loop_body END_FOR d
  pure (for_of v l b)

-- behind WHILE: expr DO stmts END_WHILE ";"
unfoldable pub while_rest : Nested → Token → Piece sort Stmt
while_rest d t = do
  x ← d.inside.operand at.Whole false
  b ← loop_body END_WHILE d
  pure (stmt.While x.0 b)

-- behind REPEAT: stmts UNTIL expr END_REPEAT ";"
unfoldable pub repeat_rest : Nested → Token → Piece sort Stmt
repeat_rest d t = do
  b ← stmts d
  tok UNTIL
  x ← d.inside.operand at.Whole false
  tok END_REPEAT
  tok SEMI
  pure (stmt.Repeat b x.0)

-- ---- statements

-- ";"
unfoldable pub empty_stmt : Piece sort Stmt
empty_stmt = do
  tok SEMI
  pure stmt.Empty

-- EXIT ";"
unfoldable pub exit_stmt : Piece sort Stmt
exit_stmt = do
  t ← tok EXIT
  tok SEMI
  pure (stmt.Exit t.place)

-- RETURN ";"
unfoldable pub return_stmt : Piece sort Stmt
return_stmt = do
  t ← tok RETURN
  tok SEMI
  pure (stmt.Return t.place)

-- behind name "(": [ args ] ")" ";"
unfoldable pub call_stmt : Nested → Token → Piece sort Stmt
call_stmt d t = do
  l ← call_rest false d.inside
  tok SEMI
  pure (stmt.Call (name_of t.kind) t.place l.0)

abbrev pub set_of : Tall Path → Tall Expr → Stmt
set_of p x = stmt.Set p.0 x.0

-- path ":=" expr ";"
unfoldable pub set_stmt : ℕ → Nested → Piece sort Stmt
set_stmt n d = do
  p ← path NAME false n d.inside
  tok ASSIGN
  x ← expr false n d.inside
  tok SEMI
  pure (set_of p x)

-- name "(" [ args ] ")" ";" | path ":=" expr ";"
unfoldable pub called_or_set : ℕ → Nested → Piece sort Stmt
called_or_set n d = choose_two NAME LPAREN (opens_two n 0 NAME LPAREN (call_stmt d)) (set_stmt n d)

-- stmt, each alternative by its first token
unfoldable pub one_stmt : ℕ → Nested → Piece sort Stmt
one_stmt n d =
    choose SEMI empty_stmt
    (choose IF (opens n 0 IF (if_rest d))
    (choose CASE (opens n 0 CASE (case_rest d))
    (choose FOR (opens n 0 FOR (for_rest d))
    (choose WHILE (opens n 0 WHILE (while_rest d))
    (choose REPEAT (opens n 0 REPEAT (repeat_rest d))
    (choose EXIT exit_stmt
    (choose RETURN return_stmt
    (called_or_set n d))))))))
