-- Two sources from their bytes on, one that is accepted, and its typed unit, and one that is refused at the front; and the tokens
-- of one that is refused for a use.
use Rattle.std.proofs.Common.{◌≡◌, refl, ℕ, List, [], ◌∷◌, sym, subst, codes, inl, inr, Bool, true, false, pos, Result, Ok, Err, Some, None}
use Rattle.plc_base.specs.declared.refusal.Place.{Place}
use Rattle.plc_base.specs.declared.refusal.Rule.TheVariants.{G1, NotYet}
use Rattle.plc_base.specs.declared.kind.Kind.TheVariants.{Word, Number, Span, Symbol, End}
use Rattle.plc_tokens.specs.declared.token.Token.{Token}
use Rattle.plc_tree.specs.declared.tree.Unit.{Unit as Source}
use Rattle.plc_tree.specs.declared.tree.Arg.TheBlock.{hidden-the_row-Expr-1, hidden-the_row-Part-0}
use Rattle.plc_tree.specs.declared.typed.TExpr.TheBlock.{hidden-the_row-TExpr-0}
use Rattle.plc_tree.proofs.Sample.{sample}
use Rattle.plc_lex.specs.Comments.{comment}
use Rattle.plc_spelling.specs.Spelling.{size}
use Rattle.plc_lex.specs.Tokens.{lexed, token, tokens_from}
use Rattle.phrase.specs.declared.Fault.{Fault}
use Rattle.phrase.specs.declared.Fault.TheVariants.{Wrong}
use Rattle.plc_tokens.specs.Sorts.{reserved_word}
use Rattle.decl_parse.specs.Sources.{closed}
use Rattle.decl_parse.specs.Parsed.{MOST, IsAtFront}
use Rattle.decl_parse.proofs.Front.{accepted, wrong_at}
use Rattle.decl_parse.proofs.SampleTokens.{sources_on_tokens}
use Rattle.plc_typing.specs.Uses.{faults, broken}
use Rattle.plc_typing.specs.Typing.{typed, typed_expr, typed_stmt}
use Rattle.plc_typing.proofs.StandardNames.{standard_names}
use Rattle.plc_top.specs.Decision.{source_tokens, end_of, IsUnitOf, IsRefusedFor, IsRefused}

-- ---- tokens

-- where a token of a source begins
abbrev at : ℕ → ℕ → ℕ → Place
at line col number = record { file = 0; line = line; col = col; token = number }

abbrev word : List ℕ → Place → Bool → Token
word name place fresh = token (Word name) name place fresh

abbrev symbol : ℕ → List ℕ → Place → Token
symbol number bytes place = token (Symbol number) bytes place false

-- ---- accepted

abbrev counting_source : List ℕ
counting_source =
    codes "PROGRAM P\nVAR A : INT; B : BOOL; END_VAR\nA := A + 1; B := A = 1;\nEND_PROGRAM\nCONFIGURATION C RESOURCE R ON PLC TASK T0(INTERVAL := T#20ms, PRIORITY := 0); PROGRAM I WITH T0 : P; END_RESOURCE END_CONFIGURATION\n"

-- from line 5 on
abbrev from_configuration : List Token
from_configuration =
    word (codes "CONFIGURATION") (at 5 1 25) true ∷ word (codes "C") (at 5 15 26) false ∷ word (codes "RESOURCE") (at 5 17 27) false ∷
    word (codes "R") (at 5 26 28) false ∷ word (codes "ON") (at 5 28 29) false ∷ word (codes "PLC") (at 5 31 30) false ∷
    word (codes "TASK") (at 5 35 31) false ∷ word (codes "T0") (at 5 40 32) false ∷ symbol 6 (codes "(") (at 5 42 33) ∷
    word (codes "INTERVAL") (at 5 43 34) false ∷ symbol 0 (codes ":=") (at 5 52 35) ∷ token (Span (pos 20000000)) (codes "T#20ms") (at 5 55 36) false ∷
    symbol 10 (codes ",") (at 5 61 37) ∷ word (codes "PRIORITY") (at 5 63 38) false ∷ symbol 0 (codes ":=") (at 5 72 39) ∷
    token (Number (pos 0) None) (codes "0") (at 5 75 40) false ∷ symbol 7 (codes ")") (at 5 76 41) ∷ symbol 11 (codes ";") (at 5 77 42) ∷
    word (codes "PROGRAM") (at 5 79 43) false ∷ word (codes "I") (at 5 87 44) false ∷ word (codes "WITH") (at 5 89 45) false ∷
    word (codes "T0") (at 5 94 46) false ∷ symbol 12 (codes ":") (at 5 97 47) ∷ word (codes "P") (at 5 99 48) false ∷ symbol 11 (codes ";") (at 5 100 49) ∷
    word (codes "END_RESOURCE") (at 5 102 50) false ∷ word (codes "END_CONFIGURATION") (at 5 115 51) false ∷ token End [] (at 6 1 52) true ∷ []

-- from line 3 on
abbrev from_statements : List Token
from_statements =
    word (codes "A") (at 3 1 12) true ∷ symbol 0 (codes ":=") (at 3 3 13) ∷ word (codes "A") (at 3 6 14) false ∷ symbol 14 (codes "+") (at 3 8 15) ∷
    token (Number (pos 1) None) (codes "1") (at 3 10 16) false ∷ symbol 11 (codes ";") (at 3 11 17) ∷ word (codes "B") (at 3 13 18) false ∷
    symbol 0 (codes ":=") (at 3 15 19) ∷ word (codes "A") (at 3 18 20) false ∷ symbol 19 (codes "=") (at 3 20 21) ∷
    token (Number (pos 1) None) (codes "1") (at 3 22 22) false ∷ symbol 11 (codes ";") (at 3 23 23) ∷ word (codes "END_PROGRAM") (at 4 1 24) true ∷ from_configuration

abbrev counting_tokens : List Token
counting_tokens =
    word (codes "PROGRAM") (at 1 1 0) false ∷ word (codes "P") (at 1 9 1) false ∷ word (codes "VAR") (at 2 1 2) true ∷ word (codes "A") (at 2 5 3) false ∷
    symbol 12 (codes ":") (at 2 7 4) ∷ word (codes "INT") (at 2 9 5) false ∷ symbol 11 (codes ";") (at 2 12 6) ∷ word (codes "B") (at 2 14 7) false ∷
    symbol 12 (codes ":") (at 2 16 8) ∷ word (codes "BOOL") (at 2 18 9) false ∷ symbol 11 (codes ";") (at 2 22 10) ∷
    word (codes "END_VAR") (at 2 24 11) false ∷ from_statements

-- these are the tokens of its bytes
counting_lexed : source_tokens counting_source ≡ counting_tokens
unfolding lexed tokens_from size comment
counting_lexed = refl

-- the tree that was read
tree_of : Result Source Fault → Source
tree_of (Ok tree) = tree
tree_of (Err fault) = record { types = []; pous = []; configs = [] }

abbrev counting_tree : Source
counting_tree = tree_of ((closed MOST).run counting_tokens).0

-- the source is read to its end, none of its uses is broken, and its typed unit is the one whose two scans show 1 1 and 2 0
record IsWorked : Type 0 where
  reads : (closed MOST).run counting_tokens ≡ (Ok counting_tree, [])
  unbroken : faults (end_of counting_tokens) counting_tree ≡ []
  typed : typed counting_tree ≡ sample

worked : IsWorked
unfolding sources_on_tokens standard_names typed_expr typed_stmt tree_of hidden-the_row-Expr-1 hidden-the_row-Part-0 hidden-the_row-TExpr-0 denote.Hole.Carrier.hidden
worked = record { reads = refl; unbroken = refl; typed = refl }

counting_accepted : IsUnitOf (source_tokens counting_source) counting_tree
counting_accepted =
    subst (λ tokens. IsUnitOf tokens counting_tree) (sym counting_lexed)
    (record { spelled = accepted counting_tokens counting_tree [] worked.reads refl; unbroken = worked.unbroken })

-- ---- refused at the front

-- behind a name a statement goes on, but not with its end
abbrev refused_source : List ℕ
refused_source = codes "PROGRAM P VAR END_VAR A;"

abbrev early_end : Token
early_end = symbol 11 (codes ";") (at 1 24 5)

abbrev from_early_end : List Token
from_early_end = early_end ∷ token End [] (at 1 25 6) false ∷ []

abbrev refused_tokens : List Token
refused_tokens =
    word (codes "PROGRAM") (at 1 1 0) false ∷ word (codes "P") (at 1 9 1) false ∷ word (codes "VAR") (at 1 11 2) false
    ∷ word (codes "END_VAR") (at 1 15 3) false ∷ word (codes "A") (at 1 23 4) false ∷ from_early_end

refused_lexed : source_tokens refused_source ≡ refused_tokens
unfolding lexed tokens_from size comment
refused_lexed = refl

refused_reads : (closed MOST).run refused_tokens ≡ (Err Wrong, from_early_end)
unfolding sources_on_tokens
refused_reads = refl

refused_front : IsAtFront refused_tokens from_early_end (record { rule = G1; place = early_end.place })
unfolding reserved_word
refused_front = record { token = early_end; next = refl; rule = refl; place = refl }

pub refused_row : IsRefused refused_source (record { rule = G1; place = early_end.place })
unfolding IsRefused
refused_row =
    subst (λ tokens. IsRefusedFor tokens (record { rule = G1; place = early_end.place })) (sym refused_lexed)
    (inl (wrong_at refused_tokens from_early_end (record { rule = G1; place = early_end.place }) refused_reads refused_front))

-- ---- refused for a use

-- the value of an assignment that no variable has: A := B; where A alone is declared
abbrev unknown : Token
unknown = word (codes "B") (at 3 6 10) false

abbrev broken_tokens : List Token
broken_tokens =
    word (codes "PROGRAM") (at 1 1 0) false ∷ word (codes "P") (at 1 9 1) false ∷ word (codes "VAR") (at 2 1 2) true ∷ word (codes "A") (at 2 5 3) false
    ∷ symbol 12 (codes ":") (at 2 7 4) ∷ word (codes "INT") (at 2 9 5) false ∷ symbol 11 (codes ";") (at 2 12 6) ∷ word (codes "END_VAR") (at 2 14 7) false
    ∷ word (codes "A") (at 3 1 8) true ∷ symbol 0 (codes ":=") (at 3 3 9) ∷ unknown ∷ symbol 11 (codes ";") (at 3 7 11) ∷ word (codes "END_PROGRAM") (at 4 1 12) true ∷ from_configuration

abbrev broken_tree : Source
broken_tree = tree_of ((closed MOST).run broken_tokens).0

record IsBrokenThere : Type 0 where
  reads : (closed MOST).run broken_tokens ≡ (Ok broken_tree, [])
  least : broken (end_of broken_tokens) broken_tree ≡ Some (record { rule = NotYet; place = unknown.place })

broken_there : IsBrokenThere
unfolding sources_on_tokens standard_names tree_of hidden-the_row-Expr-1 hidden-the_row-Part-0 denote.Hole.Carrier.hidden
broken_there = record { reads = refl; least = refl }

broken_row : IsRefusedFor broken_tokens (record { rule = NotYet; place = unknown.place })
broken_row = inr (record { tree = broken_tree; spelled = accepted broken_tokens broken_tree [] broken_there.reads refl; least = broken_there.least })
