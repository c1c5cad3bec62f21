-- For each production of initial values, tokens that spell a value, and some that differ little and spell none.
use Rattle.std.proofs.Common.{◌≡◌, ℕ, true, [], ◌∷◌, Option, Some, None, refl, pos, negsuc, Ok, Err, codes}
use Rattle.plc_base.specs.declared.elem.Elem.TheVariants.{Int}
use Rattle.plc_base.specs.declared.kind.Kind.{Kind}
use Rattle.plc_tree.specs.declared.tree.Init.{Init}
use Rattle.plc_tree.specs.declared.tree.Init.TheVariants as in_init
use Rattle.plc_tree.specs.declared.tree.Item.{Item}
use Rattle.plc_tree.specs.declared.tree.Item.TheVariants as in_item
use Rattle.plc_tree.specs.declared.tree.InitPart.{InitPart, roll-InitPart}
use Rattle.plc_tokens.specs.Sorts.{name_of}
use Rattle.phrase.specs.declared.Fault.TheVariants.{Wrong, Deep}
use Rattle.phrase.specs.Exact.{Phrase}
use Rattle.phrase.proofs.Worked.{spelled, denied, left_over}
use Rattle.st_expr.proofs.SampleTokens.{here, nth, from, A, B, C, one, two, five, int_five, yes, time, assign, lparen, rparen, lbracket, rbracket, comma, semi, plus, minus, equal, hash}
use Rattle.type_parse.proofs.SampleTokens.{types_on_tokens, id}
use Rattle.type_parse.specs.Initials.{number, negative, truth, span, literal, value, list_rest, part, struct_rest, none_or_init, many_rest, item}
use Rattle.type_parse.specs.Depth.{inner, Initials, init_if_any}
use Rattle.type_parse.proofs.InitialLaws.{number_laws, negative_laws, truth_laws, span_laws, literal_laws, value_laws, list_laws, part_laws, struct_laws, none_or_init_laws, many_laws, item_laws}
use Rattle.type_parse.proofs.DepthLaws.{below_inits, inits_laws, init_if_any_laws}

-- 5 at this token
abbrev five_at : ℕ → Init
five_at n = in_init.Number (pos 5) None (here n)

-- a field of this name at this token
abbrev part_at : ℕ → Kind → Init → InitPart
part_at n k i = roll-InitPart (record { name = name_of k; at = here n; init = i })

-- ---- literals

-- 5 and INT#5, and a truth value is no number
number_reads : number.run (from 0 (five ∷ [])) ≡ (Ok (five_at 0), [])
unfolding types_on_tokens
number_reads = refl

number_spelled : number.lang (from 0 (five ∷ [])) (five_at 0)
number_spelled = spelled ((number_laws 3 true).law refl) number_reads

typed_reads : number.run (from 0 (int_five ∷ [])) ≡ (Ok (in_init.Number (pos 5) (Some Int) (here 0)), [])
unfolding types_on_tokens
typed_reads = refl

typed_spelled : number.lang (from 0 (int_five ∷ [])) (in_init.Number (pos 5) (Some Int) (here 0))
typed_spelled = spelled ((number_laws 3 true).law refl) typed_reads

number_stops : number.run (from 0 (yes ∷ [])) ≡ (Err Wrong, from 0 (yes ∷ []))
unfolding types_on_tokens
number_stops = refl

number_denied : (a : Init) → Phrase (λ _. number) (from 0 (yes ∷ [])) a → ⊥
number_denied = denied ((number_laws 3 true).law refl) number_stops

-- -5, and no type stands behind -
negative_reads : negative.run (from 0 (minus ∷ five ∷ [])) ≡ (Ok (in_init.Number (negsuc 4) None (here 0)), [])
unfolding types_on_tokens
negative_reads = refl

negative_spelled : negative.lang (from 0 (minus ∷ five ∷ [])) (in_init.Number (negsuc 4) None (here 0))
negative_spelled = spelled ((negative_laws 3 true).law refl) negative_reads

negative_stops : negative.run (from 0 (minus ∷ int_five ∷ [])) ≡ (Err Wrong, from 1 (int_five ∷ []))
unfolding types_on_tokens
negative_stops = refl

negative_denied : (a : Init) → Phrase (λ _. negative) (from 0 (minus ∷ int_five ∷ [])) a → ⊥
negative_denied = denied ((negative_laws 3 true).law refl) negative_stops

-- TRUE, and a name is no truth value
truth_reads : truth.run (from 0 (yes ∷ [])) ≡ (Ok (in_init.Truth true (here 0)), [])
unfolding types_on_tokens
truth_reads = refl

truth_spelled : truth.lang (from 0 (yes ∷ [])) (in_init.Truth true (here 0))
truth_spelled = spelled ((truth_laws 3 true).law refl) truth_reads

truth_stops : truth.run (from 0 (A ∷ [])) ≡ (Err Wrong, from 0 (A ∷ []))
unfolding types_on_tokens
truth_stops = refl

truth_denied : (a : Init) → Phrase (λ _. truth) (from 0 (A ∷ [])) a → ⊥
truth_denied = denied ((truth_laws 3 true).law refl) truth_stops

-- T#3ns, and a number is no duration
span_reads : span.run (from 0 (time ∷ [])) ≡ (Ok (in_init.Span (pos 3) (here 0)), [])
unfolding types_on_tokens
span_reads = refl

span_spelled : span.lang (from 0 (time ∷ [])) (in_init.Span (pos 3) (here 0))
span_spelled = spelled ((span_laws 3 true).law refl) span_reads

span_stops : span.run (from 0 (five ∷ [])) ≡ (Err Wrong, from 0 (five ∷ []))
unfolding types_on_tokens
span_stops = refl

span_denied : (a : Init) → Phrase (λ _. span) (from 0 (five ∷ [])) a → ⊥
span_denied = denied ((span_laws 3 true).law refl) span_stops

-- each of them is a literal, and a sum is none, nor is a literal behind +
literal_negative_reads : literal.run (from 0 (minus ∷ five ∷ [])) ≡ (Ok (in_init.Number (negsuc 4) None (here 0)), [])
unfolding types_on_tokens
literal_negative_reads = refl

literal_negative_spelled : literal.lang (from 0 (minus ∷ five ∷ [])) (in_init.Number (negsuc 4) None (here 0))
literal_negative_spelled = spelled ((literal_laws 3 true).law refl) literal_negative_reads

literal_number_reads : literal.run (from 0 (five ∷ [])) ≡ (Ok (five_at 0), [])
unfolding types_on_tokens
literal_number_reads = refl

literal_number_spelled : literal.lang (from 0 (five ∷ [])) (five_at 0)
literal_number_spelled = spelled ((literal_laws 3 true).law refl) literal_number_reads

literal_truth_reads : literal.run (from 0 (yes ∷ [])) ≡ (Ok (in_init.Truth true (here 0)), [])
unfolding types_on_tokens
literal_truth_reads = refl

literal_truth_spelled : literal.lang (from 0 (yes ∷ [])) (in_init.Truth true (here 0))
literal_truth_spelled = spelled ((literal_laws 3 true).law refl) literal_truth_reads

literal_span_reads : literal.run (from 0 (time ∷ [])) ≡ (Ok (in_init.Span (pos 3) (here 0)), [])
unfolding types_on_tokens
literal_span_reads = refl

literal_span_spelled : literal.lang (from 0 (time ∷ [])) (in_init.Span (pos 3) (here 0))
literal_span_spelled = spelled ((literal_laws 3 true).law refl) literal_span_reads

literal_stops : literal.run (from 0 (five ∷ plus ∷ five ∷ [])) ≡ (Ok (five_at 0), from 1 (plus ∷ five ∷ []))
unfolding types_on_tokens
literal_stops = refl

literal_denied : (a : Init) → Phrase (λ _. literal) (from 0 (five ∷ plus ∷ five ∷ [])) a → ⊥
literal_denied = left_over ((literal_laws 3 true).law refl) literal_stops

literal_plus_stops : literal.run (from 0 (plus ∷ five ∷ [])) ≡ (Err Wrong, from 0 (plus ∷ five ∷ []))
unfolding types_on_tokens
literal_plus_stops = refl

literal_plus_denied : (a : Init) → Phrase (λ _. literal) (from 0 (plus ∷ five ∷ [])) a → ⊥
literal_plus_denied = denied ((literal_laws 3 true).law refl) literal_plus_stops

-- ---- values of enumerations

-- A and A#B, and a number behind "#"
value_reads : value.run (from 0 (A ∷ [])) ≡ (Ok (in_init.Named (id 0 A)), [])
unfolding types_on_tokens
value_reads = refl

value_spelled : value.lang (from 0 (A ∷ [])) (in_init.Named (id 0 A))
value_spelled = spelled ((value_laws 3 true).law refl) value_reads

value_owned_reads : value.run (from 0 (A ∷ hash ∷ B ∷ [])) ≡ (Ok (in_init.Value (codes "A") (codes "B") (here 0) (here 2)), [])
unfolding types_on_tokens
value_owned_reads = refl

value_owned_spelled : value.lang (from 0 (A ∷ hash ∷ B ∷ [])) (in_init.Value (codes "A") (codes "B") (here 0) (here 2))
value_owned_spelled = spelled ((value_laws 3 true).law refl) value_owned_reads

value_stops : value.run (from 0 (A ∷ hash ∷ five ∷ [])) ≡ (Err Wrong, from 2 (five ∷ []))
unfolding types_on_tokens
value_stops = refl

value_denied : (a : Init) → Phrase (λ _. value) (from 0 (A ∷ hash ∷ five ∷ [])) a → ⊥
value_denied = denied ((value_laws 3 true).law refl) value_stops

-- A#B#C has one enumeration too many
value_owned_stops : value.run (from 0 (A ∷ hash ∷ B ∷ hash ∷ C ∷ [])) ≡ (Ok (in_init.Value (codes "A") (codes "B") (here 0) (here 2)), from 3 (hash ∷ C ∷ []))
unfolding types_on_tokens
value_owned_stops = refl

value_owned_denied : (a : Init) → Phrase (λ _. value) (from 0 (A ∷ hash ∷ B ∷ hash ∷ C ∷ [])) a → ⊥
value_owned_denied = left_over ((value_laws 3 true).law refl) value_owned_stops

-- ---- lists and structures

-- behind "[": 5, A, TRUE]
list_reads : (list_rest (inner 3) (nth 0 lbracket)).run (from 1 (five ∷ comma ∷ A ∷ comma ∷ yes ∷ rbracket ∷ [])) ≡ (Ok (in_init.List (in_item.One (five_at 1) ∷ in_item.One (in_init.Named (id 3 A)) ∷ in_item.One (in_init.Truth true (here 5)) ∷ []) (here 0)), [])
unfolding types_on_tokens
list_reads = refl

list_spelled : (list_rest (inner 3) (nth 0 lbracket)).lang (from 1 (five ∷ comma ∷ A ∷ comma ∷ yes ∷ rbracket ∷ [])) (in_init.List (in_item.One (five_at 1) ∷ in_item.One (in_init.Named (id 3 A)) ∷ in_item.One (in_init.Truth true (here 5)) ∷ []) (here 0))
list_spelled = spelled ((list_laws 3 inner (below_inits 3) (nth 0 lbracket)).law refl) list_reads

-- a list has an element, and one behind each ","
list_stops : (list_rest (inner 3) (nth 0 lbracket)).run (from 1 (rbracket ∷ [])) ≡ (Err Wrong, from 1 (rbracket ∷ []))
unfolding types_on_tokens
list_stops = refl

list_denied : (a : Init) → Phrase (λ e. list_rest (inner e) (nth 0 lbracket)) (from 1 (rbracket ∷ [])) a → ⊥
list_denied = denied ((list_laws 3 inner (below_inits 3) (nth 0 lbracket)).law refl) list_stops

list_comma_stops : (list_rest (inner 3) (nth 0 lbracket)).run (from 1 (five ∷ comma ∷ rbracket ∷ [])) ≡ (Err Wrong, from 3 (rbracket ∷ []))
unfolding types_on_tokens
list_comma_stops = refl

list_comma_denied : (a : Init) → Phrase (λ e. list_rest (inner e) (nth 0 lbracket)) (from 1 (five ∷ comma ∷ rbracket ∷ [])) a → ⊥
list_comma_denied = denied ((list_laws 3 inner (below_inits 3) (nth 0 lbracket)).law refl) list_comma_stops

-- A := 5, and "=" for ":="
part_reads : (part (inner 3)).run (from 0 (A ∷ assign ∷ five ∷ [])) ≡ (Ok (part_at 0 A (five_at 2)), [])
unfolding types_on_tokens
part_reads = refl

part_spelled : (part (inner 3)).lang (from 0 (A ∷ assign ∷ five ∷ [])) (part_at 0 A (five_at 2))
part_spelled = spelled ((part_laws 3 inner (below_inits 3)).law refl) part_reads

part_stops : (part (inner 3)).run (from 0 (A ∷ equal ∷ five ∷ [])) ≡ (Err Wrong, from 1 (equal ∷ five ∷ []))
unfolding types_on_tokens
part_stops = refl

part_denied : (a : InitPart) → Phrase (λ e. part (inner e)) (from 0 (A ∷ equal ∷ five ∷ [])) a → ⊥
part_denied = denied ((part_laws 3 inner (below_inits 3)).law refl) part_stops

-- behind "(": A := 5, B := TRUE)
struct_reads : (struct_rest (inner 3) (nth 0 lparen)).run (from 1 (A ∷ assign ∷ five ∷ comma ∷ B ∷ assign ∷ yes ∷ rparen ∷ [])) ≡ (Ok (in_init.Struct (part_at 1 A (five_at 3) ∷ part_at 5 B (in_init.Truth true (here 7)) ∷ []) (here 0)), [])
unfolding types_on_tokens
struct_reads = refl

struct_spelled : (struct_rest (inner 3) (nth 0 lparen)).lang (from 1 (A ∷ assign ∷ five ∷ comma ∷ B ∷ assign ∷ yes ∷ rparen ∷ [])) (in_init.Struct (part_at 1 A (five_at 3) ∷ part_at 5 B (in_init.Truth true (here 7)) ∷ []) (here 0))
struct_spelled = spelled ((struct_laws 3 inner (below_inits 3) (nth 0 lparen)).law refl) struct_reads

-- a field at least, which has a name
struct_stops : (struct_rest (inner 3) (nth 0 lparen)).run (from 1 (rparen ∷ [])) ≡ (Err Wrong, from 1 (rparen ∷ []))
unfolding types_on_tokens
struct_stops = refl

struct_denied : (a : Init) → Phrase (λ e. struct_rest (inner e) (nth 0 lparen)) (from 1 (rparen ∷ [])) a → ⊥
struct_denied = denied ((struct_laws 3 inner (below_inits 3) (nth 0 lparen)).law refl) struct_stops

struct_unnamed_stops : (struct_rest (inner 3) (nth 0 lparen)).run (from 1 (five ∷ rparen ∷ [])) ≡ (Err Wrong, from 1 (five ∷ rparen ∷ []))
unfolding types_on_tokens
struct_unnamed_stops = refl

struct_unnamed_denied : (a : Init) → Phrase (λ e. struct_rest (inner e) (nth 0 lparen)) (from 1 (five ∷ rparen ∷ [])) a → ⊥
struct_unnamed_denied = denied ((struct_laws 3 inner (below_inits 3) (nth 0 lparen)).law refl) struct_unnamed_stops

-- ---- elements of lists

-- a value or none, and ")" is left
no_init_reads : (none_or_init (inner 3)).run [] ≡ (Ok None, [])
unfolding types_on_tokens
no_init_reads = refl

no_init_spelled : (none_or_init (inner 3)).lang [] None
no_init_spelled = spelled ((none_or_init_laws 3 inner (below_inits 3)).law refl) no_init_reads

some_init_reads : (none_or_init (inner 3)).run (from 0 (five ∷ [])) ≡ (Ok (Some (five_at 0)), [])
unfolding types_on_tokens
some_init_reads = refl

some_init_spelled : (none_or_init (inner 3)).lang (from 0 (five ∷ [])) (Some (five_at 0))
some_init_spelled = spelled ((none_or_init_laws 3 inner (below_inits 3)).law refl) some_init_reads

no_init_stops : (none_or_init (inner 3)).run (from 0 (rparen ∷ [])) ≡ (Ok None, from 0 (rparen ∷ []))
unfolding types_on_tokens
no_init_stops = refl

no_init_denied : (a : (Option Init)) → Phrase (λ e. none_or_init (inner e)) (from 0 (rparen ∷ [])) a → ⊥
no_init_denied = left_over ((none_or_init_laws 3 inner (below_inits 3)).law refl) no_init_stops

-- behind 2(: 5) and )
many_reads : (many_rest (inner 3) (nth 0 two) (nth 1 lparen)).run (from 2 (five ∷ rparen ∷ [])) ≡ (Ok (in_item.Many (record { value = pos 2; at = here 0 }) (Some (five_at 2))), [])
unfolding types_on_tokens
many_reads = refl

many_spelled : (many_rest (inner 3) (nth 0 two) (nth 1 lparen)).lang (from 2 (five ∷ rparen ∷ [])) (in_item.Many (record { value = pos 2; at = here 0 }) (Some (five_at 2)))
many_spelled = spelled ((many_laws 3 inner (below_inits 3) (nth 0 two) (nth 1 lparen)).law refl) many_reads

many_none_reads : (many_rest (inner 3) (nth 0 two) (nth 1 lparen)).run (from 2 (rparen ∷ [])) ≡ (Ok (in_item.Many (record { value = pos 2; at = here 0 }) None), [])
unfolding types_on_tokens
many_none_reads = refl

many_none_spelled : (many_rest (inner 3) (nth 0 two) (nth 1 lparen)).lang (from 2 (rparen ∷ [])) (in_item.Many (record { value = pos 2; at = here 0 }) None)
many_none_spelled = spelled ((many_laws 3 inner (below_inits 3) (nth 0 two) (nth 1 lparen)).law refl) many_none_reads

-- a repetition repeats one value
many_stops : (many_rest (inner 3) (nth 0 two) (nth 1 lparen)).run (from 2 (five ∷ comma ∷ five ∷ rparen ∷ [])) ≡ (Err Wrong, from 3 (comma ∷ five ∷ rparen ∷ []))
unfolding types_on_tokens
many_stops = refl

many_denied : (a : Item) → Phrase (λ e. many_rest (inner e) (nth 0 two) (nth 1 lparen)) (from 2 (five ∷ comma ∷ five ∷ rparen ∷ [])) a → ⊥
many_denied = denied ((many_laws 3 inner (below_inits 3) (nth 0 two) (nth 1 lparen)).law refl) many_stops

-- 5 and 2(A)
item_reads : (item 3 (inner 3)).run (from 0 (five ∷ [])) ≡ (Ok (in_item.One (five_at 0)), [])
unfolding types_on_tokens
item_reads = refl

item_spelled : (item 3 (inner 3)).lang (from 0 (five ∷ [])) (in_item.One (five_at 0))
item_spelled = spelled ((item_laws 3 inner (below_inits 3)).law refl) item_reads

item_counted_reads : (item 3 (inner 3)).run (from 0 (two ∷ lparen ∷ A ∷ rparen ∷ [])) ≡ (Ok (in_item.Many (record { value = pos 2; at = here 0 }) (Some (in_init.Named (id 2 A)))), [])
unfolding types_on_tokens
item_counted_reads = refl

item_counted_spelled : (item 3 (inner 3)).lang (from 0 (two ∷ lparen ∷ A ∷ rparen ∷ [])) (in_item.Many (record { value = pos 2; at = here 0 }) (Some (in_init.Named (id 2 A))))
item_counted_spelled = spelled ((item_laws 3 inner (below_inits 3)).law refl) item_counted_reads

-- "(" stands behind a count, which has no name, no sign and no type
item_bracket_stops : (item 3 (inner 3)).run (from 0 (two ∷ lbracket ∷ five ∷ rbracket ∷ [])) ≡ (Ok (in_item.One (in_init.Number (pos 2) None (here 0))), from 1 (lbracket ∷ five ∷ rbracket ∷ []))
unfolding types_on_tokens
item_bracket_stops = refl

item_bracket_denied : (a : Item) → Phrase (λ e. item e (inner e)) (from 0 (two ∷ lbracket ∷ five ∷ rbracket ∷ [])) a → ⊥
item_bracket_denied = left_over ((item_laws 3 inner (below_inits 3)).law refl) item_bracket_stops

item_name_stops : (item 3 (inner 3)).run (from 0 (A ∷ lparen ∷ five ∷ rparen ∷ [])) ≡ (Ok (in_item.One (in_init.Named (id 0 A))), from 1 (lparen ∷ five ∷ rparen ∷ []))
unfolding types_on_tokens
item_name_stops = refl

item_name_denied : (a : Item) → Phrase (λ e. item e (inner e)) (from 0 (A ∷ lparen ∷ five ∷ rparen ∷ [])) a → ⊥
item_name_denied = left_over ((item_laws 3 inner (below_inits 3)).law refl) item_name_stops

item_sign_stops : (item 3 (inner 3)).run (from 0 (minus ∷ five ∷ lparen ∷ five ∷ rparen ∷ [])) ≡ (Ok (in_item.One (in_init.Number (negsuc 4) None (here 0))), from 2 (lparen ∷ five ∷ rparen ∷ []))
unfolding types_on_tokens
item_sign_stops = refl

item_sign_denied : (a : Item) → Phrase (λ e. item e (inner e)) (from 0 (minus ∷ five ∷ lparen ∷ five ∷ rparen ∷ [])) a → ⊥
item_sign_denied = left_over ((item_laws 3 inner (below_inits 3)).law refl) item_sign_stops

item_typed_stops : (item 3 (inner 3)).run (from 0 (int_five ∷ lparen ∷ five ∷ rparen ∷ [])) ≡ (Ok (in_item.One (in_init.Number (pos 5) (Some Int) (here 0))), from 1 (lparen ∷ five ∷ rparen ∷ []))
unfolding types_on_tokens
item_typed_stops = refl

item_typed_denied : (a : Item) → Phrase (λ e. item e (inner e)) (from 0 (int_five ∷ lparen ∷ five ∷ rparen ∷ [])) a → ⊥
item_typed_denied = left_over ((item_laws 3 inner (below_inits 3)).law refl) item_typed_stops

-- ---- initial values

-- 5, A, [5()] and (A := [5])
init_reads : (Initials 3).run (from 0 (five ∷ [])) ≡ (Ok (five_at 0), [])
unfolding types_on_tokens
init_reads = refl

init_spelled : (Initials 3).lang (from 0 (five ∷ [])) (five_at 0)
init_spelled = spelled ((inits_laws 3).law refl) init_reads

init_named_reads : (Initials 3).run (from 0 (A ∷ [])) ≡ (Ok (in_init.Named (id 0 A)), [])
unfolding types_on_tokens
init_named_reads = refl

init_named_spelled : (Initials 3).lang (from 0 (A ∷ [])) (in_init.Named (id 0 A))
init_named_spelled = spelled ((inits_laws 3).law refl) init_named_reads

init_list_reads : (Initials 3).run (from 0 (lbracket ∷ five ∷ lparen ∷ rparen ∷ rbracket ∷ [])) ≡ (Ok (in_init.List (in_item.Many (record { value = pos 5; at = here 1 }) None ∷ []) (here 0)), [])
unfolding types_on_tokens
init_list_reads = refl

init_list_spelled : (Initials 3).lang (from 0 (lbracket ∷ five ∷ lparen ∷ rparen ∷ rbracket ∷ [])) (in_init.List (in_item.Many (record { value = pos 5; at = here 1 }) None ∷ []) (here 0))
init_list_spelled = spelled ((inits_laws 3).law refl) init_list_reads

init_struct_reads : (Initials 3).run (from 0 (lparen ∷ A ∷ assign ∷ lbracket ∷ five ∷ rbracket ∷ rparen ∷ [])) ≡ (Ok (in_init.Struct (part_at 1 A (in_init.List (in_item.One (five_at 4) ∷ []) (here 3)) ∷ []) (here 0)), [])
unfolding types_on_tokens
init_struct_reads = refl

init_struct_spelled : (Initials 3).lang (from 0 (lparen ∷ A ∷ assign ∷ lbracket ∷ five ∷ rbracket ∷ rparen ∷ [])) (in_init.Struct (part_at 1 A (in_init.List (in_item.One (five_at 4) ∷ []) (here 3)) ∷ []) (here 0))
init_struct_spelled = spelled ((inits_laws 3).law refl) init_struct_reads

-- [] has no element
init_stops : (Initials 3).run (from 0 (lbracket ∷ rbracket ∷ [])) ≡ (Err Wrong, from 1 (rbracket ∷ []))
unfolding types_on_tokens
init_stops = refl

init_denied : (a : Init) → Phrase Initials (from 0 (lbracket ∷ rbracket ∷ [])) a → ⊥
init_denied = denied ((inits_laws 3).law refl) init_stops

-- [2(5(1))] repeats a repetition
init_repeated_stops : (Initials 3).run (from 0 (lbracket ∷ two ∷ lparen ∷ five ∷ lparen ∷ one ∷ rparen ∷ rparen ∷ rbracket ∷ [])) ≡ (Err Wrong, from 4 (lparen ∷ one ∷ rparen ∷ rparen ∷ rbracket ∷ []))
unfolding types_on_tokens
init_repeated_stops = refl

init_repeated_denied : (a : Init) → Phrase Initials (from 0 (lbracket ∷ two ∷ lparen ∷ five ∷ lparen ∷ one ∷ rparen ∷ rparen ∷ rbracket ∷ [])) a → ⊥
init_repeated_denied = denied ((inits_laws 3).law refl) init_repeated_stops

-- [5( ends too early
init_cut_stops : (Initials 3).run (from 0 (lbracket ∷ five ∷ lparen ∷ [])) ≡ (Err Wrong, [])
unfolding types_on_tokens
init_cut_stops = refl

init_cut_denied : (a : Init) → Phrase Initials (from 0 (lbracket ∷ five ∷ lparen ∷ [])) a → ⊥
init_cut_denied = denied ((inits_laws 3).law refl) init_cut_stops

-- 2(5) stands in a list alone
init_counted_stops : (Initials 3).run (from 0 (two ∷ lparen ∷ five ∷ rparen ∷ [])) ≡ (Ok (in_init.Number (pos 2) None (here 0)), from 1 (lparen ∷ five ∷ rparen ∷ []))
unfolding types_on_tokens
init_counted_stops = refl

init_counted_denied : (a : Init) → Phrase Initials (from 0 (two ∷ lparen ∷ five ∷ rparen ∷ [])) a → ⊥
init_counted_denied = left_over ((inits_laws 3).law refl) init_counted_stops

-- (5) names no field
init_paren_stops : (Initials 3).run (from 0 (lparen ∷ five ∷ rparen ∷ [])) ≡ (Err Wrong, from 1 (five ∷ rparen ∷ []))
unfolding types_on_tokens
init_paren_stops = refl

init_paren_denied : (a : Init) → Phrase Initials (from 0 (lparen ∷ five ∷ rparen ∷ [])) a → ⊥
init_paren_denied = denied ((inits_laws 3).law refl) init_paren_stops

-- ":=" and a value, or neither
no_assigned_reads : (init_if_any 3).run [] ≡ (Ok None, [])
unfolding types_on_tokens
no_assigned_reads = refl

no_assigned_spelled : (init_if_any 3).lang [] None
no_assigned_spelled = spelled ((init_if_any_laws 3).law refl) no_assigned_reads

assigned_reads : (init_if_any 3).run (from 0 (assign ∷ five ∷ [])) ≡ (Ok (Some (five_at 1)), [])
unfolding types_on_tokens
assigned_reads = refl

assigned_spelled : (init_if_any 3).lang (from 0 (assign ∷ five ∷ [])) (Some (five_at 1))
assigned_spelled = spelled ((init_if_any_laws 3).law refl) assigned_reads

assigned_stops : (init_if_any 3).run (from 0 (assign ∷ semi ∷ [])) ≡ (Err Wrong, from 1 (semi ∷ []))
unfolding types_on_tokens
assigned_stops = refl

assigned_denied : (a : (Option Init)) → Phrase init_if_any (from 0 (assign ∷ semi ∷ [])) a → ⊥
assigned_denied = denied ((init_if_any_laws 3).law refl) assigned_stops

-- ---- where nodes nest too deep

-- three lists fit
lists_fits : (Initials 3).run (from 0 (lbracket ∷ lbracket ∷ lbracket ∷ five ∷ rbracket ∷ rbracket ∷ rbracket ∷ [])) ≡ (Ok (in_init.List (in_item.One (in_init.List (in_item.One (in_init.List (in_item.One (five_at 3) ∷ []) (here 2)) ∷ []) (here 1)) ∷ []) (here 0)), [])
unfolding types_on_tokens
lists_fits = refl

-- and a fourth does not
lists_deep : (Initials 3).run (from 0 (lbracket ∷ lbracket ∷ lbracket ∷ lbracket ∷ five ∷ rbracket ∷ rbracket ∷ rbracket ∷ rbracket ∷ [])) ≡ (Err Deep, from 3 (lbracket ∷ five ∷ rbracket ∷ rbracket ∷ rbracket ∷ rbracket ∷ []))
unfolding types_on_tokens
lists_deep = refl

-- a repetition is a node too
repetitions_deep : (Initials 3).run (from 0 (lbracket ∷ two ∷ lparen ∷ lbracket ∷ two ∷ lparen ∷ five ∷ rparen ∷ rbracket ∷ rparen ∷ rbracket ∷ [])) ≡ (Err Deep, from 5 (lparen ∷ five ∷ rparen ∷ rbracket ∷ rparen ∷ rbracket ∷ []))
unfolding types_on_tokens
repetitions_deep = refl

-- and so is a structure
structs_deep : (Initials 3).run (from 0 (lbracket ∷ lparen ∷ A ∷ assign ∷ lbracket ∷ lparen ∷ B ∷ assign ∷ five ∷ rparen ∷ rbracket ∷ rparen ∷ rbracket ∷ [])) ≡ (Err Deep, from 5 (lparen ∷ B ∷ assign ∷ five ∷ rparen ∷ rbracket ∷ rparen ∷ rbracket ∷ []))
unfolding types_on_tokens
structs_deep = refl

-- with no node, a literal and a name fit
literal_fits : (Initials 0).run (from 0 (minus ∷ five ∷ [])) ≡ (Ok (in_init.Number (negsuc 4) None (here 0)), [])
unfolding types_on_tokens
literal_fits = refl

name_fits : (Initials 0).run (from 0 (A ∷ [])) ≡ (Ok (in_init.Named (id 0 A)), [])
unfolding types_on_tokens
name_fits = refl

-- but not "(" behind an integer
counted_deep : (item 0 (inner 0)).run (from 0 (two ∷ lparen ∷ five ∷ rparen ∷ [])) ≡ (Err Deep, from 1 (lparen ∷ five ∷ rparen ∷ []))
unfolding types_on_tokens
counted_deep = refl
