-- No token of a phrase ends a list or is left out.
use Rattle.std.proofs.Common.{◌≡◌, ℕ, zero, suc, Bool, true, false, List, [], refl}
use Rattle.plc_tokens.specs.declared.token.Token.{Token}
use Rattle.plc_tree.specs.declared.tree.Expr.{Expr}
use Rattle.plc_tree.specs.declared.tree.Part.{Part}
use Rattle.plc_tree.specs.declared.tree.Arg.{Arg}
use Rattle.plc_tokens.specs.Sorts.{sort_in}
use Rattle.plc_tokens.specs.Sets as G
use Rattle.plc_tokens.proofs.Lacks.{Lacks, goes_on, lacks_pure, lacks_tok, lacks_bind, lacks_many, lacks_choose, lacks_choose_two, lacks_choose_three, lacks_opens, lacks_none, lacks_also, lacks_seen}
use Rattle.st_expr.specs.declared.level.Level.{Level}
use Rattle.st_expr.specs.declared.level.Level.TheVariants as at
use Rattle.st_expr.specs.Nested.{Tall, Deep}
use Rattle.st_expr.specs.Expressions.{number, truth, span, negative, negative_rest, next_expr, exprs, index_rest, field, part, path, plain, named, named_rest, out, out_rest, not_out, named_or_plain, out_or_in, arg, next_arg, args, args_if_any, call_rest, call, paren_rest, value, value_rest, variable, named_operand, called_or_named, other, primary, operand, signed, unary, joining, side_of, levels_in, side_rest, next_side, innermost, layered, standing}
use Rattle.st_expr.specs.Depth.{deep, Expressions, Arguments, Paths, Operands}
use Rattle.st_expr.proofs.Levels.{no_end}
use Rattle.plc_tokens.specs.declared.sort.Seen.{Seen}

pub record BelowLacks (d : Deep) : Type 0 where
  pub operand : (level : Level) (line : Bool) → Lacks (d.operand level line)
  pub path : Lacks d.path

-- ---- expressions

module _ (line : Bool) where
  number_lacks : (ks : List Seen) → goes_on ks ≡ true → Lacks (number ks line)
  unfolding number
  number_lacks ks h = lacks_bind (lacks_tok line ks h) (λ _. lacks_pure _)

  truth_lacks : (ks : List Seen) → goes_on ks ≡ true → Lacks (truth ks line)
  unfolding truth
  truth_lacks ks h = lacks_bind (lacks_tok line ks h) (λ _. lacks_pure _)

  span_lacks : (ks : List Seen) → goes_on ks ≡ true → Lacks (span ks line)
  unfolding span
  span_lacks ks h = lacks_bind (lacks_tok line ks h) (λ _. lacks_pure _)

  negative_lacks : (ks : List Seen) → goes_on ks ≡ true → Lacks (negative ks line)
  unfolding negative negative_rest
  negative_lacks ks h = lacks_bind (lacks_tok line ks h) (λ _. lacks_bind (lacks_tok line G.INTEGER refl) (λ _. lacks_pure _))

  value_lacks : (ks : List Seen) → goes_on ks ≡ true → Lacks (value ks line)
  unfolding value value_rest
  value_lacks ks h = lacks_bind (lacks_tok line ks h) (λ _. lacks_bind (lacks_tok line G.HASH refl) (λ _. lacks_bind (lacks_tok line G.NAME refl) (λ _. lacks_pure _)))

  field_lacks : (p : Tall (List Part)) → Lacks (field line p)
  unfolding field
  field_lacks p = lacks_bind (lacks_tok line G.DOT refl) (λ _. lacks_bind (lacks_tok line G.NAME refl) (λ _. lacks_pure _))

module _ (d : Deep) (b : BelowLacks d) where
  module _ (line : Bool) where
    next_expr_lacks : (l : Tall (List Expr)) → Lacks (next_expr line d l)
    unfolding next_expr
    next_expr_lacks l = lacks_bind (lacks_tok line G.COMMA refl) (λ _. lacks_bind (b.operand at.Whole line) (λ _. lacks_pure _))

    exprs_lacks : Lacks (exprs line d)
    unfolding exprs
    exprs_lacks = lacks_bind (b.operand at.Whole line) (λ x. lacks_many G.COMMA _ next_expr_lacks)

    part_lacks : (n : ℕ) (p : Tall (List Part)) → Lacks (part line n d p)
    unfolding part index_rest
    part_lacks n p = lacks_choose G.LBRACKET (lacks_opens line G.LBRACKET refl (λ t. lacks_bind exprs_lacks (λ _. lacks_bind (lacks_tok line G.RBRACKET refl) (λ _. lacks_pure _)))) (field_lacks line p)

    pub path_lacks : (ks : List Seen) → goes_on ks ≡ true → (n : ℕ) → Lacks (path ks line n d)
    unfolding path
    path_lacks ks h n = lacks_bind (lacks_tok line ks h) (λ _. lacks_bind (lacks_many G.PARTS ([], 0) (part_lacks n)) (λ _. lacks_pure _))

  named_or_plain_lacks : Lacks (named_or_plain d)
  unfolding named_or_plain named named_rest plain
  named_or_plain_lacks = lacks_choose_two G.NAME G.ASSIGN
      (lacks_bind (lacks_tok false G.NAME refl) (λ _. lacks_bind (lacks_tok false G.ASSIGN refl) (λ _. lacks_bind (b.operand at.Whole false) (λ _. lacks_pure _))))
      (lacks_bind (b.operand at.Whole false) (λ _. lacks_pure _))

  out_rest_lacks : (negate : Bool) (t : Token) → Lacks (out_rest d negate t)
  unfolding out_rest
  out_rest_lacks negate t = lacks_bind (lacks_tok false G.ARROW refl) (λ _. lacks_bind b.path (λ _. lacks_pure _))

  arg_lacks : Lacks (arg d)
  unfolding arg not_out out_or_in out
  arg_lacks = lacks_choose_three G.NOT G.NAME G.ARROW
      (lacks_bind (lacks_tok false G.NOT refl) (λ _. lacks_bind (lacks_tok false G.NAME refl) (λ t. out_rest_lacks true t)))
      (lacks_choose_two G.NAME G.ARROW (lacks_bind (lacks_tok false G.NAME refl) (λ t. out_rest_lacks false t)) named_or_plain_lacks)

  next_arg_lacks : (l : Tall (List Arg)) → Lacks (next_arg d l)
  unfolding next_arg
  next_arg_lacks l = lacks_bind (lacks_tok false G.COMMA refl) (λ _. lacks_bind arg_lacks (λ _. lacks_pure _))

  pub args_lacks : Lacks (args d)
  unfolding args
  args_lacks = lacks_bind arg_lacks (λ x. lacks_many G.COMMA _ next_arg_lacks)

  args_if_any_lacks : Lacks (args_if_any d)
  unfolding args_if_any
  args_if_any_lacks = lacks_choose G.FIRST_EXPR args_lacks (lacks_pure _)

  module _ (line : Bool) where
    pub call_rest_lacks : Lacks (call_rest line d)
    unfolding call_rest
    call_rest_lacks = lacks_bind (lacks_seen (sort_in line) args_if_any_lacks) (λ _. lacks_bind (lacks_tok line G.RPAREN refl) (λ _. lacks_pure _))

    call_lacks : (t : Token) → Lacks (call line d t)
    unfolding call
    call_lacks t = lacks_bind call_rest_lacks (λ _. lacks_pure _)

    paren_lacks : (t : Token) → Lacks (paren_rest line d t)
    unfolding paren_rest
    paren_lacks t = lacks_bind (b.operand at.Whole line) (λ _. lacks_bind (lacks_tok line G.RPAREN refl) (λ _. lacks_pure _))

    variable_lacks : (ks : List Seen) → goes_on ks ≡ true → (n : ℕ) → Lacks (variable ks line n d)
    unfolding variable
    variable_lacks ks h n = lacks_bind (path_lacks line ks h n) (λ _. lacks_pure _)

    named_operand_lacks : (ks : List Seen) → goes_on ks ≡ true → (n : ℕ) → Lacks (named_operand ks line n d)
    unfolding named_operand
    named_operand_lacks ks h n = lacks_choose_two ks G.HASH (value_lacks line ks h) (variable_lacks ks h n)

    other_lacks : (n : ℕ) → Lacks (other line n d)
    unfolding other called_or_named
    other_lacks n =
        lacks_choose G.TYPED (number_lacks line G.TYPED refl)
        (lacks_choose G.TRUTH (truth_lacks line G.TRUTH refl)
        (lacks_choose G.SPAN (span_lacks line G.SPAN refl)
        (lacks_choose G.LPAREN (lacks_opens line G.LPAREN refl paren_lacks)
        (lacks_choose G.OPERATION (lacks_opens line G.OPERATION refl (λ t. lacks_bind (lacks_tok line G.LPAREN refl) (λ _. call_lacks t)))
        (lacks_choose_two G.NAME G.LPAREN (lacks_opens line G.NAME refl (λ t. lacks_bind (lacks_tok line G.LPAREN refl) (λ _. call_lacks t))) (named_operand_lacks G.NAME refl n))))))

    primary_lacks : (n : ℕ) → Lacks (primary line n d)
    unfolding primary
    primary_lacks n = lacks_choose G.INTEGER (number_lacks line G.INTEGER refl) (other_lacks n)

    pub operand_lacks : (n : ℕ) → Lacks (operand line n d)
    unfolding operand
    operand_lacks n =
        lacks_choose G.FIRST_MINUS (negative_lacks line G.FIRST_MINUS refl)
        (lacks_choose G.FIRST_NUMBER (number_lacks line G.FIRST_NUMBER refl)
        (lacks_choose G.FIRST_TRUTH (truth_lacks line G.FIRST_TRUTH refl)
        (lacks_choose G.FIRST_SPAN (span_lacks line G.FIRST_SPAN refl)
        (named_operand_lacks G.FIRST_NAME refl n))))

    unary_lacks : (n : ℕ) → Lacks (unary line n d)
    unfolding unary signed
    unary_lacks n = lacks_choose_two G.MINUS G.INTEGER (negative_lacks line G.MINUS refl)
        (lacks_choose G.MINUS (lacks_opens line G.MINUS refl (λ t. lacks_bind (b.operand at.Other line) (λ _. lacks_pure _)))
        (lacks_choose G.NOT (lacks_opens line G.NOT refl (λ t. lacks_bind (b.operand at.Primary line) (λ _. lacks_pure _))) (primary_lacks n)))

    innermost_lacks : (level : Level) (n : ℕ) → Lacks (innermost level line n d)
    innermost_lacks at.Primary n = primary_lacks n
    innermost_lacks at.Other n = other_lacks n
    innermost_lacks _ n = unary_lacks n

    layered_lacks : (k : ℕ) (level : Level) (n : ℕ) → Lacks (layered k level line n d)
    unfolding layered next_side side_rest
    layered_lacks zero level n = innermost_lacks level n
    layered_lacks (suc k) level n = lacks_bind (layered_lacks k (side_of level) n) (λ l. lacks_many (joining level) l (λ a.
        lacks_opens line (joining level) (no_end level) (λ t. lacks_bind (b.operand (side_of level) line) (λ _. lacks_pure _))))

    pub standing_lacks : (level : Level) (n : ℕ) → Lacks (standing level line n d)
    standing_lacks level n = layered_lacks (levels_in level) level n

-- ---- at each number of nodes

pub deep_lacks : (n : ℕ) → BelowLacks (deep n)
unfolding deep
deep_lacks zero = record { operand = λ level line. lacks_none (Tall Expr); path = lacks_none _ }
deep_lacks (suc n) = record {
  operand = λ level line. lacks_also ((deep_lacks n).operand level line) (standing_lacks (deep n) (deep_lacks n) line level n);
  path = lacks_also (deep_lacks n).path (path_lacks (deep n) (deep_lacks n) false G.NAME refl n);
}

pub of_expressions : (n : ℕ) → Lacks (Expressions n)
of_expressions n = standing_lacks (deep n) (deep_lacks n) false at.Whole n

pub of_arguments : (n : ℕ) → Lacks (Arguments n)
of_arguments n = args_lacks (deep (suc n)) (deep_lacks (suc n))

pub of_paths : (line : Bool) (n : ℕ) → Lacks (Paths line n)
of_paths line n = path_lacks (deep n) (deep_lacks n) line G.FIRST_NAME refl n

pub of_operands : (line : Bool) (n : ℕ) → Lacks (Operands line n)
of_operands line n = operand_lacks (deep n) (deep_lacks n) line n
