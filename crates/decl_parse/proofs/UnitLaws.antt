-- The laws of program organisation units.
use Rattle.std.proofs.Common.{ℕ, true, false, [], refl}
use Rattle.plc_tokens.specs.Sets as G
use Rattle.plc_tokens.proofs.Known.{is}
use Rattle.phrase.proofs.Rules.{Laws, pureL, tokL, bindL, bind_anyL, chooseL, manyL, as_listed}
use Rattle.st_parse.specs.Depth.{Statements}
use Rattle.st_parse.proofs.StatementLaws.{more_stmts}
use Rattle.st_parse.proofs.DepthLaws.{stmts_law}
use Rattle.type_parse.proofs.TypeLaws.{name_laws, tname_laws}
use Rattle.decl_parse.specs.Units.{body, function, block, program, pou}
use Rattle.decl_parse.proofs.SectionLaws.{next_function_section_laws, next_block_section_laws, next_program_section_laws}

-- the laws of a piece that has them at every number of nodes
module _ (d : ℕ) where
  statements_laws : Laws true d true true G.FIRST_STMT more_stmts Statements
  statements_laws = let l = stmts_law d in record { half = record { mono = l.mono; some = l.some }; law = λ _. l }

  pub body_laws : Laws true d true true G.FIRST_STMT more_stmts (λ e. body e)
  unfolding body
  body_laws = as_listed G.FIRST_STMT more_stmts (bind_anyL statements_laws (λ l. pureL _) refl) refl refl refl

  pub function_laws : Laws true d false true G.FUNCTION [] (λ e. function e)
  unfolding function
  function_laws = bindL (tokL (is G.FUNCTION refl)) (λ _. bindL (name_laws d) (λ n. bindL (tokL (is G.COLON refl)) (λ _. bindL (tname_laws d) (λ r.
      bind_anyL (manyL [] (next_function_section_laws d) refl) (λ s. bind_anyL body_laws (λ b. bindL (tokL (is G.END_FUNCTION refl)) (λ _. pureL _) refl) refl) refl) refl) refl) refl) refl

  pub block_laws : Laws true d false true G.FUNCTION_BLOCK [] (λ e. block e)
  unfolding block
  block_laws = bindL (tokL (is G.FUNCTION_BLOCK refl)) (λ _. bindL (name_laws d) (λ n.
      bind_anyL (manyL [] (next_block_section_laws d) refl) (λ s. bind_anyL body_laws (λ b. bindL (tokL (is G.END_FUNCTION_BLOCK refl)) (λ _. pureL _) refl) refl) refl) refl) refl

  pub program_laws : Laws true d false true G.PROGRAM [] (λ e. program e)
  unfolding program
  program_laws = bindL (tokL (is G.PROGRAM refl)) (λ _. bindL (name_laws d) (λ n.
      bind_anyL (manyL [] (next_program_section_laws d) refl) (λ s. bind_anyL body_laws (λ b. bindL (tokL (is G.END_PROGRAM refl)) (λ _. pureL _) refl) refl) refl) refl) refl

  pub pou_laws : Laws true d false true G.UNIT [] (λ e. pou e)
  unfolding pou
  pou_laws = as_listed G.UNIT [] (chooseL function_laws (chooseL block_laws program_laws refl) refl) refl refl refl
