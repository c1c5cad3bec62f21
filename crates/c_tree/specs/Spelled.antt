-- That texts spell a unit.
use Rattle.std.specs.Prelude.{◌≡◌, ℕ, Bool, true, false, List, [], ◌∷◌}
use Rattle.c_tree.specs.declared.text.CText.{CText}
use Rattle.c_tree.specs.declared.tree.CItem.{CItem}
use Rattle.c_tree.specs.declared.tree.CPart.{CPart}
use Rattle.c_tree.specs.declared.tree.CUnit.{CUnit}
use Rattle.c_tree.specs.CTokens.{CTok, cut, cut_first}
use Rattle.c_tree.specs.Spelling.{part_tokens}

-- the tokens of a text, the first of a unit or a later one
abbrev pub text_tokens : Bool → List ℕ → List CTok
text_tokens true text = cut_first text
text_tokens false text = cut text

abbrev pub SpellsPart : Bool → List ℕ → List CItem → Type 0
SpellsPart first text items = text_tokens first text ≡ part_tokens first items

-- one for one and in order, named as the parts
abbrev pub SpellsParts : Bool → List CText → List CPart → Type 0
SpellsParts first [] [] = Unit {0}
SpellsParts first [] (p ∷ parts) = ⊥
SpellsParts first (t ∷ texts) [] = ⊥
SpellsParts first (t ∷ texts) (p ∷ parts) = (t.name ≡ p.name) × SpellsPart first t.bytes p.items × SpellsParts false texts parts

abbrev pub SpellsUnit : List CText → CUnit → Type 0
SpellsUnit texts unit = SpellsParts true texts unit.parts
