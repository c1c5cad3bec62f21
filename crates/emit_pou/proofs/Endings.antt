-- Names that end apart.
use Rattle.std.proofs.Common.{◌≡◌, refl, sym, ap, ◌∙◌, ℕ, List, [], ◌++◌, true, false, get_or, arith}
use Rattle.std.specs.Prelude.{reverse, codes, nat_eq}
use Rattle.std.specs.Str.{bytes_eq}
use Rattle.std.proofs.lemmas.List.{reverse-append}
use Rattle.std.proofs.lemmas.Bool.Decides.{nat_tests}
use Rattle.plc_base.proofs.Bytes.{bytes_eq-never}
use Rattle.emit_pou.specs.CNames.{body_name, start_name, run_name, config_init_name, config_run_name}

pub from_behind : (xs ys zs ws : List ℕ) → xs ++ zs ≡ ys ++ ws → reverse zs ++ reverse xs ≡ reverse ws ++ reverse ys
from_behind xs ys zs ws e = sym (reverse-append xs zs) ∙ ap reverse e ∙ reverse-append ys ws

-- two numbers that are equal, and that a test tells apart
absurd_test : (a b : ℕ) → a ≡ b → nat_eq a b ≡ false → ⊥
absurd_test a b e f = let g : nat_eq b b ≡ true = grind (arith, nat_tests) in let h : true ≡ false = sym g ∙ ap (λ n. nat_eq n b) (sym e) ∙ f in cc

-- texts whose k-th byte from behind differs
pub apart_at : (k : ℕ) (xs ys zs ws : List ℕ) → nat_eq (get_or (reverse zs ++ reverse xs) k 0) (get_or (reverse ws ++ reverse ys) k 0) ≡ false → bytes_eq (xs ++ zs) (ys ++ ws) ≡ false
apart_at k xs ys zs ws h = bytes_eq-never _ _ (λ e. absurd_test _ _ (ap (λ vs. get_or vs k 0) (from_behind xs ys zs ws e)) h)

pub start_no_body : (r p : List ℕ) → bytes_eq (start_name r) (body_name p) ≡ false
start_no_body r p = apart_at 2 r p (codes "_start__") (codes "_body__") refl

pub run_no_body : (r p : List ℕ) → bytes_eq (run_name r) (body_name p) ≡ false
run_no_body r p = apart_at 2 r p (codes "_run__") (codes "_body__") refl

pub config_init_no_body : (p : List ℕ) → bytes_eq config_init_name (body_name p) ≡ false
config_init_no_body p = apart_at 2 [] p config_init_name (codes "_body__") refl

pub config_run_no_body : (p : List ℕ) → bytes_eq config_run_name (body_name p) ≡ false
config_run_no_body p = apart_at 2 [] p config_run_name (codes "_body__") refl

pub config_init_no_run : (r : List ℕ) → bytes_eq config_init_name (run_name r) ≡ false
config_init_no_run r = apart_at 2 [] r config_init_name (codes "_run__") refl
