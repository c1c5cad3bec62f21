-- How a text grows, piece by piece.
use Rattle.std.proofs.Common.{◌≡◌, refl, sym, ap, ◌∙◌, ℕ, List, [], ◌∷◌, ◌++◌, append_assoc, append-nil, take, get_or, length, ◌+◌, ◌<◌, Result, Ok, Err, OnOk}
use Rattle.std.specs.Prelude.{flat_map}
use Rattle.std.proofs.lemmas.List.{take_more}
use Rattle.std.proofs.lemmas.Grind.{flat_map-append}
use Rattle.c_tree.specs.Layout.{Piece, Written, put, put_all, laid_after, piece_text, ends_wordy}
use Rattle.c_tree.specs.Spelling.{behind_commas, mark}
use Rattle.c_tree.specs.declared.sign.Sign.TheVariants.{Comma}
use Rattle.c_tree.proofs.SpellingViews.{path_pieces-is, sel_pieces-Field, sel_pieces-Index, expr_pieces-Number, expr_pieces-Path, expr_pieces-Moment, expr_pieces-GetVar, expr_pieces-GetLocated, expr_pieces-Call, expr_pieces-Bin, expr_pieces-Un, expr_pieces-Cast, arg_pieces-Value, arg_pieces-Address, arg_pieces-Pass, stmt_pieces-Set, stmt_pieces-InitVar, stmt_pieces-SetVar, stmt_pieces-InitLocated, stmt_pieces-SetLocated, stmt_pieces-Copy, stmt_pieces-Publish, stmt_pieces-Call, stmt_pieces-If, stmt_pieces-While, stmt_pieces-Break, stmt_pieces-Goto, stmt_pieces-Label, stmt_pieces-Return, ctype_pieces-Plain, ctype_pieces-Flagged, ctype_pieces-Celled, ctype_pieces-Struct, param_pieces-Value, param_pieces-Pointer, local_pieces-is, item_pieces-Struct, item_pieces-Object, item_pieces-Located, item_pieces-Func, item_pieces-DebugRow}

pub put_all-nil : (w : Written) → put_all w [] ≡ w
unfolding put_all
put_all-nil w = refl

pub put_all-cons : (w : Written) (p : Piece) (ps : List Piece) → put_all w (p ∷ ps) ≡ put_all (put w p) ps
unfolding put_all
put_all-cons w p ps = refl

pub put_all-append : (w : Written) (xs ys : List Piece) → put_all w (xs ++ ys) ≡ put_all (put_all w xs) ys
unfolding put_all
put_all-append w [] ys = refl
put_all-append w (x ∷ xs) ys = put_all-append (put w x) xs ys

-- the bytes of a text that grew
pub put_all-text : (w : Written) (ps : List Piece) → (put_all w ps).text ≡ w.text ++ laid_after w.wordy ps
unfolding put_all put laid_after
put_all-text w [] = sym (append-nil w.text)
put_all-text w (p ∷ ps) = put_all-text (put w p) ps ∙ append_assoc w.text (piece_text w.wordy p) (laid_after (ends_wordy p) ps)

-- a text in steps: a piece or several pieces at a time, and what comes after them

pub then_one : (w v u : Written) (p : Piece) (ps : List Piece) → v ≡ put w p → u ≡ put_all v ps → u ≡ put_all w (p ∷ ps)
then_one w v u p ps e f = f ∙ ap (λ y. put_all y ps) e ∙ sym (put_all-cons w p ps)

pub then_all : (w v u : Written) (xs ys : List Piece) → v ≡ put_all w xs → u ≡ put_all v ys → u ≡ put_all w (xs ++ ys)
then_all w v u xs ys e f = f ∙ ap (λ y. put_all y ys) e ∙ sym (put_all-append w xs ys)

pub last_one : (w u : Written) (p : Piece) → u ≡ put w p → u ≡ put_all w (p ∷ [])
last_one w u p e = e ∙ sym (put_all-nil (put w p)) ∙ sym (put_all-cons w p [])

-- pieces that are a tree's
pub of_tree : {A : Type 0} (f : A → List Piece) (w u : Written) (ps : List Piece) (x y : A) → f x ≡ ps → y ≡ x → u ≡ put_all w ps → u ≡ put_all w (f y)
of_tree f w u ps x y e is h = h ∙ ap (put_all w) (sym e ∙ ap f (sym is))

-- what follows where a result is no error
pub on_ok : {T E P Q : Type 0} (r : Result T E) → (P → Q) → OnOk r P → OnOk r Q
on_ok (Ok x) f h = f h
on_ok (Err x) f h = tt

-- one more element of a list, each put as f says
pub put_all-more : {A : Type 0} (f : A → List Piece) (w v u : Written) (xs : List A) (k : ℕ) (x : A) → k < length xs → x ≡ get_or xs k x →
    v ≡ put_all w (flat_map f (take k xs)) → u ≡ put_all v (f x) → u ≡ put_all w (flat_map f (take (k + 1) xs))
put_all-more f w v u xs k x h e before now =
    now ∙ ap (λ y. put_all y (f x)) before
    ∙ sym (put_all-append w (flat_map f (take k xs)) (f x))
    ∙ ap (λ ys. put_all w (flat_map f (take k xs) ++ ys)) (sym (append-nil (f x)) ∙ ap (λ y. f y ++ []) e)
    ∙ ap (put_all w) (sym (flat_map-append f (take k xs) (get_or xs k x ∷ [])))
    ∙ ap (λ ys. put_all w (flat_map f ys)) (sym (take_more xs k x h))

-- one more number
pub put_all-more_number : (f : ℕ → List Piece) (w v u : Written) (xs : List ℕ) (k : ℕ) → k < length xs →
    v ≡ put_all w (flat_map f (take k xs)) → u ≡ put_all v (f (get_or xs k 0)) → u ≡ put_all w (flat_map f (take (k + 1) xs))
put_all-more_number f w v u xs k h before now =
    now ∙ ap (λ y. put_all y (f (get_or xs k 0))) before
    ∙ sym (put_all-append w (flat_map f (take k xs)) (f (get_or xs k 0)))
    ∙ ap (λ ys. put_all w (flat_map f (take k xs) ++ ys)) (sym (append-nil (f (get_or xs k 0))))
    ∙ ap (put_all w) (sym (flat_map-append f (take k xs) (get_or xs k 0 ∷ [])))
    ∙ ap (λ ys. put_all w (flat_map f ys)) (sym (take_more xs k 0 h))

-- one more, behind a comma
pub put_all-more_behind : {A : Type 0} (f : A → List Piece) (w v t u : Written) (xs : List A) (k : ℕ) (x : A) → k < length xs → x ≡ get_or xs k x →
    v ≡ put_all w (behind_commas f (take k xs)) → t ≡ put v (mark Comma) → u ≡ put_all t (f x) → u ≡ put_all w (behind_commas f (take (k + 1) xs))
put_all-more_behind f w v t u xs k x h e before comma now =
    put_all-more (λ y. mark Comma ∷ f y) w v u xs k x h e before (now ∙ ap (λ y. put_all y (f x)) comma ∙ sym (put_all-cons v (mark Comma) (f x)))

pub ruleset pieces = (put_all-nil, put_all-cons, put_all-append, path_pieces-is, sel_pieces-Field, sel_pieces-Index, expr_pieces-Number, expr_pieces-Path, expr_pieces-Moment, expr_pieces-GetVar, expr_pieces-GetLocated, expr_pieces-Call, expr_pieces-Bin, expr_pieces-Un, expr_pieces-Cast, arg_pieces-Value, arg_pieces-Address, arg_pieces-Pass, stmt_pieces-Set, stmt_pieces-InitVar, stmt_pieces-SetVar, stmt_pieces-InitLocated, stmt_pieces-SetLocated, stmt_pieces-Copy, stmt_pieces-Publish, stmt_pieces-Call, stmt_pieces-If, stmt_pieces-While, stmt_pieces-Break, stmt_pieces-Goto, stmt_pieces-Label, stmt_pieces-Return, ctype_pieces-Plain, ctype_pieces-Flagged, ctype_pieces-Celled, ctype_pieces-Struct, param_pieces-Value, param_pieces-Pointer, local_pieces-is)

pub ruleset items = (put_all-nil, put_all-cons, put_all-append, item_pieces-Struct, item_pieces-Object, item_pieces-Located, item_pieces-Func, item_pieces-DebugRow)
