-- The arms of IF and CASE: the C runs the one that the source takes, and leaves out those behind it.
use Rattle.std.proofs.Common.{◌≡◌, refl, sym, ap, subst, ◌∙◌, ℕ, List, [], ◌∷◌, ◌++◌, append_assoc, map, Bool, true, false}
use Rattle.std.specs.Prelude.{ℤ, int_le, ◌&&◌, ◌||◌, None, if◌then◌else◌}
use Rattle.plc_base.specs.declared.elem.Elem.{Elem}
use Rattle.plc_base.specs.declared.elem.Elem.TheVariants.{Bool as Boolean}
use Rattle.plc_base.specs.Numbers.{Fits}
use Rattle.plc_base.proofs.Wrapping.{unsigned_64}
use Rattle.plc_tree.specs.declared.typed.TLabel.{TLabel}
use Rattle.plc_tree.specs.declared.typed.TLabel.TheVariants.{Range}
use Rattle.plc_tree.specs.Outcome.{Out, Done, then_do}
use Rattle.plc_tree.specs.Store.{Store}
use Rattle.plc_tree.specs.Loops.{State, Next, Exits, Returns}
use Rattle.plc_tree.specs.declared.tree.BinOp.TheVariants.{And, Or}
use Rattle.plc_tree.specs.Execution.{truth, apply, is_in_label, is_labelled}
use Rattle.plc_tree.specs.WellTyped.{FitsLabel, FitLabels}
use Rattle.c_tree.specs.declared.tree.CExpr.{CExpr}
use Rattle.c_tree.specs.declared.tree.CExpr.TheVariants as expr
use Rattle.c_tree.specs.declared.tree.CBin.TheVariants as bin
use Rattle.c_tree.specs.declared.tree.CStmt.{CStmt}
use Rattle.c_tree.specs.declared.tree.CStmt.TheVariants as stmt
use Rattle.c_meaning.specs.Outcome.{COut, CDone, c_then}
use Rattle.c_meaning.specs.Values.{CVal, I32, of_type}
use Rattle.c_meaning.specs.Objects.{Objects}
use Rattle.c_meaning.specs.Loops.{CStore, Got, CState, CNext, Broken, Jumps, Returned, is_true, c_go_on}
use Rattle.c_meaning.specs.Execution.{Frame, c_value, c_exec, c_run}
use Rattle.c_meaning.proofs.MeaningViews.{c_exec-If, then_then, c_run-append, c_run-one}
use Rattle.emit_pou.specs.CNames.{case_name}
use Rattle.emit_pou.specs.Expressions.{literal}
use Rattle.emit_pou.specs.Statements.{held, pick, where_picked, arm_body, arm, label_test, label, choice}
use Rattle.emit_pou.specs.Like.{Sim, both_done, Alike, Gives, Held, at_work, LikeState}
use Rattle.emit_pou.proofs.Steps.{sim_given, sim_after, sim_done}
use Rattle.emit_pou.proofs.Operators.{and_sim, compare_sim}
use Rattle.emit_pou.proofs.Expressions.{literal_sim}
use Rattle.emit_pou.proofs.Locals.{picked, where_is, case_sim, Step, next_state}

-- ---- truths

pub and_truth : (a b : Bool) → apply And Boolean (truth a) (truth b) ≡ truth (a && b)
and_truth true true = refl
and_truth true false = refl
and_truth false true = refl
and_truth false false = refl

pub or_truth : (a b : Bool) → apply Or Boolean (truth a) (truth b) ≡ truth (a || b)
or_truth true true = refl
or_truth true false = refl
or_truth false true = refl
or_truth false false = refl

pub true_truth : (b : Bool) → is_true (of_type I32 (truth b)) ≡ b
true_truth true = refl
true_truth false = refl

-- a value that is like a truth
pub truth_value : (c : CStore) (b : Bool) (n : ℕ) (y : COut (Got CVal)) → Sim (Gives c (Alike Boolean)) (Done (truth b) n) y → y ≡ CDone (of_type I32 (truth b), c) n
truth_value c b n y r = let d = sim_done (truth b) n y r in d.1 ∙ (λ i. CDone (d.2.value.is i, d.2.stays i) n)

module _ (fr : Frame) where
  -- a test and what is done where it holds
  pub if_is : (e : CExpr) (body : List CStmt) (c : CStore) (n : ℕ) (b : Bool) → c_value fr e c n ≡ CDone (of_type I32 (truth b), c) n
      → c_exec fr (stmt.If e body None) c n ≡ (if b then c_run fr body c n else CDone (c, CNext) n)
  if_is e body c n b is =
      c_exec-If fr e body None c n ∙ ap (λ y. c_then y (λ v r. if is_true v.0 then c_run fr body v.1 r else c_run fr [] v.1 r)) is
      ∙ ap (λ t. if t then c_run fr body c n else CDone (c, CNext) n) (true_truth b)

  -- ---- the statements of an arm

  -- what the C does behind an arm, where one ran
  abbrev pub Skipped : List CStmt → Type 0
  Skipped cs = (o : Objects) (h : Held) (n : ℕ) → c_run fr cs (at_work o (picked 1 h)) n ≡ CDone (at_work o (picked 1 h), CNext) n

  module _ (L : Store → Objects → Type 0) where
    done_next : (st : State) (c : CState) (n : ℕ) (rest : List CStmt) → Skipped rest → LikeState L st c
        → Sim (LikeState L) (Done st n) (c_then (c_go_on c n (c_run fr (pick 1 ∷ []))) (λ d k. c_go_on d k (c_run fr rest)))
    done_next (s, Next) (c, CNext) n rest skip r =
        subst (Sim (LikeState L) (Done (s, Next) n))
        (sym (ap (λ d. c_then (c_run fr (pick 1 ∷ []) d n) (λ d k. c_go_on d k (c_run fr rest))) r.is ∙ skip r.objects r.held n))
        (both_done (next_state L s r.objects (picked 1 r.held) r.like))
    done_next (s, Exits) (c, Broken) n rest skip r = both_done r
    done_next (s, Returns) (c, Returned v) n rest skip r = both_done r
    done_next (s, Next) (c, Jumps l) n rest skip r = absurd r.flow
    done_next (s, Exits) (c, Jumps l) n rest skip r = absurd r.flow
    done_next (s, Returns) (c, Jumps l) n rest skip r = absurd r.flow
    done_next (s, Next) (c, Broken) n rest skip r = absurd r.flow
    done_next (s, Next) (c, Returned v) n rest skip r = absurd r.flow
    done_next (s, Exits) (c, CNext) n rest skip r = absurd r.flow
    done_next (s, Exits) (c, Returned v) n rest skip r = absurd r.flow
    done_next (s, Returns) (c, CNext) n rest skip r = absurd r.flow
    done_next (s, Returns) (c, Broken) n rest skip r = absurd r.flow

    pub arm_ran : (go : Store → ℕ → Out State) (body rest : List CStmt) → Step L go (c_run fr body) → Skipped rest → (s : Store) (o : Objects) (h : Held) (n : ℕ) → L s o
        → Sim (LikeState L) (go s n) (c_then (c_run fr (arm_body body) (at_work o h) n) (λ d k. c_go_on d k (c_run fr rest)))
    arm_ran go body rest step skip s o h n like =
        subst (Sim (LikeState L) (go s n))
        (sym (ap (λ y. c_then y (λ d k. c_go_on d k (c_run fr rest))) (c_run-append fr body (pick 1 ∷ []) (at_work o h) n)
        ∙ then_then (c_run fr body (at_work o h) n) (λ st r. c_go_on st r (c_run fr (pick 1 ∷ []))) (λ d k. c_go_on d k (c_run fr rest))))
        (sim_after (go s n) (c_run fr body (at_work o h) n) _ (step s o h n like) (λ st c k r. done_next st c k rest skip r))

    -- ---- an arm of an IF, before others

    -- where the test holds, or not
    if_sim : (go later : Store → ℕ → Out State) (body rest : List CStmt) → Step L go (c_run fr body) → Skipped rest
        → ((s : Store) (o : Objects) (h : Held) (n : ℕ) → L s o → Sim (LikeState L) (later s n) (c_run fr rest (at_work o (picked 0 h)) n))
        → (b : Bool) (s : Store) (o : Objects) (h : Held) (n : ℕ) → L s o
        → Sim (LikeState L) (if b then go s n else later s n)
        (c_then (if b then c_run fr (arm_body body) (at_work o (picked 0 h)) n else CDone (at_work o (picked 0 h), CNext) n) (λ d k. c_go_on d k (c_run fr rest)))
    if_sim go later body rest step skip behind true s o h n like = arm_ran go body rest step skip s o (picked 0 h) n like
    if_sim go later body rest step skip behind false s o h n like = behind s o h n like

    pub arm_sim : (test : Store → ℕ → Out Bool) (e : CExpr) (go later : Store → ℕ → Out State) (body rest : List CStmt)
        → ((s : Store) (o : Objects) (h : Held) (n : ℕ) → L s o → Sim (Gives (at_work o h) (λ b v. is_true v ≡ b)) (test s n) (c_value fr e (at_work o h) n)) → Step L go (c_run fr body) → Skipped rest
        → ((s : Store) (o : Objects) (h : Held) (n : ℕ) → L s o → Sim (LikeState L) (later s n) (c_run fr rest (at_work o (picked 0 h)) n))
        → (s : Store) (o : Objects) (h : Held) (n : ℕ) → L s o
        → Sim (LikeState L) (then_do (test s n) (λ b r. if b then go s r else later s r)) (c_run fr (arm e body ∷ rest) (at_work o (picked 0 h)) n)
    arm_sim test e go later body rest tested step skip behind s o h n like =
        let c = at_work o (picked 0 h) in
        let branch : Got CVal → ℕ → COut CState = λ v r. if is_true v.0 then c_run fr (arm_body body) v.1 r else CDone (v.1, CNext) r in
        subst (Sim (LikeState L) (then_do (test s n) (λ b r. if b then go s r else later s r)))
        (sym (ap (λ y. c_then y (λ d k. c_go_on d k (c_run fr rest)))
        (where_is fr o h n 0 0 true (stmt.If e (arm_body body) None ∷ []) refl ∙ c_run-one fr (stmt.If e (arm_body body) None) c n ∙ c_exec-If fr e (arm_body body) None c n)
        ∙ then_then (c_value fr e c n) branch (λ d k. c_go_on d k (c_run fr rest))))
        (sim_given c (test s n) (c_value fr e c n) _ _ (tested s o (picked 0 h) n like)
        (λ b v r is. subst (λ t. Sim (LikeState L) (if b then go s r else later s r) (c_then (if t then c_run fr (arm_body body) c r else CDone (c, CNext) r) (λ d k. c_go_on d k (c_run fr rest)))) (sym is)
        (if_sim go later body rest step skip behind b s o h r like)))

  -- behind an arm that ran, an arm of an IF is left out
  pub skip_arm : (e : CExpr) (body rest : List CStmt) → Skipped rest → Skipped (arm e body ∷ rest)
  skip_arm e body rest skip o h n =
      ap (λ y. c_then y (λ d k. c_go_on d k (c_run fr rest))) (where_is fr o h n 1 0 false (stmt.If e (arm_body body) None ∷ []) refl) ∙ skip o h n

  pub skip_other : (other : List CStmt) → Skipped (where_picked 0 other ∷ [])
  skip_other other o h n = c_run-one fr (where_picked 0 other) (at_work o (picked 1 h)) n ∙ where_is fr o h n 1 0 false other refl

  -- the statements of ELSE, where no arm ran
  pub other_sim : (L : Store → Objects → Type 0) (go : Store → ℕ → Out State) (other : List CStmt) → Step L go (c_run fr other) → (s : Store) (o : Objects) (h : Held) (n : ℕ) → L s o
      → Sim (LikeState L) (go s n) (c_run fr (where_picked 0 other ∷ []) (at_work o (picked 0 h)) n)
  other_sim L go other step s o h n like =
      subst (Sim (LikeState L) (go s n)) (sym (c_run-one fr (where_picked 0 other) (at_work o (picked 0 h)) n ∙ where_is fr o h n 0 0 true other refl)) (step s o (picked 0 h) n like)

  -- ---- the labels of an arm of a CASE

  module _ (t : Elem) (z : ℤ) (f : Fits t z) where
    label_value : (l : TLabel) → FitsLabel t l → (o : Objects) (h : Held) (n : ℕ) → h.selector ≡ unsigned_64 z
        → c_value fr (label_test t l) (at_work o h) n ≡ CDone (of_type I32 (truth (is_in_label z l)), at_work o h) n
    label_value (Range low high) fits o h n e =
        let c = at_work o h in
        truth_value c (int_le low z && int_le z high) n (c_value fr (label_test t (Range low high)) c n)
        (subst (λ w. Sim (Gives c (Alike Boolean)) (Done w n) (c_value fr (label_test t (Range low high)) c n)) (and_truth (int_le low z) (int_le z high))
        (and_sim fr c Boolean refl (Done (truth (int_le low z)) n) (λ m. Done (truth (int_le z high)) m) (expr.Bin bin.Le (literal t low) (held t case_name)) (expr.Bin bin.Le (held t case_name) (literal t high)) n
        (compare_sim fr c bin.Le (λ a b. int_le a b) (λ v q m. refl) t (Done low n) (λ m. Done z m) (literal t low) (held t case_name) n (literal_sim fr c t low n fits.0) (λ m. case_sim fr o h m t z f e))
        (λ m. compare_sim fr c bin.Le (λ a b. int_le a b) (λ v q m. refl) t (Done z m) (λ k. Done high k) (held t case_name) (literal t high) m (case_sim fr o h m t z f e) (λ k. literal_sim fr c t high k fits.1))))

    -- where one before has the number
    labels_skipped : (ls : List TLabel) (o : Objects) (h : Held) (n : ℕ) → c_run fr (map (label t) ls) (at_work o (picked 2 h)) n ≡ CDone (at_work o (picked 2 h), CNext) n
    labels_skipped [] o h n = refl
    labels_skipped (l ∷ ls) o h n =
        ap (λ y. c_then y (λ d k. c_go_on d k (c_run fr (map (label t) ls)))) (where_is fr o h n 2 0 false (stmt.If (label_test t l) (pick 2 ∷ []) None ∷ []) refl) ∙ labels_skipped ls o h n

    -- and where an arm ran
    labels_passed : (ls : List TLabel) (o : Objects) (h : Held) (n : ℕ) → c_run fr (map (label t) ls) (at_work o (picked 1 h)) n ≡ CDone (at_work o (picked 1 h), CNext) n
    labels_passed [] o h n = refl
    labels_passed (l ∷ ls) o h n =
        ap (λ y. c_then y (λ d k. c_go_on d k (c_run fr (map (label t) ls)))) (where_is fr o h n 1 0 false (stmt.If (label_test t l) (pick 2 ∷ []) None ∷ []) refl) ∙ labels_passed ls o h n

    label_run : (l : TLabel) → FitsLabel t l → (b : Bool) → is_in_label z l ≡ b → (o : Objects) (h : Held) (n : ℕ) → h.selector ≡ unsigned_64 z
        → c_exec fr (label t l) (at_work o (picked 0 h)) n ≡ CDone (at_work o (picked (if b then 2 else 0) h), CNext) n
    label_run l fits true is o h n e =
        where_is fr o h n 0 0 true (stmt.If (label_test t l) (pick 2 ∷ []) None ∷ []) refl ∙ c_run-one fr (stmt.If (label_test t l) (pick 2 ∷ []) None) (at_work o (picked 0 h)) n
        ∙ if_is (label_test t l) (pick 2 ∷ []) (at_work o (picked 0 h)) n true (label_value l fits o (picked 0 h) n e ∙ ap (λ b. CDone (of_type I32 (truth b), at_work o (picked 0 h)) n) is)
    label_run l fits false is o h n e =
        where_is fr o h n 0 0 true (stmt.If (label_test t l) (pick 2 ∷ []) None ∷ []) refl ∙ c_run-one fr (stmt.If (label_test t l) (pick 2 ∷ []) None) (at_work o (picked 0 h)) n
        ∙ if_is (label_test t l) (pick 2 ∷ []) (at_work o (picked 0 h)) n false (label_value l fits o (picked 0 h) n e ∙ ap (λ b. CDone (of_type I32 (truth b), at_work o (picked 0 h)) n) is)

    labels_run : (ls : List TLabel) → FitLabels t ls → (o : Objects) (h : Held) (n : ℕ) → h.selector ≡ unsigned_64 z
        → c_run fr (map (label t) ls) (at_work o (picked 0 h)) n ≡ CDone (at_work o (picked (if is_labelled ls z then 2 else 0) h), CNext) n
    labels_run [] fits o h n e = refl
    labels_run (l ∷ ls) fits o h n e = by (is_in_label z l) refl (labels_run ls fits.1 o h n e)
      where
        by : (b : Bool) → is_in_label z l ≡ b → c_run fr (map (label t) ls) (at_work o (picked 0 h)) n ≡ CDone (at_work o (picked (if is_labelled ls z then 2 else 0) h), CNext) n
            → c_run fr (map (label t) (l ∷ ls)) (at_work o (picked 0 h)) n ≡ CDone (at_work o (picked (if is_in_label z l || is_labelled ls z then 2 else 0) h), CNext) n
        by true is later =
            ap (λ y. c_then y (λ d k. c_go_on d k (c_run fr (map (label t) ls)))) (label_run l fits.0 true is o h n e)
            ∙ labels_skipped ls o h n ∙ ap (λ b. CDone (at_work o (picked (if b || is_labelled ls z then 2 else 0) h), CNext) n) (sym is)
        by false is later =
            ap (λ y. c_then y (λ d k. c_go_on d k (c_run fr (map (label t) ls)))) (label_run l fits.0 false is o h n e)
            ∙ later ∙ ap (λ b. CDone (at_work o (picked (if b || is_labelled ls z then 2 else 0) h), CNext) n) (sym is)

    -- ---- an arm of a CASE, before others

    in_order : (ls : List TLabel) (body rest : List CStmt) (c : CStore) (n : ℕ)
        → c_run fr (choice t ls body ++ rest) c n ≡ c_then (c_run fr (map (label t) ls) c n) (λ d k. c_go_on d k (c_run fr (where_picked 2 (arm_body body) ∷ rest)))
    in_order ls body rest c n = ap (λ cs. c_run fr cs c n) (append_assoc (map (label t) ls) (where_picked 2 (arm_body body) ∷ []) rest) ∙ c_run-append fr (map (label t) ls) (where_picked 2 (arm_body body) ∷ rest) c n

    pub skip_choice : (ls : List TLabel) (body rest : List CStmt) → Skipped rest → Skipped (choice t ls body ++ rest)
    skip_choice ls body rest skip o h n =
        in_order ls body rest (at_work o (picked 1 h)) n
        ∙ ap (λ y. c_then y (λ d k. c_go_on d k (c_run fr (where_picked 2 (arm_body body) ∷ rest)))) (labels_passed ls o h n)
        ∙ ap (λ y. c_then y (λ d k. c_go_on d k (c_run fr rest))) (where_is fr o h n 1 2 false (arm_body body) refl) ∙ skip o h n

    module _ (L : Store → Objects → Type 0) (go later : Store → ℕ → Out State) (body rest : List CStmt) (step : Step L go (c_run fr body)) (skip : Skipped rest)
        (behind : (s : Store) (o : Objects) (h : Held) (n : ℕ) → h.selector ≡ unsigned_64 z → L s o → Sim (LikeState L) (later s n) (c_run fr rest (at_work o (picked 0 h)) n)) where
      found_sim : (b : Bool) (s : Store) (o : Objects) (h : Held) (n : ℕ) → h.selector ≡ unsigned_64 z → L s o
          → Sim (LikeState L) (if b then go s n else later s n) (c_run fr (where_picked 2 (arm_body body) ∷ rest) (at_work o (picked (if b then 2 else 0) h)) n)
      found_sim true s o h n e like =
          subst (Sim (LikeState L) (go s n)) (sym (ap (λ y. c_then y (λ d k. c_go_on d k (c_run fr rest))) (where_is fr o h n 2 2 true (arm_body body) refl)))
          (arm_ran L go body rest step skip s o (picked 2 h) n like)
      found_sim false s o h n e like =
          subst (Sim (LikeState L) (later s n)) (sym (ap (λ y. c_then y (λ d k. c_go_on d k (c_run fr rest))) (where_is fr o h n 0 2 false (arm_body body) refl)))
          (behind s o h n e like)

      pub choice_sim : (ls : List TLabel) → FitLabels t ls → (s : Store) (o : Objects) (h : Held) (n : ℕ) → h.selector ≡ unsigned_64 z → L s o
          → Sim (LikeState L) (if is_labelled ls z then go s n else later s n) (c_run fr (choice t ls body ++ rest) (at_work o (picked 0 h)) n)
      choice_sim ls fits s o h n e like =
          subst (Sim (LikeState L) (if is_labelled ls z then go s n else later s n))
          (sym (in_order ls body rest (at_work o (picked 0 h)) n
          ∙ ap (λ y. c_then y (λ d k. c_go_on d k (c_run fr (where_picked 2 (arm_body body) ∷ rest)))) (labels_run ls fits o h n e)))
          (found_sim (is_labelled ls z) s o h n e like)
