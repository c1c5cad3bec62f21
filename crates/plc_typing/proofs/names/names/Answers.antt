use Rattle.std.proofs.Common.{◌≡◌, sym, ap, ◌∙◌, ◌++◌, true, false, if◌then◌else◌}
use Rattle.std.proofs.lemmas.Result.{on_ok_weaker}
use Rattle.plc_typing.proofs.Declaring.{declares_as, declares_next}
use Rattle.plc_typing.specs.Uses.{first_names, pou_names, config_names, is_before, names}
use Rattle.plc_typing.proofs.names.names.Goals as goal

pub returns-in_ok-pous : goal.returns-in_ok-pous
returns-in_ok-pous c =
    let u = c.args.unit.now in
    let pous = first_names pou_names u.pous in
    let configs = first_names config_names u.configs in
    let w = c.args.numbers.now in
    let m = c.args.met.now in
    let b = c.pous.new.numbers in
    let n = c.pous.new.met in
    let d = c.configs.new.numbers in
    let o = c.configs.new.met in
    let is : is_before u.pous u.configs ≡ true = sym (c.is_before.ensures ∙ (λ i. is_before (c.as_slice-programs.ensures i) (c.as_slice-configurations.ensures i))) ∙ c.if-is_before.true in
    on_ok_weaker c.configs.result (declares_as (pous ++ configs) (names u) w d m o (sym (ap (λ t. if t then pous ++ configs else (configs ++ pous)) is)))
    (declares_next c.configs.result pous configs w b d m n o
    (declares_as (first_names pou_names c.as_slice-programs.result.now) pous w b m n (ap (first_names pou_names) c.as_slice-programs.ensures) c.in_ok-pous.ensures)
    (on_ok_weaker c.configs.result (declares_as (first_names config_names c.as_slice-configurations.result.now) configs b d n o (ap (first_names config_names) c.as_slice-configurations.ensures)) c.configs.ensures))

pub returns-in_ok-configs : goal.returns-in_ok-configs
returns-in_ok-configs c =
    let u = c.args.unit.now in
    let pous = first_names pou_names u.pous in
    let configs = first_names config_names u.configs in
    let w = c.args.numbers.now in
    let m = c.args.met.now in
    let b = c.configs-else-is_before.new.numbers in
    let n = c.configs-else-is_before.new.met in
    let d = c.pous-else-is_before.new.numbers in
    let o = c.pous-else-is_before.new.met in
    let is : is_before u.pous u.configs ≡ false = sym (c.is_before.ensures ∙ (λ i. is_before (c.as_slice-programs.ensures i) (c.as_slice-configurations.ensures i))) ∙ c.if-is_before.false in
    on_ok_weaker c.pous-else-is_before.result (declares_as (configs ++ pous) (names u) w d m o (sym (ap (λ t. if t then pous ++ configs else (configs ++ pous)) is)))
    (declares_next c.pous-else-is_before.result configs pous w b d m n o
    (declares_as (first_names config_names c.as_slice-configurations.result.now) configs w b m n (ap (first_names config_names) c.as_slice-configurations.ensures) c.in_ok-configs.ensures)
    (on_ok_weaker c.pous-else-is_before.result (declares_as (first_names pou_names c.as_slice-programs.result.now) pous b d n o (ap (first_names pou_names) c.as_slice-programs.ensures)) c.pous-else-is_before.ensures))
