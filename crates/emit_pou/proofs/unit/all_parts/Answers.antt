use Rattle.std.proofs.Common.{◌∙◌, ap}
use Rattle.emit_pou.specs.Emitted as spec
use Rattle.emit_pou.proofs.Parts.{put_together}
use Rattle.emit_pou.proofs.unit.all_parts.Goals as goal

pub returns : goal.returns
returns c =
    put_together _ _ _ _ _ _ _ _ _ _ c.in_ok-parts.ensures c.in_ok-code.ensures c.in_ok-append.ensures c.in_ok-push.ensures.ok
    (c.part.ensures ∙ ap (λ n. spec.part n c.in_ok-rows.rows) c.in_ok-new.ensures ∙ ap (spec.part _) c.in_ok-rows.ensures)
