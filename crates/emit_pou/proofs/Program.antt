-- The program of the only instance, and functions without a result.
use Rattle.std.proofs.Common.{◌≡◌, ap, ℕ, List, []}
use Rattle.std.specs.Prelude.{Some, None, if◌then◌else◌}
use Rattle.plc_tree.specs.Rows.{pou_in}
use Rattle.c_tree.specs.declared.tree.CParam.{CParam}
use Rattle.c_tree.specs.declared.tree.CStmt.{CStmt}
use Rattle.c_meaning.specs.Items.{Function}
use Rattle.emit_pou.specs.Single.{Single, unit_of}
use Rattle.emit_pou.specs.Statements.{body_locals}
use Rattle.emit_pou.proofs.Schedules.{inst_of, nat_eq-self}

pub program_is : (x : Single) → pou_in (unit_of x).pous (inst_of x).program ≡ Some x.pou
program_is x = ap (λ b. if b then Some x.pou else None) (nat_eq-self x.pou.id)

-- without locals, and with those of a body
abbrev pub void : List ℕ → List CParam → List CStmt → Function
void name params body = record { result = None; name = name; params = params; locals = []; body = body }

abbrev pub working : List ℕ → List CParam → List CStmt → Function
working name params body = record { result = None; name = name; params = params; locals = body_locals; body = body }
