-- What a read of a file adds to a text, and when it fails.
use Rattle.std.specs.Prelude.{◌≡◌, ℕ, ◌<◌, ◌≤◌, nat_lt, Bool, IsTrue, List, ◌++◌, length, take, Result, Ok, Err, IfOk}
use Rattle.plc_outside.specs.Outside.{top, Rose}
use Rattle.plc_outside.specs.declared.fault.FileFault.{FileFault}
use Rattle.plc_outside.specs.declared.fault.FileFault.TheVariants.{Failed, OutOfMemory}

-- bytes are added at the end, at most so many, and true comes only where exactly so many were wanted
abbrev pub Added : ℕ → List ℕ → List ℕ → Result Bool FileFault → Type 0
Added most held holds result =
    (p : List ℕ) × (holds ≡ held ++ p) × (length p ≤ most) × IfOk result (λ more. IsTrue more → (length p ≡ most) × (most < top))

-- the first of these bytes are added, as many as are wanted, and whether more of them stand is told; after a fault some first ones are
abbrev pub AddsFirst : ℕ → List ℕ → List ℕ → List ℕ → Result Bool FileFault → Type 0
AddsFirst most bytes held holds (Ok more) = (holds ≡ held ++ take most bytes) × (more ≡ nat_lt most (length bytes))
AddsFirst most bytes held holds (Err fault) = (n : ℕ) × (holds ≡ held ++ take n bytes)

-- Failed is answered where a read failed, and nowhere else
abbrev pub TellsFault : Result Bool FileFault → ℕ → ℕ → Type 0
TellsFault (Ok more) before now = now ≡ before
TellsFault (Err Failed) before now = Rose before now
TellsFault (Err OutOfMemory) before now = now ≡ before
