-- A fetch that found no memory.
use Rattle.std.proofs.Common.{◌≡◌, ℕ, ◌≤◌, List, [], ◌++◌, length, arith, Err, Option, Some, None, IfSome, unwrap_or}
use Rattle.std.specs.FinMap as map
use Rattle.plc_outside.specs.Outside.{FilesSeen, Map, MeansFetch, IsStartOf}
use Rattle.plc_outside.specs.declared.fault.FileFault.TheVariants.{OutOfMemory}

pub fetch_ran_out : (name : List ℕ) (most : ℕ) (held holds p : List ℕ) (f g : FilesSeen) → g.fetch_faults ≡ f.fetch_faults → g.put_faults ≡ f.put_faults
    → g.files ≡ f.files → g.puts ≡ f.puts → g.handed ≡ f.handed → g.asked ≡ f.asked → holds ≡ held ++ p → length p ≤ most
    → IfSome f.files (λ files. IsStartOf p (unwrap_or (map.get files name) [])) → MeansFetch name most (Err OutOfMemory) held holds f g
fetch_ran_out name most held holds p f g a b c d e h i j k = record {
  later = omega (arith, a);
  failed = λ x. absurd cc;
  no_memory = λ x. a;
  put_faults = b;
  files = c;
  puts = d;
  handed = e;
  asked = h;
  given = (p, i, j, tt);
  whole = tt;
  part = at_known f.files k;
}
  where
    at_known : (known : Option Map) → IfSome known (λ files. IsStartOf p (unwrap_or (map.get files name) []))
        → IfSome known (λ files. (q : List ℕ) × (holds ≡ held ++ q) × IsStartOf q (unwrap_or (map.get files name) []))
    at_known None u = tt
    at_known (Some files) u = (p, i, u)
