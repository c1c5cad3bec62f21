-- What files in memory tell.
use Rattle.std.specs.Prelude.{Some, []}
use Rattle.std.specs.FinMap as map
use Rattle.plc_outside.specs.Outside.{FilesSeen}
use Rattle.plc_outside.specs.Kept.{Kept}
use Rattle.plc_outside.specs.Spans.{files_of}
use Rattle.plc_outside.specs.declared.memory_files.MemoryFiles.{MemoryFiles}

abbrev pub files_seen : MemoryFiles → FilesSeen
files_seen f = record {
  fetch_faults = f.fetch_faults;
  put_faults = f.put_faults;
  files = Some (files_of f.bytes.items f.spans.items);
  asked = Some f.asked.items;
  puts = Some f.puts;
  handed = Some f.handed;
}

-- no file, and nothing counted
abbrev pub empty_files : FilesSeen
empty_files = record { fetch_faults = 0; put_faults = 0; files = Some map.empty; asked = Some []; puts = Some 0; handed = Some 0 }

-- what they keep beside it
abbrev pub files_kept : MemoryFiles → Kept
files_kept f = record { left = f.left; calls = f.calls; fail = f.fail.items }
