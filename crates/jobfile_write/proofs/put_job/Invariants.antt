use mathlib.Core.Path.{◌≡◌}
use mathlib.Core.List.{◌++◌}
use lib.ListN.{take}
use Rattle.jobfile.specs.Bytes.{over}
use Rattle.jobfile_write.specs.Writing.{bytes_of, word_bytes}
use Rattle.jobfile_write.proofs.put_job.Given as goal

abbrev pub invariant-loop-i : goal.invariant-loop-i
invariant-loop-i l = l.free ≡ over ((bytes_of 2 18 ++ bytes_of 2 2) ++ word_bytes (take l.i l.row)) l.fn.free
