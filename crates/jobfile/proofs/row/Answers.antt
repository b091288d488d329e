-- `jobfile::row` meets its contract: the words are those of the record (row_is). Assumes nothing.
use mathlib.Core.Path.{sym}
use Rattle.jobfile.proofs.Bytes.{row_is}
use Rattle.jobfile.proofs.row.Goals as goal

pub returns : goal.returns
returns c = rw (c.u32_at.ensures, c.u32_at-2.ensures, c.u32_at-3.ensures, c.u32_at-4.ensures) (sym (row_is c.args.left.now))
