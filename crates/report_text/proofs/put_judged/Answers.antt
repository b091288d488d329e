-- `report_text::put_judged` meets its contract: the judge does not refuse, and its answers are the definitions' (Judged). Assumes nothing.
use mathlib.Core.Path.{refl}
use Rattle.report_text.proofs.Judged.{judged_writes}
use Rattle.report_text.proofs.put_judged.Goals as goal

pub returns-in-Ok : goal.returns-in-Ok
returns-in-Ok c =
    judged_writes c.args.table.now c.args.k c.requires.0 c.requires.1 _ _ _ c.in-Ok.ensures _ refl _ c.fault_free-early.ensures c.put_lines.ensures
