-- `report_text::put_report` meets its contract: each of its three answers is a law of the promise (Reporting). Assumes nothing.
use native.Mathlib.Omega.{arith}
use mathlib.Core.Path.{refl}
use Rattle.report_text.proofs.Reporting.{reports_too_long, reports_refused, good_table, reports_judged}
use Rattle.report_text.proofs.put_report.Goals as goal

pub returns-then-file-gt-MOST_BYTES : goal.returns-then-file-gt-MOST_BYTES
returns-then-file-gt-MOST_BYTES c = reports_too_long c.args.file.now (omega arith) c.put_too_long.ensures

pub put_judged-requires : goal.put_judged-requires
put_judged-requires c = good_table c.args.file.now (omega arith) _ _ c.in-Ok.ensures _ _ refl

pub returns-in-Err : goal.returns-in-Err
returns-in-Err c = reports_refused c.args.file.now (omega arith) _ _ c.in-Err.ensures _ refl c.put_refusal.ensures

pub returns-in-Ok : goal.returns-in-Ok
returns-in-Ok c = reports_judged c.args.file.now (omega arith) _ _ c.in-Ok.ensures _ _ refl c.put_judged.ensures
