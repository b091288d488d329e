-- `report_text::Reported::put_job_line` meets its contract: its pieces one after the other. Assumes nothing.
use mathlib.Core.Path.{◌≡◌}
use mir.Syntax.{w64}
use mir.Val.{to_z, of_z}
use mir.Facts.{to_z-of_z}
use Rattle.text.proofs.Growing.{puts_then}
use Rattle.report_text.proofs.Reported.put_job_line.Goals as goal

pub returns : goal.returns
returns c =
    let margin : to_z w64 (of_z w64 c.margin.result) ≡ c.margin.result = to_z-of_z {w = w64} (record { sfits = c.margin.type_inv }) in
    rw (c.from.ensures, c.from-2.ensures, margin, c.margin.ensures) at
    (puts_then (puts_then (puts_then (puts_then (puts_then c.put_decimal.ensures c.put_labelled.ensures) c.put_labelled-2.ensures) c.put.ensures) c.put_signed.ensures) c.put-2.ensures)
