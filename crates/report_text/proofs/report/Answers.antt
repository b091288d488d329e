-- `report_text::report` meets its contract: what is put from the start of the lent buffer is the report (Reporting). Assumes nothing.
use Rattle.report_text.proofs.Reporting.{reports_all}
use Rattle.report_text.proofs.report.Goals as goal
use Rattle.std.proofs.Common.{rules}

pub returns : goal.returns
returns c = search (rules, reports_all)
