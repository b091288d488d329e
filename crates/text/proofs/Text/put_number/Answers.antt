-- `text::Text::put_number` meets its contract: two digits for each number that reading refuses with. Assumes nothing.
use mathlib.Core.Path.{sym, ap}
use Rattle.jobs.specs.Below.{least}
use Rattle.text.specs.Text.{places, decimal}
use Rattle.text.proofs.Growing.{puts_same}
use Rattle.text.proofs.Text.put_number.Goals as goal

pub returns-in-20 : goal.returns-in-20
unfolding decimal places least
returns-in-20 c = puts_same (ap decimal (sym c.in-20.is)) c.put.ensures

pub returns-in-21 : goal.returns-in-21
unfolding decimal places least
returns-in-21 c = puts_same (ap decimal (sym c.in-21.is)) c.put-in-21.ensures

pub returns-in-22 : goal.returns-in-22
unfolding decimal places least
returns-in-22 c = puts_same (ap decimal (sym c.in-22.is)) c.put-in-22.ensures

pub returns-in-23 : goal.returns-in-23
unfolding decimal places least
returns-in-23 c = puts_same (ap decimal (sym c.in-23.is)) c.put-in-23.ensures

pub returns-in-24 : goal.returns-in-24
unfolding decimal places least
returns-in-24 c = puts_same (ap decimal (sym c.in-24.is)) c.put-in-24.ensures

pub returns-in-25 : goal.returns-in-25
unfolding decimal places least
returns-in-25 c = puts_same (ap decimal (sym c.in-25.is)) c.put-in-25.ensures
