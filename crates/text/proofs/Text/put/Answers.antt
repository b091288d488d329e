-- `text::Text::put` meets its contract: as many bytes as there is room for are copied. Assumes nothing.
use Rattle.std.proofs.Common.{arith, ◌≡◌, ◌≤◌, ◌-◌, min, length}
use mathlib.Core.Path.{refl}
use Rattle.text.proofs.Adding.{adds_part, adds_no_more}
use Rattle.text.proofs.Text.put.Goals as goal

pub returns-then-count-gt0 : goal.returns-then-count-gt0
returns-then-count-gt0 c =
    let a = c.args in
    let within : c.args.self.now.at ≤ length c.args.self.now.buffer.now = omega (arith, c.min-count.ensures, c.saturating_sub-room.ensures) in
    let fits : c.min-count.result ≡ min (length c.args.bytes.now) (length c.args.self.now.buffer.now - c.args.self.now.at) =
    omega (arith, c.min-count.ensures, c.saturating_sub-room.ensures) in
    record { same_buffer = refl; added = adds_part a.bytes.now a.self.now.buffer.now _ a.self.now.at c.min-count.result within fits c.copy_from_slice.ensures.after }

pub returns-else-count-gt0 : goal.returns-else-count-gt0
returns-else-count-gt0 c =
    let a = c.args in
    let none : min (length c.args.bytes.now) (length c.args.self.now.buffer.now - c.args.self.now.at) ≡ 0 =
    omega (arith, c.min-count.ensures, c.saturating_sub-room.ensures) in
    record { same_buffer = refl; added = adds_no_more a.bytes.now a.self.now.buffer.now a.self.now.at none }
