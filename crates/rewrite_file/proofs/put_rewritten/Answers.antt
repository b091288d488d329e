-- `rewrite_file::put_rewritten` meets its contract: each of its three answers is that of the definition. Assumes nothing.
use native.Mathlib.Omega.{arith}
use mathlib.Core.Path.{refl}
use Rattle.text.proofs.Growing.{puts_same}
use Rattle.rewrite_file.proofs.Answers.{rewritten_long, rewritten_refused, rewritten_good, read_refused, read_good}
use Rattle.rewrite_file.proofs.put_rewritten.Goals as goal

pub returns-then-file-gt-MOST_BYTES : goal.returns-then-file-gt-MOST_BYTES
returns-then-file-gt-MOST_BYTES c =
    puts_same (rewritten_long c.args.file.now (omega arith)) c.put_too_long.ensures

pub put_with_head-requires : goal.put_with_head-requires
put_with_head-requires c =
    read_good c.args.file.now _ _ c.in-Ok.ensures _ _ refl

pub returns-in-Err : goal.returns-in-Err
returns-in-Err c =
    let file = c.args.file.now in
    puts_same (rewritten_refused file _ (omega arith) (read_refused file _ _ c.in-Err.ensures _ refl)) c.put_refusal.ensures

pub returns-in-Ok : goal.returns-in-Ok
returns-in-Ok c =
    let file = c.args.file.now in
    let good = read_good file _ _ c.in-Ok.ensures _ _ refl in
    puts_same (rewritten_good file good.table good.k (omega arith) good.means) c.put_with_head.ensures
