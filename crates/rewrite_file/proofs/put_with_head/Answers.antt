-- `rewrite_file::put_with_head` meets its contract: the file as it is, or after a head. Assumes nothing.
use mathlib.Core.Path.{sym, ◌∙◌}
use Rattle.text.proofs.Growing.{puts_same, puts_then}
use Rattle.rewrite_file.proofs.Answers.{head_stays, head_added}
use Rattle.rewrite_file.proofs.put_with_head.Goals as goal
use Rattle.rewrite_file.proofs.put_with_head.Goals.{then-not-has_head, else-not-has_head}

pub returns : goal.returns
returns c =
    let file = c.args.file.now in
    elim c.if-not-has_head.branch [
      | then-not-has_head w ↦ puts_same (head_added file (sym c.has_head.ensures ∙ w.if-not-has_head.true)) (puts_then w.put.ensures (rw w.text-is at c.put-2.ensures))
      | else-not-has_head w ↦ puts_same (head_stays file (sym c.has_head.ensures ∙ w.if-not-has_head.false)) (rw w.text-is at c.put-2.ensures)
    ]
