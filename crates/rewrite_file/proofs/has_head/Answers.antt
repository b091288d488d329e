-- `rewrite_file::has_head` meets its contract: the first byte of a good file tells. Assumes nothing.
use mathlib.Core.Path.{◌∙◌}
use Rattle.rewrite_file.proofs.Answers.{headed-first_byte}
use Rattle.rewrite_file.proofs.has_head.Goals as goal

pub returns : goal.returns
returns c = c.starts_with.ensures.value ∙ headed-first_byte c.args.file.now 256 c.requires
