-- `rewrite_file::rewrite` meets its contract: what is put from the start of the lent buffer is the answer. Assumes nothing.
use Rattle.std.proofs.Common.{rules}
use Rattle.text.proofs.Growing.{puts_all}
use Rattle.rewrite_file.proofs.rewrite.Goals as goal

pub returns : goal.returns
returns c = search (rules, puts_all)
