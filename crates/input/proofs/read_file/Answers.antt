use Rattle.std.proofs.KnownBytes.{Consumes-trans}
use Rattle.input.proofs.read_file.Goals as goal

pub returns-then-not-at_end : goal.returns-then-not-at_end
returns-then-not-at_end g c = (_, Consumes-trans _ _ _ _ _ c.read_full-n.ensures.bytes c.at_end.ensures.1)
