use Rattle.std.proofs.Common.{rules}
use Rattle.input.proofs.Reading.{reads-more}
use Rattle.input.proofs.read_full.Goals as goal

pub loop-n-preserved : goal.loop-n-preserved
loop-n-preserved g c =
    (search rules, reads-more _ _ _ _ _ _ _ _ c.loop-n.invariant.0 c.in-Ok.ensures.bound.0 c.loop-n.invariant.1 c.in-Ok.ensures.bytes.0)
