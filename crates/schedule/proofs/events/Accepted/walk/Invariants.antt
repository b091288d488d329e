use lib.ListN.{take}
use Rattle.schedule.proofs.Walk.{Along, Begun, turns}
use Rattle.schedule.proofs.events.Accepted.walk.Given as goal

abbrev pub invariant-loop-job : goal.invariant-loop-job
invariant-loop-job l = record {
  begun : Begun l.self.table l.self.pattern.now l.initial.finishes l.n (take l.n l.ranking.job) l.times;
  along : Along l.self.table l.self.pattern.now l.initial.finishes l.time l.left l.finishes;
}

abbrev pub decreases-loop-job : goal.decreases-loop-job
decreases-loop-job l = turns l.self.table l.time l.left
