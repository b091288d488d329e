use Rattle.jobs.specs.Arrays.{values}
use Rattle.text.specs.Text.{labelled, each}
use Rattle.text.specs.Growing.{Puts}
use Rattle.report_text.proofs.Reported.put_counts.Given as goal

abbrev pub invariant-loop-count : goal.invariant-loop-count
invariant-loop-count l = Puts (each l.count-index (λ i. labelled " " (values l.fn.self.pattern.now i))) l.initial.text l.text
