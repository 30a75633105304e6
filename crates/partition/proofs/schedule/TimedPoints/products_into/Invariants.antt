-- `products_into` meets its contract. The loop's invariant: the products that were passed stand in the table, raised, and the last and the least of them are known.
-- Assumes nothing.
use Rattle.partition.specs.KeySteps.{product_at}
use Rattle.partition.proofs.StepLaws.{Measured}
use Rattle.partition.proofs.schedule.TimedPoints.products_into.Given as goal

abbrev pub invariant-loop-k : goal.invariant-loop-k
invariant-loop-k l = Measured (product_at l.self.time.now l.self.keys.now) l.initial.steps l.steps l.product l.least l.k
