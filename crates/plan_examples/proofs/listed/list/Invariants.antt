use Rattle.store.specs.Held.{rows_of}
use Rattle.store.specs.Tables.{table_model}
use Rattle.plan.specs.Plans.{nodes_of}
use Rattle.candidates.proofs.Walking.{steps_left}
use Rattle.plan_examples.proofs.listed.list.Given as goal

abbrev pub decreases-loop-next : goal.decreases-loop-next
decreases-loop-next l = steps_left (nodes_of l.plan) (rows_of (table_model l.table).places) l.next
