use Rattle.std.proofs.Common.{rules, ◌≡◌, ◌∙◌}
use Rattle.std.specs.Prelude.{count_by}
use Rattle.plan.proofs.Fields.{is_open, opens_count}
use Rattle.plan.proofs.leaf.PlanLeaf.width.Goals as goal

pub returns-clause-count : goal.returns-clause-count
returns-clause-count c = let count : c.count.result ≡ count_by is_open c.args.self.now.fields = search rules in count ∙ opens_count c.args.self.now.fields
