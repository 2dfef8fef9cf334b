use Rattle.std.proofs.Common.{arith}
use Rattle.plan.specs.Answers.{plan_width}
use Rattle.plan.specs.Plans.{nodes_of}
use Rattle.plan.proofs.Past.{fits_if}
use Rattle.plan.proofs.plan.Plan.fits.Goals as goal

pub returns : goal.returns
returns c = fits_if (plan_width (nodes_of c.args.self.now)) c.args.line.now.columns (omega arith) c.past.result c.past.ensures c.is_none.result c.is_none.ensures
