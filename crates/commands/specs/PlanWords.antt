-- What the words of a plan say: nothing where they are no plan, but a command has no such words.
use Rattle.std.specs.Prelude.{ℕ, List, [], drop, replicate}
use Rattle.std.specs.Option.{unwrap_or}
use Rattle.words.specs.Language.{texts, parts_of}
use Rattle.words.specs.declared.separators.Separator.TheVariants.{Space}
use Rattle.ordered.specs.Lists.{items_in}
use Rattle.plan.specs.declared.node.Node.{Node}
use Rattle.commands.specs.Plans.{plan_from, verdict_from}
use Rattle.commands.specs.declared.plan_words.PlanWords.{PlanWords}

-- the words of a line behind its first
abbrev pub behind_first : List ℕ → List (List ℕ)
behind_first line = drop 1 (texts (parts_of Space line))

-- the nodes of a sheet's plan
abbrev pub nodes_in_words : PlanWords → List Node
nodes_in_words words = unwrap_or (plan_from (behind_first (items_in words.line))) []

-- the nodes and the columns of a verdict
abbrev pub verdict_in_words : PlanWords → List Node × List ℕ
verdict_in_words words = unwrap_or (verdict_from (behind_first (items_in words.line))) ([], replicate 8 0)
