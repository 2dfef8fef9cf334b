-- Rules as a line writes them: atoms, then comparisons.
use Rattle.std.specs.Prelude.{ℕ, cond, List, [], ◌∷◌, None, Option}
use Rattle.std.specs.Option.{option_map, option_zip}
use Rattle.ordered.specs.Lists.{items_in}
use Rattle.rules.specs.Rules.{Denial}
use Rattle.store.specs.declared.comparison.Comparison.{Comparison}
use Rattle.rules.specs.declared.rule.AtomColumn.{AtomColumn}
use Rattle.words.specs.Language.{number_of, is_number}
use Rattle.commands.specs.Comparisons.{comparison_of}
use Rattle.commands.specs.Numbers.{each, relation_of}
use Rattle.commands.specs.declared.rule.RuleText.{RuleText}

-- the rule that the lists hold
abbrev pub written : RuleText → Denial
written rule = record { atoms = items_in rule.atoms; comparisons = items_in rule.comparisons }

-- a rule without atoms
abbrev pub atomless : List (Comparison AtomColumn) → Denial
atomless comparisons = record { atoms = []; comparisons = comparisons }

-- one more atom in front of a rule
abbrev pub led : ℕ → Denial → Denial
led atom rule = record { atoms = atom ∷ rule.atoms; comparisons = rule.comparisons }

-- the number that a word is, if atoms may still come: behind a comparison there is none
abbrev pub atom_behind : List (Comparison AtomColumn) → List ℕ → Option ℕ
atom_behind [] w = number_of w
atom_behind (c ∷ cs) w = None

-- an atom and the rest of a rule, or comparisons alone
abbrev pub rule_from : List (List ℕ) → Option Denial
rule_from [] = option_map atomless (each comparison_of [])
rule_from (w ∷ ws) = cond (is_number w) (option_map (λ p. led p.0 p.1) (option_zip (relation_of w) (rule_from ws))) (option_map atomless (each comparison_of (w ∷ ws)))
