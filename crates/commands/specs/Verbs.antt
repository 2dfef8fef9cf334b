-- The first words of a line that are known.
use Rattle.std.specs.Prelude.{ℕ, cond, List, Some, None, codes, Option}
use Rattle.store.specs.Lists.{same_numbers}
use Rattle.commands.specs.declared.verb.Verb.{Verb}
use Rattle.commands.specs.declared.verb.Verb.TheVariants.{Enter, Strike, Rule, Verdict, Sheet, Conflicts}

-- a word that is known commands something
abbrev pub verb_of : List ℕ → Option Verb
verb_of word =
    cond (same_numbers word (codes "enter")) (Some Enter)
    (cond (same_numbers word (codes "strike")) (Some Strike)
    (cond (same_numbers word (codes "rule")) (Some Rule)
    (cond (same_numbers word (codes "verdict")) (Some Verdict)
    (cond (same_numbers word (codes "sheet")) (Some Sheet)
    (cond (same_numbers word (codes "conflicts")) (Some Conflicts) None)))))
