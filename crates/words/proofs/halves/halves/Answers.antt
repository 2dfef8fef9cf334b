-- There are two halves where a third call of `next` has no part.
use Rattle.std.proofs.Common.{◌≡◌, rules, Option, Some, None, is_some, not, Bool, true, false, List, ◌∷◌, ℕ, refl}
use Rattle.std.specs.Bool.{then_some}
use Rattle.std.specs.Iterator.{YieldsFirstBy}
use Rattle.words.specs.declared.parts.Part.{Part}
use Rattle.words.specs.declared.parts.Parts.{Parts}
use Rattle.words.specs.Language.{texts, pair_of}
use Rattle.words.specs.Meaning.{shown, to_come}
use Rattle.words.proofs.Cuts.{cut_parts}
use Rattle.words.proofs.halves.halves.Goals as goal

-- what the third call tells of the parts: a and b are the first two
third : (p q : Parts) (r : Option Part) (last : Bool) (a b : List ℕ) → YieldsFirstBy shown to_come p r q → is_some r ≡ not last → pair_of (a ∷ b ∷ texts (to_come p)) ≡ then_some last (a, b)
third p q None true a b step e = rw step.0 refl
third p q None false a b step e = cc
third p q (Some part) true a b step e = cc
third p q (Some part) false a b step e = rw step refl

pub returns-in_err-before : goal.returns-in_err-before
returns-in_err-before c = search (rules, cut_parts)

pub returns-in_err-behind : goal.returns-in_err-behind
returns-in_err-behind c = search (rules, cut_parts)

pub returns : goal.returns
returns c = search (rules, cut_parts, third)
