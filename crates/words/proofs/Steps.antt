-- What an iterator over parts has to come: nothing, a last part, or a part and others.
use Rattle.std.proofs.Common.{◌≡◌, ℕ, ◌+◌, ◌-◌, List, [], ◌∷◌, length, take, drop, Option, Some, None, ap, ◌∙◌, arith, rules, Bor}
use Rattle.std.specs.Iterator.{YieldsFirstBy, MakesProgress, item_count}
use Rattle.std.proofs.lemmas.List.{length-take-le, take_rest}
use Rattle.words.specs.declared.parts.Part.{Part}
use Rattle.words.specs.declared.parts.Parts.{Parts}
use Rattle.words.specs.Language.{separates, cut, placed}
use Rattle.words.specs.Meaning.{First, shown, to_come}
use Rattle.words.proofs.Cuts.{cut_none, cut_at}

-- whoever hands out the first of the parts to come has fewer left
pub fewer : {p q : Parts} {r : Option Part} → YieldsFirstBy shown to_come p r q → MakesProgress (λ _. Unit {0}) (item_count to_come) p r q
fewer {r = None} step = record { on = λ _. tt; keeps = tt; rests = λ h. search rules }
fewer {r = Some part} step = record { on = λ h. (tt, search rules, omega (arith, ap length step)); keeps = tt; rests = λ _. tt }

-- nothing is left
pub none_left : (p : Parts) → p.rest ≡ None → to_come p ≡ []
unfolding to_come
none_left p e = rw e

module _ (p : Parts) where
  abbrev parts : List ℕ → List (List ℕ)
  parts text = cut (separates p.separator) text

  left : (text : Bor (List ℕ)) → p.rest ≡ Some text → to_come p ≡ placed p.place (parts text.now)
  unfolding to_come
  left text e = rw e

  -- the last part is what is left
  pub last_left : (text : Bor (List ℕ)) → p.rest ≡ Some text → First (separates p.separator) text.now None → (q : Parts) → q.rest ≡ None → to_come p ≡ record { text = text.now; place = p.place } ∷ to_come q
  unfolding placed
  last_left text e free q none = rw (none_left q none) (left text e ∙ ap (placed p.place) (cut_none _ text.now free))

  -- the next part ends at the separator at i: `&text[i + 1..]` as the checker reads it
  pub more_left : (text : Bor (List ℕ)) (i : ℕ) → p.rest ≡ Some text → First (separates p.separator) text.now (Some i) → to_come p ≡ record { text = take i text.now; place = p.place } ∷ placed (p.place + i + 1) (parts (take (length text.now - (i + 1)) (drop (i + 1) text.now)))
  unfolding placed
  more_left text i e at =
      let long = length-take-le i text.now (omega (arith, at.0)) in
      left text e ∙ ap (placed p.place) (cut_at _ text.now i at.0 at.1 at.2) ∙ rw (take_rest, long)
