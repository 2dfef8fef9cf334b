-- A run that goes one call further.
use Rattle.std.proofs.Common.{List, [], ◌∷◌, ◌++◌, sym, refl, ap, subst, append_assoc, append-nil}
use Rattle.store.specs.Store.{Store}
use Rattle.rules.specs.Rules.{Denial}
use Rattle.book.specs.Outcomes.{Ran, RunSays}
use Rattle.book.specs.Plain.{Asked, Told}
use Rattle.book.specs.Runs.{History, more, LivesOn}

ran_more : (h : History) (askeds : List Asked) (tolds : List Told) (after : History) (asked : Asked) (told : Told) → Ran h askeds tolds after → Ran h (askeds ++ (asked ∷ [])) (tolds ++ (told ∷ [])) (more after asked told)
ran_more h [] [] after asked told e = ap (λ x. more x asked told) e
ran_more h [] (t ∷ tolds) after asked told no_way = absurd no_way
ran_more h (a ∷ askeds) [] after asked told no_way = absurd no_way
ran_more h (a ∷ askeds) (t ∷ tolds) after asked told r = ran_more (more h a t) askeds tolds after asked told r

-- nothing was asked yet
pub not_yet : (told : List Told → Type 0) (s : Store) (rules : List Denial) → RunSays told told [] s rules s rules
not_yet told s rules before was h life = ([], subst told (sym (append-nil before)) was, (h, refl, life))

-- one call more
pub one_more : (told told' told'' : List Told → Type 0) (askeds : List Asked) (s s' s'' : Store) (rules rules' rules'' : List Denial) (asked : Asked) (t : Told) →
    RunSays told told' askeds s rules s' rules' → LivesOn s' rules' s'' rules'' asked t → ((before : List Told) → told' before → told'' (before ++ (t ∷ []))) →
    RunSays told told'' (askeds ++ (asked ∷ [])) s rules s'' rules''
one_more told told' told'' askeds s s' s'' rules rules' rules'' asked t so goes record-it before was h life =
    let (tolds, so_far, (after, ran, alive)) = so before was h life in
    (tolds ++ (t ∷ []), subst told'' (append_assoc before tolds (t ∷ [])) (record-it (before ++ tolds) so_far), (more after asked t, ran_more h askeds tolds after asked t ran, goes after alive))
