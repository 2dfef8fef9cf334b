-- What put's questions come to, from the answers to all of them.
use Rattle.std.proofs.Common.{◌≡◌, ℕ, Bool, true, false, not, List, is_some, Some, None, Option, sym, refl, ap, ap₂, ◌∙◌, subst}
use Rattle.std.proofs.lemmas.List.Folds.{list_any_at}
use Rattle.std.proofs.lemmas.Option.{none-some}
use Rattle.fault.specs.Questions.{ask}
use Rattle.store.specs.Store.{Store, FindSays, declares, ends_in_zeros, holds, has_empty, is_empty, put_refusal, admission, sight_refusal}
use Rattle.store.specs.Tables.{VacantSays}
use Rattle.store.specs.declared.row.Row.{Row}
use Rattle.store.specs.declared.refusal.Refusal.{Refusal}
use Rattle.store.specs.declared.refusal.Refusal.TheVariants.{Undeclared, Unfit, AlreadyHeld, NoEmptyPlace}
use Rattle.store.proofs.Places.{held_at}

-- they are put's, where the arity, the row's place and an empty place were looked for
module _ (s : Store) (row : Row) where
  held_is : (held : Option ℕ) → FindSays s row held → holds s row ≡ is_some held
  held_is None none = none
  held_is (Some p) there = held_at s.places p row there.1

  empty_is : (vacant : Option ℕ) → VacantSays s.places vacant → has_empty s ≡ is_some vacant
  empty_is None none = none
  empty_is (Some p) there = list_any_at is_empty s.places p None there.0 (ap is_empty there.1)

  -- for a row that is held, an empty place need not be looked for
  pub asked : {arity : ℕ} (held vacant : Option ℕ) → arity ≡ s.arity row.relation → FindSays s row held → (held ≡ None → VacantSays s.places vacant) → put_refusal s row ≡ admission arity row (is_some held) (is_some vacant)
  asked {arity} None vacant is found free =
      ap₂ (admission (s.arity row.relation) row) (held_is None found) (empty_is vacant (free refl)) ∙ ap (λ n. admission n row false (is_some vacant)) (sym is)
  asked {arity} (Some p) vacant is found free =
      ap (λ h. admission (s.arity row.relation) row h (has_empty s)) (held_is (Some p) found) ∙ ap (λ n. admission n row true (is_some vacant)) (sym is)

-- where none refuses a row, it is not held
not_held : (d z m : Bool) (held : Option ℕ) → ask d Undeclared (ask z Unfit (ask (not (is_some held)) AlreadyHeld (ask m NoEmptyPlace None))) ≡ None → held ≡ None
not_held false z m held none = absurd (none-some Undeclared (sym none))
not_held true false m held none = absurd (none-some Unfit (sym none))
not_held true true m None none = refl
not_held true true m (Some p) none = absurd (none-some AlreadyHeld (sym none))

-- so the place that it gets is empty
pub vacated : (arity : ℕ) (row : Row) (places : List (Option Row)) (held vacant : Option ℕ) (p : ℕ) → admission arity row (is_some held) (is_some vacant) ≡ None → vacant ≡ Some p → (held ≡ None → VacantSays places vacant) → VacantSays places (Some p)
vacated arity row places held vacant p none is free = subst (VacantSays places) is (free (not_held _ _ _ held none))

-- what is refused at sight is refused for the same reason, whatever the places hold
at_sight : (d z : Bool) (rest : Option Refusal) (e : Refusal) → ask d Undeclared (ask z Unfit None) ≡ Some e → ask d Undeclared (ask z Unfit rest) ≡ Some e
at_sight false z rest e is = is
at_sight true false rest e is = is
at_sight true true rest e is = absurd (none-some e is)

pub refused_at_sight : {arity : ℕ} (s : Store) (row : Row) (e : Refusal) → arity ≡ s.arity row.relation → sight_refusal arity row ≡ Some e → put_refusal s row ≡ Some e
refused_at_sight {arity} s row e is refused =
    at_sight (declares s row) (ends_in_zeros s row) _ e (subst (λ n. sight_refusal n row ≡ Some e) is refused)

-- where none refuses a row, each was answered Yes
all_yes : (d z h m : Bool) → ask d Undeclared (ask z Unfit (ask (not h) AlreadyHeld (ask m NoEmptyPlace None))) ≡ None → (d ≡ true) × (z ≡ true) × (h ≡ false)
all_yes false z h m none = absurd (none-some Undeclared (sym none))
all_yes true false h m none = absurd (none-some Unfit (sym none))
all_yes true true true m none = absurd (none-some AlreadyHeld (sym none))
all_yes true true false m none = (refl, refl, refl)

pub admitted : (s : Store) (row : Row) → put_refusal s row ≡ None → (declares s row ≡ true) × (ends_in_zeros s row ≡ true) × (holds s row ≡ false)
admitted s row none = all_yes _ _ (holds s row) (has_empty s) none
