-- What a row or a rule that comes leaves of the list, when its conflicts fit and when they are taken out again.
use Rattle.std.proofs.Common.{◌≡◌, ℕ, true, false, not, eqb, List, [], ◌∷◌, ◌++◌, length, set, filter, Ok, Err, None, Option, Result, sym, refl, subst, true≢false}
use Rattle.std.specs.Result.{is_err}
use Rattle.ordered.specs.declared.entry.Full.{Full}
use Rattle.store.specs.Places.{OnceIn}
use Rattle.store.specs.declared.row.Row.{Row}
use Rattle.rules.specs.Entries.{listing}
use Rattle.rules.specs.Listing.{Lists, is_conflict, touches}
use Rattle.rules.specs.Rules.{Denial}
use Rattle.rules.specs.Searching.{in_scope, FindSays}
use Rattle.rules.specs.Upkeep.{AddSays, RoundsSay, away_from}
use Rattle.rules.specs.declared.list.Conflicts.{Conflicts}
use Rattle.rules.specs.declared.search.Scope.TheVariants.{All}
use Rattle.rules.proofs.Completing.{lists_same, fits_list}
use Rattle.rules.proofs.Emptied.{emptied, others_alike}
use Rattle.rules.proofs.LastRule.{rule_added, rule_over, rule_back}
use Rattle.rules.proofs.OnePlace.{put_undone}

module _ (table : List (Option Row)) (once : OnceIn table) (rules : List Denial) (before after : Conflicts) where
  module _ (p : ℕ) (exact : Lists (is_conflict (set table p None) rules) (listing before)) where
    abbrev RoundSays : Result Unit Full → Type 0
    RoundSays r = RoundsSay table rules (away_from p) (listing after) r

    pub place_kept : (r : Result Unit Full) → is_err r ≡ false → RoundSays r → AddSays table rules (listing before) (listing after) r
    place_kept (Ok done) fit all = (all, fits_list table once rules after all)
    place_kept (Err full) fit all = absurd (true≢false fit)

    pub place_undone : (undone : Conflicts) → listing undone ≡ filter (λ c. not (touches p c)) (listing after) → (r : Result Unit Full) → is_err r ≡ true → RoundSays r → AddSays table rules (listing before) (listing undone) r
    place_undone undone is (Ok done) over all = absurd (true≢false (sym over))
    place_undone undone is (Err full) over ((k, half), many) =
        let less = is_conflict (set table p None) rules in
        let back = subst (Lists less) (sym is) (put_undone (set table p None) table p (others_alike table p) (emptied table p) rules k (listing after) half) in
        (lists_same less (listing undone) (listing before) undone.rising before.rising back exact, many)

  module _ (rule : Denial) (number : ℕ) (last : number ≡ length rules) (exact : Lists (is_conflict table rules) (listing before)) where
    abbrev Found : Result Unit Full → Type 0
    Found r = FindSays table rule (in_scope All) number (listing before) (listing after) r

    abbrev more : List Denial
    more = rules ++ rule ∷ []

    pub rule_kept : (r : Result Unit Full) → is_err r ≡ false → Found r → AddSays table more (listing before) (listing after) r
    rule_kept (Ok done) fit (grown, all) =
        let now = rule_added table once rules rule number last exact grown after.rising (λ chosen ch. all chosen ch refl) in
        (now, fits_list table once more after now)
    rule_kept (Err full) fit found = absurd (true≢false fit)

    pub rule_undone : (undone : Conflicts) → listing undone ≡ filter (λ c. not (eqb c.rule number)) (listing after) → (r : Result Unit Full) → is_err r ≡ true → Found r → AddSays table more (listing before) (listing undone) r
    rule_undone undone is (Ok done) over found = absurd (true≢false (sym over))
    rule_undone undone is (Err e) over (grown, full, (d, found)) =
        let back = subst (Lists (is_conflict table rules)) (sym is) (rule_back table once rules rule number last exact grown after.rising full d found) in (
          lists_same (is_conflict table rules) (listing undone) (listing before) undone.rising before.rising back exact,
          rule_over table once rules rule number last exact grown after.rising full d found,
        )
