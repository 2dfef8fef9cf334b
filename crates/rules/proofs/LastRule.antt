-- The conflicts that a rule brings that comes after the others.
use Rattle.std.proofs.Common.{◌≡◌, ℕ, ◌+◌, ◌<◌, Bool, true, false, cond, not, eqb, ltb, List, [], ◌∷◌, ◌++◌, length, get_or, filter, Option, sym, refl, ap, ◌∙◌, subst, arith}
use mathlib.Core.List.{Memᴰ}
use Rattle.std.proofs.lemmas.List.{get_or_at, length_push}
use Rattle.std.proofs.lemmas.Bool.Decides.{nat_tests}
use Rattle.ordered.specs.Order.{rises}
use Rattle.store.specs.Places.{OnceIn}
use Rattle.store.specs.declared.row.Row.{Row}
use Rattle.rules.specs.Choosing.{Choice, Between, up_to}
use Rattle.store.specs.Held.{rows_of}
use Rattle.rules.specs.Listing.{Listed, Lists, forbids, is_conflict}
use Rattle.rules.specs.Rules.{Denial, AtMost}
use Rattle.rules.specs.Searching.{Found, Grown, Has}
use Rattle.rules.specs.Views.{by_places}
use Rattle.rules.proofs.Completing.{one_further, half_way, over}
use Rattle.rules.proofs.Firsts.{first_at}
use Rattle.rules.proofs.OnePlace.{conflict_parts}
use Rattle.rules.proofs.OneRule.{rule_starts, rule_undone}
use Rattle.rules.proofs.Rounds.{round_ends}

-- tests that say the same of each element keep the same
kept_same : {A : Type 0} (f g : A → Bool) (xs : List A) → ((x : A) → Memᴰ x xs → f x ≡ g x) → filter f xs ≡ filter g xs
kept_same f g [] same = refl
kept_same f g (x ∷ xs) same =
    ap (λ b. cond b (x ∷ filter f xs) (filter f xs)) (same x (Memᴰ.head refl)) ∙ ap (λ l. cond (g x) (x ∷ l) l) (kept_same f g xs (λ y m. same y (Memᴰ.tail m)))

lower : (n k : ℕ) → n < k + 1 → not (eqb n k) ≡ ltb n k
lower n k lt = grind (arith, nat_tests)

module _ (table : List (Option Row)) (once : OnceIn table) (rules : List Denial) (rule : Denial) (number : ℕ) (last : number ≡ length rules)
    {before after : List Listed} (exact : Lists (is_conflict table rules) before) (grown : Grown table rule number before after) (up : rises by_places after ≡ true) where
  abbrev more : List Denial
  more = rules ++ rule ∷ []

  abbrev none : List ℕ → Bool
  none places = false

  here : number < length more
  here = omega (arith, length_push rules rule, last)

  at : get_or more number rule ≡ rule
  at = get_or_at rules rule [] rule number (sym last)

  starts : Lists (up_to table more none number) before
  starts = subst (λ n. Lists (up_to table more none n) before) (sym last) (rule_starts table rules rule before exact)

  pub rule_added : ((chosen : List ℕ) → Choice table rule chosen → Has after chosen) → Lists (is_conflict table more) after
  rule_added all = round_ends table more none (number + 1) (omega (arith, length_push rules rule, last)) after
      (one_further table once more none number here rule at starts grown up (λ chosen places c same fresh. all chosen c))

  module _ (full : length after ≡ 1024) (c : Listed) (f : Found table rule number after c) where
    pub rule_over : AtMost 1024 (rows_of table) more → ⊥
    rule_over = over table once more none number here rule at starts grown up full c f

    stuck : Between (up_to table more none number) (is_conflict table more) after
    stuck = half_way table once more none number here rule at starts grown up full c f

    pub rule_back : Lists (is_conflict table rules) (filter (λ c. not (eqb c.rule number)) after)
    rule_back =
        let same = kept_same (λ (c : Listed). not (eqb c.rule number)) (λ (c : Listed). ltb c.rule (length rules)) after (λ d m.
        let (low, t) = first_at (forbids table d.places) more d.rule rule (conflict_parts table more d (stuck.right d m)).2 in
        lower d.rule number (omega (arith, length_push rules rule, last, low)) ∙ ap (ltb d.rule) last) in
        subst (Lists (is_conflict table rules)) (sym same) (rule_undone table rules rule after (subst (λ n. Between (up_to table more none n) (is_conflict table more) after) last stuck))
