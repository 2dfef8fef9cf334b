-- From the least line of a width to the least candidate of eight columns.
use Rattle.std.proofs.Common.{◌≡◌, ℕ, ◌+◌, ◌-◌, ◌≤◌, Bool, true, false, List, [], ◌++◌, map, length, take, drop, replicate, Some, None, Option, ◌<◌, get_or, refl, sym, ap, ◌∙◌, subst, inl, inr, arith, length-append, length-drop, take-append-drop, length-take-le, get_or-drop}
use mathlib.Core.List.Memᴰ
use mathlib.Core.List.{Memᴰ}
use Rattle.std.proofs.lemmas.List.{get_or-replicate, length-replicate, ext_get_or, take_at}
use Rattle.std.proofs.lemmas.Bool.{both_ways, and_parts}
use Rattle.store.proofs.Tests.{same_tests}
use Rattle.std.specs.Prelude.{IfSome}
use Rattle.std.specs.Range.Bound.{bound_map}
use Rattle.store.specs.declared.row.Row.{Row}
use Rattle.plan.specs.Answers.{has, padded, width_at, plan_width}
use Rattle.plan.specs.Plans.{nodes_of, widths_of}
use Rattle.plan.specs.Truths.{line_fits}
use Rattle.plan.specs.declared.line.Line.{Line}
use Rattle.plan.specs.declared.plan.Plan.{Plan}
use Rattle.candidates.specs.Seeking.{reaches, past, Padded, Least, Finds}
use Rattle.candidates.specs.Candidates.{before, candidates_at, is_candidate, is_after, Next, NextSays}
use Rattle.std.specs.declared.ops.Bound.{Bound}
use Rattle.plan.proofs.Having.{Long, has_padded}
use Rattle.candidates.proofs.Candidates.{long_candidates}
use Rattle.candidates.proofs.Searching.{unwanted}
use Rattle.candidates.specs.declared.wanted.Wanted.{Wanted}
use Rattle.ordered.specs.Lists.{items_in}
use Rattle.plan.proofs.Members.{line_in, line_has}
use Rattle.candidates.proofs.Before.{front_less, front_cases, none_before_zeros}

-- an array that is zero from the width on is its front, padded
whole : (w : ℕ) (a : List ℕ) → w ≤ 8 → length a ≡ 8 → Padded w a → padded (take w a) ≡ a
whole w a small eight zeros =
    let short : length (take w a) ≡ w = length-take-le w a (omega arith) in
    let left : length (drop w a) ≡ 8 - length (take w a) = length-drop w a ∙ omega arith in
    let same : replicate (8 - length (take w a)) 0 ≡ drop w a = ext_get_or 0 (replicate (8 - length (take w a)) 0) (drop w a) (length-replicate _ 0 ∙ sym left)
    (λ i l. get_or-replicate (8 - length (take w a)) i 0 0 (omega (arith, length-replicate {A = ℕ} (8 - length (take w a)) 0)) ∙ sym (get_or-drop w a i 0 ∙ zeros (w + i) (omega arith))) in
    ap (λ r. take w a ++ r) same ∙ take-append-drop w a

-- columns are before a padded line exactly when their front is before the line
pub before_padded : (w : ℕ) (a t : List ℕ) → w ≤ 8 → length a ≡ 8 → length t ≡ w → before a (padded t) ≡ before (take w a) t
before_padded w a t small eight long =
    let short : length (take w a) ≡ length t = length-take-le w a (omega arith) ∙ sym long in
    let rest : length (drop w a) ≡ 8 - length t = length-drop w a ∙ omega arith in
    let zeros : List ℕ = replicate (8 - length t) 0 in
    ap (λ x. before x (t ++ zeros)) (sym (take-append-drop w a)) ∙ same_tests (before (take w a ++ drop w a) (t ++ zeros)) (before (take w a) t)
    (λ b. elim (front_cases (take w a) t (drop w a) zeros short b) [ inl f ↦ f | inr f ↦ absurd (both_ways (before (drop w a) zeros) (none_before_zeros (drop w a) (8 - length t) rest) f.1) ])
    (λ b. front_less (take w a) t (drop w a) zeros short b)

padded_long : (t : List ℕ) → length t ≤ 8 → length (padded t) ≡ 8
padded_long t small = length-append t (replicate (8 - length t) 0) ∙ omega (arith, length-replicate {A = ℕ} (8 - length t) 0)

module _ (cs : List (List ℕ)) (w : ℕ) (small : w ≤ 8) (long : Long w cs) (start : Bound (List ℕ)) (after : List ℕ → Bool) (agree : (t : List ℕ) → length t ≡ w → after (padded t) ≡ reaches start t) where
  -- what holds of each candidate line holds of the columns that are one
  of_each : (P : List ℕ → Type 0) → ((t : List ℕ) → Memᴰ t cs → P (padded t)) → (columns : List ℕ) → has (map padded cs) columns ≡ true → P columns
  of_each P f columns h = let (t, i, e) = Memᴰ.of_map padded cs (line_in columns (map padded cs) h) in subst P e (f t i)

  pub found_none : Least cs start w None → (columns : List ℕ) → has (map padded cs) columns ≡ true → after columns ≡ false
  found_none f = of_each (λ columns. after columns ≡ false) (λ t i. agree t (long t i) ∙ f t i)

  pub found_some : (a : List ℕ) → Least cs start w (Some a) →
      (has (map padded cs) a ≡ true) × (after a ≡ true) × ((columns : List ℕ) → has (map padded cs) columns ≡ true → after columns ≡ true → before columns a ≡ false)
  found_some a (i, r, f, eight, zeros) =
      let is : padded (take w a) ≡ a = whole w a small eight zeros in
      let wide : length (take w a) ≡ w = long (take w a) i in (
        subst (λ c. has (map padded cs) c ≡ true) is (line_has (Memᴰ.map padded i)),
        subst (λ c. after c ≡ true) is (agree (take w a) wide ∙ r),
        of_each (λ columns. after columns ≡ true → before columns a ≡ false)
            (λ t j h. ap (before (padded t)) (sym is) ∙ before_padded w (padded t) (take w a) small (padded_long t (omega (arith, long t j))) wide ∙
            ap (λ u. before u (take w a)) (take_at t (replicate (8 - length t) 0) w (long t j)) ∙ f t j (sym (agree t (long t j)) ∙ h)),
      )

-- columns are after a line exactly when the search past it reaches their front
after_past : (w : ℕ) → w ≤ 8 → (after : Option Line) → IfSome after (λ line. length line.columns ≡ 8) → (t : List ℕ) → length t ≡ w → is_after after (padded t) ≡ reaches (bound_map (take w) (past after)) t
after_past w small None eight t long = refl
after_past w small (Some line) eight t long = before_padded w line.columns t small eight long

module _ (plan : Plan) (rows : List Row) (after : Option Line) (eight : IfSome after (λ line. length line.columns ≡ 8)) (k : ℕ) (last : k ≡ length (nodes_of plan) - 1)
    (wanted : Wanted) (nothing : items_in wanted.comparisons ≡ []) where
  within : k < length (nodes_of plan)
  within = omega (arith, plan.some)

  abbrev Wide : ℕ
  Wide = get_or (widths_of plan) k 0

  small : Wide ≤ 8
  small = (plan.wide k within).2

  is_width : Wide ≡ plan_width (nodes_of plan)
  is_width = (plan.wide k within).1 ∙ ap (width_at (nodes_of plan)) last

  -- the candidates of the last node are the plan's
  at_last : (columns : List ℕ) → is_candidate (nodes_of plan) rows columns ≡ has (map padded (candidates_at rows (nodes_of plan) k)) columns
  at_last columns = ap (λ n. has (map padded (candidates_at rows (nodes_of plan) n)) columns) (sym last)

  found : (o : Option (List ℕ)) → Finds rows plan k wanted (past after) o → Least (candidates_at rows (nodes_of plan) k) (bound_map (take Wide) (past after)) Wide o
  found = unwanted plan rows k wanted nothing (past after)

  pub says_none : Finds rows plan k wanted (past after) None → NextSays (nodes_of plan) rows after None
  says_none f columns h = found_none (candidates_at rows (nodes_of plan) k) Wide small (long_candidates plan rows k within) (bound_map (take Wide) (past after)) (is_after after) (after_past Wide small after eight) (found None f) columns (sym (at_last columns) ∙ h)

  pub says_some : (columns : List ℕ) → Finds rows plan k wanted (past after) (Some columns) → Next (nodes_of plan) rows after columns
  says_some columns f =
      let (is, past, least) = found_some (candidates_at rows (nodes_of plan) k) Wide small (long_candidates plan rows k within) (bound_map (take Wide) (past after)) (is_after after) (after_past Wide small after eight) columns (found (Some columns) f) in
      let fits = (and_parts (line_fits Wide columns) _ (sym (has_padded (candidates_at rows (nodes_of plan) k) Wide columns small (long_candidates plan rows k within)) ∙ is)).0 in
      record { candidate = at_last columns ∙ is; past = past; least = λ other h a. least other (sym (at_last other) ∙ h) a; fits = subst (λ w. line_fits w columns ≡ true) is_width fits }
