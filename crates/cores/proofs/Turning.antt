-- Where a search for choices may turn back.
use Rattle.std.proofs.Common.{◌≡◌, ℕ, ◌<◌, true, List, [], ◌∷◌, ◌++◌, length, get_or, sym, subst, inl, inr, arith, append_assoc, length-append}
use mathlib.Core.List.Memᴰ
use mathlib.Core.List.{Memᴰ}
use Rattle.std.proofs.lemmas.Bool.{both_ways, and_parts, and_from, cases_eq}
use Rattle.store.specs.Lists.{all}
use Rattle.store.proofs.Tests.{from_not, any_pick, any_put, all_at, all_put}
use Rattle.rules.specs.Choosing.{SameSet}
use Rattle.rules.proofs.Ascents.{place_in, place_has, member_of}
use Rattle.cores.specs.Backing.{one_of, clear_places, without, others, backing, Works}
use Rattle.cores.specs.Searching.{fits, is_free, shut_out}
use Rattle.cores.specs.Laws.{Blocked, NoneFits, ShutOut, EachTried, FreeIsBest}
use lib.Seq.{get_or-append_seam}
use Rattle.cores.proofs.Sets.{clear_no, clear_within, within_lists, member_at, number_of}
use Rattle.cores.proofs.Others.{without_put, others_at, others_cases, backing_front}
use Rattle.cores.proofs.Chosen.{reals_change, reals_here}

pub blocked : Blocked
blocked C ins outs chosen marks same whole more w =
    both_ways (clear_places C (one_of marks)) whole (clear_within C (one_of marks) (one_of (backing C ins outs (chosen ++ more)))
    (within_lists marks (backing C ins outs (chosen ++ more)) (λ p m. backing_front C ins outs chosen more p (member_of marks (backing C ins outs chosen) same p m))) w.stands)

module _ (C : List (List ℕ)) (ins outs chosen marks : List ℕ) (same : SameSet marks (backing C ins outs chosen)) (more : List ℕ) (w : Works C ins outs (chosen ++ more)) where
  abbrev All : List ℕ
  All = chosen ++ more

  -- the conflict that is chosen for a row that is out fits it at any time before
  chosen_fits : (k : ℕ) → k < length All → fits C marks (get_or outs k 0) (get_or C (get_or All k 0) []) ≡ true
  chosen_fits k h =
      let o : ℕ = get_or outs k 0 in
      let c : List ℕ = get_or C (get_or All k 0) [] in
      and_from (one_of c o) (clear_places C (one_of (marks ++ without o c))) (w.real k h).1
      (clear_within C (one_of (marks ++ without o c)) (one_of (backing C ins outs All))
      (within_lists (marks ++ without o c) (backing C ins outs All) (λ p m. elim (Memᴰ.append_cases marks m) [
        | inl n ↦ backing_front C ins outs chosen more p (member_of marks (backing C ins outs chosen) same p n)
        | inr n ↦ Memᴰ.append_right ins (others_at C outs All k h (omega (arith, w.long)) p n)
      ])) w.stands)

pub none_fits : NoneFits
none_fits C ins outs chosen marks same o out none more w =
    let (k, h, e) = number_of 0 (place_in o outs out) in
    let l : k < length (chosen ++ more) = omega (arith, w.long) in
    both_ways _ none (any_put (fits C marks o) (member_at C (get_or (chosen ++ more) k 0) [] (w.real k l).0)
    (subst (λ p. fits C marks p (get_or C (get_or (chosen ++ more) k 0) []) ≡ true) e (chosen_fits C ins outs chosen marks same more w k l)))

pub each_tried : EachTried
each_tried C ins outs chosen marks same next each [] w = absurd (omega (arith, w.long, length-append chosen []))
each_tried C ins outs chosen marks same next each (c ∷ more) w =
    let at : ℕ = length chosen in
    let is : get_or (chosen ++ c ∷ more) at 0 ≡ c = get_or-append_seam chosen c more 0 in
    each c (reals_here C (λ k. get_or outs k 0) chosen more c w.real).0
    (subst (λ x. fits C marks (get_or outs at 0) (get_or C x []) ≡ true) is (chosen_fits C ins outs chosen marks same (c ∷ more) w at (omega (arith, length-append chosen (c ∷ more)))))
    more (subst (Works C ins outs) (sym (append_assoc chosen (c ∷ []) more)) w)

pub free_is_best : FreeIsBest
free_is_best C ins outs chosen marks same next c inside free none [] w = absurd (omega (arith, w.long, length-append chosen []))
free_is_best C ins outs chosen marks same next c inside free none (x ∷ more) w =
    let o : ℕ = get_or outs (length chosen) 0 in
    let (has, idle) = and_parts (one_of (get_or C c []) o) (all (one_of marks) (without o (get_or C c []))) free in
    let was : List ℕ = backing C ins outs (chosen ++ x ∷ more) in
    let now : List ℕ = backing C ins outs (chosen ++ c ∷ more) in
    none more (subst (Works C ins outs) (sym (append_assoc chosen (c ∷ []) more)) (record {
      long = omega (arith, w.long, length-append chosen (x ∷ more), length-append chosen (c ∷ more));
      real = reals_change C (λ k. get_or outs k 0) chosen more c x w.real (inside, has);
      stands = clear_within C (one_of now) (one_of was) (within_lists now was (λ p m. elim (Memᴰ.append_cases ins m) [
        | inl n ↦ Memᴰ.append_left (others C outs (chosen ++ x ∷ more)) n
        | inr n ↦ elim (others_cases C outs chosen more c next p n) [
          | inl i ↦ backing_front C ins outs chosen (x ∷ more) p (member_of marks (backing C ins outs chosen) same p (place_in p marks (all_at (one_of marks) i idle)))
          | inr f ↦ Memᴰ.append_right ins (f x)
        ]
      ])) w.stands;
    }))

pub shut_out_lem : ShutOut
shut_out_lem C marks o conflict shut = from_not (fits C marks o conflict) (λ fit.
    let (p, m, k) = any_pick (shut_out C marks) (without o conflict) shut in
    let (other, n, free) = any_pick (is_free marks p) C k in
    let (has, idle) = and_parts (one_of other p) (all (one_of marks) (without p other)) free in
    let all_marks : List ℕ = marks ++ without o conflict in
    clear_no C (one_of all_marks) n (and_parts (one_of conflict o) (clear_places C (one_of all_marks)) fit).1 (all_put (one_of all_marks) other (λ q i. elim (cases_eq q p) [
      | inl e ↦ place_has (Memᴰ.append_right marks (subst (λ x. Memᴰ x (without o conflict)) (sym e) m))
      | inr ne ↦ place_has (Memᴰ.append_left (without o conflict) (place_in q marks (all_at (one_of marks) (without_put p i ne) idle)))
    ])))
