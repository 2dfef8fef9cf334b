-- What a set of places says of the leaves, and that a set with the marked places says what their way says.
use Rattle.std.proofs.Common.{◌≡◌, ℕ, ◌<◌, ◌≤◌, Bool, true, false, not, List, [], ◌∷◌, map, length, get_or, take, Some, None, Option, sym, refl, ap, ◌∙◌, ap₂, inl, inr, arith}
use mathlib.Core.List.Memᴰ
use mathlib.Core.List.{Memᴰ}
use Rattle.std.proofs.lemmas.Bool.{both_ways, not-true, and_parts, cases_eq}
use Rattle.store.proofs.Tests.{from_not, all_put}
use Rattle.rules.proofs.Ascents.{place_in, place_has}
use Rattle.cores.specs.Ways.{place_if, ins_of, outs_of, may_be, possible}
use Rattle.cores.specs.Backing.{one_of, clear_places, others, backing, Works}
use Rattle.cores.specs.Laws.{InAndOut}
use Rattle.cores.proofs.Sets.{Within, clear_no, member_at, number_of}
use Rattle.cores.proofs.Others.{without_put, others_at}

-- whether a leaf's row is in
abbrev pub say_of : (ℕ → Bool) → Option ℕ → Bool
say_of R None = false
say_of R (Some p) = R p

abbrev pub way_in : (ℕ → Bool) → List (Option ℕ) → List Bool
way_in R leaves = map (say_of R) leaves

-- a row that is out stays out of every clear set that has the marked places
pub stays_out : (C : List (List ℕ)) (ins outs choices : List ℕ) → Works C ins outs choices → (R : ℕ → Bool) → clear_places C R ≡ true → Within (one_of (backing C ins outs choices)) R →
    (p : ℕ) → Memᴰ p outs → R p ≡ false
stays_out C ins outs choices w R clear within p m = from_not (R p) (λ is-in.
    let (k, out, e) = number_of 0 m in
    let l : k < length choices = omega (arith, w.long) in
    let conflict : List ℕ = get_or C (get_or choices k 0) [] in
    clear_no C R (member_at C (get_or choices k 0) [] (w.real k l).0) clear (all_put R conflict (λ q n. elim (cases_eq q p) [
      | inl f ↦ ap R f ∙ is-in
      | inr ne ↦ within q (place_has (Memᴰ.append_right ins (others_at C outs choices k l out q (without_put (get_or outs k 0) n (λ f. ne (f ∙ e))))))
    ])))

pub in_and_out : InAndOut
in_and_out C ins outs choices w p a b =
    let marks : List ℕ = backing C ins outs choices in
    both_ways (one_of marks p) (stays_out C ins outs choices w (one_of marks) w.stands (λ q h. h) p (place_in p outs b)) (place_has (Memᴰ.append_left (others C outs choices) (place_in p ins a)))

says_so : (R : ℕ → Bool) (says : Bool) (leaf : Option ℕ) → may_be says leaf ≡ true → ((p : ℕ) → Memᴰ p (place_if says leaf) → R p ≡ true) → ((p : ℕ) → Memᴰ p (place_if (not says) leaf) → R p ≡ false) → say_of R leaf ≡ says
says_so R says None may ins outs = sym (not-true says may)
says_so R true (Some p) may ins outs = ins p (Memᴰ.head refl)
says_so R false (Some p) may ins outs = outs p (Memᴰ.head refl)

-- a set with the rows that are in, and without those that are out, says what the way says
pub same_way : (R : ℕ → Bool) (leaves : List (Option ℕ)) (way : List Bool) → length leaves ≤ length way → possible leaves way ≡ true →
    ((p : ℕ) → Memᴰ p (ins_of leaves way) → R p ≡ true) → ((p : ℕ) → Memᴰ p (outs_of leaves way) → R p ≡ false) → way_in R leaves ≡ take (length leaves) way
same_way R [] way long may ins outs = refl
same_way R (leaf ∷ leaves) [] long may ins outs = absurd (omega arith)
same_way R (leaf ∷ leaves) (says ∷ way) long may ins outs =
    let (a, b) = and_parts (may_be says leaf) (possible leaves way) may in
    ap₂ ◌∷◌
    (says_so R says leaf a (λ p m. ins p (Memᴰ.append_left (ins_of leaves way) m)) (λ p m. outs p (Memᴰ.append_left (outs_of leaves way) m)))
    (same_way R leaves way (omega arith) b (λ p m. ins p (Memᴰ.append_right (place_if says leaf) m)) (λ p m. outs p (Memᴰ.append_right (place_if (not says) leaf) m)))
