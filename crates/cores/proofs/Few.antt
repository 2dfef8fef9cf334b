-- How many places are marked.
use Rattle.std.proofs.Common.{◌≡◌, ℕ, suc, ◌+◌, ◌*◌, ◌≤◌, Bool, true, false, cond, not, eqb, List, [], ◌∷◌, length, get_or, filter, Some, None, Option, sym, refl, subst, arith, length-append}
use mathlib.Core.List.{Memᴰ}
use Rattle.std.proofs.lemmas.Bool.{not_from_true, eq-eqb}
use Rattle.store.proofs.Tests.{all_at}
use Rattle.rules.proofs.Apart.{no_more}
use Rattle.rules.proofs.Ascents.{place_in}
use Rattle.cores.specs.Ways.{place_if, ins_of, outs_of}
use Rattle.cores.specs.Backing.{one_of, Small, without, others}
use Rattle.cores.specs.Laws.{FewMarked, Different}
use Rattle.cores.proofs.Chosen.{Reals}
use Rattle.cores.proofs.Sets.{member_at}

-- at each leaf one row is in or out at most
one_side : (says : Bool) (leaf : Option ℕ) → length (place_if says leaf) + length (place_if (not says) leaf) ≤ 1
one_side true None = omega arith
one_side false None = omega arith
one_side true (Some p) = omega arith
one_side false (Some p) = omega arith

sides : (leaves : List (Option ℕ)) (way : List Bool) → length (ins_of leaves way) + length (outs_of leaves way) ≤ length leaves
sides [] way = omega arith
sides (leaf ∷ leaves) [] = omega arith
sides (leaf ∷ leaves) (says ∷ way) =
    omega (arith, sides leaves way, one_side says leaf, length-append (place_if says leaf) (ins_of leaves way), length-append (place_if (not says) leaf) (outs_of leaves way))

kept_few : (test : ℕ → Bool) (xs : List ℕ) → length (filter test xs) ≤ length xs
kept_few test [] = omega arith
kept_few test (x ∷ xs) = elim (test x) as (λ b. length (cond b (x ∷ filter test xs) (filter test xs)) ≤ suc (length xs)) [ true ↦ omega (arith, kept_few test xs) | false ↦ omega (arith, kept_few test xs) ]

-- a conflict without a place of its own is shorter
without_few : (o : ℕ) {xs : List ℕ} → Memᴰ o xs → length (without o xs) + 1 ≤ length xs
without_few o (Memᴰ.head {x = x} {xs = xs} e) =
    let drops : not (eqb x o) ≡ false = not_from_true (eqb x o) (eq-eqb x o (sym e)) in
    subst (λ b. length (cond b (x ∷ without o xs) (without o xs)) + 1 ≤ suc (length xs)) (sym drops) (omega (arith, kept_few (λ p. not (eqb p o)) xs))
without_few o (Memᴰ.tail {x = x} {xs = xs} m) =
    elim (not (eqb x o)) as (λ b. length (cond b (x ∷ without o xs) (without o xs)) + 1 ≤ suc (length xs)) [ true ↦ omega (arith, without_few o m) | false ↦ omega (arith, without_few o m) ]

others_few : (C : List (List ℕ)) → Small C → (outs choices : List ℕ) → Reals C (λ k. get_or outs k 0) choices → length (others C outs choices) ≤ 2 * length outs
others_few C small [] choices real = omega arith
others_few C small (o ∷ outs) [] real = omega arith
others_few C small (o ∷ outs) (c ∷ choices) real =
    let (inside, has) = real 0 (omega arith) in
    let conflict : List ℕ = get_or C c [] in
    omega (arith, others_few C small outs choices (λ k h. real (suc k) (omega arith)), small conflict (member_at C c [] inside), without_few o (place_in o conflict has), length-append (without o conflict) (others C outs choices))

pub few_marked : FewMarked
few_marked C small leaves six way chosen real =
    omega (arith, sides leaves way, others_few C small (outs_of leaves way) chosen real, length-append (ins_of leaves way) (others C (outs_of leaves way) chosen))

pub different : Different
different places marks once each =
    no_more eqb (λ a b. a ≡ b) (λ x y z e f. eq-eqb x y (subst (λ t. x ≡ t) (sym f) e)) places marks once (λ p m. (p, place_in p marks (all_at (one_of marks) m each), refl))
