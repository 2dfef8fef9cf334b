-- A filter in place that writes only below what it has kept. Assumes nothing.
use Rattle.std.proofs.Common.{◌≡◌, ℕ, ◌+◌, ◌<◌, min, Bool, true, false, List, length, get_or, take, drop, set, filter, sym, ap, ◌∙◌, arith}
use Rattle.std.proofs.lemmas.List.Filters.{FiltersInPlace, FiltersInPlace-more_no, FiltersInPlace-more_set}
use Rattle.std.proofs.lemmas.List.{drop-drop, drop-set-lt, length-take}
use Rattle.ordered.specs.Promises.{Retains}
use Rattle.ordered.proofs.Capped.{take_capped}

-- of the first i of xs, the k that pass stand in the first k places of ys, and past them ys is as xs
pub record Filtered {X : Type 0} (p : X → Bool) (xs ys : List X) (k i : ℕ) : Type 0 where
  pub keeping : FiltersInPlace p xs ys k i
  pub rest : drop k ys ≡ drop k xs

module _ {X : Type 0} {p : X → Bool} {xs ys : List X} {k i : ℕ} {x : X} (h : Filtered p xs ys k i) (lt : i < length ys) (is : x ≡ get_or ys i x) where
  pub filtered_out : p x ≡ false → Filtered p xs ys k (i + 1)
  filtered_out fails = record { keeping = FiltersInPlace-more_no h.keeping lt fails is; rest = h.rest }

  pub filtered_in : p x ≡ true → Filtered p xs (set ys k x) (k + 1) (i + 1)
  filtered_in passes = record {
    keeping = FiltersInPlace-more_set h.keeping lt passes is;
    rest = drop-set-lt (k + 1) ys k x (omega arith) ∙ sym (drop-drop 1 k ys) ∙ ap (drop 1) h.rest ∙ drop-drop 1 k xs;
  }

pub filtered_all : {X : Type 0} {p : X → Bool} {xs ys : List X} {k i : ℕ} (count : ℕ) → i ≡ min count (length xs) → Filtered p xs ys k i → Retains p (take count xs) xs ys k
filtered_all {X} {p} {xs} {ys} {k} {i} count end h = record {
  within = omega (arith, length-take count xs, h.keeping.behind);
  list = h.keeping.front ∙ ap (filter p) (take_capped i count xs end);
  rest = h.rest;
}
