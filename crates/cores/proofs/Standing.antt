-- Which places are named, and that all places that are marked have rows.
use Rattle.std.proofs.Common.{◌≡◌, ℕ, zero, suc, Bool, true, false, List, [], ◌∷◌, ◌++◌, get_or, Some, None, Option, sym, refl, ap, subst, inl, inr, arith}
use mathlib.Core.List.Memᴰ
use mathlib.Core.List.{Memᴰ}
use Rattle.store.specs.Store.{Store, FindSays}
use Rattle.store.specs.declared.row.Row.{Row}
use Rattle.store.proofs.Tests.{all_at, all_put}
use Rattle.rules.specs.Listing.{is_held}
use Rattle.cores.specs.Ways.{place_if, ins_of, outs_of}
use Rattle.cores.specs.Backing.{HeldIn, without, others}
use Rattle.cores.specs.Settling.{Located}
use Rattle.cores.specs.Laws.{HeldMarked}
use Rattle.cores.proofs.Others.{without_pick}
use Rattle.cores.proofs.Sets.{number_of}

-- the leaves that have a place
pub place_if_leaf : (asked : Bool) (leaf : Option ℕ) (p : ℕ) → Memᴰ p (place_if asked leaf) → leaf ≡ Some p
place_if_leaf true (Some q) p (Memᴰ.head e) = ap Some (sym e)
place_if_leaf true (Some q) p (Memᴰ.tail m) = elim m [ ]
place_if_leaf false (Some q) p m = elim m [ ]
place_if_leaf true None p m = elim m [ ]
place_if_leaf false None p m = elim m [ ]

pub in_leaf : (leaves : List (Option ℕ)) (way : List Bool) (p : ℕ) → Memᴰ p (ins_of leaves way) → Memᴰ (Some p) leaves
in_leaf [] way p m = elim m [ ]
in_leaf (leaf ∷ leaves) [] p m = elim m [ ]
in_leaf (leaf ∷ leaves) (says ∷ way) p m = elim (Memᴰ.append_cases (place_if says leaf) m) [ inl n ↦ Memᴰ.head (sym (place_if_leaf says leaf p n)) | inr n ↦ Memᴰ.tail (in_leaf leaves way p n) ]

-- a leaf that has a place tells where a row stands
pub leaf_stands : (s : Store) (named : List Row) (leaves : List (Option ℕ)) → Located s named leaves → (p : ℕ) → Memᴰ (Some p) leaves → (row : Row) × (get_or s.places p None ≡ Some row)
leaf_stands s named leaves at p m =
    let d : Row = record { relation = 0; columns = [] } in
    let (k, h, e) = number_of None m in
    let says : FindSays s (get_or named k d) (Some p) = subst (FindSays s (get_or named k d)) e (at.each k (omega (arith, at.long)) d) in
    (get_or named k d, says.1)

module _ (table : List (Option Row)) (C : List (List ℕ)) (held : HeldIn table C) where
  abbrev at : ℕ → Bool
  at p = is_held (get_or table p None)

  numbered_held : (C : List (List ℕ)) → HeldIn table C → (c p : ℕ) → Memᴰ p (get_or C c []) → at p ≡ true
  numbered_held [] held c p m = elim m [ ]
  numbered_held (conflict ∷ C) held zero p m = all_at at m (held conflict (Memᴰ.head refl))
  numbered_held (conflict ∷ C) held (suc c) p m = numbered_held C (λ x n. held x (Memᴰ.tail n)) c p m

  others_held : (outs choices : List ℕ) (p : ℕ) → Memᴰ p (others C outs choices) → at p ≡ true
  others_held [] choices p m = elim m [ ]
  others_held (o ∷ outs) [] p m = elim m [ ]
  others_held (o ∷ outs) (c ∷ choices) p m = elim (Memᴰ.append_cases (without o (get_or C c [])) m) [
    | inl n ↦ numbered_held C held c p (without_pick o (get_or C c []) n).0
    | inr n ↦ others_held outs choices p n
  ]

pub held_marked : HeldMarked
held_marked s C held named leaves at way chosen =
    all_put (λ p. is_held (get_or s.places p None)) (ins_of leaves way ++ others C (outs_of leaves way) chosen) (λ p m. elim (Memᴰ.append_cases (ins_of leaves way) m) [
      | inl n ↦ let (row, e) = leaf_stands s named leaves at p (in_leaf leaves way p n) in ap is_held e
      | inr n ↦ others_held s.places C held (outs_of leaves way) chosen p n
    ])
