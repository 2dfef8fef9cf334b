-- Each clear set is part of a reading: the held rows are taken in turn, each where it leaves the set clear.
use Rattle.std.proofs.Common.{◌≡◌, ℕ, ◌<◌, Bool, true, false, cond, not, ◌||◌, List, [], ◌∷◌, length, refl, inl, inr, arith}
use mathlib.Core.List.{Memᴰ}
use Rattle.std.proofs.lemmas.Bool.{both_ways, not-true, and_from, or_cases, or_left, or_right, not_from_false}
use Rattle.store.specs.Lists.{any, all}
use Rattle.store.specs.Rows.{same_row}
use Rattle.store.specs.declared.row.Row.{Row}
use Rattle.store.proofs.Alike.{same_row_refl}
use Rattle.store.proofs.Tests.{any_pick, any_put, all_at, all_put, from_not}
use Rattle.rules.specs.Sets.{Rows, with}
use Rattle.rules.specs.Rules.{of_relations, breaks, conflicts}
use Rattle.rules.specs.Readings.{clear}
use Rattle.rules.specs.Laws.{Part, Extends, SomeReading}
use Rattle.rules.proofs.Breaking.{breaks_parts, conflict_pick}

pub all_part : (S R : Rows) → Part S R → (c : List Row) → all S c ≡ true → all R c ≡ true
all_part S R sub c h = all_put R c (λ x m. sub x (all_at S m h))

pub with_part : (S R : Rows) (r : Row) → Part S R → Part (with r S) (with r R)
with_part S R r sub x h = elim (or_cases (same_row x r) (S x) h) [ inl e ↦ or_left (same_row x r) (R x) e | inr e ↦ or_right (same_row x r) (R x) (sub x e) ]

module _ (C : List (List Row)) where
  pub clear_at : (S : Rows) {c : List Row} → Memᴰ c C → clear C S ≡ true → all S c ≡ true → ⊥
  clear_at S m h k = both_ways (any (all S) C) (not-true (any (all S) C) h) (any_put (all S) m k)

  pub clear_put : (S : Rows) → ((c : List Row) → Memᴰ c C → all S c ≡ true → ⊥) → clear C S ≡ true
  clear_put S h = not_from_false (any (all S) C) (from_not (any (all S) C) (λ e. let (c, m, w) = any_pick (all S) C e in h c m w))

  pub clear_part : (S R : Rows) → Part S R → clear C R ≡ true → clear C S ≡ true
  clear_part S R sub h = clear_put S (λ c m w. clear_at R m h (all_part S R sub c w))

  abbrev taken : Rows → Row → Rows
  taken S h = cond (clear C (with h S)) (with h S) S

  abbrev grow : List Row → Rows → Rows
  grow [] S = S
  grow (h ∷ hs) S = grow hs (taken S h)

  taken_part : (S : Rows) (h : Row) → Part S (taken S h)
  taken_part S h = elim (clear C (with h S)) as (λ b. Part S (cond b (with h S) S)) [ true ↦ λ x e. or_right (same_row x h) (S x) e | false ↦ λ x e. e ]

  grow_part : (hs : List Row) (S : Rows) → Part S (grow hs S)
  grow_part [] S = λ x e. e
  grow_part (h ∷ hs) S = λ x e. grow_part hs (taken S h) x (taken_part S h x e)

  taken_clear : (S : Rows) (h : Row) → clear C S ≡ true → clear C (taken S h) ≡ true
  taken_clear S h k = go (clear C (with h S)) refl
    where
      go : (b : Bool) → clear C (with h S) ≡ b → clear C (cond b (with h S) S) ≡ true
      go true e = e
      go false e = k

  grow_clear : (hs : List Row) (S : Rows) → clear C S ≡ true → clear C (grow hs S) ≡ true
  grow_clear [] S k = k
  grow_clear (h ∷ hs) S k = grow_clear hs (taken S h) (taken_clear S h k)

  -- a row that was passed over stays out of every larger set
  settled : (S : Rows) (h : Row) (R : Rows) → Part (taken S h) R → (R h || not (clear C (with h R))) ≡ true
  settled S h R sub = go (clear C (with h S)) refl sub
    where
      go : (b : Bool) → clear C (with h S) ≡ b → Part (cond b (with h S) S) R → (R h || not (clear C (with h R))) ≡ true
      go true e s = or_left (R h) (not (clear C (with h R))) (s h (or_left (same_row h h) (S h) (same_row_refl h)))
      go false e s = or_right (R h) (not (clear C (with h R))) (not_from_false (clear C (with h R)) (from_not (clear C (with h R))
          (λ k. both_ways (clear C (with h S)) e (clear_part (with h S) (with h R) (with_part S R h s) k))))

  grow_full : (hs : List Row) (S : Rows) → all (λ r. grow hs S r || not (clear C (with r (grow hs S)))) hs ≡ true
  grow_full [] S = refl
  grow_full (h ∷ hs) S = let R : Rows = grow hs (taken S h) in
      and_from (R h || not (clear C (with h R))) (all (λ r. R r || not (clear C (with r R))) hs)
      (settled S h R (grow_part hs (taken S h))) (grow_full hs (taken S h))

pub extension : Extends
extension held C S k = let R : Rows = grow C held S in
    (R, and_from (clear C R) (all (λ r. R r || not (clear C (with r R))) held) (grow_clear C held S k) (grow_full C held S), grow_part C held S)

no_atoms : (atoms : List ℕ) → 0 < length atoms → of_relations atoms [] ≡ true → ⊥
no_atoms [] l h = omega arith
no_atoms (a ∷ atoms) l h = both_ways false refl h

pub some_reading : SomeReading
some_reading held rules each =
    let (R, ok, sub) = extension held (conflicts held rules) (λ r. false) (clear_put (conflicts held rules) (λ r. false) nothing) in (R, ok)
  where
    nothing : (c : List Row) → Memᴰ c (conflicts held rules) → all (λ r. false) c ≡ true → ⊥
    nothing [] m w =
        let (rule, i, b) = any_pick (λ rule. breaks rule []) rules (conflict_pick held rules [] m).1 in
        no_atoms rule.atoms (each rule i) (breaks_parts rule [] b).0
    nothing (r ∷ c) m w = both_ways false refl w
