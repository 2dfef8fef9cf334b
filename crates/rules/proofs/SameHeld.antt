-- Conflicts and readings are about the rows held, however these are told.
use Rattle.std.proofs.Common.{◌≡◌, ℕ, Bool, true, not, ◌&&◌, ◌||◌, List, [], ◌∷◌, sym, refl, ap, ◌∙◌, subst, ap₂}
use mathlib.Core.Path.{fun_ext}
use mathlib.Core.List.{Memᴰ}
use Rattle.store.specs.Lists.{any, all}
use Rattle.store.specs.Rows.{same_row}
use Rattle.store.specs.declared.row.Row.{Row}
use Rattle.store.proofs.Tests.{same_tests, all_at, all_put}
use Rattle.rules.specs.Sets.{Rows, among, with}
use Rattle.rules.specs.Rules.{Denial, breaks, conflicts, AtMost}
use Rattle.rules.specs.Readings.{clear, reading}
use Rattle.rules.specs.Laws.{SameMembers, OnlyHeld}
use Rattle.rules.proofs.Members.{row_in, row_has}
use Rattle.rules.proofs.Breaking.{conflict_put, conflict_pick}
use Rattle.rules.proofs.Extension.{clear_at, clear_put}

most_over : (a b : List Row) → ((r : Row) → among a r ≡ among b r) → (rules : List Denial) (n : ℕ) → AtMost n a rules → AtMost n b rules
most_over a b same rules n most cs each apart =
    most cs (subst (λ (S : Rows). all (λ c. all S c && any (λ rule. breaks rule c) rules) cs ≡ true) (fun_ext (λ r. sym (same r))) each) apart

module _ (a b : List Row) (same : (r : Row) → among a r ≡ among b r) where
  over : (r : Row) → Memᴰ r b → Memᴰ r a
  over r m = row_in r a (same r ∙ row_has m)

  conflict_over : (rules : List Denial) (c : List Row) → Memᴰ c (conflicts a rules) → Memᴰ c (conflicts b rules)
  conflict_over rules c m = let (h, k) = conflict_pick a rules c m in
      conflict_put b rules c (subst (λ (S : Rows). all S c ≡ true) (fun_ext same) h) k

  clear_over : (rules : List Denial) (S : Rows) → clear (conflicts b rules) S ≡ true → clear (conflicts a rules) S ≡ true
  clear_over rules S h = clear_put (conflicts a rules) S (λ c m w. clear_at (conflicts b rules) S (conflict_over rules c m) h w)

read_over : (a b : List Row) → ((r : Row) → among a r ≡ among b r) → (rules : List Denial) (R : Rows) → reading a (conflicts a rules) R ≡ reading b (conflicts b rules) R
read_over a b same rules R =
    let back : (r : Row) → among b r ≡ among a r = λ r. sym (same r) in
    ap (λ (f : Rows → Bool). f R && all (λ r. R r || not (f (with r R))) a)
    (fun_ext (λ S. same_tests (clear (conflicts a rules) S) (clear (conflicts b rules) S) (clear_over b a back rules S) (clear_over a b same rules S))) ∙
    ap (λ t. clear (conflicts b rules) R && t)
    (let test : Row → Bool = λ r. R r || not (clear (conflicts b rules) (with r R)) in
    same_tests (all test a) (all test b) (λ h. all_put test b (λ r m. all_at test (over a b same r m) h)) (λ h. all_put test a (λ r m. all_at test (over b a back r m) h)))

pub same_members : SameMembers
same_members a b same rules = (most_over a b same rules, read_over a b same rules)

-- tests that agree on a list's elements
all_same : {A : Type 0} (p q : A → Bool) (xs : List A) → ((x : A) → Memᴰ x xs → p x ≡ q x) → all p xs ≡ all q xs
all_same p q [] h = refl
all_same p q (x ∷ xs) h = ap₂ ◌&&◌ (h x (Memᴰ.head refl)) (all_same p q xs (λ y m. h y (Memᴰ.tail m)))

any_same : {A : Type 0} (p q : A → Bool) (xs : List A) → ((x : A) → Memᴰ x xs → p x ≡ q x) → any p xs ≡ any q xs
any_same p q [] h = refl
any_same p q (x ∷ xs) h = ap₂ ◌||◌ (h x (Memᴰ.head refl)) (any_same p q xs (λ y m. h y (Memᴰ.tail m)))

pub only_held : OnlyHeld
only_held held rules R S same = ap₂ ◌&&◌ (alike R S same)
    (all_same (λ r. R r || not (clear C (with r R))) (λ r. S r || not (clear C (with r S))) held
    (λ r m. ap₂ (λ a b. a || not b) (same r (row_has m)) (alike (with r R) (with r S) (λ x k. ap (λ b. same_row x r || b) (same x k)))))
  where
    C : List (List Row)
    C = conflicts held rules

    alike : (P Q : Rows) → ((r : Row) → among held r ≡ true → P r ≡ Q r) → clear C P ≡ clear C Q
    alike P Q h = ap not (any_same (all P) (all Q) C (λ c m. all_same P Q c (λ r i. h r (all_at (among held) i (conflict_pick held rules c m).0))))
