-- One conflict more is looked at, and what it tells of the rows that are shut out.
use Rattle.std.proofs.Common.{◌≡◌, ℕ, zero, suc, ◌+◌, ◌<◌, Bool, true, false, not, ◌||◌, eqb, ◌≢◌, List, [], ◌∷◌, ◌++◌, length, get_or, take, set, sym, refl, ap, ◌∙◌, subst, ⊎_elim, arith, get_or-set_other, get_or-set_same}
use Rattle.std.proofs.lemmas.Bool.{both_ways, and_parts, and_from, or_left, or_right, cases_eq}
use Rattle.std.proofs.lemmas.List.{take_more, get_or-map, length-map}
use Rattle.std.proofs.lemmas.List.Folds.{list_any-append, list_any_at}
use Rattle.store.specs.Lists.{any, all}
use Rattle.rules.specs.Views.{listed_as}
use Rattle.rules.specs.declared.conflict.Conflict.{Conflict}
use Rattle.cores.specs.Backing.{one_of, clear_places, without}
use Rattle.verdict.specs.Marking.{lists_of, have_bytes, is_in, lacks_only, Shuts}
use Rattle.verdict.proofs.Places.{but_for}

any_here : {A : Type 0} (p : A → Bool) (xs : List A) (i : ℕ) (d : A) → i < length xs → p (get_or xs i d) ≡ true → any p xs ≡ true
any_here p [] i d lt h = absurd (omega arith)
any_here p (x ∷ xs) zero d lt h = or_left (p x) (any p xs) h
any_here p (x ∷ xs) (suc i) d lt h = or_right (p x) (any p xs) (any_here p xs i d (omega arith) h)

-- sets that have the same places are the same
pub alike : {S R : ℕ → Bool} → ((p : ℕ) → S p ≡ R p) → S ≡ R
alike h = λ i p. h p i

module _ (cs : List Conflict) (i : ℕ) (x : Conflict) (lt : i < length cs) (e : x ≡ get_or cs i x) (places : List ℕ) (pe : places ≡ (listed_as x).places) where
  pub listed_at : get_or (lists_of cs) i [] ≡ places
  listed_at = get_or-map (λ c. (listed_as c).places) cs i x [] lt ∙ ap (λ c. (listed_as c).places) (sym e) ∙ sym pe

  pub within : i < length (lists_of cs)
  within = omega (arith, length-map cs (λ c. (listed_as c).places))

  lists_more : lists_of (take (i + 1) cs) ≡ lists_of (take i cs) ++ places ∷ []
  lists_more = ap lists_of (take_more cs i x lt) ∙ spread (take i cs) ∙ ap (λ t. lists_of (take i cs) ++ t ∷ []) (ap (λ c. (listed_as c).places) (sym e) ∙ sym pe)
    where
      spread : (ys : List Conflict) → lists_of (ys ++ get_or cs i x ∷ []) ≡ lists_of ys ++ (listed_as (get_or cs i x)).places ∷ []
      spread [] = refl
      spread (y ∷ ys) = ap (λ t. (listed_as y).places ∷ t) (spread ys)

  pub all_listed : all have_bytes (lists_of cs) ≡ true → have_bytes places ≡ true
  all_listed h = ap have_bytes (sym listed_at) ∙ all_there (lists_of cs) i within h
    where
      all_there : (C : List (List ℕ)) (k : ℕ) → k < length C → all have_bytes C ≡ true → have_bytes (get_or C k []) ≡ true
      all_there [] k l h = absurd (omega arith)
      all_there (c ∷ C) zero l h = (and_parts _ _ h).0
      all_there (c ∷ C) (suc k) l h = all_there C k (omega arith) (and_parts _ _ h).1

  -- it is whole
  pub whole_here : (S : ℕ → Bool) → all S places ≡ true → clear_places (lists_of cs) S ≡ false
  whole_here S h = ap not (list_any_at (all S) (lists_of cs) i [] within (ap (all S) listed_at ∙ h))

  -- it is not
  pub clear_more : (S : ℕ → Bool) → clear_places (lists_of (take i cs)) S ≡ true → all S places ≡ false → clear_places (lists_of (take (i + 1) cs)) S ≡ true
  clear_more S h k = ap (λ t. clear_places t S) lists_more ∙ ap not (list_any-append (all S) (lists_of (take i cs)) (places ∷ [])) ∙ last (any (all S) (lists_of (take i cs))) (all S places) h k
    where
      last : (a b : Bool) → not a ≡ true → b ≡ false → not (a || (b || false)) ≡ true
      last true b h k = h
      last false true h k = absurd (both_ways true k refl)
      last false false h k = refl

  -- the row at p is shut out by it
  module _ (marks : List ℕ) (p : ℕ) (room : p < length marks) (has : one_of places p ≡ true) (out : is_in marks p ≡ false) (rest : all (is_in marks) (without p places) ≡ true) where
    pub in_still : (q : ℕ) → is_in (set marks p 2) q ≡ is_in marks q
    in_still q = ⊎_elim
        (λ (s : q ≡ p). ap (λ t. eqb t 1) (ap (λ (t : ℕ). get_or (set marks p 2) t 0) s ∙ get_or-set_same marks p 2 0 room) ∙ sym (ap (is_in marks) s ∙ out))
        (λ (ne : q ≢ p). ap (λ t. eqb t 1) (get_or-set_other marks p q 2 0 ne))
        (cases_eq q p)

    pub shuts_more : Shuts (lists_of cs) marks → Shuts (lists_of cs) (set marks p 2)
    shuts_more h q told = subst (λ S. any (lacks_only S q) (lists_of cs) ≡ true) (sym (alike in_still)) (⊎_elim
        (λ (s : q ≡ p). subst (λ t. any (lacks_only (is_in marks) t) (lists_of cs) ≡ true) (sym s)
        (list_any_at (lacks_only (is_in marks) p) (lists_of cs) i [] within (ap (lacks_only (is_in marks) p) listed_at ∙ and_from _ _ has (but_for (is_in marks) p places ∙ rest))))
        (λ (ne : q ≢ p). h q (sym (ap (λ t. eqb t 2) (get_or-set_other marks p q 2 0 ne)) ∙ told))
        (cases_eq q p))
