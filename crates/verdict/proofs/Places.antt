-- One place more, among places and in the mark bytes.
use Rattle.std.proofs.Common.{◌≡◌, ℕ, zero, suc, ◌+◌, ◌<◌, ◌≤◌, Bool, true, false, not, ◌&&◌, ◌||◌, eqb, ◌≢◌, List, [], ◌∷◌, ◌++◌, length, get_or, take, set, cond, sym, refl, ap, ◌∙◌, subst, ⊎_elim, arith, get_or-set_other, get_or-set_same}
use Rattle.std.proofs.Math.Bool.{or_assoc}
use Rattle.std.proofs.lemmas.Bool.{both_ways, and_parts, and_from, eq-eqb, ne_eqb, cases_eq, eqb-true, ltb-true}
use Rattle.std.proofs.lemmas.List.{take_more}
use Rattle.std.proofs.lemmas.List.Folds.{list_any-append}
use Rattle.store.specs.Lists.{all}
use Rattle.cores.specs.Backing.{one_of, without}
use Rattle.verdict.specs.Marking.{have_bytes, is_in, Adds}

or_none : (a : Bool) → (a || false) ≡ a
or_none true = refl
or_none false = refl

pub one_append : (xs ys : List ℕ) (p : ℕ) → one_of (xs ++ ys) p ≡ (one_of xs p || one_of ys p)
one_append xs ys p = list_any-append (eqb p) xs ys

-- nothing more
pub adds_none : (marks : List ℕ) → Adds [] marks marks
adds_none marks = record { in_too = λ p. sym (or_none (is_in marks p)); shut = λ h. h }

-- one after the other
pub adds_both : (xs ys a b c : List ℕ) → Adds xs a b → Adds ys b c → Adds (xs ++ ys) a c
adds_both xs ys a b c h k = record {
  in_too = λ p. k.in_too p ∙ ap (λ t. t || one_of ys p) (h.in_too p) ∙ or_assoc (is_in a p) (one_of xs p) (one_of ys p) ∙ ap (λ t. is_in a p || t) (sym (one_append xs ys p));
  shut = λ s. k.shut (h.shut s);
}

-- one write
pub adds_one : (marks : List ℕ) (x : ℕ) → x < length marks → Adds (x ∷ []) marks (set marks x 1)
adds_one marks x lt = record {
  in_too = λ p. ⊎_elim
      (λ (e : p ≡ x). ap (λ t. eqb t 1) (ap (λ (t : ℕ). get_or (set marks x 1) t 0) e ∙ get_or-set_same marks x 1 0 lt) ∙ sym (or_yes (is_in marks p) (eqb p x || false) (ap (λ b. b || false) (eq-eqb p x e))))
      (λ (ne : p ≢ x). ap (λ t. eqb t 1) (get_or-set_other marks x p 1 0 ne) ∙ sym (or_no (is_in marks p) (eqb p x || false) (ap (λ b. b || false) (ne_eqb p x ne))))
      (cases_eq p x);
  shut = λ s p. ⊎_elim
      (λ (e : p ≡ x). ap (λ t. eqb t 2) (ap (λ (t : ℕ). get_or (set marks x 1) t 0) e ∙ get_or-set_same marks x 1 0 lt))
      (λ (ne : p ≢ x). ap (λ t. eqb t 2) (get_or-set_other marks x p 1 0 ne) ∙ s p)
      (cases_eq p x);
}
  where
    or_yes : (a b : Bool) → b ≡ true → (a || b) ≡ true
    or_yes true b e = refl
    or_yes false b e = e

    or_no : (a b : Bool) → b ≡ false → (a || b) ≡ a
    or_no true b e = refl
    or_no false b e = e

-- a place of a list in which each has a byte
pub has_byte : (xs : List ℕ) (i : ℕ) → have_bytes xs ≡ true → i < length xs → get_or xs i 0 < 256
has_byte [] i h lt = absurd (omega arith)
has_byte (x ∷ xs) zero h lt = ltb-true x 256 (and_parts _ _ h).0
has_byte (x ∷ xs) (suc i) h lt = has_byte xs i (and_parts _ _ h).1 (omega arith)

-- and one that is named
pub byte_of : (xs : List ℕ) (p : ℕ) → have_bytes xs ≡ true → one_of xs p ≡ true → p < 256
byte_of [] p h has = absurd (both_ways false refl has)
byte_of (x ∷ xs) p h has = ⊎_elim
    (λ (e : p ≡ x). let lt = ltb-true x 256 (and_parts _ _ h).0 in omega arith)
    (λ (ne : p ≢ x). byte_of xs p (and_parts _ _ h).1 (subst (λ b. (b || one_of xs p) ≡ true) (ne_eqb p x ne) has))
    (cases_eq p x)

-- the step of a loop that marks each
pub adds_more : (xs a b : List ℕ) (i : ℕ) → i < length xs → 256 ≤ length b → have_bytes xs ≡ true → Adds (take i xs) a b → Adds (take (i + 1) xs) a (set b (get_or xs i 0) 1)
adds_more xs a b i lt room inside h =
    let small = has_byte xs i inside lt in
    subst (λ t. Adds t a (set b (get_or xs i 0) 1)) (sym (take_more xs i 0 lt)) (adds_both (take i xs) (get_or xs i 0 ∷ []) a b _ h (adds_one b (get_or xs i 0) (omega arith)))

-- the others of one list more
pub without_append : (o : ℕ) (xs ys : List ℕ) → without o (xs ++ ys) ≡ without o xs ++ without o ys
without_append o [] ys = refl
without_append o (x ∷ xs) ys = push (not (eqb x o)) (without o (xs ++ ys)) (without o xs) (without o ys) (without_append o xs ys)
  where
    push : (b : Bool) (r s t : List ℕ) → r ≡ s ++ t → cond b (x ∷ r) r ≡ cond b (x ∷ s) s ++ t
    push true r s t e = ap (λ z. x ∷ z) e
    push false r s t e = e

-- what holds of each holds of the others
pub all_without : (S : ℕ → Bool) (o : ℕ) (xs : List ℕ) → all S xs ≡ true → all S (without o xs) ≡ true
all_without S o [] h = refl
all_without S o (x ∷ xs) h = keep (not (eqb x o)) (and_parts _ _ h).0 (all_without S o xs (and_parts _ _ h).1)
  where
    keep : (b : Bool) → S x ≡ true → all S (without o xs) ≡ true → all S (cond b (x ∷ without o xs) (without o xs)) ≡ true
    keep true here rest = and_from _ _ here rest
    keep false here rest = rest

-- by a test of each place, the others are those that are not the place itself
pub but_for : (S : ℕ → Bool) (o : ℕ) (xs : List ℕ) → all (λ p. eqb p o || S p) xs ≡ all S (without o xs)
but_for S o [] = refl
but_for S o (x ∷ xs) = push (eqb x o) (all (λ p. eqb p o || S p) xs) (but_for S o xs)
  where
    push : (b : Bool) (r : Bool) → r ≡ all S (without o xs) → ((b || S x) && r) ≡ all S (cond (not b) (x ∷ without o xs) (without o xs))
    push true r e = e
    push false r e = ap (λ t. S x && t) e

-- what holds of the others and of the place itself holds of each
pub all_with : (S : ℕ → Bool) (o : ℕ) (xs : List ℕ) → S o ≡ true → all (λ p. eqb p o || S p) xs ≡ true → all S xs ≡ true
all_with S o [] own h = refl
all_with S o (x ∷ xs) own h = and_from _ _ (put (eqb x o) (λ e. ap S (eqb-true x o e) ∙ own) (and_parts _ _ h).0) (all_with S o xs own (and_parts _ _ h).1)
  where
    put : (b : Bool) → (b ≡ true → S x ≡ true) → (b || S x) ≡ true → S x ≡ true
    put true e h = e refl
    put false e h = h

-- a place that is not in S keeps a list that has it from being in S
pub one_out : (S : ℕ → Bool) (p : ℕ) (xs : List ℕ) → one_of xs p ≡ true → S p ≡ false → all S xs ≡ false
one_out S p [] has out = absurd (both_ways false refl has)
one_out S p (x ∷ xs) has out = ⊎_elim
    (λ (e : p ≡ x). and_no (S x) (all S xs) (ap S (sym e) ∙ out))
    (λ (ne : p ≢ x). and_none (S x) (all S xs) (one_out S p xs (subst (λ b. (b || one_of xs p) ≡ true) (ne_eqb p x ne) has) out))
    (cases_eq p x)
  where
    and_no : (a b : Bool) → a ≡ false → (a && b) ≡ false
    and_no true b e = absurd (both_ways true e refl)
    and_no false b e = refl

    and_none : (a b : Bool) → b ≡ false → (a && b) ≡ false
    and_none true b e = e
    and_none false b e = refl
