-- How columns are read, word by word.
use Rattle.std.proofs.Common.{◌≡◌, ℕ, suc, ltb, ◌&&◌, ◌+◌, ◌-◌, ◌<◌, Bool, true, false, cond, nat_le, List, [], ◌∷◌, ◌++◌, length, take, drop, set, replicate, Some, None, Option, sym, refl, ap, ◌∙◌, subst, arith}
use Rattle.std.specs.Bool.{then_some}
use Rattle.std.specs.Option.{option_map}
use Rattle.std.proofs.lemmas.List.{append_assoc, drop-drop, drop-replicate, drop-set-lt, length-set, take_more_set}
use Rattle.words.specs.Language.{number_of, texts, Placed}
use Rattle.commands.specs.Numbers.{each, prefixed, values_from, filled, padded, columns_from}

-- of all words, count were read into the n columns, the rest of which is filled, and the others are to come
pub record Sofar {A : Type 0} (value : List ℕ → Option A) (filler : A) (n : ℕ) (all : List (List ℕ)) (columns : List A) (count : ℕ) (others : List Placed) : Type 0 where
  pub wide : length columns ≡ n
  pub total : length all ≡ count + length (texts others)
  pub fillers : drop count columns ≡ replicate (n - count) filler
  pub values : each value all ≡ option_map (λ xs. take count columns ++ xs) (each value (texts others))

regroup : {A : Type 0} (front : List A) (x : A) (others : Option (List A)) → option_map (λ xs. front ++ xs) (prefixed (Some x) others) ≡ option_map (λ xs. (front ++ (x ∷ [])) ++ xs) others
regroup front x None = refl
regroup front x (Some xs) = ap Some (sym (append_assoc front (x ∷ []) xs))

module _ {A : Type 0} {value : List ℕ → Option A} {filler : A} {n : ℕ} {all : List (List ℕ)} {columns : List A} {count : ℕ} {others : List Placed} (so : Sofar value filler n all columns count others) where
  pub one_more : {rest : List Placed} {p : Placed} (x : A) → others ≡ p ∷ rest → Some x ≡ value p.text → count < n → Sofar value filler n all (set columns count x) (count + 1) rest
  one_more {rest} {p} x next is h =
      let here = subst (Sofar value filler n all columns count) next so in
      let inside : count < length columns = omega (arith, so.wide) in
      let ws = texts rest in
      record {
        wide = length-set columns count x ∙ so.wide;
        total = omega (arith, here.total);
        fillers =
            drop-set-lt (count + 1) columns count x (omega arith) ∙ sym (drop-drop 1 count columns) ∙ ap (drop 1) so.fillers ∙ drop-replicate 1 (n - count) filler
            ∙ ap (λ k. replicate k filler) (let e : n - count - 1 ≡ n - (count + 1) = omega arith in e);
        values =
            here.values ∙ ap (λ o. option_map (λ xs. take count columns ++ xs) (prefixed o (each value ws))) (sym is) ∙ regroup (take count columns) x (each value ws)
            ∙ ap (λ front. option_map (λ xs. front ++ xs) (each value ws)) (sym (take_more_set columns count x inside));
      }

  -- a word that stands for nothing ends it
  pub no_more : {rest : List Placed} {p : Placed} → others ≡ p ∷ rest → None ≡ value p.text → None ≡ option_map (filled n filler) (values_from n value all)
  no_more {rest} {p} next is =
      let here = subst (Sofar value filler n all columns count) next so in
      let none : each value all ≡ None = here.values ∙ ap (λ o. option_map (λ xs. take count columns ++ xs) (prefixed o (each value (texts rest)))) (sym is) in
      by (nat_le (length all) n) (each value all) none
    where
      by : (b : Bool) (o : Option (List A)) → o ≡ None → None ≡ option_map (filled n filler) (cond b o None)
      by true o e = rw e refl
      by false o e = refl

each_long : {A : Type 0} (value : List ℕ → Option A) (ws : List (List ℕ)) (xs : List A) → Some xs ≡ each value ws → length xs ≡ length ws
each_long value [] xs e = let is : xs ≡ [] = cc in rw is refl
each_long {A = A} value (w ∷ ws) xs e = by (value w) (each value ws) (each_long value ws) e
  where
    by : (o : Option A) (others : Option (List A)) → ((ys : List A) → Some ys ≡ others → length ys ≡ length ws) → Some xs ≡ prefixed o others → length xs ≡ suc (length ws)
    by None others long e = cc
    by (Some x) None long e = cc
    by (Some x) (Some ys) long e = let is : xs ≡ x ∷ ys = cc in rw is (ap suc (long ys refl))

-- the columns are those that were read, if there are any
pub one_at_least : (n : ℕ) (ws : List (List ℕ)) (count : ℕ) (columns : List ℕ) → Some (count, columns) ≡ option_map (filled n 0) (values_from n number_of ws) → then_some (ltb 0 count) columns ≡ columns_from n ws
one_at_least n ws count columns e = by (nat_le (length ws) n) (each number_of ws) (each_long number_of ws) e
  where
    shape : (t : Bool) (x : List ℕ) → then_some t x ≡ cond (t && true) (Some x) None
    shape true x = refl
    shape false x = refl

    by : (b : Bool) (o : Option (List ℕ)) → ((xs : List ℕ) → Some xs ≡ o → length xs ≡ length ws) → Some (count, columns) ≡ option_map (filled n 0) (cond b o None) → then_some (ltb 0 count) columns ≡ cond (nat_le 1 (length ws) && b) (option_map (padded n) o) None
    by false o long e = cc
    by true None long e = cc
    by true (Some xs) long e =
        let same : (count, columns) ≡ filled n 0 xs = cc in
        rw (ap (λ (r : ℕ × List ℕ). r.0) same ∙ long xs refl, ap (λ (r : ℕ × List ℕ). r.1) same) (shape (ltb 0 (length ws)) (padded n xs))
