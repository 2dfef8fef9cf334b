-- Laws of cutting: what the parts of a text are, how many, and where they stand.
use Rattle.std.proofs.Common.{◌≡◌, ℕ, zero, suc, ◌+◌, ◌<◌, Bool, true, false, cond, not, List, [], ◌∷◌, ◌++◌, length, get_or, take, drop, count_by, sym, refl, ap, ◌∙◌, add-one, arith}
use Rattle.std.specs.List.{AllByRecursion as All}
use Rattle.std.proofs.lemmas.List.{drop-drop}
use Rattle.std.proofs.lemmas.List.Sums.{sum_by-cons}
use Rattle.std.proofs.lemmas.Bool.{and_parts, not-true}
use Rattle.words.specs.declared.separators.Separator.{Separator}
use Rattle.words.specs.Language.{every, separates, cut, longer, Placed, placed, parts_of, texts}
use Rattle.words.specs.Meaning.{Free}

module _ (sep : ℕ → Bool) where
  -- a separator ends the first part
  cut_here : (b : ℕ) (bs : List ℕ) → sep b ≡ true → cut sep (b ∷ bs) ≡ [] ∷ cut sep bs
  unfolding cut
  cut_here b bs e = rw e

  -- any other byte goes in front of the first part
  cut_on : (b : ℕ) (bs : List ℕ) → sep b ≡ false → cut sep (b ∷ bs) ≡ longer b (cut sep bs)
  unfolding cut
  cut_on b bs e = rw e

  free_rest : (b : ℕ) (bs : List ℕ) (n : ℕ) → Free sep (b ∷ bs) (suc n) → Free sep bs n
  free_rest b bs n free k h = free (suc k) (omega arith)

  -- a text without a separator is its one part
  pub cut_none : (text : List ℕ) → Free sep text (length text) → cut sep text ≡ text ∷ []
  unfolding cut
  cut_none [] free = refl
  cut_none (b ∷ bs) free = cut_on b bs (free 0 (omega arith)) ∙ ap (longer b) (cut_none bs (free_rest b bs (length bs) free))

  -- the first part ends at the first separator, and the others are those of what follows it
  pub cut_at : (text : List ℕ) (i : ℕ) → i < length text → sep (get_or text i 0) ≡ true → Free sep text i → cut sep text ≡ take i text ∷ cut sep (drop (i + 1) text)
  cut_at [] i h is free = absurd (omega arith)
  cut_at (b ∷ bs) zero h is free = cut_here b bs is
  cut_at (b ∷ bs) (suc i) h is free =
      cut_on b bs (free 0 (omega arith)) ∙ ap (longer b) (cut_at bs i (omega arith) is (free_rest b bs i free)) ∙ rw (add-one, add-one) refl

  -- the same of a text that is put together
  pub cut_one : (front : List ℕ) (b : ℕ) (rest : List ℕ) → every (λ x. not (sep x)) front ≡ true → sep b ≡ true → cut sep (front ++ (b ∷ rest)) ≡ front ∷ cut sep rest
  cut_one [] b rest free is = cut_here b rest is
  cut_one (x ∷ front) b rest free is =
      let parts = and_parts (not (sep x)) _ free in
      cut_on x _ (not-true _ parts.0) ∙ ap (longer x) (cut_one front b rest parts.1 is)

  length_more : (b : ℕ) (ps : List (List ℕ)) (n : ℕ) (t : Bool) → length ps ≡ n + 1 → length (cond t ([] ∷ ps) (longer b ps)) ≡ cond t 1 0 + n + 1
  length_more b [] n t e = absurd (omega arith)
  length_more b (p ∷ ps) n true e = omega arith
  length_more b (p ∷ ps) n false e = omega arith

  -- n separators make n + 1 parts
  pub length_cut : (text : List ℕ) → length (cut sep text) ≡ count_by sep text + 1
  unfolding cut
  length_cut [] = refl
  length_cut (b ∷ bs) = length_more b (cut sep bs) _ (sep b) (length_cut bs) ∙ ap (λ n. n + 1) (sym (sum_by-cons (λ x. cond (sep x) 1 0) b bs))

  free_more : (b : ℕ) (ps : List (List ℕ)) (t : Bool) → sep b ≡ t → every (every (λ x. not (sep x))) ps ≡ true → every (every (λ x. not (sep x))) (cond t ([] ∷ ps) (longer b ps)) ≡ true
  free_more b ps true is free = free
  free_more b [] false is free = rw is
  free_more b (p ∷ ps) false is free = rw is free

  -- no part holds a separator
  pub cut_free : (text : List ℕ) → every (every (λ x. not (sep x))) (cut sep text) ≡ true
  unfolding cut
  cut_free [] = refl
  cut_free (b ∷ bs) = free_more b (cut sep bs) (sep b) refl (cut_free bs)

-- the places leave the parts as they are
texts_placed : (at : ℕ) (ps : List (List ℕ)) → texts (placed at ps) ≡ ps
unfolding placed
texts_placed at [] = refl
texts_placed at (p ∷ ps) = ap (λ l. p ∷ l) (texts_placed (at + length p + 1) ps)

-- the parts of a text are those that an iterator over it hands out
pub cut_parts : (s : Separator) (text : List ℕ) (ps : List Placed) → ps ≡ parts_of s text → cut (separates s) text ≡ texts ps
cut_parts s text ps e = sym (texts_placed 0 (cut (separates s) text)) ∙ ap texts (sym e)

-- a part stands at its place in the text
abbrev pub Stands : List ℕ → Placed → Type 0
Stands text p = take (length p.text) (drop p.place text) ≡ p.text

module _ (text : List ℕ) where
  -- the byte at `at` is b, and ps are the parts behind it
  stand_more : (at b : ℕ) (bs : List ℕ) (ps : List (List ℕ)) (t : Bool) → drop at text ≡ b ∷ bs → drop (at + 1) text ≡ bs → All (Stands text) (placed (at + 1) ps) → All (Stands text) (placed at (cond t ([] ∷ ps) (longer b ps)))
  unfolding placed
  stand_more at b bs ps true here next rest = (refl, let e : at + 0 + 1 ≡ at + 1 = omega arith in rw e rest)
  stand_more at b bs [] false here next rest = (ap (take 1) here, tt)
  stand_more at b bs (p ∷ ps) false here next rest =
      let e : at + suc (length p) + 1 ≡ at + 1 + length p + 1 = omega arith in
      (ap (take (suc (length p))) here ∙ ap (λ l. b ∷ l) (rw next at rest.0), rw e rest.1)

  stand_from : (sep : ℕ → Bool) (at : ℕ) (rest : List ℕ) → drop at text ≡ rest → All (Stands text) (placed at (cut sep rest))
  unfolding cut placed
  stand_from sep at [] here = (refl, tt)
  stand_from sep at (b ∷ bs) here =
      let next = sym (drop-drop 1 at text) ∙ ap (drop 1) here in
      stand_more at b bs (cut sep bs) (sep b) here next (stand_from sep (at + 1) bs next)

  pub parts_stand : (s : Separator) → All (Stands text) (parts_of s text)
  parts_stand s = stand_from (separates s) 0 text refl
