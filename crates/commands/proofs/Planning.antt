-- How a plan is read, word by word.
use Rattle.std.proofs.Common.{◌≡◌, ℕ, ◌+◌, ◌*◌, ◌≤◌, false, List, [], ◌∷◌, length, Some, sym, refl, ap, ◌∙◌, subst, arith}
use Rattle.std.proofs.lemmas.List.{length_push}
use Rattle.words.specs.Language.{is_slash, cut, number_of, texts, Placed}
use Rattle.commands.specs.Plans.{Stacked, bare, with_word, with_words, before_slash, behind_slash}
use Rattle.commands.specs.Rooms.{room}
use Rattle.commands.proofs.Growing.{by_word}

-- a word of a plan has a byte, and brings one node
word_more : (s t : Stacked) (w : List ℕ) → Some t ≡ with_word s w → (length t.nodes ≡ length s.nodes + 1) × (1 ≤ length w)
unfolding number_of cut
word_more s t [] e = cc
word_more s t (b ∷ bs) e = let more = by_word s t (b ∷ bs) e in (ap (λ u. length u.nodes) more.is ∙ length_push s.nodes more.node, omega arith)

-- of the words that are taken for the plan, some were read onto the stack; all others are to come
pub record Sofar (taken : List (List ℕ) → List (List ℕ)) (all : List (List ℕ)) (s : Stacked) (others : List Placed) : Type 0 where
  pub same : with_words (Some bare) (taken all) ≡ with_words (Some s) (taken (texts others))
  pub fits : 2 * length s.nodes + room (texts others) ≤ 200

module _ {taken : List (List ℕ) → List (List ℕ)} {all : List (List ℕ)} {s : Stacked} {others rest : List Placed} {p : Placed} (so : Sofar taken all s others) (next : others ≡ p ∷ rest) where
  here : Sofar taken all s (p ∷ rest)
  here = subst (Sofar taken all s) next so

  pub one_more : (t : Stacked) → taken (p.text ∷ texts rest) ≡ p.text ∷ taken (texts rest) → Some t ≡ with_word s p.text → Sofar taken all t rest
  one_more t first e =
      let more = word_more s t p.text e in
      record {
        same = here.same ∙ ap (with_words (Some s)) first ∙ ap (λ o. with_words o (taken (texts rest))) (sym e);
        fits = omega (arith, here.fits, more.0, more.1);
      }

-- a word that is no slash stands before the slash, and what is behind the slash is behind it too
pub no_slash : (w : List ℕ) (ws : List (List ℕ)) → is_slash w ≡ false → (before_slash (w ∷ ws) ≡ w ∷ before_slash ws) × (behind_slash (w ∷ ws) ≡ behind_slash ws)
no_slash w ws is = (rw is refl, rw is refl)
