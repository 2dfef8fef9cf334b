-- What reading a part as a word tells of its form.
use Rattle.std.proofs.Common.{◌≡◌, ◌&&◌, List, [], ◌∷◌, is_some, Some, None, Option, sym, refl, ap, ap₂, ◌∙◌}
use Rattle.std.specs.List.{list_all}
use Rattle.std.specs.Option.{option_map}
use Rattle.store.specs.Lists.{all}
use Rattle.words.specs.declared.tokens.Word.{Word}
use Rattle.words.specs.Language.{Placed, Form, Formed, form_of, word_of, texts}
use Rattle.words.specs.Meaning.{seen, read}
use Rattle.commands.specs.Lines.{has_form}

same : {A B : Type 0} (f : A → B) (o : Option A) → is_some o ≡ is_some (option_map f o)
same f None = refl
same f (Some x) = refl

-- what is read is a word
pub is_word : (p : Placed) (w : Option Word) → option_map read w ≡ word_of p → is_some w ≡ is_some (word_of p)
is_word p w e = same read w ∙ ap is_some e

-- the words are the parts that have a form
pub all_forms : (ps : List Placed) → list_all (λ p. is_some (word_of p)) ps ≡ all has_form (texts ps)
unfolding word_of
all_forms [] = refl
all_forms (p ∷ ps) = ap₂ ◌&&◌ (sym (same {B = Formed} (λ f. record { form = f; place = p.place }) (form_of p.text))) (all_forms ps)

-- what is read has the part's form
pub its_form : (p : Placed) (w : Option Word) → option_map read w ≡ word_of p → option_map (λ w. seen w.token) w ≡ form_of p.text
unfolding word_of
its_form p w e = there w ∙ ap (option_map (λ f. f.form)) e ∙ back (form_of p.text)
  where
    there : (w : Option Word) → option_map (λ w. seen w.token) w ≡ option_map (λ f. f.form) (option_map read w)
    there None = refl
    there (Some w) = refl

    back : (o : Option Form) → option_map (λ f. f.form) (option_map {U = Formed} (λ f. record { form = f; place = p.place }) o) ≡ o
    back None = refl
    back (Some f) = refl
