-- Laws of forms: what a text of each form is.
use Rattle.std.proofs.Common.{◌≡◌, ℕ, Bool, true, false, cond, List, Some, None, Option, refl, subst}
use Rattle.std.specs.Option.{option_map}
use Rattle.words.specs.Language.{is_number, is_leaf, is_comparison, is_plan_sign, is_slash, Form, number, leaf, comparison, sign, slash, form_of, Placed, Formed, word_of}

-- the text has the form
abbrev pub Has : Form → List ℕ → Type 0
Has (number t) text = (t ≡ text) × (is_number text ≡ true)
Has (leaf t) text = (t ≡ text) × (is_leaf text ≡ true)
Has (comparison t) text = (t ≡ text) × (is_comparison text ≡ true)
Has (sign t) text = (t ≡ text) × (is_plan_sign text ≡ true)
Has slash text = is_slash text ≡ true

-- a way to the form: its test passed, and else the next way
way : (text : List ℕ) (f g : Form) (test : Bool) (next : Option Form) → (test ≡ true → Has g text) → (next ≡ Some f → Has f text) → cond test (Some g) next ≡ Some f → Has f text
way text f g true next here there e = subst (λ h. Has h text) (cc) (here refl)
way text f g false next here there e = there e

-- a text has the form that it is given
pub has_form_lem : (text : List ℕ) (f : Form) → form_of text ≡ Some f → Has f text
has_form_lem text f =
    way text f (number text) _ _ (λ e. (refl, e))
    (way text f (leaf text) _ _ (λ e. (refl, e))
    (way text f (comparison text) _ _ (λ e. (refl, e))
    (way text f (sign text) _ _ (λ e. (refl, e)) (way text f slash _ _ (λ e. e) (λ e. cc)))))

-- a word has its part's place, and its part's text has its form
pub word_has : (p : Placed) (w : Formed) → word_of p ≡ Some w → (w.place ≡ p.place) × Has w.form p.text
unfolding word_of
word_has p w = by (form_of p.text) (has_form_lem p.text)
  where
    by : (o : Option Form) → ((f : Form) → o ≡ Some f → Has f p.text) → option_map (λ f. record { form = f; place = p.place }) o ≡ Some w → (w.place ≡ p.place) × Has w.form p.text
    by None has e = cc
    by (Some f) has e =
        let is : ◌≡◌ {A = Formed} (record { form = f; place = p.place }) w = cc in
        subst (λ v. (v.place ≡ p.place) × Has v.form p.text) is (refl, has f refl)
