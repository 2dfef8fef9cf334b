-- What the definitions say of some texts.
use Rattle.std.proofs.Common.{◌≡◌, ℕ, Bool, true, not, List, [], ◌∷◌, is_some, Some, codes, refl}
use Prim.Native.String.{String}
use Rattle.words.specs.declared.separators.Separator.TheVariants.{Space}
use Rattle.words.specs.Language.{separates, every, cut, placed, parts_of, number_of, is_number, is_leaf, is_comparison, is_plan_sign, form_of}

abbrev words : String → List (List ℕ)
words line = cut (separates Space) (codes line)

abbrev none : (List ℕ → Bool) → List (List ℕ) → Bool
none p texts = every (λ text. not (p text)) texts

-- an empty text is one empty part
empty : parts_of Space (codes "") ≡ record { text = []; place = 0 } ∷ []
unfolding cut placed
empty = refl

-- neighbouring separators have an empty part between them, and one at the end has an empty part behind it
gaps : parts_of Space (codes "ab  c ") ≡ record { text = codes "ab"; place = 0 } ∷ record { text = []; place = 3 } ∷ record { text = codes "c"; place = 4 } ∷ record { text = []; place = 6 } ∷ []
unfolding cut placed
gaps = refl

zeros : number_of (codes "0000000007") ≡ Some 7
unfolding number_of
zeros = refl

largest : number_of (codes "4294967295") ≡ Some 4294967295
unfolding number_of
largest = refl

no_numbers : none is_number (words " 4294967296 9999999999 00000000007 -1 1x _") ≡ true
unfolding cut number_of
no_numbers = refl

leaves : every is_leaf (words "0:_ 3:_,_,7 07:1,2,3,4 4294967295:0") ≡ true
unfolding cut number_of
leaves = refl

no_leaves : none is_leaf (words " : 3 3: :_ 3:_:_ 3:_,_,_,_,_ 3:_, 3:,_ 3:_,,_ 3:__ 3:4294967296 _:_") ≡ true
unfolding cut number_of
no_leaves = refl

comparisons : every is_comparison (words "a0.1#a1.1 a0.0<5 5>a9.9 c0<5 c0=c1 7=7") ≡ true
unfolding cut number_of
comparisons = refl

no_comparisons : none is_comparison (words " = 7 7= =7 7==7 7<=7 7=7=7 a0.0<c1 c1<a0.0 a0<5 a0.10<5 a00.1<5 c10<5 _=7 b0=7 A0.0=7") ≡ true
unfolding cut number_of
no_comparisons = refl

signs : every is_plan_sign (words "* + -") ≡ true
unfolding cut
signs = refl

-- a word with a form, of each kind
forms : every (λ text. is_some (form_of text)) (words "7 3:_ c0<5 * /") ≡ true
unfolding cut number_of
forms = refl

-- the empty word and others that have no form
no_forms : none (λ text. is_some (form_of text)) (words " x ** // _ a0.0 c0 = 3:a 7<3:_ 3:7<8") ≡ true
unfolding cut number_of
no_forms = refl
