-- How the value of a number is read, digit by digit.
use Rattle.std.proofs.Common.{◌≡◌, ℕ, ◌+◌, ◌-◌, ◌*◌, ◌^◌, ◌<◌, ◌≤◌, true, false, eqb, leb, List, length, get_or, drop, Some, None, sym, refl, ◌∙◌, pow-suc, add-one, arith}
use Rattle.std.proofs.lemmas.List.{at_drop_more, at_drop_all}
use Rattle.std.proofs.lemmas.Bool.{leb-true, and_parts}
use Rattle.std.proofs.lemmas.Bool.Decides.{nat_tests}
use Rattle.words.specs.Language.{every, is_digit, value_after, number_of}

-- the first i bytes are digits that write value
pub record Sofar (text : List ℕ) (i value : ℕ) : Type 0 where
  pub same : value_after value (drop i text) ≡ value_after 0 text
  pub digits : every is_digit (drop i text) ≡ every is_digit text
  pub small : value < 10 ^ i

module _ (text : List ℕ) (i value : ℕ) (old : Sofar text i value) where
  pub one_more : i < length text → is_digit (get_or text i 0) ≡ true → Sofar text (i + 1) (10 * value + (get_or text i 0 - 48))
  one_more h is =
      let low = leb-true (get_or text i 0) 57 (and_parts (leb 48 (get_or text i 0)) _ is).1 in
      let power : 10 ^ (i + 1) ≡ 10 ^ i * 10 = rw add-one (pow-suc 10 i) in
      record {
        same = sym (at_drop_more (value_after value) text i 0 h) ∙ old.same;
        digits = sym (at_drop_more (every is_digit) text i 0 h ∙ rw is refl) ∙ old.digits;
        small = omega (arith, old.small);
      }

  -- a byte that is no digit spoils the number
  pub spoilt : i < length text → is_digit (get_or text i 0) ≡ false → None ≡ number_of text
  unfolding number_of
  spoilt h is =
      let spoils : every is_digit text ≡ false = sym old.digits ∙ at_drop_more (every is_digit) text i 0 h ∙ rw is refl in
      grind (arith, nat_tests)

  -- every byte was a digit
  module _ (end : length text ≤ i) (some : false ≡ eqb (length text) 0) (few : length text ≤ 10) where
    all : every is_digit text ≡ true
    all = sym old.digits ∙ at_drop_all (every is_digit) text i end

    is : value_after 0 text ≡ value
    is = sym old.same ∙ at_drop_all (value_after value) text i end

    pub small_enough : value < 2 ^ 32 → Some value ≡ number_of text
    unfolding number_of
    small_enough h = let d = all in let v = is in grind (arith, nat_tests)

    pub too_large : 2 ^ 32 ≤ value → None ≡ number_of text
    unfolding number_of
    too_large h = let d = all in let v = is in grind (arith, nat_tests)
