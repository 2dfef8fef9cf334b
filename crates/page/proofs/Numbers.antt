-- Numbers in two and in four bytes, and back.
use Rattle.std.proofs.Common.{◌≡◌, ℕ, ◌+◌, ◌*◌, ◌/◌, ◌%◌, ◌^◌, ◌<◌, List, [], ◌∷◌, get_or, sym, refl, arith}
use native.Mathlib.Nat.{div-div-eq-div-mul}
use Rattle.page.specs.Records.{in_two, in_four}

-- each number of the list is a byte
abbrev pub AreBytes : List ℕ → Type 0
AreBytes bytes = (k : ℕ) → get_or bytes k 0 < 256

-- the number that bytes spell is spelled by these bytes
pub two_bytes : (a b : ℕ) → a < 256 → b < 256 → in_two (a * 256 + b) ≡ a ∷ b ∷ []
two_bytes a b ha hb =
    let p : (a * 256 + b) / 256 % 256 ≡ a = omega arith in
    let q : (a * 256 + b) % 256 ≡ b = omega arith in
    cc

pub four_bytes : (a b c d : ℕ) → a < 256 → b < 256 → c < 256 → d < 256 → in_four (a * 16777216 + b * 65536 + c * 256 + d) ≡ a ∷ b ∷ c ∷ d ∷ []
four_bytes a b c d ha hb hc hd =
    let n = a * 16777216 + b * 65536 + c * 256 + d in
    let p : n / 16777216 % 256 ≡ a = omega arith in
    let q : n / 65536 % 256 ≡ b = omega arith in
    let r : n / 256 % 256 ≡ c = omega arith in
    let s : n % 256 ≡ d = omega arith in
    cc

-- and bytes that spell a number spell it again
pub two_number : (n : ℕ) → n < 2 ^ 16 → n / 256 % 256 * 256 + n % 256 ≡ n
two_number n small = omega arith

steps : (x y z w : ℕ) → y ≡ x / 256 → z ≡ y / 256 → w ≡ z / 256 → w < 256 → w % 256 * 16777216 + z % 256 * 65536 + y % 256 * 256 + x % 256 ≡ x
steps x y z w a b c small =
    let w' : w % 256 ≡ w = omega arith in
    let z' : z ≡ w * 256 + z % 256 = omega arith in
    let y' : y ≡ z * 256 + y % 256 = omega arith in
    let x' : x ≡ y * 256 + x % 256 = omega arith in
    omega arith

pub four_number : (n : ℕ) → n < 2 ^ 32 → n / 16777216 % 256 * 16777216 + n / 65536 % 256 * 65536 + n / 256 % 256 * 256 + n % 256 ≡ n
four_number n small = steps n (n / 256) (n / 65536) (n / 16777216) refl (sym (div-div-eq-div-mul n 256 256)) (sym (div-div-eq-div-mul n 65536 256)) (omega arith)
