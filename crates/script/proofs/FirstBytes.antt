-- A line that is too long is so by its first 201 bytes.
use Rattle.std.proofs.Common.{◌≡◌, ℕ, ◌<◌, ◌≤◌, ◌⊎◌, List, length, take, Some, sym, ap, ◌∙◌, ⊎_elim, arith}
use Rattle.std.proofs.lemmas.List.{take_all, length-take-le}
use Rattle.std.proofs.lemmas.Bool.{lt-leb}
use Rattle.commands.specs.Lines.{line_refusal}
use Rattle.script.specs.Sessions.{ByFirstBytes}
use Rattle.commands.specs.declared.refusal.Refusal.TheVariants.{TooLong}

side : (n : ℕ) → (n ≤ 200) ⊎ (200 < n)
side n = grind arith

long : (line : List ℕ) → 200 < length line → line_refusal line ≡ Some TooLong
long line h = rw (lt-leb (length line) 200 h)

pub by_first_bytes : ByFirstBytes
by_first_bytes line = ⊎_elim
    (λ (short : length line ≤ 200). let whole = take_all 201 line (omega arith) in (ap line_refusal whole, λ _. whole))
    (λ (far : 200 < length line).
    let size = length-take-le 201 line (omega arith) in
    (long (take 201 line) (omega arith) ∙ sym (long line far), λ none. let z : ◌≡◌ {A = ℕ} 0 1 = cc (long line far) in absurd (omega arith)))
    (side (length line))
