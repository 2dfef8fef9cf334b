-- When fill refuses nothing.
use Rattle.std.proofs.Common.{◌≡◌, ℕ, ◌-◌, ◌<◌, ◌≤◌, Bool, true, eqb, leb, List, length, None, Option, ap, ◌∙◌}
use Rattle.std.proofs.lemmas.Bool.{eq-eqb, le-leb, and_from}
use Rattle.fault.specs.Questions.{ask}
use Rattle.plan.specs.Filling.{first, ask_each, right_size, late_at, stray_at, poor_at, unfit_at, fill_refusal}
use Rattle.plan.specs.declared.node.Node.{Node}
use Rattle.plan.specs.declared.refusal.Refusal.{Refusal}
use Rattle.plan.specs.declared.refusal.Refusal.TheVariants.{Size, Order, Leaves, Widths}

-- a question that is answered Yes leaves the rest to decide
answered : (answer : Bool) (refusal : Refusal) (rest : Option Refusal) → answer ≡ true → ask answer refusal rest ≡ rest
answered answer refusal rest e = ap (λ b. ask b refusal rest) e

-- so does one that no node fails
passed : (fault : ℕ → Bool) (n : ℕ) (refusal : ℕ → Refusal) (rest : Option Refusal) → first fault n ≡ n → ask_each fault n refusal rest ≡ rest
passed fault n refusal rest e = answered (eqb (first fault n) n) (refusal (first fault n)) rest (eq-eqb (first fault n) n e)

pub granted : (nodes : List Node) → 0 < length nodes → length nodes ≤ 16 → first (late_at nodes) (length nodes) ≡ length nodes → first (stray_at nodes) (length nodes - 1) ≡ length nodes - 1 →
    first (poor_at nodes) (length nodes) ≡ length nodes → first (unfit_at nodes) (length nodes) ≡ length nodes → fill_refusal nodes ≡ None
granted nodes some few a b c d =
    answered (right_size nodes) Size _ (and_from (leb 1 (length nodes)) (leb (length nodes) 16) (le-leb 1 (length nodes) some) (le-leb (length nodes) 16 few)) ∙
    passed (late_at nodes) (length nodes) Order _ a ∙ passed (stray_at nodes) (length nodes - 1) Order _ b ∙ passed (poor_at nodes) (length nodes) Leaves _ c ∙ passed (unfit_at nodes) (length nodes) Widths None d
