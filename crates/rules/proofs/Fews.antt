-- How many rows are chosen.
use Rattle.std.proofs.Common.{◌≡◌, ℕ, List, length, get_or, ap₂, ◌∙◌, sym}
use Rattle.std.proofs.lemmas.List.{length-map}
use Rattle.ordered.specs.Lists.{items_in}
use Rattle.rules.specs.Beginnings.{Chosen, places_in}
use Rattle.rules.specs.declared.chosen.Pick.{Pick}

pub places_long : (c : Chosen) → length (places_in c) ≡ length (items_in c)
places_long c = length-map (items_in c) (λ (p : Pick). p.place)

-- the atom that comes next is read at the number of the rows that are chosen
pub next_read : (c : Chosen) {atoms all : List ℕ} {n : ℕ} → all ≡ atoms → n ≡ length (items_in c) → get_or all n 0 ≡ get_or atoms (length (places_in c)) 0
next_read c is long = ap₂ (λ l k. get_or l k 0) is (long ∙ sym (places_long c))
