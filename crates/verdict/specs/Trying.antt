-- What the search for choices has found out.
use Rattle.std.specs.Prelude.{◌≡◌, ℕ, ◌<◌, ◌≤◌, Bool, true, Option, List, ◌∷◌, [], ◌++◌, length, ◌-◌, slice_index, slice_index_or}
use Rattle.cores.specs.Backing.{clear_places, one_of, backing, Real, Works, NoneWorks}
use Rattle.cores.specs.Searching.{NoneBeyond}
use Rattle.cores.specs.Settling.{SomeWay}
use Rattle.cores.specs.Ways.{ins_of, outs_of, possible}
use Rattle.verdict.specs.Marking.{Shows, Shuts}

-- each choice is the number of one of n conflicts
abbrev pub Numbers : ℕ → List ℕ → Type 0
Numbers n choices = (k : ℕ) → k < length choices → slice_index choices k < n

-- just the rows are marked that these choices ask for, what is told to be shut out is, and no whole conflict is marked
pub record Stand (C : List (List ℕ)) (ins outs choices marks : List ℕ) : Type 0 where
  pub shows : Shows (backing C ins outs choices) marks
  pub shuts : Shuts C marks
  pub clear : clear_places C (one_of (backing C ins outs choices)) ≡ true

-- they stand, and the last is a conflict of the row that it is made for
pub record Admits (C : List (List ℕ)) (ins outs choices marks : List ℕ) : Type 0 where
  pub stand : Stand C ins outs choices marks
  pub has : one_of (slice_index_or C (slice_index choices (length choices - 1)) []) (slice_index outs (length choices - 1)) ≡ true

-- they stand, and each is a conflict of the row that it is made for
pub record Chosen (C : List (List ℕ)) (ins outs choices marks : List ℕ) : Type 0 where
  pub real : Real C outs choices
  pub stand : Stand C ins outs choices marks

-- beyond these choices only the conflicts from number k on are left to try: where nothing works beyond any of them, nothing does
abbrev pub Left : List (List ℕ) → List ℕ → List ℕ → List ℕ → ℕ → Type 0
Left C ins outs chosen k = ((c : ℕ) → k ≤ c → c < length C → NoneBeyond C ins outs (chosen ++ c ∷ [])) → NoneBeyond C ins outs chosen

-- where nothing works beyond the conflict c, those from k on are left to try of the ones from c on
abbrev pub Follows : List (List ℕ) → List ℕ → List ℕ → List ℕ → ℕ → ℕ → Type 0
Follows C ins outs chosen c k = NoneBeyond C ins outs (chosen ++ c ∷ []) → Left C ins outs chosen c → Left C ins outs chosen k

-- choices that work are marked
pub record Found (C : List (List ℕ)) (ins outs marks : List ℕ) : Type 0 where
  pub choices : List ℕ
  pub works : Works C ins outs choices
  pub shows : Shows (backing C ins outs choices) marks

-- some way loses the line and can be, and the rows that show it are marked
pub record Lost (C : List (List ℕ)) (lost : List Bool → Bool) (leaves : List (Option ℕ)) (marks : List ℕ) : Type 0 where
  pub places : List ℕ
  pub way : SomeWay C lost leaves places
  pub shows : Shows places marks

-- a way does not lose the line, or cannot be
abbrev pub Kept : List (List ℕ) → (List Bool → Bool) → List (Option ℕ) → List Bool → Type 0
Kept C lost leaves way = lost way ≡ true → possible leaves way ≡ true → NoneWorks C (ins_of leaves way) (outs_of leaves way)
