-- The search for the least line from a start on.
use Rattle.std.specs.Prelude.{◌≡◌, ℕ, ◌≤◌, Bool, true, false, cond, not, List, [], ◌∷◌, length, take, replicate, Some, None, filter, Option, slice_index}
use mathlib.Core.List.{Memᴰ}
use Rattle.ordered.specs.Lists.{items_in}
use Rattle.candidates.specs.Candidates.{before, candidates_at}
use Rattle.candidates.specs.Wanting.{passes}
use Rattle.candidates.specs.declared.wanted.Wanted.{Wanted}
use Rattle.store.specs.declared.row.Row.{Row}
use Rattle.store.specs.declared.comparison.Comparison.{Comparison}
use Rattle.plan.specs.Plans.{nodes_of, widths_of, starts_of}
use Rattle.plan.specs.declared.line.Line.{Line}
use Rattle.plan.specs.declared.plan.Plan.{Plan}
use Rattle.std.specs.Range.Bound.{bound_map}
use Rattle.std.specs.declared.ops.Bound.{Bound}
use Rattle.std.specs.declared.ops.Bound.TheVariants.{Included, Excluded, Unbounded}

-- a search takes any line, or those from this one on, or those past it
abbrev pub reaches : Bound (List ℕ) → List ℕ → Bool
reaches Unbounded line = true
reaches (Included at) line = not (before line at)
reaches (Excluded at) line = before at line

-- the start's line, or zeros where there is none
abbrev pub line_of : Bound (List ℕ) → List ℕ
line_of Unbounded = replicate 8 0
line_of (Included at) = at
line_of (Excluded at) = at

-- the search that takes the lines past this one, or all
abbrev pub past : Option Line → Bound (List ℕ)
past None = Unbounded
past (Some line) = Excluded line.columns

-- the array is zero from the width on
abbrev pub Padded : ℕ → List ℕ → Type 0
Padded width columns = (k : ℕ) → width ≤ k → slice_index columns k ≡ 0

-- the lines are none, or this one, as an array of eight of which so many columns count
abbrev pub Single : List (List ℕ) → ℕ → Option (List ℕ) → Type 0
Single lines width None = lines ≡ []
Single lines width (Some columns) = (lines ≡ take width columns ∷ []) × (length columns ≡ 8) × Padded width columns

-- the least of the lines that the search reaches, as an array of eight of which so many columns count
abbrev pub Least : List (List ℕ) → Bound (List ℕ) → ℕ → Option (List ℕ) → Type 0
Least lines start width None = (line : List ℕ) → Memᴰ line lines → reaches start line ≡ false
Least lines start width (Some columns) =
    Memᴰ (take width columns) lines × (reaches start (take width columns) ≡ true) ×
    ((line : List ℕ) → Memᴰ line lines → reaches start line ≡ true → before line (take width columns) ≡ false) × (length columns ≡ 8) × Padded width columns

-- the lesser of two lines that may be there
abbrev pub lesser : ℕ → Option (List ℕ) → Option (List ℕ) → Option (List ℕ)
lesser width None other = other
lesser width (Some a) None = Some a
lesser width (Some a) (Some b) = cond (before (take width b) (take width a)) (Some b) (Some a)

-- how a product's search begins on the left
abbrev pub on_left : Bound (List ℕ) → Bound (List ℕ)
on_left Unbounded = Unbounded
on_left (Included at) = Included at
on_left (Excluded at) = Included at

-- and how it goes on to the right of a left line, which is past the start's left part or at it
abbrev pub on_right : Bound (List ℕ) → Bool → Bound (List ℕ)
on_right start past = cond past Unbounded start

-- what a search at the node k of a plan tells: the least from the start on of its candidates that pass, after these known columns
abbrev pub FindsBy : List Row → Plan → ℕ → List (Comparison ℕ) → List ℕ → Bound (List ℕ) → Option (List ℕ) → Type 0
FindsBy rows plan k comparisons known start =
    Least (filter (passes comparisons known) (candidates_at rows (nodes_of plan) k)) (bound_map (take (slice_index (widths_of plan) k)) start) (slice_index (widths_of plan) k)

-- the same of what is wanted of the plan's whole line
abbrev pub Finds : List Row → Plan → ℕ → Wanted → Bound (List ℕ) → Option (List ℕ) → Type 0
Finds rows plan k wanted = FindsBy rows plan k (items_in wanted.comparisons) (take (slice_index (starts_of plan) k) wanted.known)
