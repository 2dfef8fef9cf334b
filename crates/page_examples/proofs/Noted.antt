-- Minutes of sixteen outcomes stay as they are, and those of fewer have one more.
use Rattle.std.proofs.Common.{◌≡◌, ◌<◌, ◌≤◌, List, [], ◌∷◌, ◌++◌, map, length, take, min, Ok, Err, Result, sym, refl, ap, ◌∙◌, ap₂, arith}
use Rattle.std.proofs.Math.Seq.{take-nil}
use Rattle.std.proofs.lemmas.List.{length-append, length-map, length-take, map-append, take-append-le, take_all}
use Rattle.store.specs.declared.row.Row.{Row}
use Rattle.plan.specs.declared.line.Line.{Line}
use Rattle.verdict.specs.declared.outcome.Verdict.TheVariants.{Sure, Unsure}
use Rattle.book.specs.Outcomes.{told_of}
use Rattle.book.specs.Plain.{Told, unsure, listed}
use Rattle.book.specs.declared.call.Done.{Done}
use Rattle.book.specs.declared.call.Done.TheVariants.{Taken, Ruled, Judged, Listed}
use Rattle.book.specs.declared.refusal.Refusal.{Refusal}
use Rattle.page_examples.specs.Minutes.{in_short}

-- an outcome alone tells in short what it tells
short_of : (core : List Row) (lines : List Line) (o : Result Done Refusal) → told_of [] [] o ≡ in_short (told_of core lines o)
short_of core lines (Ok Taken) = refl
short_of core lines (Ok (Ruled n)) = refl
short_of core lines (Ok (Judged Sure)) = refl
short_of core lines (Ok (Judged (Unsure n))) = ap unsure (take-nil n)
short_of core lines (Ok (Listed n)) = ap listed (take-nil n)
short_of core lines (Err e) = refl

module _ (items : List (Result Done Refusal)) (tolds : List Told) (keeps : map (told_of [] []) items ≡ map in_short (take 16 tolds)) where
  many : length items ≡ min 16 (length tolds)
  many = sym (length-map items (told_of [] [])) ∙ ap length keeps ∙ length-map (take 16 tolds) in_short ∙ length-take 16 tolds

  pub one_more : length items < 16 → (core : List Row) (lines : List Line) (o : Result Done Refusal) → map (told_of [] []) (items ++ (o ∷ [])) ≡ map in_short (take 16 (tolds ++ (told_of core lines o ∷ [])))
  one_more room core lines o =
      let t = told_of core lines o in
      let all = take_all 16 tolds (omega (arith, many)) in
      let more = take_all 16 (tolds ++ (t ∷ [])) (omega (arith, many, length-append tolds (t ∷ []))) in
      map-append (told_of [] []) items (o ∷ [])
      ∙ ap₂ (λ (a : List Told) (b : Told). a ++ (b ∷ [])) (keeps ∙ ap (map in_short) all) (short_of core lines o)
      ∙ sym (map-append in_short tolds (t ∷ []))
      ∙ ap (map in_short) (sym more)

  pub no_more : 16 ≤ length items → (t : Told) → map (told_of [] []) items ≡ map in_short (take 16 (tolds ++ (t ∷ [])))
  no_more full t = keeps ∙ ap (map in_short) (sym (take-append-le 16 tolds (t ∷ []) (omega (arith, many))))
