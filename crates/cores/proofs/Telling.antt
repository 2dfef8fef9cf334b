-- What the places of the named rows say of a reading is whether it has these rows.
use Rattle.std.proofs.Common.{◌≡◌, ℕ, Bool, false, ◌&&◌, List, [], map, length, get_or, filter, take, Some, None, Option, sym, ap, ◌∙◌, arith, ext_get_or, take_all}
use Rattle.std.proofs.lemmas.List.{length-map, get_or-map}
use Rattle.store.specs.Held.{rows_of}
use Rattle.store.specs.Store.{Store, FindSays}
use Rattle.store.specs.declared.row.Row.{Row}
use Rattle.store.proofs.HeldRows.{row_held}
use Rattle.plan.specs.Truths.{named_rows, Tells}
use Rattle.plan.specs.declared.plan.Plan.{Plan}
use Rattle.rules.specs.Sets.{Rows, among}
use Rattle.rules.proofs.Holding.{row_at}
use Rattle.rules.proofs.Members.{among_kept}
use Rattle.cores.specs.Settling.{Located}
use Rattle.cores.proofs.Deciding.{say_of, way_in}
use Rattle.cores.proofs.OnPlaces.{say_row, on_places}

module _ (s : Store) (R : Rows) where
  abbrev Kept : List Row
  Kept = filter R (rows_of s.places)

  said : (leaf : Option ℕ) (row : Row) → FindSays s row leaf → say_of (on_places s.places R) leaf ≡ among Kept row
  said (Some p) row says = ap (say_row R) says.1 ∙ ap (λ b. b && R row) (sym (row_at s.places row p says.1)) ∙ sym (among_kept R (rows_of s.places) row)
  said None row says = ap (λ b. b && R row) (sym (row_held s.places row ∙ says)) ∙ sym (among_kept R (rows_of s.places) row)

  pub says_rows : (named : List Row) (leaves : List (Option ℕ)) → Located s named leaves → way_in (on_places s.places R) leaves ≡ map (among Kept) named
  says_rows named leaves at =
      let d : Row = record { relation = 0; columns = [] } in
      let say : Option ℕ → Bool = say_of (on_places s.places R) in
      let la : length (map say leaves) ≡ length leaves = length-map leaves say in
      let lb : length (map (among Kept) named) ≡ length named = length-map named (among Kept) in
      ext_get_or false (map say leaves) (map (among Kept) named) (la ∙ at.long ∙ sym lb) (λ i h.
      get_or-map say leaves i None false (omega (arith, la)) ∙ said (get_or leaves i None) (get_or named i d) (at.each i (omega (arith, la, at.long)) d) ∙
      sym (get_or-map (among Kept) named i d false (omega (arith, la, at.long))))

  -- a way that begins so tells of the rows that a line names whether the reading has them
  pub tells_rows : (plan : Plan) (columns : List ℕ) (leaves : List (Option ℕ)) → Located s (named_rows plan columns) leaves → (way : List Bool) →
      way_in (on_places s.places R) leaves ≡ take (length leaves) way → Tells plan columns Kept way
  tells_rows plan columns leaves at way e = ap (λ n. take n way) (sym at.long) ∙ sym e ∙ says_rows (named_rows plan columns) leaves at

  pub tells_itself : (plan : Plan) (columns : List ℕ) (leaves : List (Option ℕ)) → Located s (named_rows plan columns) leaves → Tells plan columns Kept (way_in (on_places s.places R) leaves)
  tells_itself plan columns leaves at =
      let way : List Bool = way_in (on_places s.places R) leaves in
      tells_rows plan columns leaves at way (sym (take_all (length leaves) way (omega (arith, length-map leaves (say_of (on_places s.places R))))))
