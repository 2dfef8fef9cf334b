-- A table with one place made empty.
use Rattle.std.proofs.Common.{◌≡◌, ℕ, List, length, get_or, set, None, Option, sym, ap, ◌∙◌, ⊎_elim}
use Rattle.std.proofs.lemmas.List.{get_or-set_same, get_or-set_other, get_or_past, set_past, set-get_or}
use Rattle.std.proofs.lemmas.Bool.{cases_lt}
use Rattle.store.specs.declared.row.Row.{Row}
use Rattle.rules.specs.Listing.{AlikeBut}

module _ (table : List (Option Row)) (p : ℕ) where
  pub emptied : get_or (set table p None) p None ≡ None
  emptied = ⊎_elim
      (λ lt. get_or-set_same table p None None lt)
      (λ ge. ap (λ l. get_or l p None) (set_past table p None ge) ∙ get_or_past table p None ge)
      (cases_lt p (length table))

  pub others_alike : AlikeBut p table (set table p None)
  others_alike i ne = sym (get_or-set_other table p i None None ne)

  pub empty_already : get_or table p None ≡ None → set table p None ≡ table
  empty_already none = ap (set table p) (sym none) ∙ set-get_or table p None
