-- The plain book and the source hold the same after a call that is done.
use Rattle.std.proofs.Common.{◌≡◌, ℕ, not, ◌&&◌, ◌||◌, List, [], ◌∷◌, ◌++◌, sym, ap, ◌∙◌, subst, arith}
use Rattle.store.specs.Places.{OnceIn}
use Rattle.store.specs.Rows.{same_row}
use Rattle.store.specs.Store.{Store, Put, Struck}
use Rattle.store.specs.declared.row.Row.{Row}
use Rattle.store.specs.Held.{rows_of, empties}
use Rattle.rules.specs.Rules.{Denial, AtMost}
use Rattle.rules.specs.Sets.{among}
use Rattle.rules.proofs.Holding.{put_rows, struck_rows, put_empties, struck_empties}
use Rattle.rules.proofs.Members.{among_kept}
use Rattle.rules.proofs.SameHeld.{same_members}
use Rattle.book.specs.Plain.{Plain, with_row, without_row, with_rule, most}
use Rattle.book.specs.Runs.{Agrees}

module _ (p : Plain) (s s' : Store) (rules : List Denial) (row : Row) (place : ℕ) (both : Agrees p s rules) where
  module _ (put : Put s s' row place) where
    rows_put : (r : Row) → among (row ∷ p.rows) r ≡ among (rows_of s'.places) r
    rows_put r =
        ap (λ b. same_row r row || b) (both.rows r)
        ∙ sym (ap (λ places. among (rows_of places) r) put.stands ∙ put_rows s.places place row put.inside put.empty r)

    pub agrees_put : Agrees (with_row p row) s' rules
    agrees_put = record {
      arity = both.arity ∙ sym put.arities;
      rows = rows_put;
      empty = let e = put_empties s.places place row put.inside put.empty in let f = ap empties put.stands in let g = both.empty in omega arith;
      taken = both.taken;
    }

    pub few_put : AtMost most (rows_of s'.places) rules → AtMost most (row ∷ p.rows) p.rules
    few_put few = subst (AtMost most (row ∷ p.rows)) (sym both.taken) ((same_members (rows_of s'.places) (row ∷ p.rows) (λ r. sym (rows_put r)) rules).0 most few)

  module _ (once : OnceIn s.places) (struck : Struck s s' row place) where
    pub agrees_struck : Agrees (without_row p row) s' rules
    agrees_struck = record {
      arity = both.arity ∙ sym struck.arities;
      rows = λ r.
          among_kept (λ x. not (same_row x row)) p.rows r ∙ ap (λ b. b && not (same_row r row)) (both.rows r)
          ∙ sym (ap (λ places. among (rows_of places) r) struck.gone ∙ struck_rows s.places once place row struck.stood r);
      empty = let e = struck_empties s.places place row struck.stood in let f = ap empties struck.gone in let g = both.empty in omega arith;
      taken = both.taken;
    }

module _ (p : Plain) (s : Store) (rules : List Denial) (both : Agrees p s rules) where
  -- what there would be with a row, in the words of either
  pub few_with : (row : Row) → AtMost most (row ∷ p.rows) p.rules → AtMost most (row ∷ rows_of s.places) rules
  few_with row few = (same_members (row ∷ p.rows) (row ∷ rows_of s.places) (λ r. ap (λ b. same_row r row || b) (both.rows r)) rules).0 most (subst (AtMost most (row ∷ p.rows)) both.taken few)

  -- what there is with a rule more
  pub few_more : (rule : Denial) → AtMost most p.rows (p.rules ++ (rule ∷ [])) → AtMost most (rows_of s.places) (rules ++ (rule ∷ []))
  few_more rule few = (same_members p.rows (rows_of s.places) both.rows (rules ++ (rule ∷ []))).0 most (subst (λ rs. AtMost most p.rows (rs ++ (rule ∷ []))) both.taken few)

  pub few_ruled : (rule : Denial) → AtMost most (rows_of s.places) (rules ++ (rule ∷ [])) → AtMost most p.rows (p.rules ++ (rule ∷ []))
  few_ruled rule few = subst (λ rs. AtMost most p.rows (rs ++ (rule ∷ []))) (sym both.taken) ((same_members (rows_of s.places) p.rows (λ r. sym (both.rows r)) (rules ++ (rule ∷ []))).0 most few)

  pub agrees_ruled : (rule : Denial) (after : List Denial) → after ≡ rules ++ (rule ∷ []) → Agrees (with_rule p rule) s after
  agrees_ruled rule after e = record { arity = both.arity; rows = both.rows; empty = both.empty; taken = ap (λ rs. rs ++ (rule ∷ [])) both.taken ∙ sym e }
