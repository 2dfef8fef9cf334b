-- The plain book's questions are answered as the source's and the rule's are.
use Rattle.std.proofs.Common.{◌≡◌, ℕ, Bool, true, false, not, ltb, List, Some, None, Option, sym, refl, ap, ◌∙◌, subst}
use Rattle.std.specs.Option.{option_map}
use Rattle.fault.specs.Questions.{ask}
use Rattle.store.specs.Refusals.{notice_of as source_notice}
use Rattle.store.specs.Rows.{zero_from}
use Rattle.store.specs.Store.{Store, declares, ends_in_zeros, holds, has_empty, put_refusal, strike_refusal}
use Rattle.store.specs.declared.row.Row.{Row}
use Rattle.store.specs.declared.refusal.Refusal.{Refusal}
use Rattle.store.specs.declared.refusal.Refusal.TheVariants.{Undeclared, Unfit, AlreadyHeld, NoEmptyPlace, NotHeld}
use Rattle.rules.specs.Rules.{Denial}
use Rattle.rules.specs.Sets.{among}
use Rattle.rules.proofs.Holding.{held_rows, some_empty}
use Rattle.book.specs.Plain.{Plain, Told, refused, entry_no, strike_no, Unless}
use Rattle.book.specs.Runs.{Agrees}

abbrev pub number_of : Refusal → ℕ
number_of e = (source_notice e).number

four : (a b c d : Bool) → ask a 11 (ask b 12 (ask (not c) 13 (ask d 14 None))) ≡ option_map number_of (ask a Undeclared (ask b Unfit (ask (not c) AlreadyHeld (ask d NoEmptyPlace None))))
four false b c d = refl
four true false c d = refl
four true true true d = refl
four true true false false = refl
four true true false true = refl

one : (a : Bool) → ask a 16 None ≡ option_map number_of (ask a NotHeld None)
one false = refl
one true = refl

module _ (p : Plain) (s : Store) (rules : List Denial) (both : Agrees p s rules) (row : Row) where
  is_held : among p.rows row ≡ holds s row
  is_held = both.rows row ∙ held_rows s.places row

  pub entry_asks : entry_no p row ≡ option_map number_of (put_refusal s row)
  entry_asks =
      ap (λ (arity : ℕ → ℕ). ask (ltb 0 (arity row.relation)) 11 (ask (zero_from (arity row.relation) row.columns) 12 (ask (not (among p.rows row)) 13 (ask (ltb 0 p.empty) 14 None)))) both.arity
      ∙ ap (λ c. ask (declares s row) 11 (ask (ends_in_zeros s row) 12 (ask (not c) 13 (ask (ltb 0 p.empty) 14 None)))) is_held
      ∙ ap (λ d. ask (declares s row) 11 (ask (ends_in_zeros s row) 12 (ask (not (holds s row)) 13 (ask d 14 None)))) (ap (ltb 0) both.empty ∙ sym (some_empty s.places))
      ∙ four (declares s row) (ends_in_zeros s row) (holds s row) (has_empty s)

  pub strike_asks : strike_no p row ≡ option_map number_of (strike_refusal s row)
  strike_asks = ap (λ c. ask c 16 None) is_held ∙ one (holds s row)

module _ (rest : Told → Plain → Type 0) (p : Plain) (told : Told) (q : Plain) where
  -- no first question is answered No
  pub goes_on : (o : Option ℕ) → o ≡ None → rest told q → Unless o rest p told q
  goes_on o e h = subst (λ x. Unless x rest p told q) (sym e) h

  -- one is
  pub stops : (o : Option ℕ) (n : ℕ) → o ≡ Some n → told ≡ refused n → q ≡ p → Unless o rest p told q
  stops o n e t h = subst (λ x. Unless x rest p told q) (sym e) (t, h)
