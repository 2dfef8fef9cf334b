-- A verdict stays the same when the rows and the conflicts are told otherwise, as long as the rows and the readings are the same.
use Rattle.std.proofs.Common.{◌≡◌, ℕ, Bool, true, ◌&&◌, List, map, length, filter, sym, ap, ◌∙◌, subst, arith, take_all}
use mathlib.Core.Path.{fun_ext}
use Rattle.std.proofs.lemmas.List.{length-map}
use Rattle.store.specs.Lists.{all}
use Rattle.store.specs.declared.row.Row.{Row}
use Rattle.rules.specs.Readings.{reading}
use Rattle.rules.specs.Sets.{Rows, among}
use Rattle.rules.proofs.Members.{among_kept}
use Rattle.plan.specs.Answers.{is_answer}
use Rattle.plan.specs.Plans.{nodes_of}
use Rattle.plan.specs.Truths.{named_rows, Tells}
use Rattle.plan.specs.declared.plan.Plan.{Plan}
use Rattle.plan.proofs.Answering.{by_names}
use Rattle.cores.specs.Sure.{Sure, Core}

module _ (plan : Plan) (columns : List ℕ) where
  -- what is told of each named row, whether it is among some rows
  abbrev is_told : List Row → List Bool
  is_told rows = map (among rows) (named_rows plan columns)

  tells : (rows : List Row) → Tells plan columns rows (is_told rows)
  tells rows = take_all (length (named_rows plan columns)) (is_told rows) (omega (arith, length-map (named_rows plan columns) (among rows)))

  module _ (a b : List Row) (same : (r : Row) → among a r ≡ among b r) where
    -- an answer depends on which rows there are, however they are listed
    same_answer : is_answer (nodes_of plan) a columns ≡ is_answer (nodes_of plan) b columns
    same_answer =
        by_names plan columns a (is_told b) (tells b ∙ ap (λ (S : Rows). map S (named_rows plan columns)) (sym (fun_ext same)))
        ∙ sym (by_names plan columns b (is_told b) (tells b))

  module _ (a b : List Row) (C D : List (List Row)) (same : (r : Row) → among a r ≡ among b r) (read : (R : Rows) → reading a C R ≡ reading b D R) where
    over : (R : Rows) → is_answer (nodes_of plan) (filter R a) columns ≡ is_answer (nodes_of plan) (filter R b) columns
    over R = same_answer (filter R a) (filter R b) (λ r. among_kept R a r ∙ ap (λ t. t && R r) (same r) ∙ sym (among_kept R b r))

    pub sure_over : Sure a C (nodes_of plan) columns → Sure b D (nodes_of plan) columns
    sure_over is R ok = sym (over R) ∙ is R (read R ∙ ok)

    pub core_over : (core : List Row) → Core a C (nodes_of plan) columns core → Core b D (nodes_of plan) columns core
    core_over core is =
        let (R, ok, has) = is.some in
        record {
          few = is.few;
          once = is.once;
          held = subst (λ (S : Rows). all S core ≡ true) (fun_ext same) is.held;
          some = (R, sym (read R) ∙ ok, has);
          none = λ R ok has. sym (over R) ∙ is.none R (read R ∙ ok) has;
        }
