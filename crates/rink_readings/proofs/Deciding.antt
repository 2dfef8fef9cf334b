-- Whether a line is sure, and whether rows are a core of it, found by going through what can be kept of the rows.
use Rattle.std.proofs.Common.{◌≡◌, ℕ, ◌≤◌, Bool, true, not, cond, ◌&&◌, List, length, filter, ◌∙◌, subst}
use Rattle.std.proofs.lemmas.Bool.{and_parts, and_from, not-true}
use Rattle.store.specs.Lists.{all}
use Rattle.store.specs.Rows.{same_row}
use Rattle.store.specs.declared.row.Row.{Row}
use Rattle.store.proofs.Tests.{all_at, all_put}
use Rattle.rules.specs.Sets.{Rows, among, distinct}
use Rattle.rules.specs.Readings.{reading}
use Rattle.rules.specs.Rules.{Denial, conflicts}
use Rattle.rules.proofs.Members.{among_kept}
use Rattle.plan.specs.Answers.{padded, is_answer}
use Rattle.plan.specs.declared.node.Node.{Node}
use Rattle.rink_readings.specs.Examples.{IsSure, HasCore}
use Rattle.rink_readings.proofs.Kept.{every, every_at, by_kept}

module _ (rules : List Denial) (rows : List Row) (nodes : List Node) (line : List ℕ) where
  abbrev C : List (List Row)
  C = conflicts rows rules

  -- what a reading keeps of the rows passes
  abbrev if_reading : (List Row → Bool) → List Row → Bool
  if_reading test kept = cond (reading rows C (among kept)) (test kept) true

  -- and that whichever the reading is; the conflicts are among the rows
  abbrev pub in_readings : (List Row → Bool) → Bool
  in_readings test = all (all (among rows)) C && every (if_reading test) rows

  in_reading : (test : List Row → Bool) → in_readings test ≡ true → (R : Rows) → reading rows C R ≡ true → test (filter R rows) ≡ true
  in_reading test h R ok =
      let (within, each) = and_parts (all (all (among rows)) C) (every (if_reading test) rows) h in
      subst (λ b. cond b (test (filter R rows)) true ≡ true) (by_kept rows C within R ok) (every_at R (if_reading test) rows each)

  abbrev pub has_line : List Row → Bool
  has_line kept = is_answer nodes kept (padded line)

  pub sure_by : in_readings has_line ≡ true → IsSure rules rows nodes line
  sure_by h = in_reading has_line h

  -- the core is of different rows that are held, and the reading that keeps these has it whole
  abbrev pub stands_in : List Row → List Row → Bool
  stands_in core kept = distinct same_row core && (all (among rows) core && (reading rows C (among kept) && all (among kept) core))

  -- with the whole core there is no such line
  abbrev pub keeps_out : List Row → List Row → Bool
  keeps_out core kept = cond (all (among kept) core) (not (has_line kept)) true

  kept_whole : (core : List Row) → all (among rows) core ≡ true → (R : Rows) → all R core ≡ true → all (among (filter R rows)) core ≡ true
  kept_whole core held R has = all_put (among (filter R rows)) core (λ r m. among_kept R rows r ∙ and_from (among rows r) (R r) (all_at (among rows) m held) (all_at R m has))

  pub core_by : (core kept : List Row) → length core ≤ 12 → stands_in core kept ≡ true → in_readings (keeps_out core) ≡ true → HasCore rules rows nodes line core
  core_by core kept few stands out =
      let (once, rest) = and_parts (distinct same_row core) (all (among rows) core && (reading rows C (among kept) && all (among kept) core)) stands in
      let (held, both) = and_parts (all (among rows) core) (reading rows C (among kept) && all (among kept) core) rest in
      let (is_reading, whole) = and_parts (reading rows C (among kept)) (all (among kept) core) both in
      record {
        few = few;
        once = once;
        held = held;
        some = (among kept, is_reading, whole);
        none = λ R ok has.
            let kept : List Row = filter R rows in
            not-true (has_line kept) (subst (λ b. cond b (not (has_line kept)) true ≡ true) (kept_whole core held R has) (in_reading (keeps_out core) out R ok));
      }
