-- Where the candidates begin and end, and that they get fewer.
use Rattle.std.proofs.Common.{◌≡◌, ℕ, zero, suc, ◌+◌, ◌-◌, ◌≤◌, ◌<◌, Bool, true, false, cond, List, [], ◌∷◌, length, drop, map, replicate, None, Some, Option, refl, sym, ap, ◌∙◌, subst, arith, drop-drop}
use mathlib.Core.List.{Memᴰ}
use Rattle.std.specs.List.{count_by}
use Rattle.std.proofs.lemmas.Bool.{both_ways}
use Rattle.std.proofs.lemmas.List.Sums.{sum_by-cons}
use Rattle.store.specs.Held.{rows_of}
use Rattle.store.specs.Store.{Store}
use Rattle.store.specs.declared.row.Row.{Row}
use Rattle.rules.specs.Listing.{Listed}
use Rattle.plan.specs.Answers.{padded}
use Rattle.plan.specs.Plans.{nodes_of}
use Rattle.plan.specs.declared.line.Line.{Line}
use Rattle.plan.specs.declared.node.Node.{Node}
use Rattle.plan.specs.declared.plan.Plan.{Plan}
use Rattle.plan.proofs.Members.{line_in}
use Rattle.candidates.specs.Candidates.{before, candidates_at, is_after, Next, NextSays}
use Rattle.candidates.proofs.Before.{irreflexive, transitive}
use Rattle.candidates.proofs.Candidates.{all_candidates}
use Rattle.sheet.specs.Gathering.{Grown}
use Rattle.sheet.specs.Sheets.{columns_of, Readable, SheetOf}

-- so many candidates are past a line
abbrev pub left : List Node → List Row → Option Line → ℕ
left nodes rows upto = count_by (is_after upto) (map padded (candidates_at rows nodes (length nodes - 1)))

one : (a b : Bool) → (a ≡ true → b ≡ true) → cond a 1 0 ≤ cond b 1 0
one true b h = subst (λ b. 1 ≤ cond b 1 0) (sym (h refl)) (omega arith)
one false b h = omega arith

module _ (p q : List ℕ → Bool) (part : (t : List ℕ) → p t ≡ true → q t ≡ true) where
  abbrev each : (List ℕ → Bool) → List ℕ → ℕ
  each test t = cond (test t) 1 0

  no_more : (ts : List (List ℕ)) → count_by p ts ≤ count_by q ts
  no_more [] = omega arith
  no_more (t ∷ ts) = omega (arith, sum_by-cons (each p) t ts, sum_by-cons (each q) t ts, one (p t) (q t) (part t), no_more ts)

  fewer : (x : List ℕ) → p x ≡ false → q x ≡ true → (ts : List (List ℕ)) → Memᴰ x ts → count_by p ts < count_by q ts
  fewer x out is ts (Memᴰ.head {x = t} {xs = ys} e) =
      let a = ap {B = ℕ} (λ b. cond b 1 0) (subst (λ u. p u ≡ false) e out) in
      let b = ap {B = ℕ} (λ b. cond b 1 0) (subst (λ u. q u ≡ true) e is) in
      omega (arith, sum_by-cons (each p) t ys, sum_by-cons (each q) t ys, a, b, no_more ys)
  fewer x out is ts (Memᴰ.tail {x = t} {xs = ys} m) = omega (arith, sum_by-cons (each p) t ys, sum_by-cons (each q) t ys, one (p t) (q t) (part t), fewer x out is ys m)

past : (upto : Option Line) (line : List ℕ) → is_after upto line ≡ true → (t : List ℕ) → before line t ≡ true → is_after upto t ≡ true
past None line h t k = refl
past (Some x) line h t k = transitive x.columns line t h k

pub smaller : (nodes : List Node) (rows : List Row) (upto : Option Line) (line : Line) → Next nodes rows upto line.columns → left nodes rows (Some line) < left nodes rows upto
smaller nodes rows upto line next =
    let ts = map padded (candidates_at rows nodes (length nodes - 1)) in
    fewer (before line.columns) (is_after upto) (past upto line.columns next.past) line.columns (irreflexive line.columns) next.past ts (line_in line.columns ts next.candidate)

module _ (s : Store) (listed : List Listed) (nodes : List Node) where
  -- before the first
  pub begun : (lines : List Line) → Grown s listed nodes lines lines None 0 0
  begun lines = record {
    more = omega arith;
    within = omega arith;
    gathered = record {
      some = record { ascend = refl; sure = λ columns h. absurd (both_ways false refl h); fit = λ columns h. absurd (both_ways false refl h) };
      all = λ columns is h sure. absurd (both_ways true h refl);
    };
    rest = refl;
  }

  -- one more
  pub gone_on : (old mid new : List Line) (upto : Option Line) (line : Line) (count n : ℕ) → length mid ≡ length old → Grown s listed nodes old mid upto 0 count → Grown s listed nodes mid new (Some line) count n → Grown s listed nodes old new (Some line) 0 n
  gone_on old mid new upto line count n long a b = record {
    more = omega arith;
    within = omega (arith, b.within, long);
    gathered = b.gathered;
    rest = b.rest ∙ further mid ∙ ap (drop (n - count)) a.rest ∙ sym (further old);
  }
    where
      further : (lines : List Line) → drop n lines ≡ drop (n - count) (drop count lines)
      further lines = let e : n ≡ count + (n - count) = omega (arith, b.more) in ap (λ m. drop m lines) e ∙ sym (drop-drop (n - count) count lines)

-- after the last
pub ended : (s : Store) (listed : List Listed) (plan : Plan) → Readable s listed → (old new : List Line) (upto : Option Line) (n : ℕ) → Grown s listed (nodes_of plan) old new upto 0 n → NextSays (nodes_of plan) (rows_of s.places) upto None →
    SheetOf s listed (nodes_of plan) old new n
ended s listed plan (R, ok) old new upto n these none = record {
  within = these.within;
  sheet = record {
    some = these.gathered.some;
    all = λ columns sure. let is = all_candidates plan R (rows_of s.places) columns (sure R ok) in these.gathered.all columns is (none columns is) sure;
  };
  rest = these.rest;
}

-- lines that are all made the same
all_one : (n : ℕ) (line : Line) → columns_of (replicate n line) ≡ replicate n line.columns
all_one zero line = refl
all_one (suc n) line = ap (λ t. line.columns ∷ t) (all_one n line)

pub wiped : (lines : List Line) (n m : ℕ) → lines ≡ replicate n (record { columns = replicate 8 0 }) → n ≡ m → columns_of lines ≡ replicate m (replicate 8 0)
wiped lines n m e same = ap columns_of e ∙ all_one n (record { columns = replicate 8 0 }) ∙ ap (λ n. replicate n (replicate 8 0)) same
