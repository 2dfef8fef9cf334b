-- A list that is completed rule by rule: what one rule's search leaves of it.
use Rattle.std.proofs.Common.{◌≡◌, ℕ, ◌+◌, ◌<◌, Bool, true, false, ◌||◌, ltb, List, [], ◌∷◌, length, get_or, Option, sym, refl, ap, ◌∙◌, subst, inl, inr, arith}
use Rattle.std.specs.Ordering.{is_lt}
use Rattle.std.proofs.lemmas.List.{length-map}
use Rattle.std.proofs.lemmas.Bool.{true≢false, both_ways, and_parts, and_from, or_right, le-leb}
use Rattle.std.proofs.lemmas.Cmp.{on_total, nat_list_cmp_total, tied_itself}
use Rattle.ordered.specs.Columnwise.{columnwise}
use Rattle.ordered.specs.Lists.{items_in}
use Rattle.ordered.specs.Order.{rises}
use Rattle.ordered.proofs.Ascending.{tail_rises}
use Rattle.ordered.proofs.Members.{member_after, same_members}
use Rattle.store.specs.Places.{OnceIn}
use Rattle.store.specs.declared.row.Row.{Row}
use Rattle.store.proofs.Alike.{same_numbers_is}
use Rattle.rules.specs.Choosing.{SameSet, Choice, Between, up_to}
use Rattle.rules.specs.Entries.{listing}
use Rattle.store.specs.Held.{rows_of}
use Rattle.rules.specs.Listing.{Listed, Lists, is_conflict, same_places}
use Rattle.rules.specs.Rules.{Denial, AtMost}
use Rattle.rules.specs.Searching.{Found, Grown, Has}
use Rattle.rules.specs.Sets.{distinct}
use Rattle.rules.specs.Views.{listed_as, by_places}
use Rattle.rules.specs.declared.list.Conflicts.{Conflicts}
use Rattle.rules.proofs.Apart.{apart_put}
use Rattle.rules.proofs.Counting.{counted, one_too_many}
use Rattle.ordered.proofs.Fews.{items_few}
use Rattle.rules.proofs.OnePlace.{conflict_parts}
use Rattle.rules.proofs.Rounds.{enters, round, round_starts, gives_up, up_to_is}

-- conflicts in order of their places have no places twice
pub rises_once : (l : List Listed) → rises by_places l ≡ true → distinct same_places l ≡ true
rises_once [] up = refl
rises_once (c ∷ l) up = apart_put same_places c l
    (λ d m s.
    let less = member_after by_places c d l up m in
    let e = ap (columnwise c.places) (sym (same_numbers_is c.places d.places s)) ∙ tied_itself nat_list_cmp_total c.places in
    true≢false (sym (ap is_lt less) ∙ ap is_lt e))
    (rises_once l (tail_rises by_places c l up))

-- two lists of the same conflicts, both in order, are the same
pub lists_same : (test : Listed → Bool) (a b : List Listed) → rises by_places a ≡ true → rises by_places b ≡ true → Lists test a → Lists test b → a ≡ b
lists_same test a b up vp la lb = same_members (on_total (λ (c : Listed). c.places) nat_list_cmp_total) a b up vp (λ c m. lb.full c (la.right c m)) (λ c m. la.full c (lb.right c m))

-- without rules there are no conflicts to list
pub lists_none : (table : List (Option Row)) → Lists (is_conflict table []) []
lists_none table = record { right = λ c m. elim m [ ]; full = λ c h. absurd (both_ways false refl (conflict_parts table [] c h).2); once = refl }

-- conflicts that are all listed are at most 1,024
pub fits_list : (table : List (Option Row)) → OnceIn table → (rules : List Denial) (l : Conflicts) → Lists (is_conflict table rules) (listing l) → AtMost 1024 (rows_of table) rules
fits_list table once rules l ls = (counted table once rules (listing l) ls 1024).0 (le-leb (length (listing l)) 1024 (omega (arith, length-map (items_in l.items) listed_as, items_few l.items)))

module _ (table : List (Option Row)) (once : OnceIn table) (rules : List Denial) (known : List ℕ → Bool) (k : ℕ) (lt : k < length rules) (other : Denial) {rule : Denial} (at : get_or rules k other ≡ rule)
    {before after : List Listed} (ls : Lists (up_to table rules known k) before) (grown : Grown table rule k before after) (up : rises by_places after ≡ true) where
  -- what is found is a conflict by this rule
  found_right : (c : Listed) → Found table rule k before c → up_to table rules known (k + 1) c ≡ true
  found_right c f =
      let none : List ℕ → Bool = λ places. false in
      let wider : (n : ℕ) (d : Listed) → up_to table rules none n d ≡ true → up_to table rules known n d ≡ true = λ n d h.
      let (is, low) = and_parts (is_conflict table rules d) (ltb d.rule n) h in
      and_from (is_conflict table rules d) (known d.places || ltb d.rule n) is (or_right (known d.places) (ltb d.rule n) low) in
      let same : record { places = c.places; rule = k } ≡ c = λ i. record { places = c.places; rule = sym f.made.ruled i } in
      subst (λ x. up_to table rules known (k + 1) x ≡ true) same (wider (k + 1) (record { places = c.places; rule = k })
      (enters table rules none k before (λ d h. ls.full d (wider k d h)) lt other f.chosen c.places (subst (λ r. Choice table r f.chosen) (sym at) f.breaks) f.made.ascends f.made.same refl f.absent))

  on_way : Between (up_to table rules known k) (up_to table rules known (k + 1)) after
  on_way = record {
    right = λ c m. elim (grown.new c m) [ inl n ↦ (round_starts table rules known k before ls).right c n | inr f ↦ found_right c f ];
    full = λ c h. grown.kept c (ls.full c h);
    once = rises_once after up;
  }

  -- the search went through all choices that matter
  pub one_further : ((chosen places : List ℕ) → Choice table rule chosen → SameSet chosen places → known places ≡ false → Has after chosen) → Lists (up_to table rules known (k + 1)) after
  one_further all = round table once rules known k after on_way other (λ chosen places c same fresh.
      let (d, m, s) = all chosen places (subst (λ r. Choice table r chosen) at c) same fresh in (d, m, λ p. sym (s p) ∙ same p))

  -- the search was given up, since the list was full and one more was found
  module _ (full : length after ≡ 1024) (c : Listed) (f : Found table rule k after c) where
    pub half_way : Between (up_to table rules known k) (is_conflict table rules) after
    half_way = gives_up table rules known k after on_way

    pub over : AtMost 1024 (rows_of table) rules → ⊥
    over few =
        let earlier : Found table rule k before c = record { chosen = f.chosen; breaks = f.breaks; made = f.made; absent = λ d m. f.absent d (grown.kept d m) } in
        one_too_many table once rules after half_way.right (rises_once after up) c (up_to_is table rules known (k + 1) c (found_right c earlier)) f.absent (subst (λ n. AtMost n (rows_of table) rules) (sym full) few)
