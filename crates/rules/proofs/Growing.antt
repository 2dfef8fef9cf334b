-- A list of conflicts that grows while choices are gone through.
use Rattle.std.proofs.Common.{◌≡◌, ℕ, ◌+◌, ◌<◌, ◌≤◌, Bool, true, false, eqb, List, [], ◌∷◌, ◌++◌, length, get_or, None, Ok, Err, Option, Result, sym, refl, ap, ◌∙◌, subst, inl, inr, ⊎_elim, arith}
use mathlib.Core.List.Memᴰ
use mathlib.Core.List.{Memᴰ}
use Rattle.std.proofs.lemmas.List.{append_assoc, append-nil, length-append, nil_from_length, get_or_at}
use Rattle.std.proofs.lemmas.Bool.{both_ways, cases_Bool, cases_eq, cond_both, eqb-true}
use Rattle.ordered.specs.Order.{rises, listed, entered}
use Rattle.ordered.specs.declared.entry.Full.{Full}
use Rattle.ordered.specs.Columnwise.{columnwise}
use Rattle.std.proofs.lemmas.Cmp.{on_total, nat_list_cmp_total, tied_itself}
use Rattle.ordered.proofs.Entering.{member_new, member_old, member_entered}
use Rattle.ordered.proofs.Keyed.{same_columns}
use Rattle.ordered.proofs.Members.{listed_from_member, member_from_listed}
use Rattle.store.specs.declared.row.Row.{Row}
use Rattle.store.proofs.Places.{inside}
use Rattle.store.proofs.Tests.{all_at}
use Rattle.rules.specs.Beginnings.{begins}
use Rattle.rules.specs.Choosing.{SameSet, Choice}
use Rattle.rules.specs.Entries.{EnterSays}
use Rattle.rules.specs.Listing.{Listed, is_held}
use Rattle.rules.specs.Rules.{Denial}
use Rattle.rules.specs.Searching.{in_scope, span_of, MadeOf, Found, Grown, Has, HasAll, SearchSays, FindSays}
use Rattle.rules.specs.Views.{by_places}
use Rattle.rules.specs.declared.search.Scope.{Scope}
use Rattle.rules.specs.declared.search.Scope.TheVariants.{All, At}
use Rattle.rules.proofs.Beginning.{choice_begins}
use Rattle.rules.proofs.Choosing.{choice_apart, held_row}

module _ {table : List (Option Row)} {rule : Denial} {number : ℕ} where
  pub grown_none : (l : List Listed) → Grown table rule number l l
  grown_none l = record { kept = λ c m. m; new = λ c m. inl m }

  pub grown_more : {a b c : List Listed} → Grown table rule number a b → Grown table rule number b c → Grown table rule number a c
  grown_more g h = record {
    kept = λ x m. h.kept x (g.kept x m);
    new = λ x m. elim (h.new x m) [
      | inl n ↦ g.new x n
      | inr f ↦ inr (record { chosen = f.chosen; breaks = f.breaks; made = f.made; absent = λ d n. f.absent d (g.kept d n) })
    ];
  }

  pub has_still : {a b : List Listed} (chosen : List ℕ) → Grown table rule number a b → Has a chosen → Has b chosen
  has_still chosen g (c, m, same) = (c, g.kept c m, same)

-- a conflict that is entered, or is not since the list is full
module _ {table : List (Option Row)} {rule : Denial} {number : ℕ} {chosen : List ℕ} {c : Listed} (breaks : Choice table rule chosen) (made : MadeOf chosen number c) (before : List Listed) where
  free : listed by_places c before ≡ false → (d : Listed) → Memᴰ d before → d.places ≡ c.places → ⊥
  free none d m e = both_ways _ none (listed_from_member by_places c d before m (ap (λ p. columnwise d.places p) (sym e) ∙ tied_itself nat_list_cmp_total d.places))

  pub found : listed by_places c before ≡ false → Found table rule number before c
  found none = record { chosen = chosen; breaks = breaks; made = made; absent = free none }

  module _ (up : rises by_places before ≡ true) where
    pub entered_grown : Grown table rule number before (entered by_places c before)
    entered_grown = record {
      kept = λ d m. member_old by_places c d before m;
      new = λ d m. elim (member_entered (on_total (λ (x : Listed). x.places) nat_list_cmp_total) c d before up m) [
        | inl (e, none) ↦ inr (subst (Found table rule number before) (sym e) (found none))
        | inr n ↦ inl n
      ];
    }

    pub entered_has : Has (entered by_places c before) chosen
    entered_has = ⊎_elim
        (λ old. let (d, m, e) = member_from_listed by_places c before old in (d, member_old by_places c d before m, subst (SameSet chosen) (sym (same_columns d.places c.places e)) made.same))
        (λ none. (c, member_new by_places c before none, made.same))
        (cases_Bool (listed by_places c before))

-- a place that a choice in scope has for the next atom is one of those to try
in_span : (scope : Scope) (begun rest : List ℕ) (q n : ℕ) → q < n → in_scope scope (begun ++ q ∷ rest) ≡ true → ((span_of scope (length begun) n).0 ≤ q) × (q < (span_of scope (length begun) n).1)
in_span All begun rest q n lt w = (omega arith, lt)
in_span (At fixed place) begun rest q n lt w =
    let P : ℕ × ℕ → Type 0 = λ span. (span.0 ≤ q) × (q < span.1) in
    cond_both (eqb fixed (length begun)) (place, place + 1) (0, n) P
    (λ here.
    let at : length begun ≡ fixed = sym (eqb-true fixed (length begun) here) in
    let is : q ≡ place = sym (get_or_at begun q rest 0 fixed at) ∙ eqb-true (get_or (begun ++ q ∷ rest) fixed 0) place w in
    (omega arith, omega arith))
    (λ other. (omega arith, lt))

-- which choices are listed
module _ {table : List (Option Row)} {rule : Denial} {scope : Scope} where
  pub all_still : {number : ℕ} {a b : List Listed} {begun : List ℕ} → Grown table rule number a b → HasAll table rule scope begun a → HasAll table rule scope begun b
  all_still {begun = begun} g h = record { has = λ rest c w. has_still (begun ++ rest) g (h.has rest c w) }

  -- all, where none begins so
  pub all_none : {begun : List ℕ} (l : List Listed) → begins table rule begun ≡ false → HasAll table rule scope begun l
  all_none {begun} l none = record { has = λ rest c w. absurd (both_ways _ none (choice_begins table rule begun rest c)) }

  -- all, where this one is whole
  pub all_whole : {begun : List ℕ} {l : List Listed} → length begun ≡ length rule.atoms → Has l begun → HasAll table rule scope begun l
  all_whole {begun} {l} whole h = record {
    has = λ rest c w.
        let long = (choice_apart table rule (begun ++ rest) c).0 in
        let e : rest ≡ [] = nil_from_length rest (omega (arith, length-append begun rest)) in
        subst (Has l) (sym (ap (λ r. begun ++ r) e ∙ append-nil begun)) h;
  }

-- all are, where those are that have each place for the next atom
module _ {table : List (Option Row)} {rule : Denial} (scope : Scope) (begun : List ℕ) {l : List Listed} (span : ℕ × ℕ) (is : span ≡ span_of scope (length begun) (length table))
    (room : length begun < length rule.atoms) (each : (q : ℕ) → span.0 ≤ q → q < span.1 → HasAll table rule scope (begun ++ q ∷ []) l) where
  by_next : (rest : List ℕ) → Choice table rule (begun ++ rest) → in_scope scope (begun ++ rest) ≡ true → Has l (begun ++ rest)
  by_next [] c w = absurd (omega (arith, (choice_apart table rule (begun ++ []) c).0, length-append {A = ℕ} begun []))
  by_next (q ∷ rest) c w =
      let held_at : ℕ → Bool = λ p. is_held (get_or table p None) in
      let (r, stands) = held_row (get_or table q None) (all_at held_at (Memᴰ.append_right begun (Memᴰ.head refl)) c.held) in
      let P : ℕ × ℕ → Type 0 = λ span. (span.0 ≤ q) × (q < span.1) in
      let (low, high) = subst P (sym is) (in_span scope begun rest q (length table) (inside table q r stands) w) in
      let e = append_assoc begun (q ∷ []) rest in
      subst (Has l) e ((each q low high).has rest (subst (Choice table rule) (sym e) c) (ap (in_scope scope) e ∙ w))

  pub all_next : HasAll table rule scope begun l
  all_next = record { has = by_next }

-- what the search says of a choice that is whole, when its conflict was entered or refused
pub whole_says : {table : List (Option Row)} {rule : Denial} (scope : Scope) {number : ℕ} {chosen : List ℕ} {c : Listed} (before after : List Listed) (r : Result Unit Full) → EnterSays c before after r →
    rises by_places before ≡ true → Choice table rule chosen → MadeOf chosen number c → length chosen ≡ length rule.atoms → SearchSays table rule scope number chosen before after r
whole_says {table} {rule} scope {number} {chosen} {c} before after (Ok x) is up breaks made whole = (
  subst (Grown table rule number before) (sym is) (entered_grown breaks made before up),
  all_whole whole (subst (λ l. Has l chosen) (sym is) (entered_has breaks made before up)),
)
whole_says {table} {rule} scope {number} {chosen} {c} before after (Err x) (same, full, none) up breaks made whole = (
  subst (Grown table rule number before) (sym same) (grown_none before),
  ap length same ∙ full,
  (c, subst (λ l. Found table rule number l c) (sym same) (found breaks made before none)),
)

-- one place more is tried for the next atom
pub tried : {table : List (Option Row)} {rule : Denial} (scope : Scope) {number : ℕ} (begun : List ℕ) (first place : ℕ) {a b c d : List Listed} {next : List ℕ} → next ≡ begun ++ place ∷ [] → d ≡ c →
    Grown table rule number a b → ((q : ℕ) → first ≤ q → q < place → HasAll table rule scope (begun ++ q ∷ []) b) → Grown table rule number b c → HasAll table rule scope next c →
    Grown table rule number a d × ((q : ℕ) → first ≤ q → q < place + 1 → HasAll table rule scope (begun ++ q ∷ []) d)
tried {table} {rule} scope {number} begun first place {a} {b} {c} {d} at e g before h here = (
  subst (Grown table rule number a) (sym e) (grown_more g h),
  λ q low high. subst (HasAll table rule scope (begun ++ q ∷ [])) (sym e) (⊎_elim
      (λ (s : q ≡ place). subst (λ x. HasAll table rule scope x c) (at ∙ ap (λ p. begun ++ p ∷ []) (sym s)) here)
      (λ ne. all_still h (before q low (omega (arith, ne))))
      (cases_eq q place)),
)

-- what a search from the start finds
pub find_says : (table : List (Option Row)) (rule : Denial) (scope : Scope) (number : ℕ) (begun : List ℕ) (before after : List Listed) (r : Result Unit Full) → begun ≡ [] → SearchSays table rule scope number begun before after r → FindSays table rule (in_scope scope) number before after r
find_says table rule scope number begun before after (Ok x) start (grown, all) = (grown, λ chosen c w. (subst (λ b. HasAll table rule scope b after) start all).has chosen c w)
find_says table rule scope number begun before after (Err x) start told = told
