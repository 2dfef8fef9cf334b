-- Choices beyond which nothing works, and what is left to try.
use Rattle.std.proofs.Common.{◌≡◌, ℕ, zero, suc, ◌+◌, ◌<◌, Bool, true, false, not, ◌&&◌, ◌||◌, List, [], ◌∷◌, ◌++◌, length, get_or, take, drop, Some, None, Option, unwrap_or, MatchOption, MatchBool, sym, refl, ap, ◌∙◌, subst, arith, length-append, ⊎_elim, ◌≢◌}
use Rattle.std.specs.Prelude.{⊤}
use mathlib.Core.List.{Memᴰ}
use Rattle.std.proofs.lemmas.Bool.{both_ways, and_parts, and_from, cases_eq, cases_Bool}
use Rattle.std.proofs.lemmas.List.{length-map}
use Rattle.store.specs.Lists.{any, all}
use Rattle.store.proofs.Tests.{from_not, any_pick, any_put, all_put}
use Rattle.rules.specs.Views.{listed_as}
use Rattle.rules.specs.declared.conflict.Conflict.{Conflict}
use Rattle.cores.specs.Backing.{one_of, clear_places, without, backing, NoneWorks}
use Rattle.cores.specs.Searching.{NoneBeyond, fits, is_free, shut_out}
use Rattle.rules.proofs.Ascents.{place_has}
use Rattle.cores.proofs.Turning.{blocked, none_fits, each_tried, free_is_best, shut_out_lem}
use Rattle.verdict.specs.Marking.{lists_of, is_in, is_shut, lacks_only, is_left, Shows, Shuts}
use Rattle.verdict.specs.Trying.{Stand, Left, Follows}
use Rattle.verdict.proofs.Places.{but_for}
use Rattle.verdict.proofs.Shutting.{alike}

-- a test of each conflict is one of the places of each
pub any_lists : (p : List ℕ → Bool) (cs : List Conflict) → any (λ c. p (listed_as c).places) cs ≡ any p (lists_of cs)
any_lists p [] = refl
any_lists p (c ∷ cs) = ap (λ b. p (listed_as c).places || b) (any_lists p cs)

-- what stands between two lists
pub at_last : (xs ys : List ℕ) (c : ℕ) → get_or ((xs ++ c ∷ []) ++ ys) (length xs) 0 ≡ c
at_last [] ys c = refl
at_last (x ∷ xs) ys c = at_last xs ys c

-- a conflict that has not the place it is chosen for
pub stranger : (C : List (List ℕ)) (ins outs chosen : List ℕ) (c : ℕ) → one_of (get_or C c []) (get_or outs (length chosen) 0) ≡ false → NoneBeyond C ins outs (chosen ++ c ∷ [])
stranger C ins outs chosen c lacks more w =
    both_ways (one_of (get_or C c []) (get_or outs (length chosen) 0)) lacks
    (subst (λ n. one_of (get_or C n []) (get_or outs (length chosen) 0) ≡ true) (at_last chosen more c)
    (w.real (length chosen) (omega (arith, length-append (chosen ++ c ∷ []) more, length-append chosen (c ∷ [])))).1)

module _ (C : List (List ℕ)) (ins outs chosen marks : List ℕ) (shows : Shows (backing C ins outs chosen) marks) where
  pub free_is : (o : ℕ) (c : List ℕ) → lacks_only (is_in marks) o c ≡ is_free (backing C ins outs chosen) o c
  free_is o c = ap (λ b. one_of c o && b) (but_for (is_in marks) o c) ∙ ap (λ S. one_of c o && all S (without o c)) (alike shows)

  -- a whole conflict is marked
  pub whole_stops : clear_places C (is_in marks) ≡ false → NoneBeyond C ins outs chosen
  whole_stops whole = blocked C ins outs chosen (backing C ins outs chosen) (λ p. refl) (subst (λ S. clear_places C S ≡ false) (alike shows) whole)

  -- no whole conflict is
  pub clear_is : clear_places C (is_in marks) ≡ true → clear_places C (one_of (backing C ins outs chosen)) ≡ true
  clear_is h = subst (λ S. clear_places C S ≡ true) (alike shows) h

  module _ (shuts : Shuts C marks) where
    told_shut : (p : ℕ) → is_shut marks p ≡ true → shut_out C (backing C ins outs chosen) p ≡ true
    told_shut p h = let same : lacks_only (is_in marks) p ≡ is_free (backing C ins outs chosen) p = λ i c. free_is p c i in subst (λ t. any t C ≡ true) same (shuts p h)

    left_of : (o : ℕ) (c : List ℕ) → fits C (backing C ins outs chosen) o c ≡ true → is_left marks o c ≡ true
    left_of o c fit = and_from (one_of c o) _ (and_parts (one_of c o) _ fit).0 (but_for (λ p. not (is_shut marks p)) o c ∙
        all_put (λ p. not (is_shut marks p)) (without o c) (λ p m. ap not (from_not (is_shut marks p) (λ h.
        both_ways (fits C (backing C ins outs chosen) o c) (shut_out_lem C (backing C ins outs chosen) o c (any_put (shut_out C (backing C ins outs chosen)) m (told_shut p h))) fit))))

    -- some row that is to be out has no conflict left
    pub closed_stops : (o : ℕ) → one_of outs o ≡ true → any (is_left marks o) C ≡ false → NoneBeyond C ins outs chosen
    closed_stops o out none = none_fits C ins outs chosen (backing C ins outs chosen) (λ p. refl) o out
        (from_not (any (fits C (backing C ins outs chosen) o) C) (λ h. let (c, m, fit) = any_pick (fits C (backing C ins outs chosen) o) C h in both_ways (any (is_left marks o) C) none (any_put (is_left marks o) m (left_of o c fit))))

  module _ (next : length chosen < length outs) where
    -- at first all are left
    pub all_left : Left C ins outs chosen 0
    all_left none = each_tried C ins outs chosen (backing C ins outs chosen) (λ p. refl) next (λ c inside fit. none c (omega arith) inside)

    -- one that asks for nothing more is enough
    pub free_left : (c : ℕ) → c < length C → lacks_only (is_in marks) (get_or outs (length chosen) 0) (get_or C c []) ≡ true → Left C ins outs chosen c
    free_left c inside free none = free_is_best C ins outs chosen (backing C ins outs chosen) (λ p. refl) next c inside (sym (free_is (get_or outs (length chosen) 0) (get_or C c [])) ∙ free) (none c (omega arith) inside)

    -- and after it none is left
    pub free_last : (c n : ℕ) → c < length C → lacks_only (is_in marks) (get_or outs (length chosen) 0) (get_or C c []) ≡ true → Follows C ins outs chosen c n
    free_last c n inside free bad left none = free_is_best C ins outs chosen (backing C ins outs chosen) (λ p. refl) next c inside (sym (free_is (get_or outs (length chosen) 0) (get_or C c [])) ∙ free) bad

-- after any other the next is
pub next_left : (C : List (List ℕ)) (ins outs chosen : List ℕ) (c : ℕ) → Follows C ins outs chosen c (c + 1)
next_left C ins outs chosen c bad left none = left (λ b from inside. ⊎_elim
    (λ (e : b ≡ c). subst (λ n. NoneBeyond C ins outs (chosen ++ n ∷ [])) (sym e) bad)
    (λ (ne : b ≢ c). none b (omega arith) inside)
    (cases_eq b c))

-- what is told of a test that some element fails
fails_at : {A : Type 0} (p : A → Bool) (xs : List A) → all p xs ≡ false → (x : A) × Memᴰ x xs × (p x ≡ false)
fails_at p [] h = absurd (both_ways true h refl)
fails_at p (x ∷ xs) h = ⊎_elim
    (λ (e : p x ≡ true). let (y, m, f) = fails_at p xs (subst (λ b. (b && all p xs) ≡ false) e h) in (y, Memᴰ.tail m, f))
    (λ (e : p x ≡ false). (x, Memᴰ.head refl, e))
    (cases_Bool (p x))

-- what stands in a part of a list stands in the list
pub taken : (k : ℕ) (xs : List ℕ) {x : ℕ} → Memᴰ x (take k xs) → Memᴰ x xs
taken zero xs m = elim m [ ]
taken (suc k) [] m = m
taken (suc k) (y ∷ xs) m = elim m [ Memᴰ.head e ↦ Memᴰ.head e | Memᴰ.tail n ↦ Memᴰ.tail (taken k xs n) ]

pub dropped : (k : ℕ) (xs : List ℕ) {x : ℕ} → Memᴰ x (drop k xs) → Memᴰ x xs
dropped zero xs m = m
dropped (suc k) [] m = m
dropped (suc k) (y ∷ xs) m = Memᴰ.tail (dropped k xs m)

-- after the marks are laid and settled, and no whole conflict is marked
pub go_on : (cs : List Conflict) (ins outs choices laid marks rest : List ℕ) (told : Bool) → ((x : ℕ) → Memᴰ x rest → Memᴰ x outs) → Shows (backing (lists_of cs) ins outs choices) laid → ((p : ℕ) → is_in marks p ≡ is_in laid p) → Shuts (lists_of cs) marks
    → clear_places (lists_of cs) (is_in laid) ≡ true → told ≡ all (λ out. any (λ c. is_left marks out (listed_as c).places) cs) rest
    → MatchBool told (Stand (lists_of cs) ins outs choices marks) (NoneBeyond (lists_of cs) ins outs choices)
go_on cs ins outs choices laid marks rest true part shows same shuts clear is =
    record { shows = λ p. same p ∙ shows p; shuts = shuts; clear = clear_is (lists_of cs) ins outs choices laid shows clear }
go_on cs ins outs choices laid marks rest false part shows same shuts clear is =
    let (o, m, none) = fails_at (λ out. any (λ c. is_left marks out (listed_as c).places) cs) rest (sym is) in
    closed_stops (lists_of cs) ins outs choices marks (λ p. same p ∙ shows p) shuts o (place_has (part o m)) (sym (any_lists (is_left marks o) cs) ∙ none)

-- the first to try
pub first_left : (cs : List Conflict) (ins outs chosen marks : List ℕ) (n : ℕ) → Shows (backing (lists_of cs) ins outs chosen) marks → length chosen ≡ n → n < length outs → (r : Option ℕ)
    → MatchOption r ⊤ (λ c. (c < length cs) × (lacks_only (is_in marks) (get_or outs n 0) (get_or (lists_of cs) c []) ≡ true)) → Left (lists_of cs) ins outs chosen (unwrap_or r 0)
first_left cs ins outs chosen marks n shows long next None h = all_left (lists_of cs) ins outs chosen marks shows (omega arith)
first_left cs ins outs chosen marks n shows long next (Some c) h =
    free_left (lists_of cs) ins outs chosen marks shows (omega arith) c (let lt = h.0 in omega (arith, length-map cs (λ x. (listed_as x).places)))
    (subst (λ m. lacks_only (is_in marks) (get_or outs m 0) (get_or (lists_of cs) c []) ≡ true) (sym long) h.1)

-- a row that is to be out is in no conflict
pub unbound_stops : (cs : List Conflict) (ins outs : List ℕ) → all (λ out. any (λ c. one_of (listed_as c).places out) cs) outs ≡ false → NoneWorks (lists_of cs) ins outs
unbound_stops cs ins outs h =
    let (o, m, none) = fails_at (λ out. any (λ c. one_of (listed_as c).places out) cs) outs h in
    let C = lists_of cs in
    none_fits C ins outs [] (backing C ins outs []) (λ p. refl) o (place_has m)
    (from_not (any (fits C (backing C ins outs []) o) C) (λ k.
    let (c, n, fit) = any_pick (fits C (backing C ins outs []) o) C k in
    both_ways (any (λ (d : List ℕ). one_of d o) C) (sym (any_lists (λ d. one_of d o) cs) ∙ none) (any_put (λ (d : List ℕ). one_of d o) n (and_parts (one_of c o) _ fit).0)))
