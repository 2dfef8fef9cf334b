-- What a question to each thing of a list comes to, from a look for the first thing that fails it.
use Rattle.std.proofs.Common.{◌≡◌, ℕ, suc, ◌+◌, ◌<◌, Bool, true, false, not, List, [], ◌∷◌, length, get_or, cond, ◌&&◌, Some, None, Option, Ok, Err, Result, refl, ap, ap₂, ◌∙◌, arith}
use denote.Param.Members.{Mut}
use Rattle.std.proofs.lemmas.Iterator.{YieldsList, IsFirst-from_position}
use Rattle.std.proofs.lemmas.List.{get_or_default}
use Rattle.std.proofs.lemmas.List.Folds.{list_all_at}
use Rattle.std.proofs.lemmas.List.Sums.{prefix_len_is, list_all-from_AllPass}
use Rattle.std.specs.Fn.{Called}
use Rattle.std.specs.Iterator.{YieldsThen}
use Rattle.std.specs.List.{AllWithin, FoldsTo, HoldsAt, prefix_len}
use Rattle.store.specs.Lists.{all}
use Rattle.std.specs.Option.{MatchOption}
use Rattle.std.specs.Result.{result_err}
use Rattle.fault.specs.Questions.{ask}
use Rattle.page.specs.Checks.{ask_each}
use Rattle.page.specs.declared.refusal.Refusal.{Refusal}

-- the refusal at the place that was found, or else what the rest of the questions says
abbrev pub said : (ℕ → Refusal) → Option Refusal → Option ℕ → Option Refusal
said refusal rest None = rest
said refusal rest (Some place) = Some (refusal place)

-- what is told of a question, and of the rest of the questions where it refuses nothing
abbrev pub then_told : Option Refusal → Option Refusal → Option Refusal
then_told (Some e) rest = Some e
then_told None rest = rest

-- where `map_or` makes a refusal of the place that was found
pub told_by_map_or : (refusal : ℕ → Refusal) (rest : Option Refusal) (r : Option ℕ) (m : Result (Unit {0}) Refusal) {P : ℕ → Type 0}
    → MatchOption r (m ≡ Ok tt) P → ((i : ℕ) → P i → m ≡ Err (refusal i)) → said refusal rest r ≡ then_told (result_err m) rest
told_by_map_or refusal rest None m is made = rw is
told_by_map_or refusal rest (Some i) m is made = rw (made i is)

-- a question that refuses nothing leaves the rest, one that refuses ends them, and after the last there is no rest
module _ (m : Result (Unit {0}) Refusal) (all rest : Option Refusal) (told : all ≡ then_told (result_err m) rest) where
  pub went_on : (x : Unit {0}) → m ≡ Ok x → all ≡ rest
  went_on x was = told ∙ ap (λ (r : Result (Unit {0}) Refusal). then_told (result_err r) rest) was

  pub ended : (e : Refusal) → m ≡ Err e → all ≡ Some e
  ended e was = told ∙ ap (λ (r : Result (Unit {0}) Refusal). then_told (result_err r) rest) was

pub told_last : (last : Option Refusal) → then_told last None ≡ last
told_last None = refl
told_last (Some e) = refl

failed : (b : Bool) → true ≡ not b → b ≡ false
failed true e = e
failed false e = refl

passed : (b : Bool) → false ≡ not b → b ≡ true
passed true e = refl
passed false e = e

module _ {A : Type 0} (test : A → Bool) (d : A) (xs : List A) (refusal : ℕ → Refusal) (rest : Option Refusal) where
  asked : (r : Option ℕ)
      → MatchOption r (AllWithin (λ x. test x ≡ true) xs 0 (length xs)) (λ i. (i < length xs) × HoldsAt (λ x. test x ≡ false) xs i × AllWithin (λ x. test x ≡ true) xs 0 i)
      → ask_each test xs refusal rest ≡ said refusal rest r
  asked None all = rw (list_all-from_AllPass test xs (λ k e inside. all k e (omega arith) inside))
  asked (Some i) (inside, fails, before) =
      let some = list_all_at test xs i d inside (fails d) in
      let place = prefix_len_is test xs i d (omega arith) (λ k h. before k d (omega arith) h) (λ h. fails d) in
      rw (some, place)

  -- where `position` looked for the first thing that fails
  pub asked_by_position : {S T F : Type 0} {steps : S → Option T → S → Type 0} {v : T → A} {g : Mut F (T × Unit {0}) Bool} {s : S} {f : F} (u : S) (r : Option ℕ)
      → (ys : List T) × (o : Option T) × (j : F) × YieldsThen steps s ys o u × FoldsTo (λ p x q. Called g p (x, tt) false q) f ys j × MatchOption o (r ≡ None) (λ x. (r ≡ Some (length ys)) × ((h : F) × Called g j (x, tt) true h))
      → YieldsList steps v s xs → ((x : T) (b : Bool) (q : F) → Called g f (x, tt) b q → (q ≡ f) × (b ≡ not (test (v x)))) → ask_each test xs refusal rest ≡ said refusal rest r
  asked_by_position {v = v} {f = f} u r ran road is = asked r (IsFirst-from_position u f r (λ x. test x ≡ false) (λ x. test x ≡ true) ran road
      (λ x q k. failed (test (v x)) (is x true q k).1) (λ x q k. ((is x false q k).0, passed (test (v x)) (is x false q k).1)))

  -- where each thing passes, the rest of the questions decides
  pub each_passed : ((k : ℕ) → k < length xs → test (get_or xs k d) ≡ true) → ask_each test xs refusal rest ≡ rest
  each_passed all = asked None (λ k e low inside. ap test (get_or_default xs k e d inside) ∙ all k inside)

-- two lists whose things pass alike are asked alike
module _ {A B : Type 0} (test : A → Bool) (other : B → Bool) (d : A) (e : B) where
  abbrev Alike : List A → List B → Type 0
  Alike xs ys = (length xs ≡ length ys) × ((k : ℕ) → k < length xs → test (get_or xs k d) ≡ other (get_or ys k e))

  both : (xs : List A) (ys : List B) → Alike xs ys → (all test xs ≡ all other ys) × (prefix_len test xs ≡ prefix_len other ys)
  both [] [] alike = (refl, refl)
  both [] (y ∷ ys) alike = absurd (omega (arith, alike.0))
  both (x ∷ xs) [] alike = absurd (omega (arith, alike.0))
  both (x ∷ xs) (y ∷ ys) alike =
      let here = alike.1 0 (omega arith) in
      let (a, p) = both xs ys (omega (arith, alike.0), λ k h. alike.1 (suc k) (omega arith)) in
      (ap₂ ◌&&◌ here a, ap₂ (λ (b : Bool) (n : ℕ). cond b (1 + n) 0) here p)

  pub asked_alike : (xs : List A) (ys : List B) (refusal : ℕ → Refusal) (rest : Option Refusal) → Alike xs ys → ask_each test xs refusal rest ≡ ask_each other ys refusal rest
  asked_alike xs ys refusal rest alike = let (a, p) = both xs ys alike in ap₂ (λ (b : Bool) (n : ℕ). ask b (refusal n) rest) a p
