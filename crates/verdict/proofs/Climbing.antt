-- The stack of choices: what is left to try at each, and why it comes to an end.
use Rattle.std.proofs.Common.{◌≡◌, ℕ, zero, suc, ◌+◌, ◌-◌, ◌*◌, ◌^◌, ◌<◌, ◌≤◌, true, List, [], ◌∷◌, ◌++◌, length, get_or, take, set, sym, ap, ◌∙◌, subst, ⊎_elim, ◌≢◌, arith, append_assoc, length-set, length-take-le, get_or-set_same, get_or-set_other}
use Rattle.std.proofs.lemmas.Bool.{cases_eq}
use Rattle.std.proofs.lemmas.List.{take_more, take-set-le, get_or-take, append-nil, take-take}
use Rattle.std.proofs.Math.Nat.{mul-le-mul_right, add-mul, pow-suc, pow-zero, mul_comm, one-mul}
use Rattle.cores.specs.Backing.{one_of, Real, NoneWorks}
use Rattle.cores.specs.Searching.{NoneBeyond}
use Rattle.cores.proofs.Chosen.{push_real}
use Rattle.verdict.specs.Trying.{Left, Follows, Admits, Found, Numbers}

-- how much is left to try: p is the front with the choice that is tried, for s rows
abbrev pub work : ℕ → ℕ → List ℕ → ℕ
work n s [] = (n + 2) ^ s
work n zero (c ∷ p) = 0
work n (suc s) (c ∷ p) = (n - c) * (n + 2) ^ s + work n s p

module _ (n : ℕ) where
  some : (s : ℕ) → 0 < (n + 2) ^ s
  some zero = rw (pow-zero (n + 2)) (omega arith)
  some (suc s) = let ih = some s in let m = mul-le-mul_right (n + 2) ih in rw (pow-suc (n + 2) s) (omega (arith, one-mul (n + 2)))

  behind : (q t u : List ℕ) (m s : ℕ) → m ≡ length q + s → work n s t < work n s u → work n m (q ++ t) < work n m (q ++ u)
  behind [] t u m s e h = let k : s ≡ m = omega arith in subst (λ x. work n x t < work n x u) k h
  behind (c ∷ q) t u zero s e h = absurd (omega arith)
  behind (c ∷ q) t u (suc m) s e h = let ih = behind q t u m s (omega arith) h in omega arith

  -- one of the choices is left out
  fewer : (a b w : ℕ) → a < b → 0 < w → a * w + w ≤ b * w
  fewer a b w lt pos = let m = mul-le-mul_right w lt in omega (arith, add-mul a 1 w, one-mul w)

  work_next : (s c v : ℕ) → c < n → c < v → work n (suc s) (v ∷ []) < work n (suc s) (c ∷ [])
  work_next s c v lt more = let x = some s in let f = fewer (n - v) (n - c) ((n + 2) ^ s) (omega arith) x in omega arith

  work_down : (s v : ℕ) → work n (suc s) (v ∷ []) < work n (suc s) []
  work_down s v =
      let x = some s in
      let m = mul-le-mul_right ((n + 2) ^ s) (let k : n - v ≤ n = omega arith in k) in
      rw (pow-suc (n + 2) s, mul_comm ((n + 2) ^ s) (n + 2), add-mul n 2 ((n + 2) ^ s)) (omega arith)

  work_back : (s b a v : ℕ) → b < n → b < v → work n (suc (suc s)) (v ∷ []) < work n (suc (suc s)) (b ∷ a ∷ [])
  work_back s b a v lt more = let y = some s in let x = some (suc s) in let f = fewer (n - v) (n - b) ((n + 2) ^ suc s) (omega arith) x in omega arith

-- the stack: d choices stand, and at each depth up to d, where a conflict is chosen or tried, what comes before it is done with
pub record Stack (C : List (List ℕ)) (ins outs xs : List ℕ) (d : ℕ) : Type 0 where
  pub size : length xs ≡ 6
  pub few : length outs ≤ 6
  pub deep : d < length outs
  pub real : Real C outs (take d xs)
  pub left : (k : ℕ) → k ≤ d → Left C ins outs (take k xs) (get_or xs k 0)

-- one more number below n
pub push_numbers : (n : ℕ) (q : List ℕ) (c : ℕ) → Numbers n q → c < n → Numbers n (q ++ c ∷ [])
push_numbers n [] c all lt zero h = lt
push_numbers n [] c all lt (suc j) h = absurd (omega arith)
push_numbers n (x ∷ q) c all lt zero h = all 0 (omega arith)
push_numbers n (x ∷ q) c all lt (suc j) h = push_numbers n q c (λ i g. all (suc i) (omega arith)) lt j (omega arith)

abbrev pub cost : ℕ → ℕ → List ℕ → ℕ → ℕ
cost n s xs d = work n s (take d xs ++ get_or xs d 0 ∷ [])

module _ (C : List (List ℕ)) (ins outs xs : List ℕ) (d : ℕ) (st : Stack C ins outs xs d) where
  pub front : take (d + 1) xs ≡ take d xs ++ get_or xs d 0 ∷ []
  front = let a = st.size in let b = st.few in let e = st.deep in take_more xs d 0 (omega arith)

  long : length (take d xs) ≡ d
  long = let a = st.size in let b = st.few in let e = st.deep in length-take-le d xs (omega arith)

  pub long_front : length (take (d + 1) xs) ≡ d + 1
  long_front = let a = st.size in let b = st.few in let e = st.deep in length-take-le (d + 1) xs (omega arith)

  pub numbers : get_or xs d 0 < length C → Numbers (length C) (take (d + 1) xs)
  numbers lt k h = subst (λ t. get_or t k 0 < length C) (sym front) (push_numbers (length C) (take d xs) (get_or xs d 0) (λ j g. (st.real j g).0) lt k (let e = long_front in let f = ap length front in omega arith))

  -- another choice at this depth
  module _ (v : ℕ) (kept : Left C ins outs (take d xs) v) where
    at_set : get_or (set xs d v) d 0 ≡ v
    at_set = let a = st.size in let b = st.few in let e = st.deep in get_or-set_same xs d v 0 (omega arith)

    pub go_next : Stack C ins outs (set xs d v) d
    go_next = record {
      size = length-set xs d v ∙ st.size;
      few = st.few;
      deep = st.deep;
      real = subst (Real C outs) (sym (take-set-le d xs d v (omega arith))) st.real;
      left = λ k h. ⊎_elim
          (λ (e : k ≡ d). rw (e, take-set-le d xs d v (let z : d ≤ d = omega arith in z), at_set) kept)
          (λ (ne : k ≢ d). rw (take-set-le k xs d v h, get_or-set_other xs d k v 0 ne) (st.left k h))
          (cases_eq k d);
    }

    pub fall_next : get_or xs d 0 < length C → get_or xs d 0 < v → cost (length C) (length outs) (set xs d v) d < cost (length C) (length outs) xs d
    fall_next lt more =
        let e = st.deep in
        let m : length outs ≡ length (take d xs) + suc (length outs - 1 - d) = omega (arith, long) in
        rw (take-set-le d xs d v (let z : d ≤ d = omega arith in z), at_set) (behind (length C) (take d xs) (v ∷ []) (get_or xs d 0 ∷ []) (length outs) (suc (length outs - 1 - d)) m (work_next (length C) (length outs - 1 - d) (get_or xs d 0) v lt more))

  -- the choice at this depth stands
  module _ (lt : get_or xs d 0 < length C) (marks : List ℕ) (admits : Admits C ins outs (take (d + 1) xs) marks) where
    real_front : Real C outs (take (d + 1) xs)
    real_front = subst (Real C outs) (sym front) (push_real C outs (take d xs) (get_or xs d 0) st.real lt has)
      where
        last : get_or (take (d + 1) xs) (length (take (d + 1) xs) - 1) 0 ≡ get_or xs d 0
        last = let k : length (take (d + 1) xs) - 1 ≡ d = omega (arith, long_front) in ap (λ n. get_or (take (d + 1) xs) n 0) k ∙ get_or-take (d + 1) xs d 0 (omega arith)

        has : one_of (get_or C (get_or xs d 0) []) (get_or outs (length (take d xs)) 0) ≡ true
        has =
            let k : length (take (d + 1) xs) - 1 ≡ length (take d xs) = omega (arith, long_front, long) in
            subst (λ n. one_of (get_or C (get_or xs d 0) []) (get_or outs n 0) ≡ true) k (subst (λ c. one_of (get_or C c []) (get_or outs (length (take (d + 1) xs) - 1) 0) ≡ true) last admits.has)

    pub whole : d + 1 ≡ length outs → Found C ins outs marks
    whole full = record {
      choices = take (d + 1) xs;
      works = record { long = long_front ∙ full; real = real_front; stands = admits.stand.clear };
      shows = admits.stand.shows;
    }

    module _ (room : d + 1 < length outs) (v : ℕ) (kept : Left C ins outs (take (d + 1) xs) v) where
      take_down : take (d + 1) (set xs (d + 1) v) ≡ take (d + 1) xs
      take_down = take-set-le (d + 1) xs (d + 1) v (omega arith)

      at_down : get_or (set xs (d + 1) v) (d + 1) 0 ≡ v
      at_down = let a = st.size in let b = st.few in get_or-set_same xs (d + 1) v 0 (omega arith)

      pub go_down : Stack C ins outs (set xs (d + 1) v) (d + 1)
      go_down = record {
        size = length-set xs (d + 1) v ∙ st.size;
        few = st.few;
        deep = room;
        real = subst (Real C outs) (sym take_down) real_front;
        left = λ k h. ⊎_elim
            (λ (e : k ≡ d + 1). rw (e, take_down, at_down) kept)
            (λ (ne : k ≢ d + 1). rw (take-set-le k xs (d + 1) v h, get_or-set_other xs (d + 1) k v 0 ne) (st.left k (omega arith)))
            (cases_eq k (d + 1));
      }

      pub fall_down : cost (length C) (length outs) (set xs (d + 1) v) (d + 1) < cost (length C) (length outs) xs d
      fall_down =
          let m : length outs ≡ length (take (d + 1) xs) + suc (length outs - 2 - d) = omega (arith, long_front) in
          let e : take (d + 1) xs ++ [] ≡ take d xs ++ get_or xs d 0 ∷ [] = append-nil (take (d + 1) xs) ∙ front in
          rw (take_down, at_down) (subst (λ t. work (length C) (length outs) (take (d + 1) xs ++ v ∷ []) < work (length C) (length outs) t) e (behind (length C) (take (d + 1) xs) (v ∷ []) [] (length outs) (suc (length outs - 2 - d)) m (work_down (length C) (length outs - 2 - d) v)))

  -- nothing is left to try at this depth
  module _ (spent : length C ≤ get_or xs d 0) where
    pub beyond : NoneBeyond C ins outs (take d xs)
    beyond = st.left d (omega arith) (λ c from inside. absurd (omega arith))

    pub none : d ≡ 0 → NoneWorks C ins outs
    none e = subst (λ k. NoneBeyond C ins outs (take k xs)) e beyond

    -- so the choice before is done with
    module _ (e : ℕ) (up : d ≡ e + 1) where
      in-xs : e < length xs
      in-xs = let a = st.size in let b = st.few in let f = st.deep in omega arith

      below : take d xs ≡ take e xs ++ get_or xs e 0 ∷ []
      below = ap (λ k. take k xs) up ∙ take_more xs e 0 in-xs

      chosen : get_or xs e 0 < length C
      chosen = subst (λ c. c < length C) (get_or-take d xs e 0 (omega arith)) (st.real e (omega (arith, long))).0

      pub lower : Stack C ins outs xs e
      lower = record {
        size = st.size;
        few = st.few;
        deep = let f = st.deep in omega arith;
        real = λ k h.
            let l : length (take e xs) ≡ e = length-take-le e xs (omega arith) in
            subst (λ c. (c < length C) × (one_of (get_or C c []) (get_or outs k 0) ≡ true)) (get_or-take d xs k 0 (omega arith) ∙ sym (get_or-take e xs k 0 (omega arith))) (st.real k (omega (arith, long)));
        left = λ k h. st.left k (omega arith);
      }

      pub back_left : (v : ℕ) → Follows C ins outs (take e xs) (get_or xs e 0) v → Left C ins outs (take e xs) v
      back_left v follows = follows (subst (NoneBeyond C ins outs) below beyond) (st.left e (omega arith))

      pub fall_back : (v : ℕ) → get_or xs e 0 < v → cost (length C) (length outs) (set xs e v) e < cost (length C) (length outs) xs d
      fall_back v more =
          let f = st.deep in
          let l : length (take e xs) ≡ e = length-take-le e xs (omega (arith, in-xs)) in
          let m : length outs ≡ length (take e xs) + suc (suc (length outs - 1 - d)) = omega (arith, l) in
          let both : take d xs ++ get_or xs d 0 ∷ [] ≡ take e xs ++ get_or xs e 0 ∷ get_or xs d 0 ∷ [] = ap (λ t. t ++ get_or xs d 0 ∷ []) below ∙ append_assoc (take e xs) (get_or xs e 0 ∷ []) (get_or xs d 0 ∷ []) in
          rw (take-set-le e xs e v (let z : e ≤ e = omega arith in z), get_or-set_same xs e v 0 in-xs, both)
          (behind (length C) (take e xs) (v ∷ []) (get_or xs e 0 ∷ get_or xs d 0 ∷ []) (length outs) (suc (suc (length outs - 1 - d))) m (work_back (length C) (length outs - 1 - d) (get_or xs e 0) (get_or xs d 0) v chosen more))

-- the last choice of a front, and those before it
module _ (xs : List ℕ) (e : ℕ) (inside : e < length xs) where
  back_one : length (take (e + 1) xs) - 1 ≡ e
  back_one = let l = length-take-le (e + 1) xs (omega arith) in omega arith

  pub before_last : take (length (take (e + 1) xs) - 1) (take (e + 1) xs) ≡ take e xs
  before_last = ap (λ n. take n (take (e + 1) xs)) back_one ∙ take-take e (e + 1) xs (omega arith)

  pub at_last_one : get_or (take (e + 1) xs) (length (take (e + 1) xs) - 1) 0 ≡ get_or xs e 0
  at_last_one = ap (λ n. get_or (take (e + 1) xs) n 0) back_one ∙ get_or-take (e + 1) xs e 0 (omega arith)

  pub follows_last : (C : List (List ℕ)) (ins outs : List ℕ) (v : ℕ) → Follows C ins outs (take (length (take (e + 1) xs) - 1) (take (e + 1) xs)) (get_or (take (e + 1) xs) (length (take (e + 1) xs) - 1) 0) v
      → Follows C ins outs (take e xs) (get_or xs e 0) v
  follows_last C ins outs v h = subst (λ t. Follows C ins outs t (get_or xs e 0) v) before_last (subst (λ n. Follows C ins outs (take (length (take (e + 1) xs) - 1) (take (e + 1) xs)) n v) at_last_one h)

pub le_after : (a b c : ℕ) → a < b → b ≤ c → a ≤ c
le_after a b c h k = omega arith

pub lt_after : (a b c : ℕ) → a < b → b ≤ c → a < c
lt_after a b c h k = omega arith
