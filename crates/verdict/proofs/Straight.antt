-- One more choice that stands, and when there is one for each row.
use Rattle.std.proofs.Common.{◌≡◌, ℕ, ◌+◌, ◌-◌, ◌<◌, true, List, [], ◌∷◌, ◌++◌, length, get_or, ap, ◌∙◌, subst, arith}
use Rattle.std.proofs.lemmas.List.{length-append}
use Rattle.std.proofs.Math.Seq.{get_or-append_seam}
use Rattle.cores.specs.Backing.{one_of, Real}
use Rattle.cores.proofs.Chosen.{push_real}
use Rattle.verdict.specs.Trying.{Stand, Admits, Chosen, Found}

pub one_longer : (chosen : List ℕ) (c : ℕ) → length (chosen ++ c ∷ []) ≡ length chosen + 1
one_longer chosen c = length-append chosen (c ∷ [])

pub none_chosen : (C : List (List ℕ)) (ins outs marks : List ℕ) → Stand C ins outs [] marks → Chosen C ins outs [] marks
none_chosen C ins outs marks stand = record {
  real = λ k lt. absurd (omega (arith, lt));
  stand = stand;
}

pub chosen_more : (C : List (List ℕ)) (ins outs chosen marks : List ℕ) (c : ℕ) → Real C outs chosen → c < length C
    → Admits C ins outs (chosen ++ c ∷ []) marks → Chosen C ins outs (chosen ++ c ∷ []) marks
chosen_more C ins outs chosen marks c real lt admits = record {
  real = push_real C outs chosen c real lt has;
  stand = admits.stand;
}
  where
    at : length (chosen ++ c ∷ []) - 1 ≡ length chosen
    at = omega (arith, one_longer chosen c)

    has : one_of (get_or C c []) (get_or outs (length chosen) 0) ≡ true
    has = subst (λ k. one_of (get_or C c []) (get_or outs k 0) ≡ true) at
        (subst (λ x. one_of (get_or C x []) (get_or outs (length (chosen ++ c ∷ []) - 1) 0) ≡ true)
        (ap (λ k. get_or (chosen ++ c ∷ []) k 0) at ∙ get_or-append_seam chosen c [] 0) admits.has)

pub all_chosen : (C : List (List ℕ)) (ins outs chosen marks : List ℕ) → length chosen ≡ length outs → Chosen C ins outs chosen marks → Found C ins outs marks
all_chosen C ins outs chosen marks full h = record {
  choices = chosen;
  works = record { long = full; real = h.real; stands = h.stand.clear };
  shows = h.stand.shows;
}
