-- A record to which a row's columns are written one by one.
use Rattle.std.proofs.Common.{◌≡◌, ℕ, ◌+◌, ◌*◌, ◌-◌, ◌<◌, List, [], ◌∷◌, ◌++◌, length, get_or, take, drop, replicate, sym, refl, ap, ap₂, ◌∙◌, arith}
use Rattle.std.proofs.lemmas.List.{append_assoc, append-nil, take_all, take_more, take_at, drop_at, drop-replicate, flat_map_more, length-append, length-take}
use Rattle.std.specs.List.{flat_map}
use Rattle.page.specs.Records.{in_four}

pub length_columns : (xs : List ℕ) → length (flat_map in_four xs) ≡ 4 * length xs
length_columns [] = refl
length_columns (x ∷ xs) = omega (arith, length_columns xs)

-- the record with the first i columns in it, after a front of four bytes
abbrev pub so_far : List ℕ → List ℕ → ℕ → List ℕ
so_far front columns i = front ++ (flat_map in_four (take i columns) ++ replicate (16 - 4 * i) 0)

pub column_more : (front columns bytes : List ℕ) (i d : ℕ) → length front ≡ 4 → i < length columns → bytes ≡ so_far front columns i
    → take (4 + 4 * i) bytes ++ (in_four (get_or columns i d) ++ drop 4 (drop (4 + 4 * i) bytes)) ≡ so_far front columns (i + 1)
column_more front columns bytes i d long inside is =
    let laid = flat_map in_four (take i columns) in
    let count : length (front ++ laid) ≡ 4 + 4 * i = omega (arith, length-append front laid, length_columns (take i columns), length-take i columns) in
    let split : bytes ≡ (front ++ laid) ++ replicate (16 - 4 * i) 0 = is ∙ sym (append_assoc front laid (replicate (16 - 4 * i) 0)) in
    let left : ℕ → List ℕ = λ n. replicate n 0 in
    let before : take (4 + 4 * i) bytes ≡ front ++ laid = ap (take (4 + 4 * i)) split ∙ take_at (front ++ laid) (left (16 - 4 * i)) (4 + 4 * i) count in
    let rest : drop 4 (drop (4 + 4 * i) bytes) ≡ left (16 - 4 * (i + 1)) =
    ap (λ (bs : List ℕ). drop 4 (drop (4 + 4 * i) bs)) split ∙ ap (drop 4) (drop_at (front ++ laid) (left (16 - 4 * i)) (4 + 4 * i) count)
    ∙ drop-replicate 4 (16 - 4 * i) 0 ∙ ap left (omega arith) in
    let next = flat_map in_four (take (i + 1) columns) in
    let more : (front ++ laid) ++ in_four (get_or columns i d) ≡ front ++ next =
    flat_map_more in_four front (take i columns) (get_or columns i d) ∙ ap (λ (xs : List ℕ). front ++ flat_map in_four xs) (sym (take_more columns i d inside)) in
    ap₂ (λ (xs ys : List ℕ). xs ++ (in_four (get_or columns i d) ++ ys)) before rest
    ∙ sym (append_assoc (front ++ laid) (in_four (get_or columns i d)) (left (16 - 4 * (i + 1))))
    ∙ ap (λ (xs : List ℕ). xs ++ left (16 - 4 * (i + 1))) more ∙ append_assoc front next (left (16 - 4 * (i + 1)))

pub columns_done : (front columns : List ℕ) (i : ℕ) → length columns ≡ 4 → i ≡ 4 → so_far front columns i ≡ front ++ flat_map in_four columns
columns_done front columns i count end =
    ap (so_far front columns) end ∙ ap (λ (xs : List ℕ). front ++ (flat_map in_four xs ++ [])) (take_all 4 columns (omega arith)) ∙ ap (λ (xs : List ℕ). front ++ xs) (append-nil (flat_map in_four columns))
