-- The language of a script's words: how a text is cut into parts, and which texts are numbers, leaves, comparisons, signs and slashes.
use Rattle.std.specs.Prelude.{ℕ, ◌+◌, ◌-◌, ◌*◌, ◌^◌, Bool, true, false, cond, not, ◌&&◌, ◌||◌, List, [], ◌∷◌, map, length, is_some, Some, None, codes, Option, ◌==◌, nat_le, nat_lt}
use Rattle.std.specs.List.{list_all}
use Rattle.std.specs.Option.{option_map}
use Rattle.words.specs.declared.separators.Separator.{Separator}
use Rattle.words.specs.declared.separators.Separator.TheVariants.{Space, Colon, Comma, Sign}

-- ---- bytes

-- the byte is one of these
abbrev pub among : List ℕ → ℕ → Bool
among [] b = false
among (c ∷ cs) b = b == c || among cs b

-- a decimal digit
abbrev pub is_digit : ℕ → Bool
is_digit b = nat_le 48 b && nat_le b 57

-- as many bytes as tests, and each passes its own
abbrev pub spelled : List (ℕ → Bool) → List ℕ → Bool
spelled [] [] = true
spelled [] (b ∷ bs) = false
spelled (p ∷ ps) [] = false
spelled (p ∷ ps) (b ∷ bs) = p b && spelled ps bs

-- each passes
abbrev pub every : {A : Type 0} → (A → Bool) → List A → Bool
every = list_all

-- ---- parts

-- a space parts the words of a line, a colon a relation from its columns, a comma the columns, and a sign the sides of a comparison
abbrev pub separates : Separator → ℕ → Bool
separates Space b = among (codes " ") b
separates Colon b = among (codes ":") b
separates Comma b = among (codes ",") b
separates Sign b = among (codes "=#<>") b

-- one more byte in front of the first part
abbrev pub longer : ℕ → List (List ℕ) → List (List ℕ)
longer b [] = (b ∷ []) ∷ []
longer b (p ∷ ps) = (b ∷ p) ∷ ps

-- the parts of a text, from left to right: each separator ends one, and the end of the text the last
unfoldable pub cut : (ℕ → Bool) → List ℕ → List (List ℕ)
cut sep [] = [] ∷ []
cut sep (b ∷ bs) = cond (sep b) ([] ∷ cut sep bs) (longer b (cut sep bs))

-- a part and its place, the offset of its first byte in the text
pub record Placed : Type 0 where
  pub text : List ℕ
  pub place : ℕ

-- parts with their places, the first at `at`: the next begins behind the separator that ends it
unfoldable pub placed : ℕ → List (List ℕ) → List Placed
placed at [] = []
placed at (p ∷ ps) = record { text = p; place = at } ∷ placed (at + length p + 1) ps

-- the parts of a text with their places
abbrev pub parts_of : Separator → List ℕ → List Placed
parts_of s text = placed 0 (cut (separates s) text)

-- parts without their places
abbrev pub texts : List Placed → List (List ℕ)
texts ps = map (λ p. p.text) ps

-- two parts, where there are exactly two
abbrev pub pair_of : List (List ℕ) → Option (List ℕ × List ℕ)
pair_of [] = None
pair_of (a ∷ []) = None
pair_of (a ∷ b ∷ []) = Some (a, b)
pair_of (a ∷ b ∷ c ∷ ps) = None

-- what stands before and behind the separator of a text that has exactly one
abbrev pub halves_of : Separator → List ℕ → Option (List ℕ × List ℕ)
halves_of s text = pair_of (cut (separates s) text)

-- there are two halves, and they pass together
abbrev pub both : (List ℕ → List ℕ → Bool) → Option (List ℕ × List ℕ) → Bool
both p None = false
both p (Some h) = p h.0 h.1

-- ---- numbers

-- the value that digits write behind n
abbrev pub value_after : ℕ → List ℕ → ℕ
value_after n [] = n
value_after n (b ∷ bs) = value_after (10 * n + (b - 48)) bs

-- the value of a number: 1 to 10 digits that write less than 2^32
unfoldable pub number_of : List ℕ → Option ℕ
number_of text =
    cond (nat_le 1 (length text) && nat_le (length text) 10 && every is_digit text && nat_lt (value_after 0 text) (2 ^ 32)) (Some (value_after 0 text)) None

abbrev pub is_number : List ℕ → Bool
is_number text = is_some (number_of text)

-- ---- leaves, as 3:_,_,7

-- a column of a leaf: open, or a number
abbrev pub is_column : List ℕ → Bool
is_column text = spelled (among (codes "_") ∷ []) text || is_number text

-- one to four columns with commas between
abbrev pub is_columns : List ℕ → Bool
is_columns text = nat_le (length (cut (separates Comma) text)) 4 && every is_column (cut (separates Comma) text)

-- a leaf: a relation and its columns around one colon
abbrev pub is_leaf : List ℕ → Bool
is_leaf text = both (λ relation columns. is_number relation && is_columns columns) (halves_of Colon text)

-- ---- comparisons, as a0.1#a1.1, a0.0<5, c0<5 and 7=7

-- a column of an atom, as a0.1
abbrev pub is_atom_column : List ℕ → Bool
is_atom_column text = spelled (among (codes "a") ∷ is_digit ∷ among (codes ".") ∷ is_digit ∷ []) text

-- a column of a line, as c0
abbrev pub is_line_column : List ℕ → Bool
is_line_column text = spelled (among (codes "c") ∷ is_digit ∷ []) text

-- a side: a column of an atom, a column of a line, or a number
abbrev pub is_side : List ℕ → Bool
is_side text = is_atom_column text || is_line_column text || is_number text

-- a column of an atom on one side, and a column of a line on the other
abbrev pub mixed : List ℕ → List ℕ → Bool
mixed a b = (is_atom_column a && is_line_column b) || (is_line_column a && is_atom_column b)

-- two sides that may be compared
abbrev pub comparable : List ℕ → List ℕ → Bool
comparable a b = is_side a && is_side b && not (mixed a b)

-- a comparison: two sides around one sign
abbrev pub is_comparison : List ℕ → Bool
is_comparison text = both comparable (halves_of Sign text)

-- ---- words

-- a sign of a plan
abbrev pub is_plan_sign : List ℕ → Bool
is_plan_sign text = spelled (among (codes "*+-") ∷ []) text

-- the slash
abbrev pub is_slash : List ℕ → Bool
is_slash text = spelled (among (codes "/") ∷ []) text

-- what a word is, with its bytes
pub data Form : Type 0 where
  number : List ℕ → Form
  leaf : List ℕ → Form
  comparison : List ℕ → Form
  sign : List ℕ → Form
  slash : Form

-- the form of a text, if it has one
abbrev pub form_of : List ℕ → Option Form
form_of text =
    cond (is_number text) (Some (number text)) (cond (is_leaf text) (Some (leaf text)) (cond (is_comparison text) (Some (comparison text)) (cond (is_plan_sign text) (Some (sign text)) (cond (is_slash text) (Some slash) None))))

-- a word: a form and the place of its first byte
pub record Formed : Type 0 where
  pub form : Form
  pub place : ℕ

-- the word that a part is, if it has a form
unfoldable pub word_of : Placed → Option Formed
word_of p = option_map (λ f. record { form = f; place = p.place }) (form_of p.text)
