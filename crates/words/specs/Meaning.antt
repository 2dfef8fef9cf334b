-- What the code's values stand for in the language, and what the calls on them do.
use Rattle.std.specs.Prelude.{◌≡◌, ℕ, ◌<◌, Bool, true, false, List, [], length, Some, None, Option, slice_index}
use Rattle.std.specs.Option.{option_map, unwrap_or}
use Rattle.words.specs.declared.parts.Part.{Part}
use Rattle.words.specs.declared.parts.Parts.{Parts}
use Rattle.words.specs.declared.tokens.Token.{Token}
use Rattle.words.specs.declared.tokens.Token.TheVariants.{Number, Leaf, Comparison, Sign, Slash}
use Rattle.words.specs.declared.tokens.Word.{Word}
use Rattle.words.specs.Language.{separates, cut, Placed, placed, Form, number, leaf, comparison, sign, slash, Formed}

-- none of the first n bytes is a separator
abbrev pub Free : (ℕ → Bool) → List ℕ → ℕ → Type 0
Free sep text n = (k : ℕ) → k < n → sep (slice_index text k) ≡ false

-- where the first separator stands, if there is one
abbrev pub First : (ℕ → Bool) → List ℕ → Option ℕ → Type 0
First sep text None = Free sep text (length text)
First sep text (Some i) = (i < length text) × (sep (slice_index text i) ≡ true) × Free sep text i

-- a part, without its reference
abbrev pub shown : Part → Placed
shown p = record { text = p.text.now; place = p.place }

-- the parts that an iterator has yet to hand out
unfoldable pub to_come : Parts → List Placed
to_come p = unwrap_or (option_map (λ text. placed p.place (cut (separates p.separator) text.now)) p.rest) []

-- a token, without its reference
abbrev pub seen : Token → Form
seen (Number t) = number t.now
seen (Leaf t) = leaf t.now
seen (Comparison t) = comparison t.now
seen (Sign t) = sign t.now
seen Slash = slash

-- a word, without its reference
abbrev pub read : Word → Formed
read w = record { form = seen w.token; place = w.place }
