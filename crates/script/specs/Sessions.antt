-- A session: bytes come in, and at the end of each line something is said.
use Rattle.std.specs.Prelude.{◌≡◌, ℕ, List, [], ◌∷◌, ◌++◌, take, Some, None, Option, ◌≢◌}
use Rattle.script.specs.Counters.{TellSays}
use Rattle.script.specs.Gathering.{gathered}
use Rattle.commands.specs.Lines.{line_refusal}
use Rattle.script.specs.declared.reply.Said.{Said}
use Rattle.script.specs.declared.session.Session.{Session}

-- the line that the session gathered is told to the counter, and the next line begins
pub record Tells (before after : Session) (said : Said) : Type 0 where
  pub told : TellSays before.counter after.counter (gathered before.pending) said
  pub next : gathered after.pending ≡ []

-- one byte: a newline (10) ends the line; any other is one more byte of it, and nothing is said
abbrev pub HearSays : Session → Session → ℕ → Option Said → Type 0
HearSays before after byte None = (byte ≢ 10) × (after.counter ≡ before.counter) × (gathered after.pending ≡ take 201 (gathered before.pending ++ (byte ∷ [])))
HearSays before after byte (Some said) = (byte ≡ 10) × Tells before after said

-- the end of the input ends a line that has bytes; where it has none, nothing is said and nothing changes
abbrev pub EndSays : Session → Session → Option Said → Type 0
EndSays before after None = (gathered before.pending ≡ []) × (after ≡ before)
EndSays before after (Some said) = (gathered before.pending ≢ []) × Tells before after said

-- of a line only the first 201 bytes are gathered: it meets the same refusal, and a line that meets none is gathered whole
abbrev pub ByFirstBytes : Type 0
ByFirstBytes = (line : List ℕ) → (line_refusal (take 201 line) ≡ line_refusal line) × (line_refusal line ≡ None → take 201 line ≡ line)
