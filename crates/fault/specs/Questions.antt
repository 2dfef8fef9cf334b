-- How a call puts its questions: in order, and the first that is answered No refuses the call.
use Rattle.std.specs.Prelude.{Bool, cond, Some, Option}

-- the refusal that a No to this question brings; after a Yes the rest of the questions decides, and `None` refuses nothing
abbrev pub ask : {E : Type 0} → Bool → E → Option E → Option E
ask answer refusal rest = cond answer rest (Some refusal)
