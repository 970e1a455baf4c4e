-- Laws of what is read.
use Rattle.std.specs.Prelude.{ℕ, List}
use Rattle.reread_program.specs.Reading.{Reads}
use Rattle.reread_program.specs.Returned.{IsOne}

-- a text is read as at most one tree, or refused with one fault
abbrev pub ReadsAsOne : Type 0
ReadsAsOne = (text : List ℕ) → IsOne (Reads text)
