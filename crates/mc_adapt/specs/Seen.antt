-- What the marked pieces of the program, and what it gives, stand for.
use Rattle.std.specs.Prelude.{ℕ, List, map, Result, Ok, Err}
use Rattle.adapt_tokens.specs.Seen.{part_of}
use Rattle.mc_adapt.specs.declared.marking.Marked.{Marked}
use Rattle.mc_adapt.specs.declared.adapted.Adapted.{Adapted}
use Rattle.mc_adapt.specs.declared.adapted.Adapted.TheVariants.{Text, Refused}
use Rattle.mc_adapt.specs.Marks.{Marking}
use Rattle.mc_adapt.specs.Outside.{Refusal, refusals_of}

abbrev pub marking_of : Marked → Marking
marking_of m = record { part = part_of m.piece; sort = m.sort; mark = m.mark }

abbrev pub markings_of : List Marked → List Marking
markings_of ms = map marking_of ms

-- the text, or all that is outside the language
abbrev pub seen_adapted : Adapted → Result (List ℕ) (List Refusal)
seen_adapted (Text text) = Ok text.items
seen_adapted (Refused faults) = Err (refusals_of faults.items)
