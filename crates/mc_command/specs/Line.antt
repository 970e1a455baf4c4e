-- The matches of a line of words.
use Rattle.std.specs.Prelude.{List, [], ◌∷◌, Option, None, drop, map}
use Rattle.std.specs.Borrow.{Bor}
use Rattle.clap.specs.Walk.{Row, Text}
use Rattle.clap.specs.Simple.{subcommand_of}
use Rattle.clap.specs.Kinds.{Kinds}
use Rattle.clap.specs.Faults.{fault_of}
use Rattle.mc_command.specs.Usage.{line_app}

-- the words of a line
abbrev pub line_of : List (Bor Text) → List Text
line_of line = map (λ word. word.now) line

-- its words after the first, which stands for the program's own name
abbrev pub words_of : List (Bor Text) → List Text
words_of line = drop 1 (line_of line)

abbrev pub without_fault : {A : Type 0} → Kinds → Option A → Option A
without_fault [] found = found
without_fault (kind ∷ kinds) found = None

-- The subcommand that the line names, with the values of its files and options, as `clap` states
-- them. There is none where `clap` states a fault.
abbrev pub matches_on : List Text → Option (Text × List Row)
matches_on line = without_fault (fault_of line_app line) (subcommand_of line_app line)
