-- What is seen of lines and of the iterators.
use Rattle.std.specs.Prelude.{ℕ, List}
use Rattle.mc_list.specs.declared.line.Line.{Line}
use Rattle.mc_list.specs.declared.line.Lines.{Lines}
use Rattle.mc_list.specs.declared.margins.Strip.{Strip}
use Rattle.mc_list.specs.Lines.{Placed, lines_of, placed_from, stripped}

abbrev pub placed_of : Line → Placed
placed_of l = record { number = l.number; start = l.start; bytes = l.bytes.now }

-- the lines that an iterator has left
abbrev pub lines_left : Lines → List Placed
lines_left s = placed_from s.number s.start (lines_of s.left.now)

-- the lines without margins that an iterator has left
abbrev pub strips_left : Strip → List (List ℕ)
strips_left s = stripped s.left.now
