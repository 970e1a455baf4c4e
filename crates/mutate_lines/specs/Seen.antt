-- What is seen of the lines that tell of changes.
use Rattle.mutate_lines.specs.Lines.{Told}
use Rattle.mutate_lines.specs.declared.change.ChangeLine.{ChangeLine}

abbrev pub told_of : ChangeLine → Told
told_of c = record { line = c.place.line; column = c.place.column; kind = c.kind.now }
