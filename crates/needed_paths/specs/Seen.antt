-- What the program's values stand for.
use Rattle.needed_paths.specs.declared.needs.Needs as code
use Rattle.needed_paths.specs.Needs.{Needs}

abbrev pub needs_of : code.Needs → Needs
needs_of n = record { each = n.each.items; wanted = n.wanted.items }
