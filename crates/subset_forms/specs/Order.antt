-- Which of the nodes outside is said.
use Rattle.std.specs.Prelude.{Option, Some, None}
use Rattle.subset_forms.specs.declared.outside.Outside.{Outside}

-- the first of two, where the second comes after it
abbrev pub or_else : Option Outside → Option Outside → Option Outside
or_else None later = later
or_else (Some first) later = Some first
