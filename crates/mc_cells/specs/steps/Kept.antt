-- A step of the proofs: it follows the code, and no public clause rests on it.
-- What a cell that is kept stands for.
use Rattle.std.specs.Prelude.{ℤ, ◌+ℤ◌, ◌*ℤ◌, ◌^◌, pos, Option, Some, None, if◌then◌else◌}
use Rattle.mc_cells.specs.declared.cell.Cell.{Cell}

abbrev pub number_of : Cell → Option ℤ
number_of c = if c.is_set then Some ((c.high *ℤ pos (2 ^ 64)) +ℤ pos c.low) else None
