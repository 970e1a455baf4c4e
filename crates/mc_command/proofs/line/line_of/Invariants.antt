use Rattle.std.proofs.Common.{◌≡◌, ◌∷◌, codes, take}
use Rattle.mc_command.specs.Line.{line_of}
use Rattle.mc_command.proofs.line.line_of.Given as goal

abbrev pub invariant-loop-at : goal.invariant-loop-at
invariant-loop-at l = line_of l.line.items ≡ codes "mcdc" ∷ take l.at l.words
