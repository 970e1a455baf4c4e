-- The listing of a source, with the verdicts on its obligations.
use Rattle.std.specs.Prelude.{ℕ, ◌-◌, List, ◌∷◌, ◌++◌, length, replicate, flat_map, codes}
use Rattle.std.specs.Fmt.{decimal}
use Rattle.mc_oblige.specs.declared.obligation.Obligation.{Obligation}
use Rattle.mc_oblige.specs.declared.verdict.Verdict.{Verdict}
use Rattle.mc_list.specs.declared.mark.Mark.{Mark}
use Rattle.mc_list.specs.Lines.{Placed, placed_lines}
use Rattle.mc_list.specs.Marks.{byte_of, mark_on}

-- digits right in 7 places
abbrev pub in_places : List ℕ → List ℕ
in_places digits = replicate (7 - length digits) 32 ++ digits

-- the margin, of 12 bytes: the number, a space, the mark, and ` | `
abbrev pub margin : ℕ → Mark → List ℕ
margin number mark = in_places (decimal number) ++ (32 ∷ byte_of mark ∷ codes " | ")

abbrev pub listed_line : List Obligation → List Verdict → Placed → List ℕ
listed_line os vs line = margin line.number (mark_on os vs line) ++ line.bytes

-- each line of the source after its margin
abbrev pub listing : List ℕ → List Obligation → List Verdict → List ℕ
listing source os vs = flat_map (listed_line os vs) (placed_lines source)
