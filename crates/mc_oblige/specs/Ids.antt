-- The names of obligations.
use Rattle.std.specs.Prelude.{ℕ, ◌+◌, true, false, List, ◌++◌, codes}
use Rattle.std.specs.Fmt.{decimal}
use Rattle.mc_oblige.specs.declared.obligation.ObligationId.{ObligationId}
use Rattle.mc_oblige.specs.declared.obligation.ObligationId.TheVariants.{Entry, Exit, Statement, Label, Outcome, Condition}

-- a letter for the kind, and numbers from 1
abbrev pub id_text : ObligationId → List ℕ
id_text (Entry k) = codes "E" ++ decimal (k + 1)
id_text (Exit k) = codes "X" ++ decimal (k + 1)
id_text (Statement k) = codes "S" ++ decimal (k + 1)
id_text (Label k) = codes "L" ++ decimal (k + 1)
id_text (Outcome d true) = codes "D" ++ (decimal (d + 1) ++ codes "T")
id_text (Outcome d false) = codes "D" ++ (decimal (d + 1) ++ codes "F")
id_text (Condition d k) = codes "D" ++ (decimal (d + 1) ++ (codes "C" ++ decimal (k + 1)))
