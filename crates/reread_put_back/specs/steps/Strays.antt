-- The first probe at no part of a program, as the code finds it.
use Rattle.std.specs.Prelude.{ℕ, ◌-◌, List, [], ◌∷◌, length, Option, Some, None}
use Rattle.mc_typed.specs.Tree.{Program}
use Rattle.reread_pieces.specs.declared.placed.Placed.{Placed}
use Rattle.reread_put_back.specs.declared.judging.Stray.{Stray}
use Rattle.reread_put_back.specs.Back.{faults, first_fault}
use Rattle.reread_put_back.specs.Pens.{first_of}

-- of these probes, where these are left
abbrev pub stray_of : (placed left : List Placed) → Option Stray
stray_of placed [] = None
stray_of placed (q ∷ rest) =
    Some (record { at = length placed - length (q ∷ rest); word = q.word })

-- the first in the text of two
abbrev pub first_of_both : Option ℕ → Option ℕ → Option ℕ
first_of_both None other = other
first_of_both (Some word) other = first_of word other

abbrev pub first_of_all : Program → (placed left : List Placed) → Option ℕ → Option ℕ
first_of_all program placed left fault =
    first_fault (faults (length placed) program) placed left fault
