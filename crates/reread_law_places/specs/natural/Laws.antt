-- Names and types do not depend on blanks and comments: what is found of a moved tree is what is
-- found of the tree, moved.
use Rattle.std.specs.Prelude.{◌≡◌, List, option_map}
use Rattle.mc_tree.specs.Tree.{Expression, Item}
use Rattle.mc_typed.specs.Tree.{Program}
use Rattle.types_rules.specs.Scopes.{Scope}
use Rattle.types_rules.specs.Judgement.{judge}
use Rattle.types_rules.specs.Typing.{faults_of, typing_of, IsTypingOf}
use Rattle.reread_law_texts.specs.alike.Moves.{Move}
use Rattle.reread_law_texts.specs.alike.Trees.{moved, moved_unit}
use Rattle.reread_law_places.specs.natural.Moved.{moved_faults, moved_program}
use Rattle.reread_law_places.specs.natural.Settled.{settled}
use Rattle.reread_law_places.specs.natural.Found.{moved_found, settled_found}

-- an expression, in every scope
abbrev pub ExpressionsMove : Type 0
ExpressionsMove =
    (m : Move) (e : Expression) (s : Scope)
    → settled_found (judge (moved m e) s) ≡ settled_found (moved_found m (judge e s))

-- A moved unit has the moved faults.
abbrev pub FaultsMove : Type 0
FaultsMove =
    (m : Move) (unit : List Item) → faults_of (moved_unit m unit) ≡ moved_faults m (faults_of unit)

-- What stands for it in the typed program is moved, whatever faults there are.
abbrev pub TypingsMove : Type 0
TypingsMove =
    (m : Move) (unit : List Item)
    → option_map settled (typing_of (moved_unit m unit))
    ≡ option_map settled (option_map (moved_program m) (typing_of unit))

-- So a moved unit has a typing exactly where the unit has one, and its typed program is the moved
-- one: one direction, and the other.
abbrev pub ProgramsMove : Type 0
ProgramsMove =
    (m : Move) (unit : List Item) (p : Program) → IsTypingOf unit p
    → (q : Program) × IsTypingOf (moved_unit m unit) q × (settled q ≡ settled (moved_program m p))

abbrev pub ProgramsReturn : Type 0
ProgramsReturn =
    (m : Move) (unit : List Item) (q : Program) → IsTypingOf (moved_unit m unit) q
    → (p : Program) × IsTypingOf unit p × (settled q ≡ settled (moved_program m p))
