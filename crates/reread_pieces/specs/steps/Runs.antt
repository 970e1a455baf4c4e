-- The pieces of a text as a function.
use Rattle.std.specs.Prelude.{◌≡◌, ℕ, zero, suc, List, [], ◌∷◌, ◌++◌, Option, Some, None, Result}
use Rattle.std.specs.Prelude.{Ok, Err, Vec}
use Rattle.std.specs.Global.{Global}
use Rattle.mc_lex.specs.Tokens.{Tok}
use Rattle.reread_pieces.specs.declared.bracket.Bracket.{Bracket}
use Rattle.reread_pieces.specs.declared.piece.Piece.{Piece}
use Rattle.reread_pieces.specs.declared.fault.ShapeFault.{ShapeFault}
use Rattle.reread_pieces.specs.declared.fault.ShapeFault.TheVariants as fault
use Rattle.reread_pieces.specs.Pieces.{Here, Mark, later, passed, next}
use Rattle.reread_pieces.specs.steps.Views.{marks_of}

-- all is closed
abbrev pub closed : List Bracket → Option (List Mark)
closed [] = Some []
closed (b ∷ bs) = None

abbrev pub added_to : List Mark → Option (List Mark) → Option (List Mark)
added_to ps None = None
added_to ps (Some qs) = Some (ps ++ qs)

abbrev pub go_on : (Here → List Tok → Option (List Mark)) → Here → List Tok → Option Mark
    → Option (List Mark)
go_on more h ts None = None
go_on more h ts (Some m) = added_to (m ∷ []) (more (passed h m ts) (later h m.row ts))

abbrev pub run : ℕ → Here → List Tok → Option (List Mark)
run fuel h [] = closed h.brackets
run zero h (t ∷ ts) = None
run (suc fuel) h (t ∷ ts) = go_on (run fuel) h (t ∷ ts) (next h (t ∷ ts))

-- what is returned of them
abbrev pub GivesFault : Option (List Mark) → ShapeFault → Type 0
GivesFault found fault.OutOfMemory = Unit {0}
GivesFault found (fault.Shape at) = found ≡ None

abbrev pub Gives : Option (List Mark) → Result (Vec Piece Global) ShapeFault → Type 0
Gives found (Ok v) = found ≡ Some (marks_of v.items)
Gives found (Err e) = GivesFault found e

-- One turn: what the run gives at a place, after these marks, is what it gives at the next one,
-- after the marks there.
abbrev pub StepFails : Option (List Mark) → ShapeFault → Type 0
StepFails whole fault.OutOfMemory = Unit {0}
StepFails whole (fault.Shape at) = whole ≡ None

abbrev pub Steps : ℕ → Option (List Mark) → List Mark → Here → List Tok → List Mark
    → Result Unit ShapeFault → Type 0
Steps fuel whole before h left marks (Ok u) =
    added_to before whole ≡ added_to marks (run fuel h left)
Steps fuel whole before h left marks (Err e) = StepFails whole e
