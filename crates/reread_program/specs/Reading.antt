-- How an instrumented text is read: by phases, of which the first with a fault answers.
use Rattle.std.specs.Prelude.{◌≡◌, ◌≤◌, ◌⊎◌, ℕ, List, [], length, Some, None, Result, Ok, Err}
use Rattle.mc_lex.specs.declared.token.Dialect.TheVariants.{Instrumented}
use Rattle.mc_lex.specs.declared.fault.LexFault.{LexFault}
use Rattle.mc_lex.specs.Scans.{Scans}
use Rattle.mc_lex.specs.Tokens.{Tok}
use Rattle.mc_tree.specs.Tree.{Item}
use Rattle.mc_grammar.specs.Items.{IsSyntaxOf}
use Rattle.mc_parse.specs.declared.fault.ParseFault.TheVariants.{Syntax}
use Rattle.reread_pieces.specs.declared.placed.Placed.{Placed}
use Rattle.reread_pieces.specs.Pieces.{Mark, ArePieces}
use Rattle.reread_pieces.specs.Plain.{plain_of}
use Rattle.reread_probes.specs.Statements.{placements}
use Rattle.reread_plain_tree.specs.Unprobed.{unprobed_unit}
use Rattle.subset_forms.specs.declared.outside.Outside.{Outside}
use Rattle.mc_subset.specs.Forms.{first_outside}
use Rattle.mc_subset.specs.Nodes.{nodes_of_unit}
use Rattle.types_faults.specs.declared.fault.Fault.{Fault}
use Rattle.types_rules.specs.Typing.{IsTypingOf, IsFirstFaultOf}
use Rattle.mc_typed.specs.Tree.{Program}
use Rattle.mc_types.specs.declared.fault.TypeFault.{TypeFault}
use Rattle.mc_types.specs.Faults.{fault_of}
use Rattle.mc_probe.specs.Tree.{Tree}
use Rattle.reread_put_back.specs.Back.{put_back}
use Rattle.reread_program.specs.declared.fault.RereadFault.{RereadFault}
use Rattle.reread_program.specs.declared.fault.RereadFault.TheVariants as fault

-- ---- phases in a row

-- a phase, and the next one on what it gives: the first with a fault answers
abbrev pub Then : {A B : Type 0} → (Result A RereadFault → Type 0)
    → (A → Result B RereadFault → Type 0) → Result B RereadFault → Type 0
Then {A} Phase Next (Ok b) = (a : A) × Phase (Ok a) × Next a (Ok b)
Then {A} Phase Next (Err f) = Phase (Err f) ⊎ ((a : A) × Phase (Ok a) × Next a (Err f))

-- a text has no tree at one of so many tokens or at their end; at which is not said
abbrev pub IsOnSyntax : ℕ → RereadFault → Type 0
IsOnSyntax count f = (at : ℕ) × (at ≤ count) × (f ≡ fault.Parse (Syntax at))

-- ---- the phases

-- the tokens of a text, or the first place without a token (C17 6.4)
abbrev pub Lexes : List ℕ → Result (List Tok) RereadFault → Type 0
Lexes text (Ok tokens) = Scans Instrumented [] text tokens None
Lexes text (Err f) =
    (tokens : List Tok) × (e : LexFault) × Scans Instrumented [] text tokens (Some e)
    × (f ≡ fault.Lex e)

-- the pieces of the tokens, or that they have none
abbrev pub Splits : List Tok → Result (List Mark) RereadFault → Type 0
Splits tokens (Ok pieces) = ArePieces tokens pieces
Splits tokens (Err f) =
    ((pieces : List Mark) → ArePieces tokens pieces → ⊥) × IsOnSyntax (length tokens) f

-- the tree of the tokens without probes, or that they have none (C17 6.9)
abbrev pub Parses : List Mark → Result (List Item) RereadFault → Type 0
Parses pieces (Ok unit) = IsSyntaxOf Instrumented (plain_of pieces) unit
Parses pieces (Err f) =
    ((unit : List Item) → IsSyntaxOf Instrumented (plain_of pieces) unit → ⊥)
    × IsOnSyntax (length (plain_of pieces)) f

-- the probes, each at what it stands at, or that one stands where the table puts no such one
abbrev pub Places : List Mark → List Item → Result (List Placed) RereadFault → Type 0
Places pieces unit (Ok placed) = placements pieces unit ≡ Some placed
Places pieces unit (Err f) =
    (placements pieces unit ≡ None) × IsOnSyntax (length (plain_of pieces)) f

-- that no node of the tree is outside the profile, or the first one in preorder that is
abbrev pub Admits : List Item → Result (Unit {0}) RereadFault → Type 0
Admits unit (Ok u) = first_outside (nodes_of_unit unit) ≡ None
Admits unit (Err f) =
    (outside : Outside) × (first_outside (nodes_of_unit unit) ≡ Some outside)
    × (f ≡ fault.Outside outside)

-- the typed program of a unit, or its first fault of names and types (C17 6.2 to 6.9)
abbrev pub Types : List Item → Result Program RereadFault → Type 0
Types unit (Ok program) = IsTypingOf unit program
Types unit (Err f) =
    (e : TypeFault) × (first : Fault) × (fault_of e ≡ Some first) × IsFirstFaultOf unit first
    × (f ≡ fault.Typing e)

-- the program with its probes, or the first of these with a fault
abbrev pub PutsBack : Program → List Placed → Result Tree RereadFault → Type 0
PutsBack program placed (Ok tree) = put_back program placed ≡ Ok tree
PutsBack program placed (Err f) =
    (at : ℕ) × (put_back program placed ≡ Err at) × (f ≡ fault.Probe at)

-- ---- all of them

-- what is read of a unit without probes, where these are the probes
abbrev pub ReadsUnit : List Item → List Placed → Result Tree RereadFault → Type 0
ReadsUnit unit placed =
    Then (Admits unit) (λ u.
    Then (Types unit) (λ program.
    PutsBack program placed))

-- what is read of a text with these pieces
abbrev pub ReadsPieces : List Mark → Result Tree RereadFault → Type 0
ReadsPieces pieces =
    Then (Parses pieces) (λ unit.
    Then (Places pieces unit) (λ placed.
    ReadsUnit (unprobed_unit unit) placed))

-- What a text is read as, or the fault with which it is refused: its phases in a row.
abbrev pub Reads : List ℕ → Result Tree RereadFault → Type 0
Reads text =
    Then (Lexes text) (λ tokens.
    Then (Splits tokens) (λ pieces.
    ReadsPieces pieces))

-- a text with a tree
abbrev pub IsReading : List ℕ → Tree → Type 0
IsReading text tree = Reads text (Ok tree)
