-- What the phases of a text come to, in a row.
use Rattle.std.proofs.Common.{ℕ, List, Result, Ok}
use Rattle.mc_lex.specs.Tokens.{Tok}
use Rattle.mc_tree.specs.Tree.{Item}
use Rattle.reread_pieces.specs.declared.placed.Placed.{Placed}
use Rattle.reread_pieces.specs.Pieces.{Mark}
use Rattle.reread_plain_tree.specs.Unprobed.{unprobed_unit}
use Rattle.mc_typed.specs.Tree.{Program}
use Rattle.mc_probe.specs.declared.tree.Instrumented.{Instrumented}
use Rattle.mc_probe.specs.Tree.{Tree}
use Rattle.mc_probe.specs.Trees.{tree_of}
use Rattle.reread_program.specs.declared.fault.RereadFault.{RereadFault}
use Rattle.reread_program.specs.Reading.{Admits, Lexes, Parses, Places, PutsBack, Reads, ReadsPieces, ReadsUnit, Splits, Then, Types}
use Rattle.reread_program.specs.Returned.{Gives, GivesFault}
use Rattle.reread_program.proofs.Sequence.{fault_goes_on, fault_stops, goes_on}

-- ---- a unit

module _ (unit : List Item) (placed : List Placed) where
  abbrev AfterTypes : Program → Result Tree RereadFault → Type 0
  AfterTypes program = PutsBack program placed

  abbrev AfterForms : Result Tree RereadFault → Type 0
  AfterForms = Then (Types unit) AfterTypes

  pub at_forms : (f : RereadFault) → GivesFault (Admits unit) f → GivesFault (ReadsUnit unit placed) f
  at_forms f given = fault_stops (Admits unit) (λ u. AfterForms) f given

  pub at_types : (f : RereadFault) → Admits unit (Ok tt) → GivesFault (Types unit) f → GivesFault (ReadsUnit unit placed) f
  at_types f admits given =
      fault_goes_on (Admits unit) (λ u. AfterForms) tt f admits (fault_stops (Types unit) AfterTypes f given)

  pub through_unit : (program : Program) (r : Result Instrumented RereadFault) → Admits unit (Ok tt) → Types unit (Ok program)
      → Gives tree_of (PutsBack program placed) r → Gives tree_of (ReadsUnit unit placed) r
  through_unit program r admits types given =
      goes_on tree_of (Admits unit) (λ u. AfterForms) tt r admits
      (goes_on tree_of (Types unit) AfterTypes program r types given)

-- ---- pieces

module _ (pieces : List Mark) where
  abbrev AfterPlaces : List Item → List Placed → Result Tree RereadFault → Type 0
  AfterPlaces unit placed = ReadsUnit (unprobed_unit unit) placed

  abbrev AfterTree : List Item → Result Tree RereadFault → Type 0
  AfterTree unit = Then (Places pieces unit) (AfterPlaces unit)

  pub at_tree : (f : RereadFault) → GivesFault (Parses pieces) f → GivesFault (ReadsPieces pieces) f
  at_tree f given = fault_stops (Parses pieces) AfterTree f given

  pub at_places : (unit : List Item) (f : RereadFault) → Parses pieces (Ok unit) → GivesFault (Places pieces unit) f → GivesFault (ReadsPieces pieces) f
  at_places unit f parses given =
      fault_goes_on (Parses pieces) AfterTree unit f parses (fault_stops (Places pieces unit) (AfterPlaces unit) f given)

  pub through_pieces : (unit : List Item) (placed : List Placed) (r : Result Instrumented RereadFault) → Parses pieces (Ok unit) → Places pieces unit (Ok placed)
      → Gives tree_of (ReadsUnit (unprobed_unit unit) placed) r → Gives tree_of (ReadsPieces pieces) r
  through_pieces unit placed r parses places given =
      goes_on tree_of (Parses pieces) AfterTree unit r parses
      (goes_on tree_of (Places pieces unit) (AfterPlaces unit) placed r places given)

-- ---- a text

module _ (text : List ℕ) where
  abbrev AfterTokens : List Tok → Result Tree RereadFault → Type 0
  AfterTokens tokens = Then (Splits tokens) ReadsPieces

  pub at_tokens : (f : RereadFault) → GivesFault (Lexes text) f → GivesFault (Reads text) f
  at_tokens f given = fault_stops (Lexes text) AfterTokens f given

  pub at_pieces : (tokens : List Tok) (f : RereadFault) → Lexes text (Ok tokens) → GivesFault (Splits tokens) f → GivesFault (Reads text) f
  at_pieces tokens f lexes given =
      fault_goes_on (Lexes text) AfterTokens tokens f lexes (fault_stops (Splits tokens) ReadsPieces f given)

  pub through_text : (tokens : List Tok) (pieces : List Mark) (r : Result Instrumented RereadFault) → Lexes text (Ok tokens) → Splits tokens (Ok pieces)
      → Gives tree_of (ReadsPieces pieces) r → Gives tree_of (Reads text) r
  through_text tokens pieces r lexes splits given =
      goes_on tree_of (Lexes text) AfterTokens tokens r lexes
      (goes_on tree_of (Splits tokens) ReadsPieces pieces r splits given)
