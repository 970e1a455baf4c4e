-- Which sources are accepted: by phases, of which the first with a fault answers. The length comes
-- before them: a source that is longer than its limit has no phases.
use Rattle.std.specs.Prelude.{◌≡◌, ◌≤◌, ◌<◌, ◌-◌, ◌^◌, min, ℕ, List, [], length, Some, None, Result, Ok, Err, All}
use Rattle.mc_lex.specs.declared.token.Dialect.TheVariants.{Plain}
use Rattle.mc_lex.specs.declared.fault.LexFault.{LexFault}
use Rattle.mc_lex.specs.Scans.{Scans}
use Rattle.mc_lex.specs.Tokens.{Tok}
use Rattle.mc_tree.specs.Tree.{Item}
use Rattle.mc_grammar.specs.Items.{IsSyntaxOf}
use Rattle.mc_subset.specs.Forms.{first_outside}
use Rattle.mc_subset.specs.Nodes.{nodes_of_unit}
use Rattle.subset_forms.specs.declared.outside.Outside.{Outside}
use Rattle.mc_typed.specs.Tree.{Program}
use Rattle.types_faults.specs.declared.fault.Fault.{Fault}
use Rattle.types_rules.specs.Typing.{IsTypingOf, IsFirstFaultOf}
use Rattle.decide_rules.specs.Decisions.{Decision, AreDecisions, IsSmall, IsFirstLarge}
use Rattle.mc_paths.specs.Paths.{count_of}
use Rattle.mc_probe.specs.Maps.{Map, IsMapOf}
use Rattle.instrument_bits.specs.Faults.{HasFewPaths, IsFirstWithMany, bits_of, most_bits}
use Rattle.mc_types.specs.Faults.{kind_word}
use Rattle.station_replies.specs.Phases.{Then}
use Rattle.station_replies.specs.Reply.{Reply, refusal}
use Rattle.station_replies.specs.Texts.{bits_line, conditions_line, fault_line, line_at, outside_line, paths_line, syntax_line}
use Rattle.station_replies.specs.declared.status.Status.TheVariants.{SourceRefused}

-- the tokens of a source, or the first place without a token (C17 6.4)
abbrev pub Lexes : List ℕ → Result (List Tok) Reply → Type 0
Lexes source (Ok tokens) = Scans Plain [] source tokens None
Lexes source (Err reply) =
    (tokens : List Tok) × (e : LexFault) × Scans Plain [] source tokens (Some e)
    × (reply ≡ refusal SourceRefused (fault_line source e))

-- The tree of the tokens, or that they have none (C17 6.9). The line on that names one of the
-- tokens or the source's end.
abbrev pub Parses : List ℕ → List Tok → Result (List Item) Reply → Type 0
Parses source tokens (Ok unit) = IsSyntaxOf Plain tokens unit
Parses source tokens (Err reply) =
    ((unit : List Item) → IsSyntaxOf Plain tokens unit → ⊥)
    × ((at : ℕ) × (at ≤ length tokens)
    × (reply ≡ refusal SourceRefused (syntax_line source tokens at)))

-- that no node of the tree is outside the profile, or the first one in preorder that is
abbrev pub Admits : List ℕ → List Item → Result (Unit {0}) Reply → Type 0
Admits source unit (Ok u) = first_outside (nodes_of_unit unit) ≡ None
Admits source unit (Err reply) =
    (outside : Outside) × (first_outside (nodes_of_unit unit) ≡ Some outside)
    × (reply ≡ refusal SourceRefused (outside_line source outside))

-- the line on a fault of names and types
abbrev pub type_line : (source : List ℕ) → Fault → List ℕ
type_line source f = line_at source (Some f.at) (kind_word f.kind)

-- the typed program of a unit, or its first fault of names and types (C17 6.2 to 6.9)
abbrev pub Types : List ℕ → List Item → Result Program Reply → Type 0
Types source unit (Ok program) = IsTypingOf unit program
Types source unit (Err reply) =
    (fault : Fault) × IsFirstFaultOf unit fault
    × (reply ≡ refusal SourceRefused (type_line source fault))

-- the decisions of a program, where none has too many conditions, or the first that has
abbrev pub Decides : List ℕ → Program → Result (List Decision) Reply → Type 0
Decides source program (Ok ds) = AreDecisions program.functions ds × All IsSmall ds
Decides source program (Err reply) =
    (ds : List Decision) × AreDecisions program.functions ds
    × (at : ℕ) × (count : ℕ) × IsFirstLarge ds at count
    × (reply ≡ refusal SourceRefused (conditions_line source at count))

-- that no decision has too many paths, or the first that has
abbrev pub PathsAreFew : List ℕ → List Decision → Result (Unit {0}) Reply → Type 0
PathsAreFew source ds (Ok u) = All HasFewPaths ds
PathsAreFew source ds (Err reply) =
    (d : Decision) × IsFirstWithMany ds d
    × (reply ≡ refusal SourceRefused (paths_line source d.root.start (count_of d.tree)))

-- ---- the map

-- the map of the program's bits, or that there are too many; a greater number of them than 2^64 - 1
-- is told as that
abbrev pub Maps : Program → List Decision → Result Map Reply → Type 0
Maps program ds (Ok m) = IsMapOf program m
Maps program ds (Err reply) =
    (most_bits < bits_of program ds)
    × (reply ≡ refusal SourceRefused (bits_line (min (bits_of program ds) (2 ^ 64 - 1))))

-- ---- all phases

-- a source that is accepted: its bytes, its typed program, and the map of its bits
pub record Accepted : Type 0 where
  pub source : List ℕ
  pub program : Program
  pub map : Map

abbrev pub Accepts : List ℕ → Program → Map → Result Accepted Reply → Type 0
Accepts source program m v = v ≡ Ok (record { source = source; program = program; map = m })

-- What a source is accepted as, or why it is refused: its phases in a row.
abbrev pub JudgesSource : List ℕ → Result Accepted Reply → Type 0
JudgesSource source =
    Then (Lexes source) (λ tokens.
    Then (Parses source tokens) (λ unit.
    Then (Admits source unit) (λ u.
    Then (Types source unit) (λ program.
    Then (Decides source program) (λ ds.
    Then (PathsAreFew source ds) (λ v.
    Then (Maps program ds) (Accepts source program)))))))
