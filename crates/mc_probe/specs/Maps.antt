-- The map of the bits: which bit belongs to which event.
use Rattle.std.specs.Prelude.{◌≡◌, ℕ, ◌+◌, ◌≤◌, List, [], ◌∷◌, map, length, slice_get, Option, Some, None}
use Rattle.mc_limits.specs.Limits.{most_bits}
use Rattle.mc_span.specs.declared.span.Span.{Span}
use Rattle.mc_cond.specs.Tree.{size, IsNumbered}
use Rattle.mc_cond.specs.Vectors.{Evaluation}
use Rattle.mc_paths.specs.Paths.{count_of, path_of}
use Rattle.mc_typed.specs.Tree.{Program}
use Rattle.decide_rules.specs.Decisions.{Decision, AreDecisions}
use Rattle.mc_steps.specs.Events.{Event, Entered, Exited, Started, Chosen, Evaluated}
use Rattle.mc_probe.specs.Obligations.{entry_spans, exit_spans, statement_spans, label_spans}

-- a decision, and the bit of its first path
pub record Mapped : Type 0 where
  pub decision : Decision
  pub base : ℕ

-- the places of the events, in the order of the text, and how many bits there are
pub record Map : Type 0 where
  pub entries : List Span
  pub exits : List Span
  pub statements : List Span
  pub labels : List Span
  pub decisions : List Mapped
  pub bits : ℕ

-- ---- the order of the bits

-- entries come first, then exits, statements and labels, then the path numbers of each decision
abbrev pub first_exit : Map → ℕ
first_exit m = length m.entries

abbrev pub first_statement : Map → ℕ
first_statement m = first_exit m + length m.exits

abbrev pub first_label : Map → ℕ
first_label m = first_statement m + length m.statements

abbrev pub first_path : Map → ℕ
first_path m = first_label m + length m.labels

-- the bits of decisions that begin at the first number end at the second
abbrev pub AreBased : List Mapped → ℕ → ℕ → Type 0
AreBased [] from to = from ≡ to
AreBased (d ∷ rest) from to =
    (d.base ≡ from) × AreBased rest (from + count_of d.decision.tree) to

-- each condition of the tree has its place
pub record IsPlaced (d : Decision) : Type 0 where
  pub numbered : IsNumbered d.tree
  pub places : length d.conditions ≡ size d.tree

abbrev pub ArePlaced : List Mapped → Type 0
ArePlaced [] = Unit {0}
ArePlaced (d ∷ rest) = IsPlaced d.decision × ArePlaced rest

-- what a map keeps
pub record IsMap (m : Map) : Type 0 where
  pub placed : ArePlaced m.decisions
  pub based : AreBased m.decisions (first_path m) m.bits
  pub few : m.bits ≤ most_bits

-- this is the program's map
pub record IsMapOf (p : Program) (m : Map) : Type 0 where
  pub kept : IsMap m
  pub entries : m.entries ≡ entry_spans p
  pub exits : m.exits ≡ exit_spans p
  pub statements : m.statements ≡ statement_spans p
  pub labels : m.labels ≡ label_spans p
  pub decisions : AreDecisions p.functions (map (λ d. d.decision) m.decisions)

-- ---- the bits of the events

abbrev pub entry_bit : Map → ℕ → ℕ
entry_bit m f = f

abbrev pub exit_bit : Map → ℕ → ℕ
exit_bit m k = first_exit m + k

abbrev pub statement_bit : Map → ℕ → ℕ
statement_bit m k = first_statement m + k

abbrev pub label_bit : Map → ℕ → ℕ
label_bit m k = first_label m + k

-- that of a path is the base of its decision and the number of the path
abbrev pub path_bit : Option Mapped → Evaluation → ℕ
path_bit None v = 0
path_bit (Some d) v = d.base + path_of d.decision.tree v

-- the bit that an event sets, its image
abbrev pub image : Map → Event → ℕ
image m (Entered f) = entry_bit m f
image m (Exited k) = exit_bit m k
image m (Started k) = statement_bit m k
image m (Chosen k) = label_bit m k
image m (Evaluated k v) = path_bit (slice_get m.decisions k) v
