-- Which probe of an instrumented program stands at which place. Events are numbered by one count
-- through the program, places are listed by another, and the probes are put by a third; here it is
-- said that the three agree.
use Rattle.std.specs.Prelude.{◌≡◌, ℕ, ◌+◌, List, [], ◌∷◌, ◌++◌, flat_map, Option, Some, None}
use Rattle.mc_span.specs.declared.span.Span.{Span}
use Rattle.mc_typed.specs.declared.probes.Mark.{Mark}
use Rattle.mc_typed.specs.Tree as typed
use Rattle.mc_steps.specs.Events.{Entered, Exited, Started, Chosen}
use Rattle.mc_probe.specs.Tree.{Statement, Statements, Function, Tree}
use Rattle.mc_probe.specs.Tree as probed
use Rattle.mc_probe.specs.Maps.{Map, image}
use Rattle.mc_probe.specs.Table.{IsInstrumented}

-- a bit that a probe hits, and where the node stands to which the probe belongs
pub record Placed : Type 0 where
  pub bit : ℕ
  pub span : Span

abbrev pub placed : Span → ℕ → Placed
placed span b = record { bit = b; span = span }

-- the probe of this bit, where there is one
abbrev pub at_bit : Span → Option ℕ → List Placed
at_bit span None = []
at_bit span (Some b) = placed span b ∷ []

abbrev pub at_mark : Span → Option Mark → List Placed
at_mark span None = []
at_mark span (Some mark) = placed span mark.bit ∷ []

-- ---- the probes of a tree, in the order of the text

-- Those of counted statements: a statement with a body stands at its keyword.
abbrev mutual
  pub starts : Statement → List Placed
  starts (probed.Compound items span) = starts_all items
  starts (probed.Label v span mark) = []
  starts (probed.Declaration declarators span bit) = at_bit span bit
  starts (probed.Null span bit) = at_bit span bit
  starts (probed.EffectStatement effect span bit) = at_bit span bit
  starts (probed.If e s keyword span bit) = at_bit keyword bit ++ starts s
  starts (probed.IfElse e s u keyword span bit) = at_bit keyword bit ++ (starts s ++ starts u)
  starts (probed.Switch e items keyword span bit absent) = at_bit keyword bit ++ starts_all items
  starts (probed.For start test step s keyword span bit) = at_bit keyword bit ++ starts s
  starts (probed.DoWhile s e keyword span bit) = at_bit keyword bit ++ starts s
  starts (probed.Break span bit) = at_bit span bit
  starts (probed.Continue span bit) = at_bit span bit
  starts (probed.Return value span bit exit) = at_bit span bit

  pub starts_all : Statements → List Placed
  starts_all probed.no_statements = []
  starts_all (probed.statements s rest) = starts s ++ starts_all rest

-- Those of exits: each `return`, and then the closing brace.
abbrev mutual
  pub leaves : Statement → List Placed
  leaves (probed.Compound items span) = leaves_all items
  leaves (probed.If e s keyword span bit) = leaves s
  leaves (probed.IfElse e s u keyword span bit) = leaves s ++ leaves u
  leaves (probed.Switch e items keyword span bit absent) = leaves_all items
  leaves (probed.For start test step s keyword span bit) = leaves s
  leaves (probed.DoWhile s e keyword span bit) = leaves s
  leaves (probed.Return value span bit exit) = at_bit span exit
  leaves _ = []

  pub leaves_all : Statements → List Placed
  leaves_all probed.no_statements = []
  leaves_all (probed.statements s rest) = leaves s ++ leaves_all rest

-- Those of labels: an absent `default` stands at the word `switch`, before the labels in its body.
abbrev mutual
  pub choices : Statement → List Placed
  choices (probed.Compound items span) = choices_all items
  choices (probed.Label v span mark) = at_mark span mark
  choices (probed.If e s keyword span bit) = choices s
  choices (probed.IfElse e s u keyword span bit) = choices s ++ choices u
  choices (probed.Switch e items keyword span bit absent) = at_mark keyword absent ++ choices_all
      items
  choices (probed.For start test step s keyword span bit) = choices s
  choices (probed.DoWhile s e keyword span bit) = choices s
  choices _ = []

  pub choices_all : Statements → List Placed
  choices_all probed.no_statements = []
  choices_all (probed.statements s rest) = choices s ++ choices_all rest

abbrev pub enters : Function → List Placed
enters f = at_bit f.name_span f.entry

abbrev pub exits : Function → List Placed
exits f = leaves_all f.body ++ at_bit f.closing f.exit

-- ---- the law

-- a bit for each place, from this one on
abbrev pub numbered : ℕ → List Span → List Placed
numbered k [] = []
numbered k (span ∷ rest) = placed span k ∷ numbered (k + 1) rest

-- The probe of the image of each event of a kind stands at the place that the map lists for it: the
-- k-th of the kind at the k-th place, both ends of it, and there is no other probe of the kind.
pub record HavePlaces (m : Map) (tree : Tree) : Type 0 where
  pub entries : flat_map enters tree.program.functions ≡ numbered (image m (Entered 0)) m.entries
  pub exits : flat_map exits tree.program.functions ≡ numbered (image m (Exited 0)) m.exits
  pub statements :
      flat_map (λ f. starts_all f.body) tree.program.functions
      ≡ numbered (image m (Started 0)) m.statements
  pub labels :
      flat_map (λ f. choices_all f.body) tree.program.functions
      ≡ numbered (image m (Chosen 0)) m.labels

-- of every program, with its map and its probes
abbrev pub ProbesHavePlaces : Type 0
ProbesHavePlaces =
    (p : typed.Program) (m : Map) (tree : Tree) → IsInstrumented p m tree → HavePlaces m tree
