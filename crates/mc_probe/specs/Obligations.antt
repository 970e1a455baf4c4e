-- What is covered, apart from decisions: entries, exits, statements and labels, each by its place
-- in the text, in the order of the text (DO-178C, 6.4.4.2).
use Rattle.std.specs.Prelude.{if◌then◌else◌, List, [], ◌∷◌, ◌++◌, map, flat_map}
use Rattle.mc_span.specs.declared.span.Span.{Span}
use Rattle.mc_typed.specs.Tree.{Statement, Statements, Function, Program}
use Rattle.mc_typed.specs.Tree as typed
use Rattle.mc_steps.specs.Points.{all_complete, has_default, initializes}

-- ---- exits

-- each `return` statement
abbrev mutual
  pub returns : Statement → List Span
  returns (typed.Compound items span) = returns_all items
  returns (typed.If e s keyword span) = returns s
  returns (typed.IfElse e s u keyword span) = returns s ++ returns u
  returns (typed.Switch e items keyword span) = returns_all items
  returns (typed.For start test step s keyword span) = returns s
  returns (typed.DoWhile s e keyword span) = returns s
  returns (typed.Return value span) = span ∷ []
  returns _ = []

  pub returns_all : Statements → List Span
  returns_all typed.no_statements = []
  returns_all (typed.statements s rest) = returns s ++ returns_all rest

-- and the closing brace of a body that can complete
abbrev pub exits : Function → List Span
exits f = returns_all f.body ++ (if all_complete f.body then f.closing ∷ [] else [])

-- ---- statements

-- All statements but compound ones count, and declarations with an initializer that stand in no
-- `for`. Labels are no statements of their own.
-- a statement with a body stands at its keyword
abbrev mutual
  pub counted_spans : Statement → List Span
  counted_spans (typed.Compound items span) = counted_spans_all items
  counted_spans (typed.Label v span) = []
  counted_spans (typed.Declaration declarators span) =
      if initializes declarators then span ∷ [] else []
  counted_spans (typed.Null span) = span ∷ []
  counted_spans (typed.EffectStatement effect span) = span ∷ []
  counted_spans (typed.If e s keyword span) = keyword ∷ counted_spans s
  counted_spans (typed.IfElse e s u keyword span) = keyword ∷ counted_spans s ++ counted_spans u
  counted_spans (typed.Switch e items keyword span) = keyword ∷ counted_spans_all items
  counted_spans (typed.For start test step s keyword span) = keyword ∷ counted_spans s
  counted_spans (typed.DoWhile s e keyword span) = keyword ∷ counted_spans s
  counted_spans (typed.Break span) = span ∷ []
  counted_spans (typed.Continue span) = span ∷ []
  counted_spans (typed.Return value span) = span ∷ []

  pub counted_spans_all : Statements → List Span
  counted_spans_all typed.no_statements = []
  counted_spans_all (typed.statements s rest) = counted_spans s ++ counted_spans_all rest

-- ---- labels

-- each label of a `switch`, and an absent `default`, which stands at the word `switch`
abbrev mutual
  pub labels : Statement → List Span
  labels (typed.Compound items span) = labels_all items
  labels (typed.Label v span) = span ∷ []
  labels (typed.If e s keyword span) = labels s
  labels (typed.IfElse e s u keyword span) = labels s ++ labels u
  labels (typed.Switch e items keyword span) =
      (if has_default items then [] else keyword ∷ []) ++ labels_all items
  labels (typed.For start test step s keyword span) = labels s
  labels (typed.DoWhile s e keyword span) = labels s
  labels _ = []

  pub labels_all : Statements → List Span
  labels_all typed.no_statements = []
  labels_all (typed.statements s rest) = labels s ++ labels_all rest

-- ---- of a whole program

abbrev pub entry_spans : Program → List Span
entry_spans p = map (λ f. f.name_span) p.functions

abbrev pub exit_spans : Program → List Span
exit_spans p = flat_map exits p.functions

abbrev pub statement_spans : Program → List Span
statement_spans p = flat_map (λ f. counted_spans_all f.body) p.functions

abbrev pub label_spans : Program → List Span
label_spans p = flat_map (λ f. labels_all f.body) p.functions
