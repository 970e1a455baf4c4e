-- Trees whose parts stand inside them and one after the other, as those of a text do. A `return`
-- begins with its word, of six bytes, and ends with a `;`.
use Rattle.std.specs.Prelude.{◌≤◌, ℕ, ◌+◌, ◌-◌, List, [], ◌∷◌, Option, Some, None}
use Rattle.mc_span.specs.declared.span.Span.{Span}
use Rattle.mc_tree.specs.Tree.{Expression, Expressions, Initializer, Initializers, InitDeclarator}
use Rattle.mc_tree.specs.Tree.{Declaration, ForStart, Statement, BlockItems, span_of}
use Rattle.mc_tree.specs.Tree.{span_of_statement}
use Rattle.mc_tree.specs.Tree as tree

abbrev pub IsForward : Span → Type 0
IsForward span = span.start ≤ span.end

-- What stands at the second place, and holds, stands inside the first.
abbrev pub Inside : Span → Span → Type 0 → Type 0
Inside span at Holds = (span.start ≤ at.start) × (at.end ≤ span.end) × Holds

-- two of them, one after the other
abbrev pub InsideTwo : Span → Span → Span → Type 0 → Type 0 → Type 0
InsideTwo span first second Holds HoldsToo =
    (span.start ≤ first.start) × (first.end ≤ second.start) × (second.end ≤ span.end) × Holds
    × HoldsToo

-- between two bytes
abbrev pub Between : ℕ → Span → Type 0 → ℕ → Type 0
Between from at Holds to = (from ≤ at.start) × Holds × (at.end ≤ to)

-- ---- expressions

abbrev mutual
  pub Nested : Expression → Type 0
  Nested (tree.Named name) = IsForward name.span
  Nested (tree.Constant value decimal unsigned longs span) = IsForward span
  Nested (tree.Character value span) = IsForward span
  Nested (tree.Parenthesized a span) = Inside span (span_of a) (Nested a)
  Nested (tree.Call name all span) = HoldsAll span.start all span.end
  Nested (tree.Index a b span) =
      InsideTwo span (span_of a) (span_of b) (Nested a) (Nested b)
  Nested (tree.Member a name span) = Inside span (span_of a) (Nested a)
  Nested (tree.PostfixStep operator a span) = Inside span (span_of a) (Nested a)
  Nested (tree.PrefixStep operator a span) = Inside span (span_of a) (Nested a)
  Nested (tree.Unary operator a span) = Inside span (span_of a) (Nested a)
  Nested (tree.Cast type a span) = Inside span (span_of a) (Nested a)
  Nested (tree.Binary operator a b span) =
      InsideTwo span (span_of a) (span_of b) (Nested a) (Nested b)
  Nested (tree.Conditional a b c span) =
      (span.start ≤ (span_of a).start) × ((span_of a).end ≤ (span_of b).start)
      × ((span_of b).end ≤ (span_of c).start) × ((span_of c).end ≤ span.end)
      × Nested a × Nested b × Nested c
  Nested (tree.Assignment operator a b span) =
      InsideTwo span (span_of a) (span_of b) (Nested a) (Nested b)
  Nested (tree.Comma all span) = HoldsAll span.start all span.end

  -- between two bytes
  pub HoldsAll : ℕ → Expressions → ℕ → Type 0
  HoldsAll from tree.no_expressions to = from ≤ to
  HoldsAll from (tree.expressions a rest) to =
      (from ≤ (span_of a).start) × Nested a × HoldsAll (span_of a).end rest to

abbrev pub InOptional : ℕ → Option Expression → ℕ → Type 0
InOptional from None to = from ≤ to
InOptional from (Some a) to = (from ≤ (span_of a).start) × ((span_of a).end ≤ to) × Nested a

-- ---- initializers and declarations

abbrev mutual
  pub InInitializer : ℕ → Initializer → ℕ → Type 0
  InInitializer from (tree.Single a) to = InOptional from (Some a) to
  InInitializer from (tree.Braced all span) to = InInitializers from all to

  pub InInitializers : ℕ → Initializers → ℕ → Type 0
  InInitializers from tree.no_initializers to = from ≤ to
  InInitializers from (tree.initializers one rest) to =
      (middle : ℕ) × InInitializer from one middle × InInitializers middle rest to

abbrev pub InObjects : ℕ → List InitDeclarator → ℕ → Type 0
InObjects from [] to = from ≤ to
InObjects from (tree.bare d ∷ rest) to = InObjects from rest to
InObjects from (tree.initialized d value ∷ rest) to =
    (middle : ℕ) × InInitializer from value middle × InObjects middle rest to

abbrev pub InDeclaration : ℕ → Declaration → ℕ → Type 0
InDeclaration from (tree.declaration words ds span) to =
    (from ≤ span.start) × InObjects span.start ds span.end × (span.end ≤ to)

abbrev pub InStart : ℕ → ForStart → ℕ → Type 0
InStart from (tree.StartsLocal d) to = InDeclaration from d to
InStart from (tree.StartsExpression a) to = InOptional from a to

-- ---- statements

abbrev mutual
  pub NestedStatement : Statement → Type 0
  NestedStatement (tree.Compound b span) = InBlock span.start b span.end
  NestedStatement (tree.Null span) = IsForward span
  NestedStatement (tree.ExpressionStatement a span) = Inside span (span_of a) (Nested a)
  NestedStatement (tree.If a s span) =
      (span.start ≤ (span_of a).start) × Nested a
      × Between (span_of a).end (span_of_statement s) (NestedStatement s) span.end
  NestedStatement (tree.IfElse a s u span) =
      (span.start ≤ (span_of a).start) × Nested a
      × ((span_of a).end ≤ (span_of_statement s).start) × NestedStatement s
      × Between (span_of_statement s).end (span_of_statement u) (NestedStatement u) span.end
  NestedStatement (tree.Switch a s span) =
      (span.start ≤ (span_of a).start) × Nested a
      × Between (span_of a).end (span_of_statement s) (NestedStatement s) span.end
  NestedStatement (tree.While a s span) =
      (span.start ≤ (span_of a).start) × Nested a
      × Between (span_of a).end (span_of_statement s) (NestedStatement s) span.end
  NestedStatement (tree.DoWhile s a span) =
      (span.start ≤ (span_of_statement s).start) × NestedStatement s
      × InOptional (span_of_statement s).end (Some a) span.end
  NestedStatement (tree.For start a b s span) =
      (x : ℕ) × (y : ℕ) × (z : ℕ) × InStart span.start start x × InOptional x a y
      × InOptional y b z × Between z (span_of_statement s) (NestedStatement s) span.end
  NestedStatement (tree.Case a label s span) =
      (span.start ≤ label.end)
      × Between label.end (span_of_statement s) (NestedStatement s) span.end
  NestedStatement (tree.Default label s span) =
      (span.start ≤ label.end)
      × Between label.end (span_of_statement s) (NestedStatement s) span.end
  NestedStatement (tree.Label name s span) =
      Between span.start (span_of_statement s) (NestedStatement s) span.end
  NestedStatement (tree.Goto name span) = IsForward span
  NestedStatement (tree.Break span) = IsForward span
  NestedStatement (tree.Continue span) = IsForward span
  NestedStatement (tree.Return None span) = IsForward span
  NestedStatement (tree.Return (Some a) span) =
      InOptional (span.start + 6) (Some a) (span.end - 1)

  pub InBlock : ℕ → BlockItems → ℕ → Type 0
  InBlock from tree.no_block_items to = from ≤ to
  InBlock from (tree.local d rest) to =
      (middle : ℕ) × InDeclaration from d middle × InBlock middle rest to
  InBlock from (tree.statement s rest) to =
      (from ≤ (span_of_statement s).start) × NestedStatement s
      × InBlock (span_of_statement s).end rest to

abbrev pub InStatement : ℕ → Statement → ℕ → Type 0
InStatement from s to = Between from (span_of_statement s) (NestedStatement s) to
