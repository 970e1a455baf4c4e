-- What follows from the definitions.
use Rattle.std.specs.Prelude.{◌≡◌, ℕ, ◌<◌, ◌≤◌, ◌⊎◌, false, List, [], ◌∷◌, All}
use Rattle.mc_span.specs.declared.span.Span.{Span}
use Rattle.mc_typed.specs.Tree.{Function}
use Rattle.decide_rules.specs.Nodes.{Node, Constant, Not, Logic, Expression, Whole, Parts, no_parts, part, controlling, program}
use Rattle.decide_rules.specs.Roots.{is_constant}
use Rattle.decide_rules.specs.Decisions.{Decision, AreDecisions}

-- a program has one list of decisions
abbrev pub OneList : Type 0
OneList =
    (fs : List Function) (ds es : List Decision) → AreDecisions fs ds → AreDecisions fs es → ds ≡ es

-- ---- where nodes stand in a text

-- from the first byte to the last there is at least one, and all are between two bytes
abbrev pub IsBetween : ℕ → ℕ → Span → Type 0
IsBetween low high span = (low ≤ span.start) × (span.start < span.end) × (span.end ≤ high)

abbrev pub IsExpression : Node → Type 0
IsExpression (Constant span) = Unit {0}
IsExpression (Not a span) = Unit {0}
IsExpression (Logic operator a b span) = Unit {0}
IsExpression (Expression top ps span) = Unit {0}
IsExpression (Whole ps) = ⊥

-- As in a text: a node stands between two bytes, its parts stand within it, and each part ends
-- before the next one begins. Nothing is asked of an integer constant expression, whose parts are
-- constant too: no decision is in it, and the 1 that `++x` adds stands at the `++`.
abbrev mutual
  pub StandsIn : ℕ → ℕ → Node → Type 0
  StandsIn low high (Constant span) = Unit {0}
  StandsIn low high (Not a span) =
      is_constant (Not a span) ≡ false →
      IsBetween low high span × StandsIn span.start span.end a
  StandsIn low high (Logic operator a b span) =
      is_constant (Logic operator a b span) ≡ false →
      IsBetween low high span
      × (middle : ℕ) × (span.start ≤ middle) × (middle ≤ span.end)
      × StandsIn span.start middle a × StandsIn middle span.end b
  StandsIn low high (Expression top ps span) =
      is_constant (Expression top ps span) ≡ false →
      IsBetween low high span × StandIn span.start span.end ps
  StandsIn low high (Whole ps) = StandIn low high ps

  pub StandIn : ℕ → ℕ → Parts → Type 0
  StandIn low high no_parts = Unit {0}
  StandIn low high (part a ps) =
      (middle : ℕ) × (low ≤ middle) × (middle ≤ high)
      × StandsIn low middle a × StandIn middle high ps
  StandIn low high (controlling a ps) =
      (middle : ℕ) × (low ≤ middle) × (middle ≤ high) × IsExpression a
      × StandsIn low middle a × StandIn middle high ps

-- The order by the start of the root, the outer one first where two start together. Two roots would
-- have one span only where a controlling one is an implied conversion, and C17 implies none there.
abbrev pub IsInOrder : Decision → Decision → Type 0
IsInOrder d e =
    (d.root.start < e.root.start)
    ⊎ ((d.root.start ≡ e.root.start) × (e.root.end ≤ d.root.end))

abbrev pub AreInOrder : List Decision → Type 0
AreInOrder [] = Unit {0}
AreInOrder (d ∷ ds) = All (IsInOrder d) ds × AreInOrder ds

-- Where the nodes of a program stand as in a text, its decisions are in the order of their starts.
abbrev pub StartsAreInOrder : Type 0
StartsAreInOrder =
    (fs : List Function) (ds : List Decision) (length : ℕ) → StandsIn 0 length (program fs)
    → AreDecisions fs ds → AreInOrder ds
