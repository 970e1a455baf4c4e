-- The walk that collects roots, as functions on nodes.
use Rattle.std.specs.Prelude.{ℕ, ◌+◌, Bool, true, false, List, [], ◌∷◌, ◌++◌, map}
use Rattle.mc_span.specs.declared.span.Span.{Span}
use Rattle.mc_typed.specs.Tree as typed
use Rattle.decide_rules.specs.declared.role.Role.{Role}
use Rattle.decide_rules.specs.declared.role.Role.TheVariants.{Controlling, Inner, Plain}
use Rattle.decide_rules.specs.Nodes.{Node, Constant, Not, Logic, Expression, Whole, Parts, no_parts, part, controlling}
use Rattle.decide_rules.specs.Nodes as nodes
use Rattle.decide_rules.specs.Roots.{is_constant, is_candidate}
use Rattle.decide_rules.specs.Conditions.{tree_from}
use Rattle.decide_rules.specs.declared.fault.DecideFault.{DecideFault}
use Rattle.decide_rules.specs.declared.fault.DecideFault.TheVariants.{TooManyConditions, OutOfMemory}
use Rattle.decide_rules.specs.Decisions.{Decision, IsFirstLarge}

-- a candidate goes to the end of what is found
abbrev pub pushed : Bool → Node → List Node → List Node
pushed true a found = found ++ a ∷ []
pushed false a found = found

-- and all that was found in it goes again where it is constant
abbrev pub kept : Bool → List Node → List Node → List Node
kept true before after = before
kept false before after = after

abbrev pub entered : Role → Node → List Node → List Node
entered role a found = pushed (is_candidate role a) a found

abbrev mutual
  -- what is found inside a node that is no root of a constant
  pub inside : Node → List Node → List Node
  inside (Constant span) found = found
  inside (Not a span) found = kept (is_constant a) found (inside a (entered Inner a found))
  inside (Logic operator a b span) found =
      let first = kept (is_constant a) found (inside a (entered Inner a found)) in
      kept (is_constant b) first (inside b (entered Inner b first))
  inside (Expression top ps span) found = inside_parts ps found
  inside (Whole ps) found = inside_parts ps found

  pub inside_parts : Parts → List Node → List Node
  inside_parts no_parts found = found
  inside_parts (part a ps) found =
      inside_parts ps (kept (is_constant a) found (inside a (entered Plain a found)))
  inside_parts (controlling a ps) found =
      inside_parts ps (kept (is_constant a) found (inside a (entered Controlling a found)))

abbrev pub visited : Role → Node → List Node → List Node
visited role a found = kept (is_constant a) found (inside a (entered role a found))

-- where the conditions of the decision with this root stand
abbrev pub spans : Node → List Span
spans (Constant span) = span ∷ []
spans (Not a span) = spans a
spans (Logic operator a b span) = spans a ++ spans b
spans (Expression top ps span) = span ∷ []
spans (Whole ps) = nodes.span_of (Whole ps) ∷ []

abbrev pub decision : ℕ → Node → Decision
decision function a = record {
  root = nodes.span_of a;
  function = function;
  tree = tree_from 0 a;
  conditions = spans a;
}

-- the decisions of functions that are numbered from k on
abbrev pub decided : ℕ → List typed.Function → List Decision
decided k [] = []
decided k (f ∷ fs) = map (decision k) (inside (nodes.function f) []) ++ decided (k + 1) fs

-- the fault of the first that is not small
abbrev pub IsLargeAmong : List Decision → DecideFault → Type 0
IsLargeAmong ds (TooManyConditions at count) = IsFirstLarge ds at count
IsLargeAmong ds OutOfMemory = Unit {0}
