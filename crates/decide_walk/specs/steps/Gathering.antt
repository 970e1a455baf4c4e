-- The walk that gathers decisions, as functions on nodes.
use Rattle.std.specs.Prelude.{ℕ, ◌+◌, Bool, true, false, nat_lt, List, [], ◌∷◌, ◌++◌, map, take, Option, Some, None}
use Rattle.mc_limits.specs.Limits.{most_conditions}
use Rattle.mc_typed.specs.Tree as typed
use Rattle.mc_typed.specs.Levels.{limited}
use Rattle.decide_rules.specs.declared.role.Role.{Role}
use Rattle.decide_rules.specs.declared.role.Role.TheVariants.{Controlling, Inner, Plain}
use Rattle.decide_rules.specs.declared.operators.FullOperator.{FullOperator}
use Rattle.decide_rules.specs.declared.fault.DecideFault.{DecideFault}
use Rattle.decide_rules.specs.declared.fault.DecideFault.TheVariants.{TooManyConditions}
use Rattle.decide_walk.specs.declared.gathered.Gathered as code
use Rattle.decide_rules.specs.Nodes.{Node, Constant, Not, Logic, Expression, Whole, Parts, no_parts, part, controlling}
use Rattle.decide_rules.specs.Nodes as nodes
use Rattle.decide_rules.specs.Roots.{is_constant, is_candidate}
use Rattle.decide_rules.specs.Conditions.{width}
use Rattle.decide_rules.specs.Decisions.{Decision}
use Rattle.decide_rules.specs.Seen.{decision_of}
use Rattle.decide_rules.specs.steps.Walk.{decision}

-- the number of the function in whose body the walk is, the decisions so far, up to the first that
-- is too large, and the fault of this one
pub record Gathered : Type 0 where
  pub function : ℕ
  pub decisions : List Decision
  pub fault : Option DecideFault

abbrev pub gathered_of : code.Gathered → Gathered
gathered_of g = record {
  function = g.function;
  decisions = map decision_of g.decisions.items;
  fault = g.fault;
}

abbrev pub begun : Gathered
begun = record { function = 0; decisions = []; fault = None }

-- one decision more
abbrev pub grown : Node → Gathered → Gathered
grown a g = record {
  function = g.function;
  decisions = g.decisions ++ decision g.function a ∷ [];
  fault = g.fault;
}

-- one that is too large
abbrev pub stopped : ℕ → ℕ → Gathered → Gathered
stopped at count g = record {
  function = g.function;
  decisions = g.decisions;
  fault = Some (TooManyConditions at count);
}

abbrev pub sized : Bool → Node → Gathered → Gathered
sized true a g = stopped (nodes.span_of a).start (limited (width a)) g
sized false a g = grown a g

abbrev pub added : Option DecideFault → Node → Gathered → Gathered
added (Some fault) a g = g
added None a g = sized (nat_lt most_conditions (width a)) a g

-- what stands in a constant goes again
abbrev pub cut : ℕ → Option DecideFault → Gathered → Gathered
cut count fault g = record {
  function = g.function;
  decisions = take count g.decisions;
  fault = fault;
}

abbrev pub pushed : Bool → Node → Gathered → Gathered
pushed true a g = added g.fault a g
pushed false a g = g

abbrev pub kept : Bool → Gathered → Gathered → Gathered
kept true before after = before
kept false before after = after

-- whether an expression with this role is a candidate, by whether it is Boolean
abbrev pub is_taken : Role → Bool → Bool
is_taken Controlling boolean = true
is_taken Inner boolean = false
is_taken Plain boolean = boolean

abbrev pub entered : Role → Node → Gathered → Gathered
entered role a g = pushed (is_candidate role a) a g

abbrev mutual
  -- what is gathered inside a node that is no root of a constant
  pub inside : Node → Gathered → Gathered
  inside (Constant span) g = g
  inside (Not a span) g = kept (is_constant a) g (inside a (entered Inner a g))
  inside (Logic operator a b span) g =
      let first = kept (is_constant a) g (inside a (entered Inner a g)) in
      kept (is_constant b) first (inside b (entered Inner b first))
  inside (Expression top ps span) g = inside_parts ps g
  inside (Whole ps) g = inside_parts ps g

  pub inside_parts : Parts → Gathered → Gathered
  inside_parts no_parts g = g
  inside_parts (part a ps) g =
      inside_parts ps (kept (is_constant a) g (inside a (entered Plain a g)))
  inside_parts (controlling a ps) g =
      inside_parts ps (kept (is_constant a) g (inside a (entered Controlling a g)))

abbrev pub visited : Role → Node → Gathered → Gathered
visited role a g = kept (is_constant a) g (inside a (entered role a g))

-- how the operands of an operator that evaluates both of them stand
abbrev pub role_under : Option FullOperator → Role
role_under (Some operator) = Inner
role_under None = Plain

-- in the function with this number
abbrev pub in_function : ℕ → Gathered → Gathered
in_function k g = record { function = k; decisions = g.decisions; fault = g.fault }

-- in functions that are numbered from k on
abbrev pub in_functions : ℕ → List typed.Function → Gathered → Gathered
in_functions k [] g = g
in_functions k (f ∷ fs) g = in_functions (k + 1) fs (inside (nodes.function f) (in_function k g))
