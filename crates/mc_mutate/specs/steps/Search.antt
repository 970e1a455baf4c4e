-- The search for a mutant by its number, over the nodes of a program: each mutant that is passed
-- makes the number one less, and the one at which it is 0 is found.
use Rattle.std.specs.Prelude.{◌-◌, ◌==◌, Bool, true, false, if◌then◌else◌, List, [], ◌∷◌}
use Rattle.mc_span.specs.declared.span.Span.{Span}
use Rattle.decide_rules.specs.declared.role.Role.{Role}
use Rattle.decide_rules.specs.declared.role.Role.TheVariants.{Controlling, Plain}
use Rattle.decide_rules.specs.Nodes.{Node, Constant, Not, Logic, Expression, Whole, Parts, no_parts, part, controlling, Top, Operator, Other}
use Rattle.decide_rules.specs.Roots.{is_root}
use Rattle.mc_mutate.specs.declared.changes.Change.{Change}
use Rattle.mc_mutate.specs.declared.changes.MutantKind.{MutantKind}
use Rattle.mc_mutate.specs.declared.changes.MutantKind.TheVariants.{Exchanged, Negated, FixedTrue, FixedFalse, Shifted}
use Rattle.mc_mutate.specs.declared.search.sought.Sought.{Sought}
use Rattle.mc_mutate.specs.declared.search.sought.Sought.TheVariants.{Left, Found}
use Rattle.mc_mutate.specs.Changes.{Mutant}

abbrev pub pass : Change → Sought → Sought
pass c (Found d) = Found d
pass c (Left n) = if n == 0 then Found c else Left (n - 1)

abbrev pub passed : MutantKind → Span → Sought → Sought
passed kind span s = pass (record { kind = kind; at = span.start }) s

-- ---- one decision

abbrev pub in_nodes : Node → Sought → Sought
in_nodes (Constant span) s = s
in_nodes (Not a span) s = in_nodes a s
in_nodes (Logic operator a b span) s = in_nodes b (in_nodes a (passed Exchanged span s))
in_nodes (Expression top ps span) s = s
in_nodes (Whole ps) s = s

abbrev pub relates : Top → Bool
relates (Operator compares) = compares
relates Other = false

-- the three mutants that each condition has
abbrev pub past_three : Span → Sought → Sought
past_three span s = passed FixedFalse span (passed FixedTrue span (passed Negated span s))

abbrev pub in_condition : Bool → Span → Sought → Sought
in_condition true span s = passed Shifted span (past_three span s)
in_condition false span s = past_three span s

abbrev pub in_conditions : Node → Sought → Sought
in_conditions (Constant span) s = in_condition false span s
in_conditions (Not a span) s = in_conditions a s
in_conditions (Logic operator a b span) s = in_conditions b (in_conditions a s)
in_conditions (Expression top ps span) s = in_condition (relates top) span s
in_conditions (Whole ps) s = s

abbrev pub in_decision : Node → Sought → Sought
in_decision a s = in_conditions a (in_nodes a s)

-- ---- the decisions of a program

abbrev pub own : Role → Node → Sought → Sought
own role a s = if is_root role a then in_decision a s else s

abbrev mutual
  pub inside : Node → Sought → Sought
  inside (Constant span) s = s
  inside (Not a span) s = inside a s
  inside (Logic operator a b span) s = inside b (inside a s)
  inside (Expression top ps span) s = inside_parts ps s
  inside (Whole ps) s = inside_parts ps s

  pub inside_parts : Parts → Sought → Sought
  inside_parts no_parts s = s
  inside_parts (part a ps) s = inside_parts ps (inside a (own Plain a s))
  inside_parts (controlling a ps) s = inside_parts ps (inside a (own Controlling a s))

abbrev pub searched : Role → Node → Sought → Sought
searched role a s = inside a (own role a s)

-- ---- lists of mutants

abbrev pub past : {X : Type 0} → List (Mutant X) → Sought → Sought
past [] s = s
past (m ∷ ms) s = past ms (pass m.change s)
