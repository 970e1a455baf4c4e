-- Where the parts of a program stand in the text: how many decisions, counted statements, exits and
-- labels come before them. Their events have these numbers.
use Rattle.std.specs.Prelude.{◌+◌, List, Option}
use Rattle.mc_typed.specs.Tree.{Expression, Effect, ForStart, Statement, Statements, Function}
use Rattle.decide_rules.specs.declared.role.Role.{Role}
use Rattle.decide_rules.specs.declared.role.Role.TheVariants.{Plain}
use Rattle.decide_rules.specs.Nodes.{Node}
use Rattle.decide_rules.specs.Nodes as nodes
use Rattle.decide_rules.specs.Roots.{is_root}
use Rattle.decide_rules.specs.Counts.{one_where, roots}
use Rattle.mc_steps.specs.Points.{Points, ◌⊕◌, a_statement, has_default, unless_default, points_of, points_of_all}
use Rattle.mc_meaning.specs.Within.{Within}

-- after a node
abbrev pub past : Role → Node → Within → Within
past role a w = record w { decisions = w.decisions + roots role a }

-- in an expression, which is a decision itself where it is a root
abbrev pub into : Role → Expression → Within → Within
into role e w = record w { decisions = w.decisions + one_where (is_root role (nodes.expression e)) }

-- after a statement
abbrev pub past_statement : Statement → Within → Within
past_statement a w = past Plain (nodes.statement a) (record w { points = w.points ⊕ points_of a })

-- in a counted statement
abbrev pub into_statement : Within → Within
into_statement w = record w { points = w.points ⊕ a_statement }

-- in the items of a `switch`, whose absent `default` is numbered before its labels
abbrev pub in_switch : Statements → Within → Within
in_switch items w = record w { points = w.points ⊕ unless_default (has_default items) }

-- after the first clause of a `for`, its test, its step
abbrev pub past_start : ForStart → Within → Within
past_start first w = past Plain (nodes.start first) w

abbrev pub past_test : Option Expression → Within → Within
past_test test w = past Plain (nodes.optional_test test) w

abbrev pub past_step : List Effect → Within → Within
past_step step w = past Plain (nodes.Whole (nodes.effects step)) w

-- at the closing brace of a function
abbrev pub points_at_end : Function → Points → Points
points_at_end g points = points ⊕ points_of_all g.body
