-- What the code calls a decision, as a value of the definitions.
use Rattle.std.specs.Prelude.{List}
use Rattle.mc_cond.specs.Tree.{tree_of}
use Rattle.mc_typed.specs.Tree.{Function}
use Rattle.decide_rules.specs.declared.decision.Decision as code
use Rattle.decide_rules.specs.declared.fault.DecideFault.{DecideFault}
use Rattle.decide_rules.specs.declared.fault.DecideFault.TheVariants.{TooManyConditions, OutOfMemory}
use Rattle.decide_rules.specs.Decisions.{Decision, AreDecisions, IsFirstLarge}

-- what a decision of the program stands for
abbrev pub decision_of : code.Decision → Decision
decision_of d = record {
  root = d.root;
  function = d.function;
  tree = tree_of d.tree;
  conditions = d.conditions.items;
}

-- when a fault comes
abbrev pub IsFault : List Function → DecideFault → Type 0
IsFault fs (TooManyConditions at count) =
    (ds : List Decision) × AreDecisions fs ds × IsFirstLarge ds at count
IsFault fs OutOfMemory = Unit {0}
