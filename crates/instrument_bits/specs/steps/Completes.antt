-- Parts of what is asked of a body.
use Rattle.std.specs.Prelude.{Bool, false, None}
use Rattle.mc_typed.specs.Tree.{Statement}
use Rattle.mc_typed.specs.Tree as typed
use Rattle.mc_steps.specs.Statements.{same_label}

-- the statement is the label `default`
abbrev pub is_default : Statement → Bool
is_default (typed.Label v span) = same_label None v
is_default _ = false
