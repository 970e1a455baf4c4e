-- What happens in a run, as far as coverage asks (DO-178C, glossary).
use Rattle.std.specs.Prelude.{ℕ}
use Rattle.mc_cond.specs.Vectors.{Evaluation}

-- Functions, exits, counted statements, labels and decisions have each their numbers from 0, over
-- the whole program in the order of the text.
pub data Event : Type 0 where
  -- the function is entered
  Entered : ℕ → Event
  -- the `return` or the closing brace is reached
  Exited : ℕ → Event
  -- the statement is started
  Started : ℕ → Event
  -- the `switch` chooses the label, or the `default` that is absent
  Chosen : ℕ → Event
  -- the decision has its outcome, with these answers of its conditions
  Evaluated : ℕ → Evaluation → Event
