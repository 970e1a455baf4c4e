-- How many switches stand in a statement.
use Rattle.std.specs.Prelude.{ℕ, ◌+◌}
use Rattle.mc_typed.specs.Tree as typed

abbrev mutual
  pub switches : typed.Statement → ℕ
  switches (typed.Compound items span) = switches_all items
  switches (typed.If e s keyword span) = switches s
  switches (typed.IfElse e s u keyword span) = switches s + switches u
  switches (typed.Switch e items keyword span) = 1 + switches_all items
  switches (typed.For start condition step s keyword span) = switches s
  switches (typed.DoWhile s e keyword span) = switches s
  switches _ = 0

  pub switches_all : typed.Statements → ℕ
  switches_all typed.no_statements = 0
  switches_all (typed.statements s rest) = switches s + switches_all rest
