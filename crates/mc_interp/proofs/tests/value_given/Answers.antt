use Rattle.std.proofs.Common.{◌≡◌, ℕ, ℤ, Some, None, ap}
use Rattle.mc_value.specs.declared.int_type.IntType.{IntType}
use Rattle.mc_typed.specs.Tree as t
use Rattle.mc_steps.specs.Calls.{number_given}
use Rattle.mc_steps.specs.Tests as steps
use Rattle.mc_steps.specs.Runs.{Run, State, after, gives}
use Rattle.mc_steps.specs.Statements.{Given}
use Rattle.mc_probe.specs.Flat.{Flat}
use Rattle.mc_interp.specs.declared.store.Store.{Store}
use Rattle.mc_interp.specs.declared.values.Given as code
use Rattle.mc_interp.specs.declared.values.Given.TheVariants as given
use Rattle.mc_interp.specs.Calls.{IsResultOf}
use Rattle.mc_interp.specs.Stores.{given_of, state_of, told, IsNumber}
use Rattle.mc_interp.proofs.tests.value_given.Goals as goal

number_result : (a : IntType) (v : code.Given) → IsResultOf None (t.NumberResult a) v → IsNumber a v
number_result a given.Nothing h = tt
number_result a (given.Number of word) h = h
number_result a (given.Structure at n) h = tt

-- where no number was given the run stopped
stopped : (a : IntType) (v : Given ℕ) (s : State Flat) (m : Store) → number_given v s ≡ told None m → steps.value_given (t.NumberResult a) v s ≡ told None m
stopped a v s m e = ap (λ (r : Run Flat ℕ ℤ). after r (λ x s. gives (Some x) s)) e

pub returns-in_err-word-in-Int-clause-ran : goal.returns-in_err-word-in-Int-clause-ran
returns-in_err-word-in-Int-clause-ran c =
    let m = c.args.store.now in
    let n = c.number_given.new.self in
    let a = c.in-Int.of in
    let h = rw c.in-Int.is at c.requires.given in
    let e = stopped a (given_of m.given) (state_of m) n (c.in_err-word-in-Int.ensures.ran a (number_result a m.given h)) in
    rw (c.from_residual.ensures, c.in-Int.is) e
