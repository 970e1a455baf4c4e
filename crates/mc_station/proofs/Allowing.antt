-- What a task asks for beside its tests.
use Rattle.std.proofs.Common.{◌≡◌, ◌∙◌, ◌≤◌, ◌⊎◌, ℕ, List, Some, Result, Ok, Err, refl, sym, inl, inr, arith}
use Rattle.mc_limits.specs.Limits.{most_words}
use Rattle.mc_command.specs.Command as command
use Rattle.mc_command.specs.Command.{Task}
use Rattle.mc_typed.specs.Plans.{Plan}
use Rattle.station_replies.specs.Phases.{IsOne}
use Rattle.station_replies.specs.Reply.{Reply}
use Rattle.mc_station.specs.Causes.{IsToMutate}
use Rattle.mc_station.specs.Source.{Accepted}
use Rattle.mc_station.specs.Stages.{Allows, justified_by}
use Rattle.mc_station.specs.Tests.{MatrixFits, words_needed}
use Rattle.mc_station.specs.commands.Mutate.{FewMutants}
use Rattle.mc_station.proofs.Phases.{one_fit}

one_few : (accepted : Accepted) → IsOne (FewMutants accepted)
one_few accepted (Ok u) (Ok v) few also = refl
one_few accepted (Ok u) (Err s) few (many, is) = absurd (omega (arith, many, few))
one_few accepted (Err r) (Ok v) (many, is) few = absurd (omega (arith, many, few))
one_few accepted (Err r) (Err s) (many, is) (also, other) = inl (is ∙ sym other)

pub one_allowed : (task : Task) (accepted : Accepted) (plans : List Plan) → IsOne (Allows task accepted plans)
one_allowed (command.on_matrix told) accepted plans = one_fit accepted plans
one_allowed (command.watched looks) accepted plans = one_fit accepted plans
one_allowed command.mutated accepted plans = one_few accepted
one_allowed command.traced accepted plans = one_fit accepted plans

module _ (accepted : Accepted) (plans : List Plan) where
  -- the matrix, or the mutants
  abbrev pub Asked : Task → Result (Unit {0}) Reply → Type 0
  Asked task v = ((¬ IsToMutate task) × MatrixFits accepted plans v) ⊎ (IsToMutate task × FewMutants accepted v)

  pub asked : (task : Task) (v : Result (Unit {0}) Reply) → Allows task accepted plans v → Asked task v
  asked (command.on_matrix told) v allows = inl ((λ no. no), allows)
  asked (command.watched looks) v allows = inl ((λ no. no), allows)
  asked command.mutated v allows = inr (tt, allows)
  asked command.traced v allows = inl ((λ no. no), allows)

  pub allows_matrix : (task : Task) (v : Result (Unit {0}) Reply) → ¬ IsToMutate task → MatrixFits accepted plans v → Allows task accepted plans v
  allows_matrix (command.on_matrix told) v other fits = fits
  allows_matrix (command.watched looks) v other fits = fits
  allows_matrix command.mutated v other fits = absurd (other tt)
  allows_matrix command.traced v other fits = fits

  pub allows_mutants : (task : Task) (v : Result (Unit {0}) Reply) → IsToMutate task → FewMutants accepted v → Allows task accepted plans v
  allows_mutants (command.on_matrix told) v is few = absurd is
  allows_mutants (command.watched looks) v is few = absurd is
  allows_mutants command.mutated v is few = few
  allows_mutants command.traced v is few = absurd is

-- a task with a file of justifications is not `mutate`
pub not_mutated : (task : Task) (name : List ℕ) → justified_by task ≡ Some name → ¬ IsToMutate task
not_mutated (command.on_matrix told) name is = λ no. no
not_mutated (command.watched looks) name is = λ no. no
not_mutated command.mutated name is = absurd (cc is)
not_mutated command.traced name is = λ no. no

-- so its matrix fits
pub allowed_fits : (task : Task) (name : List ℕ) (accepted : Accepted) (plans : List Plan) (u : Unit {0}) → justified_by task ≡ Some name → Allows task accepted plans (Ok u) → words_needed accepted plans ≤ most_words
allowed_fits task name accepted plans u is allows = elim (asked accepted plans task (Ok u) allows) [
  | inl matrix ↦ matrix.1
  | inr mutants ↦ absurd (not_mutated task name is mutants.0)
]
