-- The command `mutate`: which mutants of the decisions the tests kill, and which survive.
use Rattle.std.specs.Prelude.{◌≡◌, ◌<◌, ◌≤◌, ℕ, ◌+◌, ◌==◌, if◌then◌else◌, List, Option, Some, Result, Ok, Err, codes, length, map, slice_get}
use Rattle.mutate_lines.specs.Killers.{AreKillers}
use Rattle.mutate_lines.specs.Lines.{Told, mutant_lines, survived_of}
use Rattle.mc_lex.specs.Lines.{column_of, line_of}
use Rattle.mc_limits.specs.Limits.{most_mutants}
use Rattle.mc_mutate.specs.Kills.{IsKilled}
use Rattle.mc_mutate.specs.Mutants.{IsMutant, count, mutants}
use Rattle.mc_mutate.specs.declared.changes.Change.{Change}
use Rattle.mc_mutate.specs.declared.changes.MutantKind.{MutantKind}
use Rattle.mc_mutate.specs.declared.changes.MutantKind.TheVariants.{Exchanged, Negated, FixedTrue, FixedFalse, Shifted}
use Rattle.mc_typed.specs.Plans.{Plan}
use Rattle.mc_typed.specs.Tree.{Program}
use Rattle.mc_typed.specs.declared.plans.TestState.{TestState}
use Rattle.station_replies.specs.Reply.{Reply, refusal, written}
use Rattle.station_replies.specs.Texts.{mutants_line}
use Rattle.station_replies.specs.declared.status.Status.TheVariants.{TooManyMutants}
use Rattle.mc_station.specs.Source.{Accepted}
use Rattle.mc_station.specs.Tests.{names, states, status_where}

-- that the program has few enough mutants, or how many it has
abbrev pub FewMutants : Accepted → Result (Unit {0}) Reply → Type 0
FewMutants accepted (Ok u) = count accepted.program ≤ most_mutants
FewMutants accepted (Err reply) =
    (most_mutants < count accepted.program)
    × (reply ≡ refusal TooManyMutants (mutants_line (count accepted.program)))

-- ---- the text

abbrev pub kind_word : MutantKind → List ℕ
kind_word Exchanged = codes "exchanged"
kind_word Negated = codes "negated"
kind_word FixedTrue = codes "true"
kind_word FixedFalse = codes "false"
kind_word Shifted = codes "shifted"

-- where the node or the condition begins that is changed, and how
abbrev pub change_told : (source : List ℕ) → Change → Told
change_told source change = record {
  line = line_of source change.at;
  column = column_of source change.at;
  kind = kind_word change.kind;
}

-- of each mutant, in their order
abbrev pub changes_told : Accepted → List Told
changes_told accepted =
    map (λ m. change_told accepted.source m.change) (mutants accepted.program)

-- ---- what the tests come to

-- the test with this number kills the mutant with this one, both from 0
pub record Kills (p : Program) (plans : List Plan) (number test : ℕ) : Type 0 where
  pub mutant : Program
  pub is_mutant : IsMutant p (number + 1) mutant
  pub plan : Plan
  pub planned : slice_get plans test ≡ Some plan
  pub killed : IsKilled p mutant plan

-- for each mutant the least test that kills it, or none where it survives
pub record AreKilled (p : Program) (plans : List Plan) (killers : List (Option ℕ)) : Type 0 where
  pub each : AreKillers (Kills p plans) (length plans) 0 killers
  pub as_many : length killers ≡ count p

-- 0 where no mutant survives and all tests of the program passed, else 1
abbrev pub status_after : List (Option ℕ) → List TestState → ℕ
status_after killers tests = if survived_of killers == 0 then status_where tests else 1

abbrev pub Mutates : Accepted → List Plan → Reply → Type 0
Mutates accepted plans reply =
    (killers : List (Option ℕ)) × AreKilled accepted.program plans killers
    × (reply ≡ written (status_after killers (states accepted.program plans))
    (mutant_lines (names plans) (changes_told accepted) killers))
