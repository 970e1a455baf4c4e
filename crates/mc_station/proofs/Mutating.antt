-- The command `mutate` has one reply, which is an answer.
use Rattle.std.proofs.Common.{◌≡◌, ◌∙◌, ◌+◌, ◌*◌, ◌/◌, ◌%◌, ◌<◌, ◌≤◌, ℕ, List, [], ◌∷◌, Option, Some, None, length, sym, ap, subst, arith}
use Rattle.std.specs.Prelude.{◌↔◌}
use Rattle.std.proofs.lemmas.Nat.{div-mul-add, mod-mul-add}
use Rattle.mc_core.specs.Matrix.{Holds, MatrixView}
use Rattle.mutate_lines.specs.Killers.{AreKillers, IsKiller, IsRecorded, item}
use Rattle.mutate_lines.specs.Lines.{AreOf, IsOf, mutant_lines}
use Rattle.mutate_lines.proofs.Least.{items_within, killers_are_one}
use Rattle.mc_mutate.specs.Mutants.{count}
use Rattle.mc_mutate.specs.Kills as items
use Rattle.mc_typed.specs.Plans.{Plan}
use Rattle.mc_typed.specs.Tree.{Program}
use Rattle.station_replies.specs.Reply.{Reply, written}
use Rattle.mc_station.specs.Laws.{IsLater}
use Rattle.mc_station.specs.Source.{Accepted}
use Rattle.mc_station.specs.Tests.{names, states}
use Rattle.mc_station.specs.commands.Mutate.{Kills, Mutates, changes_told, status_after}
use Rattle.mc_station.proofs.Written.{written_later}

module _ (accepted : Accepted) (plans : List Plan) where
  reply_by : List (Option ℕ) → Reply
  reply_by killers = written (status_after killers (states accepted.program plans)) (mutant_lines (names plans) (changes_told accepted) killers)

  pub one_mutation : (r q : Reply) → Mutates accepted plans r → Mutates accepted plans q → r ≡ q
  unfolding reply_by
  one_mutation r q (killers, are, is) (others, also, other) =
      let same : killers ≡ others = killers_are_one (Kills accepted.program plans) (length plans) 0 killers others (are.as_many ∙ sym also.as_many) are.each also.each in
      is ∙ ap reply_by same ∙ sym other

  pub mutation_keeps : (r : Reply) → Mutates accepted plans r → IsLater r
  mutation_keeps r (killers, are, is) = subst IsLater (sym is) (written_later _ _)

-- ---- items

module _ (p : Program) (plans : List Plan) where
  pub of_item : (number test : ℕ) → test < length plans → items.KillsAtItem p plans (item (length plans) number test) → Kills p plans number test
  of_item number test less kills =
      let mutant : item (length plans) number test / length plans ≡ number = div-mul-add number (length plans) test less in
      let place : item (length plans) number test % length plans ≡ test = mod-mul-add number (length plans) test less in
      record {
        mutant = kills.mutant;
        is_mutant = rw mutant at kills.is_mutant;
        plan = kills.plan;
        planned = rw place at kills.planned;
        killed = kills.killed;
      }

  pub to_item : (number test : ℕ) → test < length plans → Kills p plans number test → items.KillsAtItem p plans (item (length plans) number test)
  to_item number test less kills =
      let mutant : item (length plans) number test / length plans ≡ number = div-mul-add number (length plans) test less in
      let place : item (length plans) number test % length plans ≡ test = mod-mul-add number (length plans) test less in
      record {
        mutant = kills.mutant;
        is_mutant = rw mutant kills.is_mutant;
        plan = kills.plan;
        planned = rw place kills.planned;
        killed = kills.killed;
      }

-- ---- what the matrix has

module _ (p : Program) (plans : List Plan) (m : MatrixView) (recorded : (i : ℕ) → Holds m 0 i ↔ ((i < count p * length plans) × items.KillsAtItem p plans i)) where
  holds : (number test : ℕ) → number < count p → test < length plans → Kills p plans number test → IsRecorded m (length plans) number test
  holds number test inside less kills =
      let within = items_within number (count p) (length plans) inside in
      (recorded (item (length plans) number test)).1 (omega (arith, within, less), to_item p plans number test less kills)

  kills : (number test : ℕ) → test < length plans → IsRecorded m (length plans) number test → Kills p plans number test
  kills number test less is = of_item p plans number test less ((recorded (item (length plans) number test)).0 is).1

  of_killer : (number : ℕ) (k : Option ℕ) → number < count p → IsKiller (IsRecorded m (length plans) number) (length plans) k → IsKiller (Kills p plans number) (length plans) k
  of_killer number None inside none = λ test less is. none test less (holds number test inside less is)
  of_killer number (Some test) inside least = (
    least.0,
    (kills number test least.0 least.1.0, λ before sooner is. least.1.1 before sooner (holds number before inside (let less = least.0 in omega (arith, sooner, less)) is)),
  )

  pub of_killers : (from : ℕ) (ks : List (Option ℕ)) → from + length ks ≤ count p → AreKillers (IsRecorded m (length plans)) (length plans) from ks → AreKillers (Kills p plans) (length plans) from ks
  of_killers from [] fits all = tt
  of_killers from (k ∷ ks) fits all = (of_killer from k (omega (arith, fits)) all.0, of_killers (from + 1) ks (omega (arith, fits)) all.1)

-- the tests that kill are some of the tests
one_of : (kills : ℕ → Type 0) (tests : ℕ) (k : Option ℕ) → IsKiller kills tests k → IsOf tests k
one_of kills tests None is = tt
one_of kills tests (Some test) is = is.0

pub all_of : (kills : ℕ → ℕ → Type 0) (tests from : ℕ) (ks : List (Option ℕ)) → AreKillers kills tests from ks → AreOf tests ks
all_of kills tests from [] all = tt
all_of kills tests from (k ∷ ks) all = (one_of (kills from) tests k all.0, all_of kills tests (from + 1) ks all.1)
