-- What is kept of tests that were run.
use Rattle.std.proofs.Common.{◌≡◌, ◌≢◌, ◌∙◌, ◌≤◌, true, ℕ, Bool, false, List, [], ◌∷◌, length, refl, sym, ap, subst, arith}
use Rattle.std.specs.Prelude.{All, not, ◌&&◌}
use Rattle.std.specs.List.{list_all, list_any}
use Rattle.std.specs.Str.{bytes_eq}
use Rattle.std.proofs.lemmas.List.{length-map}
use Rattle.std.proofs.lemmas.List.Elements.{All-nil, All-cons}
use Rattle.mc_limits.specs.Limits.{most_bits, most_words}
use Rattle.mc_core.specs.Laws.{AreWords, WordsFollowFromPairs}
use Rattle.mc_core.specs.Shape.{word_count}
use Rattle.mc_core.specs.declared.shape.Shape.{Shape}
use Rattle.mc_typed.specs.Plans.{Plan}
use Rattle.mc_typed.specs.Tree.{Program}
use Rattle.mc_typed.specs.Views.{program_of}
use Rattle.mc_typed.specs.declared.plans.Ending.{Ending}
use Rattle.mc_typed.specs.declared.plans.Ending.TheVariants as ending
use Rattle.mc_typed.specs.declared.plans.TestPlan.{TestPlan}
use Rattle.mc_typed.specs.declared.plans.TestState.{TestState}
use Rattle.mc_typed.specs.declared.plans.TestState.TheVariants.{Ended}
use Rattle.mc_meaning.specs.Tests.{are_met, plain_run, plain_state, state_where}
use Rattle.csv_records.specs.Names.{is_name}
use Rattle.mc_tests.specs.Seen.{seen_plans}
use Rattle.mc_tests.specs.Tests as tests
use Rattle.mc_record.specs.Kept.{IsKept, Kept, are_distinct}
use Rattle.mc_record.specs.Lines.{record_lines}
use Rattle.station_replies.specs.Reply.{Reply, written}
use Rattle.mc_station.specs.Laws.{IsLater}
use Rattle.mc_station.specs.Ran.{IsRun, kept_in}
use Rattle.mc_station.specs.Seen.{ArePlanned, HasItsTree, seen_accepted}
use Rattle.mc_station.specs.Source.{Accepted}
use Rattle.mc_station.specs.Tests.{names, shape_of, states, status_where}
use Rattle.mc_station.specs.commands.Record.{IsRecordOf, Records}
use Rattle.mc_station.specs.declared.accepted.Accepted.{Accepted as Given}
use Rattle.mc_station.specs.declared.ran.Ran.{Ran}
use Rattle.mc_station.proofs.Joining.{same_kept}
use Rattle.mc_station.proofs.Written.{written_later}

-- ---- the reply of `record`

module _ (skipped : List ℕ) (accepted : Accepted) (plans : List Plan) where
  one_kept : WordsFollowFromPairs → (a b : Kept) → IsRecordOf skipped accepted plans a → IsRecordOf skipped accepted plans b → a ≡ b
  one_kept law a b p q =
      same_kept law a b (p.digest ∙ sym q.digest) (p.names ∙ sym q.names) (p.states ∙ sym q.states) (p.shape ∙ sym q.shape) p.words q.words
      (λ bit test. (λ h. (q.pairs bit test).1 ((p.pairs bit test).0 h), λ h. (p.pairs bit test).1 ((q.pairs bit test).0 h)))

  pub one_record : WordsFollowFromPairs → (r q : Reply) → Records skipped accepted plans r → Records skipped accepted plans q → r ≡ q
  one_record law r q (a, p, is) (b, o, also) = is ∙ ap (λ (k : Kept). written (status_where k.states) (record_lines k)) (one_kept law a b p o) ∙ sym also

  pub record_keeps : (r : Reply) → Records skipped accepted plans r → IsLater r
  record_keeps r (kept, of, is) = subst IsLater (sym is) (written_later (status_where kept.states) (record_lines kept))

  -- what is kept of a run
  pub run_records : (ran : Ran) (r : Reply) → IsRun skipped accepted plans ran → AreWords ran.matrix.shape ran.matrix.words
      → r ≡ written (status_where ran.states.items) (record_lines (kept_in accepted.source ran)) → Records skipped accepted plans r
  run_records ran r run words is = (
    kept_in accepted.source ran,
    record { digest = refl; names = run.names; states = run.states; shape = run.shape; words = words; pairs = run.pairs },
    is,
  )

-- ---- it can be written

-- a test whose calls returned has passed or failed
judged : (e : Ending) (met : Bool) → state_where e met ≢ Ended ending.Returned
judged ending.Returned true is = cc is
judged ending.Returned false is = cc is
judged (ending.Trap t) met is = cc is
judged ending.Fuel met is = cc is
judged ending.Levels met is = cc is
judged ending.Cells met is = cc is
judged ending.OutputFull met is = cc is

all_judged : (p : Program) (plans : List Plan) → All (λ (s : TestState). s ≢ Ended ending.Returned) (states p plans)
all_judged p [] = All-nil (λ (s : TestState). s ≢ Ended ending.Returned)
all_judged p (plan ∷ plans) =
    let r = plain_run p plan in
    All-cons (λ (s : TestState). s ≢ Ended ending.Returned) (plain_state p plan) (states p plans) (judged r.ending (are_met plan.calls r.done 0 r.state.output)) (all_judged p plans)

-- a tests file and a record say in the same way that names differ
same_distinct : (ns : List (List ℕ)) → tests.are_distinct ns ≡ are_distinct ns
same_distinct [] = refl
same_distinct (n ∷ ns) = ap (λ (b : Bool). not (list_any (bytes_eq n) ns) && b) (same_distinct ns)

pub can_be_kept : (skipped : List ℕ) (a : Given) (plans : List TestPlan) (ran : Ran) → HasItsTree a → ArePlanned a plans → word_count (shape_of (seen_accepted a) (seen_plans plans)) ≤ most_words
    → IsRun skipped (seen_accepted a) (seen_plans plans) ran → IsKept (kept_in a.source.now ran)
can_be_kept skipped a plans ran is planned small run =
    let p = program_of a.tree.program in
    let all = seen_plans plans in
    let count : ran.matrix.shape.tests ≡ length all = ap (λ (s : Shape). s.tests) run.shape in
    let bits : ran.matrix.shape.bits ≡ a.map.bits = ap (λ (s : Shape). s.bits) run.shape in
    let few : a.map.bits ≤ most_bits = is.tree.is_map.kept.few in
    let many : length all ≡ length plans = length-map plans _ in
    let few_plans = planned.few in
    record {
      names = ap length run.names ∙ length-map all _ ∙ sym count;
      states = ap length run.states ∙ length-map all _ ∙ sym count;
      named = subst (λ (ns : List (List ℕ)). list_all is_name ns ≡ true) (sym run.names) planned.named.each;
      distinct = subst (λ (ns : List (List ℕ)). are_distinct ns ≡ true) (sym run.names) (sym (same_distinct (names all)) ∙ planned.named.distinct);
      judged = subst (λ (ss : List TestState). All (λ (s : TestState). s ≢ Ended ending.Returned) ss) (sym run.states) (all_judged p all);
      few_bits = omega (arith, bits, few);
      few_tests = omega (arith, count, many, few_plans);
      few_words = subst (λ (s : Shape). word_count s ≤ most_words) (sym run.shape) small;
    }
