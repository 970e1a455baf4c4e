use Rattle.mc_command.specs.Seen.{seen_judging}
use Rattle.mc_tests.specs.Seen.{seen_plans}
use Rattle.mc_station.specs.Replied.{seen_reply}
use Rattle.mc_station.specs.Seen.{seen_accepted}
use Rattle.mc_station.proofs.Recording.{run_records}
use Rattle.mc_station.proofs.Reported.{run_judges, run_lists, run_reduces}
use Rattle.mc_station.proofs.told.tell.Goals as goal

pub returns-in-Judge : goal.returns-in-Judge
returns-in-Judge c = rw c.in-Judge.is (λ skipped run.
    run_judges skipped (seen_accepted c.args.accepted) (seen_plans c.args.plans.now) c.args.ran c.args.justifications.now run (seen_judging c.in-Judge.asked) c.judged.result c.judged.ensures)

pub returns-in-Vectors : goal.returns-in-Vectors
returns-in-Vectors c = rw c.in-Vectors.is (λ skipped run.
    run_lists skipped (seen_accepted c.args.accepted) (seen_plans c.args.plans.now) c.args.ran c.args.justifications.now run c.vectors.result c.vectors.ensures)

pub returns-in-Reduce : goal.returns-in-Reduce
returns-in-Reduce c = rw c.in-Reduce.is (λ skipped run.
    run_reduces skipped (seen_accepted c.args.accepted) (seen_plans c.args.plans.now) c.args.ran run c.in-Reduce.mode c.reduce.result c.reduce.ensures)

pub returns : goal.returns
returns c = rw c.in-Record.is (λ skipped run.
    run_records skipped (seen_accepted c.args.accepted) (seen_plans c.args.plans.now) c.args.ran (seen_reply c.record-reply.result) run c.record-reply.ensures.words c.record-reply.ensures.reply)
