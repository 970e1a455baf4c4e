use Rattle.std.proofs.lemmas.Result.{IfOk-weaker}
use Rattle.mc_typed.specs.Views.{program_of}
use Rattle.mc_tests.specs.Seen.{seen_plans}
use Rattle.mc_tests.proofs.Fitting.{file-good}
use Rattle.mc_tests.proofs.read.read_tests.Goals as goal

pub returns-clause-fit : goal.returns-clause-fit
returns-clause-fit c =
    IfOk-weaker c.read_rows.result _ _ (λ v is.
    (file-good (program_of c.args.program.now) c.args.fuel c.requires.some c.requires.few c.of-rows.result (seen_plans v.items) (rw c.functions.ensures.functions at is)).fit) c.read_rows.ensures.plans

pub returns-clause-named : goal.returns-clause-named
returns-clause-named c =
    IfOk-weaker c.read_rows.result _ _ (λ v is.
    (file-good (program_of c.args.program.now) c.args.fuel c.requires.some c.requires.few c.of-rows.result (seen_plans v.items) (rw c.functions.ensures.functions at is)).named) c.read_rows.ensures.plans

pub returns-clause-few : goal.returns-clause-few
returns-clause-few c =
    IfOk-weaker c.read_rows.result _ _ (λ v is.
    (file-good (program_of c.args.program.now) c.args.fuel c.requires.some c.requires.few c.of-rows.result (seen_plans v.items) (rw c.functions.ensures.functions at is)).few) c.read_rows.ensures.plans
