-- What is told of runs is what is to be told of the plain runs.
use Rattle.laws_results.specs.Laws.{TracesArePlain}
use Rattle.mc_results.proofs.Plain.{traces_are_plain}
use Rattle.mc_runner.proofs.Standing.{events_are_of}

pub traces_are : TracesArePlain
traces_are p m tree plans ready =
    traces_are_plain p m tree plans ready.sound ready.is_tree ready.fit (λ plan. events_are_of p m ready.is_tree.is_map ready.sound plan)
