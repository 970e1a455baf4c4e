use Rattle.std.proofs.Common.{◌∙◌, map, ap, sym}
use Rattle.mutate_lines.specs.Seen.{told_of}
use Rattle.mc_mutate.specs.Mutants.{count}
use Rattle.mc_port.specs.Lines.{bytes_of}
use Rattle.mc_typed.specs.Views.{program_of}
use Rattle.mc_tests.specs.Seen.{seen_plans}
use Rattle.mc_station.specs.Replied.{seen_reply}
use Rattle.mc_station.specs.Seen.{seen_accepted}
use Rattle.mc_station.proofs.Killing.{counted, reply_is, tests_of, told_changes}
use Rattle.mc_station.proofs.commands.mutate.told.Goals as goal

pub change_lines-requires-clause-all : goal.change_lines-requires-clause-all
change_lines-requires-clause-all c =
    let same = ap program_of c.program-program.ensures.program in
    counted (program_of c.args.accepted.now.tree.program) (program_of c.program-program.result.now) c.count_mutants-mutants.result same c.count_mutants-mutants.ensures.known c.requires.mutable.few ∙ ap count (sym same)

pub mutant_lines-requires-clause-tests : goal.mutant_lines-requires-clause-tests
mutant_lines-requires-clause-tests c =
    tests_of (program_of c.args.accepted.now.tree.program) (seen_plans c.args.plans.now) c.args.killers.now c.deref.result.now (c.deref.ensures.value ∙ c.in_ok-names.ensures) c.requires.killed

pub returns : goal.returns
returns c =
    let p = program_of c.args.accepted.now.tree.program in
    let same = ap program_of c.program-program.ensures.program in
    let changes = told_changes c.args.accepted.now.source.now p (program_of c.program-program.result.now) (map told_of c.deref-2.result.now) same (ap (map told_of) c.deref-2.ensures.value ∙ c.in_ok-changes.ensures) in (
      c.args.killers.now,
      c.requires.killed,
      reply_is (seen_accepted c.args.accepted.now) (seen_plans c.args.plans.now) c.args.killers.now (seen_reply c.of_lines.result) c.number_after.result c.args.states.now (bytes_of c.in_ok-lines.lines.items)
          c.deref.result.now (map told_of c.deref-2.result.now) c.of_lines.ensures c.number_after.ensures c.requires.states c.in_ok-lines.ensures (c.deref.ensures.value ∙ c.in_ok-names.ensures) changes,
    )
