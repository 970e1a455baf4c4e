use Rattle.std.proofs.Common.{◌≡◌, drop, vec_len}
use Rattle.mc_oblige.specs.steps.Named.{all_named}
use Rattle.mc_oblige.proofs.judging.justify_all.Given as goal

abbrev pub invariant-loop-justification : goal.invariant-loop-justification
invariant-loop-justification l = record {
  count : vec_len l.verdicts ≡ vec_len l.initial.verdicts;
  rest : all_named l.verdicts.items (drop l.justification-index l.justified) ≡ all_named l.initial.verdicts.items l.justified;
}
