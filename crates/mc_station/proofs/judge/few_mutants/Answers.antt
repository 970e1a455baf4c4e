use Rattle.std.proofs.Common.{◌≡◌, map, ap, arith}
use Rattle.mc_typed.specs.Views.{program_of}
use Rattle.decide_rules.specs.Seen.{decision_of}
use Rattle.mc_probe.specs.BitMaps.{map_of}
use Rattle.mc_mutate.specs.Mutants.{count}
use Rattle.station_replies.specs.Reply.{refusal}
use Rattle.station_replies.specs.Texts.{mutants_line}
use Rattle.station_replies.specs.declared.status.Status.TheVariants.{TooManyMutants}
use Rattle.mc_station.proofs.Counted.{is_count}
use Rattle.mc_station.proofs.judge.few_mutants.Goals as goal

pub returns-then-count-gt-MOST_MUTANTS-clause-judges : goal.returns-then-count-gt-MOST_MUTANTS-clause-judges
returns-then-count-gt-MOST_MUTANTS-clause-judges c =
    let p = program_of c.args.accepted.now.tree.program in
    let known = rw c.program.ensures.program at c.count_mutants-count.ensures.known in
    let same : c.count_mutants-count.result ≡ count p = is_count p (map_of c.args.accepted.now.map) c.requires.tree.is_map (map decision_of c.in_ok-decisions.decisions.items) c.in_ok-decisions.ensures c.count_mutants-count.result known in
    (rw same at c.if-count-gt-MOST_MUTANTS.true, ap (λ n. refusal TooManyMutants (mutants_line n)) same)

pub returns-clause-judges : goal.returns-clause-judges
returns-clause-judges c =
    let p = program_of c.args.accepted.now.tree.program in
    let known = rw c.program.ensures.program at c.count_mutants-count.ensures.known in
    let same : c.count_mutants-count.result ≡ count p = is_count p (map_of c.args.accepted.now.map) c.requires.tree.is_map (map decision_of c.in_ok-decisions.decisions.items) c.in_ok-decisions.ensures c.count_mutants-count.result known in
    omega (arith, same, c.if-count-gt-MOST_MUTANTS.false)

pub returns-clause-mutable : goal.returns-clause-mutable
returns-clause-mutable c =
    let p = program_of c.args.accepted.now.tree.program in
    let known = rw c.program.ensures.program at c.count_mutants-count.ensures.known in
    let same : c.count_mutants-count.result ≡ count p = is_count p (map_of c.args.accepted.now.map) c.requires.tree.is_map (map decision_of c.in_ok-decisions.decisions.items) c.in_ok-decisions.ensures c.count_mutants-count.result known in
    record {
      decisions = c.in_ok-decisions.ensures;
      few = omega (arith, same, c.if-count-gt-MOST_MUTANTS.false);
    }
