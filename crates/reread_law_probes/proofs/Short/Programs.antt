-- The numbers of an instrumented program are short.
use Rattle.std.proofs.Common.{◌≡◌, ◌∙◌, ap, ◌+◌, ◌≤◌, length, arith}
use Rattle.std.proofs.lemmas.List.{length-map}
use Rattle.mc_limits.specs.Limits.{most_bits}
use Rattle.decide_rules.specs.Nodes.{functions}
use Rattle.decide_rules.specs.Counts.{roots_in}
use Rattle.mc_steps.specs.Points.{no_points}
use Rattle.mc_probe.specs.Maps.{first_path}
use Rattle.mc_probe.proofs.Counted.{events_listed}
use Rattle.reread_law_probes.specs.short.Laws.{InstrumentedNumbersAreShort}
use Rattle.reread_law_probes.proofs.Short.Numbers.{few_decisions, base_most, increment_most, decisions_are}
use Rattle.reread_law_probes.proofs.Short.Shorts.{all_of, functions_short}

pub numbers_short : InstrumentedNumbersAreShort
numbers_short p m h =
    let listed = events_listed p in
    let s : length m.statements ≡ (all_of p.functions).statements = ap length h.statements ∙ listed.statements in
    let e : length m.exits ≡ (all_of p.functions).exits = ap length h.exits ∙ listed.exits in
    let l : length m.labels ≡ (all_of p.functions).labels = ap length h.labels ∙ listed.labels in
    let a : length m.entries ≡ length p.functions = ap length h.entries ∙ length-map p.functions (λ f. f.name_span) in
    let d : length m.decisions ≡ roots_in (functions p.functions) = decisions_are p m.decisions h.decisions in
    let all : first_path m + length m.decisions ≤ m.bits = few_decisions m.decisions (first_path m) m.bits h.kept.based in
    let few : m.bits ≤ most_bits = h.kept.few in
    functions_short m
    (λ i. let base = base_most m.decisions (first_path m) m.bits i h.kept.based in omega (arith, base, few))
    (λ i c. let add = increment_most m.decisions (first_path m) m.bits i c h.kept.based h.kept.placed in omega (arith, add, few))
    0 0 no_points p.functions
    (omega (arith, a, all, few)) (omega (arith, s, d, all, few)) (omega (arith, s, all, few)) (omega (arith, e, all, few)) (omega (arith, l, all, few))
