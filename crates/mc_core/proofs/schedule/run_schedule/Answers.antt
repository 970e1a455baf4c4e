use Rattle.std.proofs.Common.{◌≡◌, ℕ, ◌+◌, ◌<◌, ◌≤◌, List, length, get_or, drop, sym, ap, ◌∙◌, subst, arith}
use Rattle.std.specs.Prelude.{All}
use Rattle.std.proofs.lemmas.List.{length-map, at_drop_more}
use Rattle.std.proofs.lemmas.List.Elements.{All-map}
use Rattle.mc_core.specs.Schedule.{Core, core_of, scripts_of, run, step}
use Rattle.mc_core.proofs.Machine.{step_draws}
use Rattle.mc_core.proofs.Kept.{IsKept, AreInRange, kept_step}
use Rattle.mc_core.proofs.Lawful.{draws_are, claims_are, pairs_are, finished_are}
use Rattle.mc_core.proofs.schedule.run_schedule.Goals as goal

pub loop-number-preserved : goal.loop-number-preserved
loop-number-preserved c =
    let scripts = scripts_of c.args.scripts.now in
    let all : c.args.shape.tests ≡ length scripts = sym c.requires.tests ∙ sym (length-map c.args.scripts.now (λ v. v.items)) in
    let in_range : AreInRange c.args.shape.bits scripts = All-map (λ (s : List ℕ). All (λ b. b < c.args.shape.bits) s) (λ v. v.items) c.args.scripts.now (λ k d less. (c.requires.scripts k d less).1) in
    let core : Core = core_of c.loop-number.state in
    let i : ℕ = c.loop-number.number-index in
    let schedule : List ℕ = c.args.schedule.now in
    let number : ℕ = get_or schedule i 0 in
    let stepped : core_of c.step.new.state ≡ step scripts core number = c.in_ok-step.ensures in
    let draws = step_draws scripts core number in record {
      same = ap (λ (x : Core). run scripts x (drop (i + 1) schedule)) stepped ∙ sym (at_drop_more (run scripts core) schedule i 0 c.loop-number-test.true) ∙ c.loop-number.invariant.same;
      few = let few = c.loop-number.invariant.few in subst (λ (x : Core). x.draws ≤ i + 1) (sym stepped) (omega arith);
      kept = subst (IsKept scripts c.args.shape) (sym stepped) (kept_step scripts c.args.shape all in_range core number c.loop-number.invariant.kept);
    }

pub returns-clause-draws : goal.returns-clause-draws
returns-clause-draws c =
    let scripts = scripts_of c.args.scripts.now in
    let all : c.args.shape.tests ≡ length scripts = sym c.requires.tests ∙ sym (length-map c.args.scripts.now (λ v. v.items)) in
    let in_range : AreInRange c.args.shape.bits scripts = All-map (λ (s : List ℕ). All (λ b. b < c.args.shape.bits) s) (λ v. v.items) c.args.scripts.now (λ k d less. (c.requires.scripts k d less).1) in
    draws_are scripts c.args.shape all in_range (core_of c.loop-number.state) c.loop-number.invariant.kept

pub returns-clause-claims : goal.returns-clause-claims
returns-clause-claims c =
    let scripts = scripts_of c.args.scripts.now in
    let all : c.args.shape.tests ≡ length scripts = sym c.requires.tests ∙ sym (length-map c.args.scripts.now (λ v. v.items)) in
    let in_range : AreInRange c.args.shape.bits scripts = All-map (λ (s : List ℕ). All (λ b. b < c.args.shape.bits) s) (λ v. v.items) c.args.scripts.now (λ k d less. (c.requires.scripts k d less).1) in
    claims_are scripts c.args.shape all in_range (core_of c.loop-number.state) c.loop-number.invariant.kept

pub returns-clause-pairs : goal.returns-clause-pairs
returns-clause-pairs c =
    let scripts = scripts_of c.args.scripts.now in
    let all : c.args.shape.tests ≡ length scripts = sym c.requires.tests ∙ sym (length-map c.args.scripts.now (λ v. v.items)) in
    let in_range : AreInRange c.args.shape.bits scripts = All-map (λ (s : List ℕ). All (λ b. b < c.args.shape.bits) s) (λ v. v.items) c.args.scripts.now (λ k d less. (c.requires.scripts k d less).1) in
    pairs_are scripts c.args.shape all in_range (core_of c.loop-number.state) c.loop-number.invariant.kept

pub returns-clause-finished : goal.returns-clause-finished
returns-clause-finished c =
    let scripts = scripts_of c.args.scripts.now in
    let all : c.args.shape.tests ≡ length scripts = sym c.requires.tests ∙ sym (length-map c.args.scripts.now (λ v. v.items)) in
    let in_range : AreInRange c.args.shape.bits scripts = All-map (λ (s : List ℕ). All (λ b. b < c.args.shape.bits) s) (λ v. v.items) c.args.scripts.now (λ k d less. (c.requires.scripts k d less).1) in
    finished_are scripts c.args.shape all in_range (core_of c.loop-number.state) c.loop-number.invariant.kept
