use Rattle.std.proofs.Common.{◌+◌, List, drop, get_or, subst, sym}
use Rattle.mc_value.specs.declared.int_type.IntType.TheVariants.{Bool}
use Rattle.mc_typed.specs.declared.objects.Object.{Object}
use Rattle.mc_interp.specs.declared.values.Passed.{Passed}
use Rattle.mc_interp.specs.declared.values.Passed.TheVariants as passed
use Rattle.mc_interp.proofs.Passes.{StillPassing, drop_end, first_passing, passing_here, passing_ran, passing_start, passing_step}
use Rattle.mc_interp.proofs.entries.pass.Goals as goal

pub loop-given-init : goal.loop-given-init
loop-given-init c = passing_start c.args.passed.now c.args.objects.now c.args.base c.args.store.now c.requires.passing

pub returns-clause-ran : goal.returns-clause-ran
returns-clause-ran c =
    let h = subst (λ (l : List Passed). StillPassing c.args.passed.now l c.args.objects.now c.loop-given.left.now c.args.base c.args.store.now c.loop-given.store)
    (drop_end c.args.passed.now c.loop-given.given-index c.loop-given-test.false) c.loop-given.invariant in
    passing_ran c.args.passed.now c.args.objects.now c.loop-given.left.now c.args.base c.args.store.now c.loop-given.store h

pub returns-clause-typed : goal.returns-clause-typed
returns-clause-typed c types qs h s = (c.loop-given.invariant.typed types qs h s).3

pub returns-clause-cells : goal.returns-clause-cells
returns-clause-cells c = c.loop-given.invariant.cells

pub returns-clause-registers : goal.returns-clause-registers
returns-clause-registers c = c.loop-given.invariant.registers

pub returns-clause-fuel : goal.returns-clause-fuel
returns-clause-fuel c = c.loop-given.invariant.fuel

pub returns-clause-limits : goal.returns-clause-limits
returns-clause-limits c = c.loop-given.invariant.limits

-- the argument of this turn
pub pass_one-left-requires : goal.pass_one-left-requires
pass_one-left-requires c =
    let l = c.loop-given in
    let xs = c.args.passed.now in
    let x = get_or xs l.given-index (passed.Number Bool 0) in
    let h = passing_here xs l.given-index (passed.Number Bool 0) c.args.objects.now l.left.now c.args.base c.args.store.now l.store c.loop-given-test.true l.invariant in
    record { passing = first_passing x (drop (l.given-index + 1) xs) l.left.now c.args.base l.store h.passing }

pub loop-given-preserved : goal.loop-given-preserved
loop-given-preserved c =
    let l = c.loop-given in
    let xs = c.args.passed.now in
    let e = c.pass_one-left.ensures in
    let x = get_or xs l.given-index (passed.Number Bool 0) in
    let rest = drop (l.given-index + 1) xs in
    let n = c.pass_one-left.new.store in
    let h = passing_here xs l.given-index (passed.Number Bool 0) c.args.objects.now l.left.now c.args.base c.args.store.now l.store c.loop-given-test.true l.invariant in
    subst (λ (os : List Object). StillPassing xs rest c.args.objects.now os c.args.base c.args.store.now n) (sym e.left)
    (passing_step xs rest x c.args.objects.now l.left.now c.args.base c.args.store.now l.store n h e.ran e.typed e.cells e.registers e.fuel e.limits)
