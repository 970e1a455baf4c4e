use Rattle.std.proofs.Common.{◌≡◌, true, false, arith, sym, ◌∙◌, get_or}
use Rattle.mc_cond.specs.Tree.{tree_of}
use Rattle.mc_unique.proofs.Comparing.{partner_here, partner_past, partner_none, none_off, none_more, idle_unpaired}
use Rattle.mc_unique.proofs.unique.least_partner.Goals as goal
use Rattle.mc_unique.proofs.unique.least_partner.Goals.{then-in_use+else-not-are_alike+else-are_paired, else-in_use}

pub returns-then-not-are_alike-clause-none : goal.returns-then-not-are_alike-clause-none
returns-then-not-are_alike-clause-none c =
    partner_past (tree_of c.args.numbering.now) c.args.k c.requires.numbered c.args.seen.now c.requires.ascending c.args.at c.requires.at c.loop-next.next c.loop-next.invariant
    (omega (arith, c.loop-next.auto.next, c.requires.later)) c.loop-next-test.true (c.in_use.ensures.0 c.if-in_use.true)
    (λ alike. let f : true ≡ false = sym (c.are_alike.ensures.1 alike) ∙ c.if-not-are_alike.true in cc)

pub returns-then-are_paired-clause-some : goal.returns-then-are_paired-clause-some
returns-then-are_paired-clause-some c =
    partner_here (tree_of c.args.numbering.now) c.args.k c.requires.numbered c.args.seen.now c.requires.ascending c.args.at c.requires.at c.loop-next.next c.loop-next.invariant
    c.loop-next-test.true (c.are_paired.ensures.0 c.if-are_paired.true)

pub returns-clause-none : goal.returns-clause-none
returns-clause-none c =
    partner_none (tree_of c.args.numbering.now) c.args.k c.requires.numbered c.args.seen.now c.requires.ascending c.args.at c.requires.at c.loop-next.next c.loop-next.invariant (omega (arith, c.loop-next-test.false))

pub loop-next-init : goal.loop-next-init
loop-next-init c = none_off (tree_of c.args.numbering.now) c.args.k c.requires.numbered c.args.seen.now c.requires.ascending c.args.at c.requires.at c.args.off c.requires.passed

pub loop-next-preserved : goal.loop-next-preserved
loop-next-preserved c =
    let t = tree_of c.args.numbering.now in
    elim c.if-in_use.branch [
      | then-in_use+else-not-are_alike+else-are_paired w ↦
          none_more t c.args.k c.requires.numbered c.args.seen.now c.requires.ascending c.args.at c.requires.at c.loop-next.next c.loop-next.invariant
          (λ x. let f : true ≡ false = sym (w.are_paired.ensures.1 x) ∙ w.if-are_paired.false in cc)
      | else-in_use w ↦
          none_more t c.args.k c.requires.numbered c.args.seen.now c.requires.ascending c.args.at c.requires.at c.loop-next.next c.loop-next.invariant
          (idle_unpaired t c.args.k c.requires.numbered c.args.seen.now c.requires.ascending (get_or c.args.seen.now c.args.at 0) (get_or c.args.seen.now c.loop-next.next 0)
          (λ used. let f : true ≡ false = sym (c.in_use.ensures.1 used) ∙ w.if-in_use.false in cc))
    ]
