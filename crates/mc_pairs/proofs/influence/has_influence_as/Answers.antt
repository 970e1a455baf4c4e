use Rattle.std.proofs.Common.{◌≡◌, true, false, sym, ◌∙◌}
use Rattle.mc_cond.specs.Tree.{tree_of}
use Rattle.mc_pairs.proofs.Influential.{as_value, no_value, idle_value}
use Rattle.mc_pairs.proofs.influence.has_influence_as.Goals as goal

pub returns : goal.returns
returns c =
    let t = tree_of c.args.numbering.now in
    let v = c.in_use.ensures.0 c.if-not-in_use.false in
    let value = c.value.ensures v.0 v.1 c.args.k in
    as_value t c.args.k c.args.path v.0 c.requires.numbered v.1 c.has_bit-2.result
    (λ h. value.0 (c.has_bit-2.ensures.0 h), λ e. c.has_bit-2.ensures.1 (value.1 e))
    ((c.influence.ensures v.0 v.1 c.args.k).0 (c.has_bit.ensures.0 c.if-not-has_bit.false)) c.args.value

pub returns-then-not-in_use : goal.returns-then-not-in_use
returns-then-not-in_use c =
    let t = tree_of c.args.numbering.now in
    idle_value t c.args.k c.args.path (λ used. let f : true ≡ false = sym (c.in_use.ensures.1 used) ∙ c.if-not-in_use.true in cc) c.args.value

pub returns-then-not-has_bit : goal.returns-then-not-has_bit
returns-then-not-has_bit c =
    let t = tree_of c.args.numbering.now in
    let v = c.in_use.ensures.0 c.if-not-in_use.false in
    no_value t c.args.k c.args.path v.0 c.requires.numbered v.1
    (λ influence. let f : true ≡ false = sym (c.has_bit.ensures.1 ((c.influence.ensures v.0 v.1 c.args.k).1 influence)) ∙ c.if-not-has_bit.true in cc) c.args.value
