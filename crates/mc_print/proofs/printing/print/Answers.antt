use Rattle.std.proofs.Common.{refl, arith}
use Rattle.mc_print.proofs.Printed.{begins}
use Rattle.mc_print.proofs.printing.print.Goals as goal

pub returns-clause-bytes : goal.returns-clause-bytes
returns-clause-bytes g c =
    let o = g.K.Sink.written c.args.out.now in
    let f = g.K.Sink.faults c.args.out.now in
    c.finish.ensures.bytes o f _ (c.write_all.ensures o f _ (begins o f c.args.tokens.now _ refl refl refl refl))

pub returns-clause-later : goal.returns-clause-later
returns-clause-later g c =
    let o = g.K.Sink.written c.args.out.now in
    let f = g.K.Sink.faults c.args.out.now in
    let h = c.write_all.ensures o f _ (begins o f c.args.tokens.now _ refl refl refl refl) in
    omega (arith, h.later, c.finish.ensures.later)
