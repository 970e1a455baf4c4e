use Rattle.mc_print.specs.steps.Holds.{gap_bytes}
use Rattle.mc_print.proofs.Printed.{ends_none, ends_some}
use Rattle.mc_print.proofs.printing.finish.Goals as goal

pub returns-in-Some-clause-bytes : goal.returns-in-Some-clause-bytes
returns-in-Some-clause-bytes g c = λ start first p h.
    ends_some start (g.K.Sink.written c.args.out.now) first (g.K.Sink.faults c.args.out.now) p.written c.args.pen.now.fault c.in-Some.fault c.in-Some.is h.bytes

pub returns-in-None-clause-bytes : goal.returns-in-None-clause-bytes
returns-in-None-clause-bytes g c = λ start first p h.
    ends_none start (g.K.Sink.written c.args.out.now) (g.K.Sink.written c.put.new.self) first (g.K.Sink.faults c.args.out.now) (g.K.Sink.faults c.put.new.self) p.written
    (gap_bytes c.args.pen.now.gap) c.ending.result.now c.args.pen.now.fault c.put.result c.in-None.is c.ending.ensures h.gap h.later c.put.ensures.later h.bytes c.put.ensures.bytes
