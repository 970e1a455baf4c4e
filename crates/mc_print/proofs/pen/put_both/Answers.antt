use Rattle.mc_port.proofs.Puts.{puts_then, puts_stops}
use Rattle.mc_print.proofs.pen.put_both.Goals as goal

pub returns-in-Ok-clause-bytes : goal.returns-in-Ok-clause-bytes
returns-in-Ok-clause-bytes g c =
    puts_then (g.K.Sink.written c.args.out.now) (g.K.Sink.written c.put.new.self) (g.K.Sink.written c.put-in-Ok.new.self) (g.K.Sink.faults c.args.out.now) (g.K.Sink.faults c.put.new.self) (g.K.Sink.faults c.put-in-Ok.new.self)
    c.args.gap.now c.args.text.now c.in-Ok.field-0 c.put-in-Ok.result c.in-Ok.ensures.bytes c.put-in-Ok.ensures.bytes c.put.ensures.later c.put-in-Ok.ensures.later

pub returns-in-Err-clause-bytes : goal.returns-in-Err-clause-bytes
returns-in-Err-clause-bytes g c =
    puts_stops (g.K.Sink.written c.args.out.now) (g.K.Sink.written c.put.new.self) (g.K.Sink.faults c.args.out.now) (g.K.Sink.faults c.put.new.self)
    c.args.gap.now c.args.text.now c.in-Err.fault c.in-Err.ensures.bytes
