use Rattle.std.proofs.Common.{◌∙◌}
use Rattle.mc_port.proofs.Puts.{puts_then, puts_stops}
use Rattle.mc_list.specs.Listing.{margin}
use Rattle.mc_list.proofs.listing.put_line.Goals as goal

pub returns-in-Ok-clause-bytes : goal.returns-in-Ok-clause-bytes
returns-in-Ok-clause-bytes g c =
    let front = c.as_slice.ensures.value ∙ c.margin-front.ensures in
    let first = rw front at c.in-Ok.ensures.bytes in
    puts_then (g.K.Sink.written c.args.out.now) (g.K.Sink.written c.put.new.self) (g.K.Sink.written c.put-in-Ok.new.self)
    (g.K.Sink.faults c.args.out.now) (g.K.Sink.faults c.put.new.self) (g.K.Sink.faults c.put-in-Ok.new.self)
    (margin c.args.line.now.number c.args.mark) c.args.line.now.bytes.now tt c.put-in-Ok.result first c.put-in-Ok.ensures.bytes c.put.ensures.later c.put-in-Ok.ensures.later

pub returns-in-Err-clause-bytes : goal.returns-in-Err-clause-bytes
returns-in-Err-clause-bytes g c =
    let front = c.as_slice.ensures.value ∙ c.margin-front.ensures in
    let first = rw front at c.in-Err.ensures.bytes in
    puts_stops (g.K.Sink.written c.args.out.now) (g.K.Sink.written c.put.new.self) (g.K.Sink.faults c.args.out.now) (g.K.Sink.faults c.put.new.self)
    (margin c.args.line.now.number c.args.mark) c.args.line.now.bytes.now c.in-Err.fault first
