use Rattle.mc_list.specs.Seen.{placed_of, lines_left}
use Rattle.mc_list.proofs.Putting.{next_put, last_put}
use Rattle.mc_list.proofs.Stripping.{source_back}
use Rattle.mc_list.proofs.listing.write_listing.Goals as goal

pub loop-line-preserved : goal.loop-line-preserved
loop-line-preserved g c = record {
  at = next_put c.args.source.now c.args.obligations.now c.args.verdicts.now (g.K.Sink.written c.args.out.now) (g.K.Sink.faults c.args.out.now)
      (g.K.Sink.written c.loop-line.out) (g.K.Sink.written c.put_line.new.out) (g.K.Sink.faults c.loop-line.out) (g.K.Sink.faults c.put_line.new.out)
      (lines_left c.loop-line.left) (lines_left c.next.new.self) (placed_of c.in-Some.line) c.line_mark-mark.result
      c.loop-line.invariant.at c.in-Some.ensures.steps c.line_mark-mark.ensures.mark c.in-Ok.ensures.bytes c.put_line.ensures.later;
  marks = c.line_mark-mark.ensures.table;
}

pub returns-in-Err-clause-text : goal.returns-in-Err-clause-text
returns-in-Err-clause-text g c =
    last_put c.args.source.now c.args.obligations.now c.args.verdicts.now (g.K.Sink.written c.args.out.now) (g.K.Sink.faults c.args.out.now)
    (g.K.Sink.written c.loop-line.out) (g.K.Sink.written c.put_line.new.out) (g.K.Sink.faults c.loop-line.out) (g.K.Sink.faults c.put_line.new.out)
    (lines_left c.loop-line.left) (lines_left c.next.new.self) (placed_of c.in-Some.line) c.line_mark-mark.result c.in-Err.fault
    c.loop-line.invariant.at c.in-Some.ensures.steps c.line_mark-mark.ensures.mark c.in-Err.ensures.bytes c.put_line.ensures.later

pub returns-in-Err-clause-back : goal.returns-in-Err-clause-back
returns-in-Err-clause-back g c = source_back c.args.obligations.now c.args.verdicts.now c.args.source.now c.requires.short

pub returns-clause-back : goal.returns-clause-back
returns-clause-back g c = source_back c.args.obligations.now c.args.verdicts.now c.args.source.now c.requires.short
