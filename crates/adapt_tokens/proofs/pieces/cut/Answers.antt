use Rattle.std.proofs.Common.{◌<◌, rules, arith}
use Rattle.std.proofs.lemmas.List.{map_push}
use Rattle.std.proofs.lemmas.Grind.{common_steps}
use Rattle.adapt_tokens.specs.Seen.{parts_of}
use Rattle.adapt_tokens.proofs.Cutting.{Turned, turned_by, within_by, some_by, done}
use Rattle.adapt_tokens.proofs.pieces.cut.Goals as goal

pub split_at-requires : goal.split_at-requires
split_at-requires c = within_by c.loop-rest.is_first c.loop-rest.rest.now c.next_at-next.result c.next_at-next.ensures (omega arith)

pub loop-rest-smaller : goal.loop-rest-smaller
loop-rest-smaller c =
    let some : 0 < c.next_at-next.result.length = some_by c.loop-rest.is_first c.loop-rest.rest.now c.next_at-next.result c.next_at-next.ensures (omega arith) in
    omega (arith, c.split_at.ensures.back_len)

pub loop-rest-preserved : goal.loop-rest-preserved
loop-rest-preserved c =
    let source = c.args.source.now in
    let so_far : Turned source (parts_of c.loop-rest.pieces.items) c.loop-rest.at c.loop-rest.rest.now c.loop-rest.is_first = record {
      whole = c.loop-rest.invariant.whole;
      within = c.loop-rest.invariant.within;
      rest = c.loop-rest.invariant.rest;
      is_first = c.loop-rest.invariant.first;
    } in
    let now = turned_by source (parts_of c.loop-rest.pieces.items) c.loop-rest.at c.loop-rest.rest.now c.loop-rest.is_first so_far (omega arith)
    c.next_at-next.result c.next_at-next.ensures c.split_at.result.0.now c.split_at.result.1.now c.split_at.ensures.front c.split_at.ensures.back
    c.still_first-is_first.result c.still_first-is_first.ensures (parts_of c.push.new.self.items) (first_of (search (rules, map_push), grind (arith, common_steps, map_push))) in
    record { whole = now.whole; within = now.within; rest = now.rest; first = now.is_first }

pub returns : goal.returns
returns c = done c.args.source.now (parts_of c.loop-rest.pieces.items) c.loop-rest.at c.loop-rest.rest.now c.loop-rest.invariant.whole (omega arith)
