use Rattle.std.proofs.Common.{◌≡◌, arith, slice_index}
use Rattle.std.specs.Int.{to_be_bytes}
use mir.Syntax.{w64}
use Rattle.mc_record.proofs.Pushing.{word_more}
use Rattle.mc_record.proofs.lines.push_words.Goals as goal

pub loop-left-preserved : goal.loop-left-preserved
loop-left-preserved c =
    let left = c.loop-left.left.now in
    let are : c.as_slice.result.now ≡ to_be_bytes w64 (slice_index left 0) = cc in
    record {
      items = word_more c.loop-left.line.items c.extend.new.line.items c.push_digits.new.line.items c.as_slice.result.now left _ c.in-len1-up.len_at_least c.extend.ensures.items c.push_digits.ensures.items are c.loop-left.invariant.items;
      room = grind arith;
    }
