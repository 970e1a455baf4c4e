use Rattle.std.proofs.Common.{◌≡◌, ◌+◌, false, length}
use Rattle.adapt_tokens.specs.Literals.{literal_len, literal_closes}
use Rattle.adapt_tokens.proofs.literal.literal_at.Given as goal

abbrev pub invariant-loop-left : goal.invariant-loop-left
invariant-loop-left l = record {
  size : literal_len l.quote false l.bytes ≡ l.length + literal_len l.quote l.escaped l.left;
  closes : literal_closes l.quote false l.bytes ≡ literal_closes l.quote l.escaped l.left;
  count : l.length + length l.left ≡ length l.bytes;
}

abbrev pub decreases-loop-left : goal.decreases-loop-left
decreases-loop-left l = length l.left
