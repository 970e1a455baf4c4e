use Rattle.std.proofs.Common.{◌≡◌, ℕ, ◌+◌, ◌<◌, length, get_or}
use Rattle.std.specs.Slots.{slots_items}
use Rattle.mc_cover.proofs.calls.closing_words.Given as goal

abbrev pub invariant-loop-i : goal.invariant-loop-i
invariant-loop-i l = record {
  long : length l.room.items ≡ length l.initial.room.items;
  copied : (j : ℕ) → j < l.i → get_or l.room.items j 0 ≡ get_or (slots_items l.closed.words) (j + 1) 0;
}
