use Rattle.std.proofs.Common.{◌≡◌, length}
use Rattle.std.specs.List.{list_all}
use Rattle.mc_lex.specs.Gaps.{is_digit_or_white_space}
use Rattle.mc_places.proofs.marker.are_digits_or_white_space.Given as goal

abbrev pub invariant-loop-left : goal.invariant-loop-left
invariant-loop-left l = list_all is_digit_or_white_space l.bytes ≡ list_all is_digit_or_white_space l.left

abbrev pub decreases-loop-left : goal.decreases-loop-left
decreases-loop-left l = length l.left
