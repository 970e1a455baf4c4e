use Rattle.std.proofs.Common.{◌≡◌, ◌++◌, ◌+◌, length, option_map}
use Rattle.std.specs.Option.{option_map_or}
use Rattle.csv_records.specs.Numbers.{number_of}
use Rattle.plan_fields.specs.Numbers.{all_numbers, numbers_of}
use Rattle.plan_fields.specs.steps.Pieces.{pieces_after}
use Rattle.plan_fields.proofs.numbers.read_numbers.Given as goal

abbrev pub invariant-loop-left : goal.invariant-loop-left
invariant-loop-left l = option_map (λ zs. l.values.items ++ zs) (all_numbers number_of (pieces_after (option_map (λ later. later.now) l.left))) ≡ numbers_of number_of l.fn.text

abbrev pub decreases-loop-left : goal.decreases-loop-left
decreases-loop-left l = option_map_or (λ later. length later.now + 1) l.left 0
