use Rattle.std.proofs.Common.{not, ◌&&◌, ◌||◌}
use Rattle.mc_value.specs.Digits.{digit}
use Rattle.mc_value.specs.Arithmetic.{exclusive}
use Rattle.mc_value.proofs.Bits.{digits_of_value, same_digits}
use Rattle.mc_value.proofs.laws.bit_operators_act_on_digits.Goals as goal

pub returns : goal.returns
returns c = (
  λ t a b. digits_of_value t (λ k. digit t a k && digit t b k),
  λ t a b. digits_of_value t (λ k. exclusive (digit t a k) (digit t b k)),
  λ t a b. digits_of_value t (λ k. digit t a k || digit t b k),
  λ t a. digits_of_value t (λ k. not (digit t a k)),
  same_digits,
)
