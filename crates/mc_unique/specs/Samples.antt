-- Vectors and pairs of a small decision, `(a ^ b) && c`, that were worked out by hand.
use Rattle.std.specs.Prelude.{ℕ, Bool, List}
use Rattle.mc_cond.specs.Order.{Answer}
use Rattle.mc_cond.specs.Vectors.{Evaluation}
use Rattle.mc_paths.specs.Samples.{xor_then_and}
use Rattle.mc_unique.specs.Unique.{IsUniquePair}

abbrev pub vector : List Answer → Bool → Evaluation
vector answers outcome = record { answers = answers; outcome = outcome }

abbrev pub ArePair : ℕ → Evaluation → Evaluation → Type 0
ArePair k v w = IsUniquePair xor_then_and k v w
