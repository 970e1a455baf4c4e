-- The greatest sums of paths, as far as the code's numbers go.
use Rattle.std.specs.Prelude.{◌≡◌, ◌⊎◌, ℕ, ◌+◌, ◌-◌, ◌<◌, ◌^◌, max, min}
use Rattle.mc_limits.specs.Limits.{most_bits}
use Rattle.mc_typed.specs.declared.operators.LogicOperator.{LogicOperator}
use Rattle.mc_typed.specs.declared.operators.LogicOperator.TheVariants as logic
use Rattle.decide_rules.specs.declared.operators.FullOperator.{FullOperator}
use Rattle.decide_rules.specs.declared.operators.FullOperator.TheVariants as full
use Rattle.reread_put_back.specs.declared.sums.Greatest.{Greatest}
use Rattle.reread_put_back.specs.Sums.{Paths, greatest}

abbrev pub capped : ℕ → ℕ
capped n = min n (2 ^ 32 - 1)

abbrev pub greatest_of : Paths → Greatest
greatest_of a =
    record { on_true = capped (greatest a.on_true); on_false = capped (greatest a.on_false) }

abbrev pub sum : ℕ → ℕ → ℕ
sum a b = capped (a + b)

abbrev pub joined : LogicOperator → Greatest → Greatest → Greatest
joined logic.And a b = record {
  on_true = sum a.on_true b.on_true;
  on_false = max a.on_false (sum a.on_true b.on_false);
}
joined logic.Or a b = record {
  on_true = max a.on_true (sum a.on_false b.on_true);
  on_false = sum a.on_false b.on_false;
}

abbrev pub both : FullOperator → Greatest → Greatest → Greatest
both full.And a b = record {
  on_true = sum a.on_true b.on_true;
  on_false =
      max (sum a.on_true b.on_false)
      (max (sum a.on_false b.on_true) (sum a.on_false b.on_false));
}
both full.Or a b = record {
  on_true =
      max (sum a.on_true b.on_true) (max (sum a.on_true b.on_false) (sum a.on_false b.on_true));
  on_false = sum a.on_false b.on_false;
}
both full.Xor a b = record {
  on_true = max (sum a.on_true b.on_false) (sum a.on_false b.on_true);
  on_false = max (sum a.on_true b.on_true) (sum a.on_false b.on_false);
}

-- the same end, or both beyond the last bit that there can be
abbrev pub IsEnd : ℕ → ℕ → Type 0
IsEnd found end = (found ≡ end) ⊎ ((most_bits < found) × (most_bits < end))
