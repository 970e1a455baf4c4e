-- A worked run.
use Rattle.std.proofs.Common.{refl, arith}
use Rattle.laws_cover.specs.Laws.{EachStepIsMade}

pub a_run_has_each_step : EachStepIsMade
a_run_has_each_step = (
  _,
  (
    _,
    (_, refl, refl, omega arith, refl),
    (
      _,
      (_, refl, refl, omega arith, refl),
      (
        _,
        (_, refl, refl, refl, refl),
        (
          _,
          (_, refl, refl, refl, refl),
          (
            _,
            (_, refl, (λ e. cc), omega arith, (0, omega arith, refl), refl),
            (
              _,
              (_, refl, (λ e. cc), omega arith, (0, omega arith, refl), refl),
              (
                _,
                (_, refl, (λ e. cc), omega arith, (0, omega arith, refl), refl),
                (
                  _,
                  (_, refl, refl, refl, refl),
                  (
                    _,
                    (_, refl, (λ e. cc), refl),
                    (_, (_, _, refl, refl, refl, refl, refl), (_, (_, _, refl, refl, refl, refl, refl), refl)),
                  ),
                ),
              ),
            ),
          ),
        ),
      ),
    ),
  ),
  refl,
)
