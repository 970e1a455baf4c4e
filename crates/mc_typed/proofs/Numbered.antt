-- The functions of a sound program, by their numbers.
use Rattle.std.proofs.Common.{ℕ, zero, suc, ◌<◌, List, [], ◌∷◌, length, get_or, map, arith}
use Rattle.mc_typed.specs.declared.functions.Function.{Function}
use Rattle.mc_typed.specs.Tree as t
use Rattle.mc_typed.specs.Views.{function_of}
use Rattle.mc_typed.specs.Sound.{IsFunction, AreFunctions}

pub function-sound : (p : t.Program) (fs : List Function) (k : ℕ) (d : Function) → k < length fs → AreFunctions p (map function_of fs) → IsFunction p (function_of (get_or fs k d))
function-sound p [] k d lt h = absurd (omega (arith, lt))
function-sound p (g ∷ fs) zero d lt h = h.0
function-sound p (g ∷ fs) (suc k) d lt h = function-sound p fs k d (omega (arith, lt)) h.1
