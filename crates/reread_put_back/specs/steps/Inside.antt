-- An expression with the probes of its parts.
use Rattle.std.specs.Prelude.{ℕ}
use Rattle.mc_typed.specs.Tree as typed
use Rattle.mc_probe.specs.Tree as probed
use Rattle.reread_put_back.specs.Pens.{Walk, gives, ◌>>=◌}
use Rattle.reread_put_back.specs.Back.{back, back_call, back_place}

module _ (registers : ℕ) where
  abbrev pub inside : typed.Expression → Walk probed.Expression
  inside (typed.Constant v a span) = gives (probed.Constant v a span)
  inside (typed.Read place a) = do
    x ← back_place registers place
    gives (probed.Read x a)
  inside (typed.Unary operator a e span) = do
    x ← back registers e
    gives (probed.Unary operator a x span)
  inside (typed.Convert a written e span) = do
    x ← back registers e
    gives (probed.Convert a written x span)
  inside (typed.Not e span) = do
    x ← back registers e
    gives (probed.Not x span)
  inside (typed.Binary operator a e f span) = do
    x ← back registers e
    y ← back registers f
    gives (probed.Binary operator a x y span)
  inside (typed.Logic operator e f span) = do
    x ← back registers e
    y ← back registers f
    gives (probed.Logic operator x y span)
  inside (typed.Choice e f g a span) = do
    x ← back registers e
    y ← back registers f
    z ← back registers g
    gives (probed.Choice x y z a span)
  inside (typed.Call k a) = do
    c ← back_call registers k
    gives (probed.Call c a)
  inside (typed.Input span) = gives (probed.Input span)
