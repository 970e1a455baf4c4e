-- The probes round an expression, and those of its parts.
use Rattle.std.proofs.Common.{◌≡◌, ◌∙◌, refl, sym, ap, ℕ, List, take, drop}
use Rattle.reread_pieces.specs.declared.placed.Placed.{Placed}
use Rattle.mc_probe.specs.Tree as tree
use Rattle.mc_typed.specs.Tree as t
use Rattle.reread_put_back.specs.Pens.{Pen}
use Rattle.reread_put_back.specs.Back.{around, back, leading, surrounded}
use Rattle.reread_put_back.specs.steps.Inside.{inside}

pub back_is : (r : ℕ) (x : t.Expression) (s : Pen) → back r x s ≡ around r x (inside r x) s
back_is r (t.Constant v a span) s = refl
back_is r (t.Read place a) s = refl
back_is r (t.Unary operator a e span) s = refl
back_is r (t.Convert a written e span) s = refl
back_is r (t.Not e span) s = refl
back_is r (t.Binary operator a e f span) s = refl
back_is r (t.Logic operator e f span) s = refl
back_is r (t.Choice e f g a span) s = refl
back_is r (t.Call k a) s = refl
back_is r (t.Input span) s = refl

-- what the code puts round what it found inside
pub found : (r : ℕ) (e : t.Expression) (s from end : Pen) (round : List Placed) (x : tree.Expression) → round ≡ take (leading e s.left) s.left → from ≡ record s { left = drop (leading e s.left) s.left } → x ≡ (inside r e from).0 → end ≡ (inside r e from).1 → surrounded r round (x, end) ≡ back r e s
found r e s from end round x rows start part pen =
    (λ i. surrounded r (rows i) (part i, pen i))
    ∙ (ap (λ (q : Pen). surrounded r (take (leading e s.left) s.left) (inside r e q)) start
    ∙ sym (back_is r e s))
