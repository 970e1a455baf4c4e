-- Probes round an operand, from the innermost outwards.
use Rattle.std.proofs.Common.{◌≡◌, ◌∙◌, refl, sym, ap, ℕ, ◌+◌, ◌-◌, ◌<◌, ◌≤◌, List, [], ◌∷◌, ◌++◌, length, get_or, take, min, arith}
use Rattle.std.proofs.lemmas.List.{take_more, take_all, length-take}
use Rattle.reread_pieces.specs.declared.placed.Placed.{Placed}
use Rattle.mc_probe.specs.Tree as tree
use Rattle.reread_put_back.specs.Pens.{Pen, go_on, noted}
use Rattle.reread_put_back.specs.Back.{end_round, round, surrounded}

-- the last of some elements, and those before it
last_apart : {X : Type 0} (xs : List X) (d : X) → 1 ≤ length xs → take (length xs - 1) xs ++ get_or xs (length xs - 1) d ∷ [] ≡ xs
last_apart xs d some =
    let less : length xs - 1 < length xs = omega arith in
    let next : (length xs - 1) + 1 ≡ length xs = omega arith in
    sym (take_more xs (length xs - 1) d less) ∙ ap (λ n. take n xs) next ∙ take_all (length xs) xs (omega arith)

-- one probe round it
abbrev pub one_round : ℕ → Placed → tree.Expression × Pen → tree.Expression × Pen
one_round r q done = go_on done (λ x s. (round q.what x, noted r q (end_round q.what x) s))

surrounded_last : (r : ℕ) (qs : List Placed) (q : Placed) (done : tree.Expression × Pen) → surrounded r (qs ++ q ∷ []) done ≡ surrounded r qs (one_round r q done)
surrounded_last r [] q done = refl
surrounded_last r (p ∷ qs) q done = ap (one_round r p) (surrounded_last r qs q done)

one_more : (r : ℕ) (left front : List Placed) (q : Placed) (x y : tree.Expression) (s e : Pen) (all : tree.Expression × Pen) → front ++ q ∷ [] ≡ left → y ≡ round q.what x → e ≡ noted r q (end_round q.what x) s → surrounded r left (x, s) ≡ all → surrounded r front (y, e) ≡ all
one_more r left front q x y s e all split part pen before =
    (λ i. surrounded r front (part i, pen i))
    ∙ (sym (surrounded_last r front q (x, s))
    ∙ (ap (λ (zs : List Placed). surrounded r zs (x, s)) split ∙ before))

-- the last of the probes that are left is put
pub one_fewer : (r : ℕ) (left : List Placed) (d : Placed) (x y : tree.Expression) (s e : Pen) (all : tree.Expression × Pen) → 1 ≤ length left → y ≡ round (get_or left (length left - 1) d).what x → e ≡ noted r (get_or left (length left - 1) d) (end_round (get_or left (length left - 1) d).what x) s → surrounded r left (x, s) ≡ all → surrounded r (take (length left - 1) left) (y, e) ≡ all
one_fewer r left d x y s e all some part pen before =
    one_more r left (take (length left - 1) left) (get_or left (length left - 1) d) x y s e all (last_apart left d some) part pen before

pub fewer : {X : Type 0} (left probes : List X) → length left ≤ length probes → length (take (length left - 1) left) ≤ length probes
fewer left probes within =
    let count : length (take (length left - 1) left) ≡ min (length left - 1) (length left) = length-take (length left - 1) left in
    omega (arith, count, within)

pub last_part : (r : ℕ) (left : List Placed) (x : tree.Expression) (s : Pen) (all : tree.Expression × Pen) → left ≡ [] → surrounded r left (x, s) ≡ all → x ≡ all.0
last_part r left x s all none before =
    ap (λ (w : tree.Expression × Pen). w.0) (ap (λ (zs : List Placed). surrounded r zs (x, s)) (sym none) ∙ before)

pub last_pen : (r : ℕ) (left : List Placed) (x : tree.Expression) (s : Pen) (all : tree.Expression × Pen) → left ≡ [] → surrounded r left (x, s) ≡ all → s ≡ all.1
last_pen r left x s all none before =
    ap (λ (w : tree.Expression × Pen). w.1) (ap (λ (zs : List Placed). surrounded r zs (x, s)) (sym none) ∙ before)
