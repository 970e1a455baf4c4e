-- The greatest sums of paths, from those of the operands.
use Rattle.std.proofs.Common.{◌≡◌, ◌∙◌, refl, sym, ap, ℕ, ◌+◌, ◌-◌, ◌<◌, ◌≤◌, ◌^◌, max, Bool, true, false, nat_eq, nat_le, ◌&&◌, if◌then◌else◌, List, [], ◌∷◌, ◌++◌, map, length, Option, Some, None, inl, inr, arith}
use Rattle.std.proofs.lemmas.Bool.{cases_Bool}
use Rattle.std.proofs.lemmas.Bool.Decides.{nat_tests}
use Rattle.mc_limits.specs.Limits.{most_bits}
use Rattle.mc_typed.specs.declared.operators.LogicOperator.{LogicOperator}
use Rattle.mc_typed.specs.declared.operators.LogicOperator.TheVariants as logic
use Rattle.mc_typed.specs.declared.probes.Probe as code
use Rattle.mc_typed.specs.declared.probes.Probe.TheVariants as probe
use Rattle.decide_rules.specs.declared.operators.FullOperator.{FullOperator}
use Rattle.decide_rules.specs.declared.operators.FullOperator.TheVariants as full
use Rattle.decide_rules.specs.Nodes.{bitwise}
use Rattle.mc_probe.specs.Tree.{Expression}
use Rattle.mc_probe.specs.Tree as tree
use Rattle.reread_pieces.specs.declared.placed.Placed.{Placed}
use Rattle.reread_put_back.specs.Pens.{Pen, first_of, is_below, noted}
use Rattle.reread_put_back.specs.Rows.{register_of}
use Rattle.reread_put_back.specs.Sums.{Paths, ◌⊗◌, at_probe, both, greatest, joined, leaf, paths, where_full}
use Rattle.reread_put_back.specs.steps.Greatest.{IsEnd, capped, greatest_of, sum}
use Rattle.reread_put_back.specs.steps.Greatest as steps

-- ---- lists of sums

pub greatest_append : (xs ys : List ℕ) → greatest (xs ++ ys) ≡ max (greatest xs) (greatest ys)
greatest_append [] ys = omega arith
greatest_append (x ∷ xs) ys =
    let rest : greatest (xs ++ ys) ≡ max (greatest xs) (greatest ys) = greatest_append xs ys in
    omega (arith, rest)

shifted : (x y : ℕ) (ys : List ℕ) → greatest (map (λ z. x + z) (y ∷ ys)) ≡ x + greatest (y ∷ ys)
shifted x y [] = omega arith
shifted x y (z ∷ zs) =
    let rest : greatest (map (λ z. x + z) (z ∷ zs)) ≡ x + greatest (z ∷ zs) = shifted x z zs in
    omega (arith, rest)

times_some : (x : ℕ) (xs : List ℕ) (y : ℕ) (ys : List ℕ) → greatest ((x ∷ xs) ⊗ (y ∷ ys)) ≡ greatest (x ∷ xs) + greatest (y ∷ ys)
times_some x [] y ys =
    let one : greatest (map (λ z. x + z) (y ∷ ys)) ≡ x + greatest (y ∷ ys) = shifted x y ys in
    let all : greatest (map (λ z. x + z) (y ∷ ys) ++ []) ≡ max (greatest (map (λ z. x + z) (y ∷ ys))) (greatest []) = greatest_append (map (λ z. x + z) (y ∷ ys)) [] in
    omega (arith, one, all)
times_some x (w ∷ ws) y ys =
    let one : greatest (map (λ z. x + z) (y ∷ ys)) ≡ x + greatest (y ∷ ys) = shifted x y ys in
    let rest : greatest ((w ∷ ws) ⊗ (y ∷ ys)) ≡ greatest (w ∷ ws) + greatest (y ∷ ys) = times_some w ws y ys in
    let all : greatest (map (λ z. x + z) (y ∷ ys) ++ ((w ∷ ws) ⊗ (y ∷ ys))) ≡ max (greatest (map (λ z. x + z) (y ∷ ys))) (greatest ((w ∷ ws) ⊗ (y ∷ ys))) = greatest_append (map (λ z. x + z) (y ∷ ys)) ((w ∷ ws) ⊗ (y ∷ ys)) in
    omega (arith, one, rest, all)

abbrev IsSome : List ℕ → Type 0
IsSome xs = 0 < length xs

times : (xs ys : List ℕ) → IsSome xs → IsSome ys → greatest (xs ⊗ ys) ≡ greatest xs + greatest ys
times [] ys h k = absurd (omega (arith, h))
times (x ∷ xs) [] h k = absurd (omega (arith, k))
times (x ∷ xs) (y ∷ ys) h k = times_some x xs y ys

product_is_some : (xs ys : List ℕ) → IsSome xs → IsSome ys → IsSome (xs ⊗ ys)
product_is_some [] ys h k = absurd (omega (arith, h))
product_is_some (x ∷ xs) [] h k = absurd (omega (arith, k))
product_is_some (x ∷ xs) (y ∷ ys) h k = omega arith

append_is_some : (xs ys : List ℕ) → IsSome xs → IsSome (xs ++ ys)
append_is_some [] ys h = absurd (omega (arith, h))
append_is_some (x ∷ xs) ys h = omega arith

-- ---- an operand has paths that end true, and paths that end false

record HasPaths (a : Paths) : Type 0 where
  on_true : IsSome a.on_true
  on_false : IsSome a.on_false

leaf_has : (t f : ℕ) → HasPaths (leaf t f)
leaf_has t f = record { on_true = omega arith; on_false = omega arith }

joined_has : (operator : LogicOperator) (a b : Paths) → HasPaths a → HasPaths b → HasPaths (joined operator a b)
joined_has logic.And a b h k = record {
  on_true = product_is_some a.on_true b.on_true h.on_true k.on_true;
  on_false = append_is_some a.on_false (a.on_true ⊗ b.on_false) h.on_false;
}
joined_has logic.Or a b h k = record {
  on_true = append_is_some a.on_true (a.on_false ⊗ b.on_true) h.on_true;
  on_false = product_is_some a.on_false b.on_false h.on_false k.on_false;
}

both_has : (operator : FullOperator) (a b : Paths) → HasPaths a → HasPaths b → HasPaths (both operator a b)
both_has full.And a b h k = record {
  on_true = product_is_some a.on_true b.on_true h.on_true k.on_true;
  on_false = append_is_some (a.on_true ⊗ b.on_false) ((a.on_false ⊗ b.on_true) ++ (a.on_false ⊗ b.on_false)) (product_is_some a.on_true b.on_false h.on_true k.on_false);
}
both_has full.Or a b h k = record {
  on_true = append_is_some (a.on_true ⊗ b.on_true) ((a.on_true ⊗ b.on_false) ++ (a.on_false ⊗ b.on_true)) (product_is_some a.on_true b.on_true h.on_true k.on_true);
  on_false = product_is_some a.on_false b.on_false h.on_false k.on_false;
}
both_has full.Xor a b h k = record {
  on_true = append_is_some (a.on_true ⊗ b.on_false) (a.on_false ⊗ b.on_true) (product_is_some a.on_true b.on_false h.on_true k.on_false);
  on_false = append_is_some (a.on_true ⊗ b.on_true) (a.on_false ⊗ b.on_false) (product_is_some a.on_true b.on_true h.on_true k.on_true);
}

where_has : (operator : Option FullOperator) (a b : Paths) → HasPaths a → HasPaths b → HasPaths (where_full operator a b)
where_has (Some operator) a b h k = both_has operator a b h k
where_has None a b h k = leaf_has 0 0

own_has : (own : Bool) (t f : ℕ) → HasPaths (if own then leaf t f else leaf 0 0)
own_has true t f = leaf_has t f
own_has false t f = leaf_has 0 0

probe_has : (r : ℕ) (q : code.Probe) → HasPaths (at_probe r q)
probe_has r (probe.Decision register base) = leaf_has 0 0
probe_has r (probe.Condition register t f) = own_has (nat_eq register r) t f
probe_has r (probe.Switch register) = leaf_has 0 0

has_paths : (r : ℕ) (x : Expression) → HasPaths (paths r x)
has_paths r (tree.Constant v a span) = leaf_has 0 0
has_paths r (tree.Read place a) = leaf_has 0 0
has_paths r (tree.Unary operator a e span) = leaf_has 0 0
has_paths r (tree.Convert a true e span) = leaf_has 0 0
has_paths r (tree.Convert a false e span) = has_paths r e
has_paths r (tree.Not e span) =
    let h : HasPaths (paths r e) = has_paths r e in record { on_true = h.on_false; on_false = h.on_true }
has_paths r (tree.Binary operator a e f span) =
    where_has (bitwise operator) (paths r e) (paths r f) (has_paths r e) (has_paths r f)
has_paths r (tree.Logic operator e f span) =
    joined_has operator (paths r e) (paths r f) (has_paths r e) (has_paths r f)
has_paths r (tree.Choice e f g a span) = leaf_has 0 0
has_paths r (tree.Call k a) = leaf_has 0 0
has_paths r (tree.Input span) = leaf_has 0 0
has_paths r (tree.Probe q e) = probe_has r q

-- ---- the greatest sums, as far as the code's numbers go

sum_is : (xs ys : List ℕ) → IsSome xs → IsSome ys → sum (capped (greatest xs)) (capped (greatest ys)) ≡ capped (greatest (xs ⊗ ys))
sum_is xs ys h k =
    let all : greatest (xs ⊗ ys) ≡ greatest xs + greatest ys = times xs ys h k in
    omega (arith, all)

more_is : (xs ys : List ℕ) → max (capped (greatest xs)) (capped (greatest ys)) ≡ capped (greatest (xs ++ ys))
more_is xs ys =
    let all : greatest (xs ++ ys) ≡ max (greatest xs) (greatest ys) = greatest_append xs ys in
    omega (arith, all)

abbrev or_more : ℕ → ℕ → ℕ
or_more m n = max m n

pub joined_is : (operator : LogicOperator) (r : ℕ) (e f : Expression) → steps.joined operator (greatest_of (paths r e)) (greatest_of (paths r f)) ≡ greatest_of (joined operator (paths r e) (paths r f))
joined_is logic.And r e f =
    let a : Paths = paths r e in let b : Paths = paths r f in
    let h : HasPaths a = has_paths r e in let k : HasPaths b = has_paths r f in
    λ i. record {
      on_true = sum_is a.on_true b.on_true h.on_true k.on_true i;
      on_false = (ap (or_more (capped (greatest a.on_false))) (sum_is a.on_true b.on_false h.on_true k.on_false) ∙ more_is a.on_false (a.on_true ⊗ b.on_false)) i;
    }
joined_is logic.Or r e f =
    let a : Paths = paths r e in let b : Paths = paths r f in
    let h : HasPaths a = has_paths r e in let k : HasPaths b = has_paths r f in
    λ i. record {
      on_true = (ap (or_more (capped (greatest a.on_true))) (sum_is a.on_false b.on_true h.on_false k.on_true) ∙ more_is a.on_true (a.on_false ⊗ b.on_true)) i;
      on_false = sum_is a.on_false b.on_false h.on_false k.on_false i;
    }

two : (xs ys zs ws : List ℕ) → IsSome xs → IsSome ys → IsSome zs → IsSome ws →
    max (sum (capped (greatest xs)) (capped (greatest ys))) (sum (capped (greatest zs)) (capped (greatest ws))) ≡ capped (greatest ((xs ⊗ ys) ++ (zs ⊗ ws)))
two xs ys zs ws x y z w =
    (λ i. max (sum_is xs ys x y i) (sum_is zs ws z w i)) ∙ more_is (xs ⊗ ys) (zs ⊗ ws)

pub both_is : (operator : FullOperator) (r : ℕ) (e f : Expression) → steps.both operator (greatest_of (paths r e)) (greatest_of (paths r f)) ≡ greatest_of (both operator (paths r e) (paths r f))
both_is full.And r e f =
    let a : Paths = paths r e in let b : Paths = paths r f in
    let h : HasPaths a = has_paths r e in let k : HasPaths b = has_paths r f in
    λ i. record {
      on_true = sum_is a.on_true b.on_true h.on_true k.on_true i;
      on_false = ((λ j. max (sum_is a.on_true b.on_false h.on_true k.on_false j) (two a.on_false b.on_true a.on_false b.on_false h.on_false k.on_true h.on_false k.on_false j)) ∙ more_is (a.on_true ⊗ b.on_false) ((a.on_false ⊗ b.on_true) ++ (a.on_false ⊗ b.on_false))) i;
    }
both_is full.Or r e f =
    let a : Paths = paths r e in let b : Paths = paths r f in
    let h : HasPaths a = has_paths r e in let k : HasPaths b = has_paths r f in
    λ i. record {
      on_true = ((λ j. max (sum_is a.on_true b.on_true h.on_true k.on_true j) (two a.on_true b.on_false a.on_false b.on_true h.on_true k.on_false h.on_false k.on_true j)) ∙ more_is (a.on_true ⊗ b.on_true) ((a.on_true ⊗ b.on_false) ++ (a.on_false ⊗ b.on_true))) i;
      on_false = sum_is a.on_false b.on_false h.on_false k.on_false i;
    }
both_is full.Xor r e f =
    let a : Paths = paths r e in let b : Paths = paths r f in
    let h : HasPaths a = has_paths r e in let k : HasPaths b = has_paths r f in
    λ i. record {
      on_true = two a.on_true b.on_false a.on_false b.on_true h.on_true k.on_false h.on_false k.on_true i;
      on_false = two a.on_true b.on_true a.on_false b.on_false h.on_true k.on_true h.on_false k.on_false i;
    }

-- ---- ends

pub end_is : (base t f : ℕ) → IsEnd (base + max (capped t) (capped f) + 1) (base + max t f + 1)
end_is base t f = elim (cases_Bool (nat_le (max t f) (2 ^ 32 - 1))) [
  | inl low ↦
      let most : max t f ≤ 2 ^ 32 - 1 = grind (arith, nat_tests, low) in
      inl (omega (arith, most))
  | inr high ↦
      let least : 2 ^ 32 - 1 < max t f = grind (arith, nat_tests, high) in
      inr (omega (arith, least), omega (arith, least))
]

neither : (a b : Bool) → b ≡ false → (a && b) ≡ false
neither true b h = h
neither false b h = refl

too_high : (registers : ℕ) (q : Placed) (end : ℕ) (s : Pen) → most_bits < end → noted registers q end s ≡ record s { fault = first_of q.word s.fault }
too_high registers q end s h =
    let high : nat_le end most_bits ≡ false = grind (arith, nat_tests, h) in
    ap (λ (b : Bool). if b then record s { bits = max s.bits end } else record s { fault = first_of q.word s.fault }) (neither (is_below registers (register_of q.what)) (nat_le end most_bits) high)

-- which of two ends is noted is all the same where both are beyond the last bit
pub noted_same : (registers : ℕ) (q : Placed) (found end : ℕ) (s : Pen) → IsEnd found end → noted registers q found s ≡ noted registers q end s
noted_same registers q found end s (inl same) = ap (λ (n : ℕ). noted registers q n s) same
noted_same registers q found end s (inr high) = too_high registers q found s high.0 ∙ sym (too_high registers q end s high.1)
