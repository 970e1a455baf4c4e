-- Each event of a map has a bit of its own.
use Rattle.std.proofs.Common.{◌≡◌, ◌∙◌, refl, sym, ap, subst, ℕ, zero, suc, ◌+◌, ◌<◌, ◌≤◌, List, [], ◌∷◌, length, Option, Some, None, inl, inr, arith}
use Rattle.std.specs.Prelude.{slice_get}
use Rattle.std.proofs.lemmas.Bool.{cases_lt}
use Rattle.mc_cond.specs.Vectors.{Evaluation, IsVector}
use Rattle.mc_paths.specs.Paths.{count_of, path_of}
use Rattle.mc_paths.proofs.Numbers.{vector_below, vector_once}
use Rattle.mc_steps.specs.Events.{Event, Entered, Exited, Started, Chosen, Evaluated}
use Rattle.mc_probe.specs.Maps.{Mapped, Map, IsMap, AreBased, first_path, exit_bit, statement_bit, label_bit, path_bit, image}
use Rattle.mc_oblige.specs.Shown.{IsEvent, IsVectorOf}

nothing_there : {A B : Type 0} (x : A) → None ≡ Some x → B
nothing_there x e = cc

same_value : {A : Type 0} (x y : A) → Some x ≡ Some y → x ≡ y
same_value x y e = cc

-- ---- the bits of decisions

based_low : (ds : List Mapped) (from to i : ℕ) (d : Mapped) → AreBased ds from to → slice_get ds i ≡ Some d → from ≤ d.base
based_low [] from to i d h e = nothing_there d e
based_low (x ∷ ds) from to zero d h e =
    let P : Mapped → Type 0 = λ y. from ≤ y.base in
    subst P (same_value x d e) (omega (arith, h.0))
based_low (x ∷ ds) from to (suc i) d h e =
    let low = based_low ds (from + count_of x.decision.tree) to i d h.1 e in omega arith

based_apart : (ds : List Mapped) (from to i j : ℕ) (a b : Mapped) → AreBased ds from to → slice_get ds i ≡ Some a → slice_get ds j ≡ Some b → i < j → a.base + count_of a.decision.tree ≤ b.base
based_apart [] from to i j a b h e f lt = nothing_there a e
based_apart (x ∷ ds) from to i zero a b h e f lt = absurd (omega arith)
based_apart (x ∷ ds) from to zero (suc j) a b h e f lt =
    let P : Mapped → Type 0 = λ y. y.base + count_of y.decision.tree ≤ b.base in
    let low = based_low ds (from + count_of x.decision.tree) to j b h.1 f in
    subst P (same_value x a e) (omega (arith, h.0, low))
based_apart (x ∷ ds) from to (suc i) (suc j) a b h e f lt =
    based_apart ds (from + count_of x.decision.tree) to i j a b h.1 e f (omega arith)

-- where an evaluation has its bit
record Place (m : Map) (d : ℕ) (v : Evaluation) : Type 0 where
  mapped : Mapped
  known : slice_get m.decisions d ≡ Some mapped
  vector : IsVector mapped.decision.tree v
  bit : image m (Evaluated d v) ≡ mapped.base + path_of mapped.decision.tree v
  low : first_path m ≤ mapped.base
  inside : path_of mapped.decision.tree v < count_of mapped.decision.tree

place_at : (m : Map) → IsMap m → (d : ℕ) (v : Evaluation) (o : Option Mapped) → slice_get m.decisions d ≡ o → IsVectorOf o v → Place m d v
place_at m is d v None known h = absurd h
place_at m is d v (Some x) known h = record {
  mapped = x;
  known = known;
  vector = h;
  bit = ap (λ (o : Option Mapped). path_bit o v) known;
  low = based_low m.decisions (first_path m) m.bits d x is.based known;
  inside = vector_below x.decision.tree v h;
}

place : (m : Map) → IsMap m → (d : ℕ) (v : Evaluation) → IsEvent m (Evaluated d v) → Place m d v
place m is d v h = place_at m is d v (slice_get m.decisions d) refl h

same_evaluation : (m : Map) (d k : ℕ) (v w : Evaluation) (p : Place m d v) (q : Place m k w) → d ≡ k
    → p.mapped.base + path_of p.mapped.decision.tree v ≡ q.mapped.base + path_of q.mapped.decision.tree w → Evaluated d v ≡ Evaluated k w
same_evaluation m d k v w p q same e =
    let own : p.mapped ≡ q.mapped = same_value p.mapped q.mapped (sym p.known ∙ ap (λ (i : ℕ). slice_get m.decisions i) same ∙ q.known) in
    let P : Mapped → Type 0 = λ x. IsVector x.decision.tree w × (p.mapped.base + path_of p.mapped.decision.tree v ≡ x.base + path_of x.decision.tree w) in
    let there = subst P (sym own) (q.vector, e) in
    let number : p.mapped.base + path_of p.mapped.decision.tree v ≡ p.mapped.base + path_of p.mapped.decision.tree w = there.1 in
    let vector : v ≡ w = vector_once p.mapped.decision.tree v w p.vector there.0 (omega (arith, number)) in
    λ i. Evaluated (same i) (vector i)

evaluation_once : (m : Map) → IsMap m → (d k : ℕ) (v w : Evaluation) (p : Place m d v) (q : Place m k w)
    → p.mapped.base + path_of p.mapped.decision.tree v ≡ q.mapped.base + path_of q.mapped.decision.tree w → Evaluated d v ≡ Evaluated k w
evaluation_once m is d k v w p q e = elim (cases_lt d k) [
  | inl lt ↦ absurd (
      let far = based_apart m.decisions (first_path m) m.bits d k p.mapped q.mapped is.based p.known q.known lt in
      let below = p.inside in
      omega (arith, e, far, below)
      )
  | inr ge ↦ elim (cases_lt k d) [
    | inl lt ↦ absurd (
        let far = based_apart m.decisions (first_path m) m.bits k d q.mapped p.mapped is.based q.known p.known lt in
        let below = q.inside in
        omega (arith, e, far, below)
        )
    | inr le ↦ same_evaluation m d k v w p q (omega (arith, ge, le)) e
  ]
]

-- ---- all events

entered_low : (m : Map) (a : ℕ) → a < length m.entries → image m (Entered a) < first_path m
entered_low m a h = omega (arith, h)

exited_low : (m : Map) (a : ℕ) → a < length m.exits → image m (Exited a) < first_path m
exited_low m a h = omega (arith, h)

started_low : (m : Map) (a : ℕ) → a < length m.statements → image m (Started a) < first_path m
started_low m a h = omega (arith, h)

chosen_low : (m : Map) (a : ℕ) → a < length m.labels → image m (Chosen a) < first_path m
chosen_low m a h = omega (arith, h)

past_all : (m : Map) → IsMap m → (e : Event) (d : ℕ) (v : Evaluation) → image m e < first_path m → IsEvent m (Evaluated d v) → image m e ≡ image m (Evaluated d v) → ⊥
past_all m is e d v low h same =
    let p = place m is d v h in
    let far = p.low in
    let at : image m e ≡ p.mapped.base + path_of p.mapped.decision.tree v = same ∙ p.bit in
    omega (arith, low, far, at)

pub one_image : (m : Map) → IsMap m → (e f : Event) → IsEvent m e → IsEvent m f → image m e ≡ image m f → e ≡ f
one_image m is (Entered a) (Entered b) h g same = let z : a ≡ b = same in ap Entered (omega (arith, z))
one_image m is (Entered a) (Exited b) h g same = let x : a < length m.entries = h in let y : b < length m.exits = g in let z : a ≡ exit_bit m b = same in absurd (omega (arith, x, y, z))
one_image m is (Entered a) (Started b) h g same = let x : a < length m.entries = h in let y : b < length m.statements = g in let z : a ≡ statement_bit m b = same in absurd (omega (arith, x, y, z))
one_image m is (Entered a) (Chosen b) h g same = let x : a < length m.entries = h in let y : b < length m.labels = g in let z : a ≡ label_bit m b = same in absurd (omega (arith, x, y, z))
one_image m is (Entered a) (Evaluated d v) h g same = absurd (past_all m is (Entered a) d v (entered_low m a h) g same)
one_image m is (Exited a) (Entered b) h g same = let x : a < length m.exits = h in let y : b < length m.entries = g in let z : exit_bit m a ≡ b = same in absurd (omega (arith, x, y, z))
one_image m is (Exited a) (Exited b) h g same = let z : exit_bit m a ≡ exit_bit m b = same in ap Exited (omega (arith, z))
one_image m is (Exited a) (Started b) h g same = let x : a < length m.exits = h in let y : b < length m.statements = g in let z : exit_bit m a ≡ statement_bit m b = same in absurd (omega (arith, x, y, z))
one_image m is (Exited a) (Chosen b) h g same = let x : a < length m.exits = h in let y : b < length m.labels = g in let z : exit_bit m a ≡ label_bit m b = same in absurd (omega (arith, x, y, z))
one_image m is (Exited a) (Evaluated d v) h g same = absurd (past_all m is (Exited a) d v (exited_low m a h) g same)
one_image m is (Started a) (Entered b) h g same = let x : a < length m.statements = h in let y : b < length m.entries = g in let z : statement_bit m a ≡ b = same in absurd (omega (arith, x, y, z))
one_image m is (Started a) (Exited b) h g same = let x : a < length m.statements = h in let y : b < length m.exits = g in let z : statement_bit m a ≡ exit_bit m b = same in absurd (omega (arith, x, y, z))
one_image m is (Started a) (Started b) h g same = let z : statement_bit m a ≡ statement_bit m b = same in ap Started (omega (arith, z))
one_image m is (Started a) (Chosen b) h g same = let x : a < length m.statements = h in let y : b < length m.labels = g in let z : statement_bit m a ≡ label_bit m b = same in absurd (omega (arith, x, y, z))
one_image m is (Started a) (Evaluated d v) h g same = absurd (past_all m is (Started a) d v (started_low m a h) g same)
one_image m is (Chosen a) (Entered b) h g same = let x : a < length m.labels = h in let y : b < length m.entries = g in let z : label_bit m a ≡ b = same in absurd (omega (arith, x, y, z))
one_image m is (Chosen a) (Exited b) h g same = let x : a < length m.labels = h in let y : b < length m.exits = g in let z : label_bit m a ≡ exit_bit m b = same in absurd (omega (arith, x, y, z))
one_image m is (Chosen a) (Started b) h g same = let x : a < length m.labels = h in let y : b < length m.statements = g in let z : label_bit m a ≡ statement_bit m b = same in absurd (omega (arith, x, y, z))
one_image m is (Chosen a) (Chosen b) h g same = let z : label_bit m a ≡ label_bit m b = same in ap Chosen (omega (arith, z))
one_image m is (Chosen a) (Evaluated d v) h g same = absurd (past_all m is (Chosen a) d v (chosen_low m a h) g same)
one_image m is (Evaluated d v) (Entered a) h g same = absurd (past_all m is (Entered a) d v (entered_low m a g) h (sym same))
one_image m is (Evaluated d v) (Exited a) h g same = absurd (past_all m is (Exited a) d v (exited_low m a g) h (sym same))
one_image m is (Evaluated d v) (Started a) h g same = absurd (past_all m is (Started a) d v (started_low m a g) h (sym same))
one_image m is (Evaluated d v) (Chosen a) h g same = absurd (past_all m is (Chosen a) d v (chosen_low m a g) h (sym same))
one_image m is (Evaluated d v) (Evaluated k w) h g same =
    let p = place m is d v h in
    let q = place m is k w g in
    evaluation_once m is d k v w p q (sym p.bit ∙ same ∙ q.bit)
