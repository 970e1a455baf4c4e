-- A program has at most five mutants for each condition of its decisions.
use Rattle.std.proofs.Common.{◌≡◌, ◌∙◌, refl, sym, ap, subst, ℕ, zero, suc, ◌+◌, ◌*◌, ◌≤◌, Bool, true, false, not, ◌&&◌, if◌then◌else◌, List, [], ◌∷◌, ◌++◌, map, length, add-one, arith}
use Rattle.mc_span.specs.declared.span.Span.{Span}
use Rattle.mc_typed.specs.Tree as t
use Rattle.decide_rules.specs.declared.role.Role.{Role}
use Rattle.decide_rules.specs.declared.role.Role.TheVariants.{Controlling, Inner, Plain}
use Rattle.decide_rules.specs.Nodes as n
use Rattle.decide_rules.specs.Roots.{Found, is_constant, are_constant, is_candidate, is_root}
use Rattle.decide_rules.specs.Conditions.{width}
use Rattle.decide_rules.specs.Decisions.{Decision, AreDecisions}
use Rattle.decide_rules.specs.steps.Walk as walk
use Rattle.decide_rules.proofs.Listed.{under, whole, in_node, in_parts}
use Rattle.decide_rules.proofs.Walked.{nodes_of, walks}
use Rattle.decide_rules.proofs.Trees.{length_spans}
use Rattle.decide_rules.proofs.Told.{are_decisions}
use Rattle.decide_rules.proofs.Once.{one_list}
use Rattle.mc_mutate.specs.declared.changes.Change.{Change}
use Rattle.mc_mutate.specs.declared.changes.MutantKind.{MutantKind}
use Rattle.mc_mutate.specs.declared.changes.MutantKind.TheVariants.{Exchanged, Negated, FixedTrue, FixedFalse, Shifted}
use Rattle.mc_mutate.specs.declared.search.sought.Sought.{Sought}
use Rattle.mc_mutate.specs.declared.search.sought.Sought.TheVariants as sought
use Rattle.mc_mutate.specs.Mutants.{mutants, count}
use Rattle.mc_mutate.specs.Laws.{conditions_in}
use Rattle.mc_mutate.specs.steps.Search.{pass, passed, past_three, in_nodes, in_condition, in_conditions, in_decision, relates, own, inside, inside_parts, searched}
use Rattle.mc_mutate.proofs.Past.{passes, IsSought, is_sought}
use Rattle.mc_mutate.proofs.Listed.{mutants_found}

-- a search goes past at most this number of mutants
abbrev AtMost : (Sought → Sought) → ℕ → Type 0
AtMost f k = (l : ℕ) → k ≤ l → (m : ℕ) × (f (sought.Left l) ≡ sought.Left m) × (l ≤ m + k)

none_at : AtMost (λ s. s) 0
none_at l h = (l, refl, omega arith)

one_at : (c : Change) → AtMost (pass c) 1
one_at c zero h = absurd (omega arith)
one_at c (suc l) h = (l, passes c l, omega arith)

then_at : (f g : Sought → Sought) (j k : ℕ) → AtMost f j → AtMost g k → AtMost (λ s. g (f s)) (j + k)
then_at f g j k h e l le =
    let a = h l (omega arith) in
    let b = e a.0 (omega (arith, a.2)) in
    (b.0, ap g a.1 ∙ b.1, omega (arith, a.2, b.2))

weaker : (f : Sought → Sought) (j k : ℕ) → j ≤ k → AtMost f j → AtMost f k
weaker f j k le h l small =
    let a = h l (omega arith) in (a.0, a.1, omega (arith, a.2))

-- ---- one decision

operators : n.Node → ℕ
operators (n.Constant span) = 0
operators (n.Not a span) = operators a
operators (n.Logic operator a b span) = 1 + (operators a + operators b)
operators (n.Expression top ps span) = 0
operators (n.Whole ps) = 0

fewer : (a : n.Node) → operators a + 1 ≤ width a
unfolding operators
fewer (n.Constant span) = omega arith
fewer (n.Not a span) = fewer a
fewer (n.Logic operator a b span) = omega (arith, fewer a, fewer b)
fewer (n.Expression top ps span) = omega arith
fewer (n.Whole ps) = omega arith

pass_at : (kind : MutantKind) (span : Span) → AtMost (passed kind span) 1
pass_at kind span = one_at (record { kind = kind; at = span.start })

nodes_at : (a : n.Node) → AtMost (in_nodes a) (operators a)
unfolding operators
nodes_at (n.Constant span) = none_at
nodes_at (n.Not a span) = nodes_at a
nodes_at (n.Logic operator a b span) =
    then_at (passed Exchanged span) (λ s. in_nodes b (in_nodes a s)) 1 (operators a + operators b) (pass_at Exchanged span)
    (then_at (in_nodes a) (in_nodes b) (operators a) (operators b) (nodes_at a) (nodes_at b))
nodes_at (n.Expression top ps span) = none_at
nodes_at (n.Whole ps) = none_at

three_at : (span : Span) → AtMost (past_three span) 3
three_at span =
    then_at (λ s. passed FixedTrue span (passed Negated span s)) (passed FixedFalse span) 2 1
    (then_at (passed Negated span) (passed FixedTrue span) 1 1 (pass_at Negated span) (pass_at FixedTrue span)) (pass_at FixedFalse span)

condition_at : (compares : Bool) (span : Span) → AtMost (in_condition compares span) 4
condition_at true span = then_at (past_three span) (passed Shifted span) 3 1 (three_at span) (pass_at Shifted span)
condition_at false span = weaker (past_three span) 3 4 (omega arith) (three_at span)

conditions_at : (a : n.Node) → AtMost (in_conditions a) (4 * width a)
conditions_at (n.Constant span) = condition_at false span
conditions_at (n.Not a span) = conditions_at a
conditions_at (n.Logic operator a b span) =
    weaker (λ s. in_conditions b (in_conditions a s)) (4 * width a + 4 * width b) (4 * (width a + width b)) (omega arith)
    (then_at (in_conditions a) (in_conditions b) (4 * width a) (4 * width b) (conditions_at a) (conditions_at b))
conditions_at (n.Expression top ps span) = condition_at (relates top) span
conditions_at (n.Whole ps) = weaker (λ s. s) 0 4 (omega arith) none_at

decision_at : (a : n.Node) → AtMost (in_decision a) (5 * width a)
decision_at a =
    weaker (λ s. in_conditions a (in_nodes a s)) (operators a + 4 * width a) (5 * width a) (omega (arith, fewer a))
    (then_at (in_nodes a) (in_conditions a) (operators a) (4 * width a) (nodes_at a) (conditions_at a))

-- ---- constant expressions have no decision inside

both : (p q : Bool) → (p && q) ≡ true → (p ≡ true) × (q ≡ true)
both true q e = (refl, e)
both false q e = absurd (cc)

never : (p : Bool) → (p && not true) ≡ false
never true = refl
never false = refl

pub never_in : (b : Bool) (x s : Sought) → b ≡ false → (if b then x else s) ≡ s
never_in true x s e = cc
never_in false x s e = refl

no_root : (role : Role) (a : n.Node) (b : Bool) → is_constant a ≡ b → b ≡ true → is_root role a ≡ false
no_root role a true e h = rw e (never (is_candidate role a))
no_root role a false e h = absurd (cc)

pub own_still : (role : Role) (a : n.Node) (s : Sought) → is_constant a ≡ true → own role a s ≡ s
own_still role a s e = never_in (is_root role a) (in_decision a s) s (no_root role a true e refl)

mutual
  pub constant_still : (a : n.Node) (s : Sought) → is_constant a ≡ true → inside a s ≡ s
  constant_still (n.Constant span) s e = refl
  constant_still (n.Not a span) s e = constant_still a s e
  constant_still (n.Logic operator a b span) s e =
      let p = both (is_constant a) (is_constant b) e in
      ap (inside b) (constant_still a s p.0) ∙ constant_still b s p.1
  constant_still (n.Expression (n.Operator compares) ps span) s e = constants_still ps s e
  constant_still (n.Expression n.Other ps span) s e = absurd (cc)
  constant_still (n.Whole ps) s e = absurd (cc)

  constants_still : (ps : n.Parts) (s : Sought) → are_constant ps ≡ true → inside_parts ps s ≡ s
  constants_still n.no_parts s e = refl
  constants_still (n.part a ps) s e =
      let p = both (is_constant a) (are_constant ps) e in
      ap (inside_parts ps) (ap (inside a) (own_still Plain a s p.0) ∙ constant_still a s p.0) ∙ constants_still ps s p.1
  constants_still (n.controlling a ps) s e =
      let p = both (is_constant a) (are_constant ps) e in
      ap (inside_parts ps) (ap (inside a) (own_still Controlling a s p.0) ∙ constant_still a s p.0) ∙ constants_still ps s p.1

-- ---- the decisions in a node

abbrev total : List Found → ℕ
total [] = 0
total (f ∷ fs) = 5 * width f.node + total fs

total_under : (i : ℕ) (fs : List Found) → total (map (under i) fs) ≡ total fs
total_under i [] = refl
total_under i (f ∷ fs) = ap (λ (k : ℕ). 5 * width f.node + k) (total_under i fs)

total_append : (fs gs : List Found) → total (fs ++ gs) ≡ total fs + total gs
total_append [] gs = omega arith
total_append (f ∷ fs) gs = omega (arith, total_append fs gs)

alike : (f g : Sought → Sought) (k : ℕ) → ((s : Sought) → f s ≡ g s) → AtMost g k → AtMost f k
alike f g k e h l le = let a = h l le in (a.0, e (sought.Left l) ∙ a.1, a.2)

pub yes_in : (b : Bool) (x s : Sought) → b ≡ true → (if b then x else s) ≡ x
yes_in true x s e = refl
yes_in false x s e = cc

-- ---- an expression, by whether it is constant and whether it is a candidate

still_at : (role : Role) (a : n.Node) → is_constant a ≡ true → AtMost (searched role a) 0
still_at role a e l le =
    (l, ap (inside a) (own_still role a (sought.Left l) e) ∙ constant_still a (sought.Left l) e, omega arith)

pub is_one : (role : Role) (a : n.Node) → is_constant a ≡ false → is_candidate role a ≡ true → is_root role a ≡ true
is_one role a e h = rw (h, e) refl

pub is_none : (role : Role) (a : n.Node) → is_candidate role a ≡ false → is_root role a ≡ false
is_none role a h = rw h refl

none_total : (role : Role) (a : n.Node) (fs : List Found) → is_constant a ≡ true → total (whole role a fs) ≡ 0
none_total role a fs e = rw e refl

one_total : (role : Role) (a : n.Node) (fs : List Found) → is_constant a ≡ false → is_candidate role a ≡ true → total (whole role a fs) ≡ 5 * width a + total fs
one_total role a fs e h = rw (e, h) refl

same_total : (role : Role) (a : n.Node) (fs : List Found) → is_constant a ≡ false → is_candidate role a ≡ false → total (whole role a fs) ≡ total fs
same_total role a fs e h = rw (e, h) refl

part_by : (role : Role) (a : n.Node) (constant candidate : Bool) → is_constant a ≡ constant → is_candidate role a ≡ candidate → AtMost (inside a) (total (in_node a)) → AtMost (searched role a) (total (whole role a (in_node a)))
part_by role a true candidate e h k =
    subst (λ (j : ℕ). AtMost (searched role a) j) (sym (none_total role a (in_node a) e)) (still_at role a e)
part_by role a false true e h k =
    subst (λ (j : ℕ). AtMost (searched role a) j) (sym (one_total role a (in_node a) e h))
    (alike (searched role a) (λ s. inside a (in_decision a s)) (5 * width a + total (in_node a))
    (λ s. ap (inside a) (yes_in (is_root role a) (in_decision a s) s (is_one role a e h)))
    (then_at (in_decision a) (inside a) (5 * width a) (total (in_node a)) (decision_at a) k))
part_by role a false false e h k =
    subst (λ (j : ℕ). AtMost (searched role a) j) (sym (same_total role a (in_node a) e h))
    (alike (searched role a) (inside a) (total (in_node a))
    (λ s. ap (inside a) (never_in (is_root role a) (in_decision a s) s (is_none role a h))) k)

part_at : (role : Role) (a : n.Node) (i : ℕ) → AtMost (inside a) (total (in_node a)) → AtMost (searched role a) (total (map (under i) (whole role a (in_node a))))
part_at role a i k =
    subst (λ (j : ℕ). AtMost (searched role a) j) (sym (total_under i (whole role a (in_node a))))
    (part_by role a (is_constant a) (is_candidate role a) refl refl k)

more_at : (f g : Sought → Sought) (xs ys : List Found) → AtMost f (total xs) → AtMost g (total ys) → AtMost (λ s. g (f s)) (total (xs ++ ys))
more_at f g xs ys h k =
    subst (λ (j : ℕ). AtMost (λ s. g (f s)) j) (sym (total_append xs ys)) (then_at f g (total xs) (total ys) h k)

mutual
  inside_at : (a : n.Node) → AtMost (inside a) (total (in_node a))
  inside_at (n.Constant span) = none_at
  inside_at (n.Not a span) = part_at Inner a 0 (inside_at a)
  inside_at (n.Logic operator a b span) =
      more_at (searched Inner a) (searched Inner b) (map (under 0) (whole Inner a (in_node a))) (map (under 1) (whole Inner b (in_node b)))
      (part_at Inner a 0 (inside_at a)) (part_at Inner b 1 (inside_at b))
  inside_at (n.Expression top ps span) = parts_at 0 ps
  inside_at (n.Whole ps) = parts_at 0 ps

  parts_at : (i : ℕ) (ps : n.Parts) → AtMost (inside_parts ps) (total (in_parts i ps))
  parts_at i n.no_parts = none_at
  parts_at i (n.part a ps) =
      more_at (searched Plain a) (inside_parts ps) (map (under i) (whole Plain a (in_node a))) (in_parts (suc i) ps)
      (part_at Plain a i (inside_at a)) (parts_at (suc i) ps)
  parts_at i (n.controlling a ps) =
      more_at (searched Controlling a) (inside_parts ps) (map (under i) (whole Controlling a (in_node a))) (in_parts (suc i) ps)
      (part_at Controlling a i (inside_at a)) (parts_at (suc i) ps)

-- ---- those of the program

in_append : (ds es : List Decision) → conditions_in (ds ++ es) ≡ conditions_in ds + conditions_in es
in_append [] es = omega arith
in_append (d ∷ ds) es = omega (arith, in_append ds es)

total_found : (k : ℕ) (fs : List Found) → total fs ≡ 5 * conditions_in (map (walk.decision k) (nodes_of fs))
total_found k [] = refl
total_found k (f ∷ fs) = omega (arith, total_found k fs, length_spans f.node)

total_is : (k : ℕ) (fs : List t.Function) → total (in_parts k (n.functions fs)) ≡ 5 * conditions_in (walk.decided k fs)
total_is k [] = refl
total_is k (f ∷ fs) =
    let found : List Found = in_node (n.function f) in
    let here : total (map (under k) found) ≡ total found = total_under k found in
    let told : conditions_in (map (walk.decision k) (walk.inside (n.function f) [])) ≡ conditions_in (map (walk.decision k) (nodes_of found)) =
    ap (λ (ns : List n.Node). conditions_in (map (walk.decision k) ns)) (walks (n.function f) []) in
    let rest : total (in_parts (suc k) (n.functions fs)) ≡ 5 * conditions_in (walk.decided (k + 1) fs) =
    total_is (suc k) fs ∙ ap (λ (j : ℕ). 5 * conditions_in (walk.decided j fs)) (sym (add-one k)) in
    omega (
      arith,
      here,
      told,
      rest,
      total_found k found,
      total_append (map (under k) found) (in_parts (suc k) (n.functions fs)),
      in_append (map (walk.decision k) (walk.inside (n.function f) [])) (walk.decided (k + 1) fs),
    )

pub counts_are_small : (p : t.Program) (ds : List Decision) → AreDecisions p.functions ds → count p ≤ 5 * conditions_in ds
counts_are_small p ds h =
    let same : ds ≡ walk.decided 0 p.functions = one_list p.functions ds (walk.decided 0 p.functions) h (are_decisions p.functions) in
    let all : total (in_parts 0 (n.functions p.functions)) ≡ 5 * conditions_in ds =
    total_is 0 p.functions ∙ ap (λ (es : List Decision). 5 * conditions_in es) (sym same) in
    let a = parts_at 0 (n.functions p.functions) (5 * conditions_in ds) (omega arith) in
    let left : a.0 + length (mutants p) ≡ 5 * conditions_in ds =
    subst (λ (r : Sought). IsSought (mutants p) (5 * conditions_in ds) r) (mutants_found p (sought.Left (5 * conditions_in ds)) ∙ a.1)
    (is_sought (mutants p) (5 * conditions_in ds)) in
    omega arith
