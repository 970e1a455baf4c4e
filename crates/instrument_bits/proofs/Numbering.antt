-- The decisions that are left are numbered after those before.
use Rattle.std.proofs.Common.{◌≡◌, ◌∙◌, refl, sym, ap, subst, ℕ, ◌+◌, ◌-◌, ◌≤◌, ◌^◌, min, List, [], ◌∷◌, ◌++◌, map, length, reverse, append_assoc, All, inl, inr, arith}
use Rattle.std.proofs.lemmas.List.{append-nil, reverse-append, reverse-reverse}
use Rattle.std.proofs.lemmas.List.Elements.{All-nil, All-cons, All-head, All-tail, All-push}
use Rattle.mc_cond.specs.Tree.{tree_of, size, IsNumbered}
use Rattle.mc_paths.specs.Paths.{count_of}
use Rattle.mc_typed.specs.Tree.{Function}
use Rattle.decide_rules.specs.declared.decision.Decision as code
use Rattle.decide_rules.specs.Roots.{Found}
use Rattle.decide_rules.specs.Decisions.{Decision, Tells, AreTold, AreDecisions}
use Rattle.decide_rules.specs.Seen.{decision_of}
use Rattle.decide_rules.proofs.Trees.{size_of_tree}
use Rattle.mc_probe.specs.declared.mapped.MappedDecision.{MappedDecision}
use Rattle.mc_probe.specs.Mapped.{mapped_of}
use Rattle.mc_probe.specs.Maps.{Mapped, AreBased}
use Rattle.instrument_bits.specs.declared.fault.InstrumentFault.{InstrumentFault}
use Rattle.instrument_bits.specs.declared.fault.InstrumentFault.TheVariants.{TooManyPaths, TooManyBits, OutOfMemory}
use Rattle.instrument_bits.specs.Faults.{most_bits, paths_of, HasFewPaths, IsFirstWithMany}
use Rattle.instrument_bits.specs.steps.Numbered.{based, IsOne, IsRefused, IsReady}

-- the greatest number of bits that is told
abbrev pub greatest : ℕ
greatest = 2 ^ 64 - 1

-- ---- the bits of a list

pub based_length : (bit : ℕ) (ds : List Decision) → AreBased (based bit ds) bit (bit + paths_of ds)
based_length bit [] = omega arith
based_length bit (d ∷ ds) =
    let more : (bit + count_of d.tree) + paths_of ds ≡ bit + (count_of d.tree + paths_of ds) = omega arith in
    (refl, subst (λ (to : ℕ). AreBased (based (bit + count_of d.tree) ds) (bit + count_of d.tree) to) more (based_length (bit + count_of d.tree) ds))

pub based_decisions : (bit : ℕ) (ds : List Decision) → map (λ (d : Mapped). d.decision) (based bit ds) ≡ ds
based_decisions bit [] = refl
based_decisions bit (d ∷ ds) = ap (λ (es : List Decision). d ∷ es) (based_decisions (bit + count_of d.tree) ds)

-- ---- each decision is ready

told_placed : (d : Decision) (f : Found) → Tells f d → length d.conditions ≡ size d.tree
told_placed d f t = t.count ∙ (sym (size_of_tree 0 f.node) ∙ ap size (sym t.tree))

all_placed : (fs : List Found) (ds : List code.Decision) → AreTold fs (map decision_of ds) → All (λ (d : code.Decision). IsNumbered (tree_of d.tree)) ds → All IsReady ds
all_placed [] [] t a = All-nil IsReady
all_placed [] (d ∷ ds) t a = absurd t
all_placed (f ∷ fs) [] t a = absurd t
all_placed (f ∷ fs) (d ∷ ds) t a =
    All-cons IsReady d ds (record { numbered = head a; placed = told_placed (decision_of d) f t.0 })
    (all_placed fs ds t.1 (tail a))
  where
    head : All (λ (e : code.Decision). IsNumbered (tree_of e.tree)) (d ∷ ds) → IsNumbered (tree_of d.tree)
    head h = All-head (λ (e : code.Decision). IsNumbered (tree_of e.tree)) d ds h

    tail : All (λ (e : code.Decision). IsNumbered (tree_of e.tree)) (d ∷ ds) → All (λ (e : code.Decision). IsNumbered (tree_of e.tree)) ds
    tail h = All-tail (λ (e : code.Decision). IsNumbered (tree_of e.tree)) d ds h

pub all_ready : (fs : List Function) (ds : List code.Decision) → AreDecisions fs (map decision_of ds) → All (λ (d : code.Decision). IsNumbered (tree_of d.tree)) ds → All IsReady ds
all_ready fs ds are numbered = all_placed are.roots ds are.told numbered

-- ---- the loop

-- the last of a list, and those before it
pub all_before : (ds : List code.Decision) (x : code.Decision) → All IsReady (ds ++ x ∷ []) → All IsReady ds × IsReady x
all_before [] x h = (All-nil IsReady, All-head IsReady x [] h)
all_before (d ∷ ds) x h =
    let rest = all_before ds x (All-tail IsReady d (ds ++ x ∷ []) h) in
    (All-cons IsReady d ds (All-head IsReady d (ds ++ x ∷ []) h) rest.0, rest.1)

pub all_reversed : (ds : List code.Decision) → All IsReady ds → All IsReady (reverse ds)
all_reversed [] h = h
all_reversed (d ∷ ds) h =
    subst (All IsReady) (sym (reverse-append (d ∷ []) ds))
    (All-push IsReady (reverse ds) d (all_reversed ds (All-tail IsReady d ds h)) (All-head IsReady d ds h))

-- The decisions of `left` are still to come, the last one first.
pub record Numbered (first bits : ℕ) (mapped : List MappedDecision) (left all : List code.Decision) : Type 0 where
  pub ready : All IsReady left
  pub fits : bits ≤ greatest
  pub bits_are : min (bits + paths_of (map decision_of (reverse left))) greatest ≡ min (first + paths_of (map decision_of all)) greatest
  pub based_are : bits ≤ most_bits → map mapped_of mapped ++ based bits (map decision_of (reverse left)) ≡ based first (map decision_of all)
  pub few : All HasFewPaths (map decision_of (reverse left)) → All HasFewPaths (map decision_of all)
  pub many : (e : Decision) → IsFirstWithMany (map decision_of (reverse left)) e → IsFirstWithMany (map decision_of all) e

cap : (b c r : ℕ) → min (min (b + c) greatest + r) greatest ≡ min (b + (c + r)) greatest
cap b c r = omega arith

below : (b c : ℕ) → min (b + c) greatest ≤ most_bits → min (b + c) greatest ≡ b + c
below b c h = omega (arith, h)

first_below : (b c : ℕ) → min (b + c) greatest ≤ most_bits → b ≤ most_bits
first_below b c h = omega (arith, h)

pub begins : (first : ℕ) (mapped : List MappedDecision) (left all : List code.Decision) → mapped ≡ [] → first ≤ greatest → All IsReady all → left ≡ reverse all → Numbered first first mapped left all
begins first mapped left all none low ready is =
    let back : reverse left ≡ all = ap reverse is ∙ reverse-reverse all in
    record {
      ready = subst (All IsReady) (sym is) (all_reversed all ready);
      fits = low;
      bits_are = ap (λ (zs : List code.Decision). min (first + paths_of (map decision_of zs)) greatest) back;
      based_are = λ h. ap (λ (zs : List MappedDecision). map mapped_of zs ++ based first (map decision_of (reverse left))) none ∙ ap (λ (zs : List code.Decision). based first (map decision_of zs)) back;
      few = λ h. subst (λ (zs : List code.Decision). All HasFewPaths (map decision_of zs)) back h;
      many = λ e h. subst (λ (zs : List code.Decision). IsFirstWithMany (map decision_of zs) e) back h;
    }

-- the last of what is left comes first
turned : (left new : List code.Decision) (x : code.Decision) → left ≡ new ++ x ∷ [] → reverse left ≡ x ∷ reverse new
turned left new x is = ap reverse is ∙ reverse-append new (x ∷ [])

pub is_ready : (first b : ℕ) (mapped : List MappedDecision) (left new all : List code.Decision) (x : code.Decision) → left ≡ new ++ x ∷ [] → Numbered first b mapped left all → IsReady x
is_ready first b mapped left new all x is so_far = (all_before new x (subst (All IsReady) is so_far.ready)).1

pub numbers : (first b after : ℕ) (mapped more : List MappedDecision) (left new all : List code.Decision) (x : code.Decision) → left ≡ new ++ x ∷ [] → HasFewPaths (decision_of x) → after ≡ min (b + count_of (tree_of x.tree)) greatest → (after ≤ most_bits → map mapped_of more ≡ map mapped_of mapped ++ record { decision = decision_of x; base = b } ∷ []) → Numbered first b mapped left all → Numbered first after more new all
numbers first b after mapped more left new all x is few_paths bits kept so_far =
    let c : ℕ = count_of (tree_of x.tree) in
    let cut : reverse left ≡ x ∷ reverse new = turned left new x is in
    let rest : List Decision = map decision_of (reverse new) in
    record {
      ready = (all_before new x (subst (All IsReady) is so_far.ready)).0;
      fits = omega (arith, bits);
      bits_are =
          ap (λ (k : ℕ). min (k + paths_of rest) greatest) bits
          ∙ (cap b c (paths_of rest)
          ∙ (ap (λ (zs : List code.Decision). min (b + paths_of (map decision_of zs)) greatest) (sym cut) ∙ so_far.bits_are));
      based_are = λ h.
          let low : min (b + c) greatest ≤ most_bits = subst (λ (k : ℕ). k ≤ most_bits) bits h in
          ap (λ (zs : List Mapped). zs ++ based after rest) (kept h)
          ∙ (append_assoc (map mapped_of mapped) (record { decision = decision_of x; base = b } ∷ []) (based after rest)
          ∙ (ap (λ (k : ℕ). map mapped_of mapped ++ record { decision = decision_of x; base = b } ∷ based k rest) (bits ∙ below b c low)
          ∙ (ap (λ (zs : List code.Decision). map mapped_of mapped ++ based b (map decision_of zs)) (sym cut) ∙ so_far.based_are (first_below b c low))));
      few = λ h. so_far.few (subst (λ (zs : List code.Decision). All HasFewPaths (map decision_of zs)) (sym cut) (All-cons HasFewPaths (decision_of x) rest few_paths h));
      many = λ e h. so_far.many e (subst (λ (zs : List code.Decision). IsFirstWithMany (map decision_of zs) e) (sym cut) (inr (few_paths, h)));
    }

pub refuses : (first b : ℕ) (mapped : List MappedDecision) (left new all : List code.Decision) (x : code.Decision) (fault : InstrumentFault) → left ≡ new ++ x ∷ [] → IsOne (decision_of x) fault → Numbered first b mapped left all → IsRefused (map decision_of all) fault
refuses first b mapped left new all x (TooManyPaths at count) is one so_far = (
  decision_of x,
  so_far.many (decision_of x) (subst (λ (zs : List code.Decision). IsFirstWithMany (map decision_of zs) (decision_of x)) (sym (turned left new x is)) (inl (one.0, refl))),
  one.1,
  one.2,
)
refuses first b mapped left new all x (TooManyBits count) is one so_far = absurd one
refuses first b mapped left new all x OutOfMemory is one so_far = tt

-- ---- at the end

pub all_few : (first b : ℕ) (mapped : List MappedDecision) (left all : List code.Decision) → left ≡ [] → Numbered first b mapped left all → All HasFewPaths (map decision_of all)
all_few first b mapped left all end so_far =
    so_far.few (subst (λ (zs : List code.Decision). All HasFewPaths (map decision_of (reverse zs))) (sym end) (All-nil HasFewPaths))

capped : (b : ℕ) → b ≤ greatest → min (b + 0) greatest ≡ b
capped b h = omega (arith, h)

pub all_bits : (first b : ℕ) (mapped : List MappedDecision) (left all : List code.Decision) → left ≡ [] → Numbered first b mapped left all → b ≡ min (first + paths_of (map decision_of all)) greatest
all_bits first b mapped left all end so_far =
    sym (capped b so_far.fits)
    ∙ (ap (λ (zs : List code.Decision). min (b + paths_of (map decision_of (reverse zs))) greatest) (sym end) ∙ so_far.bits_are)

pub all_based : (first b : ℕ) (mapped : List MappedDecision) (left all : List code.Decision) → left ≡ [] → Numbered first b mapped left all → b ≤ most_bits → map mapped_of mapped ≡ based first (map decision_of all)
all_based first b mapped left all end so_far low =
    sym (append-nil (map mapped_of mapped))
    ∙ (ap (λ (zs : List code.Decision). map mapped_of mapped ++ based b (map decision_of (reverse zs))) (sym end) ∙ so_far.based_are low)
