-- A program has one map.
use Rattle.std.proofs.Common.{◌≡◌, ◌∙◌, ◌+◌, ◌<◌, ℕ, List, [], ◌∷◌, length, map, refl, sym, ap, subst, arith}
use Rattle.mc_typed.specs.Tree.{Program}
use Rattle.decide_rules.specs.Decisions.{Decision, AreDecisions}
use Rattle.decide_rules.proofs.Once as decided
use Rattle.mc_paths.specs.Paths.{count_of}
use Rattle.mc_probe.specs.Maps.{AreBased, IsMapOf, Map, Mapped, first_path}
use Rattle.instrument_bits.specs.Faults.{bits_of, most_bits, paths_of, places_of}

abbrev decision_in : Mapped → Decision
decision_in d = d.decision

-- where the paths begin, where they end, and which decisions they belong to tell the bases
one_based : (ds es : List Mapped) (from to end : ℕ) → map decision_in ds ≡ map decision_in es → AreBased ds from to → AreBased es from end → (ds ≡ es) × (to ≡ end)
one_based [] [] from to end same based also = (refl, sym based ∙ also)
one_based [] (e ∷ es) from to end same based also = absurd (cc same)
one_based (d ∷ ds) [] from to end same based also = absurd (cc same)
one_based (d ∷ ds) (e ∷ es) from to end same based also =
    let first : d.decision ≡ e.decision = cc same in
    let rest : map decision_in ds ≡ map decision_in es = cc same in
    let base : d.base ≡ e.base = based.0 ∙ sym also.0 in
    let later : AreBased es (from + count_of d.decision.tree) end =
    subst (λ (x : Decision). AreBased es (from + count_of x.tree) end) (sym first) also.1 in
    let others = one_based ds es (from + count_of d.decision.tree) to end rest based.1 later in
    let one : d ≡ e = λ i. record { decision = first i; base = base i } in
    (λ i. one i ∷ others.0 i, others.1)

counted : (ds : List Mapped) (from to : ℕ) → AreBased ds from to → to ≡ from + paths_of (map decision_in ds)
counted [] from to based = omega (arith, based)
counted (d ∷ ds) from to based =
    let more = counted ds (from + count_of d.decision.tree) to based.1 in omega (arith, more)

module _ (p : Program) (m : Map) (is : IsMapOf p m) where
  first_is : first_path m ≡ places_of p
  first_is = λ i. length (is.entries i) + length (is.exits i) + length (is.statements i) + length (is.labels i)

  -- the bits of a map are those of its program
  pub few_bits : (ds : List Decision) → AreDecisions p.functions ds → most_bits < bits_of p ds → ⊥
  few_bits ds are many =
      let same : map decision_in m.decisions ≡ ds = decided.one_list p.functions (map decision_in m.decisions) ds is.decisions are in
      let all : m.bits ≡ first_path m + paths_of (map decision_in m.decisions) = counted m.decisions (first_path m) m.bits is.kept.based in
      let paths : paths_of (map decision_in m.decisions) ≡ paths_of ds = ap paths_of same in
      omega (arith, all, paths, first_is, is.kept.few, many)

pub one_map : (p : Program) (m n : Map) → IsMapOf p m → IsMapOf p n → m ≡ n
one_map p m n is also =
    let decisions : map decision_in m.decisions ≡ map decision_in n.decisions = decided.one_list p.functions (map decision_in m.decisions) (map decision_in n.decisions) is.decisions also.decisions in
    let first : first_path n ≡ first_path m = first_is p n also ∙ sym (first_is p m is) in
    let based = one_based m.decisions n.decisions (first_path m) m.bits n.bits decisions is.kept.based (subst (λ (k : ℕ). AreBased n.decisions k n.bits) first also.kept.based) in
    λ i. record {
      entries = (is.entries ∙ sym also.entries) i;
      exits = (is.exits ∙ sym also.exits) i;
      statements = (is.statements ∙ sym also.statements) i;
      labels = (is.labels ∙ sym also.labels) i;
      decisions = based.0 i;
      bits = based.1 i;
    }
