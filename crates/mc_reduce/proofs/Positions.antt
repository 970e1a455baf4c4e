-- Which obligation stands at which position of the list.
use Rattle.std.proofs.Common.{◌≡◌, ◌∙◌, ◌+◌, ◌-◌, ◌<◌, ℕ, zero, suc, true, false, Some, List, [], ◌∷◌, ◌++◌, length, refl, sym, ap, subst, arith, inl, inr, add-zero}
use Rattle.std.specs.Prelude.{slice_get}
use Rattle.std.proofs.lemmas.Bool.{cases_lt}
use Rattle.std.proofs.lemmas.List.{length-append}
use Rattle.mc_span.specs.declared.span.Span.{Span}
use Rattle.decide_rules.specs.Decisions.{Decision}
use Rattle.mc_probe.specs.Maps.{Mapped, Map, first_exit, first_statement, first_label, first_path}
use Rattle.report_options.specs.declared.mode.Mode.{Mode}
use Rattle.mc_oblige.specs.declared.obligation.Obligation.{Obligation}
use Rattle.mc_oblige.specs.declared.obligation.ObligationId.{ObligationId}
use Rattle.mc_oblige.specs.declared.obligation.ObligationId.TheVariants.{Entry, Exit, Statement, Label, Outcome, Condition}
use Rattle.mc_oblige.specs.Obligations.{numbered, of_places, of_decision, of_decisions, obligations_of}
use Rattle.mc_reduce.specs.steps.Bits.{See, IsListed}

-- ---- lists one after the other

pub at_left : (xs ys : List Obligation) (i : ℕ) (o : Obligation) → slice_get xs i ≡ Some o → slice_get (xs ++ ys) i ≡ Some o
at_left [] ys i o e = cc
at_left (x ∷ xs) ys zero o e = e
at_left (x ∷ xs) ys (suc i) o e = at_left xs ys i o e

pub at_right : (xs ys : List Obligation) (i k : ℕ) → k ≡ length xs + i → slice_get (xs ++ ys) k ≡ slice_get ys i
at_right [] ys i k e = ap (slice_get ys) (omega (arith, e))
at_right (x ∷ xs) ys i zero e = absurd (omega (arith, e))
at_right (x ∷ xs) ys i (suc k) e = at_right xs ys i k (omega (arith, e))

length_numbered : (id : ℕ → ObligationId) (k : ℕ) (spans : List Span) → length (numbered id k spans) ≡ length spans
length_numbered id k [] = refl
length_numbered id k (s ∷ ss) = ap suc (length_numbered id (k + 1) ss)

-- an obligation with this name stands there
pub record IsAt (os : List Obligation) (i : ℕ) (id : ObligationId) : Type 0 where
  pub obligation : Obligation
  pub there : slice_get os i ≡ Some obligation
  pub named : obligation.id ≡ id

numbered_at : (id : ℕ → ObligationId) (k : ℕ) (spans : List Span) (i : ℕ) → i < length spans → IsAt (numbered id k spans) i (id (k + i))
numbered_at id k [] i lt = absurd (omega arith)
numbered_at id k (s ∷ ss) zero lt = record { obligation = record { id = id k; span = s }; there = refl; named = ap id (sym (add-zero k)) }
numbered_at id k (s ∷ ss) (suc i) lt =
    let rest = numbered_at id (k + 1) ss i (omega arith) in
    let same : (k + 1) + i ≡ k + suc i = omega arith in
    record { obligation = rest.obligation; there = rest.there; named = rest.named ∙ ap id same }

is_left : (xs ys : List Obligation) (i : ℕ) (id : ObligationId) → IsAt xs i id → IsAt (xs ++ ys) i id
is_left xs ys i id h = record { obligation = h.obligation; there = at_left xs ys i h.obligation h.there; named = h.named }

is_right : (xs ys : List Obligation) (i k : ℕ) (id : ObligationId) → k ≡ length xs + i → IsAt ys i id → IsAt (xs ++ ys) k id
is_right xs ys i k id e h = record { obligation = h.obligation; there = at_right xs ys i k e ∙ h.there; named = h.named }

-- ---- obligations that one bit each shows

-- the obligation at the place of a bit, by its kind and its number among these
pub record IsOfBit (m : Map) (b : ℕ) (id : ObligationId) : Type 1 where
  pub listed : IsListed m id
  pub forth : (seen : ℕ → Type 0) (mode : Mode) → See seen m mode id → seen b
  pub back : (seen : ℕ → Type 0) (mode : Mode) → seen b → See seen m mode id

pub record HasOfBit (m : Map) (os : List Obligation) (b : ℕ) : Type 1 where
  pub id : ObligationId
  pub at : IsAt os b id
  pub of_bit : IsOfBit m b id

module _ (m : Map) where
  abbrev entries : List Obligation
  entries = numbered Entry 0 m.entries

  abbrev exits : List Obligation
  exits = numbered Exit 0 m.exits

  abbrev statements : List Obligation
  statements = numbered Statement 0 m.statements

  abbrev labels : List Obligation
  labels = numbered Label 0 m.labels

  pub length_places : length (of_places m) ≡ first_path m
  length_places =
      let a = length-append entries (exits ++ (statements ++ labels)) in
      let b = length-append exits (statements ++ labels) in
      let c = length-append statements labels in
      omega (arith, a, b, c, length_numbered Entry 0 m.entries, length_numbered Exit 0 m.exits, length_numbered Statement 0 m.statements, length_numbered Label 0 m.labels)

  entry_at : (b : ℕ) → b < length m.entries → HasOfBit m (of_places m) b
  entry_at b lt =
      let same : 0 + b ≡ b = omega arith in
      let own = numbered_at Entry 0 m.entries b lt in
      record {
        id = Entry b;
        at = is_left entries (exits ++ (statements ++ labels)) b (Entry b) (subst (λ (n : ℕ). IsAt entries b (Entry n)) same own);
        of_bit = record { listed = lt; forth = λ seen mode h. h; back = λ seen mode h. h };
      }

  exit_at : (b k : ℕ) → b ≡ first_exit m + k → k < length m.exits → HasOfBit m (of_places m) b
  exit_at b k e lt =
      let same : 0 + k ≡ k = omega arith in
      let own = subst (λ (n : ℕ). IsAt exits k (Exit n)) same (numbered_at Exit 0 m.exits k lt) in
      let there = is_left exits (statements ++ labels) k (Exit k) own in
      record {
        id = Exit k;
        at = is_right entries (exits ++ (statements ++ labels)) k b (Exit k) (omega (arith, e, length_numbered Entry 0 m.entries)) there;
        of_bit = record { listed = lt; forth = λ seen mode h. subst seen (sym e) h; back = λ seen mode h. subst seen e h };
      }

  statement_at : (b k : ℕ) → b ≡ first_statement m + k → k < length m.statements → HasOfBit m (of_places m) b
  statement_at b k e lt =
      let same : 0 + k ≡ k = omega arith in
      let own = subst (λ (n : ℕ). IsAt statements k (Statement n)) same (numbered_at Statement 0 m.statements k lt) in
      let there = is_left statements labels k (Statement k) own in
      let after = is_right exits (statements ++ labels) k (length m.exits + k) (Statement k) (omega (arith, length_numbered Exit 0 m.exits)) there in
      record {
        id = Statement k;
        at = is_right entries (exits ++ (statements ++ labels)) (length m.exits + k) b (Statement k) (omega (arith, e, length_numbered Entry 0 m.entries)) after;
        of_bit = record { listed = lt; forth = λ seen mode h. subst seen (sym e) h; back = λ seen mode h. subst seen e h };
      }

  label_at : (b k : ℕ) → b ≡ first_label m + k → k < length m.labels → HasOfBit m (of_places m) b
  label_at b k e lt =
      let same : 0 + k ≡ k = omega arith in
      let own = subst (λ (n : ℕ). IsAt labels k (Label n)) same (numbered_at Label 0 m.labels k lt) in
      let after = is_right statements labels k (length m.statements + k) (Label k) (omega (arith, length_numbered Statement 0 m.statements)) own in
      let further = is_right exits (statements ++ labels) (length m.statements + k) (length m.exits + (length m.statements + k)) (Label k) (omega (arith, length_numbered Exit 0 m.exits)) after in
      record {
        id = Label k;
        at = is_right entries (exits ++ (statements ++ labels)) (length m.exits + (length m.statements + k)) b (Label k) (omega (arith, e, length_numbered Entry 0 m.entries)) further;
        of_bit = record { listed = lt; forth = λ seen mode h. subst seen (sym e) h; back = λ seen mode h. subst seen e h };
      }

  place_at : (b : ℕ) → b < first_path m → HasOfBit m (of_places m) b
  place_at b lt = elim (cases_lt b (length m.entries)) [
    | inl in_entries ↦ entry_at b in_entries
    | inr past ↦ elim (cases_lt b (first_statement m)) [
      | inl in_exits ↦ exit_at b (b - length m.entries) (omega (arith, past)) (omega (arith, past, in_exits))
      | inr further ↦ elim (cases_lt b (first_label m)) [
        | inl in_statements ↦ statement_at b (b - first_statement m) (omega (arith, further)) (omega (arith, further, in_statements))
        | inr last ↦ label_at b (b - first_label m) (omega (arith, last)) (omega (arith, last, lt))
      ]
    ]
  ]

  pub bit_of_position : (b : ℕ) → b < first_path m → HasOfBit m (obligations_of m) b
  bit_of_position b lt =
      let h = place_at b lt in
      record { id = h.id; at = is_left (of_places m) (of_decisions 0 m.decisions) b h.id h.at; of_bit = h.of_bit }

-- ---- obligations of decisions

-- the name of an obligation of decision d: the true outcome, the false one, and then the conditions
abbrev pub id_of : ℕ → ℕ → ObligationId
id_of d zero = Outcome d true
id_of d (suc zero) = Outcome d false
id_of d (suc (suc k)) = Condition d k

own_at : (d : ℕ) (decision : Decision) (at : ℕ) → at < suc (suc (length decision.conditions)) → IsAt (of_decision d decision) at (id_of d at)
own_at d decision zero lt = record { obligation = record { id = Outcome d true; span = decision.root }; there = refl; named = refl }
own_at d decision (suc zero) lt = record { obligation = record { id = Outcome d false; span = decision.root }; there = refl; named = refl }
own_at d decision (suc (suc k)) lt =
    let same : 0 + k ≡ k = omega arith in
    let h = subst (λ (n : ℕ). IsAt (numbered (Condition d) 0 decision.conditions) k (Condition d n)) same (numbered_at (Condition d) 0 decision.conditions k (omega arith)) in
    record { obligation = h.obligation; there = h.there; named = h.named }

-- how many obligations the first n decisions have
abbrev pub count_first : ℕ → List Mapped → ℕ
count_first zero ds = 0
count_first (suc n) [] = 0
count_first (suc n) (d ∷ ds) = suc (suc (length d.decision.conditions)) + count_first n ds

length_own : (d : ℕ) (decision : Decision) → length (of_decision d decision) ≡ suc (suc (length decision.conditions))
length_own d decision = ap (λ (n : ℕ). suc (suc n)) (length_numbered (Condition d) 0 decision.conditions)

decisions_at : (first : ℕ) (ds : List Mapped) (i : ℕ) (mapped : Mapped) (at k : ℕ) → slice_get ds i ≡ Some mapped → at < suc (suc (length mapped.decision.conditions)) → k ≡ count_first i ds + at
    → IsAt (of_decisions first ds) k (id_of (first + i) at)
decisions_at first [] i mapped at k known lt e = cc
decisions_at first (d ∷ ds) zero mapped at k known lt e =
    let same : d ≡ mapped = cc in
    let within : at < suc (suc (length d.decision.conditions)) = subst (λ (x : Mapped). at < suc (suc (length x.decision.conditions))) (sym same) lt in
    let here : at ≡ k = omega (arith, e) in
    let there : first ≡ first + 0 = sym (add-zero first) in
    is_left (of_decision first d.decision) (of_decisions (first + 1) ds) k (id_of (first + 0) at)
    (subst (λ (n : ℕ). IsAt (of_decision first d.decision) k (id_of n at)) there (subst (λ (n : ℕ). IsAt (of_decision first d.decision) n (id_of first at)) here (own_at first d.decision at within)))
decisions_at first (d ∷ ds) (suc i) mapped at k known lt e =
    let rest = decisions_at (first + 1) ds i mapped at (count_first i ds + at) known lt refl in
    let same : (first + 1) + i ≡ first + suc i = omega arith in
    is_right (of_decision first d.decision) (of_decisions (first + 1) ds) (count_first i ds + at) k (id_of (first + suc i) at) (omega (arith, e, length_own first d.decision))
    (subst (λ (n : ℕ). IsAt (of_decisions (first + 1) ds) (count_first i ds + at) (id_of n at)) same rest)

pub decision_at : (m : Map) (d : ℕ) (mapped : Mapped) (at k : ℕ) → slice_get m.decisions d ≡ Some mapped → at < suc (suc (length mapped.decision.conditions)) → k ≡ first_path m + (count_first d m.decisions + at)
    → IsAt (obligations_of m) k (id_of d at)
decision_at m d mapped at k known lt e =
    let own = decisions_at 0 m.decisions d mapped at (count_first d m.decisions + at) known lt refl in
    let same : 0 + d ≡ d = omega arith in
    is_right (of_places m) (of_decisions 0 m.decisions) (count_first d m.decisions + at) k (id_of d at) (omega (arith, e, length_places m))
    (subst (λ (n : ℕ). IsAt (of_decisions 0 m.decisions) (count_first d m.decisions + at) (id_of n at)) same own)

length_decisions : (first : ℕ) (ds : List Mapped) → length (of_decisions first ds) ≡ count_first (length ds) ds
length_decisions first [] = refl
length_decisions first (d ∷ ds) =
    let both = length-append (of_decision first d.decision) (of_decisions (first + 1) ds) in
    omega (arith, both, length_own first d.decision, length_decisions (first + 1) ds)

pub length_all : (m : Map) → length (obligations_of m) ≡ first_path m + count_first (length m.decisions) m.decisions
length_all m =
    let both = length-append (of_places m) (of_decisions 0 m.decisions) in
    omega (arith, both, length_places m, length_decisions 0 m.decisions)
