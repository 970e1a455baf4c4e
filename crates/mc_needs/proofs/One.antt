-- What is needed is one thing: needs are told by least vectors, and each entry of the list by those
-- before it.
use Rattle.std.proofs.Common.{◌≡◌, ℕ, zero, suc, ◌<◌, ◌++◌, Bool, true, false, Option, Some, None, List, [], ◌∷◌, length, sym, ap, subst, ◌∙◌, refl, arith, inl, inr}
use Rattle.std.specs.Prelude.{slice_get, get_or}
use Rattle.std.proofs.lemmas.Bool.{cases_lt}
use Rattle.mc_cond.specs.Tree.{Tree}
use Rattle.mc_steps.specs.Events.{Event}
use Rattle.mc_probe.specs.Maps.{Mapped, Map}
use Rattle.report_options.specs.declared.mode.Mode.{Mode}
use Rattle.mc_oblige.specs.declared.obligation.ObligationId.{ObligationId}
use Rattle.mc_oblige.specs.declared.obligation.ObligationId.TheVariants.{Entry, Exit, Statement, Label, Outcome, Condition}
use Rattle.mc_oblige.specs.declared.obligation.Obligation.{Obligation}
use Rattle.mc_oblige.specs.Obligations.{obligations_of}
use Rattle.mc_oblige.specs.Evidence.{IsLeast, IsEvaluated}
use Rattle.needed_paths.specs.declared.need.Need.{Need}
use Rattle.needed_paths.specs.declared.need.Need.TheVariants.{Vector, Beside, Both}
use Rattle.needed_paths.specs.declared.wanted.Wanted.{Wanted}
use Rattle.needed_paths.specs.Needs.{Needs}
use Rattle.mc_needs.specs.Needs.{Gives, IsPairFor, IsLeastPair, IsHalfKnown, NeedsOne, NeedsTwo, IsSeen, IsConditionNeed, IsOutcomeNeed, IsNeed}
use Rattle.mc_needs.specs.Asked.{asked_ids}
use Rattle.mc_needs.specs.Wanted.{PutsForCondition, met, one, two, PutsForOutcome, had, new, IsEntry, IsKnown, Adds, AddsForCondition, AddsForOutcome, AddsFor, AreWantedFrom, AreWanted}
use Rattle.mc_needs.specs.Answer.{HasNeed, AreNeeds}

pub one_least : (is : ℕ → Type 0) (t u : ℕ) → IsLeast is t → IsLeast is u → t ≡ u
one_least is t u h g = elim (cases_lt t u) [
  | inl less ↦ absurd (g.none_before t less h.so)
  | inr more ↦ elim (cases_lt u t) [ inl less ↦ absurd (h.none_before u less g.so) | inr also ↦ omega (arith, more, also) ]
]

pub one_pair : (holds : ℕ → ℕ → Type 0) (a b c e : ℕ) → IsLeastPair holds a b → IsLeastPair holds c e → (a ≡ c) × (b ≡ e)
one_pair holds a b c e h g =
    let less = h.least c e g.so in
    let more = g.least a b h.so in
    let first : a ≡ c = elim less [
      | inl l ↦ elim more [ inl n ↦ absurd (omega (arith, l, n)) | inr n ↦ sym n.0 ]
      | inr l ↦ l.0
    ] in (
      first,
      elim less [
        | inl l ↦ absurd (omega (arith, l, first))
        | inr l ↦ elim more [ inl n ↦ absurd (omega (arith, n, first)) | inr n ↦ (let x = l.1 in let y = n.1 in omega (arith, x, y)) ]
      ],
    )

-- ---- what an obligation needs

module _ (mode : Mode) (t : Tree) (k : ℕ) (known : ℕ → Type 0) where
  not_known : (p q : ℕ) → p ≡ q → known p → ¬ known q → ⊥
  not_known p q e is not = not (subst known e is)

  pub same_one : (p q r s : ℕ) → NeedsOne mode t k known p q → NeedsOne mode t k known r s → (p ≡ r) × (q ≡ s)
  same_one p q r s h g = elim h.least [
    | inl x ↦ elim g.least [
      | inl y ↦ one_pair (IsHalfKnown mode t k known) p q r s x y
      | inr y ↦ (let e = one_pair (IsHalfKnown mode t k known) p q s r x y in absurd (not_known s p (sym e.0) g.old h.new))
    ]
    | inr x ↦ elim g.least [
      | inl y ↦ (let e = one_pair (IsHalfKnown mode t k known) q p r s x y in absurd (not_known q r e.0 h.old g.new))
      | inr y ↦ (let e = one_pair (IsHalfKnown mode t k known) q p s r x y in (e.1, e.0))
    ]
  ]

  pub not_both : (p q r s : ℕ) → NeedsOne mode t k known p q → NeedsTwo mode t k known r s → ⊥
  not_both p q r s h g = elim h.least [ inl x ↦ g.none p q x.so | inr x ↦ g.none q p x.so ]

  pub same_two : (p q r s : ℕ) → NeedsTwo mode t k known p q → NeedsTwo mode t k known r s → (p ≡ r) × (q ≡ s)
  same_two p q r s h g = one_pair (IsPairFor mode t k) p q r s h.least g.least

  pub same_puts : (ps qs : List ℕ) → PutsForCondition mode t k known ps → PutsForCondition mode t k known qs → ps ≡ qs
  same_puts [] [] (met {p} {q} first second pair) (met {p = a} {q = b} x y z) = refl
  same_puts [] (_ ∷ []) (met {p} {q} first second pair) (one {path} {partner} none need) = absurd (none p q first second pair)
  same_puts [] (_ ∷ _ ∷ []) (met {p} {q} first second pair) (two {first = a} {second = b} none need) = absurd (none p q first second pair)
  same_puts (_ ∷ []) [] (one {path} {partner} none need) (met {p} {q} first second pair) = absurd (none p q first second pair)
  same_puts (_ ∷ []) (_ ∷ []) (one {path} {partner} none need) (one {path = r} {partner = s} nor other) =
      ap (λ n. n ∷ []) (same_one path partner r s need other).0
  same_puts (_ ∷ []) (_ ∷ _ ∷ []) (one {path} {partner} none need) (two {first = a} {second = b} nor other) = absurd (not_both path partner a b need other)
  same_puts (_ ∷ _ ∷ []) [] (two {first = a} {second = b} none need) (met {p} {q} first second pair) = absurd (none p q first second pair)
  same_puts (_ ∷ _ ∷ []) (_ ∷ []) (two {first = a} {second = b} none need) (one {path = r} {partner = s} nor other) = absurd (not_both r s a b other need)
  same_puts (_ ∷ _ ∷ []) (_ ∷ _ ∷ []) (two {first = a} {second = b} none need) (two {first = c} {second = e} nor other) =
      let same = same_two a b c e need other in
      λ i. same.0 i ∷ same.1 i ∷ []
  same_puts (_ ∷ _ ∷ _ ∷ _) qs h g = elim h [ ]
  same_puts [] (_ ∷ _ ∷ _ ∷ _) h g = elim g [ ]
  same_puts (_ ∷ []) (_ ∷ _ ∷ _ ∷ _) h g = elim g [ ]
  same_puts (_ ∷ _ ∷ []) (_ ∷ _ ∷ _ ∷ _) h g = elim g [ ]

  pub same_outcome_puts : (outcome : Bool) (ps qs : List ℕ) → PutsForOutcome t outcome known ps → PutsForOutcome t outcome known qs → ps ≡ qs
  same_outcome_puts outcome [] [] (had {p} is gives) (had {p = q} also too) = refl
  same_outcome_puts outcome [] (_ ∷ []) (had {p} is gives) (new {path} none least) = absurd (none p is gives)
  same_outcome_puts outcome (_ ∷ []) [] (new {path} none least) (had {p} is gives) = absurd (none p is gives)
  same_outcome_puts outcome (_ ∷ []) (_ ∷ []) (new {path} none least) (new {path = q} nor also) =
      ap (λ n. n ∷ []) (one_least (Gives t outcome) path q least also)
  same_outcome_puts outcome (_ ∷ _ ∷ _) qs h g = elim h [ ]
  same_outcome_puts outcome [] (_ ∷ _ ∷ _) h g = elim g [ ]
  same_outcome_puts outcome (_ ∷ []) (_ ∷ _ ∷ _) h g = elim g [ ]

-- ---- the list

module _ (seen : ℕ → ℕ → Type 0) (m : Map) (mode : Mode) (asked : List Bool) where
  same_first : (listed : List Wanted) (d : ℕ) (condition : Option ℕ) (path : ℕ) (v w : Wanted)
      → IsEntry m asked listed d condition path v → IsEntry m asked listed d condition path w → (x y : Option Bool) → v.outcome ≡ x → w.outcome ≡ y → x ≡ y
  same_first listed d condition path v w h g None None e f = refl
  same_first listed d condition path v w h g None (Some y) e f =
      let too : v.outcome ≡ Some y = (h.first y).1 ((g.first y).0 f) in
      let own : None ≡ Some y = sym e ∙ too in
      own
  same_first listed d condition path v w h g (Some x) y e f =
      let too : w.outcome ≡ Some x = (g.first x).1 ((h.first x).0 e) in
      sym too ∙ f

  same_entry : (listed : List Wanted) (d : ℕ) (condition : Option ℕ) (path : ℕ) (v w : Wanted)
      → IsEntry m asked listed d condition path v → IsEntry m asked listed d condition path w → v ≡ w
  same_entry listed d condition path v w h g =
      let a : v.decision ≡ w.decision = h.decision ∙ sym g.decision in
      let b : v.path ≡ w.path = h.same ∙ sym g.same in
      let c : v.condition ≡ w.condition = h.put_for ∙ sym g.put_for in
      let e : v.outcome ≡ w.outcome = same_first listed d condition path v w h g v.outcome w.outcome refl refl in
      λ i. record { decision = a i; path = b i; condition = c i; outcome = e i }

  same_adds : (listed : List Wanted) (d : ℕ) (condition : Option ℕ) (paths : List ℕ) (x y : List Wanted)
      → Adds seen m mode asked listed d condition paths x → Adds seen m mode asked listed d condition paths y → x ≡ y
  same_adds listed d condition [] x y h g = h ∙ sym g
  same_adds listed d condition (path ∷ paths) x y h g =
      let e : h.0 ≡ g.0 = same_entry listed d condition path h.0 g.0 h.1 g.1 in
      let P : Wanted → Type 0 = λ w. Adds seen m mode asked (listed ++ w ∷ []) d condition paths y in
      same_adds (listed ++ h.0 ∷ []) d condition paths x y h.2 (subst P (sym e) g.2)

  by_condition : (listed : List Wanted) (d k : ℕ) (o : Option Mapped) (x y : List Wanted)
      → AddsForCondition seen m mode asked listed d k o x → AddsForCondition seen m mode asked listed d k o y → x ≡ y
  by_condition listed d k None x y h g = absurd h
  by_condition listed d k (Some mapped) x y h g =
      let e : h.0 ≡ g.0 = same_puts mode mapped.decision.tree k (IsKnown seen m mode asked listed d) h.0 g.0 h.1 g.1 in
      let P : List ℕ → Type 0 = λ paths. Adds seen m mode asked listed d (Some k) paths y in
      same_adds listed d (Some k) h.0 x y h.2 (subst P (sym e) g.2)

  by_outcome : (listed : List Wanted) (d : ℕ) (outcome : Bool) (o : Option Mapped) (x y : List Wanted)
      → AddsForOutcome seen m mode asked listed d outcome o x → AddsForOutcome seen m mode asked listed d outcome o y → x ≡ y
  by_outcome listed d outcome None x y h g = absurd h
  by_outcome listed d outcome (Some mapped) x y h g =
      let e : h.0 ≡ g.0 = same_outcome_puts mode mapped.decision.tree 0 (IsKnown seen m mode asked listed d) outcome h.0 g.0 h.1 g.1 in
      let P : List ℕ → Type 0 = λ paths. Adds seen m mode asked listed d None paths y in
      same_adds listed d None h.0 x y h.2 (subst P (sym e) g.2)

  same_after : (listed : List Wanted) (id : ObligationId) (x y : List Wanted) → AddsFor seen m mode asked listed id x → AddsFor seen m mode asked listed id y → x ≡ y
  same_after listed (Entry n) x y h g = absurd h
  same_after listed (Exit n) x y h g = absurd h
  same_after listed (Statement n) x y h g = absurd h
  same_after listed (Label n) x y h g = absurd h
  same_after listed (Outcome d outcome) x y h g = by_outcome listed d outcome (slice_get m.decisions d) x y h g
  same_after listed (Condition d k) x y h g = by_condition listed d k (slice_get m.decisions d) x y h g

  same_from : (listed : List Wanted) (ids : List ObligationId) (x y : List Wanted) → AreWantedFrom seen m mode asked listed ids x → AreWantedFrom seen m mode asked listed ids y → x ≡ y
  same_from listed [] x y h g = h ∙ sym g
  same_from listed (id ∷ ids) x y h g =
      let e : h.0 ≡ g.0 = same_after listed id h.0 g.0 h.1 g.1 in
      let P : List Wanted → Type 0 = λ l. AreWantedFrom seen m mode asked l ids y in
      same_from h.0 ids x y h.2 (subst P (sym e) g.2)

  pub same_wanted : (x y : List Wanted) → AreWanted seen m mode asked x → AreWanted seen m mode asked y → x ≡ y
  same_wanted x y h g = same_from [] (asked_ids m asked) x y h g

-- ---- the need of each

module _ (stands : Event → ℕ → Type 0) (m : Map) (mode : Mode) where
  same_condition : (d k : ℕ) (o : Option Mapped) (x y : Need) → IsConditionNeed stands m mode d k o x → IsConditionNeed stands m mode d k o y → x ≡ y
  same_condition d k None x y h g = absurd h
  same_condition d k (Some mapped) (Vector p) y h g = absurd h
  same_condition d k (Some mapped) (Beside p q s) (Vector r) h g = absurd g
  same_condition d k (Some mapped) (Beside p q s) (Beside a b c) h g =
      let tree : Tree = mapped.decision.tree in
      let e = same_one mode tree k (IsSeen stands m d) p q a b h.0 g.0 in
      let P : ℕ → Type 0 = λ n. IsLeast (IsEvaluated stands d tree n) c in
      let f : s ≡ c = one_least (IsEvaluated stands d tree q) s c h.1 (subst P (sym e.1) g.1) in
      λ i. Beside (e.0 i) (e.1 i) (f i)
  same_condition d k (Some mapped) (Beside p q s) (Both a b) h g = absurd (not_both mode mapped.decision.tree k (IsSeen stands m d) p q a b h.0 g)
  same_condition d k (Some mapped) (Both a b) (Vector p) h g = absurd g
  same_condition d k (Some mapped) (Both a b) (Beside p q s) h g = absurd (not_both mode mapped.decision.tree k (IsSeen stands m d) p q a b g.0 h)
  same_condition d k (Some mapped) (Both a b) (Both c e) h g =
      let same = same_two mode mapped.decision.tree k (IsSeen stands m d) a b c e h g in
      λ i. Both (same.0 i) (same.1 i)

  same_outcome : (outcome : Bool) (o : Option Mapped) (x y : Need) → IsOutcomeNeed stands m mode outcome o x → IsOutcomeNeed stands m mode outcome o y → x ≡ y
  same_outcome outcome None x y h g = absurd h
  same_outcome outcome (Some mapped) (Beside p q s) y h g = absurd h
  same_outcome outcome (Some mapped) (Both a b) y h g = absurd h
  same_outcome outcome (Some mapped) (Vector p) (Beside q r s) h g = absurd g
  same_outcome outcome (Some mapped) (Vector p) (Both a b) h g = absurd g
  same_outcome outcome (Some mapped) (Vector p) (Vector q) h g = ap Vector (one_least (Gives mapped.decision.tree outcome) p q h g)

  same_need : (id : ObligationId) (x y : Need) → IsNeed stands m mode id x → IsNeed stands m mode id y → x ≡ y
  same_need (Entry n) x y h g = absurd h
  same_need (Exit n) x y h g = absurd h
  same_need (Statement n) x y h g = absurd h
  same_need (Label n) x y h g = absurd h
  same_need (Outcome d outcome) x y h g = same_outcome outcome (slice_get m.decisions d) x y h g
  same_need (Condition d k) x y h g = same_condition d k (slice_get m.decisions d) x y h g

  same_has : (is : Bool) (id : ObligationId) (x y : Option Need) → HasNeed (IsNeed stands m mode) is id x → HasNeed (IsNeed stands m mode) is id y → x ≡ y
  same_has false id x y h g = h ∙ sym g
  same_has true (Entry n) x y h g = h ∙ sym g
  same_has true (Exit n) x y h g = h ∙ sym g
  same_has true (Statement n) x y h g = h ∙ sym g
  same_has true (Label n) x y h g = h ∙ sym g
  same_has true (Outcome d outcome) None y h g = absurd h
  same_has true (Outcome d outcome) (Some x) None h g = absurd g
  same_has true (Outcome d outcome) (Some x) (Some y) h g = ap Some (same_need (Outcome d outcome) x y h g)
  same_has true (Condition d k) None y h g = absurd h
  same_has true (Condition d k) (Some x) None h g = absurd g
  same_has true (Condition d k) (Some x) (Some y) h g = ap Some (same_need (Condition d k) x y h g)

  same_each : (xs ys : List (Option Need)) → length xs ≡ length ys → ((i : ℕ) → i < length xs → get_or xs i None ≡ get_or ys i None) → xs ≡ ys
  same_each [] [] e h = refl
  same_each [] (y ∷ ys) e h = absurd (omega (arith, e))
  same_each (x ∷ xs) [] e h = absurd (omega (arith, e))
  same_each (x ∷ xs) (y ∷ ys) e h =
      let head : x ≡ y = h 0 (omega arith) in
      let tail : xs ≡ ys = same_each xs ys (omega (arith, e)) (λ i lt. h (suc i) (omega (arith, lt))) in
      λ i. head i ∷ tail i

  there : (os : List Obligation) (i : ℕ) → i < length os → (o : Obligation) × (slice_get os i ≡ Some o)
  there [] i lt = absurd (omega (arith, lt))
  there (o ∷ os) zero lt = (o, refl)
  there (o ∷ os) (suc i) lt = there os i (omega (arith, lt))

  pub one_answer : (asked : List Bool) (n q : Needs) → AreNeeds stands m mode asked n → AreNeeds stands m mode asked q → n ≡ q
  one_answer asked n q h g =
      let each : n.each ≡ q.each = same_each n.each q.each (h.count ∙ sym g.count)
      (λ i lt. let o = there (obligations_of m) i (let c = h.count in omega (arith, lt, c)) in
      same_has (get_or asked i false) o.0.id (get_or n.each i None) (get_or q.each i None) (h.each i o.0 o.1) (g.each i o.0 o.1)) in
      let wanted : n.wanted ≡ q.wanted = same_wanted (IsSeen stands m) m mode asked n.wanted q.wanted h.wanted g.wanted in
      λ i. record { each = each i; wanted = wanted i }
