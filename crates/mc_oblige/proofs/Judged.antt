-- The evidence of a list of obligations.
use Rattle.std.proofs.Common.{◌≡◌, ℕ, ◌+◌, ◌<◌, ◌≤◌, true, false, Option, Some, None, List, [], ◌∷◌, ◌++◌, length, get_or, take, drop, map, sym, ap, subst, ◌∙◌, refl, arith, append_assoc, zero-add}
use Rattle.std.specs.Prelude.{slice_get, suc}
use Rattle.std.proofs.lemmas.List.{get_or-drop, get_or-take, get_or-map, length-drop, length-take-le, length-map, append-nil}
use Rattle.std.proofs.lemmas.Option.{slice_get_within, get_or_from_slice_get}
use Rattle.mc_span.specs.declared.span.Span.{Span}
use Rattle.mc_core.specs.Matrix.{MatrixView, Holds}
use Rattle.mc_paths.specs.Paths.{count_of}
use Rattle.mc_steps.specs.Events.{Event}
use Rattle.mc_probe.specs.Maps.{Mapped, Map, IsMap, IsPlaced, first_path, exit_bit, statement_bit, label_bit}
use Rattle.report_options.specs.declared.mode.Mode.{Mode}
use Rattle.mc_oblige.specs.declared.obligation.ObligationId.{ObligationId}
use Rattle.mc_oblige.specs.declared.obligation.ObligationId.TheVariants.{Entry, Exit, Statement, Label, Condition}
use Rattle.mc_oblige.specs.declared.obligation.Obligation.{Obligation}
use Rattle.mc_oblige.specs.declared.verdict.Evidence.{Evidence}
use Rattle.mc_oblige.specs.declared.verdict.Evidence.TheVariants.{Absent}
use Rattle.mc_oblige.specs.Obligations.{numbered, of_places, of_decision, of_decisions}
use Rattle.mc_oblige.specs.Shown.{HasEvent}
use Rattle.mc_oblige.specs.Evidence.{IsEvaluated, IsConditionEvidence, IsEvidence}
use Rattle.mc_oblige.specs.steps.Table.{IsLeastIf, AreLeast, evidence_of, AreTestsOf}
use Rattle.mc_oblige.specs.steps.Found.{IsFoundCondition, AreFound, AreEvidence}
use Rattle.mc_oblige.proofs.Listed.{decisions_more}
use Rattle.mc_oblige.proofs.Bounds.{starts_low, based_end, placed_at}
use Rattle.mc_oblige.proofs.Events.{entry, exit, statement, label, outcome, condition, least_of_path}

-- ---- lists

module _ (stands : Event → ℕ → Type 0) (m : Map) (mode : Mode) where
  pub append : (os ps : List Obligation) (es fs : List Evidence) → AreEvidence stands m mode os es → AreEvidence stands m mode ps fs → AreEvidence stands m mode (os ++ ps) (es ++ fs)
  append [] ps [] fs h g = g
  append [] ps (e ∷ es) fs h g = absurd h
  append (o ∷ os) ps [] fs h g = absurd h
  append (o ∷ os) ps (e ∷ es) fs h g = (h.0, append os ps es fs h.1 g)

  abbrev Each : (ℕ → ObligationId) → ℕ → ℕ → List Evidence → Type 0
  Each id k n es = (i : ℕ) → i < n → IsEvidence stands m mode (id (k + i)) (get_or es i Absent)

  each_later : (id : ℕ → ObligationId) (k n : ℕ) (e : Evidence) (es : List Evidence) → Each id k (suc n) (e ∷ es) → Each id (k + 1) n es
  each_later id k n e es h i lt =
      let P : ℕ → Type 0 = λ j. IsEvidence stands m mode (id j) (get_or es i Absent) in
      let same : k + suc i ≡ (k + 1) + i = omega arith in
      subst P same (h (suc i) (omega arith))

  each_first : (id : ℕ → ObligationId) (k n : ℕ) (e : Evidence) (es : List Evidence) → Each id k (suc n) (e ∷ es) → IsEvidence stands m mode (id k) e
  each_first id k n e es h =
      let P : ℕ → Type 0 = λ j. IsEvidence stands m mode (id j) e in
      let same : k + 0 ≡ k = omega arith in
      subst P same (h 0 (omega arith))

  -- numbered obligations, and then others
  pub numbered_then : (id : ℕ → ObligationId) (k : ℕ) (spans : List Span) (rest : List Obligation) (es : List Evidence) → length spans ≤ length es → Each id k (length spans) es
      → AreEvidence stands m mode rest (drop (length spans) es) → AreEvidence stands m mode (numbered id k spans ++ rest) es
  numbered_then id k [] rest es le each h = h
  numbered_then id k (s ∷ spans) rest [] le each h = absurd (omega arith)
  numbered_then id k (s ∷ spans) rest (e ∷ es) le each h =
      (each_first id k (length spans) e es each, numbered_then id (k + 1) spans rest es (omega arith) (each_later id k (length spans) e es each) h)

  pub numbered_only : (id : ℕ → ObligationId) (k : ℕ) (spans : List Span) (es : List Evidence) → length es ≡ length spans → Each id k (length spans) es → AreEvidence stands m mode (numbered id k spans) es
  numbered_only id k [] [] e each = tt
  numbered_only id k [] (x ∷ es) e each = absurd (omega arith)
  numbered_only id k (s ∷ spans) [] e each = absurd (omega arith)
  numbered_only id k (s ∷ spans) (x ∷ es) e each =
      (each_first id k (length spans) x es each, numbered_only id (k + 1) spans es (omega arith) (each_later id k (length spans) x es each))

-- ---- of a matrix

module _ (m : Map) (x : MatrixView) (mode : Mode) where
  abbrev Are : List Obligation → List Evidence → Type 0
  Are = AreEvidence (HasEvent m x) m mode

  -- entries, exits, statements and labels
  module _ (table : List (Option ℕ)) (least : AreLeast x 0 table) (long : first_path m ≤ length table) where
    abbrev plain : List Evidence
    plain = map evidence_of (take (first_path m) table)

    own : (b : ℕ) → b < first_path m → IsLeastIf (Holds x b) (get_or table b None)
    own b lt = let P : ℕ → Type 0 = λ c. IsLeastIf (Holds x c) (get_or table b None) in subst P (zero-add b) (least.each b (omega arith))

    plain_at : (b : ℕ) → b < first_path m → get_or plain b Absent ≡ evidence_of (get_or table b None)
    plain_at b lt =
        let len = length-take-le (first_path m) table long in
        get_or-map evidence_of (take (first_path m) table) b None Absent (omega arith)
        ∙ ap evidence_of (get_or-take (first_path m) table b None lt)

    plain_count : length plain ≡ first_path m
    plain_count = length-map (take (first_path m) table) evidence_of ∙ length-take-le (first_path m) table long

    abbrev by : (id : ObligationId) (b : ℕ) (e : Evidence) → b < first_path m → e ≡ get_or plain b Absent → IsEvidence (HasEvent m x) m mode id (evidence_of (get_or table b None)) → IsEvidence (HasEvent m x) m mode id e
    by id b e lt same h = let P : Evidence → Type 0 = λ f. IsEvidence (HasEvent m x) m mode id f in subst P (sym (same ∙ plain_at b lt)) h

    abbrev id_at : (id : ℕ → ObligationId) (i : ℕ) (e : Evidence) → IsEvidence (HasEvent m x) m mode (id i) e → IsEvidence (HasEvent m x) m mode (id (0 + i)) e
    id_at id i e h = let P : ℕ → Type 0 = λ j. IsEvidence (HasEvent m x) m mode (id j) e in subst P (sym (zero-add i)) h

    pub places : Are (of_places m) plain
    places =
        let n = plain_count in
        let es1 : List Evidence = drop (length m.entries) plain in
        let es2 : List Evidence = drop (length m.exits) es1 in
        let es3 : List Evidence = drop (length m.statements) es2 in
        let n1 = length-drop (length m.entries) plain in
        let n2 = length-drop (length m.exits) es1 in
        let n3 = length-drop (length m.statements) es2 in
        let at1 : (i : ℕ) → get_or es1 i Absent ≡ get_or plain (exit_bit m i) Absent = λ i. get_or-drop (length m.entries) plain i Absent in
        let at2 : (i : ℕ) → get_or es2 i Absent ≡ get_or plain (statement_bit m i) Absent = λ i.
        (get_or-drop (length m.exits) es1 i Absent ∙ at1 (length m.exits + i) ∙ ap (λ j. get_or plain j Absent) (omega arith)) in
        let at3 : (i : ℕ) → get_or es3 i Absent ≡ get_or plain (label_bit m i) Absent = λ i.
        (get_or-drop (length m.statements) es2 i Absent ∙ at2 (length m.statements + i) ∙ ap (λ j. get_or plain j Absent) (omega arith)) in
        numbered_then (HasEvent m x) m mode Entry 0 m.entries _ plain (omega arith)
        (λ i lt. id_at Entry i _ (by (Entry i) i _ (omega arith) refl (entry m x i _ lt (own i (omega arith)))))
        (numbered_then (HasEvent m x) m mode Exit 0 m.exits _ es1 (omega arith)
        (λ i lt. id_at Exit i _ (by (Exit i) (exit_bit m i) _ (omega arith) (at1 i) (exit m x i _ lt (own (exit_bit m i) (omega arith)))))
        (numbered_then (HasEvent m x) m mode Statement 0 m.statements _ es2 (omega arith)
        (λ i lt. id_at Statement i _ (by (Statement i) (statement_bit m i) _ (omega arith) (at2 i) (statement m x i _ lt (own (statement_bit m i) (omega arith)))))
        (numbered_only (HasEvent m x) m mode Label 0 m.labels es3 (omega arith)
        (λ i lt. id_at Label i _ (by (Label i) (label_bit m i) _ (omega arith) (at3 i) (label m x i _ lt (own (label_bit m i) (omega arith))))))))

  -- one decision
  module _ (d : ℕ) (mapped : Mapped) (known : slice_get m.decisions d ≡ Some mapped) (placed : IsPlaced mapped.decision) (tests : List (Option ℕ)) (whole : length tests ≡ count_of mapped.decision.tree)
      (least : (p : ℕ) → p < length tests → IsLeastIf (IsEvaluated (HasEvent m x) d mapped.decision.tree p) (get_or tests p None)) where
    one_condition : (k : ℕ) (e : Evidence) → IsFoundCondition mode mapped.decision.tree tests k e → IsEvidence (HasEvent m x) m mode (Condition d (0 + k)) e
    one_condition k e h =
        let P : Option Mapped → Type 0 = λ o. IsConditionEvidence (HasEvent m x) mode d k o e in
        let Q : ℕ → Type 0 = λ j. IsEvidence (HasEvent m x) m mode (Condition d j) e in
        subst Q (sym (zero-add k)) (subst P (sym known) (condition m x d mapped known tests whole least mode k e h))

    pub decision : (es : List Evidence) → AreFound mode mapped.decision.tree tests es → Are (of_decision d mapped.decision) es
    decision [] h = absurd h
    decision (e ∷ []) h = absurd h
    decision (e ∷ f ∷ es) h = (
      outcome m x d mapped known tests whole least true e h.0,
      (
        outcome m x d mapped known tests whole least false f h.1,
        numbered_only (HasEvent m x) m mode (Condition d) 0 mapped.decision.conditions es (h.2.count ∙ sym placed.places)
            (λ k lt. one_condition k (get_or es k Absent) (h.2.each k (let s = placed.places in omega arith))),
      ),
    )

  -- one decision more
  abbrev pub so_far : ℕ → List Obligation
  so_far i = of_places m ++ of_decisions 0 (take i m.decisions)

  pub decisions_next : (i : ℕ) (mapped : Mapped) (es own : List Evidence) → slice_get m.decisions i ≡ Some mapped → Are (so_far i) es → Are (of_decision i mapped.decision) own → Are (so_far (i + 1)) (es ++ own)
  decisions_next i mapped es own known h g =
      let within = slice_get_within m.decisions i mapped known in
      let same : get_or m.decisions i mapped ≡ mapped = get_or_from_slice_get m.decisions i mapped mapped known in
      let P : List Obligation → Type 0 = λ os. Are os (es ++ own) in
      let e : so_far i ++ of_decision i mapped.decision ≡ so_far (i + 1) =
      append_assoc (of_places m) (of_decisions 0 (take i m.decisions)) (of_decision i mapped.decision)
      ∙ ap (λ os. of_places m ++ os) (ap (λ c. of_decisions 0 (take i m.decisions) ++ of_decision i c.decision) (sym same) ∙ sym (decisions_more m.decisions i mapped within)) in
      subst P e (append (HasEvent m x) m mode (so_far i) (of_decision i mapped.decision) es own h g)

  pub no_decision : (es : List Evidence) → Are (of_places m) es → Are (so_far 0) es
  no_decision es h = let P : List Obligation → Type 0 = λ os. Are os es in subst P (sym (append-nil (of_places m))) h

  -- ---- the code's own steps

  module _ (is : IsMap m) (bits : x.shape.bits ≡ m.bits) (table : List (Option ℕ)) (count : length table ≡ x.shape.bits) (least : AreLeast x 0 table) where
    pub long : first_path m ≤ length table
    long = omega (arith, starts_low m.decisions (first_path m) m.bits is.based)

    pub begun : Are (so_far 0) (map evidence_of (take (first_path m) table))
    begun = no_decision (map evidence_of (take (first_path m) table)) (places table least long)

    module _ (i : ℕ) (mapped : Mapped) (known : slice_get m.decisions i ≡ Some mapped) where
      abbrev paths : ℕ
      paths = count_of mapped.decision.tree

      abbrev bits_of_paths : List (Option ℕ)
      bits_of_paths = drop mapped.base table

      pub inside : mapped.base + paths ≤ length table
      inside = omega (arith, based_end m.decisions (first_path m) m.bits i mapped is.based known)

      bit_least : (p : ℕ) → p < paths → IsLeastIf (Holds x (mapped.base + p)) (get_or bits_of_paths p None)
      bit_least p lt =
          let h = inside in
          let P : ℕ → Type 0 = λ b. IsLeastIf (Holds x b) (get_or table (mapped.base + p) None) in
          let Q : Option ℕ → Type 0 = λ o. IsLeastIf (Holds x (mapped.base + p)) o in
          subst Q (sym (get_or-drop mapped.base table p None)) (subst P (zero-add (mapped.base + p)) (least.each (mapped.base + p) (omega arith)))

      module _ (tests : List (Option ℕ)) (of : AreTestsOf mapped.decision.tree bits_of_paths paths tests) where
        -- the least tests of the decision's paths
        pub least_paths : (p : ℕ) → p < length tests → IsLeastIf (IsEvaluated (HasEvent m x) i mapped.decision.tree p) (get_or tests p None)
        least_paths p lt =
            let count = of.count in
            let within : p < paths = omega (arith, lt, count) in
            least_of_path m x i mapped known p (get_or bits_of_paths p None) (get_or tests p None) (of.each p within) (bit_least p within)

        pub next : (es own : List Evidence) → AreFound mode mapped.decision.tree tests own → Are (so_far i) es → Are (so_far (i + 1)) (es ++ own)
        next es own found h =
            decisions_next i mapped es own known h
            (decision i mapped known (placed_at m.decisions i mapped is.placed known) tests of.count least_paths own found)
