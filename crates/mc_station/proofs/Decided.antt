-- Decisions that are few enough in conditions and in paths.
use Rattle.std.proofs.Common.{◌≡◌, ◌∙◌, ◌≤◌, ℕ, List, codes, [], ◌∷◌, length, map, Result, Ok, Err, All, ap, sym, subst, inl, inr, arith}
use Rattle.std.proofs.lemmas.List.Elements.{All-nil, All-cons, All-head, All-tail, All-map}
use Rattle.mc_limits.specs.Limits.{most_conditions}
use Rattle.mc_cond.specs.Tree.{tree_of, size, IsNumbered}
use Rattle.decide_rules.specs.declared.decision.Decision as code
use Rattle.mc_typed.specs.Tree.{Function, Program}
use Rattle.mc_probe.specs.Maps.{Map, IsMapOf}
use Rattle.instrument_bits.specs.Faults.{HasFewPaths, IsFault, IsFirstWithMany}
use Rattle.instrument_bits.specs.declared.fault.InstrumentFault.TheVariants.{TooManyPaths, TooManyBits}
use Rattle.decide_rules.specs.Roots.{Found}
use Rattle.decide_rules.specs.Decisions.{Decision, Tells, AreTold, AreDecisions, IsSmall, IsFirstLarge}
use Rattle.decide_rules.specs.Seen.{decision_of}
use Rattle.decide_rules.proofs.Trees.{size_of_tree}
use Rattle.mc_lex.specs.Lines.{column_of, line_of}
use Rattle.station_replies.specs.Phases.{Then}
use Rattle.station_replies.specs.Reply.{Reply, refusal}
use Rattle.station_replies.specs.Texts.{bits_line, many_line}
use Rattle.station_replies.specs.declared.status.Status.TheVariants.{SourceRefused}
use Rattle.mc_station.specs.Source.{Accepted, Accepts, Maps, PathsAreFew}

-- ---- conditions

small : (f : Found) (d : Decision) → Tells f d → IsNumbered d.tree → IsSmall d
small f d told numbered =
    let size_is : size d.tree ≡ length d.conditions =
    ap size told.tree ∙ size_of_tree 0 f.node ∙ sym told.count in
    subst (λ (n : ℕ). n ≤ most_conditions) size_is numbered.few

small_told : (fs : List Found) (ds : List Decision) → AreTold fs ds
    → All (λ (d : Decision). IsNumbered d.tree) ds → All IsSmall ds
small_told [] [] told all = All-nil IsSmall
small_told [] (d ∷ ds) told all = absurd told
small_told (f ∷ fs) [] told all = absurd told
small_told (f ∷ fs) (d ∷ ds) told all =
    All-cons IsSmall d ds
    (small f d told.0 (All-head (λ (e : Decision). IsNumbered e.tree) d ds all))
    (small_told fs ds told.1 (All-tail (λ (e : Decision). IsNumbered e.tree) d ds all))

-- where each tree is numbered, no decision has too many conditions
pub all_small : (fs : List Function) (ds : List code.Decision)
    → AreDecisions fs (map decision_of ds) → All (λ (d : code.Decision). IsNumbered (tree_of d.tree)) ds
    → All IsSmall (map decision_of ds)
all_small fs ds are all =
    small_told are.roots (map decision_of ds) are.told
    (All-map (λ (d : Decision). IsNumbered d.tree) decision_of ds all)

pub none_large : (ds : List Decision) (at count : ℕ) → All IsSmall ds → IsFirstLarge ds at count → ⊥
none_large [] at count all none = absurd none
none_large (d ∷ ds) at count all (inl large) =
    let few : length d.conditions ≤ most_conditions = All-head IsSmall d ds all in omega (arith, few, large.0)
none_large (d ∷ ds) at count all (inr later) =
    none_large ds at count (All-tail IsSmall d ds all) later.1

pub one_large : (ds : List Decision) (at count place number : ℕ) → IsFirstLarge ds at count
    → IsFirstLarge ds place number → (at ≡ place) × (count ≡ number)
one_large [] at count place number none b = absurd none
one_large (d ∷ ds) at count place number (inl a) (inl b) = (cc (a.1, b.1), cc (a.2, b.2))
one_large (d ∷ ds) at count place number (inl a) (inr b) =
    let few : length d.conditions ≤ most_conditions = b.0 in absurd (omega (arith, few, a.0))
one_large (d ∷ ds) at count place number (inr a) (inl b) =
    let few : length d.conditions ≤ most_conditions = a.0 in absurd (omega (arith, few, b.0))
one_large (d ∷ ds) at count place number (inr a) (inr b) =
    one_large ds at count place number a.1 b.1

-- ---- paths

pub none_with_many : (ds : List Decision) (e : Decision) → All HasFewPaths ds
    → IsFirstWithMany ds e → ⊥
none_with_many [] e all none = absurd none
none_with_many (d ∷ ds) e all (inl many) =
    omega (arith, All-head HasFewPaths d ds all, many.0)
none_with_many (d ∷ ds) e all (inr later) =
    none_with_many ds e (All-tail HasFewPaths d ds all) later.1

pub one_with_many : (ds : List Decision) (e f : Decision) → IsFirstWithMany ds e
    → IsFirstWithMany ds f → e ≡ f
one_with_many [] e f none b = absurd none
one_with_many (d ∷ ds) e f (inl a) (inl b) = cc (a.1, b.1)
one_with_many (d ∷ ds) e f (inl a) (inr b) = absurd (omega (arith, a.0, b.0))
one_with_many (d ∷ ds) e f (inr a) (inl b) = absurd (omega (arith, a.0, b.0))
one_with_many (d ∷ ds) e f (inr a) (inr b) = one_with_many ds e f a.1 b.1

-- ---- what an instrumenter gives and refuses

module _ (source : List ℕ) (program : Program) (ds : List Decision) where
  -- the phases of the paths and of the map
  abbrev Mapping : Result Accepted Reply → Type 0
  Mapping = Then (PathsAreFew source ds) (λ u. Then (Maps program ds) (Accepts source program))

  pub accepts : (m : Map) (a : Accepted) → All HasFewPaths ds → IsMapOf program m
      → a ≡ record { source = source; program = program; map = m }
      → Mapping (Ok a)
  accepts m a few is_map is = (tt, few, (m, is_map, ap Ok is))

  -- the line on the decision that has too many paths
  pub refuses_paths : (at count line column : ℕ) → IsFault program ds (TooManyPaths at count)
      → line ≡ line_of source at → column ≡ column_of source at
      → Mapping (Err (refusal SourceRefused (many_line line column (codes "paths") count)))
  refuses_paths at count line column (d, many, at_is, count_is) line_is column_is =
      let root_line : line ≡ line_of source d.root.start = line_is ∙ ap (line_of source) at_is in
      let root_column : column ≡ column_of source d.root.start = column_is ∙ ap (column_of source) at_is in
      inl (
        d,
        many,
        ap (λ (n : ℕ). refusal SourceRefused (many_line n column (codes "paths") count)) root_line
            ∙ ap (λ (n : ℕ). refusal SourceRefused (many_line (line_of source d.root.start) n (codes "paths") count)) root_column
            ∙ ap (λ (n : ℕ). refusal SourceRefused (many_line (line_of source d.root.start) (column_of source d.root.start) (codes "paths") n)) count_is,
      )

  -- and on a program that has too many bits
  pub refuses_bits : (count : ℕ) → IsFault program ds (TooManyBits count)
      → Mapping (Err (refusal SourceRefused (bits_line count)))
  refuses_bits count (few, many, is) =
      inr (tt, few, inl (many, ap (λ (n : ℕ). refusal SourceRefused (bits_line n)) is))
