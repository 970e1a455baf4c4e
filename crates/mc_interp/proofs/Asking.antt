-- What a decision asks, which hits nothing.
use Rattle.std.proofs.Common.{◌≡◌, ℕ, ◌+◌, ◌*◌, ◌<◌, max, ℤ, Bool, true, false, not, List, [], ◌++◌, Option, Some, None, refl, sym, ap, ◌∙◌, Box, if◌then◌else◌, arith}
use Rattle.std.specs.Prelude.{◌==◌}
use Rattle.std.specs.Global.{Global}
use Rattle.mc_span.specs.declared.span.Span.{Span}
use Rattle.mc_value.specs.declared.int_type.IntType.{IntType}
use Rattle.mc_value.specs.Conversions.{is_zero}
use Rattle.mc_value.specs.Arithmetic.{truth}
use Rattle.mc_typed.specs.declared.operators.Operator.TheVariants.{Binary}
use Rattle.mc_typed.specs.declared.operators.LogicOperator.{LogicOperator}
use Rattle.mc_steps.specs.Runs.{State, Run, gives, after}
use Rattle.mc_steps.specs.Expressions.{as_does, goes_on, is_true, logic_does}
use Rattle.interp_words.specs.Words.{number_of}
use Rattle.interp_words.proofs.Numbers.{zero_words}
use Rattle.mc_probe.specs.Flat.{Flat, Does, Activation, adds}
use Rattle.mc_probe.specs.Probes.{condition_does}
use Rattle.mc_probe.specs.Tree as p
use Rattle.mc_interp.specs.declared.store.Store.{Store}
use Rattle.mc_interp.specs.declared.frame.Frame.{Frame}
use Rattle.mc_interp.specs.declared.prepared.leaves.Leaf.{Leaf}
use Rattle.mc_interp.specs.declared.prepared.questions.Relation.{Relation}
use Rattle.mc_interp.specs.declared.prepared.questions.Note.{Note}
use Rattle.mc_interp.specs.declared.prepared.questions.Question.{Question, size-Question}
use Rattle.mc_interp.specs.declared.prepared.questions.Question.TheViews.{sized-Not, sized-Logic}
use Rattle.mc_interp.specs.declared.prepared.questions.Question.TheVariants as question
use Rattle.mc_interp.specs.declared.prepared.questions.Question.TheOpen.{Question-F}
use Rattle.mc_interp.specs.declared.prepared.questions.Question.TheFolds.{fold-roll-Question}
use Rattle.mc_interp.specs.Stores.{out_of, state_of, told, Did}
use Rattle.mc_interp.specs.Frames.{IsReady}
use Rattle.mc_interp.specs.Views.{condition_of, leaf_of, node_question, operator_of, question_of}
use Rattle.mc_interp.proofs.Runs.{did_told}
use Rattle.mc_interp.proofs.Nodes.{did_not, did_not_end, did_logic, did_logic_short, did_logic_end, did_condition, did_condition_end}

-- ---- what a question asks

pub asks_compared : (note : Note) (relation : Relation) (a : IntType) (left right : Leaf) (span : Span) →
    question_of (question.Compared note relation a left right span)
    ≡ condition_of note (p.Binary (Binary (operator_of relation)) a (leaf_of left) (leaf_of right) span)
asks_compared note relation a left right span =
    ap question_of (sym (question.rolls-Compared note relation a left right span))
    ∙ fold-roll-Question p.Expression node_question (Question-F.Compared note relation a left right span)

pub asks_leaf : (note : Note) (leaf : Leaf) →
    question_of (question.Leaf note leaf) ≡ condition_of note (leaf_of leaf)
asks_leaf note leaf =
    ap question_of (sym (question.rolls-Leaf note leaf)) ∙ fold-roll-Question p.Expression node_question (Question-F.Leaf note leaf)

pub asks_not : (operand : Box Question Global) (span : Span) →
    question_of (question.Not operand span) ≡ p.Not (question_of operand.value) span
asks_not operand span =
    ap question_of (sym (question.rolls-Not operand span)) ∙ fold-roll-Question p.Expression node_question (Question-F.Not operand span)

pub asks_logic : (operator : LogicOperator) (left right : Box Question Global) (span : Span) →
    question_of (question.Logic operator left right span)
    ≡ p.Logic operator (question_of left.value) (question_of right.value) span
asks_logic operator left right span =
    ap question_of (sym (question.rolls-Logic operator left right span))
    ∙ fold-roll-Question p.Expression node_question (Question-F.Logic operator left right span)

-- ---- parts that hit nothing

abbrev Quiet : List ℕ → Unit {0} → Unit {0} → Type 0
Quiet events p q = events ≡ []

quiet_stays : (p : Unit {0}) → Quiet [] p p
quiet_stays p = refl

quiet_joins : (xs ys : List ℕ) (p q r : Unit {0}) → Quiet xs p q → Quiet ys q r → Quiet (xs ++ ys) p r
quiet_joins xs ys p q r h k = ap (λ (zs : List ℕ). zs ++ ys) h ∙ k

abbrev Told : {A : Type 0} → Run Flat ℕ A → Option A → Store → Type 0
Told r result m = Did Quiet r result m tt tt

did_quiet : {A : Type 0} (r : Run Flat ℕ A) (result : Option A) (m : Store) → r ≡ told result m → Told r result m
did_quiet r result m e = did_told Quiet quiet_stays quiet_joins r result m tt e

told_quiet : {A : Type 0} (r : Run Flat ℕ A) (result : Option A) (m : Store) → Told r result m → r ≡ told result m
told_quiet {A = A} r result m d =
    ap (λ o. record { out = o; events = r.events }) d.ran ∙ ap (λ (xs : List ℕ). record { out = out_of result m; events = xs }) d.led

module _ (E : Does ℤ) (s : State Flat) where
  -- a word that was given
  pub told_word : (t : IntType) (w : ℕ) (b : Bool) (m : Store) → E s ≡ told (Some (number_of t w)) m →
      w < 18446744073709551616 → b ≡ not (w == 0) → as_does is_true E s ≡ told (Some b) m
  told_word t w b m d fits e =
      ap (λ (r : Run Flat ℕ ℤ). after r (λ x s. gives (is_true x) s)) d
      ∙ ap (λ (z : Bool). told (Some z) m) (ap not (zero_words t w fits) ∙ sym e)

  pub told_word_end : (m : Store) → E s ≡ told None m → as_does is_true E s ≡ told None m
  told_word_end m d = ap (λ (r : Run Flat ℕ ℤ). after r (λ x s. gives (is_true x) s)) d

  pub told_not : (b : Bool) (m : Store) → as_does is_true E s ≡ told (Some b) m →
      as_does is_true (as_does (λ x. truth (is_zero x)) E) s ≡ told (Some (not b)) m
  told_not b m d = told_quiet _ _ _ (did_not Quiet quiet_stays quiet_joins E s b m tt tt (did_quiet _ _ _ d))

  pub told_not_end : (m : Store) → as_does is_true E s ≡ told None m →
      as_does is_true (as_does (λ x. truth (is_zero x)) E) s ≡ told None m
  told_not_end m d = told_quiet _ _ _ (did_not_end Quiet quiet_stays quiet_joins E s m tt tt (did_quiet _ _ _ d))

module _ (operator : LogicOperator) (E F : Does ℤ) (s : State Flat) where
  abbrev both : Does ℤ
  both s = logic_does operator is_true (λ x. truth (is_true x)) (λ x y. truth (is_true y)) E F s

  pub told_logic : (b : Bool) (result : Option Bool) (m n : Store) → as_does is_true E s ≡ told (Some b) m →
      goes_on operator b ≡ true → as_does is_true F (state_of m) ≡ told result n →
      as_does is_true both s ≡ told result n
  told_logic b result m n d h e =
      told_quiet _ _ _ (did_logic Quiet quiet_stays quiet_joins operator E F s b result m n tt tt tt
      (did_quiet _ _ _ d) h (did_quiet _ _ _ e))

  pub told_logic_short : (b : Bool) (m : Store) → as_does is_true E s ≡ told (Some b) m →
      goes_on operator b ≡ false → as_does is_true both s ≡ told (Some b) m
  told_logic_short b m d h =
      told_quiet _ _ _ (did_logic_short Quiet quiet_stays quiet_joins operator E F s b m tt tt (did_quiet _ _ _ d) h)

  pub told_logic_end : (m : Store) → as_does is_true E s ≡ told None m → as_does is_true both s ≡ told None m
  told_logic_end m d =
      told_quiet _ _ _ (did_logic_end Quiet quiet_stays quiet_joins operator E F s m tt tt (did_quiet _ _ _ d))

module _ (w : Activation) (r on_true on_false : ℕ) (E : Does ℤ) (s : State Flat) where
  pub told_condition : (b : Bool) (m n : Store) → as_does is_true E s ≡ told (Some b) m →
      adds w r (if b then on_true else on_false) (state_of m) ≡ told (Some tt) n →
      as_does is_true (λ s. condition_does w r on_true on_false E s) s ≡ told (Some b) n
  told_condition b m n d e =
      told_quiet _ _ _ (did_condition Quiet quiet_stays quiet_joins w r on_true on_false E s b m n tt tt (did_quiet _ _ _ d) e)

  pub told_condition_end : (m : Store) → as_does is_true E s ≡ told None m →
      as_does is_true (λ s. condition_does w r on_true on_false E s) s ≡ told None m
  told_condition_end m d =
      told_quiet _ _ _ (did_condition_end Quiet quiet_stays quiet_joins w r on_true on_false E s m tt tt (did_quiet _ _ _ d))

-- ---- what a ready state gives

-- what hits nothing asks for no more bits than the program has
pub ready_own : (f : Frame) (m : Store) (room : ℕ) → IsReady f m room → IsReady f m f.program.now.bits
ready_own f m room h = record {
  sound = h.sound;
  whole = h.whole;
  shapes = h.shapes;
  limit = h.limit;
  small = h.small;
  registers = h.registers;
  registers_small = h.registers_small;
  registers_limit = h.registers_limit;
  registers_fit = h.registers_fit;
  output = h.output;
  bits = omega arith;
  types = h.types;
  typed = h.typed;
  has = h.has;
}

-- ---- the depth of what is asked

size_not : (operand : Box Question Global) (span : Span) →
    size-Question (question.Not operand span) ≡ max (size-Question operand.value) 0 + 1
size_not operand span = sized-Not operand span

size_logic : (operator : LogicOperator) (left right : Box Question Global) (span : Span) →
    size-Question (question.Logic operator left right span)
    ≡ max 0 (max (size-Question left.value) (max (size-Question right.value) 0)) + 1
size_logic operator left right span = sized-Logic operator left right span

pub falls_not : (operand : Box Question Global) (span : Span) (q e : Question) (t : ℕ) → q ≡ question.Not operand span →
    e ≡ operand.value → size-Question q * 2 ≡ t → size-Question e * 2 + 1 < t
falls_not operand span q e t is at h =
    let s = size_not operand span in
    omega (arith, ap size-Question is, ap size-Question at, s, h)

pub falls_logic : (operator : LogicOperator) (left right : Box Question Global) (span : Span) (q e f : Question) (t : ℕ) →
    q ≡ question.Logic operator left right span → e ≡ left.value → f ≡ right.value → size-Question q * 2 ≡ t →
    max (size-Question e) (size-Question f) * 2 + 1 < t
falls_logic operator left right span q e f t is at there h =
    let s = size_logic operator left right span in
    omega (arith, ap size-Question is, ap size-Question at, ap size-Question there, s, h)

pub falls_operand : (e : Question) (t : ℕ) → size-Question e * 2 + 1 ≡ t → size-Question e * 2 < t
falls_operand e t h = omega (arith, h)

pub falls_left : (e f : Question) (t : ℕ) → max (size-Question e) (size-Question f) * 2 + 1 ≡ t → size-Question e * 2 < t
falls_left e f t h = omega (arith, h)

pub falls_right : (e f : Question) (t : ℕ) → max (size-Question e) (size-Question f) * 2 + 1 ≡ t → size-Question f * 2 < t
falls_right e f t h = omega (arith, h)
