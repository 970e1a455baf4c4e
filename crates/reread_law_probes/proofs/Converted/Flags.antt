-- Operands of a full operator are of type `_Bool` or `int`, so that they are worked on in `int`: what
-- is converted there is a `_Bool`.
use Rattle.std.proofs.Common.{◌≡◌, ◌≢◌, refl, sym, subst, ◌∙◌, Bool, true, false, ◌&&◌, if◌then◌else◌, Option, Some, None}
use Rattle.mc_span.specs.declared.span.Span.{Span}
use Rattle.mc_value.specs.declared.int_type.IntType.{IntType}
use Rattle.mc_value.specs.declared.int_type.IntType.TheVariants as the
use Rattle.mc_value.specs.declared.operators.BinOp.TheVariants as op
use Rattle.mc_value.specs.Conversions.{common_of}
use Rattle.mc_typed.specs.declared.operators.Operator.{Operator}
use Rattle.mc_typed.specs.declared.operators.Operator.TheVariants.{Binary, Shift}
use Rattle.mc_typed.specs.Sound.{type_of, operator_type, HasOperands}
use Rattle.mc_typed.specs.Tree.{Expression}
use Rattle.mc_typed.specs.Tree as typed
use Rattle.decide_rules.specs.declared.operators.FullOperator.{FullOperator}
use Rattle.decide_rules.specs.Nodes.{is_flag, is_operand, bitwise, full_operator}
use Rattle.reread_law_probes.specs.put.Conversions.{IsFlagged, AreFlagged}
use Rattle.laws_types.specs.Exact.{own_type, IsWritten, IsNeeded, WorksIn, IsExact}

false_true : {X : Type 0} → false ≡ true → X
false_true e = cc

both_true : (b d : Bool) → (b && d) ≡ true → (b ≡ true) × (d ≡ true)
both_true true true h = (refl, refl)
both_true true false h = false_true h
both_true false d h = false_true h

-- ---- `_Bool` and `int`

data IsNarrow : IntType → Type 0 where
  flag : IsNarrow the.Bool
  whole : IsNarrow the.Int

narrow_flag : (a : IntType) → is_flag a ≡ true → IsNarrow a
narrow_flag the.Bool h = flag
narrow_flag a h = false_true h

common_narrow : {a b : IntType} → IsNarrow a → IsNarrow b → common_of a b ≡ the.Int
common_narrow flag flag = refl
common_narrow flag whole = refl
common_narrow whole flag = refl
common_narrow whole whole = refl

-- what of them is not int
left_flag : {a : IntType} → IsNarrow a → a ≢ the.Int → is_flag a ≡ true
left_flag flag h = refl
left_flag whole h = absurd (h refl)

-- ---- what is written

written_own : (e : Expression) → IsWritten e → own_type e ≡ type_of e
written_own (typed.Convert a false e span) h = absurd h
written_own e h = refl

written_needed : (e : Expression) → IsWritten e → IsNeeded e
written_needed (typed.Convert a false e span) h = absurd h
written_needed e h = tt

-- ---- the own type of a Boolean operand

narrow_two : (operator : Operator) (a : IntType) (e f : Expression) (span : Span)
    → WorksIn operator a (own_type e) f
    → (is_operand e ≡ true → IsNarrow (own_type e)) → (is_operand f ≡ true → IsNarrow (own_type f))
    → is_operand (typed.Binary operator a e f span) ≡ true → IsNarrow (operator_type operator a)
narrow_two (Binary op.Lt) a e f span w h l p = whole
narrow_two (Binary op.Gt) a e f span w h l p = whole
narrow_two (Binary op.Le) a e f span w h l p = whole
narrow_two (Binary op.Ge) a e f span w h l p = whole
narrow_two (Binary op.Eq) a e f span w h l p = whole
narrow_two (Binary op.Ne) a e f span w h l p = whole
narrow_two (Binary op.And) a e f span w h l p =
    let q = both_true (is_operand e) (is_operand f) p in
    subst IsNarrow (sym (w ∙ common_narrow (h q.0) (l q.1))) whole
narrow_two (Binary op.Xor) a e f span w h l p =
    let q = both_true (is_operand e) (is_operand f) p in
    subst IsNarrow (sym (w ∙ common_narrow (h q.0) (l q.1))) whole
narrow_two (Binary op.Or) a e f span w h l p =
    let q = both_true (is_operand e) (is_operand f) p in
    subst IsNarrow (sym (w ∙ common_narrow (h q.0) (l q.1))) whole
narrow_two (Binary op.Mul) a e f span w h l p = false_true p
narrow_two (Binary op.Div) a e f span w h l p = false_true p
narrow_two (Binary op.Rem) a e f span w h l p = false_true p
narrow_two (Binary op.Add) a e f span w h l p = false_true p
narrow_two (Binary op.Sub) a e f span w h l p = false_true p
narrow_two (Shift s) a e f span w h l p = false_true p

narrow : (e : Expression) → IsNeeded e → IsExact e → is_operand e ≡ true → IsNarrow (own_type e)
narrow (typed.Constant v a span) n x p = narrow_flag a p
narrow (typed.Read place a) n x p = narrow_flag a p
narrow (typed.Unary operator a e span) n x p = narrow_flag a p
narrow (typed.Convert a true e span) n x p = narrow_flag a p
narrow (typed.Convert a false e span) n x p =
    subst IsNarrow (written_own e n.1) (narrow e (written_needed e n.1) x.1 p)
narrow (typed.Not e span) n x p = whole
narrow (typed.Binary operator a e f span) n x p =
    narrow_two operator a e f span x.0 (λ q. narrow e x.1.0 x.1.1 q) (λ q. narrow f x.2.0 x.2.1 q) p
narrow (typed.Logic operator e f span) n x p = whole
narrow (typed.Choice e f g a span) n x p = narrow_flag a p
narrow (typed.Call k a) n x p = narrow_flag a p
narrow (typed.Input span) n x p = whole

-- ---- operands of a full operator

-- an operand that is worked on in int
is_flagged : (a : IntType) (e : Expression) → is_operand e ≡ true → IsNeeded e → IsExact e
    → type_of e ≡ a → a ≡ the.Int → IsFlagged e
is_flagged a (typed.Convert t false e span) p n x q r =
    left_flag (subst IsNarrow (written_own e n.1) (narrow e (written_needed e n.1) x.1 p)) (λ h. n.0 (h ∙ sym (q ∙ r)))
is_flagged a e p n x q r = tt

both_flagged : (full : Option FullOperator) (e f : Expression) → IsFlagged e → IsFlagged f
    → AreFlagged full e f
both_flagged None e f h l = tt
both_flagged (Some operator) e f h l = (h, l)

two_flagged : (operator : Operator) (a : IntType) (e f : Expression) (span : Span)
    → IsExact (typed.Binary operator a e f span) → HasOperands operator a (type_of e) (type_of f)
    → is_operand e ≡ true → is_operand f ≡ true → AreFlagged (bitwise operator) e f
two_flagged (Shift s) a e f span x h p q = tt
two_flagged (Binary operator) a e f span x h p q =
    let r = x.0 ∙ common_narrow (narrow e x.1.0 x.1.1 p) (narrow f x.2.0 x.2.1 q) in
    both_flagged (bitwise (Binary operator)) e f (is_flagged a e p x.1.0 x.1.1 h.1 r)
    (is_flagged a f q x.2.0 x.2.1 h.2 r)

pub are_flagged : (operator : Operator) (a : IntType) (e f : Expression) (span : Span)
    → IsExact (typed.Binary operator a e f span) → HasOperands operator a (type_of e) (type_of f)
    → AreFlagged (full_operator operator e f) e f
are_flagged operator a e f span x h = by_test (is_operand e && is_operand f) refl
  where
    by_test : (b : Bool) → (is_operand e && is_operand f) ≡ b
        → AreFlagged (if b then bitwise operator else None) e f
    by_test true p =
        let q = both_true (is_operand e) (is_operand f) p in
        two_flagged operator a e f span x h q.0 q.1
    by_test false p = tt
