-- Numbers that suit their types, and what gives such numbers.
use Rattle.std.proofs.Common.{◌≡◌, subst, refl, ℕ, zero, suc, ℤ, pos, negsuc, inl, inr, Bool, true, false, [], ◌∷◌, Some, None, arith}
use Rattle.std.proofs.lemmas.Int.{ints}
use Rattle.mc_value.specs.declared.int_type.IntType.{IntType}
use Rattle.mc_value.specs.declared.int_type.IntType.TheVariants as the
use Rattle.mc_value.specs.declared.operators.BinOp.{BinOp}
use Rattle.mc_value.specs.declared.operators.BinOp.TheVariants as bin
use Rattle.mc_value.specs.IntTypes.{InRange}
use Rattle.mc_value.specs.Arithmetic.{binary_type}
use Rattle.mc_value.specs.Conversions.{promoted, converted}
use Rattle.mc_value.proofs.Wrapping.{converted_within}
use Rattle.mc_typed.specs.declared.operators.Operator.{Operator}
use Rattle.mc_typed.specs.declared.operators.Operator.TheVariants.{Binary, Shift}
use Rattle.mc_typed.specs.Layout.{ObjectType, Scalar}
use Rattle.mc_typed.specs.Tree.{Expression}
use Rattle.mc_typed.specs.Sound.{operator_type, HasOperands}
use Rattle.decide_rules.specs.declared.role.Role.{Role}
use Rattle.decide_rules.specs.Nodes as n
use Rattle.decide_rules.specs.Roots.{is_root}
use Rattle.mc_steps.specs.Runs.{State, Out, Gave, Stopped, gives}
use Rattle.mc_steps.specs.Expressions.{as_does}
use Rattle.mc_meaning.specs.Stores.{Store}
use Rattle.mc_meaning.specs.Within.{Does, Within}
use Rattle.mc_meaning.specs.Positions.{into}
use Rattle.mc_meaning.specs.Decisions.{Judged, value, as_condition, tells, where_root, condition}
use Rattle.mc_meaning.proofs.Runs.{IsGiven, given_then}
use Rattle.laws_simulation.specs.Related.{Suits}
use Rattle.laws_simulation.specs.Laws.{Fills}

-- ---- numbers

suited : (a : IntType) (v : ℤ) → (a ≡ the.Bool → Suits the.Bool v) → Suits a v
suited the.Bool v h = h refl
suited the.Char v h = tt
suited the.SChar v h = tt
suited the.UChar v h = tt
suited the.Short v h = tt
suited the.UShort v h = tt
suited the.Int v h = tt
suited the.UInt v h = tt
suited the.Long v h = tt
suited the.ULong v h = tt
suited the.LLong v h = tt
suited the.ULLong v h = tt

zero_suits : (a : IntType) → Suits a (pos 0)
zero_suits a = suited a (pos 0) (λ e. inl refl)

bool_value : (v : ℤ) → InRange the.Bool v → Suits the.Bool v
bool_value (pos zero) h = inl refl
bool_value (pos (suc zero)) h = inr refl
bool_value (pos (suc (suc n))) h = absurd (let g = h.greatest in omega (arith, ints))
bool_value (negsuc n) h = absurd (let l = h.least in omega (arith, ints))

pub ranged_suits : (a : IntType) (v : ℤ) → InRange a v → Suits a v
ranged_suits a v h = suited a v (λ e. bool_value v (subst (λ (x : IntType). InRange x v) e h))

pub converted_suits : (a : IntType) (v : ℤ) → Suits a (converted a v)
converted_suits a v = ranged_suits a (converted a v) (converted_within a v)

not_promoted : {X : Type 0} → promoted the.Bool ≡ the.Bool → X
not_promoted h = absurd (cc)

pub promoted_suits : (a : IntType) (v : ℤ) → promoted a ≡ a → Suits a v
promoted_suits a v h = suited a v (λ e. not_promoted (subst (λ (x : IntType). promoted x ≡ x) e h))

binary_suits : (operator : BinOp) (a : IntType) (v : ℤ) → promoted a ≡ a → Suits (binary_type operator a) v
binary_suits bin.Mul a v h = promoted_suits a v h
binary_suits bin.Div a v h = promoted_suits a v h
binary_suits bin.Rem a v h = promoted_suits a v h
binary_suits bin.Add a v h = promoted_suits a v h
binary_suits bin.Sub a v h = promoted_suits a v h
binary_suits bin.And a v h = promoted_suits a v h
binary_suits bin.Xor a v h = promoted_suits a v h
binary_suits bin.Or a v h = promoted_suits a v h
binary_suits bin.Lt a v h = tt
binary_suits bin.Gt a v h = tt
binary_suits bin.Le a v h = tt
binary_suits bin.Ge a v h = tt
binary_suits bin.Eq a v h = tt
binary_suits bin.Ne a v h = tt

pub operator_suits : (operator : Operator) (a l r : IntType) (v : ℤ) → HasOperands operator a l r → Suits (operator_type operator a) v
operator_suits (Binary operator) a l r v h = binary_suits operator a v h.0
operator_suits (Shift operator) a l r v h = promoted_suits a v h.0

-- ---- what can stand in an object

pub none_fills : (u : ObjectType) → Fills u None
none_fills u p a n l = tt

pub zero_fills : (u : ObjectType) → Fills u (Some (pos 0))
zero_fills u p a n l = zero_suits a

same_scalar : (a b : IntType) → Scalar a ≡ Scalar b → a ≡ b
same_scalar a b e = cc

pub number_fills : (a : IntType) (v : ℤ) → Suits a v → Fills (Scalar a) (Some v)
number_fills a v h [] b n l = subst (λ (x : IntType). Suits x v) (same_scalar a b l.0) h
number_fills a v h (i ∷ p) b n l = absurd l

-- ---- what is given

pub all_given : {A : Type 0} (Q : A → Type 0) (o : Out Store A) → ((x : A) → Q x) → IsGiven Q o
all_given Q (Gave x s) h = h x
all_given Q (Stopped e s) h = tt

pub root_given : (Q : Judged → Type 0) (root : Bool) (d : ℕ) (f : Does Judged) (s : State Store) → IsGiven Q (f s).out → IsGiven Q (where_root root d f s).out
root_given Q true d f s g = given_then Q Q (f s) (tells d) g (λ j s p. p)
root_given Q false d f s g = g

-- a condition gives what its operator gives
pub condition_given : (Q : ℤ → Type 0) (role : Role) (e : Expression) (w : Within) (ops : Within → Does ℤ) (s : State Store) → IsGiven Q (ops (into role e w) s).out → IsGiven (λ j. Q j.value) (condition role e w ops s).out
condition_given Q role e w ops s g =
    root_given (λ j. Q j.value) (is_root role (n.expression e)) w.decisions (as_does as_condition (ops (into role e w))) s
    (given_then Q (λ j. Q j.value) (ops (into role e w) s) (λ x s. gives (as_condition x) s) g (λ x s p. p))

pub value_given : (Q : ℤ → Type 0) (f : Does Judged) (s : State Store) → IsGiven (λ j. Q j.value) (f s).out → IsGiven Q (value f s).out
value_given Q f s g = given_then (λ j. Q j.value) Q (f s) (λ j s. gives j.value s) g (λ j s p. p)

pub converted_given : (a : IntType) (f : Does ℤ) (s : State Store) → IsGiven (Suits a) (as_does (converted a) f s).out
converted_given a f s =
    given_then (λ v. Unit {0}) (Suits a) (f s) (λ v s. gives (converted a v) s) (all_given (λ v. Unit {0}) (f s).out (λ v. tt)) (λ v s u. converted_suits a v)
