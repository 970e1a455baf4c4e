-- What the parts of an expression make it do (C17 6.5). Operands are evaluated from left to right,
-- which C17 6.5p3 leaves open.
use Rattle.std.specs.Prelude.{ℕ, ◌*◌, ℤ, pos, negsuc, Bool, true, false, nat_lt, List, [], ◌∷◌, ◌++◌, length, Option, Some}
use Rattle.mc_value.specs.declared.trap.Trap.TheVariants.{Index, Unset, InputEnd}
use Rattle.mc_value.specs.declared.int_type.IntType.{IntType}
use Rattle.mc_value.specs.declared.operators.UnOp.{UnOp}
use Rattle.mc_value.specs.Conversions.{converted}
use Rattle.mc_value.specs.Arithmetic.{unary_of}
use Rattle.mc_typed.specs.declared.operators.Operator.{Operator}
use Rattle.mc_typed.specs.declared.operators.LogicOperator.{LogicOperator}
use Rattle.mc_typed.specs.declared.plans.Ending.TheVariants.{OutputFull}
use Rattle.mc_limits.specs.Limits.{most_run_outputs}
pub use Rattle.mc_typed.specs.Operators.{operated, is_true, goes_on}
use Rattle.mc_steps.specs.Runs.{Acts, gives, stops, traps, ◌>>=◌, changes, with_some, with_result, spends}
use Rattle.mc_steps.specs.Memories.{Lent, Memory}

-- ---- numbers

-- the one where it holds, else the other
abbrev pub where_true : {M E A : Type 0} → Bool → Acts M E A → Acts M E A → Acts M E A
where_true true chosen other s = chosen s
where_true false chosen other s = other s

-- the index is one of an array's of this length
abbrev pub with_index : {M E A : Type 0} → ℤ → ℕ → (ℕ → Acts M E A) → Acts M E A
with_index (pos i) n next s = where_true (nat_lt i n) (next i) (traps Index) s
with_index (negsuc i) n next s = traps Index s

-- ---- places

module _ {M P : Type 0} (m : Memory M P) where
  -- The array comes first, then its index, then the test of the index.
  abbrev pub item_does : {E : Type 0} → ℕ → ℕ → Acts M E P → Acts M E ℤ → Acts M E P
  item_does n stride array index = do
    p ← array
    x ← index
    with_index x n (λ i. gives (m.part i (i * stride) p))

  -- The index of an array parameter is tested against the length of the array that it names.
  abbrev pub lent_item_does : {E : Type 0} → Option (Lent P) → ℕ → Acts M E ℤ → Acts M E P
  lent_item_does lent stride index = do
    x ← index
    with_some Index lent (λ l. with_index x l.length (λ i. gives (m.part i (i * stride) l.place)))

  -- a scalar that is read has a value (C17 6.3.2.1p2)
  abbrev pub with_value : {E A : Type 0} → P → (ℤ → Acts M E A) → Acts M E A
  with_value p next s = with_some Unset (m.read p s.memory) next s

  abbrev pub read_does : {E : Type 0} → Acts M E P → Acts M E ℤ
  read_does place = do
    p ← place
    with_value p gives

  -- ---- effects (C17 6.5.16)

  -- The place comes first, then the value.
  abbrev pub assign_does : {E : Type 0} → Acts M E P → Acts M E ℤ → Acts M E (Unit {0})
  assign_does target value = do
    p ← target
    v ← value
    changes (m.put p 1 (Some v))

  -- The place comes first, then the right side, then the old value is read.
  abbrev pub update_does :
      {E : Type 0} → IntType → Operator → IntType → Acts M E P → Acts M E ℤ → Acts M E (Unit {0})
  update_does a operator common target value = do
    p ← target
    y ← value
    with_value p (λ x.
        with_result (operated operator common (converted common x) y) (λ v.
        changes (m.put p 1 (Some (converted a v)))))

  -- a structure is copied, from the place that its value gives
  abbrev pub copy_does : {E : Type 0} → ℕ → Acts M E P → Acts M E P → Acts M E (Unit {0})
  copy_does n target value = do
    p ← target
    q ← value
    changes (m.copy q p n)

-- ---- operators

module _ {M E : Type 0} where
  -- C17 6.5.3.3
  abbrev pub unary_does : UnOp → IntType → Acts M E ℤ → Acts M E ℤ
  unary_does operator a e = do
    x ← e
    with_result (unary_of operator a x) gives

  abbrev pub binary_does : Operator → IntType → Acts M E ℤ → Acts M E ℤ → Acts M E ℤ
  binary_does operator a e f = do
    x ← e
    y ← f
    with_result (operated operator a x y) gives

  -- what is given is changed
  abbrev pub as_does : {A B : Type 0} → (A → B) → Acts M E A → Acts M E B
  as_does f e = do
    x ← e
    gives (f x)

  -- `first` is what the first operand gives alone, and `both` what the two give.
  abbrev pub logic_does :
      {A : Type 0} → LogicOperator → (A → Bool) → (A → A) → (A → A → A) → Acts M E A →
      Acts M E A → Acts M E A
  logic_does operator holds first both e f = do
    x ← e
    where_true (goes_on operator (holds x)) (as_does (both x) f) (gives (first x))

  -- one of two, by a test (C17 6.5.15p4, 6.8.4.1p2)
  abbrev pub choice_does : {A : Type 0} → Acts M E ℤ → Acts M E A → Acts M E A → Acts M E A
  choice_does test chosen other = do
    x ← test
    where_true (is_true x) chosen other

  -- the value is not used (C17 6.8.3p2)
  abbrev pub drop_does : {A : Type 0} → Acts M E A → Acts M E (Unit {0})
  drop_does e = do
    x ← e
    gives tt

  -- several, one after the other
  abbrev pub both_do : Acts M E (Unit {0}) → Acts M E (Unit {0}) → Acts M E (Unit {0})
  both_do a b = do
    _ ← a
    b

  -- ---- the functions outside

  abbrev pub with_input : {A : Type 0} → List ℤ → (ℤ → Acts M E A) → Acts M E A
  with_input [] next s = traps InputEnd s
  with_input (v ∷ vs) next s = next v (record s { inputs = vs })

  -- `mcdc_in()`: the next input, after a unit of fuel
  abbrev pub input_does : Acts M E ℤ
  input_does s = spends (λ s. with_input s.inputs gives s) s

  -- `mcdc_out(e)`: the number goes to the end of the output, where that has room
  abbrev pub output_does : Acts M E ℤ → Acts M E (Unit {0})
  output_does e = do
    v ← e
    spends (λ s. where_true (nat_lt (length s.output) most_run_outputs)
        (λ s. gives tt (record s { output = s.output ++ v ∷ [] })) (stops OutputFull) s)
