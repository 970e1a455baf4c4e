-- What has a fault inside has no type, and what uses it has no fault for that reason.
use Rattle.std.specs.Prelude.{◌≡◌, ◌⊎◌, ℕ, Bool, false, List, [], Option, Some, None}
use Rattle.mc_tree.specs.declared.expressions.unary_operator.UnaryOperator.{UnaryOperator}
use Rattle.mc_tree.specs.Tree.{Name, Expression, Expressions, Specifiers, Statement}
use Rattle.mc_tree.specs.Tree as tree
use Rattle.types_faults.specs.declared.fault.Fault.{Fault}
use Rattle.types_rules.specs.Types.{Base, CType, Structure, ParameterKind, base_of_words}
use Rattle.types_rules.specs.Scopes.{Scope, is_input, is_output}
use Rattle.types_rules.specs.Values.{Value, Assigned, Kind, integer_faults, effect_faults, discarded_faults}
use Rattle.types_rules.specs.Expressions.{index_faults, member_faults, unary_faults, cast_faults, operands_faults, conditional_faults, assign_faults, update_faults}
use Rattle.types_rules.specs.Calls.{argument_faults}
use Rattle.types_rules.specs.Initializers.{Target, item_faults}
use Rattle.types_rules.specs.Statements.{switch_faults, return_faults}
use Rattle.types_rules.specs.Judgement.{judge}

-- ---- what uses a part without a type

-- Where some type of the part brings no fault, a missing one brings none.
abbrev pub Spares : {A : Type 0} → (Option A → List Fault) → Type 0
Spares {A} faults = (a : A) → faults (Some a) ≡ [] → faults None ≡ []

-- at each node that asks for the kinds of its parts
pub record MissingIsSpared : Type 0 where
  pub controlling : (at : ℕ) → Spares (integer_faults at)
  pub evaluated : (e : Expression) → Spares (effect_faults e)
  pub discarded : (e : Expression) → Spares (discarded_faults e)
  pub operand : (operator : UnaryOperator) (at : ℕ) → Spares (unary_faults operator at)
  pub left : (at : ℕ) (l : Option Kind) → Spares (λ k. operands_faults at k l)
  pub right : (at : ℕ) (k : Option Kind) → Spares (λ l. operands_faults at k l)
  pub array : (at : ℕ) (place : Bool) (l : Option Kind) → Spares (λ k. index_faults at place k l)
  pub index : (at : ℕ) (place : Bool) (k : Option Kind) → Spares (λ l. index_faults at place k l)
  pub structure : (at : ℕ) (name : Name) (all : List Structure) (place : Bool) →
      Spares (member_faults at name all place)
  pub converted : (at : ℕ) (e : Expression) (u : Option CType) → Spares (λ k. cast_faults at e k u)
  pub tested : (at : ℕ) (l m : Option Kind) → Spares (λ k. conditional_faults at k l m)
  pub one_arm : (at : ℕ) (k m : Option Kind) → Spares (λ l. conditional_faults at k l m)
  pub other_arm : (at : ℕ) (k l : Option Kind) → Spares (λ m. conditional_faults at k l m)
  pub target : (at : ℕ) (place : Bool) (l : Option Kind) → Spares (λ v. assign_faults at place v l)
  pub assigned : (at : ℕ) (place : Bool) (v : Option Value) → Spares (assign_faults at place v)
  pub updated : (at : ℕ) (place : Bool) (l : Option Kind) → Spares (λ v. update_faults at place v l)
  pub compound : (at : ℕ) (place : Bool) (v : Option Value) → Spares (update_faults at place v)
  pub argument : (at : ℕ) (p : Option ParameterKind) → Spares (argument_faults at p)
  pub switched : (at : ℕ) (body : Statement) → Spares (switch_faults at body)
  pub returned : (result : Option Base) (at : ℕ) → Spares (return_faults result at)
  pub initial : (static : Bool) (target : Target) (at : ℕ) → Spares (item_faults static target at)

-- ---- what has a fault inside

-- type words alone
abbrev pub AreWords : Specifiers → Type 0
AreWords tree.no_specifiers = Unit {0}
AreWords (tree.specifiers (tree.Word word span) rest) = AreWords rest
AreWords (tree.specifiers _ rest) = ⊥

-- words, and one specifier that is none
abbrev pub HasOneMore : Specifiers → Type 0
HasOneMore tree.no_specifiers = ⊥
HasOneMore (tree.specifiers (tree.Word word span) rest) = HasOneMore rest
HasOneMore (tree.specifiers _ rest) = AreWords rest

-- As the grammar reads them: what is no word stands beside words that mean no type, as `const`
-- (C17 6.7.2p2).
abbrev pub IsOneType : Specifiers → Type 0
IsOneType all = AreWords all ⊎ (HasOneMore all × (base_of_words all ≡ None))

-- An expression as it is read. Calls of the two external functions are left out: their types are
-- asked for where they are declared.
abbrev mutual
  pub IsRead : Expression → Type 0
  IsRead (tree.Named name) = Unit {0}
  IsRead (tree.Constant v decimal unsigned longs span) = Unit {0}
  IsRead (tree.Character v span) = Unit {0}
  IsRead (tree.Parenthesized inner span) = IsRead inner
  IsRead (tree.Call name given span) =
      (is_input name ≡ false) × (is_output name ≡ false) × AreRead given
  IsRead (tree.Index a b span) = IsRead a × IsRead b
  IsRead (tree.Member a name span) = IsRead a
  IsRead (tree.PostfixStep operator a span) = IsRead a
  IsRead (tree.PrefixStep operator a span) = IsRead a
  IsRead (tree.Unary operator a span) = IsRead a
  IsRead (tree.Cast (tree.type_name all stars at) a span) = IsOneType all × IsRead a
  IsRead (tree.Binary operator a b span) = IsRead a × IsRead b
  IsRead (tree.Conditional a b c span) = IsRead a × IsRead b × IsRead c
  IsRead (tree.Assignment operator a b span) = IsRead a × IsRead b
  IsRead (tree.Comma operands span) = Unit {0}

  pub AreRead : Expressions → Type 0
  AreRead tree.no_expressions = Unit {0}
  AreRead (tree.expressions e rest) = IsRead e × AreRead rest

-- An assignment may have a fault of its own, as where its left side is `const`: no node uses it.
abbrev pub IsFree : Value → List Fault → Type 0
IsFree (Assigned effect) faults = Unit {0}
IsFree _ faults = faults ≡ []

-- An expression that has a type has no fault inside, in every scope.
abbrev pub ValuesHaveNoFault : Type 0
ValuesHaveNoFault =
    (e : Expression) (s : Scope) (v : Value) → IsRead e → (judge e s).value ≡ Some v
    → IsFree v (judge e s).faults
