-- How decisions are evaluated, and their events (DO-178C, glossary); the event of a label.
use Rattle.std.specs.Prelude.{ℕ, ℤ, Bool, true, false, ◌&&◌, ◌||◌, List, [], ◌∷◌, ◌++◌, replicate, Option, Some, None}
use Rattle.mc_value.specs.Conversions.{is_zero}
use Rattle.mc_value.specs.Arithmetic.{truth}
use Rattle.mc_cond.specs.Order.{Answer}
use Rattle.mc_cond.specs.Vectors.{Evaluation, xor}
use Rattle.mc_typed.specs.Tree.{Expression}
use Rattle.decide_rules.specs.declared.operators.FullOperator.{FullOperator}
use Rattle.decide_rules.specs.declared.operators.FullOperator.TheVariants as full
use Rattle.decide_rules.specs.declared.role.Role.{Role}
use Rattle.decide_rules.specs.Nodes as nodes
use Rattle.decide_rules.specs.Roots.{is_root, operand_role}
use Rattle.decide_rules.specs.Conditions.{width}
use Rattle.mc_steps.specs.Runs.{gives, lists, ◌>>=◌}
use Rattle.mc_steps.specs.Events.{Chosen, Evaluated}
use Rattle.mc_steps.specs.Expressions.{is_true, as_does}
use Rattle.mc_meaning.specs.Within.{Does, Within}
use Rattle.mc_meaning.specs.Positions.{into}

-- what an expression gives: its value, and the answers of its conditions
pub record Judged : Type 0 where
  pub value : ℤ
  pub answers : List Answer

abbrev pub value : Does Judged → Does ℤ
value e = as_does (λ j. j.value) e

-- an expression with another top operator than `!`, `&&`, `||` and the full operators is one
-- condition
abbrev pub as_condition : ℤ → Judged
as_condition v = record { value = v; answers = Some (is_true v) ∷ [] }

-- C17 6.5.3.3p5
abbrev pub negated : Judged → Judged
negated j = record { value = truth (is_zero j.value); answers = j.answers }

abbrev pub holds : Judged → Bool
holds j = is_true j.value

-- the conditions of the second operand are not evaluated
abbrev pub first_alone : Expression → Judged → Judged
first_alone f j = record {
  value = truth (holds j);
  answers = j.answers ++ replicate (width (nodes.expression f)) None;
}

abbrev pub both : Judged → Judged → Judged
both j k = record { value = truth (holds k); answers = j.answers ++ k.answers }

-- `&`, `|` and `^` between Boolean operands: the bitwise operator on numbers that are 0 or 1, so
-- the operator on their truth (C17 6.5.10 to 6.5.12)
abbrev pub truth_table : FullOperator → Bool → Bool → Bool
truth_table full.And p q = p && q
truth_table full.Or p q = p || q
truth_table full.Xor p q = xor p q

abbrev pub in_full : FullOperator → Judged → Judged → Judged
in_full operator j k = record {
  value = truth (truth_table operator (holds j) (holds k));
  answers = j.answers ++ k.answers;
}

-- Both operands are evaluated, the left one first.
abbrev pub full_does : FullOperator → Does Judged → Does Judged → Does Judged
full_does operator e f = do
  j ← e
  k ← f
  gives (in_full operator j k)

abbrev pub where_full :
    Option FullOperator → (FullOperator → Does Judged) → Does Judged → Does Judged
where_full (Some operator) full other = full operator
where_full None full other = other

abbrev pub vector_of : Judged → Evaluation
vector_of j = record { answers = j.answers; outcome = holds j }

-- the event of a decision, once its outcome is known
abbrev pub tells : ℕ → Judged → Does Judged
tells d j = do
  _ ← lists (Evaluated d (vector_of j) ∷ [])
  gives j

abbrev pub where_root : Bool → ℕ → Does Judged → Does Judged
where_root true d e = e >>= tells d
where_root false d e = e

-- An expression that is a root is a decision. Its operands get the role in which those of `!`,
-- `&&`, `||` and the full operators stand in it.
abbrev pub decides : Role → Expression → Within → (Role → Within → Does Judged) → Does Judged
decides role e w operands =
    where_root (is_root role (nodes.expression e)) w.decisions
    (operands (operand_role role (nodes.expression e)) (into role e w))

abbrev pub condition : Role → Expression → Within → (Within → Does ℤ) → Does Judged
condition role e w operands = decides role e w (λ r w. as_does as_condition (operands w))

-- the event of a label, where the `switch` chose it
abbrev pub choose : ℕ → Bool → Does (Unit {0})
choose label true = lists (Chosen label ∷ [])
choose label false = gives tt
