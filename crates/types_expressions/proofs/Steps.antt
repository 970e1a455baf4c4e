-- Compound assignments, and the 1 of a step.
use Rattle.std.proofs.Common.{◌≡◌, Some, None, pos, true, false, refl, option_map}
use Rattle.mc_span.specs.declared.span.Span.{Span}
use Rattle.mc_tree.specs.declared.expressions.assignment_operator.AssignmentOperator.{AssignmentOperator}
use Rattle.mc_tree.specs.declared.expressions.assignment_operator.AssignmentOperator.TheVariants as assign
use Rattle.mc_value.specs.declared.int_type.IntType.TheVariants as the
use Rattle.mc_typed.specs.Tree as t
use Rattle.types_rules.specs.Scopes.{Scope}
use Rattle.types_rules.specs.Values as v
use Rattle.types_rules.specs.Expressions.{literal, update_found, assignment_found}
use Rattle.types_scopes.specs.declared.found.Found.{Found}
use Rattle.types_scopes.specs.Found.{found_of, value_of}

-- every operator but `=` is that of a compound assignment
pub assignment_updates : (operator : AssignmentOperator) (span : Span) (x y : v.Found)
    → (operator ≡ assign.Assign → ⊥) → assignment_found operator span x y ≡ update_found operator span x y
assignment_updates assign.Assign span x y other = absurd (other refl)
assignment_updates assign.Multiply span x y other = refl
assignment_updates assign.Divide span x y other = refl
assignment_updates assign.Remainder span x y other = refl
assignment_updates assign.Add span x y other = refl
assignment_updates assign.Subtract span x y other = refl
assignment_updates assign.ShiftLeft span x y other = refl
assignment_updates assign.ShiftRight span x y other = refl
assignment_updates assign.BitAnd span x y other = refl
assignment_updates assign.BitXor span x y other = refl
assignment_updates assign.BitOr span x y other = refl

-- what is found of the 1
pub one_found : (x : Found) (at : Span) (s : Scope) → x.fault ≡ None
    → option_map value_of x.value ≡ Some (v.Number (t.Constant (pos 1) the.Int at))
    → x.place ≡ false → x.constant ≡ true → found_of x s ≡ literal (pos 1) (Some the.Int) at s
one_found x at s fault value place constant = rw (fault, value, place, constant) refl
