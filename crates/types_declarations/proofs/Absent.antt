-- Absent lengths of arrays, by the first length.
use Rattle.std.proofs.Common.{◌≡◌, ◌∙◌, ◌||◌, refl, ap, sym}
use Rattle.mc_tree.specs.declared.declarations.array_length.ArrayLength.{ArrayLength}
use Rattle.mc_tree.specs.declared.declarations.array_length.ArrayLength.TheOpen.{ArrayLength-F}
use Rattle.mc_tree.specs.declared.declarations.array_length.ArrayLength.TheFolds.{fold_out-ArrayLength}
use Rattle.mc_tree.specs.Tree.{ArrayLengths, Declarator, Enumerator, Parameter, Specifier, StructMember}
use Rattle.mc_tree.specs.Tree as t
use Rattle.mc_tree.specs.Views.{array_length_of, node_declarator, node_enumerator, node_expression, node_length, node_member, node_parameter, node_specifier}
use Rattle.types_rules.specs.Declarators.{has_absent, is_first_absent, is_later_absent}

abbrev Node : Type 0
Node = ArrayLength-F (ArrayLengths → ArrayLengths) Declarator Enumerator Specifier t.Expression StructMember Parameter

node_later : (x : Node) (rest : ArrayLengths) → is_later_absent (node_length x rest) ≡ has_absent rest
node_later ArrayLength-F.Absent rest = refl
node_later (ArrayLength-F.Given value) rest = refl

node_absent : (x : Node) (rest : ArrayLengths)
    → has_absent (node_length x rest) ≡ (is_first_absent (node_length x t.no_lengths) || has_absent rest)
node_absent ArrayLength-F.Absent rest = refl
node_absent (ArrayLength-F.Given value) rest = refl

by_later : (f : ArrayLengths → ArrayLengths) (x : Node) (rest : ArrayLengths) → f ≡ node_length x
    → is_later_absent (f rest) ≡ has_absent rest
by_later f x rest e =
    ap (λ (g : ArrayLengths → ArrayLengths). is_later_absent (g rest)) e ∙ node_later x rest

by_absent : (f : ArrayLengths → ArrayLengths) (x : Node) (rest : ArrayLengths) → f ≡ node_length x
    → has_absent (f rest) ≡ (is_first_absent (f t.no_lengths) || has_absent rest)
by_absent f x rest e =
    ap (λ (g : ArrayLengths → ArrayLengths). has_absent (g rest)) e
    ∙ node_absent x rest
    ∙ ap (λ (g : ArrayLengths → ArrayLengths). is_first_absent (g t.no_lengths) || has_absent rest) (sym e)

-- those after the first one
pub later_absent : (one : ArrayLength) (rest : ArrayLengths)
    → is_later_absent (array_length_of one rest) ≡ has_absent rest
later_absent one rest =
    by_later (array_length_of one) _ rest (fold_out-ArrayLength (ArrayLengths → ArrayLengths) Declarator Enumerator Specifier t.Expression StructMember Parameter node_length node_declarator node_enumerator node_specifier node_expression node_member node_parameter one)

-- the first one, or one after it
pub absent_more : (one : ArrayLength) (rest : ArrayLengths)
    → has_absent (array_length_of one rest) ≡ (is_first_absent (array_length_of one t.no_lengths) || has_absent rest)
absent_more one rest =
    by_absent (array_length_of one) _ rest (fold_out-ArrayLength (ArrayLengths → ArrayLengths) Declarator Enumerator Specifier t.Expression StructMember Parameter node_length node_declarator node_enumerator node_specifier node_expression node_member node_parameter one)
