-- Lists of the program as those of the definitions.
use Rattle.std.proofs.Common.{◌≡◌, ◌∙◌, List, [], ◌∷◌, ◌++◌, map, length, Option, Some, None, option_map, Vec, refl, ap}
use Rattle.std.specs.Prelude.{Box, box_value}
use Rattle.std.specs.declared.alloc.Global.{Global}
use Rattle.mc_typed.specs.declared.statements.Statement.{Statement}
use Rattle.mc_typed.specs.Views.{statement_of, statements_from}
use Rattle.mc_typed.specs.Tree as t
use Rattle.types_faults.specs.Faults.{least_of}
use Rattle.types_faults.specs.Kept.{listed}
use Rattle.types_rules.specs.Scopes.{Scope}
use Rattle.types_rules.specs.Values.{lift2}
use Rattle.types_rules.specs.Declarations.{append}
use Rattle.types_rules.specs.Statements.{only, followed, followed_judged}
use Rattle.types_scopes.specs.declared.found.Judged.{Judged}
use Rattle.types_scopes.specs.Found.{judged_of}
use Rattle.types_scopes.specs.Lists.{items_in}
use Rattle.types_scopes.specs.Statements.{statements_of}
use Rattle.types_scopes.specs.steps.Squeezed.{squeezed_part}
use Rattle.types_scopes.proofs.Items.{lists_joined_by}
use Rattle.types_statements.specs.Lists.{boxed_of, only_of}

-- no other number of elements is one
pub only_none : {A : Type 0} (all : List A) → (length all ≡ 1 → ⊥) → None ≡ only_of all
only_none [] other = refl
only_none (a ∷ []) other = absurd (other refl)
only_none (a ∷ b ∷ all) other = refl

pub only_statement : (all : List Statement)
    → option_map statement_of (only_of all) ≡ only (statements_from (map statement_of all))
only_statement [] = refl
only_statement (s ∷ []) = refl
only_statement (s ∷ r ∷ all) = refl

boxed_values : (r : Option (Box Statement Global)) → option_map boxed_of r ≡ option_map statement_of (option_map box_value r)
boxed_values None = refl
boxed_values (Some b) = refl

pub only_boxed : (all : List Statement) (r : Option (Box Statement Global)) → option_map box_value r ≡ only_of all
    → option_map boxed_of r ≡ only (statements_from (map statement_of all))
only_boxed all r h = boxed_values r ∙ ap (option_map statement_of) h ∙ only_statement all

followed_joined : (xs ys : List Statement)
    → statements_from (map statement_of (xs ++ ys))
    ≡ followed (statements_from (map statement_of xs)) (statements_from (map statement_of ys))
followed_joined [] ys = refl
followed_joined (x ∷ xs) ys = ap (t.statements (statement_of x)) (followed_joined xs ys)

pub statements_joined : (r x y : Judged (Vec Statement Global)) (s : Scope)
    → r.fault ≡ least_of (listed x.fault ++ (listed y.fault ++ []))
    → option_map items_in r.value
    ≡ lift2 append (option_map items_in x.value) (option_map items_in y.value)
    → judged_of statements_of r s
    ≡ squeezed_part (followed_judged (judged_of statements_of x s) (judged_of statements_of y s))
statements_joined = lists_joined_by (λ all. statements_from (map statement_of all)) followed followed_joined
