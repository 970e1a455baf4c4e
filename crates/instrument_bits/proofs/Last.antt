-- The last item of the body of a `switch`.
use Rattle.std.proofs.Common.{◌≡◌, ◌∙◌, sym, ap, suc, ◌-◌, Bool, List, [], ◌∷◌, map, length, Option, Some, None, option_copied, slice_get, Bor, arith}
use Rattle.mc_typed.specs.declared.statements.Statement.{Statement}
use Rattle.mc_typed.specs.Views.{statement_of, statements_from}
use Rattle.mc_steps.specs.Points.{completes, last_completes}

abbrev no_statement : Option Statement
no_statement = None

abbrev a_statement : Statement → Option Statement
a_statement x = Some x

none_there : {A : Type 0} (x : Statement) → a_statement x ≡ no_statement → A
none_there x e = cc

same : (x y : Statement) → a_statement x ≡ a_statement y → x ≡ y
same x y e = cc

at_last : (xs : List Statement) (x : Statement) → a_statement x ≡ slice_get xs (length xs - 1) → completes (statement_of x) ≡ last_completes (statements_from (map statement_of xs))
at_last [] x e = none_there x e
at_last (y ∷ []) x e = ap (λ (z : Statement). completes (statement_of z)) (same x y e)
at_last (y ∷ z ∷ zs) x e =
    let one : length (y ∷ z ∷ zs) - 1 ≡ suc (length (z ∷ zs) - 1) = omega arith in
    at_last (z ∷ zs) x (e ∙ ap (slice_get (y ∷ z ∷ zs)) one)

pub last_item : (xs : List Statement) (o : Option (Bor Statement)) (x : Bor Statement) (b : Bool) → option_copied o ≡ slice_get xs (length xs - 1) → o ≡ Some x → b ≡ completes (statement_of x.now) → b ≡ last_completes (statements_from (map statement_of xs))
last_item xs o x b value is told = told ∙ at_last xs x.now (sym (ap option_copied is) ∙ value)
