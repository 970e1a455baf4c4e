-- Loops over the items of a body and over declarators.
use Rattle.std.proofs.Common.{◌≡◌, ℕ, ◌+◌, ◌≤◌, ◌<◌, ℤ, Bool, false, ◌||◌, List, ◌∷◌, length, get_or, drop, map, refl, sym, ap, ◌∙◌, Option, Some, None, option_map}
use Rattle.std.specs.Prelude.{is_some}
use Rattle.std.proofs.lemmas.List.{at_drop_more, at_drop_all}
use Rattle.mc_typed.specs.declared.initializers.Initializer.{Initializer}
use Rattle.mc_typed.specs.declared.statements.Declarator.{Declarator}
use Rattle.mc_steps.specs.Points.{initializes}
use Rattle.mc_steps.specs.Statements.{has_label}
use Rattle.mc_probe.specs.Erase.{erase_declarator, erase_initializer}
use Rattle.mc_probe.specs.Tree as p
use Rattle.mc_probe.specs.Views as view
use Rattle.mc_interp.specs.declared.prepared.statements.Prepared.{Prepared}
use Rattle.mc_interp.specs.Bodies.{is_case, label_of, labels_in}
use Rattle.mc_interp.specs.Views as prepared

here : {A : Type 0} (xs : List A) (i : ℕ) (x : A) → i < length xs → x ≡ get_or xs i x → x ∷ drop (i + 1) xs ≡ drop i xs
here {A} xs i x less is = ap (λ v. v ∷ drop (i + 1) xs) is ∙ sym (at_drop_more (λ (l : List A). l) xs i x less)

-- ---- labels

abbrev pub has : Option ℤ → List Prepared → Bool
has l xs = has_label l (labels_in (view.statements_from (map prepared.statement_of xs)))

has_here : (l : Option ℤ) (u : p.Statement) (rest : p.Statements) →
    (is_case l (label_of u) || has_label l (labels_in rest)) ≡ has_label l (labels_in (p.statements u rest))
has_here l (p.Compound items span) rest = refl
has_here l (p.Label v span mark) rest = refl
has_here l (p.Declaration declarators span bit) rest = refl
has_here l (p.Null span bit) rest = refl
has_here l (p.EffectStatement effect span bit) rest = refl
has_here l (p.If e u keyword span bit) rest = refl
has_here l (p.IfElse e u v keyword span bit) rest = refl
has_here l (p.Switch e items keyword span bit absent) rest = refl
has_here l (p.For start test step u keyword span bit) rest = refl
has_here l (p.DoWhile u e keyword span bit) rest = refl
has_here l (p.Break span bit) rest = refl
has_here l (p.Continue span bit) rest = refl
has_here l (p.Return value span bit exit) rest = refl

pub case_step : (l : Option ℤ) (xs : List Prepared) (i : ℕ) (u : Prepared) (b : Bool) → i < length xs → u ≡ get_or xs i u →
    b ≡ is_case l (label_of (prepared.statement_of u)) → (b || has l (drop (i + 1) xs)) ≡ has l (drop i xs)
case_step l xs i u b less is e =
    ap (λ b. b || has l (drop (i + 1) xs)) e
    ∙ has_here l (prepared.statement_of u) (view.statements_from (map prepared.statement_of (drop (i + 1) xs)))
    ∙ ap (has l) (here xs i u less is)

pub case_end : (l : Option ℤ) (xs : List Prepared) (i : ℕ) → length xs ≤ i → false ≡ has l (drop i xs)
case_end l xs i more = sym (at_drop_all (has l) xs i more)

-- ---- declarators

abbrev pub inits : List Declarator → Bool
inits xs = initializes (map erase_declarator (map view.declarator_of xs))

some_mapped : (o : Option Initializer) → is_some o ≡ is_some (option_map erase_initializer (option_map view.initializer_of o))
some_mapped (Some x) = refl
some_mapped None = refl

pub init_step : (xs : List Declarator) (i : ℕ) (d : Declarator) (b : Bool) → i < length xs → d ≡ get_or xs i d → b ≡ is_some d.value →
    (b || inits (drop (i + 1) xs)) ≡ inits (drop i xs)
init_step xs i d b less is e =
    ap (λ b. b || inits (drop (i + 1) xs)) (e ∙ some_mapped d.value)
    ∙ ap inits (here xs i d less is)

pub init_end : (xs : List Declarator) (i : ℕ) → length xs ≤ i → false ≡ inits (drop i xs)
init_end xs i more = sym (at_drop_all inits xs i more)
