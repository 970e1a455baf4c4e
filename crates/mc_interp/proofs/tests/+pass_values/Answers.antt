use Rattle.std.proofs.Common.{◌≡◌, ◌-◌, ◌<◌, ◌≤◌, List, [], ◌∷◌, ◌++◌, length, get_or, take, drop, map, sym, ap, subst, ◌∙◌, arith, append_assoc}
use Rattle.std.proofs.lemmas.List.{drop_more, take_rest}
use Rattle.mc_value.specs.declared.int_type.IntType.{IntType}
use Rattle.mc_typed.specs.declared.functions.ParameterType as code
use Rattle.mc_typed.specs.declared.functions.ParameterType.TheVariants as parameter
use Rattle.mc_typed.specs.Tree as t
use Rattle.mc_typed.specs.Views.{parameter_of}
use Rattle.mc_interp.specs.declared.values.Passed.{Passed}
use Rattle.mc_interp.specs.Calls.{ArePassed, IsPassed}
use Rattle.mc_interp.proofs.tests.+pass_values.Goals as goal

passed_push : (types : List IntType) (xs : List Passed) (qs : List t.ParameterType) (x : Passed) (q : t.ParameterType) → ArePassed types xs qs → IsPassed types x q →
    ArePassed types (xs ++ x ∷ []) (qs ++ q ∷ [])
passed_push types [] [] x q h p = (p, tt)
passed_push types [] (r ∷ rs) x q h p = absurd h
passed_push types (y ∷ ys) [] x q h p = absurd h
passed_push types (y ∷ ys) (r ∷ rs) x q h p = (h.0, passed_push types ys rs x q h.1 p)

-- one more number, and then those that are left
typed_more : (types : List IntType) (xs ys new : List Passed) (before : List t.ParameterType) (x : Passed) (a : IntType) (ps : List code.ParameterType) (p : code.ParameterType) →
    1 ≤ length ps → p ≡ get_or ps 0 p → p ≡ parameter.Int a → ys ≡ xs ++ x ∷ [] → IsPassed types x (t.NumberParameter a) →
    ((b : List t.ParameterType) → ArePassed types ys b → ArePassed types new (b ++ map parameter_of (take (length ps - 1) (drop 1 ps)))) →
    ArePassed types xs before → ArePassed types new (before ++ map parameter_of ps)
typed_more types xs ys new before x a ps p l at is put passed next h =
    let some : 0 < length ps = omega (arith, l) in
    let rest = drop 1 ps in
    let q = t.NumberParameter a in
    let d : ps ≡ parameter.Int a ∷ rest = drop_more ps 0 p some ∙ ap (λ (e : code.ParameterType). e ∷ rest) (sym at ∙ is) in
    let k = next (before ++ q ∷ []) (subst (λ (l : List Passed). ArePassed types l (before ++ q ∷ [])) (sym put) (passed_push types xs before x q h passed)) in
    let m = subst (λ (l : List code.ParameterType). ArePassed types new ((before ++ q ∷ []) ++ map parameter_of l)) (take_rest ps 1) k in
    subst (λ (l : List code.ParameterType). ArePassed types new (before ++ map parameter_of l)) (sym d)
    (subst (ArePassed types new) (append_assoc before (q ∷ []) (map parameter_of rest)) m)

pub returns-in-Int-clause-typed : goal.returns-in-Int-clause-typed
returns-in-Int-clause-typed t c types before h =
    typed_more types c.args.passed.now.items c.push.new.self.items c.pass_values.new.passed.items before c.number_passed.result c.in-Int.of c.args.parameters.now c.parameter-item.result
    c.in-len1-up-parameters.len_at_least c.parameter-item.is c.in-Int.is c.push.ensures.items (c.number_passed.ensures.typed types) (c.pass_values.ensures.typed types) h
