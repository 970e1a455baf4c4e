-- The types so far, and one more, with those still to come.
use Rattle.std.proofs.Common.{◌≡◌, ◌∙◌, ◌<◌, ◌+◌, ◌++◌, ◌∷◌, [], ℕ, List, length, map, drop, get_or, append_assoc, sym, ap}
use Rattle.std.proofs.lemmas.List.{at_drop_more, map-append}
use Rattle.mc_typed.specs.Tree as typed
use Rattle.mc_typed.specs.Views as views
use Rattle.mc_typed.specs.declared.functions.ParameterType.{ParameterType}
use Rattle.types_rules.specs.Types as t
use Rattle.types_rules.specs.Typing as ty
use Rattle.types_scopes.specs.Types.{kind_of}
use Rattle.types_scopes.specs.Views.{structure_of}
use Rattle.types_scopes.specs.declared.types.ParameterKind.{ParameterKind}
use Rattle.types_declarations.proofs.definitions.add_parameter_types.Goals as goal

next : (f : t.ParameterKind → typed.ParameterType) (all : List ParameterKind) (i : ℕ) (d : ParameterKind)
    (old new : List ParameterType) (one : ParameterType) (whole : List typed.ParameterType)
    → i < length all → d ≡ get_or all i d → new ≡ old ++ (one ∷ []) → views.parameter_of one ≡ f (kind_of d)
    → map views.parameter_of old ++ map f (map kind_of (drop i all)) ≡ whole
    → map views.parameter_of new ++ map f (map kind_of (drop (i + 1) all)) ≡ whole
next f all i d old new one whole less is more same before =
    let rest = map f (map kind_of (drop (i + 1) all)) in
    let olds = map views.parameter_of old in
    ap (λ l. map views.parameter_of l ++ rest) more
    ∙ ap (λ l. l ++ rest) (map-append views.parameter_of old (one ∷ []))
    ∙ ap (λ v. (olds ++ (v ∷ [])) ++ rest) same
    ∙ append_assoc olds (f (kind_of d) ∷ []) rest
    ∙ ap (λ v. olds ++ map f (map kind_of (v ∷ drop (i + 1) all))) is
    ∙ sym (at_drop_more (λ l. olds ++ map f (map kind_of l)) all i d less)
    ∙ before

pub loop-kind-preserved : goal.loop-kind-preserved
loop-kind-preserved c =
    next (ty.parameter_type (map structure_of c.args.structures.now)) c.args.kinds.now c.loop-kind.kind-index c.kind-item.result _ _ _ _
    c.loop-kind-test.true c.kind-item.is c.in_ok-push.ensures c.in_ok-parameter_type.ensures c.loop-kind.invariant
