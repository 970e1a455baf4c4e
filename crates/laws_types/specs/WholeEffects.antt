-- What stands as a whole statement, or as a whole clause of `for`, uses no value, also under casts to
-- void; what stands in `?:` does (C17 6.8.3p2, 6.9.1p12).
use Rattle.std.specs.Prelude.{◌≡◌, true, false, List, [], ◌∷◌, map, codes, Some, None}
use Rattle.mc_tree.specs.declared.declarations.specifier_word.SpecifierWord.TheVariants as words
use Rattle.mc_tree.specs.Tree as tree
use Rattle.mc_value.specs.declared.int_type.IntType.TheVariants.{Int, Long}
use Rattle.mc_typed.specs.Tree as typed
use Rattle.types_rules.specs.Statements.{alone}
use Rattle.types_rules.specs.Bodies.{judge_statement}
use Rattle.laws_types.specs.Written.{here, there, named, read}
use Rattle.laws_types.specs.Places.{the, call, local}
use Rattle.laws_types.specs.Places as places
use Rattle.laws_types.specs.Statements.{around, word, null, nothing}

abbrev pub void : tree.Expression → tree.Expression
void e = tree.Cast (tree.type_name
    (tree.specifiers (tree.Word words.Void here) tree.no_specifiers) 0 here) e there

abbrev pub input : tree.Expression
input = call (codes "mcdc_in") []

abbrev pub does : tree.Expression → tree.Statement
does e = tree.ExpressionStatement e there

-- mcdc_in(); (void)mcdc_in(); (void)(void)mcdc_in(); s; (void)s; i?(void)i:(void)l;
-- (void)(i?(void)i:(void)l); for((void)i;;mcdc_in());
abbrev pub written : List tree.Statement
written =
    does input ∷ does (void input) ∷ does (void (void input))
    ∷ does (the (codes "s")) ∷ does (void (the (codes "s")))
    ∷ does (tree.Conditional (named Int) (void (named Int)) (void (named Long)) there)
    ∷ does (void (tree.Conditional (named Int) (void (named Int)) (void (named Long)) there))
    ∷ tree.For (tree.StartsExpression (Some (void (named Int)))) None (Some input) null there
    ∷ []

abbrev pub unused : typed.Effect
unused = typed.NumberEffect (typed.Input there) true

abbrev pub dropped : typed.Effect → typed.Effect
dropped e = typed.Discard e there

abbrev pub structure : typed.Effect
structure = typed.StructureEffect (typed.Stored (local 20)) true

-- under `?:` the values are used
abbrev pub chosen : typed.Effect
chosen = typed.ChoiceEffect (read Int) (dropped (typed.NumberEffect (read Int) false))
    (dropped (typed.NumberEffect (read Long) false)) there

abbrev pub stands : typed.Effect → typed.Statement
stands e = typed.EffectStatement e there

abbrev pub meant : List typed.Statement
meant =
    stands unused ∷ stands (dropped unused) ∷ stands (dropped (dropped unused))
    ∷ stands structure ∷ stands (dropped structure) ∷ stands chosen ∷ stands (dropped chosen)
    ∷ typed.For (typed.StartEffects (dropped (typed.NumberEffect (read Int) true) ∷ [])) None
    (unused ∷ []) nothing (word 3) there ∷ []

abbrev pub WholeEffectsUseNoValue : Type 0
WholeEffectsUseNoValue =
    map (λ s. (judge_statement around s places.around).value) written
    ≡ map (λ s. Some (alone s)) meant
