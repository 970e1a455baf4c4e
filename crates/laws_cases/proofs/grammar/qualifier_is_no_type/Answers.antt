use Rattle.std.proofs.Common.{[], ◌∷◌, refl}
use Rattle.mc_tree.specs.declared.declarations.specifier_word.SpecifierWord.TheVariants.{Const, Static}
use Rattle.mc_grammar.specs.Counts.{counts}
use Rattle.mc_grammar.specs.WordSets.{specifiers_of}
use Rattle.laws_cases.proofs.NoType.{no_word}
use Rattle.laws_cases.proofs.grammar.qualifier_is_no_type.Goals as goal

pub returns : goal.returns
returns c = (
  (λ span h. no_word (counts (specifiers_of (Const ∷ []) span)) refl refl h),
  (λ span h. no_word (counts (specifiers_of (Static ∷ []) span)) refl refl h),
)
