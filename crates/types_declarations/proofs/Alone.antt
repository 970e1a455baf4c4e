-- A structure's tag that stands alone.
use Rattle.std.proofs.Common.{◌≡◌, ◌==◌, ◌&&◌, List, [], ◌∷◌, map, length, refl}
use Rattle.std.proofs.Math.Dec.{eqb-suc-zero}
use Rattle.mc_tree.specs.declared.declarations.specifier.Specifier as written
use Rattle.mc_tree.specs.declared.declarations.init_declarator.InitDeclarator.{InitDeclarator}
use Rattle.mc_tree.specs.Tree.{Specifier}
use Rattle.mc_tree.specs.Tree as tree
use Rattle.mc_tree.specs.Units.{init_declarator_of}
use Rattle.mc_tree.specs.Views.{specifier_of, specifiers_from}
use Rattle.types_rules.specs.Declarations.{is_tag_alone}
use Rattle.types_declarations.specs.Declarations.{is_structure_tag}

pub tag_alone : (s : Specifier) (rest : List written.Specifier) (ds : List InitDeclarator)
    → is_tag_alone (tree.specifiers s (specifiers_from (map specifier_of rest))) (map init_declarator_of ds)
    ≡ ((is_structure_tag s && (length rest == 0)) && (length ds == 0))
tag_alone (tree.StructureTag tag span) [] [] = refl
tag_alone (tree.StructureTag tag span) [] (d ∷ ds) = rw (eqb-suc-zero (length ds)) refl
tag_alone (tree.StructureTag tag span) (r ∷ rest) [] = rw (eqb-suc-zero (length rest)) refl
tag_alone (tree.StructureTag tag span) (r ∷ rest) (d ∷ ds) = rw (eqb-suc-zero (length rest)) refl
tag_alone (tree.Word word span) rest ds = refl
tag_alone (tree.TypedefName name) rest ds = refl
tag_alone (tree.Structure tag all span) rest ds = refl
tag_alone (tree.EnumerationTag tag span) rest ds = refl
tag_alone (tree.Enumeration tag all span) rest ds = refl
