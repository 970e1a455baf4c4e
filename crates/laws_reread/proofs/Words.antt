-- The kinds of the words of a source.
use Rattle.std.proofs.Common.{◌≡◌, List, [], ◌∷◌, map, subst}
use Rattle.std.specs.List.{AllByRecursion as Each}
use Rattle.std.proofs.lemmas.List.Elements.{recursion_from_All}
use Rattle.mc_lex.specs.Tokens.{Tok}
use Rattle.reread_law_texts.specs.alike.Moves.{without_place}
use Rattle.reread_law_printed.specs.spelled.Words.{kind_in, numeral}
use Rattle.reread_law_printed.proofs.Spelled.Printed.{kinds_kept}
use Rattle.laws_reread.specs.Headed.{SourcesHaveNumerals, SourcesKeepKinds}

pub have_numerals : SourcesHaveNumerals
have_numerals text source scan n h = (kinds_kept text source scan).1 _ _ (numeral n h)

abbrev Stays : List Tok → Tok → Type 0
Stays source t = kind_in source t.text ≡ t.kind

head_same : (x y : Tok) (a b : List Tok) → x ∷ a ≡ y ∷ b → x ≡ y
head_same x y a b e = cc

tail_same : (x y : Tok) (a b : List Tok) → x ∷ a ≡ y ∷ b → a ≡ b
tail_same x y a b e = cc

alike : (source ts us : List Tok) → map without_place ts ≡ map without_place us → Each (Stays source) ts → Each (Stays source) us
alike source [] [] e h = tt
alike source [] (u ∷ us) e h = absurd (cc)
alike source (t ∷ ts) [] e h = absurd (cc)
alike source (t ∷ ts) (u ∷ us) e h =
    let same = head_same (without_place t) (without_place u) (map without_place ts) (map without_place us) e in
    (subst (λ x. Stays source x) same h.0, alike source ts us (tail_same (without_place t) (without_place u) (map without_place ts) (map without_place us) e) h.1)

pub keep_kinds : SourcesKeepKinds
keep_kinds text source tokens scan e = alike source source tokens e (recursion_from_All (Stays source) source (kinds_kept text source scan).0)
