-- Lists of texts.
use Rattle.std.specs.Prelude.{ℕ, List, [], ◌∷◌, IsUtf8}

abbrev pub AreTexts : List (List ℕ) → Type 0
AreTexts [] = Unit {0}
AreTexts (text ∷ texts) = IsUtf8 text × AreTexts texts
