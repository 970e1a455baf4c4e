-- The number that one more digit makes.
use Rattle.std.proofs.Common.{◌≡◌, ◌∙◌, ◌<◌, ◌+◌, ◌-◌, ◌*◌, ℕ, List, [], ◌∷◌, ◌++◌, length, take, get_or, refl, ap}
use Rattle.std.proofs.lemmas.List.{take_more}
use Rattle.csv_records.specs.Numbers.{number_after, magnitude_of}

number_after-push : (n : ℕ) (ds : List ℕ) (d : ℕ) → number_after n (ds ++ d ∷ []) ≡ 10 * number_after n ds + (d - 48)
number_after-push n [] d = refl
number_after-push n (c ∷ ds) d = number_after-push (10 * n + (c - 48)) ds d

pub magnitude_more : (ds : List ℕ) (i : ℕ) → i < length ds → magnitude_of (take (i + 1) ds) ≡ 10 * magnitude_of (take i ds) + (get_or ds i 0 - 48)
magnitude_more ds i h = ap magnitude_of (take_more ds i 0 h) ∙ number_after-push 0 (take i ds) (get_or ds i 0)
