-- No word of a type.
use Rattle.std.proofs.Common.{◌≡◌, ◌+◌, inl, inr, arith}
use Rattle.mc_grammar.specs.Counts.{Counts}
use Rattle.mc_grammar.specs.WordSets.{IsOneType}

-- whatever storage words there are
pub no_word : (c : Counts) → c.others + c.void + c.bool ≡ 0 → c.char + c.short + c.int + c.long + c.signs ≡ 0 → ¬ IsOneType c
no_word c none zero_words (inl h) = omega (arith, none, h.0)
no_word c none zero_words (inr h) = omega (arith, zero_words, h.1)
