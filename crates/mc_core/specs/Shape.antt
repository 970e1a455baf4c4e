-- How the bits of a matrix lie in words of 64 bits.
use Rattle.std.specs.Prelude.{ℕ, ◌+◌, ◌*◌, ◌/◌}
use Rattle.mc_core.specs.declared.shape.Shape.{Shape}

-- the words of one bit, 64 tests to a word
abbrev pub rows : Shape → ℕ
rows s = (s.tests + 63) / 64

abbrev pub word_count : Shape → ℕ
word_count s = s.bits * rows s

-- the word in which bit b under test t lies
abbrev pub place : Shape → ℕ → ℕ → ℕ
place s b t = b * rows s + t / 64
