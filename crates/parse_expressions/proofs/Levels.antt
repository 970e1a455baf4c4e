-- What is read with some room, by what is read with less.
use Rattle.std.proofs.Common.{◌≡◌, ◌≤◌, ◌-◌, ℕ, zero, suc, List, None, refl, arith, if◌then◌else◌, codes}
use Rattle.mc_tree.specs.Tree.{Initializer}
use Rattle.mc_grammar.specs.Words.{Lexeme}
use Rattle.mc_grammar.specs.steps.Parsers.{Parser, ◌>>=◌, see}
use Rattle.laws_grammar.specs.Rooms.{reading}
use Rattle.laws_grammar.specs.Declarations.{initializer_of, braced_of, single_of}

abbrev initializer_turn : Parser Initializer → Parser Initializer → Parser Initializer
initializer_turn braced single = do
  opens ← see (codes "{")
  if opens then braced else single

pub initializer_next : (room : ℕ) (ts : List Lexeme) → 1 ≤ room
    → initializer_of room ts ≡ initializer_turn (braced_of (initializer_of (room - 1))) (single_of (reading (room - 1))) ts
unfolding initializer_of
initializer_next zero ts h = absurd (omega (arith, h))
initializer_next (suc room) ts h = let e : suc room - 1 ≡ room = omega arith in rw e refl

pub initializer_none : (room : ℕ) (ts : List Lexeme) → room ≤ 0 → initializer_of room ts ≡ None
unfolding initializer_of
initializer_none zero ts h = refl
initializer_none (suc room) ts h = absurd (omega (arith, h))

pub ruleset initializer_steps = (initializer_next, initializer_none)
