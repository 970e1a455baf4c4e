-- The knot: what reads expressions and specifiers of fewer than so many levels.
use Rattle.std.specs.Prelude.{ℕ, zero, suc}
use Rattle.mc_grammar.specs.steps.Parsers.{refuse}
use Rattle.laws_grammar.specs.Expressions.{Parts, expression_of}
use Rattle.laws_grammar.specs.Specifiers.{specifiers_of}

unfoldable pub reading : ℕ → Parts
reading zero = record { expression = λ m. refuse; specifiers = λ test. refuse }
reading (suc room) =
    record {
      expression = expression_of (reading room) room;
      specifiers = specifiers_of (reading room) room;
    }
