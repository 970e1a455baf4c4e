-- The laws of the shared words: the rule holds at the start, each step keeps it, and what it says.
use Rattle.std.specs.Prelude.{◌^◌, ◌<◌}
use Rattle.mc_core.specs.declared.shape.Shape.{Shape}
use Rattle.mc_cover.specs.Rule.{Shared, IsKept}
use Rattle.mc_cover.specs.Words.{IsRuled}
use Rattle.mc_cover.specs.Steps.{opened, StepsKeep, IsMove}

abbrev pub RuleBegins : Type 0
RuleBegins = (k : Shape) → IsKept k (opened k)

abbrev pub EachStepKeepsRule : Type 0
EachStepKeepsRule = (k : Shape) (s : Shared) → IsKept k s → StepsKeep k s

-- the steps change word 0 and the coverage words as those of the interleaving core do
abbrev pub StepsAreMoves : Type 0
StepsAreMoves = (k : Shape) (s : Shared) → k.tests < 2 ^ 32 → IsKept k s → IsMove k s

abbrev pub RuleInWords : Type 0
RuleInWords = (k : Shape) (s : Shared) → IsKept k s → IsRuled k s
