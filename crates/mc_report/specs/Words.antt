-- The words of a report, and how numbers are written in it.
use Rattle.std.specs.Prelude.{ℕ, List, codes}
use Rattle.report_options.specs.declared.mode.Mode.{Mode}
use Rattle.report_options.specs.declared.mode.Mode.TheVariants.{Unique, Masking}
use Rattle.mc_oblige.specs.declared.verdict.VerdictState.{VerdictState}
use Rattle.mc_oblige.specs.declared.verdict.VerdictState.TheVariants.{Met, Justified, Stale, Missing}
pub use Rattle.evidence_texts.specs.Words.{answer_byte, truth_byte, vector_text}
pub use Rattle.mc_oblige.specs.Ids.{id_text}
pub use Rattle.report_words.specs.Hexadecimal.{hexadecimal}
pub use Rattle.report_words.specs.Words.{state_word}
pub use Rattle.told_lines.specs.Values.{newline, number_text, value_text}

abbrev pub mode_word : Mode → List ℕ
mode_word Unique = codes "unique"
mode_word Masking = codes "masking"

abbrev pub verdict_word : VerdictState → List ℕ
verdict_word Met = codes "met"
verdict_word Justified = codes "justified"
verdict_word Stale = codes "stale"
verdict_word Missing = codes "missing"
