-- The command `adapt`: a source of the language, made of a preprocessed text.
use Rattle.std.specs.Prelude.{◌≡◌, ◌<◌, ◌≤◌, ℕ, List, length, Result, Ok, Err}
use Rattle.adapt_lines.specs.Lines.{refusal_lines}
use Rattle.mc_adapt.specs.Adapted.{Adapts}
use Rattle.mc_adapt.specs.Outside.{Refusal}
use Rattle.mc_limits.specs.Limits.{most_source_bytes}
use Rattle.station_replies.specs.Phases.{Then}
use Rattle.station_replies.specs.Reply.{Reply, refusal, written}
use Rattle.station_replies.specs.Texts.{bytes_line}
use Rattle.station_replies.specs.declared.status.Status.TheVariants.{SourceRefused}
use Rattle.mc_station.specs.Output.{source_pieces}
use Rattle.mc_station.specs.Source.{Accepted}

-- the text that is made, or a line for each thing that stays outside the language
abbrev pub Makes : List ℕ → Result (List ℕ) Reply → Type 0
Makes bytes (Ok text) = Adapts bytes (Ok text)
Makes bytes (Err reply) =
    (outside : List Refusal) × Adapts bytes (Err outside)
    × (reply ≡ refusal SourceRefused (refusal_lines bytes outside))

-- a text that is no longer than a source may be
abbrev pub IsShort : List ℕ → Result (Unit {0}) Reply → Type 0
IsShort text (Ok u) = length text ≤ most_source_bytes
IsShort text (Err reply) =
    (most_source_bytes < length text)
    × (reply ≡ refusal SourceRefused (bytes_line (length text)))

-- the source that is made, or why there is none
abbrev pub MakesSource : List ℕ → Result (List ℕ) Reply → Type 0
MakesSource bytes = Then (Makes bytes) (λ text. Then (IsShort text) (λ u v. v ≡ Ok text))

-- once it is accepted as a source, it is written, as one piece
abbrev pub WritesSource : Accepted → Reply → Type 0
WritesSource accepted reply = reply ≡ written 0 (source_pieces accepted.source)
