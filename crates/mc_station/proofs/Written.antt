-- A text that is written whole is an answer.
use Rattle.std.proofs.Common.{ℕ, List}
use Rattle.station_replies.specs.Reply.{written}
use Rattle.station_replies.proofs.Phases.{written_answers, written_silent}
use Rattle.mc_station.specs.Laws.{IsLater}

pub written_later : (number : ℕ) (lines : List (List ℕ)) → IsLater (written number lines)
written_later number lines = (written_answers number, written_silent number lines)
