-- What is taken of a file's bytes, and judged in their place.
use Rattle.std.proofs.Common.{◌≡◌, ◌≤◌, ℕ, Bool, true, false, List, length, Result, Ok, Err, refl, subst, inl, inr}
use Rattle.std.specs.Prelude.{IfOk, Vec}
use Rattle.std.specs.declared.alloc.Global.{Global}
use Rattle.mc_limits.specs.Limits.{most_source_bytes}
use Rattle.station_replies.specs.Files.{File, limit_of}
use Rattle.station_replies.specs.Seen.{Gives}
use Rattle.station_replies.specs.declared.stop.Stop.{Stop}
use Rattle.station_replies.specs.declared.stop.Stop.TheVariants as stop
use Rattle.mc_station.specs.Seen.{seen_stage}
use Rattle.mc_station.specs.Stages as stages
use Rattle.mc_station.specs.Stages.{AsksUpTo, Judges, Stage}
use Rattle.mc_station.specs.Taken.{JudgesAt, TakesAt, makes_at}
use Rattle.mc_station.specs.declared.stage.Stage.{Stage as Given}

-- the bytes themselves are judged
as_they_are : (s : Stage) (bytes text : List ℕ) (r : Result Given Stop) → text ≡ bytes → Gives seen_stage (Judges s text) r → Gives seen_stage (Judges s bytes) r
as_they_are s bytes text r same judges = subst (λ (b : List ℕ). Gives seen_stage (Judges s b) r) same judges

-- what is judged in place of the bytes is what is judged of them
pub taken_then : (s : Stage) (bytes text : List ℕ) (r : Result Given Stop) → TakesAt s bytes (Ok text) → Gives seen_stage (JudgesAt s text) r → Gives seen_stage (Judges s bytes) r
taken_then stages.usage bytes text r is judges = as_they_are stages.usage bytes text r (cc is) judges
taken_then (stages.source name action) bytes text (Ok t) takes (accepted, judged, next) = (accepted, (text, takes, judged), next)
taken_then (stages.source name action) bytes text (Err (stop.Refused why)) takes (inl judged) = inl (inr (text, takes, judged))
taken_then (stages.source name action) bytes text (Err (stop.Refused why)) takes (inr (accepted, judged, next)) = inr (accepted, (text, takes, judged), next)
taken_then (stages.source name action) bytes text (Err stop.OutOfMemory) takes judges = tt
taken_then (stages.writes kind accepted) bytes text r is judges = as_they_are (stages.writes kind accepted) bytes text r (cc is) judges
taken_then (stages.tests run accepted) bytes text r is judges = as_they_are (stages.tests run accepted) bytes text r (cc is) judges
taken_then (stages.left name other accepted) bytes text r is judges = as_they_are (stages.left name other accepted) bytes text r (cc is) judges
taken_then (stages.right name accepted first) bytes text r is judges = as_they_are (stages.right name accepted first) bytes text r (cc is) judges
taken_then (stages.kept name judging accepted) bytes text r is judges = as_they_are (stages.kept name judging accepted) bytes text r (cc is) judges
taken_then (stages.reasons name accepted basis) bytes text r is judges = as_they_are (stages.reasons name accepted basis) bytes text r (cc is) judges
taken_then (stages.last accepted basis js) bytes text r is judges = as_they_are (stages.last accepted basis js) bytes text r (cc is) judges
taken_then (stages.merged both) bytes text r is judges = as_they_are (stages.merged both) bytes text r (cc is) judges
taken_then (stages.load count workers) bytes text r is judges = as_they_are (stages.load count workers) bytes text r (cc is) judges

-- where nothing is taken, the bytes are refused
pub refused_then : (s : Stage) (bytes : List ℕ) (why : Stop) → Gives (λ (text : Vec ℕ Global). text.items) (TakesAt s bytes) (Err why) → Gives seen_stage (Judges s bytes) (Err why)
refused_then s bytes stop.OutOfMemory takes = tt
refused_then (stages.source name action) bytes (stop.Refused why) takes = inl (inl takes)
refused_then stages.usage bytes (stop.Refused why) is = absurd (cc is)
refused_then (stages.writes kind accepted) bytes (stop.Refused why) is = absurd (cc is)
refused_then (stages.tests run accepted) bytes (stop.Refused why) is = absurd (cc is)
refused_then (stages.left name other accepted) bytes (stop.Refused why) is = absurd (cc is)
refused_then (stages.right name accepted first) bytes (stop.Refused why) is = absurd (cc is)
refused_then (stages.kept name judging accepted) bytes (stop.Refused why) is = absurd (cc is)
refused_then (stages.reasons name accepted basis) bytes (stop.Refused why) is = absurd (cc is)
refused_then (stages.last accepted basis js) bytes (stop.Refused why) is = absurd (cc is)
refused_then (stages.merged both) bytes (stop.Refused why) is = absurd (cc is)
refused_then (stages.load count workers) bytes (stop.Refused why) is = absurd (cc is)

-- a source that is made is as short as a source may be
pub asks_up_to : (s : Stage) (n : ℕ) → makes_at s ≡ true → n ≤ most_source_bytes → AsksUpTo s n
asks_up_to (stages.source name action) n made short = (stages.source_named name, refl, short)
asks_up_to stages.usage n made short = absurd (cc made)
asks_up_to (stages.writes kind accepted) n made short = absurd (cc made)
asks_up_to (stages.tests run accepted) n made short = absurd (cc made)
asks_up_to (stages.left name other accepted) n made short = absurd (cc made)
asks_up_to (stages.right name accepted first) n made short = absurd (cc made)
asks_up_to (stages.kept name judging accepted) n made short = absurd (cc made)
asks_up_to (stages.reasons name accepted basis) n made short = absurd (cc made)
asks_up_to (stages.last accepted basis js) n made short = absurd (cc made)
asks_up_to (stages.merged both) n made short = absurd (cc made)
asks_up_to (stages.load count workers) n made short = absurd (cc made)

-- and so are the bytes of which it is made
pub made_up_to : (s : Stage) (n : ℕ) → makes_at s ≡ true → AsksUpTo s n → n ≤ most_source_bytes
made_up_to (stages.source name action) n made (file, is, short) =
    let same : file ≡ stages.source_named name = cc is in subst (λ (f : File). n ≤ limit_of f.kind) same short
made_up_to stages.usage n made asks = absurd (cc made)
made_up_to (stages.writes kind accepted) n made asks = absurd (cc made)
made_up_to (stages.tests run accepted) n made asks = absurd (cc made)
made_up_to (stages.left name other accepted) n made asks = absurd (cc made)
made_up_to (stages.right name accepted first) n made asks = absurd (cc made)
made_up_to (stages.kept name judging accepted) n made asks = absurd (cc made)
made_up_to (stages.reasons name accepted basis) n made asks = absurd (cc made)
made_up_to (stages.last accepted basis js) n made asks = absurd (cc made)
made_up_to (stages.merged both) n made asks = absurd (cc made)
made_up_to (stages.load count workers) n made asks = absurd (cc made)
