-- What a call leaves on the sinks, where it says nothing there.
use Rattle.std.proofs.Common.{◌≡◌, ◌≢◌, ◌∙◌, ◌⊎◌, ℕ, zero, suc, List, [], take, Option, refl, sym, ap, subst, inl, inr, arith}
use Rattle.std.specs.Io.KnownBytes.{Appends}
use Rattle.std.specs.List.{concat}
use Rattle.mc_command.specs.Command.{Command, command_of}
use Rattle.mc_port.specs.Sink.{AppendsPart}
use Rattle.mc_port.specs.Store.{Files}
use Rattle.station_replies.specs.Phases.{IsSilent}
use Rattle.station_replies.specs.Reply.{Reply, out_of_memory}
use Rattle.station_replies.specs.Status.{number_of}
use Rattle.station_replies.specs.declared.status.Status.{Status}
use Rattle.station_replies.specs.declared.status.Status.TheVariants as status
use Rattle.mc_station.specs.Causes.{Cause, IsOfText}
use Rattle.mc_station.specs.Statuses.{MemoryWritesNothing, PartsWriteNothing, RefusalsWriteNothing}
use Rattle.mc_station.proofs.Causes.{statuses_have_causes}
use Rattle.mc_station.proofs.Ends.{refusals_are_silent}

nothing : (r : Reply) (n : ℕ) (out after : Option (List ℕ)) → n ≡ number_of r.status → Appends out after (concat r.out) → n ≢ 0 → n ≢ 1 → IsSilent r → Appends out after []
nothing r n out after is puts not_done not_incomplete (inl done) = absurd (not_done (is ∙ ap number_of done))
nothing r n out after is puts not_done not_incomplete (inr (inl incomplete)) = absurd (not_incomplete (is ∙ ap number_of incomplete))
nothing r n out after is puts not_done not_incomplete (inr (inr none)) = subst (λ (lines : List (List ℕ)). Appends out after (concat lines)) none puts

pub refusals_write_nothing : RefusalsWriteNothing
refusals_write_nothing call n asked after out out_after diag diag_after told not_done not_incomplete =
    nothing told.reply n out out_after told.status_is told.texts.0 not_done not_incomplete (refusals_are_silent call asked after told.reply told.leads)

take_empty : (n : ℕ) (bytes : List ℕ) → bytes ≡ [] → take n bytes ≡ []
take_empty zero bytes is = refl
take_empty (suc n) bytes is = ap (take (suc n)) is

part : (r : Reply) (out after : Option (List ℕ)) → AppendsPart out after (concat r.out) → r.status ≢ status.Done → r.status ≢ status.Incomplete → IsSilent r → Appends out after []
part r out after puts not_done not_incomplete (inl done) = absurd (not_done done)
part r out after puts not_done not_incomplete (inr (inl incomplete)) = absurd (not_incomplete incomplete)
part r out after (n, puts) not_done not_incomplete (inr (inr none)) =
    subst (λ (bytes : List ℕ). Appends out after bytes) (take_empty n (concat r.out) (ap concat none)) puts

pub parts_write_nothing : PartsWriteNothing
parts_write_nothing call store after out out_after diag diag_after told not_done not_incomplete =
    part told.reply out out_after told.texts.0 not_done not_incomplete (refusals_are_silent call store.asked after.asked told.reply told.leads)

eight : (s : Status) → number_of s ≡ 8 → s ≡ status.OutOfMemory
eight status.Done is = absurd (omega arith)
eight status.Incomplete is = absurd (omega arith)
eight status.NoCommand is = absurd (omega arith)
eight status.SourceRefused is = absurd (omega arith)
eight status.TestsRefused is = absurd (omega arith)
eight status.JustificationsRefused is = absurd (omega arith)
eight status.CannotRead is = absurd (omega arith)
eight status.CannotWrite is = absurd (omega arith)
eight status.OutOfMemory is = refl
eight status.TooLarge is = absurd (omega arith)
eight status.TooManyMutants is = absurd (omega arith)

is_memory : (files : Option Files) (given : Option Command) (r : Reply) → r.status ≡ status.OutOfMemory → IsOfText r.status ⊎ Cause files given r r.status → r ≡ out_of_memory
is_memory files given r wanted (inl text) = absurd (subst IsOfText wanted text)
is_memory files given r wanted (inr cause) = subst (λ (s : Status). Cause files given r s) wanted cause

pub memory_writes_nothing : MemoryWritesNothing
memory_writes_nothing call n asked after out out_after diag diag_after told is =
    let r = told.reply in
    let wanted : r.status ≡ status.OutOfMemory = eight r.status (sym told.status_is ∙ is) in
    subst (λ (x : Reply). Appends diag diag_after x.diag) (is_memory call.files (command_of call.words) r wanted (statuses_have_causes call asked after r told.leads)) told.texts.1
