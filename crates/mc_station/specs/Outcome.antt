-- What the top call leaves.
use Rattle.std.specs.Prelude.{◌≡◌, ◌≢◌, ℕ, List, Option}
use Rattle.std.specs.List.{concat}
use Rattle.std.specs.Io.KnownBytes.{Appends}
use Rattle.mc_port.specs.Causes.{Rose}
use Rattle.mc_port.specs.Sink.{AppendsPart}
use Rattle.mc_port.specs.Store.{State}
use Rattle.mc_station.specs.Calls.{Call, LeadsTo, Requests}
use Rattle.station_replies.specs.Reply.{Reply}
use Rattle.station_replies.specs.Status.{number_of}
use Rattle.station_replies.specs.declared.status.Status.TheVariants.{CannotRead, OutOfMemory}

-- the texts of a reply were put whole
abbrev pub PutWhole : Reply → (out out_after diag diag_after : Option (List ℕ)) → Type 0
PutWhole reply out out_after diag diag_after =
    Appends out out_after (concat reply.out) × Appends diag diag_after reply.diag

-- first parts of them were put
abbrev pub PutPart : Reply → (out out_after diag diag_after : Option (List ℕ)) → Type 0
PutPart reply out out_after diag diag_after =
    AppendsPart out out_after (concat reply.out) × AppendsPart diag diag_after reply.diag

-- the call leads to a reply: the status is its status, the store was asked for what it stands on,
-- and its texts were put whole
pub record Told (call : Call) (status : ℕ) (asked after : Requests)
    (out out_after diag diag_after : Option (List ℕ)) : Type 0 where
  pub reply : Reply
  pub leads : LeadsTo call asked reply after
  pub status_is : status ≡ number_of reply.status
  pub texts : PutWhole reply out out_after diag diag_after

-- the call leads to a reply with texts: the store was asked for what it stands on, it failed in
-- this call where the reply says that a file cannot be read, and first parts of the texts were put
pub record ToldPart (call : Call) (store after : State)
    (out out_after diag diag_after : Option (List ℕ)) : Type 0 where
  pub reply : Reply
  pub leads : LeadsTo call store.asked reply after.asked
  pub some : reply.status ≢ OutOfMemory
  pub unreadable : reply.status ≡ CannotRead → Rose store.faults after.faults
  pub texts : PutPart reply out out_after diag diag_after
