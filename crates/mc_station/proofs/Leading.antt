-- How a stage leads to a reply, by what was found of its file.
use Rattle.std.proofs.Common.{◌≡◌, ◌≢◌, ◌≤◌, ℕ, List, length, Option, Some, Result, Ok, Err, refl, sym, subst}
use Rattle.std.specs.Prelude.{IfOk}
use Rattle.std.specs.Result.{IsErr}
use Rattle.std.specs.declared.alloc.AllocError.{AllocError}
use Rattle.mc_port.specs.Store.{Files, HasFile, IsLonger, and_asked}
use Rattle.mc_station.specs.Calls as calls
use Rattle.mc_station.specs.Calls.{Leads, Requests}
use Rattle.station_replies.specs.Files.{File, limit_of, request_of}
use Rattle.station_replies.specs.Reply.{Reply, cannot_read, longer, out_of_memory}
use Rattle.station_replies.specs.Seen.{Gives, IsReplyTo, reply_to}
use Rattle.mc_station.specs.Replied.{outcome_of, seen_reply}
use Rattle.mc_station.specs.Seen.{seen_stage}
use Rattle.station_replies.specs.Status.{IsAnswer}
use Rattle.station_replies.specs.declared.status.Status.TheVariants as status
use Rattle.mc_station.specs.Stages.{Ends, Judges, Stage, file_of}
use Rattle.mc_station.proofs.Ends.{end_answers}
use Rattle.station_replies.specs.declared.stop.Stop.{Stop}
use Rattle.station_replies.specs.declared.stop.Stop.TheVariants as stop
use Rattle.mc_station.specs.declared.reply.Reply.{Reply as Given}

module _ (skipped : List ℕ) (files : Option Files) (s : Stage) (asked : Requests) where
  pub finished : (r : Reply) → Ends skipped s r → Leads skipped files s asked r asked
  finished r ends = calls.answers s asked asked r (calls.finished r ends)

  pub no_memory : (after : Requests) → after ≡ asked → Leads skipped files s asked out_of_memory after
  no_memory after same = subst (λ (a : Requests). Leads skipped files s asked out_of_memory a) (sym same) (calls.fails s asked asked out_of_memory calls.no_memory)

  -- a stage that asks for no file ends, or memory does not suffice
  pub ended : (given : Result Given AllocError) → IfOk given (λ reply. Ends skipped s (seen_reply reply)) → Leads skipped files s asked (outcome_of given) asked
  ended (Ok reply) ends = finished (seen_reply reply) ends
  ended (Err e) ends = no_memory asked refl

-- memory does not suffice before a file is asked for
pub none_given : (skipped : List ℕ) (files : Option Files) (s : Stage) (asked : Requests) (given : Result Given AllocError) → IsErr given → Leads skipped files s asked (outcome_of given) asked
none_given skipped files s asked (Ok reply) is = absurd (cc is)
none_given skipped files s asked (Err e) is = no_memory skipped files s asked asked refl

module _ (skipped : List ℕ) (files : Option Files) (s : Stage) (asked after : Requests) (f : File) (is : Some f ≡ file_of s) (then : after ≡ and_asked asked (request_of f)) where
  at_end : (r : Reply) → Leads skipped files s asked r (and_asked asked (request_of f)) → Leads skipped files s asked r after
  at_end r leads = subst (λ (a : Requests). Leads skipped files s asked r a) (sym then) leads

  -- memory may not suffice for the text of the reply
  pub told : (r : Reply) (given : Result Given AllocError) → IfOk given (λ reply. seen_reply reply ≡ r) → Leads skipped files s asked r (and_asked asked (request_of f)) → Leads skipped files s asked (outcome_of given) after
  told r (Ok reply) same leads = at_end (seen_reply reply) (subst (λ (q : Reply). Leads skipped files s asked q (and_asked asked (request_of f))) (sym same) leads)
  told r (Err e) same leads = at_end (outcome_of (Err e)) (calls.fails s asked _ _ (calls.no_memory_after f (sym is)))

  pub too_long : (given : Result Given AllocError) → IfOk given (λ reply. seen_reply reply ≡ longer f) → IsLonger files f.name (limit_of f.kind) → Leads skipped files s asked (outcome_of given) after
  too_long given same long = told (longer f) given same (calls.answers s asked _ (longer f) (calls.too_long f (sym is) long))

  pub unreadable : (given : Result Given AllocError) → IfOk given (λ reply. seen_reply reply ≡ cannot_read f) → Leads skipped files s asked (outcome_of given) after
  unreadable given same = told (cannot_read f) given same (calls.fails s asked _ (cannot_read f) (calls.unreadable f (sym is)))

  pub refused : (stop : Stop) (bytes : List ℕ) (given : Result Given AllocError) → IfOk given (λ reply. IsReplyTo stop (seen_reply reply)) → HasFile files f.name bytes
      → length bytes ≤ limit_of f.kind → Gives seen_stage (Judges s bytes) (Err stop) → Leads skipped files s asked (outcome_of given) after
  refused (stop.Refused refusal) bytes given same has short judges = told (reply_to refusal) given same (calls.answers s asked _ (reply_to refusal) (calls.refused f bytes (reply_to refusal) (sym is) (has, short) judges))
  refused stop.OutOfMemory bytes (Ok reply) same has short judges = absurd same
  refused stop.OutOfMemory bytes (Err e) same has short judges = at_end out_of_memory (calls.fails s asked _ out_of_memory (calls.no_memory_after f (sym is)))

  pub accepted : (t : Stage) (bytes : List ℕ) (same : Option Files) (r : Reply) (end : Requests) → HasFile files f.name bytes → length bytes ≤ limit_of f.kind → Judges s bytes (Ok t)
      → same ≡ files → Leads skipped same t after r end → Leads skipped files s asked r end
  accepted t bytes same r end has short judges told_same leads =
      calls.accepted s t f bytes asked end r (sym is) (has, short) judges
      (subst (λ (a : Requests). Leads skipped files t a r end) then (subst (λ (fs : Option Files). Leads skipped fs t after r end) told_same leads))

-- a stage that ends gives an answer, or memory does not suffice
pub end_is_read : (skipped : List ℕ) (s : Stage) (given : Result Given AllocError) → IfOk given (λ reply. Ends skipped s (seen_reply reply)) → (outcome_of given).status ≢ status.CannotRead
end_is_read skipped s (Ok reply) ends is = subst IsAnswer is (end_answers skipped s (seen_reply reply) ends)
end_is_read skipped s (Err e) ends is = cc is

pub end_has_texts : (skipped : List ℕ) (s : Stage) (given : Result Given AllocError) → IfOk given (λ reply. Ends skipped s (seen_reply reply)) → IfOk given (λ reply. reply.status ≢ status.OutOfMemory)
end_has_texts skipped s (Ok reply) ends = λ is. subst IsAnswer is (end_answers skipped s (seen_reply reply) ends)
end_has_texts skipped s (Err e) ends = tt
