-- What readers and writers of records leave to the station.
use Rattle.std.proofs.Common.{◌≡◌, ◌≢◌, ◌∙◌, ℕ, List, Option, Some, Result, Ok, Err, sym, subst}
use Rattle.std.specs.Result.{IsErr, IsErrAnd}
use Rattle.mc_record.specs.Kept.{Kept}
use Rattle.mc_record.specs.Seen.{kept_of}
use Rattle.mc_record.specs.declared.fault.RecordFault.{RecordFault}
use Rattle.mc_record.specs.declared.fault.RecordFault.TheVariants as fault
use Rattle.mc_record.specs.declared.kept.Record.{Record}
use Rattle.mc_record.specs.declared.pair_fault.PairFault.{PairFault}
use Rattle.mc_record.specs.declared.pair_fault.PairFault.TheVariants as pair
use Rattle.station_replies.specs.Phases.{Then}
use Rattle.station_replies.specs.Reply.{Reply}
use Rattle.station_replies.specs.Seen.{Gives}
use Rattle.station_replies.specs.declared.stop.Stop.{Stop}
use Rattle.station_replies.proofs.Phases.{goes_on, stops}
use Rattle.mc_station.specs.Ran.{AreTold}
use Rattle.mc_station.specs.Records.{GivesFault, GivesPair, JudgesRecord}
use Rattle.mc_station.specs.Seen.{IsRecordIn, seen_accepted, seen_stage}
use Rattle.mc_station.specs.Source.{Accepted}
use Rattle.mc_station.specs.Stages as stages
use Rattle.mc_station.specs.Stages.{Judges}
use Rattle.mc_station.specs.commands.Analyse.{tested_in}
use Rattle.mc_station.specs.commands.Merge.{Joins}
use Rattle.mc_station.specs.declared.accepted.Accepted.{Accepted as Given}
use Rattle.mc_station.specs.declared.stage.Stage.{Stage}
use Rattle.mc_station.proofs.Named.{names_texts}

-- ---- faults

pub gives_fault : (given : Result Kept RecordFault) (e : RecordFault) → (e ≢ fault.OutOfMemory → given ≡ Err e) → GivesFault given e
gives_fault given (fault.Header line) is = is (λ same. cc same)
gives_fault given (fault.Source line kept source) is = is (λ same. cc same)
gives_fault given (fault.Shape line) is = is (λ same. cc same)
gives_fault given (fault.Word line) is = is (λ same. cc same)
gives_fault given (fault.NameAgain line) is = is (λ same. cc same)
gives_fault given (fault.SpareBit line) is = is (λ same. cc same)
gives_fault given (fault.Ending line) is = is (λ same. cc same)
gives_fault given (fault.OldRules line) is = is (λ same. cc same)
gives_fault given fault.OutOfMemory is = tt

pub gives_pair : (given : Option PairFault) (e : PairFault) → (e ≢ pair.OutOfMemory → given ≡ Some e) → GivesPair given e
gives_pair given (pair.SameTest left right) is = is (λ same. cc same)
gives_pair given (pair.Limit tests) is = is (λ same. cc same)
gives_pair given (pair.TooLarge words) is = is (λ same. cc same)
gives_pair given pair.OutOfMemory is = tt

-- ---- two records that are not joined

pub not_joined : (name : List ℕ) (accepted : Accepted) (first second : Kept) (bytes : List ℕ) (why : Stop) (given : Result Stage Stop)
    → JudgesRecord accepted name bytes (Ok second) → Gives kept_of (Joins first second) (Err why) → IsErr given → IsErrAnd given (λ (e : Stop). e ≡ why)
    → Gives seen_stage (Judges (stages.right name accepted first) bytes) given
not_joined name accepted first second bytes why (Ok s) judges joins is same = absurd (cc is)
not_joined name accepted first second bytes why (Err e) judges joins is same =
    let ends : Kept → Result stages.Stage Reply → Type 0 = λ both v. v ≡ Ok (stages.merged both) in
    subst (λ (w : Stop). Gives seen_stage (Judges (stages.right name accepted first) bytes) (Err w)) (sym same)
    (goes_on seen_stage (JudgesRecord accepted name bytes) (λ k. Then (Joins first k) ends) second (Err why) judges (stops seen_stage kept_of (Joins first second) ends why joins))

-- ---- what a record tells

pub kept_told : (a : Given) (r : Record) → IsRecordIn a r → AreTold (seen_accepted a) r.matrix (tested_in (kept_of r))
kept_told a r is = record {
  shape = λ i. record { bits = is.bits i; tests = sym is.keeps.names i };
  states = is.keeps.states ∙ sym is.keeps.names;
  results = tt;
  texts = names_texts r.names.items is.keeps.named;
}
