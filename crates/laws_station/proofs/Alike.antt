-- Two calls on one source and one file have one content of it.
use Rattle.std.proofs.Common.{◌≡◌, ℕ, false, List, Option, Some, Ok, sym, subst}
use Rattle.mc_command.specs.Command.{Action, Command, command_of}
use Rattle.mc_port.specs.Store.{Files}
use Rattle.mc_record.specs.Kept.{Kept}
use Rattle.mc_typed.specs.Plans.{Plan}
use Rattle.station_replies.specs.Files.{Holds}
use Rattle.station_replies.specs.Reply.{Reply}
use Rattle.mc_station.specs.Calls.{Call}
use Rattle.mc_station.specs.Causes.{RecordIs, SourceIs}
use Rattle.mc_station.specs.Named.{makes_source}
use Rattle.mc_station.specs.Records.{JudgesRecord}
use Rattle.mc_station.specs.Source.{Accepted, JudgesSource}
use Rattle.mc_station.specs.Stages.{record_named, source_named, tests_named}
use Rattle.mc_station.specs.Tests.{JudgesTests}
use Rattle.mc_station.proofs.Contents.{same_bytes}
use Rattle.mc_station.proofs.Joining.{one_record_in}
use Rattle.mc_station.proofs.Naming.{plain_source_of}
use Rattle.mc_station.proofs.Phases.{one_source, one_tests}
use Rattle.laws_station.specs.Texts.{IsOfFiles}
use Rattle.laws_station.proofs.TextsOfFiles.{texts_are_called}
use Rattle.laws_station.specs.Asking.{Asks, Writes}

-- ---- what a call writes

module _ (files : Files) (skipped : List ℕ) (given : Command) (call : Call) (r : Reply) (asks : Asks files skipped given call) where
  abbrev OfFiles : List ℕ → Option Files → Option Command → Type 0
  OfFiles xs fs c = IsOfFiles xs fs c r

  pub of_files : Writes call r → IsOfFiles skipped (Some files) (Some given) r
  of_files writes =
      subst (λ (c : Option Command). OfFiles skipped (Some files) c) asks.command_is
      (subst (λ (fs : Option Files). OfFiles skipped fs (command_of call.words)) asks.files_are
      (subst (λ (xs : List ℕ). OfFiles xs call.files (command_of call.words)) asks.skips ((texts_are_called call r).0 writes)))

  pub writes_of : IsOfFiles skipped (Some files) (Some given) r → Writes call r
  writes_of of =
      (texts_are_called call r).1
      (subst (λ (xs : List ℕ). OfFiles xs call.files (command_of call.words)) (sym asks.skips)
      (subst (λ (fs : Option Files). OfFiles skipped fs (command_of call.words)) (sym asks.files_are)
      (subst (λ (c : Option Command). OfFiles skipped (Some files) c) (sym asks.command_is) of)))

-- ---- files

module _ (files : Files) where
  pub same_accepted : (name : List ℕ) (a b : Action) (x y : Accepted) → makes_source a ≡ false → makes_source b ≡ false → SourceIs (Some files) name a x → SourceIs (Some files) name b y → x ≡ y
  same_accepted name a b x y plain plainly (bytes, holds, judges) (text, also, others) =
      let same : bytes ≡ text = same_bytes files (source_named name) bytes text holds also in
      let first : JudgesSource text (Ok x) = subst (λ (s : List ℕ). JudgesSource s (Ok x)) same (plain_source_of a bytes x plain judges) in
      one_source text (Ok x) (Ok y) first (plain_source_of b text y plainly others)

  -- the tests of a file, with this fuel
  abbrev pub AreTestsOf : (name : List ℕ) → (fuel : ℕ) → Accepted → List Plan → Type 0
  AreTestsOf name fuel accepted plans = (bytes : List ℕ) × Holds (Some files) (tests_named name) bytes × JudgesTests accepted.program fuel bytes (Ok plans)

  -- of these bytes
  pub tests_in : (name : List ℕ) (fuel : ℕ) (accepted : Accepted) (plans : List Plan) (bytes : List ℕ) → Holds (Some files) (tests_named name) bytes → AreTestsOf name fuel accepted plans → JudgesTests accepted.program fuel bytes (Ok plans)
  tests_in name fuel accepted plans bytes holds (text, also, judges) =
      let same : text ≡ bytes = same_bytes files (tests_named name) text bytes also holds in
      subst (λ (s : List ℕ). JudgesTests accepted.program fuel s (Ok plans)) same judges

  pub same_plans : (name : List ℕ) (fuel : ℕ) (accepted : Accepted) (ps qs : List Plan) → AreTestsOf name fuel accepted ps → AreTestsOf name fuel accepted qs → ps ≡ qs
  same_plans name fuel accepted ps qs (bytes, holds, judges) others =
      one_tests accepted.program fuel bytes (Ok ps) (Ok qs) judges (tests_in name fuel accepted qs bytes holds others)

  -- the record that these bytes are
  pub same_record : (name : List ℕ) (accepted : Accepted) (k l : Kept) (bytes : List ℕ) → Holds (Some files) (record_named name) bytes → JudgesRecord accepted name bytes (Ok l) → RecordIs (Some files) name accepted k → k ≡ l
  same_record name accepted k l bytes holds judges (text, also, others) =
      let same : text ≡ bytes = same_bytes files (record_named name) text bytes also holds in
      one_record_in accepted name bytes (Ok k) (Ok l) (subst (λ (s : List ℕ). JudgesRecord accepted name s (Ok k)) same others) judges
