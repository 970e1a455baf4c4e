use Rattle.std.proofs.Common.{◌≡◌, ◌∙◌, List, Ok, ℕ, subst}
use Rattle.sha2.specs.Sha256.{sha256}
use Rattle.mc_record.specs.Reading.{record_of}
use Rattle.mc_record.specs.Seen.{kept_of}
use Rattle.mc_record.proofs.Accepted.{record_is_of}
use Rattle.mc_station.specs.Seen.{seen_accepted}
use Rattle.mc_station.proofs.Kept.{gives_fault}
use Rattle.mc_station.proofs.Older.{refused_by}
use Rattle.mc_station.proofs.records.judge_record.Goals as goal

pub returns-in-Ok-clause-judges : goal.returns-in-Ok-clause-judges
returns-in-Ok-clause-judges c =
    let rules = c.has_old_bits-old_rules in
    (rules.result, rules.ensures, subst (λ (d : List ℕ). record_of d c.args.accepted.now.map.bits rules.result c.args.bytes.now ≡ Ok (kept_of c.in-Ok.record)) c.digest_of-digest.ensures c.in-Ok.ensures.read)

pub returns-in-Ok-clause-of_source : goal.returns-in-Ok-clause-of_source
returns-in-Ok-clause-of_source c =
    let of = record_is_of c.digest_of-digest.result c.args.accepted.now.map.bits c.has_old_bits-old_rules.result c.args.bytes.now (kept_of c.in-Ok.record) c.in-Ok.ensures.read in
    record { keeps = c.in-Ok.ensures.kept; digest = of.0 ∙ c.digest_of-digest.ensures; bits = of.1 }

pub returns-in-Err-clause-judges : goal.returns-in-Err-clause-judges
returns-in-Err-clause-judges c =
    let rules = c.has_old_bits-old_rules.result in
    let given = record_of (sha256 c.args.accepted.now.source.now) c.args.accepted.now.map.bits rules c.args.bytes.now in
    refused_by (seen_accepted c.args.accepted.now) c.args.name.now c.args.bytes.now rules c.stop_of.result c.has_old_bits-old_rules.ensures
    (c.stop_of.ensures given (gives_fault given c.in-Err.fault (rw c.digest_of-digest.ensures at c.in-Err.ensures.fault)))
