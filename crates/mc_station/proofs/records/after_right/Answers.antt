use Rattle.mc_record.specs.Seen.{kept_of}
use Rattle.mc_station.specs.Seen.{seen_accepted}
use Rattle.mc_station.proofs.Kept.{not_joined}
use Rattle.mc_station.proofs.records.after_right.Goals as goal

pub returns-in_err-both-clause-judges : goal.returns-in_err-both-clause-judges
returns-in_err-both-clause-judges c =
    let (is, same) = c.from_residual-in_err-both.ensures in
    not_joined c.args.name.now (seen_accepted c.args.accepted) (kept_of c.args.first) (kept_of c.in_ok-second.field-0) c.args.bytes.now c.in_err-both.field-0.0 c.from_residual-in_err-both.result
    c.in_ok-second.ensures.judges c.in_err-both.ensures.judges is same
