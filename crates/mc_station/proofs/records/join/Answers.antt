use Rattle.mc_record.specs.Merged.{pair_fault}
use Rattle.mc_record.specs.Seen.{kept_of}
use Rattle.mc_station.proofs.Kept.{gives_pair}
use Rattle.mc_station.proofs.records.join.Goals as goal

pub returns-in-Err-clause-judges : goal.returns-in-Err-clause-judges
returns-in-Err-clause-judges c =
    let left = kept_of c.args.left.now in
    let right = kept_of c.args.right.now in
    c.pair_stop.ensures left right (gives_pair (pair_fault left right) c.in-Err.fault c.in-Err.ensures.fault)
