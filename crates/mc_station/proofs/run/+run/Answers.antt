use Rattle.std.proofs.Common.{◌-◌, ℕ, List, Err, ap, arith, drop, length, length-drop, subst, take_all}
use Rattle.station_replies.specs.Seen.{Gives, seen_file}
use Rattle.mc_station.specs.Replied.{outcome_of}
use Rattle.mc_station.specs.Seen.{seen_stage}
use Rattle.mc_station.specs.Stages.{Judges}
use Rattle.mc_station.proofs.Leading.{accepted, ended, no_memory, refused, too_long, unreadable}
use Rattle.mc_station.proofs.Leading.{end_has_texts, end_is_read}
use Rattle.mc_station.proofs.Order.{fewer}
use Rattle.mc_station.proofs.run.+run.Goals as goal

pub returns-in_default-clause-leads : goal.returns-in_default-clause-leads
returns-in_default-clause-leads g t c =
    let old = g.S.Store.state c.args.store.now in
    ended (g.C.Closer.skipped c.args.means.closer.now) old.contents (seen_stage c.args.stage) old.asked c.end.result c.end.ensures

pub returns-in_default-clause-unreadable : goal.returns-in_default-clause-unreadable
returns-in_default-clause-unreadable g t c = λ is. absurd (end_is_read (g.C.Closer.skipped c.args.means.closer.now) (seen_stage c.args.stage) c.end.result c.end.ensures is)

pub returns-in_default-clause-texts : goal.returns-in_default-clause-texts
returns-in_default-clause-texts g t c = end_has_texts (g.C.Closer.skipped c.args.means.closer.now) (seen_stage c.args.stage) c.end.result c.end.ensures

pub returns-in-Ok-accept-clause-leads : goal.returns-in-Ok-accept-clause-leads
returns-in-Ok-accept-clause-leads g t c =
    let old = g.S.Store.state c.args.store.now in
    let new = g.S.Store.state c.load.new.self in
    let next = c.in-Some.ensures in
    let asked = rw c.limit.ensures at c.in-Ok.ensures.asked in
    let loads = rw c.limit.ensures at c.in-Ok.ensures.bytes in
    let judges = c.in-Ok-accept.ensures.judges in
    accepted (g.C.Closer.skipped c.args.means.closer.now) old.contents (seen_stage c.args.stage) old.asked new.asked (seen_file c.in-Some.file) next asked (seen_stage c.in-Ok-accept.stage) c.in-Ok.bytes.items new.contents
    (outcome_of c.run.result) _ loads.1 loads.0 judges c.load.ensures.contents c.run.ensures.leads

pub returns-in-Err-clause-leads : goal.returns-in-Err-clause-leads
returns-in-Err-clause-leads g t c =
    let old = g.S.Store.state c.args.store.now in
    let new = g.S.Store.state c.load.new.self in
    let next = c.in-Some.ensures in
    let asked = rw c.limit.ensures at c.in-Ok.ensures.asked in
    let loads = rw c.limit.ensures at c.in-Ok.ensures.bytes in
    let judges = c.in-Err.ensures.judges in
    refused (g.C.Closer.skipped c.args.means.closer.now) old.contents (seen_stage c.args.stage) old.asked new.asked (seen_file c.in-Some.file) next asked c.in-Err.stop c.in-Ok.bytes.items c.of_stop.result
    c.of_stop.ensures loads.1 loads.0 judges

pub returns-in-Err-TooLong-clause-leads : goal.returns-in-Err-TooLong-clause-leads
returns-in-Err-TooLong-clause-leads g t c =
    let old = g.S.Store.state c.args.store.now in
    let new = g.S.Store.state c.load.new.self in
    let next = c.in-Some.ensures in
    let asked = rw (c.in-Err-TooLong.field-0-is, c.limit.ensures) at c.in-Err-TooLong.ensures.asked in
    let loads = rw (c.in-Err-TooLong.field-0-is, c.limit.ensures) at c.in-Err-TooLong.ensures.bytes in
    too_long (g.C.Closer.skipped c.args.means.closer.now) old.contents (seen_stage c.args.stage) old.asked new.asked (seen_file c.in-Some.file) next asked c.of_refusal.result c.of_refusal.ensures loads.1

pub returns-in-Err-Failed-clause-leads : goal.returns-in-Err-Failed-clause-leads
returns-in-Err-Failed-clause-leads g t c =
    let old = g.S.Store.state c.args.store.now in
    let new = g.S.Store.state c.load.new.self in
    let next = c.in-Some.ensures in
    let asked = rw (c.in-Err-Failed.field-0-is, c.limit.ensures) at c.in-Err-Failed.ensures.asked in
    unreadable (g.C.Closer.skipped c.args.means.closer.now) old.contents (seen_stage c.args.stage) old.asked new.asked (seen_file c.in-Some.file) next asked c.of_unreadable.result c.of_unreadable.ensures

pub returns-in-Err-OutOfMemory-clause-leads : goal.returns-in-Err-OutOfMemory-clause-leads
returns-in-Err-OutOfMemory-clause-leads g t c =
    let old = g.S.Store.state c.args.store.now in
    let new = g.S.Store.state c.load.new.self in
    let asked = rw c.in-Err-OutOfMemory.field-0-is at c.in-Err-OutOfMemory.ensures.asked in
    no_memory (g.C.Closer.skipped c.args.means.closer.now) old.contents (seen_stage c.args.stage) old.asked new.asked asked

pub run-requires-clause-room : goal.run-requires-clause-room
run-requires-clause-room g t c κs within =
    let slots = c.args.slots.now in
    let judges = c.in-Ok-accept.ensures.judges in
    let less = fewer (seen_stage c.args.stage) (seen_stage c.in-Ok-accept.stage) c.in-Ok.bytes.items judges in
    let room = c.requires.room in
    let rest = length-drop 1 slots in
    let same = ap length (take_all (length slots - 1) (drop 1 slots) (omega (arith, rest))) in
    omega (arith, less, room, rest, same)
