use Rattle.std.proofs.Common.{◌∙◌, ap, inl, sym}
use Rattle.mc_station.specs.Calls.{call_of}
use Rattle.station_replies.specs.Reply.{out_of_memory}
use Rattle.mc_station.specs.Replied.{seen_reply}
use Rattle.station_replies.specs.Status.{number_of}
use Rattle.station_replies.proofs.Statuses.{is_answer, seven}
use Rattle.mc_station.proofs.Parts.{nothing_put}
use Rattle.mc_station.proofs.Ends.{never_unwritten}
use Rattle.mc_station.proofs.Watching.{same_status}
use Rattle.mc_station.proofs.top.station.Goals as goal

pub returns-in-Ok-put-clause-unwritten : goal.returns-in-Ok-put-clause-unwritten
returns-in-Ok-put-clause-unwritten g c = λ is.
    let status = c.in-Ok.reply.status in
    absurd (never_unwritten _ _ _ _ _ (seen_reply c.in-Ok.reply) c.in-Ok.ensures.leads (seven status (sym c.number.ensures ∙ is)))

pub returns-in-Ok-put-clause-complete : goal.returns-in-Ok-put-clause-complete
returns-in-Ok-put-clause-complete g c = λ reply known calls no_store no_out no_diag.
    let call = call_of c.args.words.now (g.C.Closer.skipped c.args.closer.now) (g.S.Store.state c.args.store.now) in
    let given = seen_reply c.in-Ok.reply in
    let leads = c.in-Ok.ensures.leads in
    let answer = is_answer given.status (λ is. no_store (c.in-Ok.ensures.unreadable is)) (never_unwritten _ _ _ _ _ given leads) c.in-Ok.ensures.texts in
    let same = same_status _ given reply (c.one_reply.ensures call given reply known (answer, (_, _, leads)) calls) in
    inl (c.number.ensures ∙ ap number_of same)

pub returns-clause-told : goal.returns-clause-told
returns-clause-told g c = λ other.
    record {
      reply = out_of_memory;
      leads = c.in-Err.ensures.leads;
      status_is = c.number-in-Err.ensures;
      texts = (nothing_put (g.K.Sink.written c.args.out.now), nothing_put (g.E.Sink.written c.args.diag.now));
    }
