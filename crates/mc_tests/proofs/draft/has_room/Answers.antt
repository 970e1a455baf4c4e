use Rattle.std.proofs.Common.{◌≡◌, ◌∙◌, ◌+◌, length, map, sym, ap, rules}
use Rattle.std.proofs.lemmas.List.{length-map}
use Rattle.mc_typed.specs.Plans.{expected_outputs, plan_call_of}
use Rattle.mc_tests.specs.Seen.{seen_draft, seen_line}
use Rattle.mc_tests.proofs.Counts.{one_more}
use Rattle.mc_tests.proofs.draft.has_room.Goals as goal

pub returns : goal.returns
returns c = λ fuel.
    let calls_len : c.len.result ≡ length c.args.draft.now.calls.items = search rules in
    let draft_len : c.len-2.result ≡ length c.args.draft.now.inputs.items = search rules in
    let line_len : c.len-3.result ≡ length c.args.line.now.inputs.items = search rules in
    let calls = ap (λ n. n + 1) (calls_len ∙ sym (length-map c.args.draft.now.calls.items plan_call_of)) in
    let inputs = ap (λ n. n + c.len-3.result) draft_len ∙ ap (λ n. length c.args.draft.now.inputs.items + n) line_len in
    let outputs = ap (λ n. n + c.expected.result) c.requires.counted ∙ ap (λ n. expected_outputs (map plan_call_of c.args.draft.now.calls.items) + n) c.expected.ensures in
    c.keeps_limits.ensures ∙ one_more (seen_draft fuel c.args.draft.now) (seen_line c.args.line.now) (c.len.result + 1) (c.len-2.result + c.len-3.result) (c.args.draft.now.outputs + c.expected.result) calls inputs outputs
