use Rattle.std.proofs.Common.{◌≡◌, List, length, map, sym, ap, subst, ◌∙◌, arith}
use Rattle.std.proofs.lemmas.List.{length-map}
use Rattle.mc_probe.specs.BitMaps.{map_of}
use Rattle.mc_oblige.specs.declared.verdict.Verdict.{Verdict}
use Rattle.mc_oblige.specs.Obligations.{obligations_of}
use Rattle.mc_oblige.specs.Shown.{HasEvent}
use Rattle.mc_oblige.specs.Verdicts.{AreVerdicts}
use Rattle.mc_oblige.specs.steps.Named.{unnamed, all_named}
use Rattle.mc_oblige.proofs.Naming.{evidence_count, verdicts}
use Rattle.mc_oblige.proofs.judging.judge.Goals as goal

pub justify_all-requires : goal.justify_all-requires
justify_all-requires c =
    let m = map_of c.args.map.now in
    let found = c.in_ok-found.found.items in
    let n : length c.in_ok-verdicts.verdicts.items ≡ length (obligations_of m) =
    ap length c.in_ok-verdicts.ensures
    ∙ ap (λ es. length (map unnamed es)) c.deref.ensures.value
    ∙ length-map found unnamed
    ∙ evidence_count (HasEvent m c.args.matrix.now) m c.args.mode (obligations_of m) found c.in_ok-found.ensures in
    λ k d lt. omega (arith, n, c.requires.positions k d lt)

pub returns : goal.returns
returns c =
    let m = map_of c.args.map.now in
    let found = c.in_ok-found.found.items in
    let js = c.args.justified.now in
    let items : c.justify_all.new.verdicts.items ≡ all_named (map unnamed found) js =
    c.in_ok-justify_all.ensures
    ∙ ap (λ vs. all_named vs js) (c.in_ok-verdicts.ensures ∙ ap (λ es. map unnamed es) c.deref.ensures.value) in
    let P : List Verdict → Type 0 = λ vs. AreVerdicts (HasEvent m c.args.matrix.now) m c.args.mode js vs in
    subst P (sym items) (verdicts (HasEvent m c.args.matrix.now) m c.args.mode js (obligations_of m) found c.requires.once c.in_ok-found.ensures)
