use Rattle.std.proofs.Common.{◌≡◌, ◌∙◌, ◌≤◌, ◌+◌, length, min, rules, sym, ap, arith}
use Rattle.mc_lex.specs.Lines.{line_of}
use Rattle.mc_places.proofs.Halving.{few_lines, line_within}
use Rattle.mc_places.proofs.starts.place_at.Goals as goal

pub overflow_cast-result : goal.overflow_cast-result
overflow_cast-result c =
    let within = c.min-within.result in
    let source = c.args.source.now in
    let same : within ≡ min c.args.at (length source) = search rules in
    let le : within ≤ length source = omega (arith, same) in
    let here : line_of source within ≡ c.line_at-line.result + 1 = c.requires.starts.line c.line_at-line.result within le c.line_at-line.ensures in
    omega (arith, here, few_lines source within, c.requires.short)

pub overflow_add-result : goal.overflow_add-result
overflow_add-result c =
    let within = c.min-within.result in
    let source = c.args.source.now in
    let same : within ≡ min c.args.at (length source) = search rules in
    let le : within ≤ length source = omega (arith, same) in
    let here : line_of source within ≡ c.line_at-line.result + 1 = c.requires.starts.line c.line_at-line.result within le c.line_at-line.ensures in
    omega (arith, here, few_lines source within, c.requires.short)

pub returns-clause-line : goal.returns-clause-line
returns-clause-line c =
    let within = c.min-within.result in
    let source = c.args.source.now in
    let same : within ≡ min c.args.at (length source) = search rules in
    let le : within ≤ length source = omega (arith, same) in
    let here : line_of source within ≡ c.line_at-line.result + 1 = c.requires.starts.line c.line_at-line.result within le c.line_at-line.ensures in
    sym here ∙ ap (line_of source) same ∙ line_within source c.args.at
