use Rattle.needs_lines.proofs.Rising.{tokens_rise}
use Rattle.needs_lines.proofs.lines.needs_lines.Goals as goal

pub push_asked-requires-clause-tokens : goal.push_asked-requires-clause-tokens
push_asked-requires-clause-tokens c = tokens_rise c.args.report.now.tokens.now c.requires.tokens
