use Rattle.reread_law_printed.proofs.Spelled.Example.{words_mean, the_kinds, the_text, the_tokens, the_scan}
use Rattle.reread_law_printed.proofs.laws.spelled.worked_text.Goals as goal

pub returns-clause-words : goal.returns-clause-words
returns-clause-words c = words_mean

pub returns-clause-kinds : goal.returns-clause-kinds
returns-clause-kinds c = the_kinds

pub returns-clause-text : goal.returns-clause-text
returns-clause-text c = the_text

pub returns-clause-tokens : goal.returns-clause-tokens
returns-clause-tokens c = the_tokens

pub returns-clause-scan : goal.returns-clause-scan
returns-clause-scan c = the_scan
