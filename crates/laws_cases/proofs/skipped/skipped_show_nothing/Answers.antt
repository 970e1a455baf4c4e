use Rattle.laws_cases.proofs.SkippedTests.{first_is_not_skipped, skipped_show_nothing}
use Rattle.laws_cases.proofs.skipped.skipped_show_nothing.Goals as goal

pub returns-clause-all : goal.returns-clause-all
returns-clause-all c = skipped_show_nothing

pub returns-clause-two : goal.returns-clause-two
returns-clause-two c = first_is_not_skipped
