use Rattle.laws_cases.proofs.Rows.{assignment_is_no_sum, long_is_not_int, sum_is_no_choice, sum_is_no_difference, wrong_row_is_none}
use Rattle.laws_cases.proofs.type_tables.wrong_rows_are_none.Goals as goal

pub returns-clause-words : goal.returns-clause-words
returns-clause-words c = long_is_not_int

pub returns-clause-assignments : goal.returns-clause-assignments
returns-clause-assignments c = sum_is_no_difference

pub returns-clause-operands : goal.returns-clause-operands
returns-clause-operands c = sum_is_no_choice

pub returns-clause-assigned : goal.returns-clause-assigned
returns-clause-assigned c = assignment_is_no_sum

pub returns-clause-rows : goal.returns-clause-rows
returns-clause-rows c = wrong_row_is_none
