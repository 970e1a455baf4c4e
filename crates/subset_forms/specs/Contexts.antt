-- What a part of a node has to know, from what the node knows.
use Rattle.subset_forms.specs.declared.context.Role.{Role}
use Rattle.subset_forms.specs.declared.context.Role.TheVariants as role
use Rattle.subset_forms.specs.declared.context.Standing.{Standing}
use Rattle.subset_forms.specs.declared.context.Standing.TheVariants as standing

-- the commas of a part of a `for` stand between its clauses; other expressions have parts
abbrev pub role_of_operands : Role → Role
role_of_operands role.ForPart = role.Clause
role_of_operands _ = role.Part

-- an expression in parentheses is a part of them, wherever they stand (C17 6.5.1)
abbrev pub role_in_parentheses : Role → Role
role_in_parentheses r = role.Part

-- where the items of a compound statement stand that stands here itself
abbrev pub standing_of_items : Standing → Standing
standing_of_items standing.Body = standing.BeforeLabels
standing_of_items _ = standing.Elsewhere

-- the first label of a `switch` stands among the labels, and so does what follows it
abbrev pub standing_of_label : Standing → Standing
standing_of_label standing.BeforeLabels = standing.AmongLabels
standing_of_label w = w
