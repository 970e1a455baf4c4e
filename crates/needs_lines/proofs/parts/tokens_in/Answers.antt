use Rattle.std.proofs.Common.{◌-◌, ℕ, List, ltb, length, take, drop, rules}
use Rattle.std.proofs.lemmas.List.Sorted.{IsNonDecreasingBy-drop, IsNonDecreasingBy-take, IsPartitionPoint-from_clause, IsPartitionedBy-ltb}
use Rattle.mc_lex.specs.declared.token.Token.{Token}
use Rattle.needs_lines.proofs.Cutting.{found_in, tail_whole}
use Rattle.needs_lines.proofs.parts.tokens_in.Goals as goal

pub returns : goal.returns
returns c =
    let ts : List Token = c.args.tokens.now in
    let n = c.partition_point-first.result in
    let m = c.partition_point-count.result in
    let later : List Token = take (length ts - n) (drop n ts) in
    let start : Token → ℕ = λ t. t.start in
    let rest = IsNonDecreasingBy-take start (length ts - n) (drop n ts) (IsNonDecreasingBy-drop start n ts c.requires) in
    let first = IsPartitionPoint-from_clause (λ (t : Token). ltb t.start c.args.span.start) ts n c.partition_point-first.ensures.partitioned (IsPartitionedBy-ltb start ts c.args.span.start c.requires) (λ a r q k. search rules) in
    let second = IsPartitionPoint-from_clause (λ (t : Token). ltb t.start c.args.span.«end») later m c.partition_point-count.ensures.partitioned (IsPartitionedBy-ltb start later c.args.span.«end» rest) (λ a r q k. search rules) in
    found_in c.args.span n m ts later (tail_whole n ts c.partition_point-first.ensures.bound) c.partition_point-first.ensures.bound c.partition_point-count.ensures.bound first second
