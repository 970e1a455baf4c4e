use Rattle.std.proofs.Common.{◌≡◌, ◌∙◌, ◌∷◌, ◌++◌, [], sym, subst, ap, Some, if◌then◌else◌, length, rules}
use Rattle.std.specs.Str.{bytes_eq}
use Rattle.name_table.specs.Latest.{place_of}
use Rattle.name_table.specs.Indexed.{IsIndexed}
use Rattle.name_table.specs.declared.table.Entry.{Entry}
use Rattle.name_table.proofs.Kept.{indexed_more}
use Rattle.name_table.proofs.table.Table.push.Goals as goal

pub invariant_of-self-2 : goal.invariant_of-self-2
invariant_of-self-2 g c =
    let old = c.self.inside.entries.items in
    let e : Entry g.row.M.Denot = record { name = c.args.name; meaning = c.args.meaning; before = c.in_ok-before.before } in
    let count : c.len-place.result ≡ length old = search rules in
    let h = indexed_more old e c.self.inside.latest c.insert.new.self c.self.invariant c.in_ok-before.ensures.before
    (λ q. c.in_ok-before.ensures.ok q ∙ ap (λ n. if bytes_eq c.args.name.now q then Some n else place_of c.self.inside.latest q) count) in
    subst (λ es. IsIndexed es c.insert.new.self) (sym (c.push_reserved.ensures.items ∙ ap (λ es. es ++ e ∷ []) c.in_ok-reserve.ensures.items)) h
