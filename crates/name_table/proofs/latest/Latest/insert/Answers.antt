use Rattle.std.proofs.Common.{◌≡◌, ◌∙◌, Some, sym, ap, if◌then◌else◌}
use Rattle.std.specs.Str.{bytes_eq}
use Rattle.std.specs.BTreeMap.{get, get_by}
use Rattle.std.specs.Ordering.{nat_cmp}
use Rattle.std.specs.Cmp.Lexicographic.{slice_cmp}
use Rattle.std.proofs.lemmas.Map.Text.{is_eq-slice_cmp}
use Rattle.name_table.specs.Latest.{is_named, first_of, other_of}
use Rattle.name_table.proofs.Settled.{set_back, settle_other}
use Rattle.name_table.proofs.latest.Latest.insert.Goals as goal

pub returns-in_ok-before-in-Some-clause-ok : goal.returns-in_ok-before-in-Some-clause-ok
returns-in_ok-before-in-Some-clause-ok c =
    let name = c.args.name.now in
    let had : Some c.in-Some.first ≡ first_of c.args.self.now c.hash-hash.result = sym c.in-Some.is ∙ c.in_ok-first.ensures.old in
    settle_other name (first_of c.args.self.now) (first_of c.put_first.new.self) (other_of c.args.self.now)
    (λ q. get_by (λ k. slice_cmp nat_cmp q k.now) c.insert-else-is.new.self) (Some c.args.place)
    (set_back (first_of c.args.self.now) (get nat_cmp c.insert.new.self) (first_of c.put_first.new.self) c.hash-hash.result
    (Some (record { name = c.args.name; place = c.args.place })) (Some c.in-Some.first) c.in_ok-first.ensures.updates.0 c.put_first.ensures.first had)
    (ap (λ n. is_named (first_of c.args.self.now n) name) (sym c.hash-hash.ensures) ∙ ap (λ s. is_named s name) (sym had) ∙ sym c.is.ensures ∙ c.if-is.false)
    (λ q. rw (is_eq-slice_cmp name q) at (c.in_ok-before-in-Some.ensures.updates.0 (record { ref_ptr = (0, 0); now = q }))
    ∙ ap (λ m. if bytes_eq name q then Some c.args.place else get_by (λ k. slice_cmp nat_cmp q k.now) m) c.put_first.ensures.others)
