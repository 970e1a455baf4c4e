use Rattle.std.proofs.Common.{◌≡◌, ◌∙◌, ℕ, true, None, sym, ap, subst, cond}
use Rattle.std.specs.BTreeMap.{is_at, get, get_by}
use Rattle.std.specs.Ordering.{nat_cmp}
use Rattle.std.specs.Cmp.Lexicographic.{slice_cmp}
use Rattle.std.proofs.lemmas.Map.Text.{is_eq-slice_cmp}
use Rattle.name_table.specs.Latest.{is_named, first_of, other_of}
use Rattle.name_table.proofs.Settled.{free_none, free_named, settle_first}
use Rattle.name_table.proofs.latest.Latest.restore_first.Goals as goal

pub returns-in-None : goal.returns-in-None
returns-in-None c =
    let name = c.args.name.now in
    settle_first name (first_of c.args.self.now) (get nat_cmp c.remove.new.self) (other_of c.args.self.now)
    (λ q. get_by (λ k. slice_cmp nat_cmp q k.now) c.remove-in-None.new.self) None c.args.before
    (subst (λ h. (n : ℕ) → get nat_cmp c.remove.new.self n ≡ cond (is_at (nat_cmp h) n) None (first_of c.args.self.now n))
    c.requires.hash c.remove.ensures.updates.0)
    (free_named name _ (subst (λ h. is_named (first_of c.args.self.now h) name ≡ true) c.requires.hash c.requires.first))
    (free_none name)
    (c.remove-in-None.ensures.updates.1 ∙ sym c.in-None.is)
    (λ q apart. rw (is_eq-slice_cmp name q) at (c.remove-in-None.ensures.updates.0 (record { ref_ptr = (0, 0); now = q }))
    ∙ ap (λ b. cond b None (other_of c.args.self.now q)) apart)
