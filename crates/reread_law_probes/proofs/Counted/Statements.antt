-- The bits of the statements of an instrumented program.
use Rattle.std.proofs.Common.{◌≡◌, refl, subst, ℕ, ◌+◌, ◌<◌, Bool, true, false, if◌then◌else◌, List, [], ◌++◌, Some, None, arith}
use Rattle.mc_typed.specs.declared.probes.Probe.TheVariants as probe
use Rattle.mc_typed.specs.Tree as t
use Rattle.mc_cond.specs.Tree.{Tree}
use Rattle.decide_rules.specs.declared.role.Role.TheVariants.{Controlling, Plain}
use Rattle.decide_rules.specs.Nodes.{Whole}
use Rattle.decide_rules.specs.Nodes as n
use Rattle.decide_rules.specs.Counts.{roots, roots_in}
use Rattle.mc_meaning.proofs.Numbered.{trees, trees_in, StandsAt}
use Rattle.mc_steps.specs.Points.{unless_default, where_counted, points_of_all, has_default, initializes}
use Rattle.mc_probe.specs.Tree as p
use Rattle.mc_probe.specs.Maps.{Map}
use Rattle.mc_probe.specs.Switches.{switches_all}
use Rattle.mc_probe.specs.Table.{Loose, At, decided, within, past, in_switch, mark_unless_default, put, put_statement, put_statements}
use Rattle.laws_soundness.specs.Plain.{IsPlainStatement, ArePlainStatements}
use Rattle.reread_law_probes.specs.put.Ends.{End, EndBit, EndMark, EndStatement, EndStatements}
use Rattle.reread_law_probes.proofs.Counted.Ranges.{Pos, Same, none, same_as, join, ends_at, statement_bit, exit_bit, label_bit, three, four, five}
use Rattle.reread_law_probes.proofs.Counted.Reach.{all, past_part}
use Rattle.reread_law_probes.proofs.Counted.Reached.{put_same}
use Rattle.reread_law_probes.proofs.Counted.Effects.{head_part, effect_same, effects_same, declarators_same, start_same, test_same, return_same}

module _ (m : Map) (first limit entry : ℕ) where
  -- the counters there
  abbrev pub spot : At m first → Pos
  spot at = record {
    entry = entry;
    decision = first + at.decision;
    statement = at.statement;
    exit = at.exit;
    label = at.label;
  }

  abbrev Stand : At m first → List Tree → Type 0
  Stand at ys = StandsAt (all m first limit (spot at)) (first + at.decision) ys

  abbrev Bits : Type 0 → At m first → At m first → Type 0
  Bits P at z = Same m limit P (spot at) (spot z)

  -- after some statements
  abbrev pub after : t.Statements → At m first → At m first
  after items at = record {
    exit = at.exit + (points_of_all items).exits;
    statement = at.statement + (points_of_all items).statements;
    label = at.label + (points_of_all items).labels;
    decision = at.decision + roots_in (n.statements items);
    switch = at.switch + switches_all items;
  }

  -- after the bit of an exit
  abbrev left : At m first → At m first
  left at = record at { exit = at.exit + 1 }

  -- after the bit of a label
  abbrev labelled : At m first → At m first
  labelled at = record at { label = at.label + 1 }

  both : {P Q : Type 0} (a b c : At m first) → Bits P a b → Bits Q b c → Bits (P × Q) a c
  both a b c s r = join m limit (spot a) (spot b) (spot c) s r

  -- a statement that counts
  counts : (at : At m first) → Bits (at.statement < limit) at (within m first at)
  counts at = statement_bit m limit (spot at)

  -- a declaration counts where it has an initializer
  where_initialized : (b : Bool) (at : At m first) → Bits (EndBit limit (if b then Some at.statement else None)) at (record at { statement = at.statement + (where_counted b).statements })
  where_initialized true at = statement_bit m limit (spot at)
  where_initialized false at =
      ends_at m limit (spot at) (spot at) _ (record { entry = refl; decision = refl; statement = omega arith; exit = refl; label = refl }) (none m limit (spot at))

  -- an absent `default`
  where_no_default : (b : Bool) (at : At m first) → Bits (EndMark limit (mark_unless_default m first b at)) (within m first at) (record at { statement = at.statement + 1; label = at.label + (unless_default b).labels })
  where_no_default true at =
      ends_at m limit (spot (within m first at)) (spot (within m first at)) _ (record { entry = refl; decision = refl; statement = refl; exit = refl; label = omega arith }) (none m limit (spot (within m first at)))
  where_no_default false at = label_bit m limit (spot (within m first at))

  past_default : (b : Bool) (l : ℕ) → (if b then l else l + 1) ≡ l + (unless_default b).labels
  past_default true l = omega arith
  past_default false l = refl

  -- they have no points of the other kinds
  no_exits : (b : Bool) → (where_counted b).exits ≡ 0
  no_exits true = refl
  no_exits false = refl

  no_labels : (b : Bool) → (where_counted b).labels ≡ 0
  no_labels true = refl
  no_labels false = refl

  no_absent_exits : (b : Bool) → (unless_default b).exits ≡ 0
  no_absent_exits true = refl
  no_absent_exits false = refl

  no_absent_statements : (b : Bool) → (unless_default b).statements ≡ 0
  no_absent_statements true = refl
  no_absent_statements false = refl

  -- the value of a `switch` is kept round its expression
  kept : (at z : At m first) (turn : ℕ) (x : p.Expression) → Bits (End limit x) at z → Bits (End limit (p.Probe (probe.Switch turn) x)) at z
  kept at z turn x s = same_as m limit (spot at) (spot z) (λ h. (omega arith, h)) (λ h. h.1) s

  mutual
    pub statement_same : (r : ℕ) (at : At m first) (x : t.Statement) → IsPlainStatement x → Stand at (trees Plain (n.statement x)) → Bits (EndStatement limit (put_statement m first r at x)) at (past m first x at)
    statement_same r at (t.Compound items span) f h =
        ends_at m limit (spot at) (spot (after items at)) (spot (past m first (t.Compound items span) at)) (record { entry = refl; decision = omega arith; statement = refl; exit = refl; label = refl })
        (statements_same r at items f h)
    statement_same r at (t.Label v span) f h =
        ends_at m limit (spot at) (spot (labelled at)) (spot (past m first (t.Label v span) at)) (record { entry = refl; decision = omega arith; statement = omega arith; exit = omega arith; label = refl })
        (label_bit m limit (spot at))
    statement_same r at (t.Declaration xs span) f h =
        let b : Bool = initializes xs in
        let y : At m first = record at { statement = at.statement + (where_counted b).statements } in
        let z : At m first = decided m first (roots_in (n.declarators xs)) y in
        let e = no_exits b in
        let l = no_labels b in
        ends_at m limit (spot at) (spot z) (spot (past m first (t.Declaration xs span) at)) (record { entry = refl; decision = omega arith; statement = refl; exit = omega (arith, e); label = omega (arith, l) })
        (both at y z (where_initialized b at) (declarators_same m first limit (spot y) at.decision xs f h))
    statement_same r at (t.Null span) f h =
        ends_at m limit (spot at) (spot (within m first at)) (spot (past m first (t.Null span) at)) (record { entry = refl; decision = omega arith; statement = refl; exit = omega arith; label = omega arith }) (counts at)
    statement_same r at (t.EffectStatement x span) f h =
        let y : At m first = within m first at in
        let z : At m first = decided m first (roots Plain (n.effect x)) y in
        ends_at m limit (spot at) (spot z) (spot (past m first (t.EffectStatement x span) at)) (record { entry = refl; decision = omega arith; statement = refl; exit = omega arith; label = omega arith })
        (both at y z (counts at) (effect_same m first limit (spot y) at.decision x (head_part m first limit (spot y) at.decision Plain (n.effect x) [] h)))
    statement_same r at (t.If c x keyword span) f h =
        let y : At m first = within m first at in
        let z : At m first = decided m first (roots Controlling (n.expression c)) y in
        let w : At m first = past m first x z in
        let more : List Tree = trees Plain (n.statement x) ++ [] in
        ends_at m limit (spot at) (spot w) (spot (past m first (t.If c x keyword span) at)) (record { entry = refl; decision = omega arith; statement = omega arith; exit = omega arith; label = omega arith })
        (three m limit (spot at) (spot w)
        (both at y w (counts at)
        (both y z w
        (put_same m first limit (spot y) (Loose Controlling) at.decision c tt (head_part m first limit (spot y) at.decision Controlling (n.expression c) more h))
        (statement_same r z x f.1 (head_part m first limit (spot z) z.decision Plain (n.statement x) [] (past_part m first limit (spot y) at.decision Controlling (n.expression c) more h))))))
    statement_same r at (t.IfElse c x u keyword span) f h =
        let y : At m first = within m first at in
        let z : At m first = decided m first (roots Controlling (n.expression c)) y in
        let w : At m first = past m first x z in
        let v : At m first = past m first u w in
        let last : List Tree = trees Plain (n.statement u) ++ [] in
        let more : List Tree = trees Plain (n.statement x) ++ last in
        let next = past_part m first limit (spot y) at.decision Controlling (n.expression c) more h in
        ends_at m limit (spot at) (spot v) (spot (past m first (t.IfElse c x u keyword span) at)) (record { entry = refl; decision = omega arith; statement = omega arith; exit = omega arith; label = omega arith })
        (four m limit (spot at) (spot v)
        (both at y v (counts at)
        (both y z v
        (put_same m first limit (spot y) (Loose Controlling) at.decision c tt (head_part m first limit (spot y) at.decision Controlling (n.expression c) more h))
        (both z w v
        (statement_same r z x f.1 (head_part m first limit (spot z) z.decision Plain (n.statement x) last next))
        (statement_same r w u f.2 (head_part m first limit (spot w) w.decision Plain (n.statement u) [] (past_part m first limit (spot z) z.decision Plain (n.statement x) last next)))))))
    statement_same r at (t.Switch c items keyword span) f h =
        let b : Bool = has_default items in
        let y : At m first = within m first at in
        let q : At m first = record y { label = at.label + (unless_default b).labels } in
        let g : At m first = decided m first (roots Plain (n.expression c)) q in
        let z : At m first = decided m first (roots Plain (n.expression c)) (in_switch m first b at) in
        let w : At m first = after items z in
        let more : List Tree = trees Plain (Whole (n.statements items)) ++ [] in
        let l = past_default b at.label in
        let e = no_absent_exits b in
        let s = no_absent_statements b in
        let inside = statements_same at.switch z items f.1 (head_part m first limit (spot z) z.decision Plain (Whole (n.statements items)) [] (past_part m first limit (spot y) at.decision Plain (n.expression c) more h)) in
        ends_at m limit (spot at) (spot w) (spot (past m first (t.Switch c items keyword span) at)) (record { entry = refl; decision = omega arith; statement = omega (arith, s); exit = omega (arith, e); label = omega (arith, l) })
        (same_as m limit (spot at) (spot w) (λ v. (v.0, v.1.1.0, v.1.1.1, v.1.0)) (λ v. (v.0, (v.3, (v.1, v.2))))
        (both at y w (counts at)
        (both y q w (where_no_default b at)
        (both q z w
        (kept q z at.switch (put m first (Loose Plain) at.decision c)
        (ends_at m limit (spot q) (spot g) (spot z) (record { entry = refl; decision = refl; statement = refl; exit = refl; label = omega (arith, l) })
        (put_same m first limit (spot q) (Loose Plain) at.decision c tt (head_part m first limit (spot q) at.decision Plain (n.expression c) more h))))
        inside))))
    statement_same r at (t.For start test step x keyword span) f h =
        let y : At m first = within m first at in
        let a : At m first = decided m first (roots Plain (n.start start)) y in
        let b : At m first = decided m first (roots Plain (n.optional_test test)) a in
        let c : At m first = decided m first (roots_in (n.effects step)) b in
        let z : At m first = decided m first (roots Plain (n.start start) + roots Plain (n.optional_test test) + roots_in (n.effects step)) y in
        let w : At m first = past m first x z in
        let last : List Tree = trees Plain (n.statement x) ++ [] in
        let third : List Tree = trees Plain (Whole (n.effects step)) ++ last in
        let more : List Tree = trees Plain (n.optional_test test) ++ third in
        let one = past_part m first limit (spot y) at.decision Plain (n.start start) more h in
        let two = past_part m first limit (spot a) a.decision Plain (n.optional_test test) third one in
        let end = past_part m first limit (spot b) b.decision Plain (Whole (n.effects step)) last two in
        let same : first + (b.decision + roots Plain (Whole (n.effects step))) ≡ first + z.decision = omega arith in
        let body : Stand z (trees Plain (n.statement x)) =
        head_part m first limit (spot z) z.decision Plain (n.statement x) [] (subst (λ (k : ℕ). StandsAt (all m first limit (spot z)) k last) same end) in
        ends_at m limit (spot at) (spot w) (spot (past m first (t.For start test step x keyword span) at)) (record { entry = refl; decision = omega arith; statement = omega arith; exit = omega arith; label = omega arith })
        (five m limit (spot at) (spot w)
        (both at y w (counts at)
        (both y a w (start_same m first limit (spot y) at.decision start f.0 (head_part m first limit (spot y) at.decision Plain (n.start start) more h))
        (both a b w (test_same m first limit (spot a) a.decision test (head_part m first limit (spot a) a.decision Plain (n.optional_test test) third one))
        (both b z w
        (ends_at m limit (spot b) (spot c) (spot z) (record { entry = refl; decision = omega arith; statement = refl; exit = refl; label = refl })
        (effects_same m first limit (spot b) b.decision step (head_part m first limit (spot b) b.decision Plain (Whole (n.effects step)) last two)))
        (statement_same r z x f.3 body))))))
    statement_same r at (t.DoWhile x c keyword span) f h =
        let y : At m first = within m first at in
        let z : At m first = past m first x y in
        let w : At m first = decided m first (roots Controlling (n.expression c)) z in
        let more : List Tree = trees Controlling (n.expression c) ++ [] in
        ends_at m limit (spot at) (spot w) (spot (past m first (t.DoWhile x c keyword span) at)) (record { entry = refl; decision = omega arith; statement = omega arith; exit = omega arith; label = omega arith })
        (three m limit (spot at) (spot w)
        (both at y w (counts at)
        (both y z w
        (statement_same r y x f.0 (head_part m first limit (spot y) at.decision Plain (n.statement x) more h))
        (put_same m first limit (spot z) (Loose Controlling) z.decision c tt (head_part m first limit (spot z) z.decision Controlling (n.expression c) [] (past_part m first limit (spot y) at.decision Plain (n.statement x) more h))))))
    statement_same r at (t.Break span) f h =
        ends_at m limit (spot at) (spot (within m first at)) (spot (past m first (t.Break span) at)) (record { entry = refl; decision = omega arith; statement = refl; exit = omega arith; label = omega arith }) (counts at)
    statement_same r at (t.Continue span) f h =
        ends_at m limit (spot at) (spot (within m first at)) (spot (past m first (t.Continue span) at)) (record { entry = refl; decision = omega arith; statement = refl; exit = omega arith; label = omega arith }) (counts at)
    statement_same r at (t.Return value span) f h =
        let y : At m first = within m first at in
        let z : At m first = decided m first (roots Plain (n.return_value value)) y in
        let w : At m first = left z in
        ends_at m limit (spot at) (spot w) (spot (past m first (t.Return value span) at)) (record { entry = refl; decision = omega arith; statement = omega arith; exit = omega arith; label = omega arith })
        (three m limit (spot at) (spot w)
        (both at y w (counts at)
        (both y z w
        (return_same m first limit (spot y) at.decision value (head_part m first limit (spot y) at.decision Plain (n.return_value value) [] h))
        (exit_bit m limit (spot z)))))

    pub statements_same : (r : ℕ) (at : At m first) (xs : t.Statements) → ArePlainStatements xs → Stand at (trees_in (n.statements xs)) → Bits (EndStatements limit (put_statements m first r at xs)) at (after xs at)
    statements_same r at t.no_statements f h =
        ends_at m limit (spot at) (spot at) (spot (after t.no_statements at)) (record { entry = refl; decision = omega arith; statement = omega arith; exit = omega arith; label = omega arith }) (none m limit (spot at))
    statements_same r at (t.statements x rest) f h =
        let z : At m first = past m first x at in
        let w : At m first = after rest z in
        ends_at m limit (spot at) (spot w) (spot (after (t.statements x rest) at)) (record { entry = refl; decision = omega arith; statement = omega arith; exit = omega arith; label = omega arith })
        (both at z w
        (statement_same r at x f.0 (head_part m first limit (spot at) at.decision Plain (n.statement x) (trees_in (n.statements rest)) h))
        (statements_same r z rest f.1 (past_part m first limit (spot at) at.decision Plain (n.statement x) (trees_in (n.statements rest)) h)))
