-- The rows in statements at other places.
use Rattle.std.proofs.Common.{◌≡◌, ℕ, ◌+◌, Bool, true, false, Some, None, option_map, if◌then◌else◌, refl, sym, ap, ap₂}
use Rattle.mc_span.specs.declared.span.Span.{Span}
use Rattle.mc_typed.specs.Tree as t
use Rattle.mc_typed.specs.declared.probes.Probe.TheVariants as probe
use Rattle.decide_rules.specs.declared.role.Role.TheVariants.{Controlling, Plain}
use Rattle.decide_rules.specs.Nodes as n
use Rattle.decide_rules.specs.Counts.{roots, roots_in}
use Rattle.mc_steps.specs.Points.{has_default, initializes}
use Rattle.reread_pieces.specs.declared.piece.What.TheVariants as what
use Rattle.mc_probe.specs.Maps.{Map}
use Rattle.mc_probe.specs.Table.{Loose, put, put_effect, put_effects, put_declarators, put_start, put_optional, put_return, At, decided, past, within, in_switch, mark_unless_default, put_statement, put_statements}
use Rattle.mc_probe.specs.Tree as p
use Rattle.reread_law_texts.specs.alike.Moves.{Move, moved_span}
use Rattle.reread_law_places.specs.natural.Moved.{moved_number, moved_effect, moved_effects, moved_objects, moved_for_start, moved_return_value, moved_typed_statement, moved_typed_statements}
use Rattle.reread_law_places.proofs.Still.Points.{default_same, initializes_same, points_same, switches_same}
use Rattle.reread_law_places.proofs.Still.Put.{SameNumbers}
use Rattle.reread_law_rows.specs.inserted.Rows.{Rows, row, rows, rows_in_effect, rows_in_effects, rows_in_declarators, rows_in_start, rows_in_optional, counted, counted_declaration, absent_default, rows_in_return, rows_in_statement, rows_in_statements}
use Rattle.reread_law_printed.proofs.Shifted.Counting.{test_same, plain_same, start_same, optional_same, effects_same, statement_same}
use Rattle.reread_law_printed.proofs.Shifted.Values.{Carries, after, from, probe_goes, number_goes, structure_carries, effect_carries, effects_carry, declarators_carry, start_carries, optional_carries}

module _ (move : Move) where
  -- in the braces of a counted statement
  counted_carries : (b : ℕ) (span : Span) (a c : Rows) → Carries move a c → Carries move (counted (Some b) span a) (counted (Some b) (moved_span move span) c)
  counted_carries b span a c h l = ap (row (what.Statement b) (moved_span move span)) (h (row what.StatementEnd span l))

  declaration_carries : (b : Bool) (k : ℕ) (span : Span) (a c : Rows) → Carries move a c →
      Carries move (λ l. counted_declaration (if b then Some k else None) span (a l)) (λ l. counted_declaration (if b then Some k else None) (moved_span move span) (c l))
  declaration_carries true k span a c h l = ap (row (what.Declaration k) (moved_span move span)) (h l)
  declaration_carries false k span a c h l = h l

  module _ (m w : Map) (same : SameNumbers m w) (first : ℕ) where
    -- the counters of the one map for those of the other
    abbrev pub over : At m first → At w first
    over at = record { exit = at.exit; statement = at.statement; label = at.label; decision = at.decision; switch = at.switch }

    past_same : (s : t.Statement) (at : At m first) → past w first (moved_typed_statement move s) (over at) ≡ over (past m first s at)
    past_same s at = λ i. record {
      exit = at.exit + (points_same move s i).exits;
      statement = at.statement + (points_same move s i).statements;
      label = at.label + (points_same move s i).labels;
      decision = at.decision + statement_same move s i;
      switch = at.switch + switches_same move s i;
    }

    absent_carries : (at : At m first) (span : Span) (b : Bool) → Carries move (absent_default (mark_unless_default m first b at) span) (absent_default (mark_unless_default w first b (over at)) (moved_span move span))
    absent_carries at span true l = refl
    absent_carries at span false l = refl

    return_carries : (b : ℕ) (span : Span) (d : ℕ) (v : t.ReturnValue) →
        Carries move (rows_in_return (Some b) span (put_return m first d v)) (rows_in_return (Some b) (moved_span move span) (put_return w first d (moved_return_value move v)))
    return_carries b span d t.ReturnNothing l = refl
    return_carries b span d (t.ReturnNumber e) l =
        ap (row what.Value (moved_span move span)) ((number_goes move m w same first (Loose Plain) d e).1 (row (what.ValueEnd b) span l))
    return_carries b span d (t.ReturnStructure value k) l =
        ap (row what.Value (moved_span move span)) (structure_carries move m w same first d value (row (what.ValueEnd b) span l))

    -- the first part of a counted statement is an expression that is tested
    abbrev our_test : ℕ → t.Expression → Rows
    our_test d e = rows (put m first (Loose Controlling) d e)

    abbrev their_test : ℕ → t.Expression → Rows
    their_test d e = rows (put w first (Loose Controlling) d (moved_number move e))

    test_carries : (d : ℕ) (e : t.Expression) → Carries move (our_test d e) (their_test d e)
    test_carries d e = (number_goes move m w same first (Loose Controlling) d e).1

    mutual
      pub statement_carries : (r : ℕ) (at : At m first) (s : t.Statement) →
          Carries move (rows_in_statement (put_statement m first r at s)) (rows_in_statement (put_statement w first r (over at) (moved_typed_statement move s)))
      statement_carries r at (t.Compound items span) l = statements_carry r at items l
      statement_carries r at (t.Label v span) l = refl
      statement_carries r at (t.Declaration all span) l =
          let a : Rows = rows_in_declarators (put_declarators m first at.decision all) in
          let c : Rows = rows_in_declarators (put_declarators w first at.decision (moved_objects move all)) in
          from move (λ l. counted_declaration (if initializes all then Some at.statement else None) span (a l))
          (λ (b : Bool). λ l. counted_declaration (if b then Some at.statement else None) (moved_span move span) (c l)) (sym (initializes_same move all))
          (declaration_carries (initializes all) at.statement span a c (declarators_carry move m w same first at.decision all)) l
      statement_carries r at (t.Null span) l = refl
      statement_carries r at (t.EffectStatement effect span) l =
          counted_carries at.statement span (rows_in_effect (put_effect m first at.decision effect)) (rows_in_effect (put_effect w first at.decision (moved_effect move effect)))
          (effect_carries move m w same first at.decision effect) l
      statement_carries r at (t.If e s keyword span) l =
          let second : Rows = rows_in_statement (put_statement m first r (decided m first (roots Controlling (n.expression e)) (within m first at)) s) in
          let two : ℕ → Rows = λ j. rows_in_statement (put_statement w first r (decided w first j (within w first (over at))) (moved_typed_statement move s)) in
          let other : ℕ = roots Controlling (n.expression (moved_number move e)) in
          counted_carries at.statement span (λ l. our_test at.decision e (second l)) (λ l. their_test at.decision e (two other l))
          (after move (our_test at.decision e) (their_test at.decision e) second (two other) (test_carries at.decision e)
          (from move second two (sym (test_same move e))
          (statement_carries r (decided m first (roots Controlling (n.expression e)) (within m first at)) s))) l
      statement_carries r at (t.IfElse e s u keyword span) l =
          let inside : At m first = decided m first (roots Controlling (n.expression e)) (within m first at) in
          let second : Rows = rows_in_statement (put_statement m first r inside s) in
          let third : Rows = rows_in_statement (put_statement m first r (past m first s inside) u) in
          let two : ℕ → Rows = λ j. rows_in_statement (put_statement w first r (decided w first j (within w first (over at))) (moved_typed_statement move s)) in
          let three : At w first → Rows = λ a. rows_in_statement (put_statement w first r a (moved_typed_statement move u)) in
          let later : ℕ → At w first = λ j. past w first (moved_typed_statement move s) (decided w first j (within w first (over at))) in
          let other : ℕ = roots Controlling (n.expression (moved_number move e)) in
          counted_carries at.statement span (λ l. our_test at.decision e (second (third l))) (λ l. their_test at.decision e (two other (three (later other) l)))
          (after move (our_test at.decision e) (their_test at.decision e) (λ l. second (third l)) (λ l. two other (three (later other) l)) (test_carries at.decision e)
          (after move second (two other) third (three (later other))
          (from move second two (sym (test_same move e)) (statement_carries r inside s))
          (from move third (λ (j : ℕ). three (later j)) (sym (test_same move e))
          (from move third three (sym (past_same s inside)) (statement_carries r (past m first s inside) u))))) l
      statement_carries r at (t.Switch e items keyword span) l =
          let inside : At m first = decided m first (roots Plain (n.expression e)) (in_switch m first (has_default items) at) in
          let one : Rows = rows (p.Probe (probe.Switch at.switch) (put m first (Loose Plain) at.decision e)) in
          let first_one : Rows = rows (p.Probe (probe.Switch at.switch) (put w first (Loose Plain) at.decision (moved_number move e))) in
          let second : Rows = rows_in_statements (put_statements m first at.switch inside items) in
          let third : Rows = absent_default (mark_unless_default m first (has_default items) at) span in
          let two : ℕ → Bool → Rows = λ j b. rows_in_statements (put_statements w first at.switch (decided w first j (in_switch w first b (over at))) (moved_typed_statements move items)) in
          let three : Bool → Rows = λ b. absent_default (mark_unless_default w first b (over at)) (moved_span move span) in
          let other : ℕ = roots Plain (n.expression (moved_number move e)) in
          let has : Bool = has_default (moved_typed_statements move items) in
          counted_carries at.statement span (λ l. one (second (third l))) (λ l. first_one (two other has (three has l)))
          (after move one first_one (λ l. second (third l)) (λ l. two other has (three has l))
          (probe_goes move (probe.Switch at.switch) (probe.Switch at.switch) (put m first (Loose Plain) at.decision e) (put w first (Loose Plain) at.decision (moved_number move e)) refl
          (number_goes move m w same first (Loose Plain) at.decision e)).1
          (after move second (two other has) third (three has)
          (from move second (λ (j : ℕ). two j has) (sym (plain_same move e))
          (from move second (λ (b : Bool). two (roots Plain (n.expression e)) b) (sym (default_same move items))
          (statements_carry at.switch inside items)))
          (from move third three (sym (default_same move items)) (absent_carries at span (has_default items))))) l
      statement_carries r at (t.For start test step s keyword span) l =
          let x : ℕ = roots Plain (n.start start) in
          let y : ℕ = roots Plain (n.optional_test test) in
          let z : ℕ = roots_in (n.effects step) in
          let u : ℕ = roots Plain (n.start (moved_for_start move start)) in
          let v : ℕ = roots Plain (n.optional_test (option_map (moved_number move) test)) in
          let k : ℕ = roots_in (n.effects (moved_effects move step)) in
          let one : Rows = rows_in_start (put_start m first at.decision start) in
          let second : Rows = rows_in_optional (put_optional m first (at.decision + x) test) in
          let third : Rows = rows_in_effects (put_effects m first (at.decision + x + y) step) in
          let fourth : Rows = rows_in_statement (put_statement m first r (decided m first (x + y + z) (within m first at)) s) in
          let first_one : Rows = rows_in_start (put_start w first at.decision (moved_for_start move start)) in
          let two : ℕ → Rows = λ j. rows_in_optional (put_optional w first (at.decision + j) (option_map (moved_number move) test)) in
          let three : ℕ → ℕ → Rows = λ i j. rows_in_effects (put_effects w first (at.decision + i + j) (moved_effects move step)) in
          let four : ℕ → Rows = λ j. rows_in_statement (put_statement w first r (decided w first j (within w first (over at))) (moved_typed_statement move s)) in
          let alike : x + y + z ≡ u + v + k = ap₂ (λ (i j : ℕ). i + j) (ap₂ (λ (i j : ℕ). i + j) (sym (start_same move start)) (sym (optional_same move test))) (sym (effects_same move step)) in
          counted_carries at.statement span (λ l. one (second (third (fourth l)))) (λ l. first_one (two u (three u v (four (u + v + k) l))))
          (after move one first_one (λ l. second (third (fourth l))) (λ l. two u (three u v (four (u + v + k) l))) (start_carries move m w same first at.decision start)
          (after move second (two u) (λ l. third (fourth l)) (λ l. three u v (four (u + v + k) l))
          (from move second two (sym (start_same move start)) (optional_carries move m w same first (at.decision + x) test))
          (after move third (three u v) fourth (four (u + v + k))
          (from move third (λ (i : ℕ). three i v) (sym (start_same move start))
          (from move third (λ (j : ℕ). three x j) (sym (optional_same move test)) (effects_carry move m w same first (at.decision + x + y) step)))
          (from move fourth four alike (statement_carries r (decided m first (x + y + z) (within m first at)) s))))) l
      statement_carries r at (t.DoWhile s e keyword span) l =
          let one : Rows = rows_in_statement (put_statement m first r (within m first at) s) in
          let second : Rows = our_test (at.decision + roots Plain (n.statement s)) e in
          let first_one : Rows = rows_in_statement (put_statement w first r (within w first (over at)) (moved_typed_statement move s)) in
          let two : ℕ → Rows = λ j. their_test (at.decision + j) e in
          let other : ℕ = roots Plain (n.statement (moved_typed_statement move s)) in
          counted_carries at.statement span (λ l. one (second l)) (λ l. first_one (two other l))
          (after move one first_one second (two other) (statement_carries r (within m first at) s)
          (from move second two (sym (statement_same move s)) (test_carries (at.decision + roots Plain (n.statement s)) e))) l
      statement_carries r at (t.Break span) l = refl
      statement_carries r at (t.Continue span) l = refl
      statement_carries r at (t.Return value span) l =
          counted_carries at.statement span (rows_in_return (Some at.exit) span (put_return m first at.decision value))
          (rows_in_return (Some at.exit) (moved_span move span) (put_return w first at.decision (moved_return_value move value)))
          (return_carries at.exit span at.decision value) l

      pub statements_carry : (r : ℕ) (at : At m first) (all : t.Statements) →
          Carries move (rows_in_statements (put_statements m first r at all)) (rows_in_statements (put_statements w first r (over at) (moved_typed_statements move all)))
      statements_carry r at t.no_statements l = refl
      statements_carry r at (t.statements s rest) l =
          let second : Rows = rows_in_statements (put_statements m first r (past m first s at) rest) in
          let two : At w first → Rows = λ a. rows_in_statements (put_statements w first r a (moved_typed_statements move rest)) in
          after move (rows_in_statement (put_statement m first r at s)) (rows_in_statement (put_statement w first r (over at) (moved_typed_statement move s))) second
          (two (past w first (moved_typed_statement move s) (over at)))
          (statement_carries r at s)
          (from move second two (sym (past_same s at)) (statements_carry r (past m first s at) rest)) l
