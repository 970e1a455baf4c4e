-- The places that are cut out of others are not those of rows: without them the rows are the same.
use Rattle.std.proofs.Common.{◌≡◌, ℕ, ◌+◌, Bool, true, false, List, [], ◌∷◌, refl, ap, ap₂, ◌∙◌}
use Rattle.mc_typed.specs.Tree as t
use Rattle.mc_typed.specs.declared.probes.Probe.TheVariants as probe
use Rattle.decide_rules.specs.declared.role.Role.TheVariants.{Controlling, Plain}
use Rattle.decide_rules.specs.Nodes as n
use Rattle.decide_rules.specs.Counts.{roots, roots_in}
use Rattle.mc_steps.specs.Points.{has_default}
use Rattle.reread_pieces.specs.declared.piece.What.TheVariants as what
use Rattle.mc_probe.specs.Maps.{Map}
use Rattle.mc_probe.specs.Table.{Loose, put_place, put, put_effect, put_effects, put_start, put_optional, At, decided, past, within, in_switch, mark_unless_default, put_statement, put_statements}
use Rattle.mc_probe.specs.Tree as p
use Rattle.reread_law_places.specs.natural.Settled.{settled_operand, settled_effect, settled_effects, settled_for_start, settled_statement, settled_statements}
use Rattle.reread_law_rows.specs.inserted.Rows.{Row, Rows, row, rows_in_place, rows, rows_in_effect, rows_in_effects, rows_in_start, rows_in_optional, absent_default, rows_in_statement, rows_in_statements}
use Rattle.reread_law_printed.proofs.Shifted.Counting.{effect_clear, effects_clear, start_clear, statement_clear, points_clear, switches_clear, default_clear}

module _ (w : Map) (first : ℕ) where
  -- A constant stands at no row, also where it is converted.
  operand_rows : (d : ℕ) (e : t.Expression) (later : List Row) → rows (put w first (Loose Plain) d (settled_operand e)) later ≡ rows (put w first (Loose Plain) d e) later
  operand_rows d (t.Constant v a span) later = refl
  operand_rows d (t.Read place a) later = refl
  operand_rows d (t.Unary operator a e span) later = refl
  operand_rows d (t.Convert a true e span) later = refl
  operand_rows d (t.Convert a false (t.Constant v b at) span) later = refl
  operand_rows d (t.Convert a false (t.Read place b) span) later = refl
  operand_rows d (t.Convert a false (t.Unary operator b e at) span) later = refl
  operand_rows d (t.Convert a false (t.Convert b written e at) span) later = refl
  operand_rows d (t.Convert a false (t.Not e at) span) later = refl
  operand_rows d (t.Convert a false (t.Binary operator b e f at) span) later = refl
  operand_rows d (t.Convert a false (t.Logic operator e f at) span) later = refl
  operand_rows d (t.Convert a false (t.Choice e f g b at) span) later = refl
  operand_rows d (t.Convert a false (t.Call k b) span) later = refl
  operand_rows d (t.Convert a false (t.Input at) span) later = refl
  operand_rows d (t.Not e span) later = refl
  operand_rows d (t.Binary operator a e f span) later = refl
  operand_rows d (t.Logic operator e f span) later = refl
  operand_rows d (t.Choice e f g a span) later = refl
  operand_rows d (t.Call k a) later = refl
  operand_rows d (t.Input span) later = refl

  effect_rows : (d : ℕ) (a : t.Effect) (later : List Row) → rows_in_effect (put_effect w first d (settled_effect a)) later ≡ rows_in_effect (put_effect w first d a) later
  effect_rows d (t.Assign target a e span) later = refl
  effect_rows d (t.Update target a operator common e span) later =
      ap (rows_in_place (put_place w first d target)) (operand_rows (d + roots Plain (n.place target)) e later)
  effect_rows d (t.Copy target value k span) later = refl
  effect_rows d (t.NumberEffect e whole) later = refl
  effect_rows d (t.StructureEffect value whole) later = refl
  effect_rows d (t.CallEffect k) later = refl
  effect_rows d (t.Output e span) later = refl
  effect_rows d (t.ChoiceEffect e a b span) later =
      let r : ℕ = d + roots Controlling (n.expression e) in
      let test : Rows = rows (put w first (Loose Controlling) d e) in
      ap (λ (j : ℕ). test (rows_in_effect (put_effect w first r (settled_effect a)) (rows_in_effect (put_effect w first (r + j) (settled_effect b)) later))) (effect_clear a)
      ∙ (ap (λ l. test (rows_in_effect (put_effect w first r (settled_effect a)) l)) (effect_rows (r + roots Plain (n.effect a)) b later)
      ∙ ap test (effect_rows r a (rows_in_effect (put_effect w first (r + roots Plain (n.effect a)) b) later)))
  effect_rows d (t.Discard a span) later = effect_rows d a later

  effects_rows : (d : ℕ) (all : List t.Effect) (later : List Row) → rows_in_effects (put_effects w first d (settled_effects all)) later ≡ rows_in_effects (put_effects w first d all) later
  effects_rows d [] later = refl
  effects_rows d (a ∷ rest) later =
      ap (λ (j : ℕ). rows_in_effect (put_effect w first d (settled_effect a)) (rows_in_effects (put_effects w first (d + j) (settled_effects rest)) later)) (effect_clear a)
      ∙ (ap (rows_in_effect (put_effect w first d (settled_effect a))) (effects_rows (d + roots Plain (n.effect a)) rest later)
      ∙ effect_rows d a (rows_in_effects (put_effects w first (d + roots Plain (n.effect a)) rest) later))

  start_rows : (d : ℕ) (s : t.ForStart) (later : List Row) → rows_in_start (put_start w first d (settled_for_start s)) later ≡ rows_in_start (put_start w first d s) later
  start_rows d (t.StartEffects effects) later = effects_rows d effects later
  start_rows d (t.StartDeclaration all) later = refl

  -- ---- statements

  past_clear : (s : t.Statement) (at : At w first) → past w first (settled_statement s) at ≡ past w first s at
  past_clear s at = λ i. record {
    exit = at.exit + (points_clear s i).exits;
    statement = at.statement + (points_clear s i).statements;
    label = at.label + (points_clear s i).labels;
    decision = at.decision + statement_clear s i;
    switch = at.switch + switches_clear s i;
  }

  mutual
    pub statement_rows : (r : ℕ) (at : At w first) (s : t.Statement) (later : List Row) →
        rows_in_statement (put_statement w first r at (settled_statement s)) later ≡ rows_in_statement (put_statement w first r at s) later
    statement_rows r at (t.Compound items span) later = statements_rows r at items later
    statement_rows r at (t.Label v span) later = refl
    statement_rows r at (t.Declaration all span) later = refl
    statement_rows r at (t.Null span) later = refl
    statement_rows r at (t.EffectStatement effect span) later =
        ap (row (what.Statement at.statement) span) (effect_rows at.decision effect (row what.StatementEnd span later))
    statement_rows r at (t.If e s keyword span) later =
        ap (λ l. row (what.Statement at.statement) span (rows (put w first (Loose Controlling) at.decision e) l))
        (statement_rows r (decided w first (roots Controlling (n.expression e)) (within w first at)) s (row what.StatementEnd span later))
    statement_rows r at (t.IfElse e s u keyword span) later =
        let inside : At w first = decided w first (roots Controlling (n.expression e)) (within w first at) in
        let front : Rows = λ l. row (what.Statement at.statement) span (rows (put w first (Loose Controlling) at.decision e) l) in
        let end : List Row = row what.StatementEnd span later in
        ap (λ (a : At w first). front (rows_in_statement (put_statement w first r inside (settled_statement s)) (rows_in_statement (put_statement w first r a (settled_statement u)) end))) (past_clear s inside)
        ∙ (ap (λ l. front (rows_in_statement (put_statement w first r inside (settled_statement s)) l)) (statement_rows r (past w first s inside) u end)
        ∙ ap front (statement_rows r inside s (rows_in_statement (put_statement w first r (past w first s inside) u) end)))
    statement_rows r at (t.Switch e items keyword span) later =
        let inside : Bool → At w first = λ b. decided w first (roots Plain (n.expression e)) (in_switch w first b at) in
        let front : Rows = λ l. row (what.Statement at.statement) span (rows (p.Probe (probe.Switch at.switch) (put w first (Loose Plain) at.decision e)) l) in
        let end : List Row = row what.StatementEnd span later in
        ap (λ (b : Bool). front (rows_in_statements (put_statements w first at.switch (inside b) (settled_statements items)) (absent_default (mark_unless_default w first b at) span end))) (default_clear items)
        ∙ ap front (statements_rows at.switch (inside (has_default items)) items (absent_default (mark_unless_default w first (has_default items) at) span end))
    statement_rows r at (t.For start test step s keyword span) later =
        let y : ℕ = roots Plain (n.optional_test test) in
        let end : List Row = row what.StatementEnd span later in
        let z : ℕ = roots_in (n.effects step) in
        let x : ℕ = roots Plain (n.start start) in
        let front : Rows = λ l. row (what.Statement at.statement) span l in
        let part : ℕ → Rows = λ i. rows_in_optional (put_optional w first (at.decision + i) test) in
        let steps : ℕ → List t.Effect → Rows = λ i all. rows_in_effects (put_effects w first (at.decision + i + y) all) in
        let body : ℕ → t.Statement → Rows = λ j u. rows_in_statement (put_statement w first r (decided w first j (within w first at)) u) in
        ap₂ (λ (i j : ℕ). front (rows_in_start (put_start w first at.decision (settled_for_start start)) (part i (steps i (settled_effects step) (body (i + y + j) (settled_statement s) end)))))
        (start_clear start) (effects_clear step)
        ∙ (ap (λ l. front (rows_in_start (put_start w first at.decision (settled_for_start start)) (part x (steps x (settled_effects step) l))))
        (statement_rows r (decided w first (x + y + z) (within w first at)) s end)
        ∙ (ap (λ l. front (rows_in_start (put_start w first at.decision (settled_for_start start)) (part x l)))
        (effects_rows (at.decision + x + y) step (body (x + y + z) s end))
        ∙ ap front (start_rows at.decision start (part x (steps x step (body (x + y + z) s end))))))
    statement_rows r at (t.DoWhile s e keyword span) later =
        let end : List Row = row what.StatementEnd span later in
        let inside : At w first = within w first at in
        ap (λ (j : ℕ). row (what.Statement at.statement) span (rows_in_statement (put_statement w first r inside (settled_statement s)) (rows (put w first (Loose Controlling) (at.decision + j) e) end)))
        (statement_clear s)
        ∙ ap (row (what.Statement at.statement) span) (statement_rows r inside s (rows (put w first (Loose Controlling) (at.decision + roots Plain (n.statement s)) e) end))
    statement_rows r at (t.Break span) later = refl
    statement_rows r at (t.Continue span) later = refl
    statement_rows r at (t.Return value span) later = refl

    pub statements_rows : (r : ℕ) (at : At w first) (all : t.Statements) (later : List Row) →
        rows_in_statements (put_statements w first r at (settled_statements all)) later ≡ rows_in_statements (put_statements w first r at all) later
    statements_rows r at t.no_statements later = refl
    statements_rows r at (t.statements s rest) later =
        ap (λ (a : At w first). rows_in_statement (put_statement w first r at (settled_statement s)) (rows_in_statements (put_statements w first r a (settled_statements rest)) later)) (past_clear s at)
        ∙ (ap (rows_in_statement (put_statement w first r at (settled_statement s))) (statements_rows r (past w first s at) rest later)
        ∙ statement_rows r at s (rows_in_statements (put_statements w first r (past w first s at) rest) later))
