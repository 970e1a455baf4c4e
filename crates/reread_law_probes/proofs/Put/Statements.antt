-- The walk over statements.
use Rattle.std.proofs.Common.{◌≡◌, refl, ℕ, ◌<◌, ◌≤◌, Bool, true, false, List, map, option_map, Option, Some, None, arith}
use Rattle.mc_limits.specs.Limits.{most_bits}
use Rattle.mc_span.specs.declared.span.Span.{Span}
use Rattle.reread_pieces.specs.declared.piece.What.TheVariants as what
use Rattle.mc_typed.specs.declared.probes.Mark.{Mark}
use Rattle.mc_typed.specs.Tree as t
use Rattle.mc_steps.specs.Points.{has_default, initializes}
use Rattle.mc_probe.specs.Erase.{erase_expression, erase_structure, erase_effect, erase_declarator, erase_start, erase_return, erase_statement, erase_statements}
use Rattle.mc_probe.specs.Tree as p
use Rattle.mc_probe.specs.WellFormed.{FitsReturn, FitsMark, FitsAbsent, FitsStatement, FitStatements}
use Rattle.reread_law_rows.specs.inserted.Rows.{Row, row, rows, rows_in_structure, rows_in_effect, rows_in_effects, rows_in_declarators, rows_in_start, rows_in_optional, rows_in_statement, rows_in_statements, counted_declaration, label, absent_default, with_exit}
use Rattle.reread_law_rows.specs.inserted.Seats.{ArePlaced}
use Rattle.reread_put_back.specs.Pens.{Pen, each, is_below, put}
use Rattle.reread_put_back.specs.Rows.{declaration_bit, default_mark, end_of, label_mark, return_bit, statement_bit}
use Rattle.reread_put_back.specs.Back.{Head, back, back_structure, back_effect, back_declarator, back_declared, back_absent, back_head, back_return, back_statement, back_statements}
use Rattle.reread_law_texts.specs.apart.Distinct.{IsDistinct}
use Rattle.reread_law_probes.specs.put.Places.{places, in_effects, in_optional, in_value, in_statement, in_statements}
use Rattle.reread_law_probes.specs.put.Ends.{EndBit, EndMark, EndStart, EndTest, EndEffects, EndValue, EndStatement, EndStatements}
use Rattle.reread_law_probes.specs.put.Takes.{IsSet, IsSetWhere, IsSetUnless, TakesValue, TakesStatement, TakesStatements}
use Rattle.reread_law_probes.proofs.Put.Walked.{Walked, given, has_as, ended, return_ended, put_row, false_true}
use Rattle.reread_law_probes.proofs.Put.Leads.{Leads, leads, statement_leads, statements_lead}
use Rattle.reread_law_probes.proofs.Put.Rest.{rest, statement_rest, start_rest, test_rest, effects_rest}
use Rattle.reread_law_probes.proofs.Put.Expressions.{one, two, three, four, expression_walked, structure_walked}
use Rattle.reread_law_probes.proofs.Put.Effects.{effect_walked, declarators_walked, head_walked}

some_none : {A X : Type 0} (x : A) → Some x ≡ None → X
some_none x e = cc

pub mark_below : (r k : ℕ) → k < r → is_below r (Some k) ≡ true
mark_below r k lt = grind arith

absent_leads : (mark : Option Mark) (ps : List Span) (span : Span) (later : List Row) → Leads ps later → Leads ps (absent_default mark span later)
absent_leads None ps span later l = l
absent_leads (Some m) ps span later l = λ s k round. false_true round

exit_leads : (b : ℕ) (ps : List Span) (span : Span) (later : List Row) → Leads ps (row (what.ValueEnd b) span later)
exit_leads b ps span later s k round = false_true round

module _ (r limit : ℕ) (few : limit ≤ most_bits) where
  -- ---- the probes of statements

  bit_walked : (b : ℕ) (span : Span) (later : List Row) → b < limit → (s : Pen) → ArePlaced (row (what.Statement b) span later) s.left → Walked limit (λ n. EndBit n (Some b)) (Some b) later s (put r statement_bit span s)
  bit_walked b span later g s k =
      has_as limit (λ n. end_of (what.Statement b) ≤ n) (λ n. b < n) (Some b) later s (put r statement_bit span s) (λ n le. omega (arith, le))
      (put_row limit few r (what.Statement b) span span.end later statement_bit b refl refl refl (omega (arith, g)) s k)

  value_walked : (b : ℕ) (span : Span) (later : List Row) → b < limit → (s : Pen) → ArePlaced (row (what.ValueEnd b) span later) s.left → Walked limit (λ n. EndBit n (Some b)) (Some b) later s (put r return_bit span s)
  value_walked b span later g s k =
      has_as limit (λ n. end_of (what.ValueEnd b) ≤ n) (λ n. b < n) (Some b) later s (put r return_bit span s) (λ n le. omega (arith, le))
      (put_row limit few r (what.ValueEnd b) span span.end later return_bit b refl refl refl (omega (arith, g)) s k)

  exit_walked : (b : ℕ) (span : Span) (later : List Row) → b < limit → (s : Pen) → ArePlaced (row (what.Return b) span later) s.left → Walked limit (λ n. EndBit n (Some b)) (Some b) later s (put r return_bit span s)
  exit_walked b span later g s k =
      has_as limit (λ n. end_of (what.Return b) ≤ n) (λ n. b < n) (Some b) later s (put r return_bit span s) (λ n le. omega (arith, le))
      (put_row limit few r (what.Return b) span span.end later return_bit b refl refl refl (omega (arith, g)) s k)

  declared_walked : (i : Bool) (bit : Option ℕ) (span : Span) (later : List Row) → IsSetWhere i bit → EndBit limit bit → (s : Pen) → ArePlaced (counted_declaration bit span later) s.left → Walked limit (λ n. EndBit n bit) bit later s (back_declared r i span s)
  declared_walked true None span later h g s k = absurd h
  declared_walked true (Some b) span later h g s k =
      has_as limit (λ n. end_of (what.Declaration b) ≤ n) (λ n. b < n) (Some b) later s (put r declaration_bit span s) (λ n le. omega (arith, le))
      (put_row limit few r (what.Declaration b) span span.end later declaration_bit b refl refl refl (omega (arith, g)) s k)
  declared_walked false None span later h g s k = given limit None later s k
  declared_walked false (Some b) span later h g s k = some_none b h

  label_walked : (mark : Option Mark) (span : Span) (later : List Row) → IsSet mark → EndMark limit mark → FitsMark r mark → (s : Pen) → ArePlaced (label mark span later) s.left → Walked limit (λ n. EndMark n mark) mark later s (put r label_mark span s)
  label_walked None span later h g f s k = absurd h
  label_walked (Some m) span later h g f s k =
      has_as limit (λ n. end_of (what.Label m.register m.bit) ≤ n) (λ n. m.bit < n) (Some m) later s (put r label_mark span s) (λ n le. omega (arith, le))
      (put_row limit few r (what.Label m.register m.bit) span span.end later label_mark m refl refl (mark_below r m.register f) (omega (arith, g)) s k)

  absent_walked : (i : Bool) (mark : Option Mark) (span : Span) (later : List Row) → IsSetUnless i mark → EndMark limit mark → FitsAbsent r i mark → (s : Pen) → ArePlaced (absent_default mark span later) s.left → Walked limit (λ n. EndMark n mark) mark later s (back_absent r i span s)
  absent_walked true None span later h g f s k = given limit None later s k
  absent_walked true (Some m) span later h g f s k = some_none m h
  absent_walked false None span later h g f s k = absurd h
  absent_walked false (Some m) span later h g f s k =
      has_as limit (λ n. end_of (what.Default m.register m.bit) ≤ n) (λ n. m.bit < n) (Some m) later s (put r default_mark span s) (λ n le. omega (arith, le))
      (put_row limit few r (what.Default m.register m.bit) span span.end later default_mark m refl refl (mark_below r m.register f) (omega (arith, g)) s k)

  -- ---- a `return`

  return_walked : (value : p.ReturnValue) (b e : ℕ) (span : Span) (ps : List Span) (rs : List Row) → b < limit → e < limit → FitsReturn r value → EndValue limit value → TakesValue value → Leads ps rs → IsDistinct (in_value value ps) → (s : Pen) → ArePlaced (row (what.Statement b) span (with_exit e span value rs)) s.left → Walked limit (λ n. EndBit n (Some b) × EndValue n value × EndBit n (Some e)) (p.Return value span (Some b) (Some e)) rs s (back_statement r (t.Return (erase_return value) span) s)
  return_walked p.ReturnNothing b e span ps rs gb ge f g h l d s k =
      return_ended limit span (three limit (put r statement_bit span) (back_return r t.ReturnNothing) (put r return_bit span) (λ x y z. p.Return y span x z) s
      (bit_walked b span (row (what.Return e) span (row what.ReturnEnd span rs)) gb s k)
      (λ u k. given limit p.ReturnNothing (row (what.Return e) span (row what.ReturnEnd span rs)) u k)
      (λ u k. exit_walked e span (row what.ReturnEnd span rs) ge u k))
  return_walked (p.ReturnNumber x) b e span ps rs gb ge f g h l d s k =
      let end : List Row = row (what.ValueEnd e) span rs in
      three limit (put r statement_bit span) (back_return r (t.ReturnNumber (erase_expression x))) (put r return_bit span) (λ x y z. p.Return y span x z) s
      (bit_walked b span (row what.Value span (rows x end)) gb s k)
      (λ u k. one limit (back r (erase_expression x)) (λ y. p.ReturnNumber y) u (expression_walked r limit few x ps end f g h (exit_leads e ps span rs) d u k))
      (λ u k. value_walked e span rs ge u k)
  return_walked (p.ReturnStructure x n) b e span ps rs gb ge f g h l d s k =
      let end : List Row = row (what.ValueEnd e) span rs in
      three limit (put r statement_bit span) (back_return r (t.ReturnStructure (erase_structure x) n)) (put r return_bit span) (λ x y z. p.Return y span x z) s
      (bit_walked b span (row what.Value span (rows_in_structure x end)) gb s k)
      (λ u k. one limit (back_structure r (erase_structure x)) (λ y. p.ReturnStructure y n) u (structure_walked r limit few x ps end f g h (exit_leads e ps span rs) d u k))
      (λ u k. value_walked e span rs ge u k)

  -- ---- statements

  mutual
    pub statement_walked : (x : p.Statement) (ps : List Span) (rs : List Row) → FitsStatement r x → EndStatement limit x → TakesStatement x → Leads ps rs → IsDistinct (in_statement x ps) → (s : Pen) → ArePlaced (rows_in_statement x rs) s.left → Walked limit (λ n. EndStatement n x) x rs s (back_statement r (erase_statement x) s)
    statement_walked (p.Compound items span) ps rs f g h l d s k =
        one limit (back_statements r (erase_statements items)) (λ x. p.Compound x span) s (statements_walked items ps rs f g h l d s k)
    statement_walked (p.Label v span mark) ps rs f g h l d s k =
        one limit (put r label_mark span) (λ x. p.Label v span x) s (label_walked mark span rs h g f s k)
    statement_walked (p.Declaration xs span bit) ps rs f g h l d s k =
        two limit (back_declared r (initializes (map erase_declarator xs)) span) (each (back_declarator r) (map erase_declarator xs)) (λ x y. p.Declaration y span x) s
        (declared_walked (initializes (map erase_declarator xs)) bit span (rows_in_declarators xs rs) h.0 g.0 s k)
        (λ u k. declarators_walked r limit few xs ps rs f.0 g.1 h.1 l d u k)
    statement_walked (p.Null span None) ps rs f g h l d s k = absurd h
    statement_walked (p.Null span (Some b)) ps rs f g h l d s k =
        ended limit span (one limit (put r statement_bit span) (λ x. p.Null span x) s (bit_walked b span (row what.StatementEnd span rs) g s k))
    statement_walked (p.EffectStatement a span None) ps rs f g h l d s k = absurd h.0
    statement_walked (p.EffectStatement a span (Some b)) ps rs f g h l d s k =
        let end : List Row = row what.StatementEnd span rs in
        ended limit span (two limit (put r statement_bit span) (back_effect r (erase_effect a)) (λ x y. p.EffectStatement y span x) s
        (bit_walked b span (rows_in_effect a end) g.0 s k)
        (λ u k. effect_walked r limit few a ps end f g.1 h.1 l d u k))
    statement_walked (p.If e x keyword span None) ps rs f g h l d s k = absurd h.0
    statement_walked (p.If e x keyword span (Some b)) ps rs f g h l d s k =
        let end : List Row = row what.StatementEnd span rs in
        ended limit span (three limit (put r statement_bit span) (back r (erase_expression e)) (back_statement r (erase_statement x)) (λ u v w. p.If v w keyword span u) s
        (bit_walked b span (rows e (rows_in_statement x end)) g.0 s k)
        (λ u k. expression_walked r limit few e (in_statement x ps) (rows_in_statement x end) f.0 g.1 h.1 (statement_leads x ps end h.2 l) d u k)
        (λ u k. statement_walked x ps end f.1 g.2 h.2 l (rest e (in_statement x ps) d) u k))
    statement_walked (p.IfElse e x y keyword span None) ps rs f g h l d s k = absurd h.0
    statement_walked (p.IfElse e x y keyword span (Some b)) ps rs f g h l d s k =
        let end : List Row = row what.StatementEnd span rs in
        let m = statement_leads y ps end h.3 l in
        let c = rest e (in_statement x (in_statement y ps)) d in
        ended limit span (four limit (put r statement_bit span) (back r (erase_expression e)) (back_statement r (erase_statement x)) (back_statement r (erase_statement y)) (λ u v w z. p.IfElse v w z keyword span u) s
        (bit_walked b span (rows e (rows_in_statement x (rows_in_statement y end))) g.0 s k)
        (λ u k. expression_walked r limit few e (in_statement x (in_statement y ps)) (rows_in_statement x (rows_in_statement y end)) f.0 g.1 h.1 (statement_leads x (in_statement y ps) (rows_in_statement y end) h.2 m) d u k)
        (λ u k. statement_walked x (in_statement y ps) (rows_in_statement y end) f.1 g.2 h.2 m c u k)
        (λ u k. statement_walked y ps end f.2 g.3 h.3 l (statement_rest x (in_statement y ps) c) u k))
    statement_walked (p.Switch e items keyword span None absent) ps rs f g h l d s k = absurd h.0
    statement_walked (p.Switch e items keyword span (Some b) absent) ps rs f g h l d s k =
        let end : List Row = row what.StatementEnd span rs in
        let last : List Row = absent_default absent span end in
        let m = absent_leads absent ps span end l in
        ended limit span (four limit (put r statement_bit span) (back r (erase_expression e)) (back_statements r (erase_statements items)) (back_absent r (has_default (erase_statements items)) span) (λ u v w z. p.Switch v w keyword span u z) s
        (bit_walked b span (rows e (rows_in_statements items last)) g.0 s k)
        (λ u k. expression_walked r limit few e (in_statements items ps) (rows_in_statements items last) f.0 g.1 h.1 (statements_lead items ps last h.2 m) d u k)
        (λ u k. statements_walked items ps last f.1 g.2 h.2 m (rest e (in_statements items ps) d) u k)
        (λ u k. absent_walked (has_default (erase_statements items)) absent span end h.3 g.3 f.2 u k))
    statement_walked (p.For start test step x keyword span None) ps rs f g h l d s k = absurd h.0
    statement_walked (p.For start test step x keyword span (Some b)) ps rs f g h l d s k =
        let end : List Row = row what.StatementEnd span rs in
        let ahead : List Span = in_statement x ps in
        let later : List Row = rows_in_statement x end in
        let walk = back_head r (erase_start start) (option_map erase_expression test) (map erase_effect step) in
        let make : Option ℕ → Head → p.Statement → p.Statement = λ u v w. p.For v.start v.test v.step w keyword span u in
        has_as limit
        (λ n. EndBit n (Some b) × (EndStart n start × EndTest n test × EndEffects n step) × EndStatement n x)
        (λ n. EndStatement n (p.For start test step x keyword span (Some b)))
        (p.For start test step x keyword span (Some b)) rs s (back_statement r (erase_statement (p.For start test step x keyword span (Some b))) s)
        (λ n v. (v.0, v.1.0, v.1.1, v.1.2, v.2))
        (ended limit span (three limit (put r statement_bit span) walk (back_statement r (erase_statement x)) make s
        (bit_walked b span (rows_in_start start (rows_in_optional test (rows_in_effects step later))) g.0 s k)
        (λ u k. head_walked r limit few start test step ahead later f.0 f.1 f.2 g.1 g.2 g.3 h.1 h.2 h.3 (statement_leads x ps end h.4 l) d u k)
        (λ u k. statement_walked x ps end f.3 g.4 h.4 l (effects_rest step ahead (test_rest test (in_effects step ahead) (start_rest start (in_optional test (in_effects step ahead)) d))) u k)))
    statement_walked (p.DoWhile x e keyword span None) ps rs f g h l d s k = absurd h.0
    statement_walked (p.DoWhile x e keyword span (Some b)) ps rs f g h l d s k =
        let end : List Row = row what.StatementEnd span rs in
        ended limit span (three limit (put r statement_bit span) (back_statement r (erase_statement x)) (back r (erase_expression e)) (λ u v w. p.DoWhile v w keyword span u) s
        (bit_walked b span (rows_in_statement x (rows e end)) g.0 s k)
        (λ u k. statement_walked x (places e ps) (rows e end) f.0 g.1 h.1 (leads e ps end h.2 l) d u k)
        (λ u k. expression_walked r limit few e ps end f.1 g.2 h.2 l (statement_rest x (places e ps) d) u k))
    statement_walked (p.Break span None) ps rs f g h l d s k = absurd h
    statement_walked (p.Break span (Some b)) ps rs f g h l d s k =
        ended limit span (one limit (put r statement_bit span) (λ x. p.Break span x) s (bit_walked b span (row what.StatementEnd span rs) g s k))
    statement_walked (p.Continue span None) ps rs f g h l d s k = absurd h
    statement_walked (p.Continue span (Some b)) ps rs f g h l d s k =
        ended limit span (one limit (put r statement_bit span) (λ x. p.Continue span x) s (bit_walked b span (row what.StatementEnd span rs) g s k))
    statement_walked (p.Return value span None exit) ps rs f g h l d s k = absurd h.0
    statement_walked (p.Return value span (Some b) None) ps rs f g h l d s k = absurd h.2
    statement_walked (p.Return value span (Some b) (Some e)) ps rs f g h l d s k =
        ended limit span (return_walked value b e span ps (row what.StatementEnd span rs) g.0 g.2 f g.1 h.1 l d s k)

    pub statements_walked : (xs : p.Statements) (ps : List Span) (rs : List Row) → FitStatements r xs → EndStatements limit xs → TakesStatements xs → Leads ps rs → IsDistinct (in_statements xs ps) → (s : Pen) → ArePlaced (rows_in_statements xs rs) s.left → Walked limit (λ n. EndStatements n xs) xs rs s (back_statements r (erase_statements xs) s)
    statements_walked p.no_statements ps rs f g h l d s k = given limit p.no_statements rs s k
    statements_walked (p.statements x xs) ps rs f g h l d s k =
        two limit (back_statement r (erase_statement x)) (back_statements r (erase_statements xs)) (λ a b. p.statements a b) s
        (statement_walked x (in_statements xs ps) (rows_in_statements xs rs) f.0 g.0 h.0 (statements_lead xs ps rs h.1 l) d s k)
        (λ u k. statements_walked xs ps rs f.1 g.1 h.1 l (statement_rest x (in_statements xs ps) d) u k)
