-- The walk over functions and programs.
use Rattle.std.proofs.Common.{◌≡◌, ◌==◌, refl, sym, ap, subst, ◌∙◌, ℕ, ◌<◌, ◌≤◌, Bool, true, false, if◌then◌else◌, List, [], ◌∷◌, length, map, Option, Some, None, option_and_then, unwrap_or, arith}
use Rattle.std.proofs.lemmas.Bool.{eqb-true}
use Rattle.mc_limits.specs.Limits.{most_bits}
use Rattle.mc_span.specs.declared.span.Span.{Span}
use Rattle.reread_pieces.specs.declared.piece.What.{What}
use Rattle.reread_pieces.specs.declared.piece.What.TheVariants as what
use Rattle.reread_pieces.specs.declared.placed.Placed.{Placed}
use Rattle.mc_probe.specs.Erase.{erase, erase_function, erase_statements}
use Rattle.mc_probe.specs.Tree as p
use Rattle.mc_probe.specs.WellFormed.{FitStatements, FitFunctions}
use Rattle.reread_law_rows.specs.inserted.Rows.{Row, of_function, entry_row, exit_row, rows_in_statements, rows_in_function, rows_in_functions}
use Rattle.reread_law_rows.specs.inserted.Seats.{ArePlaced}
use Rattle.reread_put_back.specs.Pens.{Pen, Walk, begun, each, gives, is_same, next_at, put, put_found, ◌>>=◌}
use Rattle.reread_put_back.specs.Rows.{end_of, entry_bit, exit_bit, register_count}
use Rattle.reread_put_back.specs.Back.{back_function, back_statements, faults, first_fault, unless}
use Rattle.reread_law_texts.specs.apart.Distinct.{IsDistinct}
use Rattle.reread_law_probes.specs.put.Places.{in_statements, in_functions}
use Rattle.reread_law_probes.specs.put.Ends.{EndBit, EndFunction, EndFunctions}
use Rattle.reread_law_probes.specs.put.Takes.{IsSet, TakesFunction, TakesFunctions}
use Rattle.reread_law_probes.specs.put.Laws.{ProbesArePutBack}
use Rattle.reread_law_probes.proofs.Put.Walked.{IsFront, Walked, false_true, front, given, has_as, is_nonempty, put_row, in_turn}
use Rattle.reread_law_probes.proofs.Put.Leads.{Leads}
use Rattle.reread_law_probes.proofs.Put.Rest.{statements_rest}
use Rattle.reread_law_probes.proofs.Put.Expressions.{two, three}
use Rattle.reread_law_probes.proofs.Put.Statements.{statements_walked}

-- ---- no row of a kind at the front

-- the next probe, at whichever place, is none that `wanted` knows
abbrev IsNone : {A : Type 0} → (What → Option A) → List Row → Type 0
IsNone wanted rs = (span : Span) (left : List Placed) → ArePlaced rs left → option_and_then wanted (next_at span left) ≡ None

either : {A : Type 0} (wanted : What → Option A) (b : Bool) (v : What) → wanted v ≡ None → option_and_then wanted (if b then Some v else None) ≡ None
either wanted true v h = h
either wanted false v h = refl

front_none : {A : Type 0} (wanted : What → Option A) (w : What) (place span : Span) (later : List Row) (left : List Placed) → wanted w ≡ None → IsFront w place later left → option_and_then wanted (next_at span left) ≡ None
front_none wanted w place span later left h f =
    subst (λ (l : List Placed). option_and_then wanted (next_at span l) ≡ None) (sym f.whole)
    (either wanted (is_same f.first.span span) f.first.what (ap wanted f.what ∙ h))

end_none : {A : Type 0} (wanted : What → Option A) → IsNone wanted []
end_none wanted span [] h = refl
end_none wanted span (q ∷ rest) h = false_true (sym (ap is_nonempty h))

entry_none : {A : Type 0} (wanted : What → Option A) → ((b : ℕ) → wanted (what.Entry b) ≡ None) → (f : p.Function) (entry : Option ℕ) (later : List Row) → IsSet entry → IsNone wanted (entry_row f entry later)
entry_none wanted none f None later h span left k = absurd h
entry_none wanted none f (Some b) later h span left k =
    front_none wanted (what.Entry b) f.name_span span later left (none b) (front (what.Entry b) f.name_span f.closing.end later left refl k)

abbrev counted : p.Function → ℕ → Bool → List Row → List Row
counted f n none later = if none then later else of_function f (what.Registers n) later

counted_none : {A : Type 0} (wanted : What → Option A) → ((n : ℕ) → wanted (what.Registers n) ≡ None) → (f : p.Function) (n : ℕ) (b : Bool) (later : List Row) → IsNone wanted later → IsNone wanted (counted f n b later)
counted_none wanted none f n true later h span left k = h span left k
counted_none wanted none f n false later h span left k =
    front_none wanted (what.Registers n) f.name_span span later left (none n) (front (what.Registers n) f.name_span f.closing.end later left refl k)

functions_none : (fs : List p.Function) → TakesFunctions fs → IsNone exit_bit (rows_in_functions fs [])
functions_none [] h = end_none exit_bit
functions_none (f ∷ fs) h =
    let later : List Row = rows_in_statements f.body (exit_row f f.exit (rows_in_functions fs [])) in
    counted_none exit_bit (λ n. refl) f f.registers (f.registers == 0) (entry_row f f.entry later)
    (entry_none exit_bit (λ b. refl) f f.entry later h.0.0)

-- ---- what leads

entry_leads : (f : p.Function) (entry : Option ℕ) (ps : List Span) (later : List Row) → IsSet entry → Leads ps (entry_row f entry later)
entry_leads f None ps later h = absurd h
entry_leads f (Some b) ps later h = λ s k round. false_true round

counted_leads : (f : p.Function) (n : ℕ) (b : Bool) (ps : List Span) (later : List Row) → Leads ps later → Leads ps (counted f n b later)
counted_leads f n true ps later l = l
counted_leads f n false ps later l = λ s k round. false_true round

exit_leads : (f : p.Function) (exit : Option ℕ) (ps : List Span) (later : List Row) → Leads ps later → Leads ps (exit_row f exit later)
exit_leads f None ps later l = l
exit_leads f (Some b) ps later l = λ s k round. false_true round

functions_lead : (fs : List p.Function) → TakesFunctions fs → Leads (in_functions fs []) (rows_in_functions fs [])
functions_lead [] h = λ s k. tt
functions_lead (f ∷ fs) h =
    let later : List Row = rows_in_statements f.body (exit_row f f.exit (rows_in_functions fs [])) in
    counted_leads f f.registers (f.registers == 0) (in_functions (f ∷ fs) []) (entry_row f f.entry later)
    (entry_leads f f.entry (in_functions (f ∷ fs) []) later h.0.0)

-- ---- the walk

abbrev count_of : ℕ → Bool → Option ℕ
count_of n none = if none then None else Some n

count_by : (n : ℕ) (b : Bool) → (b ≡ true → n ≡ 0) → unwrap_or (count_of n b) 0 ≡ n
count_by n true h = sym (h refl)
count_by n false h = refl

count_is : (n : ℕ) → unwrap_or (count_of n (n == 0)) 0 ≡ n
count_is n = count_by n (n == 0) (eqb-true n 0)

module _ (limit : ℕ) (few : limit ≤ most_bits) where
  none_walked : {A : Type 0} (wanted : What → Option A) (span : Span) (later : List Row) → IsNone wanted later → (s : Pen) → ArePlaced later s.left → Walked limit (λ n. Unit {0}) None later s (put 0 wanted span s)
  none_walked {A = A} wanted span later h s k =
      subst (λ (o : Option A). Walked limit (λ n. Unit {0}) None later s (put_found 0 o s)) (sym (h span s.left k)) (given limit None later s k)

  count_walked : (f : p.Function) (n : ℕ) (b : Bool) (later : List Row) → IsNone register_count later → (s : Pen) → ArePlaced (counted f n b later) s.left → Walked limit (λ n. Unit {0}) (count_of n b) later s (put 0 register_count f.name_span s)
  count_walked f n true later h s k = none_walked register_count f.name_span later h s k
  count_walked f n false later h s k =
      has_as limit (λ m. end_of (what.Registers n) ≤ m) (λ m. Unit {0}) (Some n) later s (put 0 register_count f.name_span s) (λ m le. tt)
      (put_row limit few 0 (what.Registers n) f.name_span f.closing.end later register_count n refl refl refl (omega arith) s k)

  entry_walked : (f : p.Function) (entry : Option ℕ) (later : List Row) → IsSet entry → EndBit limit entry → (s : Pen) → ArePlaced (entry_row f entry later) s.left → Walked limit (λ n. EndBit n entry) entry later s (put 0 entry_bit f.name_span s)
  entry_walked f None later h g s k = absurd h
  entry_walked f (Some b) later h g s k =
      has_as limit (λ n. end_of (what.Entry b) ≤ n) (λ n. b < n) (Some b) later s (put 0 entry_bit f.name_span s) (λ n le. omega (arith, le))
      (put_row limit few 0 (what.Entry b) f.name_span f.closing.end later entry_bit b refl refl refl (omega (arith, g)) s k)

  exit_walked : (f : p.Function) (exit : Option ℕ) (later : List Row) → IsNone exit_bit later → EndBit limit exit → (s : Pen) → ArePlaced (exit_row f exit later) s.left → Walked limit (λ n. EndBit n exit) exit later s (put 0 exit_bit f.name_span s)
  exit_walked f None later h g s k = none_walked exit_bit f.name_span later h s k
  exit_walked f (Some b) later h g s k =
      has_as limit (λ n. end_of (what.Exit b) ≤ n) (λ n. b < n) (Some b) later s (put 0 exit_bit f.name_span s) (λ n le. omega (arith, le))
      (put_row limit few 0 (what.Exit b) f.name_span f.closing.end later exit_bit b refl refl refl (omega (arith, g)) s k)

  -- a function that has so many registers, from its entry on
  abbrev from_entry : p.Function → ℕ → Walk p.Function
  from_entry f registers =
      put 0 entry_bit f.name_span >>= (λ entry.
      back_statements registers (erase_statements f.body) >>= (λ body.
      put 0 exit_bit f.name_span >>= (λ exit.
      gives (record {
        name = f.name;
        name_span = f.name_span;
        parameters = f.parameters;
        result = f.result;
        objects = f.objects;
        body = body;
        closing = f.closing;
        registers = registers;
        entry = entry;
        exit = exit;
      }))))

  from_entry_walked : (f : p.Function) (ps : List Span) (rs : List Row) → FitStatements f.registers f.body → EndFunction limit f → TakesFunction f → Leads ps rs → IsNone exit_bit rs → IsDistinct (in_statements f.body ps) → (s : Pen) → ArePlaced (entry_row f f.entry (rows_in_statements f.body (exit_row f f.exit rs))) s.left → Walked limit (λ n. EndFunction n f) f rs s (from_entry f f.registers s)
  from_entry_walked f ps rs fits g h l none d s k =
      let make : Option ℕ → p.Statements → Option ℕ → p.Function = λ entry body exit. record {
        name = f.name;
        name_span = f.name_span;
        parameters = f.parameters;
        result = f.result;
        objects = f.objects;
        body = body;
        closing = f.closing;
        registers = f.registers;
        entry = entry;
        exit = exit;
      } in
      let end : List Row = exit_row f f.exit rs in
      three limit (put 0 entry_bit f.name_span) (back_statements f.registers (erase_statements f.body)) (put 0 exit_bit f.name_span) make s
      (entry_walked f f.entry (rows_in_statements f.body end) h.0 g.0 s k)
      (λ u k. statements_walked f.registers limit few f.body ps end fits g.1 h.1 (exit_leads f f.exit ps rs l) d u k)
      (λ u k. exit_walked f f.exit rs none g.2 u k)

  function_walked : (f : p.Function) (ps : List Span) (rs : List Row) → FitStatements f.registers f.body → EndFunction limit f → TakesFunction f → Leads ps rs → IsNone exit_bit rs → IsDistinct (in_statements f.body ps) → (s : Pen) → ArePlaced (rows_in_function f rs) s.left → Walked limit (λ n. EndFunction n f) f rs s (back_function (erase_function f) s)
  function_walked f ps rs fits g h l none d s k =
      let later : List Row = entry_row f f.entry (rows_in_statements f.body (exit_row f f.exit rs)) in
      let next : Option ℕ → Walk p.Function = λ count. from_entry f (unwrap_or count 0) in
      has_as limit (λ n. Unit {0} × EndFunction n f) (λ n. EndFunction n f) f rs s (back_function (erase_function f) s) (λ n v. v.1)
      (in_turn limit (λ n. Unit {0}) (λ n. EndFunction n f) (count_of f.registers (f.registers == 0)) f later rs (put 0 register_count f.name_span) next s
      (count_walked f f.registers (f.registers == 0) later (entry_none register_count (λ b. refl) f f.entry (rows_in_statements f.body (exit_row f f.exit rs)) h.0) s k)
      (λ u k. subst (λ (n : ℕ). Walked limit (λ n. EndFunction n f) f rs u (from_entry f n u)) (sym (count_is f.registers))
      (from_entry_walked f ps rs fits g h l none d u k)))

  functions_walked : (fs : List p.Function) → FitFunctions fs → EndFunctions limit fs → TakesFunctions fs → IsDistinct (in_functions fs []) → (s : Pen) → ArePlaced (rows_in_functions fs []) s.left → Walked limit (λ n. EndFunctions n fs) fs [] s (each back_function (map erase_function fs) s)
  functions_walked [] f g h d s k = given limit [] [] s k
  functions_walked (x ∷ xs) f g h d s k =
      two limit (back_function (erase_function x)) (each back_function (map erase_function xs)) (λ a b. a ∷ b) s
      (function_walked x (in_functions xs []) (rows_in_functions xs []) f.0 g.0 h.0 (functions_lead xs h.1) (functions_none xs h.1) d s k)
      (λ u k. functions_walked xs f.1 g.1 h.1 (statements_rest x.body (in_functions xs []) d) u k)

-- ---- programs

none_left : (left : List Placed) → ArePlaced [] left → left ≡ []
none_left [] h = refl
none_left (q ∷ rest) h = false_true (sym (ap is_nonempty h))

pub put_back_is : ProbesArePutBack
put_back_is tree placed q h =
    let fs : List p.Function = tree.program.functions in
    let out : List p.Function × Pen = each back_function (map erase_function fs) (begun placed) in
    let w : Walked tree.bits (λ n. EndFunctions n fs) fs [] (begun placed) out =
    functions_walked tree.bits q.few fs q.fits q.ends q.takes q.apart (begun placed) h in
    let within : out.1.bits ≤ tree.bits = w.within (omega arith) in
    let bits : tree.bits ≤ out.1.bits = q.least out.1.bits (w.has out.1.bits (omega arith)) in
    let same : out.1.bits ≡ tree.bits = omega (arith, within, bits) in
    let left : out.1.left ≡ [] = none_left out.1.left w.left in
    λ i. unless (first_fault (faults (length placed) (erase tree.program)) placed (left i) (w.fault i)) (record {
      program = record {
        functions = w.value i;
        statics = tree.program.statics;
        structures = tree.program.structures;
      };
      bits = same i;
    })
