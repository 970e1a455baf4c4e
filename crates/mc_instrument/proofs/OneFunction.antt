-- A copy of one function.
use Rattle.std.proofs.Common.{◌≡◌, ◌∙◌, refl, sym, ap, ℕ, ◌+◌, ◌<◌, ◌^◌, Bool, true, false, if◌then◌else◌, List, Option, Some, None, arith}
use Rattle.mc_typed.specs.Tree as t
use Rattle.mc_steps.specs.Points.{Points, ◌⊕◌, all_complete, points_of_all, points_of_function, where_completes}
use Rattle.mc_probe.specs.Maps.{Map, exit_bit}
use Rattle.mc_probe.specs.Switches.{switches_all}
use Rattle.mc_probe.specs.Table.{At, decisions_in, put_function, put_statements}
use Rattle.mc_probe.specs.Tree as p
use Rattle.mc_instrument.specs.declared.copies.statements.At as code
use Rattle.mc_instrument.specs.steps.Counters.{at_of, past_all, taken_by_function, StandsAt}
use Rattle.mc_instrument.proofs.Puts.{same_at}

-- the counters as the body begins
abbrev pub entered : code.At → ℕ → code.At
entered old decisions = record {
  exit = old.exit;
  statement = old.statement;
  label = old.label;
  decision = 0;
  switch = decisions;
}

module _ (m : Map) (first number : ℕ) (q : Points) (f : t.Function) (old mid : code.At) (decisions : ℕ) (stands : StandsAt m q old) (count : decisions ≡ decisions_in f) (passed : at_of m first mid ≡ past_all m first f.body (at_of m first (entered old decisions))) where
  at_end : mid.exit ≡ exit_bit m (q.exits + (points_of_all f.body).exits)
  at_end =
      let one = stands.exit in
      let two : mid.exit ≡ old.exit + (points_of_all f.body).exits = ap (λ (a : At m first). a.exit) passed in
      omega (arith, one, two)

  pub function_put : (parameters : List t.ParameterType) (gives : t.ResultType) (objects : List t.Object) (body : p.Statements) (exit : Option ℕ) → parameters ≡ f.parameters → gives ≡ f.result → objects ≡ f.objects → body ≡ put_statements m first 0 (at_of m first (entered old decisions)) f.body → exit ≡ (if all_complete f.body then Some mid.exit else None) →
      record {
        name = f.name;
        name_span = f.name_span;
        parameters = parameters;
        result = gives;
        objects = objects;
        body = body;
        closing = f.closing;
        registers = mid.switch;
        entry = Some number;
        exit = exit;
      } ≡ put_function m number first q f
  function_put parameters gives objects body exit ps r os b e =
      let start = same_at m first (at_of m first (entered old decisions)) _ stands.exit stands.statement stands.label refl count in
      let whole = b ∙ ap (λ (a : At m first). put_statements m first 0 a f.body) start in
      let registers = ap (λ (a : At m first). a.switch) passed ∙ ap (λ (k : ℕ). k + switches_all f.body) count in
      let left = e ∙ ap (λ (k : ℕ). if all_complete f.body then Some k else None) at_end in
      λ i. record {
        name = f.name;
        name_span = f.name_span;
        parameters = ps i;
        result = r i;
        objects = os i;
        body = whole i;
        closing = f.closing;
        registers = registers i;
        entry = Some number;
        exit = left i;
      }

  no_statements : (b : Bool) → (where_completes b).statements ≡ 0
  no_statements true = refl
  no_statements false = refl

  no_labels : (b : Bool) → (where_completes b).labels ≡ 0
  no_labels true = refl
  no_labels false = refl

  pub function_past : (after : code.At) → after.exit ≡ mid.exit + (where_completes (all_complete f.body)).exits → after.statement ≡ mid.statement → after.label ≡ mid.label → StandsAt m (q ⊕ points_of_function f) after
  function_past after e s l =
      let two : mid.statement ≡ old.statement + (points_of_all f.body).statements = ap (λ (a : At m first). a.statement) passed in
      let three : mid.label ≡ old.label + (points_of_all f.body).labels = ap (λ (a : At m first). a.label) passed in
      let no = no_statements (all_complete f.body) in
      let none = no_labels (all_complete f.body) in
      let a = stands.statement in
      let b = stands.label in
      record {
        exit = omega (arith, e, at_end);
        statement = omega (arith, s, two, no, a);
        label = omega (arith, l, three, none, b);
      }

-- there is room for the exit at the closing brace
pub closing_fits : (f : t.Function) (old : code.At) (mid : ℕ) → old.exit + old.statement + old.label + taken_by_function f < 2 ^ 32 → mid ≡ old.exit + (points_of_all f.body).exits → mid + (where_completes (all_complete f.body)).exits < 2 ^ 32
closing_fits f old mid room is = omega (arith, room, is)
