use Rattle.std.proofs.Common.{ℕ, ap, arith}
use Rattle.mc_span.specs.declared.span.Span.{Span}
use Rattle.reread_law_probes.proofs.laws.put.table_of_a_function.Goals as goal

pub returns : goal.returns
returns c = (
  (((tt, tt, tt, tt), tt), tt),
  (
    ((λ e. let ends = ap (λ (s : Span). s.end) e in omega (arith, ends)), ((λ e. let starts = ap (λ (s : Span). s.start) e in omega (arith, starts)), tt)),
    (((λ e. let starts = ap (λ (s : Span). s.start) e in omega (arith, starts)), tt), (tt, tt)),
  ),
  record {
    ends = ((omega arith, ((omega arith, (omega arith, ((omega arith, tt), (omega arith, tt))), omega arith), tt), tt), tt);
    least = λ n h. let last = h.0.1.0.1.0 in omega (arith, last);
  },
)
