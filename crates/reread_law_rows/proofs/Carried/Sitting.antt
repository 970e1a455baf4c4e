-- Rows that stand where the table puts them: those of a part, and those that follow.
use Rattle.std.proofs.Common.{◌≡◌, ℕ, zero, suc, Bool, true, false, if◌then◌else◌, List, [], ◌∷◌, ◌++◌, Option, Some, None, length, All, refl, sym, ap, subst, ◌∙◌}
use Rattle.std.proofs.lemmas.List.Elements.{All-nil, All-cons}
use Rattle.mc_span.specs.declared.span.Span.{Span}
use Rattle.mc_lex.specs.Tokens.{Tok}
use Rattle.mc_typed.specs.declared.probes.Probe.{Probe}
use Rattle.mc_typed.specs.declared.probes.Probe.TheVariants as probe
use Rattle.decide_rules.specs.Nodes.{Node}
use Rattle.mc_probe.specs.Maps.{Map}
use Rattle.mc_probe.specs.Tree as p
use Rattle.mc_probe.specs.Table.{Stand, operand, inner, wrap}
use Rattle.reread_pieces.specs.declared.piece.What.{What}
use Rattle.reread_pieces.specs.declared.piece.What.TheVariants as what
use Rattle.reread_law_rows.specs.inserted.Rows.{Row, row, row_of_probe, extent, rows}
use Rattle.reread_law_rows.specs.inserted.Fits.{Fits, AllFit, IsOperandAmong}
use Rattle.reread_law_rows.proofs.Signed.Split.{probed_by, openings, endings, rows_probed}
use Rattle.reread_law_rows.proofs.Signed.Wrapped.{own_probes, round_is, probed_both}

pub data Sit (ts : List Tok) : List Row → Type 0 where
  none : Sit ts []
  some : {r : Row} {rest : List Row} → Fits ts r.what r.span → Sit ts rest → Sit ts (r ∷ rest)

pub all_fit : (ts : List Tok) (rs : List Row) → Sit ts rs → AllFit ts rs
all_fit ts [] none = All-nil (λ (r : Row). Fits ts r.what r.span)
all_fit ts (r ∷ rest) (some h t) = All-cons (λ (r : Row). Fits ts r.what r.span) r rest h (all_fit ts rest t)

-- ---- round an expression

round_fits : (ts : List Tok) (q : Probe) (at : Span) → IsOperandAmong ts at → Fits ts (row_of_probe q) at
round_fits ts (probe.Decision r base) at h = h
round_fits ts (probe.Condition r t f) at h = h
round_fits ts (probe.Switch r) at h = h

openings_sit : (ts : List Tok) (qs : List Probe) (at : Span) {later : List Row} → IsOperandAmong ts at → Sit ts later → Sit ts (openings qs at later)
openings_sit ts [] at h s = s
openings_sit ts (q ∷ qs) at h s = some (round_fits ts q at h) (openings_sit ts qs at h s)

pub ended : (ts : List Tok) (n : ℕ) (at : Span) {later : List Row} → Sit ts later → Sit ts (endings n at later)
ended ts zero at s = s
ended ts (suc n) at s = ended ts n at (some tt s)

-- an expression with probes round it
pub node : (ts : List Tok) (qs : List Probe) (x : p.Expression) (mine : List Row) → IsOperandAmong ts (extent x)
    → Sit ts (rows x (endings (length qs) (extent x) mine)) → Sit ts (rows (probed_by qs x) mine)
node ts qs x mine h s = subst (λ rs. Sit ts rs) (sym (rows_probed qs x mine)) (openings_sit ts qs (extent x) h s)

-- What holds with any probes round it holds with these.
pub wrapped : (ts : List Tok) (m : Map) (first : ℕ) (qs : List Probe) (st : Stand) (d : ℕ) (a : Node) (inside : Stand → ℕ → p.Expression) (mine : List Row)
    → ((all : List Probe) → Sit ts (rows (probed_by all (inside (operand st d a) (inner st d a))) mine))
    → Sit ts (rows (probed_by qs (wrap m first st d a inside)) mine)
wrapped ts m first qs st d a inside mine h =
    let x = inside (operand st d a) (inner st d a) in
    let rs = own_probes m first st d a in
    let e = ap (λ y. probed_by qs y) (round_is m first st d a x) ∙ probed_both qs rs x in
    subst (λ y. Sit ts (rows y mine)) (sym e) (h (qs ++ rs))
