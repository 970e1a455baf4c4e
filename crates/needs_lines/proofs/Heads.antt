-- Which lines begin with a blank.
use Rattle.std.proofs.Common.{◌≡◌, ◌∙◌, ◌+◌, ℕ, Bool, true, false, Option, Some, None, List, [], ◌∷◌, ◌++◌, refl, ap}
use Rattle.std.proofs.lemmas.List.Elements.{filter-append}
use Rattle.std.specs.Prelude.{if◌then◌else◌, filter, not}
use Rattle.mc_cond.specs.Vectors.{Evaluation}
use Rattle.mc_span.specs.declared.span.Span.{Span}
use Rattle.mc_lex.specs.Tokens.{Tok}
use Rattle.mc_probe.specs.Maps.{Mapped}
use Rattle.mc_oblige.specs.declared.obligation.ObligationId.{ObligationId}
use Rattle.mc_oblige.specs.declared.obligation.ObligationId.TheVariants.{Entry, Exit, Statement, Label, Outcome, Condition}
use Rattle.mc_oblige.specs.declared.obligation.Obligation.{Obligation}
use Rattle.needed_paths.specs.declared.need.Need.{Need}
use Rattle.needs_lines.specs.Laws.{EachHasOneHead, is_head}
use Rattle.needs_lines.specs.Needed.{head_line}
use Rattle.needs_lines.specs.Report.{NeedsReport, decision_of}
use Rattle.needs_lines.specs.Conditions.{asked_vectors, condition_lines}
use Rattle.needs_lines.specs.Remarks.{constants, constant_line, first_same, one_text_lines, one_texts, remark_lines}
use Rattle.needs_lines.specs.Parts.{has_name, tokens_in}
use Rattle.needs_lines.specs.Text.{asked_lines, decision_lines, lines_below, obligation_lines}

abbrev heads : List (List ℕ) → List (List ℕ)
heads lines = filter is_head lines

both : (a b : List (List ℕ)) → heads a ≡ [] → heads b ≡ [] → heads (a ++ b) ≡ []
both a b none_a none_b = filter-append is_head a b ∙ ap (λ (l : List (List ℕ)). l ++ heads b) none_a ∙ none_b

of_conditions : (source : List ℕ) (vectors : List Evaluation) (k : ℕ) (spans : List Span) → heads (condition_lines source vectors k spans) ≡ []
of_conditions source vectors k [] = refl
of_conditions source vectors k (span ∷ spans) = of_conditions source vectors (k + 1) spans

of_same : (first : Option ℕ) (later : ℕ) → heads (one_text_lines first later) ≡ []
of_same None later = refl
of_same (Some first) later = refl

of_texts : (tokens : List Tok) (earlier : List Span) (k : ℕ) (spans : List Span) → heads (one_texts tokens earlier k spans) ≡ []
of_texts tokens earlier k [] = refl
of_texts tokens earlier k (span ∷ spans) =
    both (one_text_lines (first_same tokens 1 earlier span) k) (one_texts tokens (earlier ++ span ∷ []) (k + 1) spans) (of_same (first_same tokens 1 earlier span) k) (of_texts tokens (earlier ++ span ∷ []) (k + 1) spans)

if_constant : (b : Bool) (k : ℕ) → heads (if b then constant_line k ∷ [] else []) ≡ []
if_constant true k = refl
if_constant false k = refl

of_constants : (tokens : List Tok) (k : ℕ) (spans : List Span) → heads (constants tokens k spans) ≡ []
of_constants tokens k [] = refl
of_constants tokens k (span ∷ spans) =
    both (if not (has_name (tokens_in tokens span)) then constant_line k ∷ [] else []) (constants tokens (k + 1) spans) (if_constant (not (has_name (tokens_in tokens span))) k) (of_constants tokens (k + 1) spans)

of_decision : (r : NeedsReport) (found : Option Mapped) (need : Option Need) → heads (decision_lines r found need) ≡ []
of_decision r None need = refl
of_decision r (Some m) None = refl
of_decision r (Some m) (Some need) =
    let vectors = asked_vectors m.decision.tree need in
    let spans = m.decision.conditions in
    both (condition_lines r.source vectors 0 spans) (remark_lines r.tokens spans) (of_conditions r.source vectors 0 spans)
    (both (one_texts r.tokens [] 1 spans) (constants r.tokens 1 spans) (of_texts r.tokens [] 1 spans) (of_constants r.tokens 1 spans))

of_below : (r : NeedsReport) (id : ObligationId) (need : Option Need) → heads (lines_below r id need) ≡ []
of_below r (Condition d k) need = of_decision r (decision_of r.decisions (Condition d k)) need
of_below r (Entry k) need = refl
of_below r (Exit k) need = refl
of_below r (Statement k) need = refl
of_below r (Label k) need = refl
of_below r (Outcome d outcome) need = refl

-- a head line begins with a letter
begins : (r : NeedsReport) (o : Obligation) (id : ObligationId) → o.id ≡ id → (need : Option Need) → is_head (head_line r o need) ≡ true
begins r o (Entry k) is need = rw is refl
begins r o (Exit k) is need = rw is refl
begins r o (Statement k) is need = rw is refl
begins r o (Label k) is need = rw is refl
begins r o (Outcome d true) is need = rw is refl
begins r o (Outcome d false) is need = rw is refl
begins r o (Condition d k) is need = rw is refl

headed : (line : List ℕ) (lines : List (List ℕ)) → is_head line ≡ true → heads lines ≡ [] → heads (line ∷ lines) ≡ line ∷ []
headed line lines is none = rw is (ap (λ (l : List (List ℕ)). line ∷ l) none)

of_obligation : (r : NeedsReport) (o : Obligation) (need : Option Need) → heads (obligation_lines r o need) ≡ head_line r o need ∷ []
of_obligation r o need = headed (head_line r o need) (lines_below r o.id need) (begins r o o.id refl need) (of_below r o.id need)

if_asked : (r : NeedsReport) (o : Obligation) (is : Bool) (need : Option Need) → heads (if is then obligation_lines r o need else []) ≡ (if is then head_line r o need ∷ [] else [])
if_asked r o true need = of_obligation r o need
if_asked r o false need = refl

pub one_head : EachHasOneHead
one_head r [] asked needs = refl
one_head r (o ∷ os) [] needs = refl
one_head r (o ∷ os) (is ∷ asked) [] = refl
one_head r (o ∷ os) (is ∷ asked) (need ∷ needs) =
    filter-append is_head (if is then obligation_lines r o need else []) (asked_lines r os asked needs)
    ∙ ap (λ (l : List (List ℕ)). l ++ heads (asked_lines r os asked needs)) (if_asked r o is need)
    ∙ ap (λ (l : List (List ℕ)). (if is then head_line r o need ∷ [] else []) ++ l) (one_head r os asked needs)
