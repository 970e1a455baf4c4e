-- The pieces of a text, as a relation and as a function.
use Rattle.std.proofs.Common.{◌≡◌, ℕ, zero, suc, ◌+◌, ◌-◌, ◌<◌, ◌≤◌, List, [], ◌∷◌, ◌++◌, length, Option, Some, None, Result, Ok, Err, Vec, refl, ap, subst, sym, ◌∙◌, arith, append_assoc}
use Rattle.std.specs.Prelude.{IfOk, MatchResult, option_map}
use Rattle.std.specs.Result.{IsErr, IsErrAnd}
use Rattle.std.specs.Global.{Global}
use Rattle.mc_lex.specs.Tokens.{Tok}
use Rattle.reread_pieces.specs.declared.bracket.Bracket.{Bracket}
use Rattle.reread_pieces.specs.declared.piece.What.{What}
use Rattle.reread_pieces.specs.declared.piece.What.TheVariants as what
use Rattle.reread_pieces.specs.declared.piece.Piece.{Piece}
use Rattle.reread_pieces.specs.declared.fault.ShapeFault.{ShapeFault}
use Rattle.reread_pieces.specs.declared.fault.ShapeFault.TheVariants as fault
use Rattle.reread_pieces.specs.Rows.{after_tokens}
use Rattle.reread_pieces.specs.Pieces.{Here, Mark, Shaped, ArePieces, start, size, later, passed, next}
use Rattle.reread_pieces.specs.Pieces as p
use Rattle.reread_pieces.specs.steps.Views.{mark_of, marks_of}
use Rattle.reread_pieces.specs.steps.Runs.{closed, added_to, go_on, run, Gives, GivesFault, StepFails}

-- ---- one after the other

added_to_more : (before : List Mark) (m : Mark) (o : Option (List Mark)) → added_to before (added_to (m ∷ []) o) ≡ added_to (before ++ m ∷ []) o
added_to_more before m None = refl
added_to_more before m (Some qs) = ap Some (sym (append_assoc before (m ∷ []) qs))

pub added_to_nothing : (o : Option (List Mark)) → o ≡ added_to [] o
added_to_nothing None = refl
added_to_nothing (Some qs) = refl

some_same : (ps qs : List Mark) → Some ps ≡ Some qs → ps ≡ qs
some_same ps qs e = cc

none_some : (ps : List Mark) → None ≡ Some ps → ⊥
none_some ps e = cc

no_mark : (m : Mark) → None ≡ Some m → ⊥
no_mark m e = cc

-- ---- one turn

turned : (fuel : ℕ) (h : Here) (ts : List Tok) (m : Mark) → next h ts ≡ Some m
    → run (suc fuel) h ts ≡ added_to (m ∷ []) (run fuel (passed h m ts) (later h m.row ts))
turned fuel h [] m e = absurd (no_mark m e)
turned fuel h (t ∷ ts) m e = ap (go_on (run fuel) h (t ∷ ts)) e

pub stepped : (fuel : ℕ) (h g : Here) (ts us : List Tok) (before marks : List Mark) (m : Mark) → next h ts ≡ Some m
    → marks ≡ before ++ m ∷ [] → g ≡ passed h m ts → us ≡ later h m.row ts → added_to before (run (suc fuel) h ts) ≡ added_to marks (run fuel g us)
stepped fuel h g ts us before marks m e em eg eu =
    ap (added_to before) (turned fuel h ts m e)
    ∙ added_to_more before m (run fuel (passed h m ts) (later h m.row ts))
    ∙ sym (ap (λ ps. added_to ps (run fuel g us)) em ∙ ap (λ f. added_to (before ++ m ∷ []) (run fuel f us)) eg ∙ ap (λ l. added_to (before ++ m ∷ []) (run fuel (passed h m ts) l)) eu)

pub stuck : (fuel : ℕ) (h : Here) (ts : List Tok) → 0 < length ts → next h ts ≡ None → run (suc fuel) h ts ≡ None
stuck fuel h [] some e = absurd (omega (arith, some))
stuck fuel h (t ∷ ts) some e = ap (go_on (run fuel) h (t ∷ ts)) e

-- ---- the end of the run

closed_none : (bs : List Bracket) → bs ≡ [] → closed bs ≡ Some []
closed_none bs e = ap closed e

closed_some : (bs : List Bracket) → 0 < length bs → closed bs ≡ None
closed_some [] h = absurd (omega (arith, h))
closed_some (b ∷ bs) h = refl

no_tokens : (ts : List Tok) → length ts ≡ 0 → ts ≡ []
no_tokens [] e = refl
no_tokens (t ∷ ts) e = absurd (omega (arith, e))

at_end : (fuel : ℕ) (h : Here) → run fuel h [] ≡ closed h.brackets
at_end zero h = refl
at_end (suc fuel) h = refl

nothing_more : (ms : List Mark) → added_to ms (Some []) ≡ Some ms
nothing_more [] = refl
nothing_more (m ∷ ms) = ap (λ (o : Option (List Mark)). added_to (m ∷ []) o) (nothing_more ms)

pub ended : (h : Here) (ts : List Tok) (marks : List Mark) → length ts ≡ 0 → length h.brackets ≡ 0 → added_to marks (run 0 h ts) ≡ Some marks
ended h ts marks e b =
    ap (λ l. added_to marks (run 0 h l)) (no_tokens ts e)
    ∙ ap (added_to marks) (by_brackets h.brackets b)
    ∙ nothing_more marks
  where
    by_brackets : (bs : List Bracket) → length bs ≡ 0 → closed bs ≡ Some []
    by_brackets [] e = refl
    by_brackets (b ∷ bs) e = absurd (omega (arith, e))

pub tokens_left : (h : Here) (ts : List Tok) (marks : List Mark) → 0 < length ts → added_to marks (run 0 h ts) ≡ None
tokens_left h [] marks e = absurd (omega (arith, e))
tokens_left h (t ∷ ts) marks e = refl

pub left_open : (h : Here) (ts : List Tok) (marks : List Mark) → 0 < length h.brackets → added_to marks (run 0 h ts) ≡ None
left_open h [] marks b = ap (added_to marks) (closed_some h.brackets b)
left_open h (t ∷ ts) marks b = refl

pub any_fuel : (fuel : ℕ) (h : Here) (ts : List Tok) → length ts ≡ 0 → run fuel h ts ≡ run 0 h ts
any_fuel fuel h ts e = ap (run fuel h) (no_tokens ts e) ∙ at_end fuel h ∙ sym (ap (run 0 h) (no_tokens ts e))

-- ---- the run is sound

closed_all : (bs : List Bracket) (ps : List Mark) → closed bs ≡ Some ps → (bs ≡ []) × ([] ≡ ps)
closed_all [] ps e = (refl, some_same [] ps e)
closed_all (b ∷ bs) ps e = absurd (none_some ps e)

nothing_left : (h : Here) (ps : List Mark) → (h.brackets ≡ []) × ([] ≡ ps) → Shaped h [] ps
nothing_left h ps both = subst (Shaped h []) both.1 (p.ends both.0)

module _ (h : Here) (ts : List Tok) (ps : List Mark) where
  by_more : (m : Mark) → next h ts ≡ Some m
      → (o : Option (List Mark)) → ((qs : List Mark) → o ≡ Some qs → Shaped (passed h m ts) (later h m.row ts) qs)
      → added_to (m ∷ []) o ≡ Some ps → Shaped h ts ps
  by_more m q None more e = absurd (none_some ps e)
  by_more m q (Some qs) more e = subst (Shaped h ts) (some_same (m ∷ qs) ps e) (p.piece q (more qs refl))

  by_piece : (fuel : ℕ) → ((g : Here) (us : List Tok) (qs : List Mark) → run fuel g us ≡ Some qs → Shaped g us qs)
      → (o : Option Mark) → next h ts ≡ o → go_on (run fuel) h ts o ≡ Some ps → Shaped h ts ps
  by_piece fuel more None q e = absurd (none_some ps e)
  by_piece fuel more (Some m) q e =
      by_more m q (run fuel (passed h m ts) (later h m.row ts)) (λ qs s. more (passed h m ts) (later h m.row ts) qs s) e

pub sound : (fuel : ℕ) (h : Here) (ts : List Tok) (ps : List Mark) → run fuel h ts ≡ Some ps → Shaped h ts ps
sound zero h [] ps e = nothing_left h ps (closed_all h.brackets ps e)
sound (suc fuel) h [] ps e = nothing_left h ps (closed_all h.brackets ps e)
sound zero h (t ∷ ts) ps e = absurd (none_some ps e)
sound (suc fuel) h (t ∷ ts) ps e = by_piece h (t ∷ ts) ps fuel (λ g us qs s. sound fuel g us qs s) (next h (t ∷ ts)) refl e

-- ---- and complete

shorter : (n : ℕ) (ts : List Tok) → length (after_tokens n ts) ≤ length ts
shorter zero [] = omega arith
shorter (suc n) [] = omega arith
shorter zero (t ∷ ts) = omega arith
shorter (suc n) (t ∷ ts) = omega (arith, shorter n ts)

shorter_by_one : (n : ℕ) (ts : List Tok) → 0 < n → 0 < length ts → length (after_tokens n ts) < length ts
shorter_by_one zero ts h some = absurd (omega (arith, h))
shorter_by_one (suc n) [] h some = absurd (omega (arith, some))
shorter_by_one (suc n) (t ∷ ts) h some = omega (arith, shorter n ts)

has_tokens : (value : List (List ℕ)) (w : What) → 0 < size value w
has_tokens value what.Source = omega arith
has_tokens value (what.Opening b) = omega arith
has_tokens value what.Closing = omega arith
has_tokens value (what.Registers count) = omega arith
has_tokens value (what.Entry bit) = omega arith
has_tokens value (what.Exit bit) = omega arith
has_tokens value (what.Declaration bit) = omega arith
has_tokens value (what.Label register bit) = omega arith
has_tokens value (what.Default register bit) = omega arith
has_tokens value (what.Statement bit) = omega arith
has_tokens value what.StatementEnd = omega arith
has_tokens value what.Value = omega arith
has_tokens value (what.ValueEnd bit) = omega arith
has_tokens value (what.Return bit) = omega arith
has_tokens value what.ReturnEnd = omega arith
has_tokens value (what.Decision register base) = omega arith
has_tokens value (what.Condition register on_true on_false) = omega arith
has_tokens value (what.Switch register) = omega arith
has_tokens value what.OperandEnd = omega arith

is_there : (h : Here) (ts : List Tok) (m : Mark) → next h ts ≡ Some m → 0 < length ts
is_there h [] m e = absurd (no_mark m e)
is_there h (t ∷ ts) m e = omega arith

pub complete : {h : Here} {ts : List Tok} {ps : List Mark} → Shaped h ts ps → (fuel : ℕ) → length ts < fuel → run fuel h ts ≡ Some ps
complete (p.ends {h = h} e) zero lt = closed_none h.brackets e
complete (p.ends {h = h} e) (suc fuel) lt = closed_none h.brackets e
complete (p.piece {h = h} {m = m} {ts = ts} {ps = ps} e s) zero lt = absurd (omega (arith, lt))
complete (p.piece {h = h} {m = m} {ts = ts} {ps = ps} e s) (suc fuel) lt =
    turned fuel h ts m e
    ∙ ap (added_to (m ∷ []))
    (complete s fuel (omega (arith, lt, shorter_by_one (size h.value m.row) ts (has_tokens h.value m.row) (is_there h ts m e))))

-- ---- the clauses

pub found_of : (fuel : ℕ) (ts : List Tok) (r : Result (Vec Piece Global) ShapeFault) → Gives (run fuel (start ts) ts) r
    → IfOk r (λ v. ArePieces ts (marks_of v.items))
found_of fuel ts (Ok v) g = sound fuel (start ts) ts (marks_of v.items) g
found_of fuel ts (Err e) g = tt

pub only_of : (fuel : ℕ) (ts : List Tok) (ps : List Mark) (r : Result (Vec Piece Global) ShapeFault) → length ts < fuel → Gives (run fuel (start ts) ts) r
    → ArePieces ts ps → MatchResult r (λ v. marks_of v.items ≡ ps) (λ e. e ≡ fault.OutOfMemory)
only_of fuel ts ps (Ok v) lt g s = some_same (marks_of v.items) ps (sym g ∙ complete s fuel lt)
only_of fuel ts ps (Err fault.OutOfMemory) lt g s = refl
only_of fuel ts ps (Err (fault.Shape at)) lt g s = absurd (none_some ps (sym g ∙ complete s fuel lt))

-- ---- the calls of the code

pub found_piece : (h : Here) (ts : List Tok) (r : Option Piece) (x : Piece) → option_map mark_of r ≡ next h ts → r ≡ Some x → next h ts ≡ Some (mark_of x)
found_piece h ts r x e is = sym e ∙ ap (option_map mark_of) is

pub no_piece : (h : Here) (ts : List Tok) (r : Option Piece) → option_map mark_of r ≡ next h ts → r ≡ None → next h ts ≡ None
no_piece h ts r e is = sym e ∙ ap (option_map mark_of) is

pub gives_ended : (whole : Option (List Mark)) (marks : List Mark) (fuel : ℕ) (h : Here) (ts : List Tok) (r : Result (Vec Piece Global) ShapeFault)
    → whole ≡ added_to marks (run fuel h ts) → length ts ≡ 0 → Gives (added_to marks (run 0 h ts)) r → Gives whole r
gives_ended whole marks fuel h ts r same e g = subst (λ o. Gives o r) (sym (same ∙ ap (added_to marks) (any_fuel fuel h ts e))) g

pub gives_out : (whole : Option (List Mark)) (marks : List Mark) (fuel : ℕ) (h : Here) (ts : List Tok) (r : Result (Vec Piece Global) ShapeFault)
    → whole ≡ added_to marks (run fuel h ts) → fuel ≡ 0 → Gives (added_to marks (run 0 h ts)) r → Gives whole r
gives_out whole marks fuel h ts r same e g = subst (λ o. Gives o r) (sym (same ∙ ap (λ k. added_to marks (run k h ts)) e)) g

pub turn_on : (whole : Option (List Mark)) (before marks : List Mark) (n k : ℕ) (h g : Here) (ts us : List Tok)
    → whole ≡ added_to before (run (n - k) h ts) → k < n
    → ((fuel : ℕ) → added_to before (run (suc fuel) h ts) ≡ added_to marks (run fuel g us))
    → whole ≡ added_to marks (run (n - (k + 1)) g us)
turn_on whole before marks n k h g ts us same lt step =
    let more : n - k ≡ suc (n - (k + 1)) = omega arith in
    same ∙ ap (λ f. added_to before (run f h ts)) more ∙ step (n - (k + 1))

pub failed : (whole : Option (List Mark)) (before : List Mark) (n k : ℕ) (h : Here) (ts : List Tok) (e : ShapeFault)
    → whole ≡ added_to before (run (n - k) h ts) → k < n → ((fuel : ℕ) → StepFails (run (suc fuel) h ts) e) → GivesFault whole e
failed whole before n k h ts fault.OutOfMemory same lt fails = tt
failed whole before n k h ts (fault.Shape at) same lt fails =
    let more : n - k ≡ suc (n - (k + 1)) = omega arith in
    same ∙ ap (λ f. added_to before (run f h ts)) more ∙ ap (added_to before) (fails (n - (k + 1)))

pub by_error : (whole : Option (List Mark)) (e : ShapeFault) (r : Result (Vec Piece Global) ShapeFault) → IsErr r × IsErrAnd r (λ x. x ≡ e) → GivesFault whole e → Gives whole r
by_error whole e (Ok v) told g = absurd told.1
by_error whole e (Err x) told g = subst (GivesFault whole) (sym told.1) g

-- ---- worked texts

abbrev the_found : Option (List Mark) → List Mark
the_found None = []
the_found (Some ps) = ps

abbrev pub found : ℕ → List Tok → List Mark
found fuel ts = the_found (run fuel (start ts) ts)

pub refused : (fuel : ℕ) (ts : List Tok) (ps : List Mark) → run fuel (start ts) ts ≡ None → run fuel (start ts) ts ≡ Some ps → ⊥
refused fuel ts ps e f = none_some ps (sym e ∙ f)
