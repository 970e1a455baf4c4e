-- Which file and line follows which.
use Rattle.std.proofs.Common.{◌≡◌, ◌∙◌, ◌+◌, ◌-◌, ◌<◌, ◌≤◌, ℕ, zero, suc, Bool, true, false, cond, List, [], ◌∷◌, Option, length, take, refl, ap, arith}
use Rattle.std.specs.Prelude.{Some, None, slice_get, count_by, nat_lt}
use Rattle.std.proofs.lemmas.Bool.Decides.{nat_tests}
use Rattle.std.proofs.lemmas.List.Sums.{sum_by-take-le}
use Rattle.mc_lex.specs.Bytes.{is_line_end}
use Rattle.mc_lex.specs.Lines.{line_of}
use Rattle.mc_places.specs.Lines.{lines_of}
use Rattle.mc_places.specs.Markers.{Marker, greatest_line, marker_on, markers_from, markers_of, open_after}
use Rattle.mc_places.specs.Names.{decoded}
use Rattle.mc_places.specs.Origins.{Origin, joined, next_origin, one_on, origin_at, origins, origins_from}
use Rattle.mc_places.proofs.Splitting.{line_count}

-- ---- each line has its element

pub as_many : (now : Option Origin) (ms : List (Option Marker)) → length (origins_from now ms) ≡ length ms
as_many now [] = refl
as_many now (m ∷ ms) = ap suc (as_many (next_origin now m) ms)

pub each_line : (inside : Bool) (lines : List (List ℕ)) → length (markers_from inside lines) ≡ length lines
each_line inside [] = refl
each_line inside (line ∷ lines) = ap suc (each_line (open_after (marker_on inside line) inside line) lines)

pub all_lines : (text : List ℕ) → length (origins text) ≡ 1 + count_by is_line_end text
all_lines text = as_many None (markers_of text) ∙ each_line false (lines_of text) ∙ line_count text

pub stands_on_line : (text : List ℕ) (at : ℕ) → line_of text at - 1 < length (origins text)
stands_on_line text at =
    let fewer = sum_by-take-le (λ (b : ℕ). cond (is_line_end b) 1 0) text at in
    let part : count_by is_line_end (take at text) ≤ count_by is_line_end text = fewer in
    omega (arith, part, all_lines text)

-- ---- the next line

pub next_line : (ms : List (Option Marker)) (now found : Option Origin) (k : ℕ) (m : Option Marker) → slice_get ms k ≡ Some m → slice_get (origins_from now ms) k ≡ Some found
    → suc k < length (origins_from now ms) → slice_get (origins_from now ms) (suc k) ≡ Some (next_origin found m)
next_line [] now found k m is here lt = absurd (omega arith)
next_line (x ∷ []) now found zero m is here lt = absurd (omega arith)
next_line (x ∷ y ∷ ms) now found zero m is here lt = cc
next_line (x ∷ ms) now found (suc k) m is here lt = next_line ms (next_origin now x) found k m is here (omega arith)

-- after a line that is no marker
pub goes_up : (text : List ℕ) (k : ℕ) (o : Origin) → slice_get (markers_of text) k ≡ Some None → slice_get (origins text) k ≡ Some (Some o) → o.line < greatest_line → k + 1 < length (origins text)
    → slice_get (origins text) (k + 1) ≡ Some (Some (record { file = o.file; line = o.line + 1 }))
goes_up text k o is here below lt =
    let next : k + 1 ≡ suc k = omega arith in
    let test : nat_lt o.line greatest_line ≡ true = grind (arith, nat_tests) in
    let more : suc k < length (origins text) = omega (arith, lt) in
    let found : slice_get (origins text) (suc k) ≡ Some (one_on (Some o)) = next_line (markers_of text) None (Some o) k None is here more in
    ap (slice_get (origins text)) next ∙ found ∙ rw test refl

-- after a marker
pub marker_gives : (ms : List (Option Marker)) (now : Option Origin) (k number : ℕ) (name : List ℕ) → slice_get ms k ≡ Some (Some (record { number = Some number; name = Some name }))
    → suc k < length (origins_from now ms) → slice_get (origins_from now ms) (suc k) ≡ Some (Some (record { file = decoded name; line = number }))
marker_gives [] now k number name is lt = absurd (omega arith)
marker_gives (x ∷ []) now zero number name is lt = absurd (omega arith)
marker_gives (x ∷ y ∷ ms) now zero number name is lt =
    let own : x ≡ Some (record { number = Some number; name = Some name }) = cc in
    ap (λ (m : Option Marker). Some (next_origin now m)) own
marker_gives (x ∷ ms) now (suc k) number name is lt = marker_gives ms (next_origin now x) k number name is (omega arith)

pub marker_says : (text : List ℕ) (k number : ℕ) (name : List ℕ) → slice_get (markers_of text) k ≡ Some (Some (record { number = Some number; name = Some name })) → k + 1 < length (origins text)
    → slice_get (origins text) (k + 1) ≡ Some (Some (record { file = decoded name; line = number }))
marker_says text k number name is lt =
    let next : k + 1 ≡ suc k = omega arith in
    ap (slice_get (origins text)) next ∙ marker_gives (markers_of text) None k number name is (omega (arith, lt))

-- ---- no marker

none_said : (ms : List (Option Marker)) → ((k : ℕ) (m : Marker) → slice_get ms k ≡ Some (Some m) → ⊥) → (k : ℕ) → joined (slice_get (origins_from None ms) k) ≡ None
none_said [] none k = refl
none_said (Some m ∷ ms) none k = absurd (none 0 m refl)
none_said (None ∷ ms) none zero = refl
none_said (None ∷ ms) none (suc k) = none_said ms (λ j m e. none (suc j) m e) k

pub no_file : (text : List ℕ) (at : ℕ) → ((k : ℕ) (m : Marker) → slice_get (markers_of text) k ≡ Some (Some m) → ⊥) → origin_at text at ≡ None
no_file text at none = none_said (markers_of text) none (line_of text at - 1)
