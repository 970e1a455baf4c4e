-- The lines of the counts by function.
use Rattle.std.specs.Prelude.{ℕ, ◌+◌, ◌-◌, ◌==◌, if◌then◌else◌, List, [], ◌∷◌, ◌++◌, length, replicate, Option, Some, None, codes}
use Rattle.std.specs.List.{concat}
use Rattle.std.specs.Fmt.{decimal}
use Rattle.mc_oblige.specs.Texts.{text_at}
use Rattle.mc_oblige.specs.declared.obligation.Obligation.{Obligation}
use Rattle.mc_places.specs.Places.{place_text}
use Rattle.mc_functions.specs.declared.counts.Counts.{Counts}
use Rattle.mc_functions.specs.declared.row.Row.{Row}
use Rattle.mc_functions.specs.declared.kind.Kind.{Kind}
use Rattle.mc_functions.specs.declared.kind.Kind.TheVariants.{Entries, Exits, Statements, Labels, Outcomes, Conditions}
use Rattle.mc_functions.specs.Kinds.{kind_word}
use Rattle.mc_functions.specs.Counts.{all_in, most_in, percentage, total}
use Rattle.mc_functions.specs.Standing.{is_entry}
use Rattle.mc_functions.specs.Measured.{Measured, all_counts, elsewhere, row_of}
use Rattle.mc_functions.specs.Status.{status_of}

abbrev pub newline : List ℕ
newline = 10 ∷ []

-- a text right or left in so many places; a longer one takes more
abbrev pub right_in : ℕ → List ℕ → List ℕ
right_in places text = replicate (places - length text) 32 ++ text

abbrev pub left_in : ℕ → List ℕ → List ℕ
left_in places text = text ++ replicate (places - length text) 32

-- a word and a number, where this is not 0
abbrev pub noted : List ℕ → ℕ → List ℕ
noted word n = if n == 0 then [] else concat (codes "   " ∷ word ∷ codes " " ∷ decimal n ∷ [])

-- how many are met of how many, and the percentage
abbrev pub numbers_text : (places : ℕ) → Counts → List ℕ
numbers_text places c =
    concat (right_in places (decimal c.met) ∷ codes " of " ∷ left_in places (decimal (total c))
    ∷ codes "  "
    ∷ right_in 3 (decimal (percentage c))
    ∷ codes " %"
    ∷ [])

-- how many are justified, and how many stale
abbrev pub notes_text : Counts → List ℕ
notes_text c = noted (codes "justified") c.justified ++ noted (codes "stale") c.stale

abbrev pub word_text : Kind → List ℕ
word_text kind = concat (codes "  " ∷ left_in 10 (kind_word kind) ∷ codes "  " ∷ [])

abbrev pub kind_line : (places : ℕ) → Kind → Counts → List ℕ
kind_line places kind c =
    concat (word_text kind ∷ numbers_text places c ∷ notes_text c ∷ newline ∷ [])

-- a kind of which there is none has no line
abbrev pub kind_lines : ℕ → Kind → Counts → List (List ℕ)
kind_lines places kind c = if total c == 0 then [] else kind_line places kind c ∷ []

-- as many places as the greatest number in the row takes
abbrev pub places_for : Row → ℕ
places_for r = length (decimal (most_in r))

abbrev pub row_lines : ℕ → Row → List (List ℕ)
row_lines places r =
    kind_lines places Entries r.entries
    ++ (kind_lines places Exits r.exits
    ++ (kind_lines places Statements r.statements
    ++ (kind_lines places Labels r.labels
    ++ (kind_lines places Outcomes r.outcomes
    ++ kind_lines places Conditions r.conditions))))

-- the function's name and its place
abbrev pub head_line : List ℕ → Obligation → List ℕ
head_line source o =
    concat (text_at o.span source ∷ codes " " ∷ place_text source o.span.start ∷ newline ∷ [])

-- a function of which nothing is counted has no line
abbrev pub function_text : List ℕ → Obligation → Row → List (List ℕ)
function_text source o r =
    if all_in r == 0 then [] else head_line source o ∷ row_lines (places_for r) r

-- for each entry those of its function, numbered from k
abbrev pub texts_from : Measured → ℕ → List Obligation → List (List ℕ)
texts_from m k [] = []
texts_from m k (o ∷ os) =
    if is_entry o.id then function_text m.source o (row_of m k) ++ texts_from m (k + 1) os
    else texts_from m k os

abbrev pub all_word : Option (List ℕ) → List ℕ
all_word None = codes "all: "
all_word (Some name) = concat (codes "all of " ∷ name ∷ codes ": " ∷ [])

abbrev pub others : Option (List ℕ) → ℕ → List ℕ
others None n = []
others (Some name) n = concat (codes "; " ∷ decimal n ∷ codes " more in other files" ∷ [])

-- how many have each verdict
abbrev pub sums_text : Counts → List ℕ
sums_text c =
    concat (decimal c.met ∷ codes " of " ∷ decimal (total c) ∷ codes " met, "
    ∷ decimal c.justified
    ∷ codes " justified, "
    ∷ decimal c.stale
    ∷ codes " stale, "
    ∷ decimal c.missing
    ∷ codes " missing"
    ∷ [])

abbrev pub all_line : Option (List ℕ) → Counts → ℕ → List ℕ
all_line file c n = concat (all_word file ∷ sums_text c ∷ others file n ∷ newline ∷ [])

abbrev pub status_line : ℕ → List ℕ
status_line status = concat (codes "status " ∷ decimal status ∷ newline ∷ [])

-- the functions in the order of the text, the sum of all that is counted, and the status
abbrev pub function_lines : Measured → List (List ℕ)
function_lines m =
    texts_from m 0 m.obligations
    ++ (all_line m.file (all_counts m) (elsewhere m) ∷ status_line (status_of m) ∷ [])
