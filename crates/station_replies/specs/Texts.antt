-- The texts on the errors' sink.
use Rattle.std.specs.Prelude.{ℕ, ◌+◌, List, [], ◌∷◌, ◌++◌, length, drop, Option, Some, None, codes}
use Rattle.std.specs.List.{concat}
use Rattle.std.specs.Fmt.{decimal}
use Rattle.mc_lex.specs.declared.fault.LexFault.{LexFault}
use Rattle.mc_lex.specs.Faults.{fault_place, fault_word}
use Rattle.mc_lex.specs.Lines.{line_of, column_of}
use Rattle.mc_lex.specs.Tokens.{Tok}
use Rattle.mc_tests.specs.declared.fault.TestFault.{TestFault}
use Rattle.mc_tests.specs.declared.fault.TestFault.TheVariants as fault
use Rattle.subset_forms.specs.Names.{name_of}
use Rattle.subset_forms.specs.declared.outside.Outside.{Outside}

abbrev pub newline : List ℕ
newline = 10 ∷ []

abbrev pub usage_text : List ℕ
usage_text =
    concat (codes "usage: mcdc report SOURCE TESTS [--mode unique|masking] [--workers N]"
    ∷ codes " [--fuel N] [--justify NAME] [--format text|csv|json]" ∷ newline
    ∷ codes "       mcdc vectors SOURCE TESTS [--workers N] [--fuel N]" ∷ newline
    ∷ codes "       mcdc instrument SOURCE" ∷ newline
    ∷ codes "       mcdc record SOURCE TESTS [--workers N] [--fuel N]" ∷ newline
    ∷ codes "       mcdc merge SOURCE LEFT RIGHT" ∷ newline
    ∷ codes "       mcdc analyse SOURCE RECORD [--mode unique|masking] [--justify NAME]"
    ∷ codes " [--format text|csv|json]" ∷ newline
    ∷ codes "       mcdc selfload N [--workers N]" ∷ newline
    ∷ codes "       mcdc watch SOURCE TESTS [--workers N] [--fuel N] [--looks N]" ∷ newline
    ∷ codes "       mcdc reduce SOURCE TESTS [--mode unique|masking] [--workers N] [--fuel N]"
    ∷ newline
    ∷ codes "       mcdc mutate SOURCE TESTS [--workers N] [--fuel N]" ∷ newline
    ∷ codes "       mcdc list SOURCE TESTS [--mode unique|masking] [--workers N] [--fuel N]"
    ∷ codes " [--justify NAME]" ∷ newline
    ∷ codes "       mcdc functions SOURCE TESTS [--mode unique|masking] [--workers N] [--fuel N]"
    ∷ codes " [--justify NAME] [--of NAME]" ∷ newline
    ∷ codes "       mcdc needs SOURCE TESTS [--mode unique|masking] [--workers N] [--fuel N]"
    ∷ codes " [--justify NAME] [--of NAME]" ∷ newline
    ∷ codes "       mcdc results SOURCE TESTS [--workers N] [--fuel N]" ∷ newline
    ∷ codes "       mcdc adapt SOURCE" ∷ newline ∷ [])

abbrev pub cannot_read_line : List ℕ → List ℕ
cannot_read_line name = concat (codes "mcdc: cannot read " ∷ name ∷ newline ∷ [])

abbrev pub longer_line : (name : List ℕ) (limit : ℕ) → List ℕ
longer_line name limit =
    concat (codes "mcdc: " ∷ name ∷ codes ": longer than " ∷ decimal limit ∷ codes " bytes"
    ∷ newline ∷ [])

-- what is wrong at a place of the source, lines and columns counted from 1
abbrev pub place_line : (line column : ℕ) → List ℕ → List ℕ
place_line line column word =
    concat (codes "mcdc: source " ∷ decimal line ∷ codes ":" ∷ decimal column ∷ codes ": " ∷ word
    ∷ newline ∷ [])

-- the line on a fault at a place of a source, counted in bytes
abbrev pub line_at : (source : List ℕ) → Option ℕ → List ℕ → List ℕ
line_at source (Some at) word = place_line (line_of source at) (column_of source at) word
line_at source None word = []

abbrev pub fault_line : (source : List ℕ) → LexFault → List ℕ
fault_line source e = line_at source (fault_place e) (fault_word e)

-- where the first of these tokens starts, or the source's end where there is none
abbrev pub start_of : (source : List ℕ) → List Tok → ℕ
start_of source [] = length source
start_of source (t ∷ ts) = t.start

-- the line on the syntax, at the token that this number of tokens come before
abbrev pub syntax_line : (source : List ℕ) → List Tok → ℕ → List ℕ
syntax_line source tokens at =
    line_at source (Some (start_of source (drop at tokens))) (codes "syntax")

-- which form stands at a place of the source that the profile leaves out
abbrev pub form_line : (line column : ℕ) → List ℕ → List ℕ
form_line line column name =
    concat (codes "mcdc: source " ∷ decimal line ∷ codes ":" ∷ decimal column
    ∷ codes ": outside form " ∷ name ∷ newline ∷ [])

-- the line on a node that the profile leaves out
abbrev pub outside_line : (source : List ℕ) → Outside → List ℕ
outside_line source outside =
    form_line (line_of source outside.span.start) (column_of source outside.span.start)
    (name_of outside.form)

-- of what there are too many at a place of the source, and how many
abbrev pub many_line : (line column : ℕ) → List ℕ → ℕ → List ℕ
many_line line column what count =
    concat (codes "mcdc: source " ∷ decimal line ∷ codes ":" ∷ decimal column
    ∷ codes ": too many " ∷ what ∷ codes " " ∷ decimal count ∷ newline ∷ [])

abbrev pub many_line_at : (source : List ℕ) → ℕ → List ℕ → ℕ → List ℕ
many_line_at source at what count = many_line (line_of source at) (column_of source at) what count

-- the line on the first decision with too many conditions
abbrev pub conditions_line : (source : List ℕ) (at count : ℕ) → List ℕ
conditions_line source at count = many_line_at source at (codes "conditions") count

-- the line on the first decision with too many paths
abbrev pub paths_line : (source : List ℕ) (at count : ℕ) → List ℕ
paths_line source at count = many_line_at source at (codes "paths") count

-- no marker of the source names this file
abbrev pub nothing_line : (name : List ℕ) → List ℕ
nothing_line name = concat (codes "mcdc: source: nothing of " ∷ name ∷ newline ∷ [])

-- the line on a program with too many bits
abbrev pub bits_line : (count : ℕ) → List ℕ
bits_line count =
    concat (codes "mcdc: source: too many bits " ∷ decimal count ∷ newline ∷ [])

-- the line on a source that is made and has too many bytes
abbrev pub bytes_line : (count : ℕ) → List ℕ
bytes_line count =
    concat (codes "mcdc: source: too many bytes " ∷ decimal count ∷ newline ∷ [])

-- the first fault of a tests file, by the record in which it stands
abbrev pub record_line : (row : ℕ) → List ℕ → List ℕ
record_line row word =
    concat (codes "mcdc: tests record " ∷ decimal row ∷ codes ": " ∷ word ∷ newline ∷ [])

abbrev pub tests_line : TestFault → List ℕ
tests_line (fault.Header row) = record_line row (codes "header")
tests_line (fault.Width row) = record_line row (codes "width")
tests_line (fault.Text row) = record_line row (codes "text")
tests_line (fault.Number row) = record_line row (codes "number")
tests_line (fault.Function row) = record_line row (codes "function")
tests_line (fault.Arguments row) = record_line row (codes "arguments")
tests_line (fault.NotCallable row) = record_line row (codes "not callable")
tests_line (fault.NameAgain row) = record_line row (codes "name again")
tests_line (fault.Limit row) = record_line row (codes "limit")
tests_line fault.OutOfMemory = []

-- the first fault of a record, by the file's name and the line in which it stands
abbrev pub kept_line : (name : List ℕ) (line : ℕ) → List ℕ → List ℕ
kept_line name line word =
    concat (codes "mcdc: record " ∷ name ∷ codes " line " ∷ decimal line ∷ codes ": " ∷ word
    ∷ newline ∷ [])

-- a name in both of two records: the tests that have it are numbered from 0, and written from 1
abbrev pub same_test_line : (left right : ℕ) → List ℕ
same_test_line left right =
    concat (codes "mcdc: records: same test " ∷ decimal (left + 1) ∷ codes " and "
    ∷ decimal (right + 1) ∷ newline ∷ [])

-- too many tests in both of two records: how many
abbrev pub many_tests_line : (count : ℕ) → List ℕ
many_tests_line count =
    concat (codes "mcdc: records: " ∷ decimal count ∷ codes " tests" ∷ newline ∷ [])

-- what is wrong with a file of justifications
abbrev pub justifications_line : List ℕ → List ℕ
justifications_line word = concat (codes "mcdc: justification: " ∷ word ∷ newline ∷ [])

-- and with one of its entries, which are numbered from 1; entry 0 is the file
abbrev pub entry_line : (entry : ℕ) → List ℕ → List ℕ
entry_line entry what =
    concat (codes "mcdc: justification entry " ∷ decimal entry ∷ codes ": " ∷ what ∷ newline ∷ [])

-- a quote that differs: what the source has, and what the entry gives, byte for byte
abbrev pub quote_line : (entry : ℕ) (kept given : List ℕ) → List ℕ
quote_line entry kept given =
    concat (codes "mcdc: justification entry " ∷ decimal entry ∷ codes ": quote kept <<" ∷ [])
    ++ kept ++ codes ">> given <<" ++ given ++ (codes ">>" ++ newline)

-- how many words the matrix of all bits under all tests needs
abbrev pub matrix_line : (words : ℕ) → List ℕ
matrix_line words =
    concat (codes "mcdc: matrix needs " ∷ decimal words ∷ codes " words" ∷ newline ∷ [])

-- how many mutants there are of a program that has too many
abbrev pub mutants_line : (count : ℕ) → List ℕ
mutants_line count =
    concat (codes "mcdc: too many mutants " ∷ decimal count ∷ newline ∷ [])
