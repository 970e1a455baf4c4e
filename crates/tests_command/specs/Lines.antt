-- Worked lines of words, and the commands that they are.
use Rattle.std.specs.Prelude.{◌≡◌, ℕ, List, [], ◌∷◌, Option, Some, None, if◌then◌else◌, ◌==◌, ⊤, codes}
use Rattle.mc_command.specs.Command.{Command, MatrixTask, Task, analyse, command_of, judged, on_matrix, on_source, report, run, vectors}
use Rattle.report_options.specs.declared.form.Form.{Form}
use Rattle.report_options.specs.declared.form.Form.TheVariants.{Text}
use Rattle.report_options.specs.declared.mode.Mode.{Mode}
use Rattle.report_options.specs.declared.mode.Mode.TheVariants.{Unique}

-- this byte before the words of a text; 32 is a blank
abbrev pub byte_before : ℕ → List (List ℕ) → List (List ℕ)
byte_before b [] = []
byte_before b (word ∷ words) =
    if b == 32 then [] ∷ word ∷ words else (b ∷ word) ∷ words

-- the words of a text: what stands between its blanks
abbrev pub words_in : List ℕ → List (List ℕ)
words_in [] = [] ∷ []
words_in (b ∷ bs) = byte_before b (words_in bs)

abbrev pub Is : List ℕ → Command → Type 0
Is line command = command_of (words_in line) ≡ Some command

-- each of these lines is this command
abbrev pub AreAll : Command → List (List ℕ) → Type 0
AreAll command [] = ⊤
AreAll command (line ∷ lines) = Is line command × AreAll command lines

-- none of these lines is a command
abbrev pub AreNone : List (List ℕ) → Type 0
AreNone [] = ⊤
AreNone (line ∷ lines) = (command_of (words_in line) ≡ None) × AreNone lines

-- a run of the tests that a file lists, by this number of workers and with this fuel for each
abbrev pub run_by : List ℕ → List ℕ → (workers fuel : ℕ) → Task → Command
run_by source tests workers fuel task =
    on_source source
    (run (record { tests = tests; workers = workers; fuel = fuel; task = task }))

-- a run by 4 workers
abbrev pub run_of : List ℕ → List ℕ → ℕ → Task → Command
run_of source tests fuel task = run_by source tests 4 fuel task

-- what is told of the matrix of the tests `a.csv` of the source `a.c`
abbrev pub matrix_of : ℕ → MatrixTask → Command
matrix_of fuel task = run_of (codes "a.c") (codes "a.csv") fuel (on_matrix task)

abbrev pub report_by : Mode → Form → Option (List ℕ) → ℕ → Command
report_by mode form justify fuel = matrix_of fuel
    (judged (record { mode = mode; justify = justify; telling = report form }))

-- a report in text without justifications
abbrev pub plain_report : Mode → ℕ → Command
plain_report mode fuel = report_by mode Text None fuel

-- a report with the justifications of a file
abbrev pub justified_by : List ℕ → Command
justified_by name = report_by Unique Text (Some name) 1000000

-- a report of the record `a.rec`
abbrev pub analysis : Mode → Form → Option (List ℕ) → Command
analysis mode form justify = on_source (codes "a.c")
    (analyse (codes "a.rec") (record { mode = mode; justify = justify; telling = report form }))

abbrev pub vectors_by : ℕ → Command
vectors_by fuel = matrix_of fuel vectors

-- the vectors, found by this number of workers
abbrev pub vectors_shared : (workers fuel : ℕ) → Command
vectors_shared workers fuel = run_by (codes "a.c") (codes "a.csv") workers fuel (on_matrix vectors)

-- the vectors of these files
abbrev pub vectors_of : List ℕ → List ℕ → Command
vectors_of source tests = run_of source tests 1000000 (on_matrix vectors)
