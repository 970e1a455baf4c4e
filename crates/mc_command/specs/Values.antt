-- What the values of options stand for.
use Rattle.std.specs.Prelude.{ℕ, ◌-◌, Bool, false, not, List, [], ◌∷◌, Option, Some, None, if◌then◌else◌, ◌==◌, ◌&&◌, nat_le, codes, option_and_then}
use Rattle.std.specs.Char.{is_ascii_digit}
use Rattle.std.specs.List.{list_all}
use Rattle.std.specs.Str.{bytes_eq}
use Rattle.std.specs.Str.Parse.{digits_value}
use Rattle.clap.specs.Walk.{Row, Text, first_of}
use Rattle.mc_limits.specs.Limits.{most_fuel, most_functions, most_looks, most_workers, usual_fuel}
use Rattle.report_options.specs.declared.form.Form.{Form}
use Rattle.report_options.specs.declared.form.Form.TheVariants as form
use Rattle.report_options.specs.declared.mode.Mode.{Mode}
use Rattle.report_options.specs.declared.mode.Mode.TheVariants.{Unique, Masking}

-- what an option stands for: what its value is read as, or this where the option is not given
abbrev pub or_default : {A : Type 0} → A → (Text → Option A) → Option Text → Option A
or_default default read None = Some default
or_default default read (Some value) = read value

abbrev pub mode_named : Text → Option Mode
mode_named value =
    if bytes_eq value (codes "unique") then Some Unique
    else if bytes_eq value (codes "masking") then Some Masking
    else None

-- `[--mode unique|masking]`: without it, unique cause
abbrev pub mode_in : List Row → Option Mode
mode_in values = or_default Unique mode_named (first_of (codes "mode") values)

abbrev pub form_named : Text → Option Form
form_named value =
    if bytes_eq value (codes "text") then Some form.Text
    else if bytes_eq value (codes "csv") then Some form.Csv
    else if bytes_eq value (codes "json") then Some form.Json
    else None

-- `[--format text|csv|json]`: without it, text
abbrev pub form_in : List Row → Option Form
form_in values = or_default form.Text form_named (first_of (codes "format") values)

-- decimal digits, of which the first is not `0`, which is 48
abbrev pub is_numeral : Text → Bool
is_numeral [] = false
is_numeral (d ∷ ds) = not (d == 48) && list_all is_ascii_digit (d ∷ ds)

abbrev pub is_within : (least most : ℕ) → ℕ → Bool
is_within least most n = nat_le least n && nat_le n most

-- the number that a numeral is, from `least` to `most`
abbrev pub number_within : (least most : ℕ) → Text → Option ℕ
number_within least most value =
    if is_numeral value && is_within least most (digits_value 10 value)
    then Some (digits_value 10 value) else None

-- workers of a run, where the command names none
abbrev pub usual_workers : ℕ
usual_workers = 4

-- the most workers beside whom a watcher looks, who counts as one more
abbrev pub most_watched_workers : ℕ
most_watched_workers = most_workers - 1

-- how often the words are looked at while workers run, where the command does not say
abbrev pub usual_looks : ℕ
usual_looks = 10

-- `N`, the functions of a source that the program makes itself, from 1 on
abbrev pub count_in : List Row → Option ℕ
count_in values = option_and_then (number_within 1 most_functions) (first_of (codes "count") values)

-- `[--workers N]`, from 1 to `most`: without it, the usual number
abbrev pub workers_in : (most : ℕ) → List Row → Option ℕ
workers_in most values =
    or_default usual_workers (number_within 1 most) (first_of (codes "workers") values)

-- `[--looks N]`, from 1 on: without it, the usual number
abbrev pub looks_in : List Row → Option ℕ
looks_in values =
    or_default usual_looks (number_within 1 most_looks) (first_of (codes "looks") values)

-- `[--fuel N]`, from 1 on: without it, the usual fuel
abbrev pub fuel_in : List Row → Option ℕ
fuel_in values =
    or_default usual_fuel (number_within 1 most_fuel) (first_of (codes "fuel") values)
