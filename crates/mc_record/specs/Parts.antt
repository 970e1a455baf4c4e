-- First parts of a text, and what follows them.
use Rattle.std.specs.Prelude.{ℕ, zero, suc, ◌+◌, ◌==◌, List, [], ◌∷◌, take, drop, Option, Some, None, option_map, Result, Ok, Err, if◌then◌else◌}
use Rattle.std.specs.List.{position}
use Rattle.mc_record.specs.declared.fault.RecordFault.{RecordFault}

-- what comes of a part that is there
abbrev pub with_part : {A B : Type 0} → Option A → (A → Option B) → Option B
with_part None later = None
with_part (Some part) later = later part

-- what comes of a part without a fault; else its fault
abbrev pub read_on : {A B : Type 0} → Result A RecordFault → (A → Result B RecordFault)
    → Result B RecordFault
read_on (Err fault) later = Err fault
read_on (Ok part) later = later part

-- what follows a text's front, where it begins with that
abbrev pub strip : List ℕ → List ℕ → Option (List ℕ)
strip [] text = Some text
strip (b ∷ front) [] = None
strip (b ∷ front) (c ∷ text) = if b == c then strip front text else None

-- what stands before the first byte of this value, and what follows it
abbrev pub until : ℕ → List ℕ → Option (List ℕ × List ℕ)
until byte text = option_map (λ n. (take n text, drop (n + 1) text)) (position (λ b. b == byte) text)

-- this number of parts of one kind, and what follows them
abbrev pub many_in : (List ℕ → Option (ℕ × List ℕ)) → ℕ → List ℕ → Option (List ℕ × List ℕ)
many_in one zero text = Some ([], text)
many_in one (suc n) text =
    with_part (one text) (λ first.
    with_part (many_in one n first.1) (λ more. Some (first.0 ∷ more.0, more.1)))
