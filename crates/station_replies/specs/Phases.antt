-- Phases that judge a file: each gives something, or the reply with which the file is refused.
use Rattle.std.specs.Prelude.{◌≡◌, ◌⊎◌, ℕ, List, [], codes, Result, Ok, Err}
use Rattle.station_replies.specs.Reply.{Reply, refusal}
use Rattle.station_replies.specs.Texts.{place_line}
use Rattle.station_replies.specs.declared.status.Status.{Status}
use Rattle.station_replies.specs.declared.status.Status.TheVariants.{Done, Incomplete, SourceRefused}

-- ---- how phases follow each other

-- a phase that is a function: what it gives, or what is said of its fault
abbrev pub Reads : {A F : Type 0} → Result A F → (F → Reply) → Result A Reply → Type 0
Reads given say (Ok a) = given ≡ Ok a
Reads {A} {F} given say (Err reply) = (fault : F) × (given ≡ Err fault) × (reply ≡ say fault)

-- a phase, and the next one on what it gives: the first that refuses answers
abbrev pub Then : {A B : Type 0} → (Result A Reply → Type 0) → (A → Result B Reply → Type 0)
    → Result B Reply → Type 0
Then {A} Phase Next (Ok b) = (a : A) × Phase (Ok a) × Next a (Ok b)
Then {A} Phase Next (Err reply) = Phase (Err reply) ⊎ ((a : A) × Phase (Ok a) × Next a (Err reply))

-- a phase, and the reply that what it gives ends with; where it refuses, that is the reply
abbrev pub Reaches : {A : Type 0} → (Result A Reply → Type 0) → (A → Reply → Type 0) → Reply
    → Type 0
Reaches {A} Phase End reply = Phase (Err reply) ⊎ ((a : A) × Phase (Ok a) × End a reply)

-- ---- what replies have in common

-- a reply with a line on the errors' sink alone
abbrev pub IsRefusal : Status → Reply → Type 0
IsRefusal status reply = (line : List ℕ) × (reply ≡ refusal status line)

-- nothing goes to the output but with a text that is written whole
abbrev pub IsSilent : Reply → Type 0
IsSilent reply = (reply.status ≡ Done) ⊎ ((reply.status ≡ Incomplete) ⊎ (reply.out ≡ []))

-- ---- at most one reply

-- a reply on the syntax of a source, at some place
abbrev pub IsOnSyntax : Reply → Type 0
IsOnSyntax r =
    (line : ℕ) × (column : ℕ)
    × (r ≡ refusal SourceRefused (place_line line column (codes "syntax")))

-- one reply, or two on the syntax, which may name different places
abbrev pub AreOne : Reply → Reply → Type 0
AreOne r s = (r ≡ s) ⊎ (IsOnSyntax r × IsOnSyntax s)

-- two verdicts are one
abbrev pub Agree : {A : Type 0} → Result A Reply → Result A Reply → Type 0
Agree (Ok a) (Ok b) = a ≡ b
Agree (Ok a) (Err s) = ⊥
Agree (Err r) (Ok b) = ⊥
Agree (Err r) (Err s) = AreOne r s

-- a phase gives at most one thing
abbrev pub IsOne : {A : Type 0} → (Result A Reply → Type 0) → Type 0
IsOne {A} Phase = (u v : Result A Reply) → Phase u → Phase v → Agree u v
