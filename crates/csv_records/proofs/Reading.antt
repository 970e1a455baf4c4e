-- Reading one record after the other gives all the records.
use Rattle.std.proofs.Common.{◌≡◌, ◌∙◌, ℕ, zero, suc, ◌+◌, ◌≤◌, List, [], ◌∷◌, ◌++◌, length, Option, Some, None, refl, sym, ap, arith, inl, inr, true, false, Bool, Bor, unwrap_or}
use Rattle.std.proofs.lemmas.Bool.{cases_Bool, false≢true}
use Rattle.csv.specs.Machine.{Read, next_record, ends_at_end, is_end, step, fields_after, field_after}
use Rattle.csv.specs.Reading.{NextIs, ReadRecord, ReadsNext, Ready, default_config, pending_of, reader_headers, records_from, records_next, took_first}
use Rattle.csv.specs.declared.reader.Headers.{Headers}
use Rattle.csv.specs.declared.reader.Reader.{Reader}
use Rattle.csv_records.specs.Rows.{Fields}
use Rattle.csv_records.specs.Left.{IsReading, bytes_left, has_headers, known_left, rows_left}
use Rattle.csv.specs.declared.parser.Config.{Config}
use Rattle.csv.specs.declared.parser.State.{State}
use Rattle.csv.specs.declared.parser.State.TheVariants as st

-- at the end of a text there is at most one more record
pub last : (cfg : Config) (s : State) (fields : List (List ℕ)) (field : List ℕ) (p : Read) → next_record cfg s fields field [] ≡ Some p → (p.1 ≡ st.StartRecord) × (p.2 ≡ [])
unfolding next_record
last cfg s fields field p is = elim (cases_Bool (ends_at_end s)) [
  | inl ends ↦
      let found = rw ends at is in
      let same : (fields ++ (field ∷ []), st.StartRecord, []) ≡ p = cc found in
      (sym (ap (λ (q : Read). q.1) same), sym (ap (λ (q : Read). q.2) same))
  | inr goes ↦ absurd (cc (rw goes at is))
]

-- a record takes at least one byte of a text that has one
shorter : (cfg : Config) (s : State) (fields : List (List ℕ)) (field : List ℕ) (c : ℕ) (rest : List ℕ) (p : Read) → next_record cfg s fields field (c ∷ rest) ≡ Some p → length p.2 + 1 ≤ length (c ∷ rest)
unfolding next_record
shorter cfg s fields field c [] p is = elim (cases_Bool (is_end (step cfg s c).1)) [
  | inl ends ↦
      let same : (fields_after (step cfg s c).1 fields field, (step cfg s c).0, []) ≡ p = cc (rw ends at is) in
      omega (arith, ap (λ (q : Read). length q.2) same)
  | inr goes ↦
      let none = (last cfg (step cfg s c).0 (fields_after (step cfg s c).1 fields field) (field_after (step cfg s c).1 c field) p (rw goes at is)).1 in
      omega (arith, ap length none)
]
shorter cfg s fields field c (d ∷ rest) p is = elim (cases_Bool (is_end (step cfg s c).1)) [
  | inl ends ↦
      let same : (fields_after (step cfg s c).1 fields field, (step cfg s c).0, d ∷ rest) ≡ p = cc (rw ends at is) in
      omega (arith, ap (λ (q : Read). length q.2) same)
  | inr goes ↦ omega (arith, shorter cfg (step cfg s c).0 (fields_after (step cfg s c).1 fields field) (field_after (step cfg s c).1 c field) d rest p (rw goes at is))
]

-- at the start of a record no more is to come at the end of a text
at_end : (cfg : Config) (n : ℕ) → records_from cfg n st.StartRecord [] ≡ []
unfolding records_from next_record
at_end cfg zero = refl
at_end cfg (suc n) = refl

abbrev Rest : Config → ℕ → ℕ → State → List ℕ → Type 0
Rest cfg n m s xs = length xs + 1 ≤ n → length xs + 1 ≤ m → records_from cfg n s xs ≡ records_from cfg m s xs

after_record : (cfg : Config) (n m : ℕ) (s : State) (xs : List ℕ) (p : Read) → ((t : State) (ys : List ℕ) → Rest cfg n m t ys) → next_record cfg s [] [] xs ≡ Some p
    → length xs ≤ n → length xs ≤ m → records_from cfg n p.1 p.2 ≡ records_from cfg m p.1 p.2
after_record cfg n m s [] p same is a b = let end = last cfg s [] [] p is in rw (end.0, end.1) (at_end cfg n ∙ sym (at_end cfg m))
after_record cfg n m s (c ∷ rest) p same is a b = let less = shorter cfg s [] [] c rest p is in same p.1 p.2 (omega arith) (omega arith)

after_read : (cfg : Config) (n m : ℕ) (s : State) (xs : List ℕ) (o : Option Read) → ((t : State) (ys : List ℕ) → Rest cfg n m t ys) → next_record cfg s [] [] xs ≡ o
    → length xs ≤ n → length xs ≤ m → records_next (records_from cfg n) o ≡ records_next (records_from cfg m) o
after_read cfg n m s xs None same is a b = refl
after_read cfg n m s xs (Some p) same is a b = ap (λ (l : List (List (List ℕ))). p.0 ∷ l) (after_record cfg n m s xs p same is a b)

-- any two counts of turns that suffice reach the same records
fueled : (cfg : Config) (n m : ℕ) (s : State) (xs : List ℕ) → Rest cfg n m s xs
unfolding records_from
fueled cfg zero m s xs a b = absurd (omega arith)
fueled cfg (suc n) zero s xs a b = absurd (omega arith)
fueled cfg (suc n) (suc m) s xs a b = after_read cfg n m s xs (next_record cfg s [] [] xs) (λ t ys. fueled cfg n m t ys) refl (omega arith) (omega arith)

-- the first record, and those after it
more : (cfg : Config) (s : State) (xs : List ℕ) (p : Read) → next_record cfg s [] [] xs ≡ Some p
    → records_from cfg (suc (length xs)) s xs ≡ p.0 ∷ records_from cfg (suc (length p.2)) p.1 p.2
unfolding records_from
more cfg s xs p is = rw is (ap (λ (l : List (List (List ℕ))). p.0 ∷ l) (rest xs is))
  where
    rest : (text : List ℕ) → next_record cfg s [] [] text ≡ Some p → records_from cfg (length text) p.1 p.2 ≡ records_from cfg (suc (length p.2)) p.1 p.2
    rest [] read = let end = last cfg s [] [] p read in rw (end.0, end.1) (at_end cfg 0 ∙ sym (at_end cfg 1))
    rest (c ∷ text) read = let less = shorter cfg s [] [] c text p read in fueled cfg (length (c ∷ text)) (suc (length p.2)) p.1 p.2 (omega arith) (omega arith)

-- a read that gives a record gives the first of those that were left
taken : (s t : State) (xs ys : List ℕ) (fields : Fields) (o : Option Read) → next_record default_config s [] [] xs ≡ o → NextIs o true fields t ys
    → records_from default_config (suc (length xs)) s xs ≡ fields ∷ records_from default_config (suc (length ys)) t ys
taken s t xs ys fields None is next = absurd (false≢true (sym next))
taken s t xs ys fields (Some p) is next = rw (next.1, next.2, next.3) (more default_config s xs p is)

taken_known : (s t : State) (xs : List ℕ) (left : Option (List ℕ)) (fields : Fields) → ReadsNext default_config s (Some xs) left true fields t
    → records_from default_config (suc (length xs)) s xs ≡ fields ∷ records_from default_config (suc (length (unwrap_or left []))) t (unwrap_or left [])
taken_known s t xs None fields reads = absurd reads
taken_known s t xs (Some ys) fields reads = taken s t xs ys fields (next_record default_config s [] [] xs) refl reads

-- what is left after a read
left-after : (a b : Reader (Bor (List ℕ))) (found : Bool) (fields : Fields) → ReadRecord (λ s. Some s.now) a b found fields → pending_of (Some b.rdr.now) b ≡ known_left b
left-after a b found fields read = rw (read.1) refl

pub reads_row : (a b : Reader (Bor (List ℕ))) (fields : Fields) → IsReading false a → ReadRecord (λ s. Some s.now) a b true fields → rows_left false a ≡ fields ∷ rows_left false b
reads_row a b fields reading read =
    let is = reading refl in
    let next = rw (is.1, is.5, left-after a b true fields read) at read.0 in
    taken_known a.state b.state (bytes_left a) (known_left b) fields next

ended : (s : State) (xs : List ℕ) (t : State) (ys : List ℕ) (o : Option Read) (fields : Fields) → next_record default_config s [] [] xs ≡ o → NextIs o false fields t ys
    → records_from default_config (suc (length xs)) s xs ≡ []
unfolding records_from
ended s xs t ys None fields is next = rw is refl
ended s xs t ys (Some p) fields is next = absurd (false≢true next.0)

ended_known : (s t : State) (xs : List ℕ) (left : Option (List ℕ)) (fields : Fields) → ReadsNext default_config s (Some xs) left false fields t
    → records_from default_config (suc (length xs)) s xs ≡ []
ended_known s t xs None fields reads = absurd reads
ended_known s t xs (Some ys) fields reads = ended s xs t ys (next_record default_config s [] [] xs) fields refl reads

pub reads_end : (a b : Reader (Bor (List ℕ))) (fields : Fields) → IsReading false a → ReadRecord (λ s. Some s.now) a b false fields → rows_left false a ≡ []
reads_end a b fields reading read =
    let is = reading refl in
    let next = rw (is.1, is.5) at read.0 in
    ended_known a.state b.state (bytes_left a) (pending_of (Some b.rdr.now) b) fields next

no_headers : (o : Option Headers) → has_headers o ≡ false → o ≡ None
no_headers None is = refl
no_headers (Some headers) is = absurd (false≢true (sym is))

-- the next read of a reader that reads on is of one record
pub is_ready : (a : Reader (Bor (List ℕ))) → IsReading false a → Ready a
is_ready a reading =
    let is = reading refl in
    elim (cases_Bool (took_first a)) [ inl first ↦ inl first | inr other ↦ inr (inr (is.3, no_headers (reader_headers a) (is.4 other))) ]
