-- The lists of places and the decisions with their bits are the map of a program.
use Rattle.std.proofs.Common.{◌≡◌, ◌∙◌, sym, ap, subst, ℕ, ◌+◌, ◌<◌, ◌≤◌, min, List, [], ◌∷◌, map, length, All, arith}
use Rattle.mc_span.specs.declared.span.Span.{Span}
use Rattle.mc_typed.specs.Tree as t
use Rattle.decide_rules.specs.Decisions.{Decision, AreDecisions}
use Rattle.mc_probe.specs.declared.mapped.MappedDecision.{MappedDecision}
use Rattle.mc_probe.specs.Mapped.{mapped_of}
use Rattle.mc_probe.specs.Maps.{Mapped, IsMapOf, AreBased, ArePlaced}
use Rattle.mc_probe.specs.Obligations.{entry_spans, exit_spans, statement_spans, label_spans}
use Rattle.instrument_bits.specs.Faults.{most_bits, bits_of, paths_of, places_of, HasFewPaths, IsFault}
use Rattle.instrument_bits.specs.declared.fault.InstrumentFault.{InstrumentFault}
use Rattle.instrument_bits.specs.declared.fault.InstrumentFault.TheVariants.{TooManyPaths, TooManyBits, OutOfMemory}
use Rattle.instrument_bits.specs.steps.Numbered.{based, IsRefused}
use Rattle.instrument_bits.proofs.Numbering.{greatest, based_length, based_decisions}

pub refused_all : (x : t.Program) (ds : List Decision) (fault : InstrumentFault) → IsRefused ds fault → IsFault x ds fault
refused_all x ds (TooManyPaths at count) h = h
refused_all x ds (TooManyBits count) h = absurd h
refused_all x ds OutOfMemory h = tt

-- how many bits there are, as far as they are told
places_told : (places paths first bits : ℕ) → first ≡ min places greatest → bits ≡ min (first + paths) greatest → bits ≡ min (places + paths) greatest
places_told places paths first bits f b = omega (arith, f, b)

first_told : (places paths first bits : ℕ) → first ≡ min places greatest → bits ≡ min (first + paths) greatest → bits ≤ most_bits → (first ≡ places) × (first + paths ≡ bits)
first_told places paths first bits f b low = (omega (arith, f, b, low), omega (arith, f, b, low))

over : (n bits : ℕ) → bits ≡ min n greatest → most_bits < bits → most_bits < n
over n bits b many = omega (arith, b, many)

abbrev pub sum_of : List Span → List Span → List Span → List Span → ℕ
sum_of es xs ss ls = length es + length xs + length ss + length ls

-- the lists of places are those of the program
pub record Listed (x : t.Program) (es xs ss ls : List Span) : Type 0 where
  pub entries : es ≡ entry_spans x
  pub exits : xs ≡ exit_spans x
  pub statements : ss ≡ statement_spans x
  pub labels : ls ≡ label_spans x

listed_sum : (x : t.Program) (es xs ss ls : List Span) → Listed x es xs ss ls → sum_of es xs ss ls ≡ places_of x
listed_sum x es xs ss ls l = λ i. sum_of (l.entries i) (l.exits i) (l.statements i) (l.labels i)

pub is_refused : (x : t.Program) (ds : List Decision) (es xs ss ls : List Span) (first bits : ℕ) → Listed x es xs ss ls → first ≡ min (sum_of es xs ss ls) greatest → bits ≡ min (first + paths_of ds) greatest → All HasFewPaths ds → most_bits < bits → IsFault x ds (TooManyBits bits)
is_refused x ds es xs ss ls first bits l f b few many =
    let told : bits ≡ min (bits_of x ds) greatest =
    places_told (places_of x) (paths_of ds) first bits (f ∙ ap (λ (k : ℕ). min k greatest) (listed_sum x es xs ss ls l)) b in
    (few, over (bits_of x ds) bits told many, told)

pub is_based : (ds : List Decision) (ms : List Mapped) (places first bits : ℕ) → first ≡ min places greatest → bits ≡ min (first + paths_of ds) greatest → ms ≡ based first ds → bits ≤ most_bits → AreBased ms places bits
is_based ds ms places first bits f b same low =
    let told = first_told places (paths_of ds) first bits f b low in
    subst (λ (k : ℕ). AreBased ms k bits) told.0
    (subst (λ (k : ℕ). AreBased ms first k) told.1
    (subst (λ (xs : List Mapped). AreBased xs first (first + paths_of ds)) (sym same) (based_length first ds)))

all_placed : (ds : List MappedDecision) → ArePlaced (map mapped_of ds)
all_placed [] = tt
all_placed (d ∷ ds) = (d.placed, all_placed ds)

pub same_decisions : (ds : List Decision) (ms : List Mapped) (first : ℕ) → ms ≡ based first ds → map (λ (d : Mapped). d.decision) ms ≡ ds
same_decisions ds ms first same = ap (map (λ (d : Mapped). d.decision)) same ∙ based_decisions first ds

pub is_map : (x : t.Program) (ds : List Decision) (es xs ss ls : List Span) (mapped : List MappedDecision) (first bits : ℕ) → Listed x es xs ss ls → first ≡ min (sum_of es xs ss ls) greatest → bits ≡ min (first + paths_of ds) greatest → map mapped_of mapped ≡ based first ds → AreDecisions x.functions ds → bits ≤ most_bits → IsMapOf x (record { entries = es; exits = xs; statements = ss; labels = ls; decisions = map mapped_of mapped; bits = bits })
is_map x ds es xs ss ls mapped first bits l f b same are low = record {
  kept = record {
    placed = all_placed mapped;
    based = is_based ds (map mapped_of mapped) (sum_of es xs ss ls) first bits f b same low;
    few = low;
  };
  entries = l.entries;
  exits = l.exits;
  statements = l.statements;
  labels = l.labels;
  decisions = subst (AreDecisions x.functions) (sym (same_decisions ds (map mapped_of mapped) first same)) are;
}
