-- What `record` writes of a source's tests is read as the record of these tests.
use Rattle.std.proofs.Common.{◌≡◌, ◌≢◌, ◌∙◌, ◌≤◌, ◌↔◌, ℕ, All, Bool, true, false, IsTrue, not, ◌&&◌, List, [], ◌∷◌, length, Ok, refl, sym, ap, subst, arith, true≢false}
use Rattle.std.specs.List.{concat, list_all, list_any}
use Rattle.std.specs.Str.{bytes_eq}
use Rattle.std.proofs.lemmas.Bool.{and_from, and_parts}
use Rattle.std.proofs.lemmas.List.{length-map}
use Rattle.std.proofs.lemmas.List.Elements.{All-cons, All-head, All-nil, All-tail}
use Rattle.sha2.specs.Sha256.{sha256}
use Rattle.mc_limits.specs.Limits.{most_words}
use Rattle.csv_records.specs.Names.{is_name}
use Rattle.mc_cond.specs.Tree.{And, FullAnd, FullOr, FullXor, IsShort, Leaf, Not, Or, Tree}
use Rattle.mc_core.specs.Shape.{word_count}
use Rattle.mc_core.specs.declared.shape.Shape.{Shape}
use Rattle.mc_typed.specs.Plans.{Plan}
use Rattle.mc_typed.specs.Tree.{Program}
use Rattle.mc_typed.specs.declared.plans.Ending.{Ending}
use Rattle.mc_typed.specs.declared.plans.Ending.TheVariants as ending
use Rattle.mc_typed.specs.declared.plans.TestState.{TestState}
use Rattle.mc_typed.specs.declared.plans.TestState.TheVariants.{Ended}
use Rattle.mc_meaning.specs.Tests.{are_met, plain_run, plain_state, state_where}
use Rattle.mc_probe.specs.Maps.{Mapped}
use Rattle.mc_tests.specs.Tests as tests
use Rattle.mc_record.specs.Kept.{IsKept, Kept, are_distinct}
use Rattle.mc_record.specs.Laws.{IsDigest, IsRecord}
use Rattle.mc_record.specs.Lines.{record_lines}
use Rattle.mc_record.specs.Reading.{record_of}
use Rattle.mc_record.proofs.Composed.{written_read}
use Rattle.mc_station.specs.Records.{HasOldBits, JudgesRecord}
use Rattle.mc_station.specs.Source.{Accepted}
use Rattle.mc_station.specs.Tests.{names, states, words_needed}
use Rattle.mc_station.specs.commands.Record.{IsRecordOf}
use Rattle.laws_station.proofs.Digests.{digest}
use Rattle.laws_station.proofs.Files.{AreKept}
use Rattle.laws_station.proofs.Sound.{IsReady}

-- ---- it can be written

-- a test whose calls returned has passed or failed
judged : (e : Ending) (met : Bool) → state_where e met ≢ Ended ending.Returned
judged ending.Returned true is = cc is
judged ending.Returned false is = cc is
judged (ending.Trap t) met is = cc is
judged ending.Fuel met is = cc is
judged ending.Levels met is = cc is
judged ending.Cells met is = cc is
judged ending.OutputFull met is = cc is

abbrev IsJudged : TestState → Type 0
IsJudged s = s ≢ Ended ending.Returned

all_judged : (p : Program) (plans : List Plan) → All IsJudged (states p plans)
all_judged p [] = All-nil IsJudged
all_judged p (plan ∷ plans) =
    let r = plain_run p plan in
    All-cons IsJudged (plain_state p plan) (states p plans) (judged r.ending (are_met plan.calls r.done 0 r.state.output)) (all_judged p plans)

-- a tests file and a record say in the same way that names differ
same_distinct : (ns : List (List ℕ)) → tests.are_distinct ns ≡ are_distinct ns
same_distinct [] = refl
same_distinct (n ∷ ns) = ap (λ (b : Bool). not (list_any (bytes_eq n) ns) && b) (same_distinct ns)

module _ (skipped : List ℕ) (accepted : Accepted) (plans : List Plan) (k : Kept) (is_ready : IsReady accepted) (are : AreKept plans) (small : words_needed accepted plans ≤ most_words) (of : IsRecordOf skipped accepted plans k) where
  count : k.matrix.shape.tests ≡ length plans
  count = ap (λ (s : Shape). s.tests) of.shape

  bits : k.matrix.shape.bits ≡ accepted.map.bits
  bits = ap (λ (s : Shape). s.bits) of.shape

  kept : IsKept k
  kept = record {
    names = ap length of.names ∙ length-map plans _ ∙ sym count;
    states = ap length of.states ∙ length-map plans _ ∙ sym count;
    named = subst (λ (ns : List (List ℕ)). list_all is_name ns ≡ true) (sym of.names) are.names;
    distinct = subst (λ (ns : List (List ℕ)). are_distinct ns ≡ true) (sym of.names) (sym (same_distinct (names plans)) ∙ are.distinct);
    judged = subst (λ (ss : List TestState). All IsJudged ss) (sym of.states) (all_judged accepted.program plans);
    few_bits = (let few = is_ready.map_is.kept.few in omega (arith, bits, few));
    few_tests = (let few = are.few in omega (arith, count, few));
    few_words = subst (λ (s : Shape). word_count s ≤ most_words) (sym of.shape) small;
  }

  is_record : IsRecord k
  is_record = record { kept = kept; digest = subst IsDigest (sym of.digest) (digest accepted.source); words = of.words }

  read_again : (old : Bool) → record_of (sha256 accepted.source) accepted.map.bits old (concat (record_lines k)) ≡ Ok k
  read_again old = (λ i. record_of (sym of.digest i) (sym bits i) old (concat (record_lines k))) ∙ written_read k old is_record

-- ---- which rules hold

is_short : Tree → Bool
is_short (Leaf k) = true
is_short (Not a) = is_short a
is_short (And a b) = is_short a && is_short b
is_short (Or a b) = is_short a && is_short b
is_short (FullAnd a b) = false
is_short (FullOr a b) = false
is_short (FullXor a b) = false

short_of : (t : Tree) → is_short t ≡ true → IsShort t
unfolding is_short
short_of (Leaf k) is = tt
short_of (Not a) is = short_of a is
short_of (And a b) is = let both = and_parts (is_short a) (is_short b) is in (short_of a both.0, short_of b both.1)
short_of (Or a b) is = let both = and_parts (is_short a) (is_short b) is in (short_of a both.0, short_of b both.1)
short_of (FullAnd a b) is = true≢false (sym is)
short_of (FullOr a b) is = true≢false (sym is)
short_of (FullXor a b) is = true≢false (sym is)

of_short : (t : Tree) → IsShort t → is_short t ≡ true
unfolding is_short
of_short (Leaf k) short = refl
of_short (Not a) short = of_short a short
of_short (And a b) short = and_from (is_short a) (is_short b) (of_short a short.0) (of_short b short.1)
of_short (Or a b) short = and_from (is_short a) (is_short b) (of_short a short.0) (of_short b short.1)
of_short (FullAnd a b) short = absurd short
of_short (FullOr a b) short = absurd short
of_short (FullXor a b) short = absurd short

abbrev IsShortIn : Mapped → Type 0
IsShortIn m = IsShort m.decision.tree

abbrev are_short : List Mapped → Bool
are_short ms = list_all (λ (m : Mapped). is_short m.decision.tree) ms

all_short : (ms : List Mapped) → are_short ms ≡ true → All IsShortIn ms
all_short [] are = All-nil IsShortIn
all_short (m ∷ ms) are =
    let both = and_parts (is_short m.decision.tree) (are_short ms) are in
    All-cons IsShortIn m ms (short_of m.decision.tree both.0) (all_short ms both.1)

short_all : (ms : List Mapped) → All IsShortIn ms → are_short ms ≡ true
short_all [] all = refl
short_all (m ∷ ms) all = and_from (is_short m.decision.tree) (are_short ms) (of_short m.decision.tree (All-head IsShortIn m ms all)) (short_all ms (All-tail IsShortIn m ms all))

-- the text is accepted as the record
pub judged_record : (skipped : List ℕ) (accepted : Accepted) (plans : List Plan) (k : Kept) → IsReady accepted → AreKept plans → words_needed accepted plans ≤ most_words → IsRecordOf skipped accepted plans k
    → (name : List ℕ) → JudgesRecord accepted name (concat (record_lines k)) (Ok k)
judged_record skipped accepted plans k is_ready are small of name =
    let ms = accepted.map.decisions in
    let old : Bool = are_short ms in
    let holds : IsTrue old ↔ HasOldBits accepted = ((λ e. all_short ms e), (λ all. short_all ms all)) in
    (old, holds, read_again skipped accepted plans k is_ready are small of old)
