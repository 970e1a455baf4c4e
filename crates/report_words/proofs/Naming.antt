-- Words name states.
use Rattle.std.proofs.Common.{◌≡◌, ◌∙◌, ℕ, Bool, true, false, List, [], ◌∷◌, Some, refl, sym, ap, subst}
use Rattle.std.specs.Prelude.{if◌then◌else◌}
use Rattle.std.specs.Str.{bytes_eq}
use Rattle.std.proofs.lemmas.Slice.Eq.{bytes_eq-Decides}
use Rattle.mc_value.specs.declared.trap.Trap.TheVariants.{Overflow, Division, Shift, Index, Unset, NoReturn, InputEnd}
use Rattle.mc_typed.specs.declared.plans.Ending.TheVariants as ending
use Rattle.mc_typed.specs.declared.plans.TestState.{TestState}
use Rattle.mc_typed.specs.declared.plans.TestState.TheVariants.{Pass, Fail, Ended}
use Rattle.report_words.specs.Words.{state_word}
use Rattle.report_words.specs.Named.{state_among, state_named, states_with_words}
use Rattle.report_words.specs.Laws.{WordsNameStates, NamedStatesHaveWords}

pub named_by_word : WordsNameStates
unfolding state_named
named_by_word Pass other = refl
named_by_word Fail other = refl
named_by_word (Ended ending.Returned) other = absurd (other refl)
named_by_word (Ended (ending.Trap Overflow)) other = refl
named_by_word (Ended (ending.Trap Division)) other = refl
named_by_word (Ended (ending.Trap Shift)) other = refl
named_by_word (Ended (ending.Trap Index)) other = refl
named_by_word (Ended (ending.Trap Unset)) other = refl
named_by_word (Ended (ending.Trap NoReturn)) other = refl
named_by_word (Ended (ending.Trap InputEnd)) other = refl
named_by_word (Ended ending.Fuel) other = refl
named_by_word (Ended ending.Levels) other = refl
named_by_word (Ended ending.Cells) other = refl
named_by_word (Ended ending.OutputFull) other = refl

by_first : (word : List ℕ) (x s : TestState) (xs : List TestState) (b : Bool) → bytes_eq (state_word x) word ≡ b → (state_among xs word ≡ Some s → bytes_eq (state_word s) word ≡ true) → (if b then Some x else state_among xs word) ≡ Some s → bytes_eq (state_word s) word ≡ true
by_first word x s xs true e later found =
    let same : x ≡ s = cc in
    let P : TestState → Type 0 = λ t. bytes_eq (state_word t) word ≡ true in
    subst P same e
by_first word x s xs false e later found = later found

found_has_word : (word : List ℕ) (states : List TestState) (s : TestState) → state_among states word ≡ Some s → bytes_eq (state_word s) word ≡ true
found_has_word word [] s is = absurd (cc is)
found_has_word word (x ∷ xs) s is = by_first word x s xs (bytes_eq (state_word x) word) refl (found_has_word word xs s) is

-- the empty word names no state
none_empty : (s : TestState) → state_named [] ≡ Some s → ⊥
unfolding state_named
none_empty s is = cc

state_has_word : (word : List ℕ) (s : TestState) → state_named word ≡ Some s → state_word s ≡ word
unfolding state_named
state_has_word word s is = (bytes_eq-Decides (state_word s) word).0 (found_has_word word states_with_words s is)

pub named_have_words : NamedStatesHaveWords
named_have_words word s is =
    let P : List ℕ → Type 0 = λ w. state_named w ≡ Some s in
    let has = state_has_word word s is in
    (has, λ returned. none_empty s (subst P (sym has ∙ ap state_word returned) is))
