-- What the kind of a token says of its text.
use Rattle.std.proofs.Common.{◌≡◌, ℕ, Bool, true, false, ◌||◌, List, [], ◌∷◌, Ok, refl, sym, ap, ◌∙◌, codes, true≢false}
use Rattle.mc_lex.specs.declared.token.Dialect.{Dialect}
use Rattle.mc_lex.specs.declared.token.TokenKind.{TokenKind}
use Rattle.mc_lex.specs.declared.token.TokenKind.TheVariants as kind
use Rattle.mc_lex.specs.declared.candidate.Class.{Class}
use Rattle.mc_lex.specs.declared.candidate.Class.TheVariants as class
use Rattle.mc_lex.specs.declared.fault_kind.FaultKind.TheVariants as fault_kind
use Rattle.mc_lex.specs.Tokens.{Tok}
use Rattle.mc_lex.specs.Words.{one_of}
use Rattle.mc_lex.specs.Scans.{Means}
use Rattle.mc_lex.specs.steps.Scanner.{punctuators_and_openings, outside_punctuators_and_openings, kind_of}
use Rattle.mc_lex.proofs.Texts.{passes}
use Rattle.mc_lex.proofs.Candidates.{Stands, stood, one_class}
use Rattle.mc_grammar.specs.Words.{is_punctuator_kind}
use Rattle.reread_law_printed.specs.parts.Stands.{is_brace}
use Rattle.reread_law_rows.specs.fitting.Laws.{MeanTheirKinds}
use Rattle.reread_law_rows.proofs.Fitting.Words.{is_any_punctuator, sign_kind}

-- ---- a `{` is a punctuator

abbrev braces : List (List ℕ)
braces = codes "{" ∷ []

are_punctuators : (text : List ℕ) → one_of braces text ≡ true → one_of punctuators_and_openings text ≡ true
unfolding punctuators_and_openings
are_punctuators text e = passes is_any_punctuator braces text refl e

not_sign : (d : Dialect) (k : Class) (text : List ℕ) (one : TokenKind) → Stands k text → kind_of d k text ≡ Ok one → is_punctuator_kind one ≡ false → one_of braces text ≡ true → ⊥
unfolding kind_of
not_sign d class.Punctuator text one s e h f =
    let same : one ≡ kind.Punctuator = sign_kind (one_of outside_punctuators_and_openings text) one e in
    true≢false (sym (ap is_punctuator_kind same) ∙ h)
not_sign d class.Word text one s e h f = let same : class.Word ≡ class.Punctuator = one_class class.Word class.Punctuator text s (are_punctuators text f) in cc
not_sign d class.Number text one s e h f = let same : class.Number ≡ class.Punctuator = one_class class.Number class.Punctuator text s (are_punctuators text f) in cc
not_sign d class.Character text one s e h f = let same : class.Character ≡ class.Punctuator = one_class class.Character class.Punctuator text s (are_punctuators text f) in cc

no : (b : Bool) → ((b || false) ≡ true → ⊥) → b ≡ false
no true h = absurd (h refl)
no false h = refl

-- No other token has its text.
abbrev pub Clear : Tok → Type 0
Clear t = is_punctuator_kind t.kind ≡ false → is_brace t ≡ false

abbrev pub AreClear : List Tok → Type 0
AreClear [] = Unit {0}
AreClear (t ∷ ts) = Clear t × AreClear ts

clear : (d : Dialect) (t : Tok) → Means d t.text (Ok t.kind) → Clear t
clear d t m h = let s = stood d t.text (Ok t.kind) m in no (is_brace t) (λ f. not_sign d s.class t.text t.kind s.stands s.kind h f)

pub are_clear : (d : Dialect) (ts : List Tok) → MeanTheirKinds d ts → AreClear ts
are_clear d [] h = tt
are_clear d (t ∷ ts) h = (clear d t h.0, are_clear d ts h.1)

-- ---- kinds
