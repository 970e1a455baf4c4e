-- What a text means by itself.
use Rattle.std.proofs.Common.{◌≡◌, ℕ, Bool, true, false, not, cond, List, Option, Result, Ok, Err, All, refl, ap, subst, sym, ◌∙◌}
use Rattle.std.proofs.lemmas.List.Elements.{All-nil, All-cons}
use Rattle.mc_lex.specs.declared.token.Dialect.{Dialect}
use Rattle.mc_lex.specs.declared.token.Dialect.TheVariants.{Plain, Instrumented}
use Rattle.mc_lex.specs.declared.token.TokenKind.{TokenKind}
use Rattle.mc_lex.specs.declared.token.TokenKind.TheVariants.{Identifier, Keyword}
use Rattle.mc_lex.specs.declared.fault_kind.FaultKind.{FaultKind}
use Rattle.mc_lex.specs.declared.fault_kind.FaultKind.TheVariants.{OutsideWord}
use Rattle.mc_lex.specs.declared.fault.LexFault.{LexFault}
use Rattle.mc_lex.specs.declared.candidate.Class.{Class}
use Rattle.mc_lex.specs.declared.candidate.Class.TheVariants as class
use Rattle.mc_lex.specs.Tokens.{Tok}
use Rattle.mc_lex.specs.Words.{one_of, is_word, keywords, outside_keywords, probe_names, word_kind}
use Rattle.mc_lex.specs.Scans.{Means, Scans}
use Rattle.mc_lex.specs.Scans as r
use Rattle.mc_lex.specs.steps.Scanner.{kind_of}
use Rattle.mc_lex.proofs.Texts.{is_false, passes}
use Rattle.mc_lex.proofs.Candidates.{Stands, one_class, stood, means_of}
use Rattle.reread_law_printed.specs.spelled.Words.{IsToken}

pub one_meaning : (d : Dialect) (text : List ℕ) (what other : Result TokenKind FaultKind) → Means d text what → Means d text other → what ≡ other
one_meaning d text what other m n =
    let s = stood d text what m in
    let t = stood d text other n in
    sym s.kind ∙ ap (λ k. kind_of d k text) (one_class s.class t.class text s.stands t.stands) ∙ t.kind

pub tokens_mean : {d : Dialect} {before bytes : List ℕ} {ts : List Tok} {stop : Option LexFault} → Scans d before bytes ts stop → All (IsToken d) ts
tokens_mean {d = d} (r.ends before) = All-nil (IsToken d)
tokens_mean (r.gap before text after bytes ts stop e g s) = tokens_mean s
tokens_mean {d = d} (r.token before text after bytes kind ts stop c l s) = All-cons (IsToken d) _ ts l.means (tokens_mean s)
tokens_mean {d = d} (r.stops before bytes why s) = All-nil (IsToken d)

-- ---- the two dialects

-- what is no word is no name of a probe
no_name : (k : Class) (text : List ℕ) → Stands k text → (class.Word ≡ k → ⊥) → one_of probe_names text ≡ false
unfolding probe_names
no_name k text s other = by_test (one_of probe_names text) refl
  where
    by_test : (t : Bool) → one_of probe_names text ≡ t → t ≡ false
    by_test true e = absurd (other (one_class class.Word k text (passes is_word probe_names text refl e) s))
    by_test false e = refl

keyword_no_name : (text : List ℕ) → one_of keywords text ≡ true → one_of probe_names text ≡ false
unfolding keywords probe_names
keyword_no_name text o = is_false _ (passes (λ t. not (one_of probe_names t)) keywords text refl o)

abbrev SameWord : List ℕ → TokenKind → Type 0
SameWord text kind =
    (word_kind Plain text ≡ Ok kind → (word_kind Instrumented text ≡ Ok kind) × (one_of probe_names text ≡ false))
    × (word_kind Instrumented text ≡ Ok kind → one_of probe_names text ≡ false → word_kind Plain text ≡ Ok kind)

abbrev of_plain : Bool → Bool → Bool → Result TokenKind FaultKind
of_plain a b c = cond a (Ok Keyword) (cond c (Err OutsideWord) (cond b (Err OutsideWord) (Ok Identifier)))

abbrev of_instrumented : Bool → Bool → Bool → Result TokenKind FaultKind
of_instrumented a b c = cond a (Ok Keyword) (cond b (Ok Keyword) (cond c (Err OutsideWord) (Ok Identifier)))

-- by whether the text is a keyword, a name of a probe, a keyword that is left out
by_tests : (kind : TokenKind) (a b c : Bool) → (a ≡ true → b ≡ false)
    → (of_plain a b c ≡ Ok kind → (of_instrumented a b c ≡ Ok kind) × (b ≡ false)) × (of_instrumented a b c ≡ Ok kind → b ≡ false → of_plain a b c ≡ Ok kind)
by_tests kind true b c f = (λ h. (h, f refl), λ h i. h)
by_tests kind false true true f = (λ h. absurd (cc), λ h i. absurd (cc))
by_tests kind false false true f = (λ h. absurd (cc), λ h i. h)
by_tests kind false true false f = (λ h. absurd (cc), λ h i. absurd (cc))
by_tests kind false false false f = (λ h. (h, refl), λ h i. h)

same_word : (text : List ℕ) (kind : TokenKind) → SameWord text kind
same_word text kind = by_tests kind (one_of keywords text) (one_of probe_names text) (one_of outside_keywords text) (keyword_no_name text)

same_kind : (k : Class) (text : List ℕ) (kind : TokenKind) → Stands k text
    → (kind_of Plain k text ≡ Ok kind → (kind_of Instrumented k text ≡ Ok kind) × (one_of probe_names text ≡ false))
    × (kind_of Instrumented k text ≡ Ok kind → one_of probe_names text ≡ false → kind_of Plain k text ≡ Ok kind)
unfolding kind_of
same_kind class.Word text kind s = same_word text kind
same_kind class.Number text kind s = (λ h. (h, no_name class.Number text s (λ e. cc)), λ h i. h)
same_kind class.Character text kind s = (λ h. (h, no_name class.Character text s (λ e. cc)), λ h i. h)
same_kind class.Punctuator text kind s = (λ h. (h, no_name class.Punctuator text s (λ e. cc)), λ h i. h)

pub kept : (text : List ℕ) (kind : TokenKind) → Means Plain text (Ok kind) → Means Instrumented text (Ok kind) × (one_of probe_names text ≡ false)
kept text kind m =
    let s = stood Plain text (Ok kind) m in
    let same = (same_kind s.class text kind s.stands).0 s.kind in
    (subst (λ w. Means Instrumented text w) same.0 (means_of Instrumented s.class text s.stands), same.1)

pub plain : (text : List ℕ) (kind : TokenKind) → Means Instrumented text (Ok kind) → one_of probe_names text ≡ false → Means Plain text (Ok kind)
plain text kind m unnamed =
    let s = stood Instrumented text (Ok kind) m in
    subst (λ w. Means Plain text w) ((same_kind s.class text kind s.stands).1 s.kind unnamed) (means_of Plain s.class text s.stands)
