-- No token of a source is the name of a probe, or `#`; and each function of a text with probes has an
-- entry.
use Rattle.std.proofs.Common.{◌≡◌, ℕ, Bool, true, false, ◌||◌, List, [], ◌∷◌, Ok, codes, refl, sym, ap, subst, cond, true≢false, ◌+◌}
use Rattle.std.specs.List.{AllByRecursion as Each}
use Rattle.std.proofs.lemmas.List.Elements.{recursion_from_All}
use Rattle.mc_lex.specs.declared.token.Dialect.TheVariants.{Plain}
use Rattle.mc_lex.specs.Tokens.{Tok}
use Rattle.mc_lex.specs.Words.{one_of, probe_names}
use Rattle.mc_lex.specs.Scans.{Means}
use Rattle.mc_lex.specs.declared.candidate.Class.{Class}
use Rattle.mc_lex.specs.steps.Scanner.{punctuators_and_openings, starts_with_byte}
use Rattle.mc_lex.specs.declared.candidate.Class.TheVariants as class
use Rattle.mc_lex.proofs.Texts.{same_text}
use Rattle.mc_lex.proofs.Candidates.{Stands, stood}
use Rattle.reread_pieces.specs.declared.word.Word.TheVariants as word
use Rattle.reread_pieces.specs.Words.{is, probe_word}
use Rattle.reread_law_printed.specs.spelled.Words.{IsToken}
use Rattle.reread_law_printed.proofs.Spelled.Meanings.{tokens_mean, kept}
use Rattle.mc_typed.specs.Tree as typed
use Rattle.mc_probe.specs.Maps.{Map}
use Rattle.mc_steps.specs.Points.{Points, ◌⊕◌, points_of_function}
use Rattle.mc_probe.specs.Table.{decisions_in, put_functions}
use Rattle.mc_probe.specs.Maps.{entry_bit}
use Rattle.reread_law_printed.specs.placed.Needs.{IsOwnWord}
use Rattle.reread_law_printed.specs.placed.Laws.{HaveEntries, SourcesHaveOwnWords, FunctionsHaveEntries}

-- ---- words

no_name : (t : Tok) → one_of probe_names t.text ≡ false → probe_word t ≡ word.Other
unfolding probe_names
no_name t e =
    by_tests (is (codes "MCDC_H") t) (is (codes "MCDC_L") t) (is (codes "MCDC_W") t) (is (codes "MCDC_D") t) (is (codes "MCDC_C") t) (is (codes "mcdc_r") t) (is (codes "mcdc_v") t) e
  where
    by_tests : (a b w d c r v : Bool) → (a || (b || (w || (d || (c || (r || (v || false))))))) ≡ false
        → cond a word.Hit (cond b word.Label (cond d word.Decision (cond c word.Condition (cond w word.Switch (cond (r || v) word.Inner word.Other))))) ≡ word.Other
    by_tests true b w d c r v e = absurd (cc)
    by_tests false true w d c r v e = absurd (cc)
    by_tests false false true d c r v e = absurd (cc)
    by_tests false false false true c r v e = absurd (cc)
    by_tests false false false false true r v e = absurd (cc)
    by_tests false false false false false true v e = absurd (cc)
    by_tests false false false false false false true e = absurd (cc)
    by_tests false false false false false false false e = refl

not_sharp : (k : Class) → Stands k (codes "#") → ⊥
unfolding punctuators_and_openings
not_sharp class.Word s = true≢false (sym s)
not_sharp class.Number s = true≢false (sym s)
not_sharp class.Character s = let c = s.1 in true≢false (sym (ap (starts_with_byte 39) c.whole))
not_sharp class.Punctuator s = true≢false (sym s)

no_sharp : (t : Tok) → Means Plain t.text (Ok t.kind) → is (codes "#") t ≡ false
no_sharp t m = by_test (is (codes "#") t) refl
  where
    by_test : (b : Bool) → is (codes "#") t ≡ b → b ≡ false
    by_test true e =
        let s = stood Plain t.text (Ok t.kind) m in
        absurd (not_sharp s.class (subst (Stands s.class) (same_text t.text (codes "#") e) s.stands))
    by_test false e = refl

own_words : (ts : List Tok) → Each (IsToken Plain) ts → Each IsOwnWord ts
own_words [] h = tt
own_words (t ∷ ts) h = let k = kept t.text t.kind h.0 in ((no_name t k.1, no_sharp t h.0), own_words ts h.1)

pub sources_own : SourcesHaveOwnWords
sources_own text tokens scan = own_words tokens (recursion_from_All (IsToken Plain) tokens (tokens_mean scan))

-- ---- entries

entries : (m : Map) (number decisions : ℕ) (points : Points) (fs : List typed.Function) → HaveEntries (put_functions m number decisions points fs)
entries m number decisions points [] = tt
entries m number decisions points (f ∷ rest) =
    ((entry_bit m number, refl), entries m (number + 1) (decisions + decisions_in f) (points ⊕ points_of_function f) rest)

pub have_entries : FunctionsHaveEntries
have_entries m program = entries m _ _ _ program.functions
