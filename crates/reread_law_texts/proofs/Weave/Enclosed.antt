-- An expression in parentheses that stand where it begins and ends.
use Rattle.std.proofs.Common.{◌≡◌, ℕ, zero, suc, ◌+◌, ◌-◌, ◌<◌, List, ◌∷◌, refl, ap, subst, codes, arith}
use Rattle.mc_span.specs.declared.span.Span.{Span}
use Rattle.mc_lex.specs.declared.token.Dialect.{Dialect}
use Rattle.mc_tree.specs.Tree.{Expression}
use Rattle.mc_tree.specs.Tree as t
use Rattle.mc_grammar.specs.Words.{Lexeme, lexeme_of}
use Rattle.mc_grammar.specs.Nonterminal.{Nonterminal}
use Rattle.mc_grammar.specs.Nonterminal as n
use Rattle.mc_grammar.specs.Expressions.{Reads}
use Rattle.mc_grammar.specs.Expressions as r
use Rattle.reread_law_texts.specs.weave.Brackets.{Brackets, Step, put, sign, run, opening, closing, in_parentheses}
use Rattle.reread_law_texts.specs.weave.Trees.{around_by, around}
use Rattle.reread_law_texts.specs.weave.Weaving.{Steps}
use Rattle.reread_law_texts.proofs.Weave.Next.{After, AfterComma, at_end}
use Rattle.reread_law_texts.proofs.Weave.First.{no_specifiers}
use Rattle.reread_law_texts.proofs.Weave.Climb.{primary_to_comma}

-- where so many brackets stand, their place ends after byte 0
abbrev pub Late : ℕ → Span → Type 0
Late n span = 0 < n → 0 < span.end

same_end : (e : ℕ) → 0 < e → (e - 1) + 1 ≡ e
same_end e h = omega (arith, h)

-- the place from the `(` to the `)`
pub same_place : (span : Span) → 0 < span.end → ◌≡◌ {A = Span} (record { start = span.start; end = (span.end - 1) + 1 }) span
same_place span h = ap (λ e. record { start = span.start; end = e }) (same_end span.end h)

in_one : {d : Dialect} (span : Span) → 0 < span.end → {ts rest : List Lexeme} {a : Expression} → Reads d n.comma ts a (lexeme_of (sign (codes ")") (span.end - 1)) ∷ rest)
    → Reads d n.primary (lexeme_of (sign (codes "(") span.start) ∷ ts) (t.Parenthesized a span) rest
in_one {d = d} span h {ts = ts} {rest = rest} {a = a} p =
    subst (λ place. Reads d n.primary (lexeme_of (sign (codes "(") span.start) ∷ ts) (t.Parenthesized a place) rest) (same_place span h)
    (r.parenthesized refl (no_specifiers refl p) p refl)

-- what is read of the tokens that some steps make, before each rest that ends it
abbrev pub Makes : Dialect → Nonterminal → List Lexeme → Steps → Expression → List Lexeme → Type 0
Makes d k ts f a rest = (s : List Step) → After k (run s rest) → Reads d k (run (f s) ts) a (run s rest)

-- one pair of parentheses or more makes a primary
pub enclosed : {d : Dialect} (m : ℕ) (span : Span) → 0 < span.end → (ts rest : List Lexeme) (a : Expression) (f : Steps) → Makes d n.comma ts f a rest
    → (s : List Step) → Reads d n.primary (run (opening (suc m) span (f (closing (suc m) span s))) ts) (around_by (suc m) span a) (run s rest)
enclosed zero span h ts rest a f make s =
    in_one span h (make (put (codes ")") (span.end - 1) ∷ s) (at_end (lexeme_of (sign (codes ")") (span.end - 1)) ∷ run s rest) refl))
enclosed (suc m) span h ts rest a f make s =
    in_one span h (primary_to_comma (enclosed m span h ts rest a f make (put (codes ")") (span.end - 1) ∷ s)) (at_end (lexeme_of (sign (codes ")") (span.end - 1)) ∷ run s rest) refl))

-- a nonterminal that may be in parentheses
pub record Site (d : Dialect) (k : Nonterminal) : Type 0 where
  -- it is a comma expression where that ends
  pub raise : (ts rest : List Lexeme) (a : Expression) → Reads d k ts a rest → AfterComma rest → Reads d n.comma ts a rest
  -- and one in parentheses is it
  pub lift : (ts rest : List Lexeme) (a : Expression) → Reads d n.primary ts a rest → After k rest → Reads d k ts a rest
  pub loosen : (ts : List Lexeme) → AfterComma ts → After k ts

raised : {d : Dialect} {k : Nonterminal} → Site d k → (ts rest : List Lexeme) (a : Expression) (f : Steps) → Makes d k ts f a rest → Makes d n.comma ts f a rest
raised site ts rest a f make s q = site.raise (run (f s) ts) (run s rest) a (make s (site.loosen (run s rest) q)) q

-- a node, in as many parentheses as there are
node_by : {d : Dialect} {k : Nonterminal} → Site d k → (m : ℕ) (span : Span) → Late m span → (ts rest : List Lexeme) (a : Expression) (f : Steps) → Makes d k ts f a rest
    → Makes d k ts (λ s. opening m span (f (closing m span s))) (around_by m span a) rest
node_by site zero span h ts rest a f make s q = make s q
node_by site (suc m) span h ts rest a f make s q =
    site.lift (run (opening (suc m) span (f (closing (suc m) span s))) ts) (run s rest) (around_by (suc m) span a)
    (enclosed m span (h (omega arith)) ts rest a f (raised site ts rest a f make) s) q

pub node : {d : Dialect} {k : Nonterminal} → Site d k → (w : Brackets) (span : Span) → Late (w.parentheses span) span → (ts rest : List Lexeme) (a : Expression) (f : Steps) → Makes d k ts f a rest
    → Makes d k ts (in_parentheses w span f) (around w span a) rest
node site w span h ts rest a f make = node_by site (w.parentheses span) span h ts rest a f make
