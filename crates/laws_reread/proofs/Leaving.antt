-- The tokens that are left of a text are the last of those that were given.
use Rattle.std.proofs.Common.{◌≡◌, ℕ, List, [], ◌∷◌, ◌++◌, refl, sym, ap, subst, ◌∙◌}
use Rattle.mc_span.specs.declared.span.Span.{Span}
use Rattle.mc_lex.specs.declared.token.Dialect.{Dialect}
use Rattle.mc_lex.specs.Tokens.{Tok}
use Rattle.mc_tree.specs.Tree.{BlockItems, Item}
use Rattle.mc_grammar.specs.Words.{Lexeme, lexemes_of}
use Rattle.mc_grammar.specs.Expressions.{ReadsStars}
use Rattle.mc_grammar.specs.Expressions as r
use Rattle.mc_grammar.specs.Statements.{ReadsBlockItems}
use Rattle.mc_grammar.specs.Statements as g
use Rattle.mc_grammar.specs.Items.{ReadsItem}
use Rattle.mc_grammar.specs.Spelling.{Spelled, Spells}
use Rattle.mc_grammar.specs.Spelling as spelling
use Rattle.mc_grammar.proofs.Storage.{local_typedef}
use Rattle.mc_grammar.proofs.Spelling.{declaration_spells, statement_spells, item_spells}
use Rattle.reread_law_texts.specs.alike.Moves.{FollowFrom}
use Rattle.laws_reread.proofs.Tokens.{AreClear}
use Rattle.reread_law_texts.proofs.Tokens.{tk, retag_tokens}

pub same_tokens : (tokens : List Tok) → tokens ≡ tk (lexemes_of tokens)
same_tokens [] = refl
same_tokens (x ∷ tokens) = ap (λ us. x ∷ us) (same_tokens tokens)

pub assoc : (a b c : List Tok) → (a ++ b) ++ c ≡ a ++ (b ++ c)
assoc [] b c = refl
assoc (x ∷ a) b c = ap (λ us. x ∷ us) (assoc a b c)

-- ---- what is left

pub record Leaves (from rest : List Tok) : Type 0 where
  pub inside : List Tok
  pub all : from ≡ inside ++ rest

all_left : {ts : List Tok} → Leaves ts ts
all_left = record { inside = []; all = refl }

put : (x : Tok) {ts rest : List Tok} → Leaves ts rest → Leaves (x ∷ ts) rest
put x p = record { inside = x ∷ p.inside; all = ap (λ us. x ∷ us) p.all }

pub join : {a b c : List Tok} → Leaves a b → Leaves b c → Leaves a c
join {c = c} p q = record { inside = p.inside ++ q.inside; all = p.all ∙ ap (λ us. p.inside ++ us) q.all ∙ sym (assoc p.inside q.inside c) }

-- What holds of all tokens from a byte on holds of those that are left.

follow_later : (front rest : List Tok) (c : ℕ) → FollowFrom c (front ++ rest) → (e : ℕ) × FollowFrom e rest
follow_later [] rest c h = (c, h)
follow_later (x ∷ front) rest c h = follow_later front rest _ h.2

pub followed : {from rest : List Tok} (c : ℕ) (p : Leaves from rest) → FollowFrom c from → (e : ℕ) × FollowFrom e rest
followed {rest = rest} c p h = follow_later p.inside rest c (subst (λ us. FollowFrom c us) p.all h)

clear_later : (front rest : List Tok) → AreClear (front ++ rest) → AreClear rest
clear_later [] rest h = h
clear_later (x ∷ front) rest h = clear_later front rest h.1

pub cleared : {from rest : List Tok} (p : Leaves from rest) → AreClear from → AreClear rest
cleared {rest = rest} p h = clear_later p.inside rest (subst (λ us. AreClear us) p.all h)

-- ---- what is read

pub spelled : {all : List Spelled} {ts rest : List Lexeme} → Spells all ts rest → Leaves (tk ts) (tk rest)
spelled spelling.nothing = all_left
spelled (spelling.token {x = x} e p) = put x.token (spelled p)
spelled (spelling.last_comma {x = x} e f p) = put x.token (spelled p)
spelled {rest = rest} (spelling.in_force {name = name} {ts = ts} p) = subst (λ us. Leaves us (tk rest)) (retag_tokens name ts) (spelled p)

pub stars_leave : {before last : Span} {ts rest : List Lexeme} {k : ℕ} → ReadsStars before ts k last rest → Leaves (tk ts) (tk rest)
stars_leave (r.star {x = x} e p) = put x.token (stars_leave p)
stars_leave (r.no_star e) = all_left

pub block_leaves : {d : Dialect} {ts rest : List Lexeme} {b : BlockItems} → ReadsBlockItems d ts b rest → Leaves (tk ts) (tk rest)
block_leaves (g.block_end e) = all_left
block_leaves (g.local e p q) = join (spelled (declaration_spells local_typedef p spelling.nothing)) (block_leaves q)
block_leaves (g.statement e f p q) = join (spelled (statement_spells p spelling.nothing)) (block_leaves q)

pub item_leaves : {d : Dialect} {ts rest : List Lexeme} {one : Item} → ReadsItem d ts one rest → Leaves (tk ts) (tk rest)
item_leaves p = spelled (item_spells p spelling.nothing)
