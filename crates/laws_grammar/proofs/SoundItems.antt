-- What the readers of items and of a whole unit give, the grammar reads.
use Rattle.std.proofs.Common.{◌≡◌, ℕ, zero, suc, ◌+◌, ◌<◌, ◌≤◌, Bool, true, false, ◌&&◌, nat_le, List, [], ◌∷◌, length, Some, refl, arith, codes}
use Rattle.std.proofs.lemmas.Bool.Decides.{nat_tests}
use Rattle.mc_lex.specs.declared.token.Dialect.{Dialect}
use Rattle.mc_span.specs.declared.span.Span.{Span}
use Rattle.mc_tree.specs.Tree.{BlockItems, Declarator, Item, Specifiers}
use Rattle.mc_tree.specs.Tree as t
use Rattle.mc_tree.specs.Height.{height_item, height_unit}
use Rattle.mc_grammar.specs.Words.{Lexeme, sees}
use Rattle.mc_grammar.specs.Places.{at, to}
use Rattle.mc_grammar.specs.Counts.{for_function, for_item, is_typedef}
use Rattle.mc_grammar.specs.Expressions.{ReadsDeclarator, ReadsSpecifiers}
use Rattle.mc_grammar.specs.Expressions as e
use Rattle.mc_grammar.specs.Statements.{ReadsCompound}
use Rattle.mc_grammar.specs.Items.{ReadsItem, ReadsUnit, is_item_of}
use Rattle.mc_grammar.specs.Items as r
use Rattle.mc_grammar.specs.steps.Next.{ended}
use Rattle.laws_grammar.specs.Rooms.{reading}
use Rattle.laws_grammar.specs.Statements.{statement_of}
use Rattle.laws_grammar.specs.Items.{is_function, body_of, defined_of, item_of, unit_of}
use Rattle.laws_grammar.proofs.Known.{and_left, and_right}
use Rattle.laws_grammar.proofs.Rules.{After, done, nothing, reads, so, test, only_where}
use Rattle.laws_grammar.proofs.SoundLists.{UntilList, until_end, until_more, all_added, sound_until_list}
use Rattle.laws_grammar.proofs.SoundParts.{ReadWords}
use Rattle.laws_grammar.proofs.SoundStarts.{specifiers_start}
use Rattle.laws_grammar.proofs.SoundDeclarators.{ReadDeclarator, sound_declarator}
use Rattle.laws_grammar.proofs.SoundSpecifiers.{sound_reading}
use Rattle.laws_grammar.proofs.SoundDeclarations.{sound_declared, sound_undeclared}
use Rattle.laws_grammar.proofs.SoundStatements.{sound_compound, sound_statement}

pub record ReadItem (d : Dialect) (bound : ℕ) (ts : List Lexeme) (i : Item) (rest : List Lexeme) : Type 0 where
  pub reads : ReadsItem d ts i rest
  pub low : height_item i < bound

pub record ReadUnit (d : Dialect) (bound : ℕ) (ts : List Lexeme) (unit : List Item) (rest : List Lexeme) : Type 0 where
  pub reads : ReadsUnit d ts unit
  pub low : height_unit unit < bound
  pub ends : rest ≡ []

-- the words of an item are those of a typedef, or of one that is none
item_words : (s : Specifiers) → for_item s ≡ true → is_item_of (is_typedef s) s ≡ true
item_words s h = by (is_typedef s) refl
  where
    by : (b : Bool) → is_typedef s ≡ b → is_item_of b s ≡ true
    by true e = rw (h, e) refl
    by false e = rw (h, e) refl

definition : {d : Dialect} {x : Lexeme} {span : Span} {ts words body rest : List Lexeme} {s : Specifiers} {one : Declarator} {b : BlockItems} → ReadsSpecifiers d false (x ∷ ts) s words
    → for_function s ≡ true → is_function one ≡ true → ReadsDeclarator d words one body → ReadsCompound d body b span rest → ReadsItem d (x ∷ ts) (t.Defined s one b (to (at x) span)) rest
definition p h f (e.function q hy u) c = r.defined p h q hy u c
definition p h f (e.object q hy g u) c = absurd (cc)

sound_body : (d : Dialect) (rooms : ℕ) (x : Lexeme) (ts words mid : List Lexeme) (s : Specifiers) (one : Declarator) → ReadWords d for_item rooms (x ∷ ts) s words → for_function s ≡ true
    → is_function one ≡ true → ReadDeclarator d rooms words one mid → After (ReadItem d rooms (x ∷ ts)) (body_of rooms (at x) s one mid)
sound_body d zero x ts words mid s one p h f q = nothing
sound_body d (suc room) x ts words mid s one p h f q = only_where (nat_le 1 room) (λ g. let some : 0 < room = grind (arith, nat_tests) in
    reads (sound_compound d room some (statement_of room) (sound_statement d room) mid) (λ b rest u.
    done (record { reads = definition p.reads h f q.reads u.reads; low = omega (arith, p.low, q.low, u.low) })))

sound_defined : (d : Dialect) (rooms : ℕ) (x : Lexeme) (ts words mid : List Lexeme) (s : Specifiers) (one : Declarator) → ReadWords d for_item rooms (x ∷ ts) s words
    → ReadDeclarator d rooms words one mid → After (ReadItem d rooms (x ∷ ts)) (defined_of rooms (at x) s one mid)
unfolding defined_of
sound_defined d rooms x ts words mid s one p q = only_where (is_function one && for_function s) (λ h.
    sound_body d rooms x ts words mid s one p (and_right (is_function one) (for_function s) h) (and_left (is_function one) (for_function s) h) q)

-- the specifiers of an item, as those of its declaration
as_item : {d : Dialect} {bound : ℕ} {ts rest : List Lexeme} {s : Specifiers} → ReadWords d for_item bound ts s rest → ReadWords d (is_item_of (is_typedef s)) bound ts s rest
as_item {s = s} p = record { reads = p.reads; allows = item_words s p.allows; low = p.low }

module _ (d : Dialect) (rooms : ℕ) (some : 0 < rooms) where
  pub sound_item : (ts : List Lexeme) → After (ReadItem d rooms ts) (item_of rooms ts)
  unfolding item_of
  sound_item [] = nothing
  sound_item (x ∷ ts) = reads ((sound_reading d rooms).specifiers for_item (x ∷ ts)) (λ s words p. let first = specifiers_start p.reads p.allows in test (sees (codes ";") words) _ _ words
      (λ h. reads (sound_undeclared d rooms some (is_typedef s) (is_item_of (is_typedef s)) x ts words s first (as_item p) h) (λ one rest q. done (record { reads = r.declared q.reads; low = q.low })))
      (λ h. reads (sound_declarator d (reading rooms) rooms some (sound_reading d rooms) words) (λ one mid q. test (sees (codes "{") mid) _ _ mid
      (λ g. sound_defined d rooms x ts words mid s one p q)
      (λ g. reads (sound_declared d rooms some (is_typedef s) (is_item_of (is_typedef s)) x ts words mid s one first (as_item p) q) (λ all rest u.
      done (record { reads = r.declared u.reads; low = u.low }))))))

  unit_list : {ts rest : List Lexeme} {all : List Item} → UntilList ended (ReadItem d rooms) ts all rest → ReadUnit d rooms ts all rest
  unit_list {ts = []} (until_end h) = record { reads = r.no_items; low = some; ends = refl }
  unit_list {ts = x ∷ ts} (until_end h) = absurd (cc)
  unit_list (until_more h p more) = let q = unit_list more in record { reads = r.item p.reads q.reads; low = omega (arith, p.low, q.low); ends = q.ends }

  pub sound_unit : (ts : List Lexeme) → After (ReadUnit d rooms ts) (unit_of rooms ts)
  unfolding unit_of
  sound_unit ts = so (sound_until_list (ReadItem d rooms) (item_of rooms) ended (λ l h. sound_item l) (length ts + 1) [] ts) (λ all rest p. unit_list (all_added p))

pub sound_whole : (d : Dialect) (limit : ℕ) (ts rest : List Lexeme) (unit : List Item) → unit_of (limit + 1) ts ≡ Some (unit, rest) → ReadsUnit d ts unit × (height_unit unit ≤ limit) × (rest ≡ [])
sound_whole d limit ts rest unit e = let read = (sound_unit d (limit + 1) (omega arith) ts).gives unit rest e in (read.reads, omega (arith, read.low), read.ends)
