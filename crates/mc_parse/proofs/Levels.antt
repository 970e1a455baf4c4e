-- What is read with some room, by what is read with less.
use Rattle.std.proofs.Common.{◌≡◌, ◌≤◌, ◌-◌, ℕ, zero, suc, Bool, true, false, nat_le, List, Option, Some, None, refl, sym, ◌∙◌, ap, arith, if◌then◌else◌, codes}
use Rattle.std.proofs.lemmas.Bool.Decides.{nat_tests}
use Rattle.mc_span.specs.declared.span.Span.{Span}
use Rattle.mc_tree.specs.Tree.{Declarator, Item, Specifiers}
use Rattle.mc_tree.specs.Tree as t
use Rattle.mc_tree.specs.Units.{block_from}
use Rattle.mc_grammar.specs.Words.{Lexeme, sees, sees_keyword, sees_label}
use Rattle.mc_grammar.specs.Nonterminal as n
use Rattle.mc_grammar.specs.Places.{at, to}
use Rattle.mc_grammar.specs.steps.Parsers.{Parser, ◌>>=◌, and_then, expect, expect_keyword, pure, take}
use Rattle.laws_grammar.specs.Rooms.{reading}
use Rattle.laws_grammar.specs.Items.{body_of}
use Rattle.laws_grammar.specs.Statements as spec
use Rattle.laws_grammar.specs.Statements.{Block, compound_of, optional_of, statement_by, statement_of, test_of}
use Rattle.mc_parse.specs.declared.statements.beginnings.Beginning.{Beginning}
use Rattle.mc_parse.specs.declared.statements.beginnings.Beginning.TheVariants as beginning
use Rattle.mc_parse.specs.declared.statements.beginnings.Opener.{Opener}
use Rattle.mc_parse.specs.declared.statements.beginnings.Opener.TheVariants as opener
use Rattle.mc_parse.specs.declared.statements.beginnings.Whole.{Whole}
use Rattle.mc_parse.specs.declared.statements.beginnings.Whole.TheVariants as whole
use Rattle.mc_parse.specs.steps.Beginnings.{begins}
use Rattle.mc_parse.specs.steps.Fronts.{choice_of, opening_by, other_by, other_of, part_by, statement_turn, tested}
use Rattle.mc_parse.specs.steps.Fronts as f

-- a reader after another is a reader after both
after : {A B C : Type 0} (one : A → Parser B) (next : B → Parser C) (both : A → Parser C) (read : Option (A × List Lexeme))
    → ((a : A) (ts : List Lexeme) → both a ts ≡ and_then (one a ts) next)
    → and_then read both ≡ and_then (and_then read one) next
after one next both None e = refl
after one next both (Some p) e = e p.0 p.1

-- readers that agree after the same agree
each : {A B : Type 0} (one other : A → Parser B) (read : Option (A × List Lexeme))
    → ((a : A) (ts : List Lexeme) → one a ts ≡ other a ts) → and_then read one ≡ and_then read other
each one other None e = refl
each one other (Some p) e = e p.0 p.1

-- a reader after another and its end, of which only the first is kept, is a reader after both
after_both : {A B C D : Type 0} (one : A → Parser C) (next : C → Parser D) (both : A → Parser D) (read : Option (A × List Lexeme)) (closing : Parser B)
    → ((a : A) (ts : List Lexeme) → both a ts ≡ and_then (one a ts) next)
    → and_then read (λ a. closing >>= (λ b. both a)) ≡ and_then (and_then (and_then read (λ a. closing >>= (λ b. pure a))) one) next
after_both one next both None closing e = refl
after_both {B = B} one next both (Some p) closing e = by_closing (closing p.1)
  where
    by_closing : (last : Option (B × List Lexeme))
        → and_then last (λ b. both p.0) ≡ and_then (and_then (and_then last (λ b. pure p.0)) one) next
    by_closing None = refl
    by_closing (Some q) = e p.0 q.1

-- readers one after another, in whichever way they are joined
joined : {A B C : Type 0} (one : A → Parser B) (next : B → Parser C) (read : Option (A × List Lexeme))
    → and_then (and_then read one) next ≡ and_then read (λ a. one a >>= next)
joined one next None = refl
joined one next (Some p) = refl

-- a reader after a keyword and its test
after_test : {B : Type 0} (room : ℕ) (next : Span → t.Expression → Parser B) (ts : List Lexeme)
    → and_then (take ts) (λ x. test_of (reading room) >>= (λ a. next (at x) a)) ≡ and_then (tested room ts) (λ p. next p.0 p.1)
after_test room next ts = after _ _ _ (take ts) (λ x left. after _ _ _ (test_of (reading room) left) (λ a l. refl))

-- what begins, in the words of the grammar's readers
abbrev seen_whole : Whole → spec.Beginning
seen_whole whole.Null = spec.null
seen_whole whole.Goto = spec.goto_
seen_whole whole.Continue = spec.continue_
seen_whole whole.Break = spec.break_
seen_whole whole.Return = spec.return_
seen_whole whole.Expression = spec.expression

abbrev seen_opener : Opener → spec.Beginning
seen_opener opener.Label = spec.label
seen_opener opener.Case = spec.case_
seen_opener opener.Default = spec.default_
seen_opener opener.Switch = spec.switch
seen_opener opener.While = spec.while
seen_opener opener.For = spec.for_

abbrev seen : Beginning → spec.Beginning
seen (beginning.Whole kind) = seen_whole kind
seen beginning.If = spec.if_
seen beginning.Do = spec.do_
seen (beginning.Part opener) = seen_opener opener

-- a function after a choice
chosen : {A B : Type 0} (f : A → B) (b : Bool) (x y : A) (u v : B) → f x ≡ u → f y ≡ v → f (if b then x else y) ≡ (if b then u else v)
chosen f true x y u v p q = p
chosen f false x y u v p q = q

-- what the next tokens begin where it is not a block
abbrev begins_other : List Lexeme → spec.Beginning
begins_other ts = if sees (codes ";") ts then spec.null
    else (if sees_label ts then spec.label else spec.keyword_begins ts)

same_beginning : (ts : List Lexeme) → seen (begins ts) ≡ begins_other ts
unfolding begins
same_beginning ts =
    chosen seen (sees (codes ";") ts) _ _ _ _ refl (chosen seen (sees_label ts) _ _ _ _ refl
    (chosen seen (sees_keyword (codes "if") ts) _ _ _ _ refl (chosen seen (sees_keyword (codes "switch") ts) _ _ _ _ refl
    (chosen seen (sees_keyword (codes "while") ts) _ _ _ _ refl (chosen seen (sees_keyword (codes "do") ts) _ _ _ _ refl
    (chosen seen (sees_keyword (codes "for") ts) _ _ _ _ refl (chosen seen (sees_keyword (codes "case") ts) _ _ _ _ refl
    (chosen seen (sees_keyword (codes "default") ts) _ _ _ _ refl (chosen seen_whole (sees_keyword (codes "goto") ts) _ _ _ _ refl
    (chosen seen_whole (sees_keyword (codes "continue") ts) _ _ _ _ refl (chosen seen_whole (sees_keyword (codes "break") ts) _ _ _ _ refl
    (chosen seen_whole (sees_keyword (codes "return") ts) _ _ _ _ refl refl))))))))))))

split_whole : (room : ℕ) (statement : Parser t.Statement) (kind : Whole) (ts : List Lexeme)
    → statement_by room statement (seen_whole kind) ts ≡ f.whole_by room kind ts
split_whole room statement whole.Null ts = refl
split_whole room statement whole.Goto ts = refl
split_whole room statement whole.Continue ts = refl
split_whole room statement whole.Break ts = refl
split_whole room statement whole.Return ts = refl
split_whole room statement whole.Expression ts = refl

split_part : (room : ℕ) (statement : Parser t.Statement) (opener : Opener) (ts : List Lexeme)
    → statement_by room statement (seen_opener opener) ts ≡ and_then (opening_by room opener ts) (part_by statement)
split_part room statement opener.Label ts = after _ _ _ (take ts) (λ x left. after _ _ _ (take left) (λ y l. refl))
split_part room statement opener.Case ts =
    after _ _ _ (take ts) (λ x left. after _ _ _ ((reading room).expression n.cond left) (λ a l. after _ _ _ (expect (codes ":") l) (λ y m. refl)))
split_part room statement opener.Default ts = after _ _ _ (take ts) (λ x left. after _ _ _ (expect (codes ":") left) (λ y l. refl))
split_part room statement opener.Switch ts =
    after_test room (λ first a. part_by statement (f.Switch first a)) ts ∙ sym (joined _ _ (tested room ts))
split_part room statement opener.While ts =
    after_test room (λ first a. part_by statement (f.While first a)) ts ∙ sym (joined _ _ (tested room ts))
split_part room statement opener.For ts =
    after _ _ _ (take ts) (λ x a. after _ _ _ (expect (codes "(") a) (λ y b. after _ _ _ (spec.for_start_of room b) (λ start c.
    after_both _ _ _ (optional_of (codes ";") (reading room) c) (expect (codes ";")) (λ test e.
    after_both _ _ _ (optional_of (codes ")") (reading room) e) (expect (codes ")")) (λ step h. refl)))))

split : (room : ℕ) (statement : Parser t.Statement) (beginning : Beginning) (ts : List Lexeme)
    → statement_by room statement (seen beginning) ts ≡ other_by room statement beginning ts
unfolding choice_of
split room statement (beginning.Whole kind) ts = split_whole room statement kind ts
split room statement beginning.If ts = after_test room (choice_of statement) ts
split room statement beginning.Do ts = each _ _ (take ts) (λ x left. each _ _ (statement left) (λ s l.
    after _ _ _ (expect_keyword (codes "while") l) (λ y a. after _ _ _ (test_of (reading room) a) (λ test b.
    after _ _ _ (expect (codes ";") b) (λ z c. refl)))))
split room statement (beginning.Part opener) ts = split_part room statement opener ts

-- a statement, by its front
by_front : (room : ℕ) (statement : Parser t.Statement) (ts : List Lexeme)
    → statement_by room statement (spec.begins ts) ts ≡ statement_turn room statement ts
by_front room statement ts = by_brace (sees (codes "{") ts)
  where
    by_brace : (opens : Bool)
        → statement_by room statement (if opens then spec.block else begins_other ts) ts
        ≡ (if opens then spec.block_statement_of room statement ts else other_of room statement ts)
    by_brace true = refl
    by_brace false = ap (λ b. statement_by room statement b ts) (sym (same_beginning ts)) ∙ split room statement (begins ts) ts

pub statement_next : (room : ℕ) (ts : List Lexeme) → 2 ≤ room
    → statement_of room ts ≡ statement_turn (room - 1) (statement_of (room - 1)) ts
unfolding statement_of
statement_next zero ts h = absurd (omega (arith, h))
statement_next (suc zero) ts h = absurd (omega (arith, h))
statement_next (suc (suc room)) ts h = let e : suc (suc room) - 1 ≡ suc room = omega arith in rw e (by_front (suc room) (statement_of (suc room)) ts)

pub statement_none : (room : ℕ) (ts : List Lexeme) → room ≤ 1 → statement_of room ts ≡ None
unfolding statement_of
statement_none zero ts h = refl
statement_none (suc zero) ts h = refl
statement_none (suc (suc room)) ts h = absurd (omega (arith, h))

pub ruleset statement_steps = (statement_next, statement_none)

-- the rest of an item, after the body
abbrev defined_by : Span → Specifiers → Declarator → Parser Block → Parser Item
defined_by start s d block = do
  b ← block
  pure (t.Defined s d (block_from b.items) (to start b.span))

pub body_next : (room : ℕ) (start : Span) (s : Specifiers) (d : Declarator) (ts : List Lexeme) → 2 ≤ room
    → body_of room start s d ts ≡ defined_by start s d (compound_of (room - 1) (statement_of (room - 1))) ts
body_next zero start s d ts h = absurd (omega (arith, h))
body_next (suc zero) start s d ts h = absurd (omega (arith, h))
body_next (suc (suc room)) start s d ts h =
    let e : suc (suc room) - 1 ≡ suc room = omega arith in
    let some : nat_le 1 (suc room) ≡ true = grind (arith, nat_tests) in
    rw (e, some) refl

pub body_none : (room : ℕ) (start : Span) (s : Specifiers) (d : Declarator) (ts : List Lexeme) → room ≤ 1
    → body_of room start s d ts ≡ None
body_none zero start s d ts h = refl
body_none (suc zero) start s d ts h = refl
body_none (suc (suc room)) start s d ts h = absurd (omega (arith, h))

pub ruleset body_steps = (body_next, body_none)
