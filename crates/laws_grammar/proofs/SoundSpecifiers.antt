-- What the readers of specifiers give, the grammar reads; and with them what reads parts, at every room.
use Rattle.std.proofs.Common.{◌≡◌, ℕ, zero, suc, ◌+◌, ◌<◌, Bool, true, false, not, ◌||◌, nat_le, List, [], ◌∷◌, ◌++◌, length, Option, Some, None, refl, sym, subst, append-nil, arith, codes}
use Rattle.std.proofs.lemmas.Bool.Decides.{nat_tests}
use Rattle.mc_lex.specs.declared.token.Dialect.{Dialect}
use Rattle.mc_tree.specs.declared.declarations.specifier_word.SpecifierWord.{SpecifierWord}
use Rattle.mc_tree.specs.Tree.{Name, Enumerators, Members, Specifier, Specifiers}
use Rattle.mc_tree.specs.Tree as t
use Rattle.mc_tree.specs.Height.{height_specifier, height_specifiers}
use Rattle.mc_tree.specs.Views.{enumerators_from, members_from, specifiers_from}
use Rattle.mc_grammar.specs.Words.{Lexeme, is_punctuator, is_keyword, is_tag, is_type_name, sees, go_on}
use Rattle.mc_grammar.specs.Places.{at, name_at, to}
use Rattle.mc_grammar.specs.Expressions.{ReadsSpecifiers, ReadsMembers, ReadsEnumerators}
use Rattle.mc_grammar.specs.Expressions as r
use Rattle.mc_grammar.specs.steps.Next.{word_at}
use Rattle.laws_grammar.specs.Expressions.{Parts}
use Rattle.laws_grammar.specs.Specifiers.{structure_list, structure_of, enumeration_list, enumeration_of, specifier_by, specifier_of, is_type_specifier, specifiers_loop, specifiers_of}
use Rattle.laws_grammar.specs.Rooms.{reading}
use Rattle.laws_grammar.proofs.Rules.{After, done, nothing, reads, accepts, accepts_at, takes_at, so, test, only_where}
use Rattle.laws_grammar.proofs.SoundLists.{Added, added_more, all_added}
use Rattle.laws_grammar.proofs.SoundTokens.{word_is, no_word, type_name_left}
use Rattle.laws_grammar.proofs.SoundParts.{ReadWords, Sound}
use Rattle.laws_grammar.proofs.SoundExpressions.{sound_expression_of}
use Rattle.laws_grammar.proofs.SoundDeclarators.{ReadMembers, ReadEnumerators, sound_members, sound_enumerators}

-- one specifier, and those after it
record ReadSpecifier (d : Dialect) (bound : ℕ) (has_type : Bool) (ts : List Lexeme) (one : Specifier) (rest : List Lexeme) : Type 0 where
  goes : {s : Specifiers} {end : List Lexeme} → ReadsSpecifiers d (has_type || is_type_specifier one) rest s end → ReadsSpecifiers d has_type ts (t.specifiers one s) end
  low : height_specifier one < bound

record ReadList (d : Dialect) (bound : ℕ) (has_type : Bool) (ts : List Lexeme) (all : List Specifier) (rest : List Lexeme) : Type 0 where
  reads : ReadsSpecifiers d has_type ts (specifiers_from all) rest
  low : height_specifiers (specifiers_from all) < bound

or_true : (b : Bool) → (b || true) ≡ true
or_true true = refl
or_true false = refl

-- after a type there is one
typed : {d : Dialect} {ts rest : List Lexeme} {s : Specifiers} (b : Bool) → ReadsSpecifiers d (b || true) ts s rest → ReadsSpecifiers d true ts s rest
typed {d} {ts} {rest} {s} b p = subst (λ h. ReadsSpecifiers d h ts s rest) (or_true b) p

module _ (d : Dialect) (parts : Parts) (room : ℕ) (sound : Sound d parts room) where
  -- the tokens before the list of a structure, and what reads the whole with them
  sound_structure_list : (has_type : Bool) (x : Lexeme) (tag : Option Name) (start : List Lexeme → List Lexeme)
      → ((z v : Lexeme) (body mid rest : List Lexeme) (ms : Members) (s : Specifiers) → is_punctuator (codes "{") z ≡ true → ReadsMembers d body ms (v ∷ mid) → is_punctuator (codes "}") v ≡ true
      → ReadsSpecifiers d true mid s rest → ReadsSpecifiers d has_type (start (z ∷ body)) (t.specifiers (t.Structure tag ms (to (at x) (at v))) s) rest)
      → (ts : List Lexeme) → sees (codes "{") ts ≡ true → After (ReadSpecifier d (suc room) has_type (start ts)) (structure_list parts room x tag ts)
  sound_structure_list has_type x tag start build ts h = only_where (nat_le 1 room) (λ g. let some : 0 < room = grind (arith, nat_tests) in
      takes_at (λ l. ReadSpecifier d (suc room) has_type (start l)) (λ l. sees (codes "{") l ≡ true) _ ts h (λ z body hz.
      reads (sound_members d parts room some sound body) (λ ms mid p.
      accepts (λ l. ReadMembers d room body ms l) (is_punctuator (codes "}")) _ mid p (λ v rest q hv.
      done (record { goes = λ {s} {end} more. build z v body rest end (members_from ms) s hz q.reads hv (typed has_type more); low = omega (arith, q.low) })))))

  sound_enumeration_list : (has_type : Bool) (x : Lexeme) (tag : Option Name) (start : List Lexeme → List Lexeme)
      → ((z v : Lexeme) (body mid rest : List Lexeme) (es : Enumerators) (s : Specifiers) → is_punctuator (codes "{") z ≡ true → ReadsEnumerators d body es (v ∷ mid) → is_punctuator (codes "}") v ≡ true
      → ReadsSpecifiers d true mid s rest → ReadsSpecifiers d has_type (start (z ∷ body)) (t.specifiers (t.Enumeration tag es (to (at x) (at v))) s) rest)
      → (ts : List Lexeme) → sees (codes "{") ts ≡ true → After (ReadSpecifier d (suc room) has_type (start ts)) (enumeration_list parts room x tag ts)
  sound_enumeration_list has_type x tag start build ts h = only_where (nat_le 1 room) (λ g. let some : 0 < room = grind (arith, nat_tests) in
      takes_at (λ l. ReadSpecifier d (suc room) has_type (start l)) (λ l. sees (codes "{") l ≡ true) _ ts h (λ z body hz.
      reads (sound_enumerators d parts room some sound body) (λ es mid p.
      accepts (λ l. ReadEnumerators d room body es l) (is_punctuator (codes "}")) _ mid p (λ v rest q hv.
      done (record { goes = λ {s} {end} more. build z v body rest end (enumerators_from es) s hz q.reads hv (typed has_type more); low = omega (arith, q.low) })))))

  sound_structure : (has_type : Bool) (x : Lexeme) (ts : List Lexeme) → is_keyword (codes "struct") x ≡ true → After (ReadSpecifier d (suc room) has_type (x ∷ ts)) (structure_of parts room (x ∷ ts))
  unfolding structure_of
  sound_structure has_type x ts hx = test (sees (codes "{") ts) _ _ ts
      (λ h. sound_structure_list has_type x None (λ l. x ∷ l) (λ z v body mid rest ms s hz p hv q. r.untagged_structure hx hz p hv q) ts h)
      (λ h. accepts_at (λ l. ReadSpecifier d (suc room) has_type (x ∷ l)) (λ l. Unit {0}) is_tag _ ts tt (λ y mid u hy. test (sees (codes "{") mid) _ _ mid
      (λ g. sound_structure_list has_type x (Some (name_at y)) (λ l. x ∷ y ∷ l) (λ z v body mid rest ms s hz p hv q. r.structure hx hy hz p hv q) mid g)
      (λ g. done (record { goes = λ more. r.structure_tag hx hy g (typed has_type more); low = omega arith }))))

  sound_enumeration : (has_type : Bool) (x : Lexeme) (ts : List Lexeme) → is_keyword (codes "enum") x ≡ true → After (ReadSpecifier d (suc room) has_type (x ∷ ts)) (enumeration_of parts room (x ∷ ts))
  unfolding enumeration_of
  sound_enumeration has_type x ts hx = test (sees (codes "{") ts) _ _ ts
      (λ h. sound_enumeration_list has_type x None (λ l. x ∷ l) (λ z v body mid rest es s hz p hv q. r.untagged_enumeration hx hz p hv q) ts h)
      (λ h. accepts_at (λ l. ReadSpecifier d (suc room) has_type (x ∷ l)) (λ l. Unit {0}) is_tag _ ts tt (λ y mid u hy. test (sees (codes "{") mid) _ _ mid
      (λ g. sound_enumeration_list has_type x (Some (name_at y)) (λ l. x ∷ y ∷ l) (λ z v body mid rest es s hz p hv q. r.enumeration hx hy hz p hv q) mid g)
      (λ g. done (record { goes = λ more. r.enumeration_tag hx hy g (typed has_type more); low = omega arith }))))

  sound_typedef_name : (has_type : Bool) (x : Lexeme) (ts : List Lexeme) → not has_type ≡ true → is_type_name x ≡ true → ReadSpecifier d (suc room) has_type (x ∷ ts) (t.TypedefName (name_at x)) ts
  sound_typedef_name true x ts h g = absurd (cc)
  sound_typedef_name false x ts h g = record { goes = λ more. r.typedef_name g more; low = omega arith }

  sound_specifier_by : (has_type : Bool) (x : Lexeme) (ts : List Lexeme) (o : Option SpecifierWord) → word_at x ≡ o → go_on has_type (x ∷ ts) ≡ true
      → After (ReadSpecifier d (suc room) has_type (x ∷ ts)) (specifier_by parts room o (x ∷ ts))
  sound_specifier_by has_type x ts (Some w) e go = done (record { goes = λ more. r.word (word_is x e) more; low = omega arith })
  sound_specifier_by has_type x ts None e go = test (is_keyword (codes "struct") x) _ _ (x ∷ ts) (λ h. sound_structure has_type x ts h)
      (λ h. test (is_keyword (codes "enum") x) _ _ (x ∷ ts) (λ g. sound_enumeration has_type x ts g)
      (λ g. let left = type_name_left has_type x ts (no_word x e) h g go in done (sound_typedef_name has_type x ts left.0 left.1)))

  sound_specifier : (has_type : Bool) (ts : List Lexeme) → go_on has_type ts ≡ true → After (ReadSpecifier d (suc room) has_type ts) (specifier_of parts room ts)
  unfolding specifier_of
  sound_specifier has_type [] go = nothing
  sound_specifier has_type (x ∷ ts) go = sound_specifier_by has_type x ts (word_at x) refl go

  sound_specifiers_loop : (turns : ℕ) (has_type : Bool) (before : List Specifier) (ts : List Lexeme)
      → After (λ given rest. Added before (λ all. ReadList d (suc room) has_type ts all rest) given) (specifiers_loop turns parts room has_type before ts)
  unfolding specifiers_loop
  sound_specifiers_loop zero has_type before ts = nothing
  sound_specifiers_loop (suc turns) has_type before ts = test (go_on has_type ts) _ _ ts
      (λ h. reads (sound_specifier has_type ts h) (λ one mid p.
      so (sound_specifiers_loop turns (has_type || is_type_specifier one) (before ++ one ∷ []) mid) (λ given rest q.
      added_more before one q (λ all more. record { reads = p.goes more.reads; low = omega (arith, p.low, more.low) }))))
      (λ h. done (record { all = []; is = sym (append-nil before); reads = record { reads = r.specifiers_end h; low = omega arith } }))

  pub sound_specifiers_of : (allowed : Specifiers → Bool) (ts : List Lexeme) → After (ReadWords d allowed (suc room) ts) (specifiers_of parts room allowed ts)
  unfolding specifiers_of
  sound_specifiers_of allowed ts = reads (sound_specifiers_loop (length ts + 1) false [] ts) (λ all rest p. let whole = all_added p in
      only_where (allowed (specifiers_from all)) (λ h. done (record { reads = whole.reads; allows = h; low = whole.low })))

pub sound_reading : (d : Dialect) (n : ℕ) → Sound d (reading n) n
unfolding reading
sound_reading d zero = record { expression = λ m base ts. nothing; specifiers = λ allowed ts. nothing }
sound_reading d (suc room) = record {
  expression = sound_expression_of d (reading room) room (sound_reading d room);
  specifiers = sound_specifiers_of d (reading room) room (sound_reading d room);
}
