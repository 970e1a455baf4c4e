-- What the grammar reads of initializers and declarations, the readers give where there is room for its height.
use Rattle.std.proofs.Common.{◌≡◌, ℕ, zero, suc, ◌+◌, ◌<◌, Bool, true, false, ◌&&◌, List, [], ◌∷◌, length, Some, refl, sym, ap, ◌∙◌, arith, codes}
use Rattle.std.specs.Str.{bytes_eq}
use Rattle.mc_lex.specs.declared.token.Dialect.{Dialect}
use Rattle.mc_span.specs.declared.span.Span.{Span}
use Rattle.mc_tree.specs.Tree.{Declaration, Declarator, InitDeclarator, Initializer, Initializers, Specifiers, name_of}
use Rattle.mc_tree.specs.Tree as t
use Rattle.mc_tree.specs.Height.{height_initializer, height_initializers, height_init_declarator, height_init_declarators, height_declaration}
use Rattle.mc_grammar.specs.Words.{Lexeme, is_identifier_kind, is_punctuator, sees, retag, retagged}
use Rattle.mc_grammar.specs.Places.{at, to}
use Rattle.mc_grammar.specs.Nonterminal as n
use Rattle.mc_grammar.specs.Statements.{ReadsInitializer, ReadsInitializers, ReadsInitDeclarator, ReadsInitDeclarators, ReadsDeclaration, after}
use Rattle.mc_grammar.specs.Statements as r
use Rattle.mc_grammar.specs.steps.Parsers.{pure}
use Rattle.laws_grammar.specs.Lists.{braced_list, comma_list}
use Rattle.laws_grammar.specs.Specifiers.{declarator_of}
use Rattle.laws_grammar.specs.Rooms.{reading}
use Rattle.laws_grammar.specs.Declarations.{initializer_of, valued_of, init_declarator_of, declared_of, local_of}
use Rattle.laws_grammar.proofs.Known.{punctuator}
use Rattle.mc_grammar.proofs.Lengths.{initializer_shorter, init_declarator_shorter}
use Rattle.laws_grammar.proofs.Beginnings.{init_declarator_begins}
use Rattle.laws_grammar.proofs.TreeLists.{initializers_in, initializers_back}
use Rattle.laws_grammar.proofs.CompleteLists.{Adds, all_of, comma_last, comma_more, braced_last, braced_last_comma, braced_more}
use Rattle.laws_grammar.proofs.CompleteExpressions.{complete, complete_specifiers, complete_declarator, inside, inside_specifiers}
use Rattle.laws_grammar.proofs.DeclarationSteps as step

mutual
  pub complete_initializer : {d : Dialect} {ts rest : List Lexeme} {one : Initializer} → ReadsInitializer d ts one rest → (levels : ℕ) → height_initializer one < levels → initializer_of levels ts ≡ Some (one, rest)
  complete_initializer (r.single e p) zero h = absurd (omega (arith, h))
  complete_initializer (r.single e p) (suc room) h = step.initializer_single room _ _ _ e (inside n.assign _ _ _ (complete p) room (omega arith))
  complete_initializer (r.braced e p f) zero h = absurd (omega (arith, h))
  complete_initializer (r.braced {all = all} e p f) (suc room) h = step.initializer_braced room _ _ _ _ _ _ e (all_of (complete_initializers p room (omega arith))) (initializers_back all) f

  pub complete_initializers : {d : Dialect} {ts rest : List Lexeme} {all : Initializers} → ReadsInitializers d ts all rest → (levels : ℕ) → height_initializers all < levels
      → Adds (λ turns. braced_list turns (initializer_of levels)) ts (initializers_in all) rest
  complete_initializers (r.last_initializer p e) levels h = braced_last _ (complete_initializer p levels (omega arith)) e
  complete_initializers (r.last_initializer_comma p e f) levels h = braced_last_comma _ (complete_initializer p levels (omega arith)) e f
  complete_initializers (r.more_initializers p e f q) levels h =
      braced_more _ (complete_initializer p levels (omega arith)) e f (omega (arith, initializer_shorter p)) (complete_initializers q levels (omega arith))

-- ---- what follows a first declarator

same_punctuator : (text name : List ℕ) (x : Lexeme) (a : Bool) → (is_identifier_kind x.token.kind && bytes_eq x.token.text name) ≡ a → is_punctuator text (retagged name x) ≡ is_punctuator text x
same_punctuator text name x true e = rw e refl
same_punctuator text name x false e = rw e refl

retag_sees : (text name : List ℕ) (ts : List Lexeme) → sees text (retag name ts) ≡ sees text ts
unfolding retag
retag_sees text name [] = refl
retag_sees text name (x ∷ ts) = same_punctuator text name x (is_identifier_kind x.token.kind && bytes_eq x.token.text name) refl

after_sees : (text : List ℕ) (typedef : Bool) (one : Declarator) (ts : List Lexeme) → sees text (after typedef one ts) ≡ sees text ts
after_sees text true one ts = retag_sees text (name_of one).text ts
after_sees text false one ts = refl

other_punctuator : (text other : List ℕ) (x : Lexeme) → is_punctuator text x ≡ true → bytes_eq text other ≡ false → is_punctuator other x ≡ false
other_punctuator text other x e f = let k = punctuator text x e in rw (k.kind_is, k.text_is) f

-- a declarator and what follows it
pub record Valued (typedef : Bool) (rooms : ℕ) (ts : List Lexeme) (i : InitDeclarator) (rest : List Lexeme) : Type 0 where
  pub first : Declarator
  pub left : List Lexeme
  pub declarator : declarator_of (reading rooms) ts ≡ Some (first, left)
  pub value : valued_of typedef rooms first left ≡ Some (i, rest)
  -- no body of a function follows
  pub no_body : sees (codes "{") rest ≡ false → sees (codes "{") left ≡ false

pub complete_valued : {d : Dialect} {typedef : Bool} {ts rest : List Lexeme} {i : InitDeclarator} → ReadsInitDeclarator d typedef ts i rest → (rooms : ℕ) → height_init_declarator i < rooms → Valued typedef rooms ts i rest
complete_valued {typedef = typedef} (r.bare {mid = mid} {d = one} p e) rooms h =
    record {
      first = one;
      left = mid;
      declarator = complete_declarator p rooms h;
      value = step.valued_bare rooms typedef one mid e;
      no_body = λ f. sym (after_sees (codes "{") typedef one mid) ∙ f;
    }
complete_valued {typedef = typedef} (r.initialized {x = x} {mid = mid} {value = value} {rest = rest} {d = one} {i = i} p g e q) rooms h =
    record {
      first = one;
      left = mid;
      declarator = complete_declarator p rooms (omega arith);
      value = step.valued_given rooms typedef one x mid value rest i g e (complete_initializer q rooms (omega arith));
      no_body = λ f. sym (after_sees (codes "{") typedef one mid) ∙ (ap (sees (codes "{")) g ∙ other_punctuator (codes "=") (codes "{") x e refl);
    }

pub complete_init_declarator : {d : Dialect} {typedef : Bool} {ts rest : List Lexeme} {i : InitDeclarator} → ReadsInitDeclarator d typedef ts i rest → (rooms : ℕ) → height_init_declarator i < rooms
    → init_declarator_of typedef rooms ts ≡ Some (i, rest)
complete_init_declarator {typedef = typedef} {ts = ts} {rest = rest} {i = i} p rooms h =
    let v = complete_valued p rooms h in
    step.init_declarator_made rooms typedef v.first ts v.left rest i v.declarator v.value

-- one or more
pub complete_init_declarators : {d : Dialect} {typedef : Bool} {ts rest : List Lexeme} {all : List InitDeclarator} → ReadsInitDeclarators d typedef ts all rest → sees (codes ";") ts ≡ false
    → (rooms : ℕ) → height_init_declarators all < rooms → Adds (λ turns. comma_list turns (init_declarator_of typedef rooms)) ts all rest
complete_init_declarators (r.no_init_declarator e) u rooms h = absurd (cc)
complete_init_declarators (r.last_init_declarator p e) u rooms h = comma_last _ (complete_init_declarator p rooms (omega arith)) e
complete_init_declarators (r.more_init_declarators p e f q) u rooms h =
    comma_more _ (complete_init_declarator p rooms (omega arith)) e (omega (arith, init_declarator_shorter p)) (complete_init_declarators q f rooms (omega arith))

-- a declaration after its specifiers: no declarators, or a first and what follows it
pub data Declares (typedef : Bool) (rooms : ℕ) (start : Span) (s : Specifiers) (ts : List Lexeme) : Declaration → List Lexeme → Type 0 where
  none : {y : Lexeme} {rest : List Lexeme} → ts ≡ y ∷ rest → is_punctuator (codes ";") y ≡ true → Declares typedef rooms start s ts (t.declaration s [] (to start (at y))) rest
  some : {left rest : List Lexeme} {first : Declarator} {one : Declaration} → sees (codes ";") ts ≡ false → declarator_of (reading rooms) ts ≡ Some (first, left) → sees (codes "{") left ≡ false
      → declared_of typedef rooms start s first left ≡ Some (one, rest) → Declares typedef rooms start s ts one rest

pub complete_declares : {d : Dialect} {typedef : Bool} {y : Lexeme} {ts rest : List Lexeme} {all : List InitDeclarator} → ReadsInitDeclarators d typedef ts all (y ∷ rest) → is_punctuator (codes ";") y ≡ true
    → (rooms : ℕ) → height_init_declarators all < rooms → (start : Span) (s : Specifiers) → Declares typedef rooms start s ts (t.declaration s all (to start (at y))) rest
complete_declares (r.no_init_declarator e) g rooms h start s = none refl g
complete_declares {typedef = typedef} {y = y} {rest = rest} (r.last_init_declarator {i = i} p e) g rooms h start s =
    let v = complete_valued p rooms (omega arith) in
    some (init_declarator_begins p) v.declarator (v.no_body (other_punctuator (codes ";") (codes "{") y g refl)) (step.declared_last rooms typedef start s v.first y v.left rest i v.value e g)
complete_declares {typedef = typedef} {y = y} {rest = rest} (r.more_init_declarators {x = x} {mid = mid} {i = i} {all = all} p e f q) g rooms h start s =
    let v = complete_valued p rooms (omega arith) in
    let more = (complete_init_declarators q f rooms (omega arith)).adds (length mid + 1) (omega arith) (i ∷ []) in
    some (init_declarator_begins p) v.declarator (v.no_body (other_punctuator (codes ",") (codes "{") x e refl)) (step.declared_more rooms typedef start s v.first x y v.left mid rest i all v.value e more g)

local_made : (test : Specifiers → Bool) (rooms : ℕ) (x : Lexeme) (ts mid rest : List Lexeme) (s : Specifiers) (one : Declaration) → (reading rooms).specifiers test (x ∷ ts) ≡ Some (s, mid)
    → Declares false rooms (at x) s mid one rest → local_of test rooms (x ∷ ts) ≡ Some (one, rest)
local_made test rooms x ts mid rest s _ h (none {y = y} same g) = step.local_none rooms test x y ts rest s (h ∙ ap (λ left. pure s left) same) g
local_made test rooms x ts mid rest s one h (some {left = left} {first = first} e g f i) = step.local_some rooms test x ts mid left rest s first one h e g i

-- a declaration that is no typedef
pub complete_local : {d : Dialect} {allowed : Specifiers → Bool} {ts rest : List Lexeme} {one : Declaration} → ReadsDeclaration d false allowed ts one rest → (rooms : ℕ) → height_declaration one < rooms
    → local_of allowed rooms ts ≡ Some (one, rest)
complete_local {allowed = allowed} (r.declaration {x = x} {ts = ts} {mid = mid} {rest = rest} {s = s} e p f q g) rooms h =
    local_made allowed rooms x ts mid rest s _ (inside_specifiers allowed _ _ _ f (complete_specifiers p) rooms (omega arith)) (complete_declares q g rooms (omega arith) (at x) s)
