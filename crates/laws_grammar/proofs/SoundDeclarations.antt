-- What the readers of initializers and declarations give, the grammar reads.
use Rattle.std.proofs.Common.{◌≡◌, ℕ, zero, suc, ◌+◌, ◌<◌, Bool, true, false, List, [], ◌∷◌, length, refl, sym, subst, arith, codes}
use Rattle.mc_lex.specs.declared.token.Dialect.{Dialect}
use Rattle.mc_tree.specs.Tree.{Declaration, Declarator, InitDeclarator, Initializer, Specifiers}
use Rattle.mc_tree.specs.Height.{height_declaration, height_init_declarator, height_init_declarators, height_initializer, height_initializers}
use Rattle.mc_tree.specs.Units.{initializers_from}
use Rattle.mc_grammar.specs.Words.{Lexeme, is_punctuator, begins_specifiers, sees, sees_specifiers}
use Rattle.mc_grammar.specs.Places.{at}
use Rattle.mc_grammar.specs.Nonterminal as n
use Rattle.mc_grammar.specs.Statements.{ReadsInitializer, ReadsInitializers, ReadsInitDeclarator, ReadsInitDeclarators, ReadsDeclaration, after}
use Rattle.mc_grammar.specs.Statements as r
use Rattle.mc_grammar.specs.steps.Parsers.{Parser}
use Rattle.laws_grammar.specs.Rooms.{reading}
use Rattle.laws_grammar.specs.Declarations.{braced_of, initializer_of, valued_of, init_declarator_of, more_declarators_of, declared_of, undeclared_of, local_of}
use Rattle.laws_grammar.proofs.Rules.{After, done, nothing, reads, accepts, takes, takes_at, so, test}
use Rattle.laws_grammar.proofs.SoundLists.{CommaList, comma_last, comma_more, BracedList, braced_last, braced_last_comma, braced_more, all_added, sound_comma_list, sound_braced_list}
use Rattle.laws_grammar.proofs.SoundParts.{ReadWords}
use Rattle.laws_grammar.proofs.SoundStarts.{declarator_starts}
use Rattle.laws_grammar.proofs.SoundDeclarators.{ReadDeclarator, sound_declarator}
use Rattle.laws_grammar.proofs.SoundSpecifiers.{sound_reading}

pub record ReadInitializer (d : Dialect) (bound : ℕ) (ts : List Lexeme) (i : Initializer) (rest : List Lexeme) : Type 0 where
  pub reads : ReadsInitializer d ts i rest
  pub low : height_initializer i < bound

record ReadInitializers (d : Dialect) (bound : ℕ) (ts : List Lexeme) (all : List Initializer) (rest : List Lexeme) : Type 0 where
  reads : ReadsInitializers d ts (initializers_from all) rest
  low : height_initializers (initializers_from all) < bound

pub record ReadInitDeclarator (d : Dialect) (typedef : Bool) (bound : ℕ) (ts : List Lexeme) (i : InitDeclarator) (rest : List Lexeme) : Type 0 where
  pub reads : ReadsInitDeclarator d typedef ts i rest
  pub low : height_init_declarator i < bound

record ReadInitDeclarators (d : Dialect) (typedef : Bool) (bound : ℕ) (ts : List Lexeme) (all : List InitDeclarator) (rest : List Lexeme) : Type 0 where
  reads : ReadsInitDeclarators d typedef ts all rest
  starts : sees (codes ";") ts ≡ false
  low : height_init_declarators all < bound

pub record ReadDeclaration (d : Dialect) (typedef : Bool) (allowed : Specifiers → Bool) (bound : ℕ) (ts : List Lexeme) (one : Declaration) (rest : List Lexeme) : Type 0 where
  pub reads : ReadsDeclaration d typedef allowed ts one rest
  pub low : height_declaration one < bound

initializer_list : {d : Dialect} {bound : ℕ} {ts rest : List Lexeme} {all : List Initializer} → BracedList (ReadInitializer d bound) ts all rest → ReadInitializers d bound ts all rest
initializer_list (braced_last p h) = record { reads = r.last_initializer p.reads h; low = omega (arith, p.low) }
initializer_list (braced_last_comma p h g) = record { reads = r.last_initializer_comma p.reads h g; low = omega (arith, p.low) }
initializer_list (braced_more p h g more) = let q = initializer_list more in record { reads = r.more_initializers p.reads h g q.reads; low = omega (arith, p.low, q.low) }

init_declarator_starts : {d : Dialect} {typedef : Bool} {ts rest : List Lexeme} {i : InitDeclarator} → ReadsInitDeclarator d typedef ts i rest → sees (codes ";") ts ≡ false
init_declarator_starts (r.bare p e) = declarator_starts p
init_declarator_starts (r.initialized p g e q) = declarator_starts p

init_declarator_list : {d : Dialect} {typedef : Bool} {bound : ℕ} {ts rest : List Lexeme} {all : List InitDeclarator} → CommaList (ReadInitDeclarator d typedef bound) ts all rest
    → ReadInitDeclarators d typedef bound ts all rest
init_declarator_list (comma_last p h) = record { reads = r.last_init_declarator p.reads h; starts = init_declarator_starts p.reads; low = omega (arith, p.low) }
init_declarator_list (comma_more p h more) = let q = init_declarator_list more in
    record { reads = r.more_init_declarators p.reads h q.starts q.reads; starts = init_declarator_starts p.reads; low = omega (arith, p.low, q.low) }

-- ---- initializers

sound_braced : (d : Dialect) (room : ℕ) (one : Parser Initializer) → ((ts : List Lexeme) → After (ReadInitializer d room ts) (one ts)) → (ts : List Lexeme) → sees (codes "{") ts ≡ true
    → After (ReadInitializer d (suc room) ts) (braced_of one ts)
sound_braced d room one each ts h = takes_at (λ l. ReadInitializer d (suc room) l) (λ l. sees (codes "{") l ≡ true) _ ts h (λ x mid hx.
    reads (sound_braced_list (ReadInitializer d room) one each (length mid + 1) [] mid) (λ all next p.
    accepts (λ l. ReadInitializers d room mid all l) (is_punctuator (codes "}")) _ next (initializer_list (all_added p)) (λ y rest q hy.
    done (record { reads = r.braced hx q.reads hy; low = omega (arith, q.low) }))))

pub sound_initializer : (d : Dialect) (n : ℕ) (ts : List Lexeme) → After (ReadInitializer d n ts) (initializer_of n ts)
unfolding initializer_of
sound_initializer d zero ts = nothing
sound_initializer d (suc room) ts = test (sees (codes "{") ts) _ _ ts (λ h. sound_braced d room (initializer_of room) (sound_initializer d room) ts h)
    (λ h. reads ((sound_reading d room).expression n.assign tt ts) (λ a rest p. done (record { reads = r.single h p.reads; low = omega (arith, p.low) })))

-- ---- declarations

module _ (d : Dialect) (rooms : ℕ) (some : 0 < rooms) where
  sound_valued : (typedef : Bool) (ts mid : List Lexeme) (one : Declarator) → ReadDeclarator d rooms ts one mid → After (ReadInitDeclarator d typedef rooms ts) (valued_of typedef rooms one mid)
  unfolding valued_of
  sound_valued typedef ts mid one p = test (sees (codes "=") (after typedef one mid)) _ _ (after typedef one mid)
      (λ h. takes (λ l. (after typedef one mid ≡ l) × (sees (codes "=") l ≡ true)) _ (after typedef one mid) (refl, h) (λ x value q.
      reads (sound_initializer d rooms value) (λ i rest u. done (record { reads = r.initialized p.reads q.0 q.1 u.reads; low = omega (arith, p.low, u.low) }))))
      (λ h. done (record { reads = r.bare p.reads h; low = p.low }))

  pub sound_init_declarator : (typedef : Bool) (ts : List Lexeme) → After (ReadInitDeclarator d typedef rooms ts) (init_declarator_of typedef rooms ts)
  unfolding init_declarator_of
  sound_init_declarator typedef ts = reads (sound_declarator d (reading rooms) rooms some (sound_reading d rooms) ts) (λ one mid p. sound_valued typedef ts mid one p)

  sound_more : (typedef : Bool) (ts mid : List Lexeme) (i : InitDeclarator) → ReadInitDeclarator d typedef rooms ts i mid → After (ReadInitDeclarators d typedef rooms ts) (more_declarators_of typedef rooms i mid)
  sound_more typedef ts mid i p = test (sees (codes ",") mid) _ _ mid
      (λ h. takes (λ l. ReadInitDeclarator d typedef rooms ts i l × (sees (codes ",") l ≡ true)) _ mid (p, h) (λ x next q.
      so (sound_comma_list (ReadInitDeclarator d typedef rooms) (init_declarator_of typedef rooms) (sound_init_declarator typedef) (length next + 1) (i ∷ []) next) (λ all rest u.
      subst (λ given. ReadInitDeclarators d typedef rooms ts given rest) (sym u.is) (init_declarator_list (comma_more q.0 q.1 u.reads)))))
      (λ h. done (init_declarator_list (comma_last p h)))

  pub sound_declared : (typedef : Bool) (allowed : Specifiers → Bool) (x : Lexeme) (ts words mid : List Lexeme) (s : Specifiers) (one : Declarator) → begins_specifiers x ≡ true
      → ReadWords d allowed rooms (x ∷ ts) s words → ReadDeclarator d rooms words one mid → After (ReadDeclaration d typedef allowed rooms (x ∷ ts)) (declared_of typedef rooms (at x) s one mid)
  unfolding declared_of
  sound_declared typedef allowed x ts words mid s one h w p = reads (sound_valued typedef words mid one p) (λ i then q.
      reads (sound_more typedef words then i q) (λ all next u.
      accepts (λ l. ReadInitDeclarators d typedef rooms words all l) (is_punctuator (codes ";")) _ next u (λ y rest v hy.
      done (record { reads = r.declaration h w.reads w.allows v.reads hy; low = omega (arith, w.low, v.low) }))))

  pub sound_undeclared : (typedef : Bool) (allowed : Specifiers → Bool) (x : Lexeme) (ts words : List Lexeme) (s : Specifiers) → begins_specifiers x ≡ true
      → ReadWords d allowed rooms (x ∷ ts) s words → sees (codes ";") words ≡ true → After (ReadDeclaration d typedef allowed rooms (x ∷ ts)) (undeclared_of (at x) s words)
  sound_undeclared typedef allowed x ts words s h w g = takes (λ l. ReadWords d allowed rooms (x ∷ ts) s l × (sees (codes ";") l ≡ true)) _ words (w, g) (λ y rest q. let p = q.0 in
      done (record { reads = r.declaration h p.reads p.allows (r.no_init_declarator q.1) q.1; low = omega (arith, p.low) }))

  pub sound_local : (allowed : Specifiers → Bool) (ts : List Lexeme) → sees_specifiers ts ≡ true → After (ReadDeclaration d false allowed rooms ts) (local_of allowed rooms ts)
  unfolding local_of
  sound_local allowed [] h = nothing
  sound_local allowed (x ∷ ts) h = reads ((sound_reading d rooms).specifiers allowed (x ∷ ts)) (λ s words p. test (sees (codes ";") words) _ _ words
      (λ g. sound_undeclared false allowed x ts words s h p g)
      (λ g. reads (sound_declarator d (reading rooms) rooms some (sound_reading d rooms) words) (λ one mid q. sound_declared false allowed x ts words mid s one h p q)))
