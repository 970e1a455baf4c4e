-- What the readers of array lengths, parameters, declarators, members and enumerators give, the grammar reads.
use Rattle.std.proofs.Common.{◌≡◌, ℕ, zero, suc, ◌+◌, ◌<◌, true, false, List, [], ◌∷◌, ◌++◌, length, Option, Some, None, refl, sym, subst, append-nil, arith, codes}
use Rattle.mc_lex.specs.declared.token.Dialect.{Dialect}
use Rattle.mc_span.specs.declared.span.Span.{Span}
use Rattle.mc_tree.specs.Tree.{Name, ArrayLengths, Declarator, Enumerator, Parameter, Parameters, Specifiers, StructMember}
use Rattle.mc_tree.specs.Tree as t
use Rattle.mc_tree.specs.Height.{height_declarator, height_declarators, height_enumerator, height_enumerators, height_lengths, height_member, height_members, height_parameter, height_parameter_list, height_parameters}
use Rattle.mc_tree.specs.Views.{declarators_from, enumerators_from, lengths_from, members_from, parameters_from}
use Rattle.mc_grammar.specs.Words.{Lexeme, is_punctuator, is_keyword, is_name, sees, sees_specifiers, sees_void_alone}
use Rattle.mc_grammar.specs.Places.{at, to, end_of_specifiers}
use Rattle.mc_grammar.specs.Counts.{for_type}
use Rattle.mc_grammar.specs.Nonterminal as n
use Rattle.mc_grammar.specs.Expressions.{ReadsStars, ReadsArrayLengths, ReadsParameters, ReadsParameter, ReadsParameterList, ReadsDeclarator, ReadsDeclarators, ReadsMember, ReadsMembers, ReadsEnumerator, ReadsEnumerators}
use Rattle.mc_grammar.specs.Expressions as r
use Rattle.laws_grammar.specs.Lists.{listed, braced_list, some_list}
use Rattle.laws_grammar.specs.Expressions.{Parts, Stars}
use Rattle.laws_grammar.specs.Specifiers.{Length, length_of, lengths_loop, lengths_of, name_next, parameter_by, parameter_of, parameter_list_of, void_of, parameters_of, declarator_of, struct_member_of, enumerator_of}
use Rattle.laws_grammar.proofs.Known.{and_left, and_right}
use Rattle.laws_grammar.proofs.Rules.{After, done, nothing, reads, accepts, accepts_at, takes_at, so, test}
use Rattle.laws_grammar.proofs.SoundLists.{CommaList, comma_last, comma_more, BracedList, braced_last, braced_last_comma, braced_more, SomeList, some_last, some_more, Added, added_more, all_added, sound_comma_list, sound_braced_list, sound_some_list}
use Rattle.laws_grammar.proofs.SoundTokens.{name_is, no_name}
use Rattle.laws_grammar.proofs.SoundParts.{Read, ReadWords, Sound, sound_stars}

pub record ReadLengths (d : Dialect) (bound : ℕ) (before : Span) (ts : List Lexeme) (lengths : ArrayLengths) (end : Span) (rest : List Lexeme) : Type 0 where
  pub reads : ReadsArrayLengths d before ts lengths end rest
  pub low : height_lengths lengths < bound

-- one pair of brackets, and those after it
record ReadLength (d : Dialect) (bound : ℕ) (before : Span) (ts : List Lexeme) (part : Length) (rest : List Lexeme) : Type 0 where
  goes : {lengths : ArrayLengths} {end : Span} {last : List Lexeme} → ReadLengths d bound part.end rest lengths end last → ReadLengths d bound before ts (part.one lengths) end last

pub record ReadParameter (d : Dialect) (bound : ℕ) (ts : List Lexeme) (p : Parameter) (rest : List Lexeme) : Type 0 where
  pub reads : ReadsParameter d ts p rest
  pub low : height_parameter p < bound

record ReadParameterList (d : Dialect) (bound : ℕ) (ts : List Lexeme) (all : List Parameter) (rest : List Lexeme) : Type 0 where
  reads : ReadsParameterList d ts (parameters_from all) rest
  low : height_parameter_list (parameters_from all) < bound

pub record ReadParameters (d : Dialect) (bound : ℕ) (ts : List Lexeme) (ps : Parameters) (rest : List Lexeme) : Type 0 where
  pub reads : ReadsParameters d ts ps rest
  pub low : height_parameters ps < bound

pub record ReadDeclarator (d : Dialect) (bound : ℕ) (ts : List Lexeme) (p : Declarator) (rest : List Lexeme) : Type 0 where
  pub reads : ReadsDeclarator d ts p rest
  pub low : height_declarator p < bound

record ReadDeclarators (d : Dialect) (bound : ℕ) (ts : List Lexeme) (all : List Declarator) (rest : List Lexeme) : Type 0 where
  reads : ReadsDeclarators d ts (declarators_from all) rest
  low : height_declarators (declarators_from all) < bound

pub record ReadMember (d : Dialect) (bound : ℕ) (ts : List Lexeme) (m : StructMember) (rest : List Lexeme) : Type 0 where
  pub reads : ReadsMember d ts m rest
  pub low : height_member m < bound

pub record ReadMembers (d : Dialect) (bound : ℕ) (ts : List Lexeme) (all : List StructMember) (rest : List Lexeme) : Type 0 where
  pub reads : ReadsMembers d ts (members_from all) rest
  pub low : height_members (members_from all) < bound

pub record ReadEnumerator (d : Dialect) (bound : ℕ) (ts : List Lexeme) (e : Enumerator) (rest : List Lexeme) : Type 0 where
  pub reads : ReadsEnumerator d ts e rest
  pub low : height_enumerator e < bound

pub record ReadEnumerators (d : Dialect) (bound : ℕ) (ts : List Lexeme) (all : List Enumerator) (rest : List Lexeme) : Type 0 where
  pub reads : ReadsEnumerators d ts (enumerators_from all) rest
  pub low : height_enumerators (enumerators_from all) < bound

parameter_list : {d : Dialect} {bound : ℕ} {ts rest : List Lexeme} {all : List Parameter} → CommaList (ReadParameter d bound) ts all rest → ReadParameterList d bound ts all rest
parameter_list (comma_last p h) = record { reads = r.last_parameter p.reads h; low = omega (arith, p.low) }
parameter_list (comma_more p h more) = let q = parameter_list more in record { reads = r.more_parameters p.reads h q.reads; low = omega (arith, p.low, q.low) }

declarator_list : {d : Dialect} {bound : ℕ} {ts rest : List Lexeme} {all : List Declarator} → CommaList (ReadDeclarator d bound) ts all rest → ReadDeclarators d bound ts all rest
declarator_list (comma_last p h) = record { reads = r.last_declarator p.reads h; low = omega (arith, p.low) }
declarator_list (comma_more p h more) = let q = declarator_list more in record { reads = r.more_declarators p.reads h q.reads; low = omega (arith, p.low, q.low) }

member_list : {d : Dialect} {bound : ℕ} {ts rest : List Lexeme} {all : List StructMember} → SomeList sees_specifiers (ReadMember d bound) ts all rest → ReadMembers d bound ts all rest
member_list (some_last p h) = record { reads = r.last_member p.reads h; low = omega (arith, p.low) }
member_list (some_more p h more) = let q = member_list more in record { reads = r.more_members p.reads h q.reads; low = omega (arith, p.low, q.low) }

enumerator_list : {d : Dialect} {bound : ℕ} {ts rest : List Lexeme} {all : List Enumerator} → BracedList (ReadEnumerator d bound) ts all rest → ReadEnumerators d bound ts all rest
enumerator_list (braced_last p h) = record { reads = r.last_enumerator p.reads h; low = omega (arith, p.low) }
enumerator_list (braced_last_comma p h g) = record { reads = r.last_enumerator_comma p.reads h g; low = omega (arith, p.low) }
enumerator_list (braced_more p h g more) = let q = enumerator_list more in record { reads = r.more_enumerators p.reads h g q.reads; low = omega (arith, p.low, q.low) }

module _ (d : Dialect) (parts : Parts) (room : ℕ) (some : 0 < room) (sound : Sound d parts room) where
  -- ---- lengths

  sound_length : (before : Span) (ts : List Lexeme) → sees (codes "[") ts ≡ true → After (ReadLength d room before ts) (length_of parts ts)
  unfolding length_of
  sound_length before [] h = nothing
  sound_length before (x ∷ ts) h = test (sees (codes "]") ts) _ _ ts
      (λ g. takes_at (λ l. ReadLength d room before (x ∷ l)) (λ l. sees (codes "]") l ≡ true) _ ts g (λ y rest hy.
      done (record { goes = λ more. record { reads = r.absent_length h hy more.reads; low = more.low } })))
      (λ g. reads (sound.expression n.cond tt ts) (λ a mid p.
      accepts (λ l. Read d n.cond room ts a l) (is_punctuator (codes "]")) _ mid p (λ y rest q hy.
      done (record { goes = λ more. record { reads = r.given_length h g q.reads hy more.reads; low = omega (arith, q.low, more.low) } }))))

  record LengthsAdded (all before : List (ArrayLengths → ArrayLengths)) (start : Span) (ts : List Lexeme) (end : Span) (rest : List Lexeme) : Type 0 where
    added : Added before (λ more. ReadLengths d room start ts (lengths_from more) end rest) all

  lengths_added : (turns : ℕ) (before : List (ArrayLengths → ArrayLengths)) (start : Span) (ts : List Lexeme) → After (λ given rest. LengthsAdded given.all before start ts given.end rest) (lengths_loop turns parts before start ts)
  unfolding lengths_loop
  lengths_added zero before start ts = nothing
  lengths_added (suc turns) before start ts = test (sees (codes "[") ts) _ _ ts
      (λ h. reads (sound_length start ts h) (λ part mid p. so (lengths_added turns (before ++ part.one ∷ []) part.end mid) (λ given rest q.
      record { added = added_more before part.one q.added (λ all more. p.goes more) })))
      (λ h. done (record { added = record { all = []; is = sym (append-nil before); reads = record { reads = r.lengths_end h; low = some } } }))

  pub sound_lengths : (start : Span) (ts : List Lexeme) → After (λ given rest. ReadLengths d room start ts (lengths_from given.all) given.end rest) (lengths_of parts start ts)
  sound_lengths start ts = so (lengths_added (length ts + 1) [] start ts) (λ given rest p. all_added p.added)

  -- ---- parameters

  sound_parameter_by : (x : Lexeme) (ts words : List Lexeme) (s : Specifiers) → ReadWords d for_type room (x ∷ ts) s words → (stars : Stars) (mid : List Lexeme)
      → ReadsStars (end_of_specifiers (at x) s) words stars.count stars.end mid → (o : Option Name) → name_next mid ≡ o
      → After (ReadParameter d room (x ∷ ts)) (parameter_by parts s stars.count (at x) stars.end o mid)
  sound_parameter_by x ts words s p stars mid q None e = reads (sound_lengths stars.end mid) (λ lengths rest u.
      done (record { reads = r.unnamed_parameter p.reads p.allows q (no_name mid e) u.reads; low = omega (arith, p.low, u.low) }))
  sound_parameter_by x ts words s p stars [] q (Some name) e = nothing
  sound_parameter_by x ts words s p stars (y ∷ mid) q (Some name) e = reads (sound_lengths (at y) mid) (λ lengths rest u.
      let named = name_is y mid e in
      done (record {
        reads = subst (λ given. ReadsParameter d (x ∷ ts) (t.parameter s stars.count (Some given) (lengths_from lengths.all) (to (at x) lengths.end)) rest) named.1
            (r.parameter p.reads p.allows q named.0 u.reads);
        low = omega (arith, p.low, u.low);
      }))

  pub sound_parameter : (ts : List Lexeme) → After (ReadParameter d room ts) (parameter_of parts ts)
  unfolding parameter_of
  sound_parameter [] = nothing
  sound_parameter (x ∷ ts) = reads (sound.specifiers for_type (x ∷ ts)) (λ s words p. reads (sound_stars (end_of_specifiers (at x) s) words) (λ stars mid q.
      sound_parameter_by x ts words s p stars mid q (name_next mid) refl))

  sound_parameter_list : (x : Lexeme) (ts : List Lexeme) → is_punctuator (codes "(") x ≡ true → sees (codes ")") ts ≡ false → sees_void_alone ts ≡ false
      → After (ReadParameters d room (x ∷ ts)) (parameter_list_of parts x ts)
  sound_parameter_list x ts hx h g = reads (sound_comma_list (ReadParameter d room) (parameter_of parts) sound_parameter (length ts + 1) [] ts) (λ all mid p.
      accepts (λ l. ReadParameterList d room ts all l) (is_punctuator (codes ")")) _ mid (parameter_list (all_added p)) (λ y rest q hy.
      done (record { reads = r.listed_parameters hx h g q.reads hy; low = q.low })))

  sound_void : (x : Lexeme) (ts : List Lexeme) → is_punctuator (codes "(") x ≡ true → sees_void_alone ts ≡ true → After (ReadParameters d room (x ∷ ts)) (void_of x ts)
  sound_void x [] hx h = nothing
  sound_void x (y ∷ ts) hx h = takes_at (λ l. ReadParameters d room (x ∷ y ∷ l)) (λ l. sees (codes ")") l ≡ true) _ ts (and_right (is_keyword (codes "void") y) _ h) (λ z rest hz.
      done (record { reads = r.void_parameters hx (and_left _ _ h) hz; low = some }))

  pub sound_parameters : (ts : List Lexeme) → After (ReadParameters d room ts) (parameters_of parts ts)
  unfolding parameters_of
  sound_parameters ts = accepts_at (λ l. ReadParameters d room l) (λ l. Unit {0}) (is_punctuator (codes "(")) _ ts tt (λ x mid u hx. test (sees (codes ")") mid) _ _ mid
      (λ h. takes_at (λ l. ReadParameters d room (x ∷ l)) (λ l. sees (codes ")") l ≡ true) _ mid h (λ y rest hy. done (record { reads = r.empty_parameters hx hy; low = some })))
      (λ h. test (sees_void_alone mid) _ _ mid (λ g. sound_void x mid hx g) (λ g. sound_parameter_list x mid hx h g)))

  -- ---- declarators

  pub sound_declarator : (ts : List Lexeme) → After (ReadDeclarator d room ts) (declarator_of parts ts)
  unfolding declarator_of
  sound_declarator [] = nothing
  sound_declarator (x ∷ ts) = reads (sound_stars (at x) (x ∷ ts)) (λ stars mid p.
      accepts (λ l. ReadsStars (at x) (x ∷ ts) stars.count stars.end l) is_name _ mid p (λ y mid' q hy. test (sees (codes "(") mid') _ _ mid'
      (λ h. reads (sound_parameters mid') (λ ps rest u. done (record { reads = r.function q hy u.reads; low = u.low })))
      (λ h. reads (sound_lengths (at y) mid') (λ lengths rest u. done (record { reads = r.object q hy h u.reads; low = u.low })))))

  -- ---- members and enumerators

  pub sound_struct_member : (ts : List Lexeme) → After (ReadMember d room ts) (struct_member_of parts ts)
  unfolding struct_member_of
  sound_struct_member [] = nothing
  sound_struct_member (x ∷ ts) = reads (sound.specifiers for_type (x ∷ ts)) (λ s mid p.
      reads (sound_comma_list (ReadDeclarator d room) (declarator_of parts) sound_declarator (length mid + 1) [] mid) (λ ds next q.
      accepts (λ l. ReadDeclarators d room mid ds l) (is_punctuator (codes ";")) _ next (declarator_list (all_added q)) (λ y rest u hy.
      done (record { reads = r.struct_member p.reads p.allows u.reads hy; low = omega (arith, p.low, u.low) }))))

  pub sound_enumerator : (ts : List Lexeme) → After (ReadEnumerator d room ts) (enumerator_of parts ts)
  unfolding enumerator_of
  sound_enumerator ts = accepts_at (λ l. ReadEnumerator d room l) (λ l. Unit {0}) is_name _ ts tt (λ x mid u hx. test (sees (codes "=") mid) _ _ mid
      (λ h. takes_at (λ l. ReadEnumerator d room (x ∷ l)) (λ l. sees (codes "=") l ≡ true) _ mid h (λ y mid' hy.
      reads (sound.expression n.cond tt mid') (λ a rest p. done (record { reads = r.valued_enumerator hx hy p.reads; low = p.low }))))
      (λ h. done (record { reads = r.enumerator hx h; low = some })))

  pub sound_members : (ts : List Lexeme) → After (ReadMembers d room ts) (listed (λ turns. some_list turns sees_specifiers (struct_member_of parts) []) ts)
  sound_members ts = so (sound_some_list (ReadMember d room) (struct_member_of parts) sees_specifiers sound_struct_member (length ts + 1) [] ts) (λ all rest p. member_list (all_added p))

  pub sound_enumerators : (ts : List Lexeme) → After (ReadEnumerators d room ts) (listed (λ turns. braced_list turns (enumerator_of parts) []) ts)
  sound_enumerators ts = so (sound_braced_list (ReadEnumerator d room) (enumerator_of parts) sound_enumerator (length ts + 1) [] ts) (λ all rest p. enumerator_list (all_added p))
