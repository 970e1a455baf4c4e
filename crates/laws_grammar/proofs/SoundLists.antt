-- What the readers of lists give, one part after the other.
use Rattle.std.proofs.Common.{◌≡◌, ℕ, zero, suc, Bool, true, false, List, [], ◌∷◌, ◌++◌, refl, sym, ◌∙◌, append_assoc, append-nil, subst, codes}
use Rattle.mc_grammar.specs.Words.{Lexeme, is_punctuator, sees}
use Rattle.mc_grammar.specs.steps.Parsers.{Parser}
use Rattle.laws_grammar.specs.Lists.{comma_list, braced_list, some_list, until_list}
use Rattle.laws_grammar.proofs.Rules.{After, done, nothing, reads, takes, so, test}

-- what is given is what stood before, and these
pub record Added {A : Type 0} (before : List A) (R : List A → Type 0) (given : List A) : Type 0 where
  pub all : List A
  pub is : given ≡ before ++ all
  pub reads : R all

pub added_one : {A : Type 0} {R : List A → Type 0} (before : List A) (a : A) → R (a ∷ []) → Added before R (before ++ a ∷ [])
added_one before a r = record { all = a ∷ []; is = refl; reads = r }

pub added_more : {A : Type 0} {R S : List A → Type 0} {given : List A} (before : List A) (a : A) → Added (before ++ a ∷ []) R given → ((all : List A) → R all → S (a ∷ all)) → Added before S given
added_more before a more f = record { all = a ∷ more.all; is = more.is ∙ append_assoc before (a ∷ []) more.all; reads = f more.all more.reads }

-- from the empty list on
pub all_added : {A : Type 0} {R : List A → Type 0} {given : List A} → Added [] R given → R given
all_added {R = R} more = subst R (sym more.is) more.reads

-- parts with commas between them
pub data CommaList {A : Type 0} (P : List Lexeme → A → List Lexeme → Type 0) : List Lexeme → List A → List Lexeme → Type 0 where
  comma_last : {ts rest : List Lexeme} {a : A} → P ts a rest → sees (codes ",") rest ≡ false → CommaList P ts (a ∷ []) rest
  comma_more : {x : Lexeme} {ts mid rest : List Lexeme} {a : A} {all : List A} → P ts a (x ∷ mid) → is_punctuator (codes ",") x ≡ true → CommaList P mid all rest
      → CommaList P ts (a ∷ all) rest

-- parts with commas between them, and perhaps a last comma before a `}`
pub data BracedList {A : Type 0} (P : List Lexeme → A → List Lexeme → Type 0) : List Lexeme → List A → List Lexeme → Type 0 where
  braced_last : {ts rest : List Lexeme} {a : A} → P ts a rest → sees (codes ",") rest ≡ false → BracedList P ts (a ∷ []) rest
  braced_last_comma : {x : Lexeme} {ts rest : List Lexeme} {a : A} → P ts a (x ∷ rest) → is_punctuator (codes ",") x ≡ true → sees (codes "}") rest ≡ true → BracedList P ts (a ∷ []) rest
  braced_more : {x : Lexeme} {ts mid rest : List Lexeme} {a : A} {all : List A} → P ts a (x ∷ mid) → is_punctuator (codes ",") x ≡ true → sees (codes "}") mid ≡ false → BracedList P mid all rest
      → BracedList P ts (a ∷ all) rest

-- a first part, and others as long as one can begin
pub data SomeList {A : Type 0} (begins : List Lexeme → Bool) (P : List Lexeme → A → List Lexeme → Type 0) : List Lexeme → List A → List Lexeme → Type 0 where
  some_last : {ts rest : List Lexeme} {a : A} → P ts a rest → begins rest ≡ false → SomeList begins P ts (a ∷ []) rest
  some_more : {ts mid rest : List Lexeme} {a : A} {all : List A} → P ts a mid → begins mid ≡ true → SomeList begins P mid all rest → SomeList begins P ts (a ∷ all) rest

-- parts up to a token that ends them
pub data UntilList {A : Type 0} (ends : List Lexeme → Bool) (P : List Lexeme → A → List Lexeme → Type 0) : List Lexeme → List A → List Lexeme → Type 0 where
  until_end : {ts : List Lexeme} → ends ts ≡ true → UntilList ends P ts [] ts
  until_more : {ts mid rest : List Lexeme} {a : A} {all : List A} → ends ts ≡ false → P ts a mid → UntilList ends P mid all rest → UntilList ends P ts (a ∷ all) rest

module _ {A : Type 0} (P : List Lexeme → A → List Lexeme → Type 0) (one : Parser A) where
  pub sound_comma_list : ((ts : List Lexeme) → After (P ts) (one ts)) → (turns : ℕ) (before : List A) (ts : List Lexeme)
      → After (λ given rest. Added before (λ all. CommaList P ts all rest) given) (comma_list turns one before ts)
  unfolding comma_list
  sound_comma_list each zero before ts = nothing
  sound_comma_list each (suc turns) before ts = reads (each ts) (λ a mid p. test (sees (codes ",") mid) _ _ mid
      (λ h. takes (λ l. P ts a l × (sees (codes ",") l ≡ true)) _ mid (p, h) (λ x mid' q. so (sound_comma_list each turns (before ++ a ∷ []) mid')
      (λ given rest r. added_more before a r (λ all. comma_more q.0 q.1))))
      (λ h. done (added_one before a (comma_last p h))))

  pub sound_braced_list : ((ts : List Lexeme) → After (P ts) (one ts)) → (turns : ℕ) (before : List A) (ts : List Lexeme)
      → After (λ given rest. Added before (λ all. BracedList P ts all rest) given) (braced_list turns one before ts)
  unfolding braced_list
  sound_braced_list each zero before ts = nothing
  sound_braced_list each (suc turns) before ts = reads (each ts) (λ a mid p. test (sees (codes ",") mid) _ _ mid
      (λ h. takes (λ l. P ts a l × (sees (codes ",") l ≡ true)) _ mid (p, h) (λ x mid' q. test (sees (codes "}") mid') _ _ mid'
      (λ g. done (added_one before a (braced_last_comma q.0 q.1 g)))
      (λ g. so (sound_braced_list each turns (before ++ a ∷ []) mid') (λ given rest r. added_more before a r (λ all. braced_more q.0 q.1 g)))))
      (λ h. done (added_one before a (braced_last p h))))

  pub sound_some_list : (begins : List Lexeme → Bool) → ((ts : List Lexeme) → After (P ts) (one ts)) → (turns : ℕ) (before : List A) (ts : List Lexeme)
      → After (λ given rest. Added before (λ all. SomeList begins P ts all rest) given) (some_list turns begins one before ts)
  unfolding some_list
  sound_some_list begins each zero before ts = nothing
  sound_some_list begins each (suc turns) before ts = reads (each ts) (λ a mid p. test (begins mid) _ _ mid
      (λ h. so (sound_some_list begins each turns (before ++ a ∷ []) mid) (λ given rest r. added_more before a r (λ all. some_more p h)))
      (λ h. done (added_one before a (some_last p h))))

  pub sound_until_list : (ends : List Lexeme → Bool) → ((ts : List Lexeme) → ends ts ≡ false → After (P ts) (one ts)) → (turns : ℕ) (before : List A) (ts : List Lexeme)
      → After (λ given rest. Added before (λ all. UntilList ends P ts all rest) given) (until_list turns ends one before ts)
  unfolding until_list
  sound_until_list ends each zero before ts = nothing
  sound_until_list ends each (suc turns) before ts = test (ends ts) _ _ ts
      (λ h. done (record { all = []; is = sym (append-nil before); reads = until_end h }))
      (λ h. reads (each ts h) (λ a mid p. so (sound_until_list ends each turns (before ++ a ∷ []) mid) (λ given rest r. added_more before a r (λ all. until_more h p))))
