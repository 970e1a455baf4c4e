-- What the pen writes: texts of tokens of the source, and what the table inserts.
use Rattle.std.proofs.Common.{◌≡◌, ℕ, zero, suc, Bool, true, false, ◌||◌, cond, nat_eq, List, [], ◌∷◌, ◌++◌, length, take, drop, Option, Some, None, codes, decimal, refl}
use Rattle.std.specs.List.{AllByRecursion as Each}
use Rattle.mc_span.specs.declared.span.Span.{Span}
use Rattle.mc_typed.specs.declared.probes.Mark.{Mark}
use Rattle.mc_typed.specs.declared.probes.Probe.{Probe}
use Rattle.mc_typed.specs.declared.probes.Probe.TheVariants as probe
use Rattle.mc_lex.specs.Tokens.{Tok}
use Rattle.mc_lex.specs.Words.{one_of, probe_names}
use Rattle.mc_probe.specs.Tree as p
use Rattle.mc_print.specs.Pens.{Pen, ◌▸◌, nothing, put, copy, skip, upto, into_body, rest, note, put_type, texts_of, type_words, ends_item, since, begun, before, through}
use Rattle.mc_print.specs.Insertions.{hit, registers, label, opening, at, before_counted, after_counted, hit_at, label_after, put_registers, put_entry, open_value, close_value, value_exit}
use Rattle.mc_print.specs.Texts.{extent, write_place, write, write_structure, write_call, write_argument, write_arguments, write_effect, write_effects, write_initializer, write_initializers, write_initial, write_declarators, write_start, write_optional, write_value, write_exit, write_return, write_statement, write_statements, write_front, write_function, write_functions, write_all}
use Rattle.reread_law_printed.specs.spelled.Words.{inserted_words, inserted_punctuators}
use Rattle.reread_law_printed.specs.spelled.Numbers.{IsShort, IsShortBit, IsShortMark, IsShortProbe, ShortPlace, Short, ShortStructure, ShortCall, ShortArgument, ShortArguments, ShortEffect, ShortEffects, ShortInitializer, ShortInitializers, ShortInitial, ShortDeclarators, ShortStart, ShortTest, ShortValue, ShortStatement, ShortStatements, ShortFunction, ShortFunctions}

-- ---- lists

module _ {X : Type 0} (P : X → Type 0) where
  each_append : (xs ys : List X) → Each P xs → Each P ys → Each P (xs ++ ys)
  each_append [] ys h g = g
  each_append (x ∷ xs) ys h g = (h.0, each_append xs ys h.1 g)

  each_take : (n : ℕ) (xs : List X) → Each P xs → Each P (take n xs)
  each_take zero xs h = tt
  each_take (suc n) [] h = tt
  each_take (suc n) (x ∷ xs) h = (h.0, each_take n xs h.1)

  each_drop : (n : ℕ) (xs : List X) → Each P xs → Each P (drop n xs)
  each_drop zero xs h = h
  each_drop (suc n) [] h = tt
  each_drop (suc n) (x ∷ xs) h = each_drop n xs h.1

  each_chosen : (t : Bool) (xs ys : List X) → Each P xs → Each P ys → Each P (cond t xs ys)
  each_chosen true xs ys h g = h
  each_chosen false xs ys h g = g

-- ---- a pen that writes such words alone

-- what the words have that the table inserts
pub record Inserts (Word : List ℕ → Type 0) : Type 0 where
  pub word : (text : List ℕ) → one_of inserted_words text ≡ true → Word text
  pub punctuator : (text : List ℕ) → one_of inserted_punctuators text ≡ true → Word text
  pub numeral : (n : ℕ) → IsShort n → Word (decimal n)

pub record Says (Word : List ℕ → Type 0) (pen : Pen) : Type 0 where
  pub written : Each Word pen.written
  pub left : Each (λ (t : Tok). Word t.text) pen.left
  pub specifiers : Each (λ (t : Tok). Word t.text) pen.specifiers

module _ (Word : List ℕ → Type 0) (inserts : Inserts Word) where
  abbrev Said : Tok → Type 0
  Said t = Word t.text

  abbrev Keeps : (Pen → Pen) → Type 0
  Keeps act = (pen : Pen) → Says Word pen → Says Word (act pen)

  -- one of the words or punctuators
  said : (text : List ℕ) → (one_of inserted_words text || one_of inserted_punctuators text) ≡ true → Word text
  said text e = by_test (one_of inserted_words text) refl e
    where
      by_test : (t : Bool) → one_of inserted_words text ≡ t → (t || one_of inserted_punctuators text) ≡ true → Word text
      by_test true f e = inserts.word text f
      by_test false f e = inserts.punctuator text e

  -- ---- the pen

  keeps_both : (f g : Pen → Pen) → Keeps f → Keeps g → Keeps (f ▸ g)
  keeps_both f g h k pen s = k (f pen) (h pen s)

  keeps_nothing : Keeps nothing
  keeps_nothing pen s = s

  keeps_put : (texts : List (List ℕ)) → Each Word texts → Keeps (put texts)
  keeps_put texts h = λ pen s. record { written = each_append Word pen.written texts s.written h; left = s.left; specifiers = s.specifiers }

  each_text : (ts : List Tok) → Each Said ts → Each Word (texts_of ts)
  each_text [] h = tt
  each_text (t ∷ ts) h = (h.0, each_text ts h.1)

  keeps_copy : (n : ℕ) → Keeps (copy n)
  keeps_copy n pen s = record {
    written = each_append Word pen.written (texts_of (take n pen.left)) s.written (each_text (take n pen.left) (each_take Said n pen.left s.left));
    left = each_drop Said n pen.left s.left;
    specifiers = s.specifiers;
  }

  keeps_skip : Keeps skip
  keeps_skip pen s = record { written = s.written; left = each_drop Said 1 pen.left s.left; specifiers = s.specifiers }

  keeps_upto : (place : ℕ) → Keeps (upto place)
  keeps_upto place pen s = keeps_copy (before place pen.left) pen s

  keeps_into_body : Keeps into_body
  keeps_into_body pen s = keeps_copy (through pen.left) pen s

  keeps_rest : Keeps rest
  keeps_rest pen s = keeps_copy (length pen.left) pen s

  each_since : (found ts : List Tok) → Each Said found → Each Said ts → Each Said (since found ts)
  each_since found [] h g = h
  each_since found (t ∷ ts) h g = each_since (cond (ends_item t) ts found) ts (each_chosen Said (ends_item t) ts found g.1 h) g.1

  keeps_note : (place : ℕ) → Keeps (note place)
  keeps_note place pen s =
      let front = take (before place pen.left) pen.left in
      let h = each_take Said (before place pen.left) pen.left s.left in
      record { written = s.written; left = s.left; specifiers = each_since front front h h }

  each_type_word : (ts : List Tok) → Each Said ts → Each Word (type_words ts)
  each_type_word [] h = tt
  each_type_word (t ∷ ts) h = each_chosen Word (one_of (codes "static" ∷ codes "extern" ∷ codes "const" ∷ []) t.text) (type_words ts) (t.text ∷ type_words ts) (each_type_word ts h.1) (h.0, each_type_word ts h.1)

  keeps_put_type : Keeps put_type
  keeps_put_type pen s = keeps_put (type_words pen.specifiers) (each_type_word pen.specifiers s.specifiers) pen s

  keeps_at : (place : ℕ) (texts : List (List ℕ)) → Each Word texts → Keeps (at place texts)
  keeps_at place texts h = keeps_both (upto place) (put texts) (keeps_upto place) (keeps_put texts h)

  -- ---- the rows

  brace : Each Word (codes "{" ∷ [])
  unfolding inserted_words inserted_punctuators probe_names
  brace = (said _ refl, tt)

  end_brace : Each Word (codes "}" ∷ [])
  unfolding inserted_words inserted_punctuators probe_names
  end_brace = (said _ refl, tt)

  parenthesis : Each Word (codes ")" ∷ [])
  unfolding inserted_words inserted_punctuators probe_names
  parenthesis = (said _ refl, tt)

  value_words : Each Word (codes "mcdc_v" ∷ codes "=" ∷ [])
  unfolding inserted_words inserted_punctuators probe_names
  value_words = (said _ refl, (said _ refl, tt))

  hit_words : (b : ℕ) → IsShort b → Each Word (hit b)
  unfolding inserted_words inserted_punctuators probe_names
  hit_words b h = (said _ refl, (said _ refl, (inserts.numeral b h, (said _ refl, (said _ refl, tt)))))

  exit_words : Each Word (codes "return" ∷ codes "mcdc_v" ∷ codes ";" ∷ codes "}" ∷ [])
  unfolding inserted_words inserted_punctuators probe_names
  exit_words = (said _ refl, (said _ refl, (said _ refl, (said _ refl, tt))))

  register_words : (n : ℕ) → IsShort n → Each Word (registers n)
  unfolding inserted_words inserted_punctuators probe_names
  register_words n h = (said _ refl, (said _ refl, (said _ refl, (inserts.numeral n h, (said _ refl, (said _ refl, tt))))))

  label_words : (m : Mark) → IsShortMark (Some m) → Each Word (label m)
  unfolding inserted_words inserted_punctuators probe_names
  label_words m h = (said _ refl, (said _ refl, (inserts.numeral m.register h.0, (said _ refl, (inserts.numeral m.bit h.1, (said _ refl, (said _ refl, tt)))))))

  opening_words : (q : Probe) → IsShortProbe q → Each Word (opening q)
  unfolding inserted_words inserted_punctuators probe_names
  opening_words (probe.Decision r base) h = (said _ refl, (said _ refl, (inserts.numeral r h.0, (said _ refl, (inserts.numeral base h.1, (said _ refl, tt))))))
  opening_words (probe.Condition r on_true on_false) h =
      (said _ refl, (said _ refl, (inserts.numeral r h.0, (said _ refl, (inserts.numeral on_true h.1, (said _ refl, (inserts.numeral on_false h.2, (said _ refl, tt))))))))
  opening_words (probe.Switch r) h = (said _ refl, (said _ refl, (inserts.numeral r h, (said _ refl, tt))))

  -- ---- their places

  keeps_before : (bit : Option ℕ) (span : Span) → IsShortBit bit → Keeps (before_counted bit span)
  keeps_before None span h = keeps_nothing
  keeps_before (Some b) span h = keeps_at span.start (codes "{" ∷ hit b) (brace.0, hit_words b h)

  keeps_after : (bit : Option ℕ) (span : Span) → Keeps (after_counted bit span)
  keeps_after None span = keeps_nothing
  keeps_after (Some b) span = keeps_at span.end (codes "}" ∷ []) end_brace

  keeps_hit : (bit : Option ℕ) (place : ℕ) → IsShortBit bit → Keeps (hit_at bit place)
  keeps_hit None place h = keeps_nothing
  keeps_hit (Some b) place h = keeps_at place (hit b) (hit_words b h)

  keeps_label : (mark : Option Mark) (span : Span) → IsShortMark mark → Keeps (label_after mark span)
  keeps_label None span h = keeps_nothing
  keeps_label (Some m) span h = keeps_at span.end (label m) (label_words m h)

  keeps_registers : (n : ℕ) → IsShort n → Keeps (put_registers n)
  keeps_registers n h = by_test (nat_eq n 0)
    where
      by_test : (t : Bool) → Keeps (cond t nothing (put (registers n)))
      by_test true = keeps_nothing
      by_test false = keeps_put (registers n) (register_words n h)

  keeps_entry : (bit : Option ℕ) → IsShortBit bit → Keeps (put_entry bit)
  keeps_entry None h = keeps_nothing
  keeps_entry (Some b) h = keeps_put (hit b) (hit_words b h)

  keeps_open : (span : Span) → Keeps (open_value span)
  keeps_open span pen s =
      let a = keeps_upto span.start pen s in
      let b = keeps_skip _ a in
      let c = keeps_put (codes "{" ∷ []) brace _ b in
      let d = keeps_put_type _ c in
      keeps_put (codes "mcdc_v" ∷ codes "=" ∷ []) value_words _ d

  keeps_close : (b : ℕ) (span : Span) → IsShort b → Keeps (close_value b span)
  keeps_close b span h = keeps_at span.end (value_exit b) (each_append Word (hit b) (codes "return" ∷ codes "mcdc_v" ∷ codes ";" ∷ codes "}" ∷ []) (hit_words b h) exit_words)

  -- ---- expressions

  mutual
    keeps_place : (place : p.Place) → ShortPlace place → Keeps (write_place place)
    keeps_place (p.Local slot span) h = keeps_nothing
    keeps_place (p.Static slot span) h = keeps_nothing
    keeps_place (p.Parameter array stride index span) h = keeps_write index h
    keeps_place (p.Item array n stride index span) h = λ pen s. keeps_write index h.1 _ (keeps_place array h.0 pen s)
    keeps_place (p.Member structure i offset span) h = keeps_place structure h

    keeps_write : (e : p.Expression) → Short e → Keeps (write e)
    keeps_write (p.Constant v a span) h = keeps_nothing
    keeps_write (p.Read place a) h = keeps_place place h
    keeps_write (p.Unary operator a e span) h = keeps_write e h
    keeps_write (p.Convert a written e span) h = keeps_write e h
    keeps_write (p.Not e span) h = keeps_write e h
    keeps_write (p.Binary operator a e f span) h = λ pen s. keeps_write f h.1 _ (keeps_write e h.0 pen s)
    keeps_write (p.Logic operator e f span) h = λ pen s. keeps_write f h.1 _ (keeps_write e h.0 pen s)
    keeps_write (p.Choice e f g a span) h = λ pen s. keeps_write g h.2 _ (keeps_write f h.1 _ (keeps_write e h.0 pen s))
    keeps_write (p.Call k a) h = keeps_call k h
    keeps_write (p.Input span) h = keeps_nothing
    keeps_write (p.Probe q e) h = λ pen s.
        keeps_at (extent e).end (codes ")" ∷ []) parenthesis _ (keeps_write e h.1 _ (keeps_at (extent e).start (opening q) (opening_words q h.0) pen s))

    keeps_structure : (value : p.StructureValue) → ShortStructure value → Keeps (write_structure value)
    keeps_structure (p.Stored place) h = keeps_place place h
    keeps_structure (p.Returned k) h = keeps_call k h

    keeps_call : (k : p.FunctionCall) → ShortCall k → Keeps (write_call k)
    keeps_call (p.call f given result span) h = keeps_arguments given h

    keeps_argument : (a : p.Argument) → ShortArgument a → Keeps (write_argument a)
    keeps_argument (p.NumberArgument e) h = keeps_write e h
    keeps_argument (p.StructureArgument value copy) h = keeps_structure value h
    keeps_argument (p.ArrayArgument place n) h = keeps_place place h
    keeps_argument (p.AgainArgument array span) h = keeps_nothing

    keeps_arguments : (all : p.Arguments) → ShortArguments all → Keeps (write_arguments all)
    keeps_arguments p.no_arguments h = keeps_nothing
    keeps_arguments (p.arguments a later) h = λ pen s. keeps_arguments later h.1 _ (keeps_argument a h.0 pen s)

  -- ---- effects and initializers

  keeps_effect : (a : p.Effect) → ShortEffect a → Keeps (write_effect a)
  keeps_effect (p.Assign target a e span) h = λ pen s. keeps_write e h.1 _ (keeps_place target h.0 pen s)
  keeps_effect (p.Update target a operator common e span) h = λ pen s. keeps_write e h.1 _ (keeps_place target h.0 pen s)
  keeps_effect (p.Copy target value n span) h = λ pen s. keeps_structure value h.1 _ (keeps_place target h.0 pen s)
  keeps_effect (p.NumberEffect e whole) h = keeps_write e h
  keeps_effect (p.StructureEffect value whole) h = keeps_structure value h
  keeps_effect (p.CallEffect k) h = keeps_call k h
  keeps_effect (p.Output e span) h = keeps_write e h
  keeps_effect (p.ChoiceEffect e a b span) h = λ pen s. keeps_effect b h.2 _ (keeps_effect a h.1 _ (keeps_write e h.0 pen s))
  keeps_effect (p.Discard a span) h = keeps_effect a h

  keeps_effects : (all : List p.Effect) → ShortEffects all → Keeps (write_effects all)
  keeps_effects [] h = keeps_nothing
  keeps_effects (a ∷ later) h = λ pen s. keeps_effects later h.1 _ (keeps_effect a h.0 pen s)

  mutual
    keeps_initializer : (i : p.Initializer) → ShortInitializer i → Keeps (write_initializer i)
    keeps_initializer (p.NumberInitializer e) h = keeps_write e h
    keeps_initializer (p.StructureInitializer value n) h = keeps_structure value h
    keeps_initializer (p.ListInitializer items n) h = keeps_initializers items h
    keeps_initializer (p.ZeroInitializer e n) h = keeps_write e h

    keeps_initializers : (all : p.Initializers) → ShortInitializers all → Keeps (write_initializers all)
    keeps_initializers p.no_initializers h = keeps_nothing
    keeps_initializers (p.initializers i later) h = λ pen s. keeps_initializers later h.1 _ (keeps_initializer i h.0 pen s)

  keeps_initial : (i : Option p.Initializer) → ShortInitial i → Keeps (write_initial i)
  keeps_initial None h = keeps_nothing
  keeps_initial (Some i) h = keeps_initializer i h

  keeps_declarators : (all : List p.Declarator) → ShortDeclarators all → Keeps (write_declarators all)
  keeps_declarators [] h = keeps_nothing
  keeps_declarators (d ∷ later) h = λ pen s. keeps_declarators later h.1 _ (keeps_initial d.value h.0 pen s)

  -- ---- statements

  keeps_start : (start : p.ForStart) → ShortStart start → Keeps (write_start start)
  keeps_start (p.StartEffects effects) h = keeps_effects effects h
  keeps_start (p.StartDeclaration declarators) h = keeps_declarators declarators h

  keeps_optional : (test : Option p.Expression) → ShortTest test → Keeps (write_optional test)
  keeps_optional None h = keeps_nothing
  keeps_optional (Some e) h = keeps_write e h

  keeps_value : (value : p.ReturnValue) → ShortValue value → Keeps (write_value value)
  keeps_value p.ReturnNothing h = keeps_nothing
  keeps_value (p.ReturnNumber e) h = keeps_write e h
  keeps_value (p.ReturnStructure value n) h = keeps_structure value h

  keeps_exit : (b : ℕ) (span : Span) (value : p.ReturnValue) → IsShort b → ShortValue value → Keeps (write_exit b span value)
  keeps_exit b span p.ReturnNothing short h pen s = keeps_at span.end (codes "}" ∷ []) end_brace _ (keeps_at span.start (codes "{" ∷ hit b) (brace.0, hit_words b short) pen s)
  keeps_exit b span (p.ReturnNumber e) short h pen s = keeps_close b span short _ (keeps_write e h _ (keeps_open span pen s))
  keeps_exit b span (p.ReturnStructure value n) short h pen s = keeps_close b span short _ (keeps_structure value h _ (keeps_open span pen s))

  keeps_return : (bit : Option ℕ) (span : Span) (value : p.ReturnValue) → IsShortBit bit → ShortValue value → Keeps (write_return bit span value)
  keeps_return None span value short h = keeps_value value h
  keeps_return (Some b) span value short h = keeps_exit b span value short h

  mutual
    keeps_statement : (s : p.Statement) → ShortStatement s → Keeps (write_statement s)
    keeps_statement (p.Compound items span) h = keeps_statements items h
    keeps_statement (p.Label v span mark) h = keeps_label mark span h
    keeps_statement (p.Declaration declarators span bit) h = λ pen s. keeps_declarators declarators h.1 _ (keeps_hit bit span.start h.0 pen s)
    keeps_statement (p.Null span bit) h = λ pen s. keeps_after bit span _ (keeps_before bit span h pen s)
    keeps_statement (p.EffectStatement a span bit) h = λ pen s. keeps_after bit span _ (keeps_effect a h.1 _ (keeps_before bit span h.0 pen s))
    keeps_statement (p.If e s keyword span bit) h = λ pen g. keeps_after bit span _ (keeps_statement s h.2 _ (keeps_write e h.1 _ (keeps_before bit span h.0 pen g)))
    keeps_statement (p.IfElse e s u keyword span bit) h = λ pen g.
        keeps_after bit span _ (keeps_statement u h.3 _ (keeps_statement s h.2 _ (keeps_write e h.1 _ (keeps_before bit span h.0 pen g))))
    keeps_statement (p.Switch e items keyword span bit absent) h = λ pen g.
        keeps_after bit span _ (keeps_label absent span h.3 _ (keeps_statements items h.2 _ (keeps_write e h.1 _ (keeps_before bit span h.0 pen g))))
    keeps_statement (p.For start test step s keyword span bit) h = λ pen g.
        keeps_after bit span _ (keeps_statement s h.4 _ (keeps_effects step h.3 _ (keeps_optional test h.2 _ (keeps_start start h.1 _ (keeps_before bit span h.0 pen g)))))
    keeps_statement (p.DoWhile s e keyword span bit) h = λ pen g. keeps_after bit span _ (keeps_write e h.2 _ (keeps_statement s h.1 _ (keeps_before bit span h.0 pen g)))
    keeps_statement (p.Break span bit) h = λ pen s. keeps_after bit span _ (keeps_before bit span h pen s)
    keeps_statement (p.Continue span bit) h = λ pen s. keeps_after bit span _ (keeps_before bit span h pen s)
    keeps_statement (p.Return value span bit exit) h = λ pen s. keeps_after bit span _ (keeps_return exit span value h.1 h.2 _ (keeps_before bit span h.0 pen s))

    keeps_statements : (all : p.Statements) → ShortStatements all → Keeps (write_statements all)
    keeps_statements p.no_statements h = keeps_nothing
    keeps_statements (p.statements s later) h = λ pen g. keeps_statements later h.1 _ (keeps_statement s h.0 pen g)

  -- ---- functions and programs

  keeps_front : (f : p.Function) → ShortFunction f → Keeps (write_front f)
  keeps_front f h = λ pen s.
      keeps_entry f.entry h.1 _ (keeps_registers f.registers h.0 _ (keeps_into_body _ (keeps_upto f.name_span.end _ (keeps_note f.name_span.start pen s))))

  keeps_function : (f : p.Function) → ShortFunction f → Keeps (write_function f)
  keeps_function f h = λ pen s. keeps_hit f.exit f.closing.start h.2 _ (keeps_statements f.body h.3 _ (keeps_front f h pen s))

  keeps_functions : (all : List p.Function) → ShortFunctions all → Keeps (write_functions all)
  keeps_functions [] h = keeps_nothing
  keeps_functions (f ∷ later) h = λ pen s. keeps_functions later h.1 _ (keeps_function f h.0 pen s)

  -- all that is written over some tokens
  pub all_said : (ts : List Tok) (tree : p.Tree) → Each Said ts → ShortFunctions tree.program.functions → Each Word (write_all tree (begun ts)).written
  all_said ts tree each short =
      let start : Says Word (begun ts) = record { written = tt; left = each; specifiers = tt } in
      (keeps_rest _ (keeps_functions tree.program.functions short (begun ts) start)).written
