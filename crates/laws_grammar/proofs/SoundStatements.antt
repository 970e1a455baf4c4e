-- What the readers of statements give, the grammar reads.
use Rattle.std.proofs.Common.{◌≡◌, ℕ, zero, suc, ◌+◌, ◌<◌, Bool, true, false, cond, List, [], ◌∷◌, length, Option, refl, arith, codes}
use Rattle.mc_lex.specs.declared.token.Dialect.{Dialect}
use Rattle.mc_tree.specs.Tree.{BlockItems, Expression, ForStart, Statement}
use Rattle.mc_tree.specs.Height.{height, height_block, height_optional, height_start, height_statement}
use Rattle.mc_tree.specs.Units.{block_from}
use Rattle.mc_grammar.specs.Words.{Lexeme, is_punctuator, is_keyword, is_name, sees, sees_keyword, sees_label, sees_specifiers}
use Rattle.mc_grammar.specs.Counts.{for_local, for_type}
use Rattle.mc_grammar.specs.Nonterminal as n
use Rattle.mc_grammar.specs.Statements.{ReadsOptional, ReadsTest, ReadsForStart, ReadsStatement, ReadsCompound, ReadsBlockItems}
use Rattle.mc_grammar.specs.Statements as r
use Rattle.mc_grammar.specs.steps.Parsers.{Parser}
use Rattle.laws_grammar.specs.Rooms.{reading}
use Rattle.laws_grammar.specs.Statements.{optional_of, test_of, block_item_of, Block, compound_of, block_statement_of, null_of, expression_statement_of, if_of, switch_of, while_of, do_while_of, for_start_of, for_of, case_of, default_of, label_of, goto_of, continue_of, break_of, return_of, Beginning, keyword_begins, begins, statement_by, statement_in, statement_of}
use Rattle.laws_grammar.specs.Statements as b
use Rattle.laws_grammar.proofs.Known.{and_left, and_right}
use Rattle.laws_grammar.proofs.Rules.{After, done, nothing, reads, accepts, accepts_at, takes, takes_at, test}
use Rattle.laws_grammar.proofs.SoundLists.{UntilList, until_end, until_more, all_added, sound_until_list}
use Rattle.laws_grammar.proofs.SoundParts.{Read}
use Rattle.laws_grammar.proofs.SoundStarts.{starts}
use Rattle.laws_grammar.proofs.SoundSpecifiers.{sound_reading}
use Rattle.laws_grammar.proofs.SoundDeclarations.{sound_local}

pub record ReadOptional (d : Dialect) (stop : List ℕ) (bound : ℕ) (ts : List Lexeme) (a : Option Expression) (rest : List Lexeme) : Type 0 where
  pub reads : ReadsOptional d stop ts a rest
  pub low : height_optional a < bound

pub record ReadTest (d : Dialect) (bound : ℕ) (ts : List Lexeme) (a : Expression) (rest : List Lexeme) : Type 0 where
  pub reads : ReadsTest d ts a rest
  pub low : height a < bound

pub record ReadForStart (d : Dialect) (bound : ℕ) (ts : List Lexeme) (start : ForStart) (rest : List Lexeme) : Type 0 where
  pub reads : ReadsForStart d ts start rest
  pub low : height_start start < bound

pub record ReadStatement (d : Dialect) (bound : ℕ) (ts : List Lexeme) (s : Statement) (rest : List Lexeme) : Type 0 where
  pub reads : ReadsStatement d ts s rest
  pub low : height_statement s < bound

pub record ReadBlock (d : Dialect) (bound : ℕ) (ts : List Lexeme) (b : BlockItems) (rest : List Lexeme) : Type 0 where
  pub reads : ReadsBlockItems d ts b rest
  pub low : height_block b < bound

-- one item, and those after it
record ReadBlockItem (d : Dialect) (bound : ℕ) (ts : List Lexeme) (one : BlockItems → BlockItems) (rest : List Lexeme) : Type 0 where
  goes : {b : BlockItems} {end : List Lexeme} → ReadBlock d bound rest b end → ReadBlock d bound ts (one b) end

pub record ReadCompound (d : Dialect) (bound : ℕ) (ts : List Lexeme) (b : Block) (rest : List Lexeme) : Type 0 where
  pub reads : ReadsCompound d ts (block_from b.items) b.span rest
  pub low : height_block (block_from b.items) < bound

block_list : {d : Dialect} {bound : ℕ} {ts rest : List Lexeme} {all : List (BlockItems → BlockItems)} → 0 < bound → UntilList (sees (codes "}")) (ReadBlockItem d bound) ts all rest
    → ReadBlock d bound ts (block_from all) rest
block_list some (until_end h) = record { reads = r.block_end h; low = some }
block_list some (until_more h p more) = p.goes (block_list some more)

-- ---- which statement begins

abbrev Begins : Beginning → List Lexeme → Type 0
Begins b.block ts = sees (codes "{") ts ≡ true
Begins b.null ts = sees (codes ";") ts ≡ true
Begins b.if_ ts = sees_keyword (codes "if") ts ≡ true
Begins b.switch ts = sees_keyword (codes "switch") ts ≡ true
Begins b.while ts = sees_keyword (codes "while") ts ≡ true
Begins b.do_ ts = sees_keyword (codes "do") ts ≡ true
Begins b.for_ ts = sees_keyword (codes "for") ts ≡ true
Begins b.case_ ts = sees_keyword (codes "case") ts ≡ true
Begins b.default_ ts = sees_keyword (codes "default") ts ≡ true
Begins b.label ts = sees_label ts ≡ true
Begins b.goto_ ts = sees_keyword (codes "goto") ts ≡ true
Begins b.continue_ ts = sees_keyword (codes "continue") ts ≡ true
Begins b.break_ ts = sees_keyword (codes "break") ts ≡ true
Begins b.return_ ts = sees_keyword (codes "return") ts ≡ true
Begins b.expression ts = sees_label ts ≡ false

chosen : (T : Beginning → Type 0) (b : Bool) (here more : Beginning) → (b ≡ true → T here) → (b ≡ false → T more) → T (cond b here more)
chosen T true here more f g = f refl
chosen T false here more f g = g refl

keyword_chosen : (ts : List Lexeme) → sees_label ts ≡ false → Begins (keyword_begins ts) ts
keyword_chosen ts plain = chosen (λ b. Begins b ts) (sees_keyword (codes "if") ts) _ _ (λ h. h) (λ n1.
    chosen (λ b. Begins b ts) (sees_keyword (codes "switch") ts) _ _ (λ h. h) (λ n2.
    chosen (λ b. Begins b ts) (sees_keyword (codes "while") ts) _ _ (λ h. h) (λ n3.
    chosen (λ b. Begins b ts) (sees_keyword (codes "do") ts) _ _ (λ h. h) (λ n4.
    chosen (λ b. Begins b ts) (sees_keyword (codes "for") ts) _ _ (λ h. h) (λ n5.
    chosen (λ b. Begins b ts) (sees_keyword (codes "case") ts) _ _ (λ h. h) (λ n6.
    chosen (λ b. Begins b ts) (sees_keyword (codes "default") ts) _ _ (λ h. h) (λ n7.
    chosen (λ b. Begins b ts) (sees_keyword (codes "goto") ts) _ _ (λ h. h) (λ n8.
    chosen (λ b. Begins b ts) (sees_keyword (codes "continue") ts) _ _ (λ h. h) (λ n9.
    chosen (λ b. Begins b ts) (sees_keyword (codes "break") ts) _ _ (λ h. h) (λ n10.
    chosen (λ b. Begins b ts) (sees_keyword (codes "return") ts) _ _ (λ h. h) (λ n11. plain)))))))))))

begun : (ts : List Lexeme) → Begins (begins ts) ts
begun ts = chosen (λ b. Begins b ts) (sees (codes "{") ts) _ _ (λ h. h) (λ n1.
    chosen (λ b. Begins b ts) (sees (codes ";") ts) _ _ (λ h. h) (λ n2.
    chosen (λ b. Begins b ts) (sees_label ts) _ _ (λ h. h) (λ plain. keyword_chosen ts plain)))

-- ---- parts of statements

module _ (d : Dialect) (rooms : ℕ) (some : 0 < rooms) where
  pub sound_optional : (stop : List ℕ) (ts : List Lexeme) → After (ReadOptional d stop rooms ts) (optional_of stop (reading rooms) ts)
  unfolding optional_of
  sound_optional stop ts = test (sees stop ts) _ _ ts (λ h. done (record { reads = r.no_expression h; low = some }))
      (λ h. reads ((sound_reading d rooms).expression n.comma tt ts) (λ a rest p. done (record { reads = r.an_expression h p.reads; low = p.low })))

  pub sound_test : (ts : List Lexeme) → After (ReadTest d rooms ts) (test_of (reading rooms) ts)
  unfolding test_of
  sound_test ts = accepts_at (λ l. ReadTest d rooms l) (λ l. Unit {0}) (is_punctuator (codes "(")) _ ts tt (λ x mid u hx.
      reads ((sound_reading d rooms).expression n.comma tt mid) (λ a next p.
      accepts (λ l. Read d n.comma rooms mid a l) (is_punctuator (codes ")")) _ next p (λ y rest q hy.
      done (record { reads = r.test hx q.reads hy; low = q.low }))))

  pub sound_for_start : (ts : List Lexeme) → After (ReadForStart d rooms ts) (for_start_of rooms ts)
  unfolding for_start_of
  sound_for_start ts = test (sees_specifiers ts) _ _ ts
      (λ h. reads (sound_local d rooms some for_type ts h) (λ one rest p. done (record { reads = r.starts_local p.reads; low = p.low })))
      (λ h. reads (sound_optional (codes ";") ts) (λ a mid p.
      accepts (λ l. ReadOptional d (codes ";") rooms ts a l) (is_punctuator (codes ";")) _ mid p (λ y rest q hy.
      done (record { reads = r.starts_expression h q.reads hy; low = q.low }))))

  -- ---- blocks and statements, over what reads their parts

  module _ (statement : Parser Statement) (each : (ts : List Lexeme) → After (ReadStatement d rooms ts) (statement ts)) where
    sound_block_item : (ts : List Lexeme) → sees (codes "}") ts ≡ false → After (ReadBlockItem d rooms ts) (block_item_of rooms statement ts)
    unfolding block_item_of
    sound_block_item ts goes_on = test (sees_specifiers ts) _ _ ts
        (λ h. reads (sound_local d rooms some for_local ts h) (λ one rest p.
        done (record { goes = λ more. record { reads = r.local h p.reads more.reads; low = omega (arith, p.low, more.low) } })))
        (λ h. reads (each ts) (λ s rest p. done (record { goes = λ more. record { reads = r.statement goes_on h p.reads more.reads; low = omega (arith, p.low, more.low) } })))

    pub sound_compound : (ts : List Lexeme) → After (ReadCompound d rooms ts) (compound_of rooms statement ts)
    unfolding compound_of
    sound_compound ts = accepts_at (λ l. ReadCompound d rooms l) (λ l. Unit {0}) (is_punctuator (codes "{")) _ ts tt (λ x mid u hx.
        reads (sound_until_list (ReadBlockItem d rooms) (block_item_of rooms statement) (sees (codes "}")) sound_block_item (length mid + 1) [] mid) (λ all next p.
        accepts (λ l. ReadBlock d rooms mid (block_from all) l) (is_punctuator (codes "}")) _ next (block_list some (all_added p)) (λ y rest q hy.
        done (record { reads = r.block hx q.reads hy; low = q.low }))))

    sound_block_statement : (ts : List Lexeme) → After (ReadStatement d (suc rooms) ts) (block_statement_of rooms statement ts)
    sound_block_statement ts = reads (sound_compound ts) (λ one rest p. done (record { reads = r.compound p.reads; low = omega (arith, p.low) }))

    sound_null : (ts : List Lexeme) → sees (codes ";") ts ≡ true → After (ReadStatement d (suc rooms) ts) (null_of ts)
    sound_null [] h = nothing
    sound_null (y ∷ rest) h = done (record { reads = r.null h; low = omega arith })

    sound_expression_statement : (ts : List Lexeme) → sees_label ts ≡ false → After (ReadStatement d (suc rooms) ts) (expression_statement_of (reading rooms) ts)
    sound_expression_statement ts h = reads ((sound_reading d rooms).expression n.comma tt ts) (λ a mid p.
        accepts (λ l. Read d n.comma rooms ts a l) (is_punctuator (codes ";")) _ mid p (λ y rest q hy.
        done (record { reads = r.expression_statement (starts q.reads) h q.reads hy; low = omega (arith, q.low) })))

    sound_if : (ts : List Lexeme) → sees_keyword (codes "if") ts ≡ true → After (ReadStatement d (suc rooms) ts) (if_of (reading rooms) statement ts)
    sound_if [] h = nothing
    sound_if (x ∷ ts) h = reads (sound_test ts) (λ a mid p. reads (each mid) (λ s next q. test (sees_keyword (codes "else") next) _ _ next
        (λ g. takes (λ l. ReadStatement d rooms mid s l × (sees_keyword (codes "else") l ≡ true)) _ next (q, g) (λ y other u. let first = u.0 in
        reads (each other) (λ v rest w. done (record { reads = r.if_else h p.reads first.reads u.1 w.reads; low = omega (arith, p.low, first.low, w.low) }))))
        (λ g. done (record { reads = r.if_only h p.reads q.reads g; low = omega (arith, p.low, q.low) }))))

    sound_switch : (ts : List Lexeme) → sees_keyword (codes "switch") ts ≡ true → After (ReadStatement d (suc rooms) ts) (switch_of (reading rooms) statement ts)
    sound_switch [] h = nothing
    sound_switch (x ∷ ts) h = reads (sound_test ts) (λ a mid p. reads (each mid) (λ s rest q. done (record { reads = r.switch h p.reads q.reads; low = omega (arith, p.low, q.low) })))

    sound_while : (ts : List Lexeme) → sees_keyword (codes "while") ts ≡ true → After (ReadStatement d (suc rooms) ts) (while_of (reading rooms) statement ts)
    sound_while [] h = nothing
    sound_while (x ∷ ts) h = reads (sound_test ts) (λ a mid p. reads (each mid) (λ s rest q. done (record { reads = r.while h p.reads q.reads; low = omega (arith, p.low, q.low) })))

    sound_do_while : (ts : List Lexeme) → sees_keyword (codes "do") ts ≡ true → After (ReadStatement d (suc rooms) ts) (do_while_of (reading rooms) statement ts)
    sound_do_while [] h = nothing
    sound_do_while (x ∷ ts) h = reads (each ts) (λ s mid p.
        accepts (λ l. ReadStatement d rooms ts s l) (is_keyword (codes "while")) _ mid p (λ y next q hy.
        reads (sound_test next) (λ a last u.
        accepts (λ l. ReadTest d rooms next a l) (is_punctuator (codes ";")) _ last u (λ z rest v hz.
        done (record { reads = r.do_while h q.reads hy v.reads hz; low = omega (arith, q.low, v.low) })))))

    sound_for : (ts : List Lexeme) → sees_keyword (codes "for") ts ≡ true → After (ReadStatement d (suc rooms) ts) (for_of rooms (reading rooms) statement ts)
    sound_for [] h = nothing
    sound_for (x ∷ ts) h = accepts_at (λ l. ReadStatement d (suc rooms) (x ∷ l)) (λ l. Unit {0}) (is_punctuator (codes "(")) _ ts tt (λ y mid u hy.
        reads (sound_for_start mid) (λ start l1 p.
        reads (sound_optional (codes ";") l1) (λ a l2 q.
        accepts (λ l. ReadOptional d (codes ";") rooms l1 a l) (is_punctuator (codes ";")) _ l2 q (λ z l3 q' hz.
        reads (sound_optional (codes ")") l3) (λ b l4 v.
        accepts (λ l. ReadOptional d (codes ")") rooms l3 b l) (is_punctuator (codes ")")) _ l4 v (λ w body v' hw.
        reads (each body) (λ s rest e.
        done (record { reads = r.for h hy p.reads q'.reads hz v'.reads hw e.reads; low = omega (arith, p.low, q'.low, v'.low, e.low) }))))))))

    sound_case : (ts : List Lexeme) → sees_keyword (codes "case") ts ≡ true → After (ReadStatement d (suc rooms) ts) (case_of (reading rooms) statement ts)
    sound_case [] h = nothing
    sound_case (x ∷ ts) h = reads ((sound_reading d rooms).expression n.cond tt ts) (λ a mid p.
        accepts (λ l. Read d n.cond rooms ts a l) (is_punctuator (codes ":")) _ mid p (λ y next q hy.
        reads (each next) (λ s rest u. done (record { reads = r.case_label h q.reads hy u.reads; low = omega (arith, q.low, u.low) }))))

    sound_default : (ts : List Lexeme) → sees_keyword (codes "default") ts ≡ true → After (ReadStatement d (suc rooms) ts) (default_of statement ts)
    sound_default [] h = nothing
    sound_default (x ∷ ts) h = accepts_at (λ l. ReadStatement d (suc rooms) (x ∷ l)) (λ l. Unit {0}) (is_punctuator (codes ":")) _ ts tt (λ y next u hy.
        reads (each next) (λ s rest p. done (record { reads = r.default h hy p.reads; low = omega (arith, p.low) })))

    sound_label : (ts : List Lexeme) → sees_label ts ≡ true → After (ReadStatement d (suc rooms) ts) (label_of statement ts)
    sound_label [] h = nothing
    sound_label (x ∷ ts) h = takes_at (λ l. ReadStatement d (suc rooms) (x ∷ l)) (λ l. sees (codes ":") l ≡ true) _ ts (and_right (is_name x) _ h) (λ y next hy.
        reads (each next) (λ s rest p. done (record { reads = r.label (and_left _ _ h) hy p.reads; low = omega (arith, p.low) })))

    sound_goto : (ts : List Lexeme) → sees_keyword (codes "goto") ts ≡ true → After (ReadStatement d (suc rooms) ts) (goto_of ts)
    sound_goto [] h = nothing
    sound_goto (x ∷ ts) h = accepts_at (λ l. ReadStatement d (suc rooms) (x ∷ l)) (λ l. Unit {0}) is_name _ ts tt (λ y mid u hy.
        accepts_at (λ l. ReadStatement d (suc rooms) (x ∷ y ∷ l)) (λ l. Unit {0}) (is_punctuator (codes ";")) _ mid tt (λ z rest u' hz. done (record { reads = r.goto h hy hz; low = omega arith })))

    sound_continue : (ts : List Lexeme) → sees_keyword (codes "continue") ts ≡ true → After (ReadStatement d (suc rooms) ts) (continue_of ts)
    sound_continue [] h = nothing
    sound_continue (x ∷ ts) h = accepts_at (λ l. ReadStatement d (suc rooms) (x ∷ l)) (λ l. Unit {0}) (is_punctuator (codes ";")) _ ts tt (λ y rest u hy. done (record { reads = r.continue h hy; low = omega arith }))

    sound_break : (ts : List Lexeme) → sees_keyword (codes "break") ts ≡ true → After (ReadStatement d (suc rooms) ts) (break_of ts)
    sound_break [] h = nothing
    sound_break (x ∷ ts) h = accepts_at (λ l. ReadStatement d (suc rooms) (x ∷ l)) (λ l. Unit {0}) (is_punctuator (codes ";")) _ ts tt (λ y rest u hy. done (record { reads = r.break h hy; low = omega arith }))

    sound_return : (ts : List Lexeme) → sees_keyword (codes "return") ts ≡ true → After (ReadStatement d (suc rooms) ts) (return_of (reading rooms) ts)
    sound_return [] h = nothing
    sound_return (x ∷ ts) h = reads (sound_optional (codes ";") ts) (λ a mid p.
        accepts (λ l. ReadOptional d (codes ";") rooms ts a l) (is_punctuator (codes ";")) _ mid p (λ y rest q hy.
        done (record { reads = r.return h q.reads hy; low = omega (arith, q.low) })))

    sound_statement_by : (one : Beginning) (ts : List Lexeme) → Begins one ts → After (ReadStatement d (suc rooms) ts) (statement_by rooms statement one ts)
    sound_statement_by b.block ts h = sound_block_statement ts
    sound_statement_by b.null ts h = sound_null ts h
    sound_statement_by b.if_ ts h = sound_if ts h
    sound_statement_by b.switch ts h = sound_switch ts h
    sound_statement_by b.while ts h = sound_while ts h
    sound_statement_by b.do_ ts h = sound_do_while ts h
    sound_statement_by b.for_ ts h = sound_for ts h
    sound_statement_by b.case_ ts h = sound_case ts h
    sound_statement_by b.default_ ts h = sound_default ts h
    sound_statement_by b.label ts h = sound_label ts h
    sound_statement_by b.goto_ ts h = sound_goto ts h
    sound_statement_by b.continue_ ts h = sound_continue ts h
    sound_statement_by b.break_ ts h = sound_break ts h
    sound_statement_by b.return_ ts h = sound_return ts h
    sound_statement_by b.expression ts h = sound_expression_statement ts h

sound_statement_in : (d : Dialect) (room : ℕ) (statement : Parser Statement) → ((ts : List Lexeme) → After (ReadStatement d room ts) (statement ts)) → (ts : List Lexeme)
    → After (ReadStatement d (suc room) ts) (statement_in room statement ts)
sound_statement_in d zero statement each ts = nothing
sound_statement_in d (suc room) statement each ts = sound_statement_by d (suc room) (omega arith) statement each (begins ts) ts (begun ts)

pub sound_statement : (d : Dialect) (n : ℕ) (ts : List Lexeme) → After (ReadStatement d n ts) (statement_of n ts)
unfolding statement_of
sound_statement d zero ts = nothing
sound_statement d (suc room) ts = sound_statement_in d room (statement_of room) (sound_statement d room) ts
