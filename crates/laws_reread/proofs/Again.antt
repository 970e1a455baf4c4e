-- A printed text, read again, is the tree that was printed.
use Rattle.std.proofs.Common.{◌≡◌, ◌≤◌, ◌<◌, ◌+◌, ◌^◌, ℕ, List, length, Result, Ok, Err, MatchResult, refl, sym, ap, subst, ◌∙◌, arith}
use Rattle.std.proofs.lemmas.List.Elements.{recursion_from_All, All-from_recursion}
use Rattle.std.specs.List.{AllByRecursion as Each}
use Rattle.mc_lex.specs.declared.token.Dialect.TheVariants.{Plain}
use Rattle.mc_lex.specs.Tokens.{Tok}
use Rattle.mc_tree.specs.Tree.{Item}
use Rattle.reread_pieces.specs.Plain.{plain_of}
use Rattle.reread_probes.specs.Probes.{probes}
use Rattle.mc_typed.specs.Tree.{Program}
use Rattle.mc_probe.specs.declared.tree.Instrumented.{Instrumented}
use Rattle.mc_probe.specs.Tree.{Tree}
use Rattle.mc_probe.specs.Trees.{tree_of}
use Rattle.mc_probe.specs.Maps.{Map}
use Rattle.mc_probe.specs.Table.{instrumented}
use Rattle.reread_law_texts.specs.alike.Moves.{end_of, moved_tokens}
use Rattle.reread_law_texts.specs.alike.Trees.{moved_unit}
use Rattle.reread_law_texts.specs.brackets.Signs.{poured}
use Rattle.mc_print.specs.Pens.{spaced}
use Rattle.mc_print.specs.Texts.{text_of}
use Rattle.reread_law_printed.specs.spelled.Laws.{PrintedTextScans}
use Rattle.reread_law_probes.specs.short.Laws.{InstrumentedNumbersAreShort}
use Rattle.reread_law_rows.specs.inserted.Rows.{rows_of}
use Rattle.reread_law_rows.specs.inserted.Signs.{signs_of}
use Rattle.reread_law_rows.specs.inserted.Seats.{probe_rows, AreThere}
use Rattle.reread_law_printed.specs.parts.Parts.{Part, parts_of}
use Rattle.reread_law_printed.specs.parts.Marks.{marks, own_tokens}
use Rattle.reread_law_printed.specs.parts.Shaped.{tokens_at}
use Rattle.reread_law_printed.specs.parts.Laws.{EndInTime, ProbesAreThere, PlainIsPoured}
use Rattle.reread_program.specs.declared.fault.RereadFault.{RereadFault}
use Rattle.reread_program.specs.declared.fault.RereadFault.TheVariants as fault
use Rattle.reread_program.specs.Reading.{Reads, ReadsPieces}
use Rattle.reread_program.specs.Returned.{Gives}
use Rattle.reread_program.specs.Laws.{ReadsAsOne}
use Rattle.laws_reread.specs.Laws.{PiecesAreRead, PrintedPartsArePieces, IsAsPrinted, PrintedTextsAreReadAgain, IsReadOnlySo, PrintedTextsAreReadOnlySo, CallsGiveWhatWasPrinted}
use Rattle.laws_reread.proofs.Own.{no_more_than_bytes}
use Rattle.laws_reread.proofs.Printed.{Source, Places, Printed, There, printed, there, weaker}

-- the laws of texts and of pieces that this takes
pub record Pieces : Type 0 where
  pub numbers : InstrumentedNumbersAreShort
  pub scans : PrintedTextScans
  pub pieces : PrintedPartsArePieces
  pub probes : ProbesAreThere
  pub plain : PlainIsPoured
  pub read : PiecesAreRead

short_enough : (n : ℕ) → n < 2 ^ 31 → n ≤ 4294967295
short_enough n lt = omega (arith, lt)

fewer : (count limit most : ℕ) → 0 + count ≤ limit → limit < most → count < most
fewer count limit most le lt = omega (arith, le, lt)

no_bytes : (n : ℕ) → 0 ≤ n
no_bytes n = omega arith

module _ (k : Places) (t : Pieces) (source : List ℕ) (ts : List Tok) (unit : List Item) (p : Program) (m : Map) (h : Source source ts unit p m)
    (short : length (spaced (text_of ts (instrumented m p))) < 2 ^ 31) where
  abbrev size : ℕ
  size = length (spaced (text_of ts (instrumented m p)))

  module _ (q : Printed ts (instrumented m p)) (r : There ts p m q.move unit) where
    abbrev others : List Tok
    others = moved_tokens q.move ts

    within : Each (λ (x : Tok). end_of x ≤ size) others
    within = recursion_from_All (λ (x : Tok). end_of x ≤ size) others q.ends

    short_tokens : EndInTime others
    short_tokens = All-from_recursion (λ (x : Tok). end_of x ≤ 4294967295) others (weaker size 4294967295 others (short_enough size short) within)

    few : length others < 2 ^ 31
    few = fewer (length others) size (2 ^ 31) (no_more_than_bytes size 0 others (no_bytes size) q.follows within) short

    -- the parts there are those of the source's text
    own : own_tokens (marks ts (parts_of others (instrumented r.map r.program))) ≡ others
    own = ap (λ (parts : List Part). own_tokens (marks ts parts)) r.parts ∙ q.own

    probes_there : AreThere (probe_rows (rows_of (instrumented r.map r.program))) (probes (marks ts (parts_of ts (instrumented m p))))
    probes_there =
        subst (λ (parts : List Part). AreThere (probe_rows (rows_of (instrumented r.map r.program))) (probes (marks ts parts))) r.parts
        (t.probes ts others (instrumented r.map r.program) r.stand short_tokens own)

    plain_there : plain_of (marks ts (parts_of ts (instrumented m p))) ≡ poured (signs_of (rows_of (instrumented r.map r.program))) others
    plain_there =
        ap (λ (parts : List Part). plain_of (marks ts parts)) (sym r.parts)
        ∙ t.plain ts others (instrumented r.map r.program) r.stand short_tokens own

    pieces_read : ReadsPieces (marks ts (parts_of ts (instrumented m p))) (Ok (instrumented r.map r.program))
    pieces_read =
        t.read Plain others (moved_unit q.move unit) r.program r.map (marks ts (parts_of ts (instrumented m p)))
        q.follows few r.syntax r.low r.inside r.typing r.is_map probes_there plain_there

pub read_again : Places → Pieces → PrintedTextsAreReadAgain
read_again k t source ts unit p m scans syntax inside typing map short =
    let h : Source source ts unit p m = record { scans = scans; syntax = syntax; inside = inside; typing = typing; map = map } in
    let q = printed k source ts (instrumented m p) scans (k.source source ts unit p m scans syntax.0 inside typing.1) in
    let r = there k source ts unit p m h q.move q.fits q.follows in
    let text = t.scans source ts (instrumented m p) scans (t.numbers p m map) in
    let pieces = t.pieces source ts unit p m scans syntax.0 inside typing.1 map in
    (instrumented r.map r.program, (tokens_at ts 0 (text_of ts (instrumented m p)), text, (marks ts (parts_of ts (instrumented m p)), pieces, pieces_read k t source ts unit p m h short q r)), r.same)

-- ---- nothing else

only : (text : List ℕ) (p : Program) (m : Map) (tree : Tree) → ReadsAsOne → Reads text (Ok tree) → IsAsPrinted p m tree
    → (answer : Result Tree RereadFault) → Reads text answer → MatchResult answer (IsAsPrinted p m) (λ f. ⊥)
only text p m tree one read same (Ok other) h = subst (IsAsPrinted p m) (one text (Ok tree) (Ok other) read h) same
only text p m tree one read same (Err f) h = one text (Ok tree) (Err f) read h

pub read_only_so : ReadsAsOne → PrintedTextsAreReadAgain → PrintedTextsAreReadOnlySo
read_only_so one again source ts unit p m scans syntax inside typing map short answer h =
    let a = again source ts unit p m scans syntax inside typing map short in
    only (spaced (text_of ts (instrumented m p))) p m a.0 one a.1 a.2 answer h

given : (text : List ℕ) (p : Program) (m : Map) → IsReadOnlySo text p m
    → (result : Result Instrumented RereadFault) → Gives tree_of (Reads text) result → MatchResult result (λ i. IsAsPrinted p m (tree_of i)) (λ f. f ≡ fault.OutOfMemory)
given text p m k (Ok i) h = k (Ok (tree_of i)) h
given text p m k (Err fault.OutOfMemory) h = refl
given text p m k (Err (fault.Lex e)) h = absurd (k (Err (fault.Lex e)) h)
given text p m k (Err (fault.Parse e)) h = absurd (k (Err (fault.Parse e)) h)
given text p m k (Err (fault.Outside e)) h = absurd (k (Err (fault.Outside e)) h)
given text p m k (Err (fault.Typing e)) h = absurd (k (Err (fault.Typing e)) h)
given text p m k (Err (fault.Probe at)) h = absurd (k (Err (fault.Probe at)) h)

pub calls_give : PrintedTextsAreReadOnlySo → CallsGiveWhatWasPrinted
calls_give only text result short h source ts unit p m scans syntax inside typing map same =
    let printed : List ℕ = spaced (text_of ts (instrumented m p)) in
    given printed p m (only source ts unit p m scans syntax inside typing map (subst (λ (bytes : List ℕ). length bytes < 2 ^ 31) same short))
    result (subst (λ (bytes : List ℕ). Gives tree_of (Reads bytes) result) same h)
