-- The pieces of a printed text are its parts.
use Rattle.std.proofs.Common.{ℕ, List, [], None, refl}
use Rattle.mc_lex.specs.declared.token.Dialect.TheVariants.{Plain}
use Rattle.mc_lex.specs.Tokens.{Tok}
use Rattle.mc_lex.specs.Scans.{Scans}
use Rattle.mc_probe.specs.Tree.{Tree}
use Rattle.mc_probe.specs.Table.{instrumented}
use Rattle.reread_law_probes.specs.short.Laws.{InstrumentedNumbersAreShort}
use Rattle.reread_law_rows.specs.fitting.Laws.{ScannedTokensMeanTheirKinds}
use Rattle.reread_law_rows.specs.inserted.Rows.{rows_of}
use Rattle.reread_law_printed.specs.parts.Closed.{AreBalanced}
use Rattle.reread_law_printed.specs.parts.Laws.{Stands, PiecesOfParts}
use Rattle.reread_law_printed.specs.placed.Heads.{HaveHeads}
use Rattle.reread_law_printed.specs.placed.Separate.{AreSeparate}
use Rattle.reread_law_printed.specs.placed.Laws.{AreInPlace, KindsStay, SourcesHaveOwnWords, FunctionsHaveEntries, PartsArePlaced, PartsComeAfter, PartsAreFollowed, PartsAreInside, ValuesAreTyped}
use Rattle.laws_reread.specs.Headed.{SourcesHaveNumerals, SourcesKeepKinds, TextsAreBalanced, TextsHaveHeads}
use Rattle.laws_reread.specs.Separate.{RowsAreSeparate}
use Rattle.laws_reread.specs.Among.{SourcesStand}
use Rattle.laws_reread.specs.Laws.{PrintedPartsArePieces}

-- the laws of parts that this takes
pub record Parts : Type 0 where
  pub means : ScannedTokensMeanTheirKinds
  pub stand : SourcesStand
  pub words : SourcesHaveOwnWords
  pub entries : FunctionsHaveEntries
  pub numbers : InstrumentedNumbersAreShort
  pub numerals : SourcesHaveNumerals
  pub kinds : SourcesKeepKinds
  pub balanced : TextsAreBalanced
  pub heads : TextsHaveHeads
  pub separate : RowsAreSeparate
  pub after : PartsComeAfter
  pub followed : PartsAreFollowed
  pub inside : PartsAreInside
  pub typed : ValuesAreTyped
  pub placed : PartsArePlaced
  pub pieces : PiecesOfParts

module _ (k : Parts) (source : List ℕ) (ts : List Tok) (scans : Scans Plain [] source ts None) where
  in_place : (tree : Tree) → (h : Stands ts tree) → AreBalanced tree.program.functions ts h.functions → HaveHeads tree.program.functions ts h.functions
      → AreSeparate ts (rows_of tree) → AreInPlace ts ts tree
  in_place tree h balanced heads separate =
      let kinds : KindsStay ts ts = k.kinds source ts ts scans refl in
      record {
        after = k.after ts ts tree h kinds separate;
        followed = k.followed source ts ts tree scans (k.words source ts scans) h balanced kinds separate;
        inside = k.inside ts ts tree h balanced heads separate;
        typed = k.typed ts ts tree h balanced heads;
      }

pub parts_are_pieces : Parts → PrintedPartsArePieces
parts_are_pieces k source ts unit p m scans tree inside typing map =
    let h : Stands ts (instrumented m p) = k.stand source ts unit p m scans tree inside typing in
    let mean = k.means Plain source ts None scans in
    let balanced = k.balanced Plain ts unit p m mean tree inside typing h in
    let heads = k.heads Plain ts unit p m mean tree inside typing h in
    let separate = k.separate Plain ts unit p m h.follow tree inside typing in
    k.pieces ts ts (instrumented m p) h balanced (k.numerals source ts scans)
    (k.placed ts ts (instrumented m p) (k.words source ts scans) h (k.numbers p m map) (k.entries m p) (in_place k source ts scans (instrumented m p) h balanced heads separate))
