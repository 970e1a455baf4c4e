-- What the pen of the code and its sink hold of what a pen wrote.
use Rattle.std.specs.Prelude.{◌≡◌, ◌≤◌, ℕ, List, [], ◌∷◌, ◌++◌, Option, Some, None, Result, Ok, Err}
use Rattle.mc_lex.specs.Tokens.{toks_of}
use Rattle.mc_port.specs.Sink.{Puts}
use Rattle.mc_port.specs.declared.sink.PutFault.{PutFault}
use Rattle.mc_print.specs.Pens.{Pen, gap_after}
use Rattle.mc_print.specs.declared.pen.Pen.{Pen as CodePen}
use Rattle.mc_print.specs.declared.gap.Gap.{Gap}
use Rattle.mc_print.specs.declared.gap.Gap.TheVariants as gap

-- the tokens, each but the last one with what stands after it
abbrev pub unfinished : List (List ℕ) → List ℕ
unfinished [] = []
unfinished (t ∷ []) = t
unfinished (t ∷ u ∷ ts) = t ++ (gap_after t ++ unfinished (u ∷ ts))

-- what stands after the last one
abbrev pub pending : List (List ℕ) → List ℕ
pending [] = []
pending (t ∷ []) = gap_after t
pending (t ∷ u ∷ ts) = pending (u ∷ ts)

abbrev pub gap_bytes : Gap → List ℕ
gap_bytes gap.Nothing = []
gap_bytes gap.Blank = 32 ∷ []
gap_bytes gap.Line = 10 ∷ []

-- what stands after the last token of all, by what stands after it among others
abbrev pub ending : List ℕ → List ℕ
ending [] = []
ending (b ∷ bs) = 10 ∷ []

abbrev pub outcome : Option PutFault → Result Unit PutFault
outcome None = Ok tt
outcome (Some e) = Err e

-- a piece more, unless there was a fault before
abbrev pub PutsMore : Option PutFault → Option (List ℕ) → Option (List ℕ) → ℕ → ℕ → List ℕ
    → Option PutFault → Type 0
PutsMore None old new before now piece fault = Puts old new before now piece (outcome fault)
PutsMore (Some e) old new before now piece fault =
    (new ≡ old) × (now ≡ before) × (fault ≡ Some e)

-- the sink had `start` and so many faults at first, and then the pen wrote
pub record Holds (start : Option (List ℕ)) (first : ℕ) (pen : Pen) (known : Option (List ℕ))
    (count : ℕ) (now : CodePen) : Type 0 where
  pub left : pen.left ≡ toks_of now.left.now
  pub specifiers : pen.specifiers ≡ toks_of now.specifiers.now
  pub gap : gap_bytes now.gap ≡ pending pen.written
  pub later : first ≤ count
  pub bytes : Puts start known first count (unfinished pen.written) (outcome now.fault)

-- from what was held before to what is held then, whatever the pen wrote before
abbrev pub Writes : (Pen → Pen) → Option (List ℕ) → ℕ → CodePen → Option (List ℕ) → ℕ → CodePen
    → Type 0
Writes act old before from new now to =
    (start : Option (List ℕ)) (first : ℕ) (pen : Pen) → Holds start first pen old before from
    → Holds start first (act pen) new now to
