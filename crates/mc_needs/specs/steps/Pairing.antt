-- A step of the proofs: it follows the code, and no public clause rests on it.
-- What condition k needs, and the lesser of two pairs.
use Rattle.std.specs.Prelude.{ℕ, ◌||◌, ◌&&◌, ◌==◌, nat_lt, if◌then◌else◌, Option, Some, None}
use Rattle.mc_cond.specs.Tree.{Tree}
use Rattle.report_options.specs.declared.mode.Mode.{Mode}
use Rattle.mc_needs.specs.declared.pairing.Pairing.{Pairing}
use Rattle.mc_needs.specs.declared.pairing.Pairing.TheVariants.{Beside, Both}
use Rattle.mc_needs.specs.Needs.{IsPairFor, IsLeastPair, NeedsOne, NeedsTwo}

abbrev pub earlier_of : ℕ × ℕ → ℕ × ℕ → ℕ × ℕ
earlier_of a b =
    if nat_lt b.0 a.0 || ((b.0 == a.0) && nat_lt b.1 a.1) then b else a

abbrev pub lesser_of : Option (ℕ × ℕ) → Option (ℕ × ℕ) → Option (ℕ × ℕ)
lesser_of None b = b
lesser_of (Some x) None = Some x
lesser_of (Some x) (Some y) = Some (earlier_of x y)

-- the least pair of which it holds, or none where it holds of none
abbrev pub IsLeastIfAny : (ℕ → ℕ → Type 0) → Option (ℕ × ℕ) → Type 0
IsLeastIfAny holds None = (p q : ℕ) → ¬ holds p q
IsLeastIfAny holds (Some pair) = IsLeastPair holds pair.0 pair.1

-- what condition k needs
abbrev pub IsPairing : Mode → Tree → ℕ → (ℕ → Type 0) → Pairing → Type 0
IsPairing mode t k known (Beside path partner) = NeedsOne mode t k known path partner
IsPairing mode t k known (Both first second) = NeedsTwo mode t k known first second

-- two known vectors are a pair for it
pub record HasPair (mode : Mode) (t : Tree) (k : ℕ) (known : ℕ → Type 0) : Type 0 where
  pub first : ℕ
  pub second : ℕ
  pub first_known : known first
  pub second_known : known second
  pub paired : IsPairFor mode t k first second
