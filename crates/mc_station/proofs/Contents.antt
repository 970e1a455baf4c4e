-- A file that is told has one content.
use Rattle.std.proofs.Common.{◌≡◌, ℕ, List, Some, length, refl, ap, arith}
use Rattle.mc_port.specs.Store.{Files, IsLonger}
use Rattle.station_replies.specs.Files.{File, Holds, limit_of}

module _ (files : Files) where
  pub same_bytes : (file : File) (a b : List ℕ) → Holds (Some files) file a → Holds (Some files) file b → a ≡ b
  same_bytes file a b p q = cc (p.0 files refl, q.0 files refl)

  pub not_both : (file : File) (bytes : List ℕ) → IsLonger (Some files) file.name (limit_of file.kind) → Holds (Some files) file bytes → ⊥
  not_both file bytes long holds =
      let (longer, is, more) = long files refl in
      let same : longer ≡ bytes = cc (is, holds.0 files refl) in
      omega (arith, more, holds.1, ap length same)
