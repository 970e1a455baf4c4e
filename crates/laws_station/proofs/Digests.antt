-- A digest is 32 bytes.
use Rattle.std.proofs.Common.{◌<◌, ◌/◌, ◌^◌, ℕ, zero, suc, All, List, arith}
use Rattle.std.specs.Prelude.{slice_index}
use Rattle.std.specs.Int.{byte_at, bytes_high_first, to_be_bytes, w32}
use Rattle.std.proofs.Math.Nat.{mod-lt}
use Rattle.std.proofs.lemmas.List.Elements.{All-append, All-cons, All-nil}
use Rattle.sha2.specs.Sha256.{digest_bytes, final_hash, initial_hash_256, sha256}
use Rattle.sha2.proofs.Facts256.{length-sha256}
use Rattle.mc_record.specs.Laws.{IsDigest}

abbrev IsByte : ℕ → Type 0
IsByte b = b < 256

at_byte : (k n : ℕ) → byte_at k n < 256
at_byte zero n = mod-lt n (omega arith)
at_byte (suc k) n = mod-lt (n / 256 ^ suc k) (omega arith)

high_first : (k n : ℕ) → All IsByte (bytes_high_first k n)
high_first zero n = All-nil IsByte
high_first (suc k) n = All-cons IsByte (byte_at k n) (bytes_high_first k n) (at_byte k n) (high_first k n)

of_words : (h : List ℕ) (n : ℕ) → All IsByte (digest_bytes h n)
unfolding digest_bytes
of_words h zero = All-nil IsByte
of_words h (suc n) = All-append IsByte (digest_bytes h n) (to_be_bytes w32 (slice_index h n)) (of_words h n) (high_first 4 (slice_index h n))

bytes_of : (source : List ℕ) → All IsByte (sha256 source)
unfolding sha256
bytes_of source = of_words (final_hash initial_hash_256 source) 8

pub digest : (source : List ℕ) → IsDigest (sha256 source)
digest source = record { whole = length-sha256 source; bytes = bytes_of source }
