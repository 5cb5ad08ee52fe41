-- A part of a slice that was lent: its bytes, and where it lies.
use Rattle.std.specs.Prelude.{◌≡◌, List, ℕ, ◌+◌, take, drop}
use Rattle.std.proofs.Common.{sym, ◌∙◌}
use Rattle.std.specs.Borrow.{Bor}

-- r is the part of s that starts at a place and has some size: its bytes, the block of memory that it lies in, and where it lies there
pub record Part (s r : Bor (List ℕ)) (place size : ℕ) : Type 0 where
  pub bytes : r.now ≡ take size (drop place s.now)
  pub block : r.ref_ptr.0 ≡ s.ref_ptr.0
  pub offset : r.ref_ptr.1 ≡ place + s.ref_ptr.1

-- two parts with one place and one size are the same bytes in the same memory
pub record SamePart (r q : Bor (List ℕ)) : Type 0 where
  pub bytes : r.now ≡ q.now
  pub block : r.ref_ptr.0 ≡ q.ref_ptr.0
  pub offset : r.ref_ptr.1 ≡ q.ref_ptr.1

pub one-part : (s r q : Bor (List ℕ)) (place size : ℕ) → Part s r place size → Part s q place size → SamePart r q
one-part s r q place size x y = record { bytes = x.bytes ∙ sym y.bytes; block = x.block ∙ sym y.block; offset = x.offset ∙ sym y.offset }
