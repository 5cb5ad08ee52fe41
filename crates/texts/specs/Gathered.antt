-- A text that a program gathers in an array of 65536 bytes, and what it holds when bytes have joined it.
-- A text that is full starts again: code has written it out then, but what standard output received is promised nowhere, since no contract can say it.
use Rattle.std.specs.Prelude.{cond, List, [], ◌∷◌, ℕ, ◌+◌, eqb, ltb, set, replicate}

-- what the array holds, and how many of its bytes are gathered
pub record Gathered : Type 0 where
  pub bytes : List ℕ
  pub used : ℕ

abbrev pub gathered : (bytes : List ℕ) (used : ℕ) → Gathered
gathered bytes used = record { bytes = bytes; used = used }

-- a text in which nothing is gathered yet
abbrev pub empty : Gathered
empty = gathered (replicate 65536 0) 0

-- a text that is written out: its bytes stay as they are, and none of them is gathered any more
abbrev pub written_out : Gathered → Gathered
written_out t = gathered t.bytes 0

-- a byte joins the text: it stands behind what was gathered, and nothing is gathered any more where it was the array's last
unfoldable pub joins : Gathered → (byte : ℕ) → Gathered
joins t byte = gathered (set t.bytes t.used byte) (cond (eqb t.used 65535) 0 (t.used + 1))

-- bytes join it one by one
unfoldable pub joins_all : Gathered → List ℕ → Gathered
joins_all t [] = t
joins_all t (byte ∷ bytes) = joins_all (joins t byte) bytes

-- how many bytes are gathered when there is room for twenty more: none where there was not
unfoldable pub room_from : (used : ℕ) → ℕ
room_from used = cond (ltb 65515 used) 0 used

-- a text that has room for twenty more
abbrev pub with_room : Gathered → Gathered
with_room t = gathered t.bytes (room_from t.used)
