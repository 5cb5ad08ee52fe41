-- What code lays down for a template: a number in its fewest bytes, a field as its head and its content, and the whole from the bytes of a description.
use Rattle.std.specs.Prelude.{Result, Ok, Err, ⊤}
use mathlib.Core.Path.{◌≡◌, refl}
use mathlib.Core.Bool.{Bool, true, false}
use mathlib.Core.List.{List, [], ◌∷◌, ◌++◌}
use Prim.Native.Nat.{ℕ, ◌+◌, ◌/◌, ◌%◌, ◌≤◌, ◌<◌}
use native.Mathlib.Omega.{arith}
use native.Mathlib.Nat.{zero-add}
use lib.ListN.{length, drop, length-append}
use Rattle.formats.specs.Laid.{Room, Laid, laid_more, room-first, room-rest}
use Rattle.formats.specs.Put.{puts, puts-is}
use Rattle.formats.specs.Number.{digits, length_digits}
use Rattle.formats.specs.Lent.{writing}
use Rattle.channels.specs.declared.Description.{Description}
use Rattle.channels.specs.declared.Format.TheVariants.{Compact}
use Rattle.descriptions.specs.Description.{encode_description}
use Rattle.refusals.specs.Stages.{or_else, stages}
use Rattle.refusals.specs.declared.Refusal.{Refusal}
use Rattle.description_judging.specs.Judging as judging
use Rattle.templates.specs.Template.{field, fewest, shortest, encode_described, encode_limited, encode}
use Rattle.templates.specs.EncodedLaws.{one_byte, two_bytes, three-bytes}
use Rattle.template_writing.specs.Writing.{description_stage, maximum_stage, put_where, judgement_of, write_of, described_bytes, template_bytes, write_fields}

-- ---- A number

pub length-shortest : (n : ℕ) → length (shortest n) ≡ fewest n
unfolding shortest
length-shortest n = length_digits (fewest n) n

module _ (n : ℕ) where
  pub shortest-one : n < 256 → shortest n ≡ n % 256 ∷ []
  unfolding shortest digits
  shortest-one h = rw (one_byte n h)

  pub shortest-two : 256 ≤ n → n < 65536 → shortest n ≡ n / 256 % 256 ∷ n % 256 ∷ []
  unfolding shortest digits
  shortest-two h q = rw (two_bytes n h q)

  pub shortest-three : 65536 ≤ n → shortest n ≡ n / 65536 % 256 ∷ n / 256 % 256 ∷ n % 256 ∷ []
  unfolding shortest digits
  shortest-three h = let e : n / 256 / 256 ≡ n / 65536 = omega arith in rw (three-bytes n h, e)

  -- the room for it
  pub room-bytes : {s : List ℕ} {at k : ℕ} → fewest n ≡ k → Room s at (shortest n) → at + k ≤ length s
  room-bytes e r = omega (arith, r.enough, length-shortest n)

-- ---- A field

-- its tag and its length, and behind them its content
module _ {s : List ℕ} {at : ℕ} (tag : ℕ) (content : List ℕ) {size : ℕ} (e : size ≡ length content) where
  pub head-room : Room s at (field tag content) → Room s at (tag ∷ size ∷ [])
  head-room r = rw e (room-first (tag ∷ length content ∷ []) content r)

  module _ {t : List ℕ} {m : ℕ} (l : Laid s at (tag ∷ size ∷ []) t m) where
    pub content-room : Room s at (field tag content) → Room t m content
    content-room r = room-rest (rw e at l) r

    pub field-laid : {u : List ℕ} {n : ℕ} → Laid t m content u n → Laid s at (field tag content) u n
    field-laid k = laid_more (rw e at l) k

-- one that is wanted, and one that isn't
module _ (described : Bool) (b : List ℕ) where
  pub described-none : described ≡ false → described_bytes described b ≡ []
  unfolding described_bytes
  described-none e = rw e

  pub described-field : described ≡ true → described_bytes described b ≡ field 0x81 b
  unfolding described_bytes
  described-field e = rw e

module _ (limited : Bool) (n : ℕ) where
  pub limited-none : limited ≡ false → encode_limited limited n ≡ []
  unfolding encode_limited
  limited-none e = rw e

  pub limited-field : limited ≡ true → encode_limited limited n ≡ field 0x82 (shortest n)
  unfolding encode_limited
  limited-field e = rw e

-- ---- The whole

pub template-length : (described : Bool) (b : List ℕ) (limited : Bool) (n : ℕ)
    → length (template_bytes described b limited n) ≡ 2 + (length (described_bytes described b) + length (encode_limited limited n))
unfolding template_bytes
template-length described b limited n = omega (arith, length-append (described_bytes described b) (encode_limited limited n))

-- bytes that were put at the start come first
pub put_first : (s b : List ℕ) → length b ≤ length s → puts s 0 b ≡ b ++ drop (length b) s
put_first s b h = rw zero-add at (puts-is s 0 b (omega arith))

-- ---- How the description was put aside, and what is written then

module _ (described : Bool) (d : Description) (limited : Bool) (n : ℕ) (out : List ℕ) where
  last-stage : (j : Result ⊤ Refusal) → stages ((Ok tt) ∷ j ∷ []) ≡ j
  unfolding stages or_else
  last-stage (Ok _) = refl
  last-stage (Err refusal) = refl

  pub unwanted-written : described ≡ false → (b : List ℕ) → write_fields false b limited n out ≡ write_of described d limited n out
  unfolding write_fields template_bytes described_bytes write_of judgement_of description_stage encode encode_described
  unwanted-written e b = rw (e, last-stage (maximum_stage limited n))

  module _ (e : described ≡ true) where
    pub passed-written : (b : List ℕ) → b ≡ encode_description 1 d → judging.judgement_of Compact d ≡ Ok tt → write_fields true b limited n out ≡ write_of described d limited n out
    unfolding write_fields template_bytes described_bytes write_of judgement_of description_stage encode encode_described
    passed-written b q f = rw (e, q, f, last-stage (maximum_stage limited n))

    pub refused-written : {refusal : Refusal} → judging.judgement_of Compact d ≡ Err refusal → writing (Err refusal) out ≡ write_of described d limited n out
    unfolding write_of judgement_of description_stage stages or_else put_where
    refused-written f = rw (e, f)
