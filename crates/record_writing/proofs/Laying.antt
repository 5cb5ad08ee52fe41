-- The parts of a record that stand before and behind the points, as they are laid; and the refusal of a description.
use Rattle.std.specs.Prelude.{Err}
use mathlib.Core.Path.{◌≡◌, refl, ◌∙◌}
use mathlib.Core.Bool.{Bool, true, false, cond}
use mathlib.Core.List.{List, [], ◌∷◌, ◌++◌}
use mathlib.Core.Option.{some, none}
use Prim.Native.Nat.{ℕ, ◌+◌, ◌/◌, ◌%◌, ◌<◌}
use native.Mathlib.Omega.{arith}
use lib.IntN.{ℤ}
use lib.ListN.{length, set, length-append}
use Rattle.formats.specs.Number.{digits, length_digits}
use Rattle.formats.specs.Put.{puts}
use Rattle.formats.specs.Laid.{Room, Laid}
use Rattle.formats.specs.Lent.{writing}
use Rattle.channels.specs.declared.Description.{Description}
use Rattle.channels.specs.declared.Format.TheVariants.{Full}
use Rattle.refusals.specs.Stages.{or_else}
use Rattle.refusals.specs.declared.Refusal.{Refusal}
use Rattle.description_judging.specs.Judging as described
use Rattle.orders.specs.declared.Order.{Order}
use Rattle.records.specs.Record.{encode_extended}
use Rattle.record_writing.specs.Write.{judgement_in, put_where, write_in}
use Rattle.record_writing.specs.Parts.{opening_bytes}

-- ---- What stands before the points

pub opening-list : (wanted : Bool) (count : ℕ) → count < 16777216
    → opening_bytes wanted count ≡ 0x00 ∷ cond wanted 0x80 0x00 ∷ count / 65536 ∷ count / 256 % 256 ∷ count % 256 ∷ []
unfolding opening_bytes digits
opening-list wanted count h = let z : count / 256 / 256 % 256 ≡ count / 65536 = omega arith in rw z

-- five bytes, one behind the other
pub laid-five : (s : List ℕ) (at a b c d e : ℕ)
    → Laid s at (a ∷ b ∷ c ∷ d ∷ e ∷ []) (set (set (set (set (set s at a) (at + 1) b) (at + 2) c) (at + 3) d) (at + 4) e) (at + 5)
unfolding puts
laid-five s at a b c d e =
    let z : at + 1 + 1 ≡ at + 2 = omega arith in
    let y : at + 2 + 1 ≡ at + 3 = omega arith in
    let x : at + 3 + 1 ≡ at + 4 = omega arith in
    record { place = refl; bytes = rw (z, y, x) }

-- a record whose description is refused is refused so, and nothing is put
pub refused-written : (order : Order) (d : Description) (count : ℕ) (values : List ℤ) (wanted : Bool) (extended out : List ℕ) {refusal : Refusal} → described.judgement_of Full d ≡ Err refusal
    → writing (Err refusal) out ≡ write_in order d count values wanted extended out
unfolding write_in judgement_in or_else put_where
refused-written order d count values wanted extended out e = rw e

-- ---- Extended data that are wanted

module _ {s : List ℕ} {at : ℕ} (e : List ℕ) (wanted : Bool) (yes : wanted ≡ true) where
  pub wanted_room : Room s at (encode_extended (cond wanted (some e) none)) → Room s at (digits 2 (length e) ++ e)
  unfolding encode_extended
  wanted_room r = rw yes at r

  pub wanted-laid : {t : List ℕ} {n : ℕ} → Laid s at (digits 2 (length e) ++ e) t n → Laid s at (encode_extended (cond wanted (some e) none)) t n
  unfolding encode_extended
  wanted-laid l = rw yes l

pub extended-length : (e : List ℕ) (wanted : Bool) → wanted ≡ true → length (encode_extended (cond wanted (some e) none)) ≡ length e + 2
unfolding encode_extended
extended-length e wanted q = rw q (length-append (digits 2 (length e)) e ∙ omega (arith, length_digits 2 (length e)))

pub no-extended-length : (e : List ℕ) (wanted : Bool) → wanted ≡ false → length (encode_extended (cond wanted (some e) none)) ≡ 0
unfolding encode_extended
no-extended-length e wanted q = rw q
