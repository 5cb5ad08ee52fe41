-- How long a description can be: 178 bytes in a record, 114 in a template.
use Rattle.std.specs.Prelude.{Bool, cond, ℕ, ◌+◌, ◌*◌, ◌≤◌}
use Rattle.std.proofs.Math.Bool.{true, false}
use mathlib.Core.List.{List, [], ◌∷◌}
use native.Mathlib.Omega.{arith}
use Rattle.std.proofs.Math.ListN.{length, length-append}
use Rattle.formats.specs.Number.{digits, length_digits}
use Rattle.formats.specs.Writes.{encode_each}
use Rattle.channels.specs.Channel.{channels, signed_of}
use Rattle.channels.specs.Stored.{stored_of}
use Rattle.channels.specs.declared.Attribute.{Attribute}
use Rattle.channels.specs.declared.Descriptor.{Descriptor}
use Rattle.channels.specs.declared.Description.{Description}
use Rattle.descriptions.specs.Description.{encode_attribute, encode_descriptor, encode_channel, encode_description}

attribute-size : (w : ℕ) (signed : Bool) (a : Attribute) → length (encode_attribute w signed a) ≤ w
unfolding encode_attribute
attribute-size w signed a = go a.given
  where
    go : (t : Bool) → length (cond t (digits w (stored_of w signed a.number)) []) ≤ w
    go true = omega (arith, length_digits w (stored_of w signed a.number))
    go false = omega arith

module _ (w : ℕ) where
  descriptor-size : (i : ℕ) (d : Descriptor) → length (encode_descriptor w i d) ≤ 3 + 4 * w
  unfolding encode_descriptor
  descriptor-size i d =
      simp length-append
      (omega (
        arith,
        attribute-size 2 false d.scaling,
        attribute-size w (signed_of i) d.minimum,
        attribute-size w (signed_of i) d.maximum,
        attribute-size w (signed_of i) d.mean,
        attribute-size w false d.deviation,
      ))

  channel-size : (i : ℕ) (d : Descriptor) → length (encode_channel w i d) ≤ 3 + 4 * w
  unfolding encode_channel
  channel-size i d = go d.included
    where
      go : (t : Bool) → length (cond t (encode_descriptor w i d) []) ≤ 3 + 4 * w
      go true = descriptor-size i d
      go false = omega arith

  channels-size : (l : List ℕ) (ds : List Descriptor) → length (encode_each (encode_channel w) l ds) ≤ length l * (3 + 4 * w)
  unfolding encode_each
  channels-size [] ds = omega arith
  channels-size (i ∷ l) [] = omega arith
  channels-size (i ∷ l) (d ∷ ds) = simp length-append (omega (arith, channel-size i d, channels-size l ds))

  pub description-size : (d : Description) → length (encode_description w d) ≤ 2 + 16 * (3 + 4 * w)
  unfolding encode_description
  description-size d = simp (length-append, length_digits) (omega (arith, channels-size channels d.channels))
