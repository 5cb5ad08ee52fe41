-- Each public function has one answer: whatever meets its promise is the same.
use Rattle.std.specs.Prelude.{◌≡◌, Bool, ℕ, ◌≤◌, ℤ}
use Rattle.formats.specs.Binary.{bit, binary}
use Rattle.formats.specs.OneAnswer.{OneAnswer, named}
use Rattle.channels.specs.Bits.{moved}
use Rattle.channels.specs.Channel.{is_same, signs, signed_of, width_of}
use Rattle.channels.specs.Descriptors.{is_stored, included, stored}
use Rattle.channels.specs.Stored.{value_of, stored_if}
use Rattle.channels.specs.declared.Descriptor.{Descriptor}
use Rattle.channels.specs.declared.Description.{Description}
use Rattle.channels.specs.declared.Format.{Format}

pub one-sign : (channel : ℕ) → OneAnswer (λ r. r ≡ signed_of channel)
one-sign channel = named

pub one-signs : OneAnswer (λ r. r ≡ binary signs)
one-signs = named

pub one-lead : (bits : ℕ) → OneAnswer (λ r. r ≡ bit 16 bits)
one-lead bits = named

pub one-behind : (bits : ℕ) → OneAnswer (λ r. r ≡ moved 1 bits)
one-behind bits = named

pub one-holding : (d : Descriptor) → OneAnswer (λ r. r ≡ is_stored d)
one-holding d = named

pub one-included : (d : Description) → OneAnswer (λ r. r ≡ included d)
one-included d = named

pub one-stored-channels : (d : Description) → OneAnswer (λ r. r ≡ stored d)
one-stored-channels d = named

pub one_same : (format other : Format) → OneAnswer (λ r. r ≡ is_same format other)
one_same format other = named

pub one_value : (format : Format) (signed : Bool) (number : ℕ) → OneAnswer (λ r. r ≡ value_of (width_of format) signed number)
one_value format signed number = named

pub one-stored : (format : Format) (signed : Bool) (value : ℤ) → OneAnswer (λ r. r ≡ stored_if (width_of format) signed value)
one-stored format signed value = named

pub one_width : (format : Format) → OneAnswer (λ r. (r ≡ width_of format) × (r ≤ 2))
one_width format r q e g = named r q e.0 g.0
