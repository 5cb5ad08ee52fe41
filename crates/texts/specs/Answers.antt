-- Each public function leaves one text: whatever meets its promise holds the same and has as many bytes gathered.
use Rattle.std.specs.Prelude.{◌≡◌, List, ℕ, ℤ}
use Rattle.formats.specs.OneAnswer.{OneAnswer, named}
use Rattle.texts.specs.Gathered.{Gathered, empty, written_out, joins, joins_all}
use Rattle.texts.specs.Digits.{joins_number, joins_field, joins_long, hex_word}

pub one_empty : OneAnswer (λ r. r ≡ empty)
one_empty = named

module _ (t : Gathered) where
  pub one_written : OneAnswer (λ r. r ≡ written_out t)
  one_written = named

  pub one_byte : (byte : ℕ) → OneAnswer (λ r. r ≡ joins t byte)
  one_byte byte = named

  pub one-bytes : (bytes : List ℕ) → OneAnswer (λ r. r ≡ joins_all t bytes)
  one-bytes bytes = named

  pub one_number : (number : ℕ) → OneAnswer (λ r. r ≡ joins_number t number)
  one_number number = named

  pub one_field : (number : ℕ) → OneAnswer (λ r. r ≡ joins_field t number)
  one_field number = named

  pub one-long : (value : ℤ) → OneAnswer (λ r. r ≡ joins_long t value)
  one-long value = named

  pub one-hex : (bytes : List ℕ) → OneAnswer (λ r. r ≡ joins_all t (hex_word bytes))
  one-hex bytes = named
