-- Each exported function has one answer: whatever meets its promise is the same.
use Rattle.std.specs.Prelude.{◌≡◌, Bool, ℕ, ℤ}
use Rattle.formats.specs.OneAnswer.{OneAnswer, named}
use Rattle.channels.specs.declared.Place.TheVariants.{Number}
use Rattle.doubles.specs.Reading.{reading, place_reading}
use Rattle.double_costs.specs.Handed.{handed_reading, scaling_from}

pub one-double : (raw : ℤ) (e f : ℕ) → OneAnswer (λ r. r ≡ handed_reading (reading raw e f))
one-double raw e f = named

pub one_place : (value : ℤ) (given : Bool) (number : ℤ) → OneAnswer (λ r. r ≡ handed_reading (place_reading (Number value) (scaling_from given number)))
one_place value given number = named
