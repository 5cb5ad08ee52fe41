-- What is handed over to C, by what is read: 0 and the double, 1 for an absent place, else the refusal's number.
use Rattle.std.specs.Prelude.{Bool, ℤ, Float}
use Rattle.std.specs.Float.{binary64}
use Rattle.std.specs.Float.Ieee.{of_bits}
use Rattle.refusals.specs.Table.{number_of}
use Rattle.channels.specs.declared.Attribute.{Attribute}
use Rattle.calibration.specs.Reading.{value, absent, refused}
use Rattle.doubles.specs.Reading.{Answer}
use Rattle.double_costs.specs.declared.Read.{Read}

abbrev none : Float
none = of_bits binary64 0

abbrev pub handed_reading : Answer → Read
handed_reading (value x) = record { number = 0; double = x }
handed_reading absent = record { number = 1; double = none }
handed_reading (refused refusal) = record { number = number_of refusal; double = none }

-- a scaling value, as it is handed in
abbrev pub scaling_from : (given : Bool) (number : ℤ) → Attribute
scaling_from given number = record { given = given; number = number }
