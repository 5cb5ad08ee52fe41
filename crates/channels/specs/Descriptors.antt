-- What descriptors say: that a channel is stored, or nothing of it.
use Rattle.std.specs.Prelude.{Bool, false, not, ◌&&◌, List, map, pos}
use Rattle.channels.specs.declared.Attribute.{Attribute}
use Rattle.channels.specs.declared.Descriptor.{Descriptor}
use Rattle.channels.specs.declared.Description.{Description}

-- an attribute that is not given, and a channel that is not included
abbrev pub no_attribute : Attribute
no_attribute = record { given = false; number = pos 0 }

abbrev pub absent : Descriptor
absent = record {
  included = false;
  scaling = no_attribute;
  minimum = no_attribute;
  maximum = no_attribute;
  mean = no_attribute;
  deviation = no_attribute;
  constant = false;
  detrended = false;
}

-- a sample point holds a number of a channel that is included and not constant (7.3.4.2)
abbrev pub is_stored : Descriptor → Bool
is_stored d = d.included && not d.constant

-- of each channel whether it is included, and whether it is stored, that is whether a sample point holds a number of it (7.4.2, 8.4)
abbrev pub included : Description → List Bool
included d = map (λ c. c.included) d.channels

abbrev pub stored : Description → List Bool
stored d = map is_stored d.channels
