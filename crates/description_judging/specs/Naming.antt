-- Which number refusal 12 names (request L2): what is claimed of a description that is judged.
use Rattle.std.specs.Prelude.{◌≡◌, ◌↔◌, true, ℕ, ◌<◌, T, length, get_or, Err}
use Rattle.refusals.specs.Ranges.{FirstOutside}
use Rattle.refusals.specs.declared.AttributeName.{AttributeName}
use Rattle.refusals.specs.declared.AttributeName.TheVariants.{Scaling, Minimum, Maximum, Mean, Deviation}
use Rattle.refusals.specs.declared.Quantity.{Quantity}
use Rattle.refusals.specs.declared.Quantity.TheVariants as quantity
use Rattle.refusals.specs.declared.Refusal.TheVariants.{OutOfRange}
use Rattle.channels.specs.Channel.{width_of}
use Rattle.channels.specs.Descriptors.{absent}
use Rattle.channels.specs.declared.Attribute.{Attribute}
use Rattle.channels.specs.declared.Descriptor.{Descriptor}
use Rattle.channels.specs.declared.Description.{Description}
use Rattle.channels.specs.declared.Format.{Format}
use Rattle.descriptions.specs.Description.{includes_xy}
use Rattle.description_judging.specs.Judging.{numbers, neat_in, judgement_of}

-- judge names this number: its promise, where the answer is 12
abbrev pub Names : Format → Description → Quantity → Type 0
Names format d name = Err (OutOfRange name) ≡ judgement_of format d

-- ---- The claims

-- behind 4 and 11, 12 names a number exactly where that is out of its range and every earlier one in stored order is in its own
abbrev pub NamesFirst : Type 0
NamesFirst =
    (format : Format) (d : Description) (name : Quantity) → Names format d name ↔ (T (includes_xy d) × (T (neat_in format d) × FirstOutside (numbers (width_of format) d) name))

-- the attribute of a name
abbrev pub attribute_of : AttributeName → Descriptor → Attribute
attribute_of Scaling d = d.scaling
attribute_of Minimum d = d.minimum
attribute_of Maximum d = d.maximum
attribute_of Mean d = d.mean
attribute_of Deviation d = d.deviation

-- a number is an attribute of one of the channels, and its flag is set
pub record GivenAttribute (d : Description) (name : Quantity) : Type 0 where
  pub channel : ℕ
  pub attribute : AttributeName
  pub is : name ≡ quantity.Attribute channel attribute
  pub there : channel < length d.channels
  pub given : (attribute_of attribute (get_or d.channels channel absent)).given ≡ true

-- a number without its flag is never named
abbrev pub NamesGiven : Type 0
NamesGiven = (format : Format) (d : Description) (name : Quantity) → Names format d name → GivenAttribute d name
