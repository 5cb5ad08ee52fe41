-- Whether a channel description can be written; and which of its numbers is the first out of its range.
use Rattle.std.specs.Prelude.{Bool, false, ◌&&◌, List, [], ◌∷◌, ◌++◌, ℕ, suc, Result, None, ⊤}
use Rattle.refusals.specs.Stages.{require, stages}
use Rattle.refusals.specs.Ranges.{Ranged, ◌fits_if◌, first_misfit}
use Rattle.refusals.specs.declared.AttributeName.TheVariants.{Scaling, Minimum, Maximum, Mean, Deviation}
use Rattle.refusals.specs.declared.Quantity.TheVariants.{Attribute}
use Rattle.refusals.specs.declared.Refusal.TheVariants.{XOrY, Untidy}
use Rattle.channels.specs.Channel.{is_same, signed_of, width_of}
use Rattle.channels.specs.declared.Descriptor.{Descriptor}
use Rattle.channels.specs.declared.Description.{Description}
use Rattle.channels.specs.declared.Format.{Format}
use Rattle.descriptions.specs.Description.{includes_xy, neat, fits_attribute}
use Rattle.refusals.specs.declared.Refusal.{Refusal}

-- ---- Its numbers, in the order in which they are stored

-- those of a channel: scaling has two bytes in either format, and neither it nor the deviation has a sign; a number that is not given is out of no range
unfoldable pub numbers_of : (w channel : ℕ) → Descriptor → List Ranged
numbers_of w channel d =
    (Attribute channel Scaling fits_if fits_attribute 2 false d.scaling)
    ∷ (Attribute channel Minimum fits_if fits_attribute w (signed_of channel) d.minimum)
    ∷ (Attribute channel Maximum fits_if fits_attribute w (signed_of channel) d.maximum)
    ∷ (Attribute channel Mean fits_if fits_attribute w (signed_of channel) d.mean)
    ∷ (Attribute channel Deviation fits_if fits_attribute w false d.deviation)
    ∷ []

-- channel after channel, from channel i on
unfoldable pub numbers_from : (w i : ℕ) → List Descriptor → List Ranged
numbers_from w i [] = []
numbers_from w i (d ∷ ds) = numbers_of w i d ++ numbers_from w (suc i) ds

unfoldable pub numbers : (w : ℕ) → Description → List Ranged
numbers w d = numbers_from w 0 d.channels

-- ---- The stages

-- it has the mark of the format, and is tidy as document 01 has it; a number that does not fit the mark is refused behind this, by its name
unfoldable pub neat_in : Format → Description → Bool
neat_in format d = is_same d.mark format && neat d

-- stage by stage: the whole description is judged by one before the next
unfoldable pub judgement_of : Format → Description → Result ⊤ Refusal
judgement_of format d = stages (require (includes_xy d) (XOrY None) ∷ require (neat_in format d) Untidy ∷ first_misfit (numbers (width_of format) d) ∷ [])
