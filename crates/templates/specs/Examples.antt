-- The templates of the scope that are none of its examples (those stand in the crate `examples`), that of annex C.2.1, and each refusal: some bytes, and what reading them answers.
use Rattle.std.specs.Prelude.{◌≡◌, refl, true, false, List, [], ◌∷◌, ◌++◌, map, ℕ, pos, replicate, Result, Ok, Err, Some, ⊤}
use Rattle.formats.specs.Reader as reader
use Rattle.formats.specs.Reader.{next, run, bind, each, one}
use Rattle.formats.specs.Number.{number}
use Rattle.channels.specs.Channel.{signed_of}
use Rattle.channels.specs.Stored.{offset, value_of}
use Rattle.channels.specs.declared.Descriptor.{Descriptor}
use Rattle.channels.specs.declared.Description.{Description}
use Rattle.channels.specs.Descriptors.{no_attribute, absent}
use Rattle.channels.specs.declared.Format.TheVariants.{Compact}
use Rattle.descriptions.specs.Description.{attribute, descriptor, includes, channel_of, description}
use Rattle.descriptions.specs.Read.{nothing}
use Rattle.refusals.specs.declared.Refusal.TheVariants.{Short, Tag, Length, Maximum, XOrY, ReservedBit, LeftOver}
use Rattle.refusals.specs.Table.{number_of}
use Rattle.templates.specs.declared.Judged.{Judged}
use Rattle.templates.specs.Reading.{saying, accepted, refused, with_content, is_shortest, at_end, limited_by, limited_from, filling, described_by, content_of, length_and_content, template_of}
use Rattle.refusals.specs.declared.Refusal.{Refusal}

-- a channel of which nothing is said but that it is included, and DT scaled by 100 and constant
abbrev plain : Descriptor
plain = record {
  included = true;
  scaling = no_attribute;
  minimum = no_attribute;
  maximum = no_attribute;
  mean = no_attribute;
  deviation = no_attribute;
  constant = false;
  detrended = false;
}

abbrev steady : Descriptor
steady = record {
  included = true;
  scaling = record { given = true; number = pos 0xB480 };
  minimum = no_attribute;
  maximum = no_attribute;
  mean = no_attribute;
  deviation = no_attribute;
  constant = true;
  detrended = false;
}

abbrev xy : List Descriptor → Description
xy others = record { channels = plain ∷ plain ∷ others; mark = Compact }

-- the number of a refusal, and 0 for a template
abbrev numbered : Result ⊤ Refusal → ℕ
numbered (Ok _) = 0
numbered (Err refusal) = number_of refusal

record Example : Type 0 where
  bytes : List ℕ
  number : ℕ
  answer : Judged

abbrev example : List ℕ → ℕ → Judged → Example
example b n a = record { bytes = b; number = n; answer = a }

abbrev table : List Example
table =
    example (0xB1 ∷ 0x00 ∷ []) 0 (accepted (saying false (nothing Compact) false 0))
    ∷ example (0xB1 ∷ 0x06 ∷ 0x81 ∷ 0x04 ∷ 0xC0 ∷ 0x00 ∷ 0x00 ∷ 0x00 ∷ []) 0 (accepted (saying true (xy (replicate 14 absent)) false 0))
    ∷ example (0xB1 ∷ 0x09 ∷ 0x81 ∷ 0x07 ∷ 0xC0 ∷ 0x80 ∷ 0x00 ∷ 0x00 ∷ 0x84 ∷ 0xB4 ∷ 0x80 ∷ []) 0
    (accepted (saying true (xy (replicate 6 absent ++ steady ∷ replicate 7 absent)) false 0))  -- C.2.1
    ∷ example [] 1 (refused Short)
    ∷ example (0xB1 ∷ []) 1 (refused Short)
    ∷ example (0xB1 ∷ 0x03 ∷ 0x82 ∷ 0x01 ∷ []) 1 (refused Short)
    ∷ example (0xB1 ∷ 0x06 ∷ 0x81 ∷ 0x04 ∷ 0x40 ∷ 0x00 ∷ 0x00 ∷ 0x00 ∷ []) 4 (refused (XOrY (Some 4)))
    ∷ example (0xB1 ∷ 0x06 ∷ 0x81 ∷ 0x04 ∷ 0xC0 ∷ 0x00 ∷ 0x00 ∷ 0x01 ∷ []) 5 (refused (ReservedBit 7))
    ∷ example (0xB1 ∷ 0x00 ∷ 0x82 ∷ []) 9 (refused (LeftOver 2))
    ∷ example (0xB2 ∷ []) 16 (refused Tag)
    ∷ example (0xB1 ∷ 0x09 ∷ 0x82 ∷ 0x01 ∷ 0x64 ∷ 0x81 ∷ 0x04 ∷ 0xC0 ∷ 0x00 ∷ 0x00 ∷ 0x00 ∷ []) 16 (refused Tag)
    ∷ example (0xB1 ∷ 0x06 ∷ 0x82 ∷ 0x01 ∷ 0x64 ∷ 0x82 ∷ 0x01 ∷ 0x64 ∷ []) 16 (refused Tag)
    ∷ example (0xB1 ∷ 0x80 ∷ []) 17 (refused Length)
    ∷ example (0xB1 ∷ 0x01 ∷ 0x81 ∷ []) 17 (refused Length)
    ∷ example (0xB1 ∷ 0x03 ∷ 0x82 ∷ 0x02 ∷ 0x64 ∷ []) 17 (refused Length)
    ∷ example (0xB1 ∷ 0x05 ∷ 0x81 ∷ 0x03 ∷ 0xC0 ∷ 0x00 ∷ 0x00 ∷ []) 17 (refused Length)
    ∷ example (0xB1 ∷ 0x07 ∷ 0x81 ∷ 0x05 ∷ 0xC0 ∷ 0x00 ∷ 0x00 ∷ 0x00 ∷ 0x00 ∷ []) 17 (refused Length)
    ∷ example (0xB1 ∷ 0x02 ∷ 0x82 ∷ 0x00 ∷ []) 18 (refused Maximum)
    ∷ example (0xB1 ∷ 0x06 ∷ 0x82 ∷ 0x04 ∷ 0x01 ∷ 0x00 ∷ 0x00 ∷ 0x00 ∷ []) 18 (refused Maximum)
    ∷ []

-- an example as reading finds it
abbrev found : Example → Example
found e = example e.bytes (numbered (template_of e.bytes).verdict) (template_of e.bytes)

pub examples : map found table ≡ table
unfolding run next bind reader.map each one number value_of offset signed_of attribute descriptor includes channel_of description nothing
    with_content is_shortest at_end limited_by limited_from filling described_by content_of length_and_content template_of
examples = refl
