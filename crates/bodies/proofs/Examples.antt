-- The examples of request L4's specification are answered as its table has them.
use Rattle.std.specs.Prelude.{◌≡◌, refl}
use mathlib.Core.List.{map, flat_map}
use Rattle.formats.specs.Reader as reader
use Rattle.formats.specs.Reader.{next, run, bind, each, times, one}
use Rattle.formats.specs.Number as numbers
use Rattle.formats.specs.Number.{number, digits}
use Rattle.formats.specs.Put.{puts}
use Rattle.formats.specs.Writes.{encode_each}
use Rattle.refusals.specs.Table.{in_compact, named, refusal_of}
use Rattle.refusals.specs.Stages.{require, or_else, stages, compactly}
use Rattle.refusals.specs.Ranges.{first_misfit}
use Rattle.channels.specs.Channel.{signed_of}
use Rattle.channels.specs.Stored.{offset, value_of, stored_of, fits}
use Rattle.descriptions.specs.Description.{attribute, descriptor, includes, channel_of, description}
use Rattle.descriptions.specs.Read.{nothing}
use Rattle.tip_switch.specs.Switch.{state_of, is_state, byte_of}
use Rattle.points.specs.Points as points
use Rattle.points.specs.Points.{stored_from, channels, widths, width, encode_sample, encode_point, fits_sample}
use Rattle.point_places.specs.Places.{places_of}
use Rattle.orders.specs.Orders.{step, stride, numbers_from, points_from, points_of}
use Rattle.values.specs.Values.{samples_in, samples_from, samples, judgement_of}
use Rattle.templates.specs.Reading.{with_content, is_shortest, at_end, limited_by, limited_from, filling, described_by, content_of, length_and_content, template_of}
use Rattle.bodies.specs.Body.{begun, points_in}
use Rattle.bodies.specs.Reading.{ruling, exceeds, verdict_by, judged_by, pointed_by, places_by}
use Rattle.bodies.specs.Writing.{count_fits, judgement_by, put_where, write_ruled, write_by}
use Rattle.bodies.specs.Examples.{answered, found, table}

pub examples : map found table ≡ table
unfolding answered run next bind reader.map each times one number value_of offset signed_of attribute descriptor includes channel_of description nothing
    with_content is_shortest at_end limited_by limited_from filling described_by content_of length_and_content template_of numbers.value
    stored_from channels widths width points.sample points.point places_of named refusal_of begun points_in ruling exceeds verdict_by judged_by pointed_by places_by
    require or_else stages compactly in_compact first_misfit samples_in samples_from samples judgement_of fits_sample fits step stride numbers_from points_from points_of
    digits stored_of state_of is_state byte_of encode_each encode_sample encode_point flat_map puts count_fits judgement_by put_where write_ruled write_by
examples = refl
