-- What code finds of a record's front: what it says, or the failure itself.
use Rattle.std.specs.Prelude.{Bool, List, ℕ, Result}
use Rattle.formats.specs.Reader.{Answer, read_at}
use Rattle.formats.specs.Told.{answered}
use Rattle.formats.specs.declared.Failure.{Failure}
use Rattle.descriptions.specs.declared.Measured.{Measured}
use Rattle.channels.specs.Descriptors.{included, stored}
use Rattle.record_fronts.specs.Front.{Heading, Opening, opened}
use Rattle.record_fronts.specs.declared.Opened.{Opened}
use Rattle.record_fronts.specs.declared.Front.{Front}

-- ---- What opens a body

abbrev pub opened_as : Answer Opening → Result Opened Failure
opened_as x = answered (λ o n. record { announced = o.announced; count = o.count; points = n }) x

-- ---- The front

-- what the points need of it, and where they begin
abbrev pub front_of : Heading → (points : ℕ) → Front
front_of h points = record { included = included h.description; stored = stored h.description; announced = h.announced; count = h.count; points = points }

-- the front that was read
abbrev pub fronted : Answer Heading → Result Front Failure
fronted x = answered front_of x

-- ---- The front behind its channels

-- what opens the body, behind channels that have these flags
abbrev pub front_from : (included stored : List Bool) → Answer Opening → Result Front Failure
front_from included stored x =
    answered (λ o n. record { included = included; stored = stored; announced = o.announced; count = o.count; points = n }) x

-- it is looked for where the channels end that were measured so
abbrev pub front_behind : List ℕ → Measured → Result Front Failure
front_behind s m = front_from m.included m.stored (read_at opened s m.end)
