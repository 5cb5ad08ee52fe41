-- Where the parts of a record lie, as code finds them behind its front.
use Rattle.std.specs.Prelude.{List, ℕ, Result, Ok, Err}
use Rattle.formats.specs.Reader.{read_at, times}
use Rattle.formats.specs.Told.{told, then_told}
use Rattle.points.specs.Points.{point}
use Rattle.records.specs.Record as meant
use Rattle.record_fronts.specs.Front.{front}
use Rattle.record_fronts.specs.Fronted.{fronted}
use Rattle.record_fronts.specs.declared.Front.{Front}
use Rattle.record_layouts.specs.declared.Layout.{Layout}
use Rattle.formats.specs.declared.Failure.{Failure}

-- the points behind a front, and the extended data behind them
unfoldable pub layout_behind : List ℕ → Front → Result Layout Failure
layout_behind s h =
    then_told (told (read_at (times h.count (point 2 h.stored)) s h.points)) (λ extension.
    then_told (told (read_at (meant.extension h.announced) s extension)) (λ end.
    Ok (record { announced = h.announced; count = h.count; extension = extension; end = end })))

-- the record that stands from a place on
unfoldable pub layout_at : List ℕ → (start : ℕ) → Result Layout Failure
layout_at s start = then_told (fronted (read_at front s start)) (layout_behind s)

-- how many points are counted: none where reading failed
unfoldable pub points_counted : Result Layout Failure → ℕ
points_counted (Ok l) = l.count
points_counted (Err f) = 0
