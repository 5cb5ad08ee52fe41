-- Where the parts of a record lie is what reading the record answers: the layout ends as reading does, and its places are those of the record's parts.
use Rattle.std.specs.Prelude.{◌≡◌, Bool, true, false, List, [], ℕ, ◌+◌, ◌≤◌, ℤ, length, take, drop, Result, Ok, Err}
use Rattle.std.proofs.Math.Path.{refl, ap}
use Rattle.std.proofs.Common.{sym, ◌∙◌, arith, length-drop, length-take-le}
use Rattle.std.proofs.Math.Logic.{by_cases}
use Rattle.std.proofs.Math.Option.{Option, none, some}
use Rattle.std.proofs.Math.Decide.{dec_lt}
use Rattle.formats.specs.Bytes.{impossible}
use Rattle.formats.specs.Reader.{Answer, ok, short, bad, done, and_then, read_at, run, bind, times, free}
use Rattle.formats.specs.Compose.{at-start, at-bind, at_done, at-bind-ok, at-free}
use Rattle.formats.proofs.Ends.{at-within, at-free-short}
use Rattle.formats.specs.declared.Failure.TheVariants.{Short, Bad}
use Rattle.formats.specs.Number.{number, value, at-number}
use Rattle.formats.proofs.NumberLaws.{at-number-short}
use Rattle.formats.specs.Fixed.{times-length}
use Rattle.formats.specs.Told.{told, failed, answered, at-bind-failed, then_told}
use Rattle.formats.specs.declared.Failure.{Failure}
use Rattle.points.specs.Points.{point}
use Rattle.channels.specs.Descriptors.{included, stored}
use Rattle.records.specs.Record.{Record, extension, full_record, present, extended_bytes}
use Rattle.record_fronts.specs.Front.{Heading, front, body, in_two}
use Rattle.record_fronts.specs.Fronted.{front_of, fronted}
use Rattle.record_layouts.specs.Layout.{layout_behind, layout_at, points_counted}
use Rattle.record_fronts.specs.declared.Front.{Front}
use Rattle.record_layouts.specs.declared.Layout.{Layout}

-- ---- What the parts of a record say of themselves

-- extended data that are present end where their bytes do, behind a length of two bytes; absent ones have no bytes
pub record Ends (s : List ℕ) (announced : Bool) (at : ℕ) (extra : Option (List ℕ)) (end : ℕ) : Type 0 where
  pub presence : present extra ≡ announced
  pub start : announced ≡ true → at + 2 + length (extended_bytes extra) ≡ end
  pub empty : announced ≡ false → (at ≡ end) × (extended_bytes extra ≡ [])

counted : (s : List ℕ) (at n : ℕ) {extra : Option (List ℕ)} {end : ℕ} → at + 2 ≤ length s
    → read_at (bind (free n) (λ bytes. done (some bytes))) s (at + 2) ≡ ok extra end → Ends s true at extra end
unfolding present extended_bytes
counted s at n {extra} {end} h e =
    by_cases
    (dec_lt (length s) (at + 2 + n))
    (λ q. impossible (cc (at-bind-failed (free n) (λ bytes. done (some bytes)) s (at + 2) Short (at-free-short n s (at + 2) (omega arith)))))
    (λ q.
    let z = at-bind-ok (free n) (λ bytes. done (some bytes)) s (at + 2) (at-free n s (at + 2) (omega arith)) in
    let w = at_done (some (take n (drop (at + 2) s))) s (at + 2 + n) in
    let x : some (take n (drop (at + 2) s)) ≡ extra = cc in
    let y : at + 2 + n ≡ end = cc in
    let l : length (take n (drop (at + 2) s)) ≡ n = length-take-le n (drop (at + 2) s) (simp length-drop (omega arith)) in
    rw (← x) (record { presence = refl; start = λ r. rw l y; empty = λ r. impossible (cc) }))

pub extension-ends : (s : List ℕ) (announced : Bool) (at : ℕ) {extra : Option (List ℕ)} {end : ℕ} → at ≤ length s → read_at (extension announced) s at ≡ ok extra end → Ends s announced at extra end
unfolding extension present extended_bytes
extension-ends s true at {extra} {end} h e =
    by_cases
    (dec_lt (length s) (at + 2))
    (λ q. impossible (cc (at-bind-failed (number 2) _ s at Short (at-number-short 2 s at (omega arith)))))
    (λ q. counted s at (value 2 (drop at s)) (omega arith) (sym (at-bind-ok (number 2) _ s at (at-number 2 s at (omega arith))) ∙ e))
extension-ends s false at {extra} {end} h e =
    let z : read_at {A = Option (List ℕ)} (done none) s at ≡ ok none at = at_done none s at in
    let x : none ≡ extra = cc in
    let y : at ≡ end = cc in
    rw (← x) (record { presence = refl; start = λ q. impossible (cc); empty = λ q. (y, refl) })

-- ---- The layout of a record

pub record Lying (s : List ℕ) (h : Front) (l : Layout) (r : Record) : Type 0 where
  pub counted : h.count ≡ l.count
  pub announced : h.announced ≡ l.announced
  pub includes : h.included ≡ included r.description
  pub stores : h.stored ≡ stored r.description
  pub count : length r.points ≡ l.count
  pub within : h.points ≤ length s
  pub points : read_at (times l.count (point 2 (stored r.description))) s h.points ≡ ok r.points l.extension
  pub extension : Ends s l.announced l.extension r.extended l.end
  pub extended-within : (l.extension ≤ l.end) × (l.end ≤ length s)

-- a front and the layout behind it that are those of a record that was read
pub record Laid (s : List ℕ) (h : Result Front Failure) (x : Result Layout Failure) (r : Record) (end : ℕ) : Type 0 where
  pub front : Front
  pub layout : Layout
  pub fronts : h ≡ Ok front
  pub lays : x ≡ Ok layout
  pub ends : layout.end ≡ end
  pub lying : Lying s front layout r

-- the layout is that of the record that was read, behind its front, or the failure that reading ended in
unfoldable pub Agrees : List ℕ → Result Front Failure → Answer Record → Result Layout Failure → Type 0
Agrees s h (ok r end) x = Laid s h x r end
Agrees s h short x = x ≡ Err Short
Agrees s h (bad k p) x = x ≡ Err (Bad k p)

module _ (s : List ℕ) where
  module _ (f : Heading) (at : ℕ) (within : at ≤ length s) where
    abbrev made : List (List ℤ) → Option (List ℕ) → Record
    made points extended = record { description = f.description; points = points; extended = extended }

    abbrev behind-points : (next : ℕ) → Result Layout Failure
    behind-points next =
        then_told (told (read_at (extension f.announced) s next)) (λ end. Ok (record { announced = f.announced; count = f.count; extension = next; end = end }))

    -- behind the points
    module _ (points : List (List ℤ)) (next : ℕ) (e : read_at (times f.count (point 2 (stored f.description))) s at ≡ ok points next) where
      by-extension : (x : Answer (Option (List ℕ))) → read_at (extension f.announced) s next ≡ x
          → Agrees s (Ok (front_of f at)) (and_then x (λ extra end. read_at (done (made points extra)) s end))
          (then_told (told x) (λ end. Ok (record { announced = f.announced; count = f.count; extension = next; end = end })))
      unfolding Agrees and_then then_told told
      by-extension (ok extra end) g =
          let w = at-within (times f.count (point 2 (stored f.description))) s at e within in
          rw (at_done (made points extra) s end)
          (record {
            front = front_of f at;
            layout = record { announced = f.announced; count = f.count; extension = next; end = end };
            fronts = refl;
            lays = refl;
            ends = refl;
            lying = record {
              counted = refl;
              announced = refl;
              includes = refl;
              stores = refl;
              count = times-length (point 2 (stored f.description)) s f.count at e;
              within = within;
              points = e;
              extension = extension-ends s f.announced next w.1 g;
              extended-within = at-within (extension f.announced) s next g w.1;
            };
          })
      by-extension short g = refl
      by-extension (bad k p) g = refl

    -- behind the front
    by-points : (x : Answer (List (List ℤ))) → read_at (times f.count (point 2 (stored f.description))) s at ≡ x
        → Agrees s (Ok (front_of f at)) (and_then x (λ points next. read_at (bind (extension f.announced) (λ extra. done (made points extra))) s next))
        (then_told (told x) behind-points)
    unfolding Agrees and_then then_told told
    by-points (ok points next) e =
        rw (at-bind (λ extra. done (made points extra)) (extension f.announced) s next)
        (by-extension points next e (read_at (extension f.announced) s next) refl)
    by-points short e = refl
    by-points (bad k p) e = refl

  module _ (start : ℕ) (inside : start ≤ length s) where
    by_front : (x : Answer Heading) → read_at front s start ≡ x → Agrees s (fronted x) (and_then x (λ f at. read_at (body f) s at)) (then_told (fronted x) (layout_behind s))
    unfolding Agrees and_then layout_behind then_told answered body
    by_front (ok f at) e =
        let w = (at-within front s start e inside).1 in
        rw (at-bind (λ points. bind (extension f.announced) (λ extra. done (made f at w points extra))) (times f.count (point 2 (stored f.description))) s at)
        (by-points f at w (read_at (times f.count (point 2 (stored f.description))) s at) refl)
    by_front short e = refl
    by_front (bad k p) e = refl

    agrees : Agrees s (fronted (read_at front s start)) (read_at full_record s start) (layout_at s start)
    unfolding layout_at
    agrees = rw (ap (λ r. read_at r s start) in_two ∙ at-bind body front s start) (by_front (read_at front s start) refl)

-- ---- The layout, by its front

module _ (s : List ℕ) (start : ℕ) where
  -- behind what was found of the front
  pub front-layout : {h : Result Front Failure} {x : Result Layout Failure} → fronted (read_at front s start) ≡ h → x ≡ then_told h (layout_behind s) → layout_at s start ≡ x
  unfolding layout_at
  front-layout q e = ap (λ y. then_told y (layout_behind s)) q ∙ sym e

  -- behind the front that is there, or the front's own failure
  pub fronted-layout : {h : Front} {x : Result Layout Failure} → fronted (read_at front s start) ≡ Ok h → x ≡ layout_behind s h → layout_at s start ≡ x
  unfolding layout_at then_told
  fronted-layout q e = ap (λ y. then_told y (layout_behind s)) q ∙ sym e

  pub unfronted-layout : {f : Failure} → fronted (read_at front s start) ≡ Err f → layout_at s start ≡ Err f
  unfolding layout_at then_told
  unfronted-layout q = ap (λ y. then_told y (layout_behind s)) q

-- ---- Reading, by what the layout is

one-layout : {l m : Layout} → ◌≡◌ {A = Result Layout Failure} (Ok l) (Ok m) → l ≡ m
one-layout e = cc

one-front : {h k : Front} → ◌≡◌ {A = Result Front Failure} (Ok h) (Ok k) → h ≡ k
one-front e = cc

module _ (s : List ℕ) (start : ℕ) (inside : start ≤ length s) where
  of-layout : (x : Answer Record) → read_at full_record s start ≡ x → Agrees s (fronted (read_at front s start)) x (layout_at s start)
  of-layout x q = rw (← q) (agrees s start inside)

  module _ {l : Layout} where
    whole_of : (x : Answer Record) → read_at full_record s start ≡ x → Agrees s (fronted (read_at front s start)) x (layout_at s start) → layout_at s start ≡ Ok l
        → (r : Record) × (read_at full_record s start ≡ ok r l.end) × (h : Front) × (fronted (read_at front s start) ≡ Ok h) × Lying s h l r
    unfolding Agrees
    whole_of (ok r n) q g e =
        let z : g.layout ≡ l = one-layout (sym g.lays ∙ e) in
        rw (← z) (r, q ∙ ap (ok r) (sym g.ends), g.front, g.fronts, g.lying)
    whole_of short q g e = impossible (cc)
    whole_of (bad k p) q g e = impossible (cc)

    -- a layout is that of a record
    pub record-lies : layout_at s start ≡ Ok l → (r : Record) × (read_at full_record s start ≡ ok r l.end) × (h : Front) × (fronted (read_at front s start) ≡ Ok h) × Lying s h l r
    record-lies e = whole_of (read_at full_record s start) refl (of-layout (read_at full_record s start) refl) e

  fails_as : (x : Answer Record) → Agrees s (fronted (read_at front s start)) x (layout_at s start) → {f : Failure} → layout_at s start ≡ Err f → x ≡ failed f
  unfolding Agrees
  fails_as (ok r n) g e = impossible (cc g.lays)
  fails_as short g {f} e = ap failed {x = Short} {y = f} (cc)
  fails_as (bad k p) g {f} e = ap failed {x = Bad k p} {y = f} (cc)

  -- and where there is none, reading failed so
  pub failed-lies : {f : Failure} → layout_at s start ≡ Err f → read_at full_record s start ≡ failed f
  failed-lies e = fails_as (read_at full_record s start) (of-layout (read_at full_record s start) refl) e

  -- with no points
  pub failed-count : {f : Failure} → layout_at s start ≡ Err f → points_counted (layout_at s start) ≡ 0
  unfolding points_counted
  failed-count e = ap points_counted e

  ends_as : (x : Answer Record) → Agrees s (fronted (read_at front s start)) x (layout_at s start) → then_told (layout_at s start) (λ l. Ok l.end) ≡ told x
  unfolding Agrees then_told told
  ends_as (ok r n) g = ap (λ y. then_told y (λ l. Ok l.end)) g.lays ∙ ap Ok g.ends
  ends_as short g = ap (λ y. then_told y (λ l. Ok l.end)) g
  ends_as (bad k p) g = ap (λ y. then_told y (λ l. Ok l.end)) g

  -- it ends where reading told, or as reading failed
  pub layout-told : then_told (layout_at s start) (λ l. Ok l.end) ≡ told (read_at full_record s start)
  layout-told = ends_as (read_at full_record s start) (of-layout (read_at full_record s start) refl)

-- ---- The record that some bytes begin with

module _ (s : List ℕ) where
  module _ {l : Layout} (e : layout_at s 0 ≡ Ok l) where
    pub record-read : (r : Record) × (run full_record s ≡ ok r l.end) × (h : Front) × (fronted (read_at front s 0) ≡ Ok h) × Lying s h l r
    record-read = let x = record-lies s 0 (omega arith) e in (x.0, sym (at-start full_record s) ∙ x.1, x.2, x.3, x.4)

    -- it lies behind its front
    pub record-behind : {h : Front} → fronted (read_at front s 0) ≡ Ok h → (r : Record) × (run full_record s ≡ ok r l.end) × Lying s h l r
    record-behind {h} q =
        let x = record-read in
        let z : x.2 ≡ h = one-front (sym x.3 ∙ q) in
        rw (← z) (x.0, x.1, x.4)

  -- and of a record that was read it is the layout
  pub read-lies : {r : Record} {end : ℕ} → run full_record s ≡ ok r end → Laid s (fronted (read_at front s 0)) (layout_at s 0) r end
  unfolding Agrees
  read-lies {r} {end} q = of-layout s 0 (omega arith) (ok r end) (at-start full_record s ∙ q)

  pub read-behind : {r : Record} {end : ℕ} {h : Front} → run full_record s ≡ ok r end → fronted (read_at front s 0) ≡ Ok h
      → (l : Layout) × (layout_at s 0 ≡ Ok l) × (l.end ≡ end) × Lying s h l r
  read-behind {h = h} q e =
      let x = read-lies q in
      let z : x.front ≡ h = one-front (sym x.fronts ∙ e) in
      rw (← z) (x.layout, x.lays, x.ends, x.lying)

  pub failed-read : {f : Failure} → layout_at s 0 ≡ Err f → run full_record s ≡ failed f
  failed-read e = sym (at-start full_record s) ∙ failed-lies s 0 (omega arith) e

  pub none-counted : {f : Failure} → layout_at s 0 ≡ Err f → points_counted (layout_at s 0) ≡ 0
  none-counted e = failed-count s 0 (omega arith) e
