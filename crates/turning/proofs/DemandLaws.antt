-- The claims of `Demands` hold. A record that was turned passed every stage and found room for both, by cases of each: so template and body are what their writers put, and read back.
-- One that was read is refused with 21 or for want of room alone: its stages say no more than 12, which becomes 21.
use Rattle.std.specs.Prelude.{◌≡◌, ◌⊎◌, Bool, not, ◌&&◌, List, [], ◌∷◌, ◌++◌, ℕ, ◌*◌, ◌≤◌, ◌+◌, leb, ltb, ℤ, length, take, drop, get_or, Ok, Err, Result, ⊤}
use Rattle.std.proofs.Math.Path.{refl}
use Rattle.std.proofs.Common.{ap, ◌∙◌, sym, ap₂, inl, inr, arith, drop_at}
use Rattle.std.proofs.Math.Bool.{true, false, cond}
use Rattle.std.proofs.Math.Option.{Option, none, some}
use borrow.Author.Tests.{not-true, eq-eqb, leb-true, le-ltb, le-leb}
use Rattle.std.proofs.Math.Seq.{take-length}
use Rattle.formats.specs.Bytes.{impossible}
use Rattle.formats.specs.Put.{puts, puts-is}
use Rattle.formats.specs.Reader.{ok}
use Rattle.formats.specs.Writes.{All}
use Rattle.formats.specs.Lent.{writing}
use Rattle.refusals.specs.Stages.{require, or_else, stages, compactly, require-passed, compactly-passed, stages-passed}
use Rattle.refusals.specs.Table.{in_compact}
use Rattle.refusals.specs.Ranges.{Ranged, first_misfit}
use Rattle.refusals.specs.declared.Quantity.{Quantity}
use Rattle.refusals.specs.declared.Quantity.TheVariants as quantity
use Rattle.refusals.specs.declared.Refusal.{Refusal}
use Rattle.refusals.specs.declared.Refusal.TheVariants.{OutOfRange, NotCompact, Room, NoPoint}
use Rattle.channels.specs.Channel.{is_same}
use Rattle.channels.specs.Descriptors.{stored, included}
use Rattle.channels.specs.declared.Description.{Description}
use Rattle.channels.specs.declared.Format.TheVariants.{Full, Compact}
use Rattle.points.specs.Points.{width}
use Rattle.point_places.specs.Places.{places_of, nowhere}
use Rattle.orders.specs.Orders.{size, values_of, points_of}
use Rattle.orders.proofs.OrderLaws.{values-many, points-again}
use Rattle.orders.specs.declared.Order.TheVariants.{Point}
use Rattle.values.specs.Values as values
use Rattle.values.proofs.ValueLaws.{valid-sizes}
use Rattle.descriptions.specs.Description as descriptions
use Rattle.descriptions.specs.Description.{includes_xy, neat}
use Rattle.descriptions.proofs.EncodedLaws.{tidy-neat}
use Rattle.description_judging.specs.Judging as described
use Rattle.description_judging.specs.Judging.{neat_in}
use Rattle.description_judging.proofs.NamingLaws.{by-numbers}
use Rattle.records.specs.Record.{Record, Valid, present, extended_bytes}
use Rattle.records.specs.Demands.{write-after-read}
use Rattle.record_points.specs.Pointing.{places_in}
use Rattle.record_writing.specs.Write as record-writing
use Rattle.record_writing.proofs.RoundTrips.{read-written}
use Rattle.templates.specs.Template.{encode}
use Rattle.templates.specs.Reading.{accepted, template_of}
use Rattle.template_writing.specs.Writing as template-writing
use Rattle.template_writing.proofs.ReadBack.{read_back}
use Rattle.bodies.specs.Reading.{exceeds, ruling, read, judged_by, pointed_by, places_if, places_by}
use Rattle.bodies.specs.Writing.{count_fits, judgement_by, write_by}
use Rattle.bodies.specs.Writing as body-writing
use Rattle.bodies.specs.Demands.{said, points_read}
use Rattle.bodies.proofs.DemandLaws.{reads-back}
use Rattle.bodies.specs.declared.Judged.{Judged}
use Rattle.turning.specs.Turning.{compacted, template_for, body_bytes, body_judgement, judgement_of, Turning, turning, put_both, turned, turn_of}
use Rattle.turning.specs.Demands.{Turns, full, TemplateReadsBack, BodyReadsBack, SamePlaces, IsBothWriters, TurnsBack, RefusesOnly}
use Rattle.bodies.specs.declared.Refused.TheVariants as whose
use Rattle.turning.specs.declared.Turned.{Turned}

-- two answers that are one have the same sizes
sizes_in : {x y : Turned} → ◌≡◌ {A = Result Turned Refusal} (Ok x) (Ok y) → x ≡ y
sizes_in e = cc

-- a record that is the whole slice has no byte behind it
pub by-record : (n : ℕ) (r : Record) (template body : List ℕ) → turn_of n (ok r n) template body ≡ turned r template body
unfolding turn_of
by-record n r template body = rw (le-ltb n n (omega arith))

-- ---- What holds of a record that is turned

-- the body's writer is handed these
abbrev pub laid : Record → List ℤ
laid r = values_of Point (size (stored r.description)) r.points

module _ (r : Record) where
  abbrev flags : List Bool
  flags = stored r.description

  -- every stage passed: so the body's writer passes what it is handed without extended data, and there are none
  pub record Passes : Type 0 where
    pub described : described.judgement_of Compact (compacted r.description) ≡ Ok tt
    pub numbered : judgement_by flags false 0 (length r.points) (laid r) false ≡ Ok tt
    pub alone : present r.extended ≡ false

  not-wanted : (count : ℕ) (numbers : List ℤ) (wanted : Bool) → judgement_by flags false 0 count numbers wanted ≡ Ok tt → wanted ≡ false
  unfolding judgement_by
  not-wanted count numbers wanted e = let x = stages-passed _ e in not-true wanted (require-passed _ _ x.1.1.0)

  pub passes : judgement_of r ≡ Ok tt → Passes
  unfolding judgement_of body_judgement
  passes e =
      let x = stages-passed _ e in
      let alone = not-wanted (length r.points) (laid r) (present r.extended) x.1.0 in
      record { described = compactly-passed _ x.0; numbered = rw alone at x.1.0; alone = alone }

  -- what is put
  abbrev first : List ℕ
  first = encode (template_for r)

  abbrev second : List ℕ
  second = body_bytes r

  module _ (template body : List ℕ) where
    -- where there is room for both, and where there is not
    abbrev pub in_room : Bool → Turning
    in_room room = cond room (turning (Ok (record { template = length first; body = length second })) (puts template 0 first) (puts body 0 second)) (turning (Err Room) template body)

    -- where every stage is passed the room decides
    pub by-stages : put_both first second template body (Ok tt) ≡ in_room (leb (length first) (length template) && leb (length second) (length body))
    unfolding put_both
    by-stages = refl

    -- both had room, and the template and the body were put at their starts
    pub record Made (t b : List ℕ) (n m : ℕ) : Type 0 where
      pub passed : Passes
      pub template-long : n ≡ length first
      pub template-room : n ≤ length template
      pub template-holds : t ≡ puts template 0 first
      pub body-long : m ≡ length second
      pub body-room : m ≤ length body
      pub body-holds : b ≡ puts body 0 second

    by-room : {t b : List ℕ} {n m : ℕ} (one other : Bool) → Passes → leb (length first) (length template) ≡ one → leb (length second) (length body) ≡ other
        → turning (Ok (record { template = n; body = m })) t b ≡ in_room (one && other) → Made t b n m
    by-room {t} {b} {n} {m} true true p h g e =
        let q = sizes_in {x = record { template = n; body = m }} {y = record { template = length first; body = length second }} (ap (λ x. x.answer) e) in
        let y : n ≡ length first = ap (λ (x : Turned). x.template) q in
        let z : m ≡ length second = ap (λ (x : Turned). x.body) q in
        let u : length first ≤ length template = leb-true (length first) (length template) h in
        let v : length second ≤ length body = leb-true (length second) (length body) g in
        record {
          passed = p;
          template-long = y;
          template-room = omega arith;
          template-holds = ap (λ x. x.template) e;
          body-long = z;
          body-room = omega arith;
          body-holds = ap (λ x. x.body) e;
        }
    by-room true false p h g e = impossible (cc (ap (λ x. x.answer) e))
    by-room false other p h g e = impossible (cc (ap (λ x. x.answer) e))

    pub made : {t b : List ℕ} {n m : ℕ} → turning (Ok (record { template = n; body = m })) t b ≡ turned r template body → Made t b n m
    unfolding turned put_both
    made {t} {b} {n} {m} e = go (judgement_of r) refl e
      where
        go : (j : Result ⊤ Refusal) → judgement_of r ≡ j → turning (Ok (record { template = n; body = m })) t b ≡ put_both first second template body j → Made t b n m
        go (Ok _) h q = by-room (leb (length first) (length template)) (leb (length second) (length body)) (passes h) refl refl (q ∙ by-stages)
        go (Err refusal) h q = impossible (cc (ap (λ x. x.answer) q))

-- ---- What refuses

-- a refusal is 21
abbrev pub IsNotCompact : Refusal → Type 0
IsNotCompact refusal = (quantity : Quantity) × (refusal ≡ NotCompact quantity)

-- a stage refuses with nothing else
abbrev Only : Result ⊤ Refusal → Type 0
Only (Ok _) = Unit {0}
Only (Err refusal) = IsNotCompact refusal

only-require : (t : Bool) (quantity : Quantity) → Only (require t (NotCompact quantity))
unfolding require
only-require true quantity = tt
only-require false quantity = (quantity, refl)

only-behind : (a b : Result ⊤ Refusal) → Only a → Only b → Only (or_else a b)
unfolding or_else
only-behind (Ok _) b h g = g
only-behind (Err refusal) b h g = h

only-stages : (l : List (Result ⊤ Refusal)) → All Only l → Only (stages l)
unfolding stages
only-stages [] h = tt
only-stages (stage ∷ l) h = only-behind stage (stages l) h.0 (only-stages l h.1)

-- numbers that are judged one behind the other are refused with 12, which becomes 21
only-misfit : (l : List Ranged) → Only (compactly (first_misfit l))
unfolding first_misfit compactly in_compact or_else require
only-misfit [] = tt
only-misfit (number ∷ l) = go number.fits (only-misfit l)
  where
    go : (t : Bool) → Only (compactly (first_misfit l)) → Only (compactly (or_else (require t (OutOfRange number.name)) (first_misfit l)))
    go true h = h
    go false h = (number.name, refl)

-- values in their right amount are
only-values : (w : ℕ) (stored : List Bool) (count : ℕ) (numbers : List ℤ) → length numbers ≡ count * size stored → Only (compactly (values.judgement_of w stored Point count numbers))
unfolding values.judgement_of or_else require
only-values w stored count numbers h = rw (eq-eqb (length numbers) (count * size stored) h) (only-misfit (values.samples w stored Point count numbers))

-- and a description of which X and Y are included, and which is neat
only-description : (d : Description) → descriptions.Valid Full d → Only (compactly (described.judgement_of Compact (compacted d)))
unfolding neat_in is_same includes_xy neat
only-description d v = rw (by-numbers Compact (compacted d) v.xy (tidy-neat d v.tidy)) (only-misfit (described.numbers 1 (compacted d)))

-- without a limit none is exceeded
only-body : (stored : List Bool) (count : ℕ) (numbers : List ℤ) (wanted : Bool) → length numbers ≡ count * size stored → Only (judgement_by stored false 0 count numbers wanted)
unfolding judgement_by exceeds require
only-body stored count numbers wanted h =
    only-stages
    _
    (only-require (count_fits count (width 1 stored)) quantity.Count, (only-values 1 stored count numbers h, (only-require (not wanted) quantity.ExtendedData, (tt, tt))))

module _ (r : Record) (valid : Valid r) where
  only-turned : Only (judgement_of r)
  unfolding judgement_of body_judgement
  only-turned =
      let flags = stored r.description in
      let sizes = valid-sizes 2 flags r.points valid.points in
      only-stages
      _
      (only-description r.description valid.description, (only-body flags (length r.points) (laid r) (present r.extended) (values-many (size flags) r.points sizes Point), tt))

  pub refused-only : (template body : List ℕ) {t b : List ℕ} {refusal : Refusal} → turning (Err refusal) t b ≡ turned r template body → IsNotCompact refusal ⊎ (refusal ≡ Room)
  unfolding turned put_both
  refused-only template body {t} {b} {refusal} e = go (judgement_of r) only-turned e
    where
      by_size : (room : Bool) → turning (Err refusal) t b ≡ in_room r template body room → refusal ≡ Room
      by_size true q = impossible (cc (ap (λ x. x.answer) q))
      by_size false q = cc (ap (λ x. x.answer) q)

      go : (j : Result ⊤ Refusal) → Only j → turning (Err refusal) t b ≡ put_both (first r) (second r) template body j → IsNotCompact refusal ⊎ (refusal ≡ Room)
      go (Ok _) h q = inr (by_size (leb (length (first r)) (length template) && leb (length (second r)) (length body)) (q ∙ by-stages r template body))
      go (Err other) h q = let same : refusal ≡ other = cc (ap (λ x. x.answer) q) in inl (h.0, same ∙ h.1)

-- extended data that aren't present have no bytes
none-there : (e : Option (List ℕ)) → present e ≡ false → extended_bytes e ≡ []
unfolding present extended_bytes
none-there none h = refl
none-there (some extended) h = impossible (cc)

-- ---- A record that was turned

module _ {s : List ℕ} {r : Record} {template body t b : List ℕ} {n m : ℕ} (x : Turns s r template body t b n m) where
  abbrev channels : List Bool
  channels = stored r.description

  abbrev count : ℕ
  count = length r.points

  valid : Valid r
  valid = (write-after-read s r (length s) x.bytes x.whole).0

  result : Made r template body t b n m
  result = made r template body (x.turns ∙ ap (λ a. turn_of (length s) a template body) x.whole ∙ by-record (length s) r template body)

  -- its numbers, laid out, are its points
  same_points : points_of Point count (size channels) (laid r) ≡ r.points
  same_points = points-again (size channels) r.points (valid-sizes 2 channels r.points valid.points) Point

  -- ---- The template

  template-is : t ≡ encode (template_for r) ++ drop n template
  template-is =
      let bytes = encode (template_for r) in
      let z : 0 + length bytes ≡ n = omega (arith, result.template-long) in
      result.template-holds ∙ puts-is template 0 bytes (omega (arith, result.template-room)) ∙ ap (λ k. bytes ++ drop k template) z

  template-put : writing (Ok n) t ≡ template-writing.write_of true (compacted r.description) false 0 template
  unfolding template-writing.write_of template-writing.judgement_of template-writing.description_stage template-writing.exceeds template-writing.put_where template-writing.in_room stages or_else require
  template-put = rw (result.passed.described, ← result.template-long, le-leb n (length template) result.template-room) (ap (writing (Ok n)) template-is)

  template-read : template_of (take n t) ≡ accepted (template_for r)
  template-read = (read_back true (compacted r.description) false 0 template valid.description.sixteen (sym template-put)).0

  template-kept : drop n t ≡ drop n template
  template-kept = ap (drop n) template-is ∙ drop_at (encode (template_for r)) (drop n template) n (sym result.template-long)

  -- ---- The body

  -- as its writer puts it by what the template says, and so by the template's bytes
  body-put : writing (Ok m) b ≡ write_by (accepted (template_for r)) count (laid r) false body
  unfolding write_by ruling or_else require body-writing.write_ruled body-writing.put_where
  body-put = rw (result.passed.numbered, same_points, ← result.body-long, le-leb m (length body) result.body-room) (ap (writing (Ok m)) result.body-holds)

  body-by : writing (Ok m) b ≡ write_by (template_of (take n t)) count (laid r) false body
  body-by = body-put ∙ ap (λ j. write_by j count (laid r) false body) (sym template-read)

  abbrev bytes : List ℕ
  bytes = take m b

  abbrev judged : Judged
  judged = record { verdict = (Ok count); description = compacted r.description }

  body-judged : judged_by (template_of (take n t)) bytes ≡ judged
  body-judged = (reads-back (take n t) count (laid r) false body m b body-by).0 ∙ ap (λ j. record { verdict = (Ok count); description = j.template.description }) template-read

  body-read : read (said (take n t)) bytes ≡ ok r.points m
  body-read =
      (reads-back (take n t) count (laid r) false body m b body-by).1.0
      ∙ ap (λ j. ok (points_of Point count (size (stored j.template.description)) (laid r)) m) template-read
      ∙ ap (λ points. ok points m) same_points

  body_kept : drop m b ≡ drop m body
  body_kept = (reads-back (take n t) count (laid r) false body m b body-by).1.1

  -- the same, by what the template says
  judged-read : judged_by (accepted (template_for r)) bytes ≡ judged
  judged-read = ap (λ j. judged_by j bytes) (sym template-read) ∙ body-judged

  points-read : read (template_for r) bytes ≡ ok r.points m
  points-read = ap (λ j. read j.template bytes) (sym template-read) ∙ body-read

  -- ---- Its places

  places-read : (index : ℕ) → places_by index (accepted (template_for r)) bytes ≡ places_in index (ok r (length s))
  unfolding places_by pointed_by places_in
  places-read index = rw judged-read (go (ltb index count))
    where
      go : (there : Bool)
          → places_if (cond there (Ok tt) (Err (whose.Body NoPoint))) index (template_for r) bytes
          ≡ cond there (places_of (included r.description) channels (get_or r.points index [])) nowhere
      go true = rw points-read
      go false = refl

  -- ---- The full record again: its mark is put back, and it has no extended data

  marked-full : full (compacted r.description) ≡ r.description
  marked-full = ap (λ mark. record { channels = r.description.channels; mark = mark }) (sym valid.description.marked)

  full-again : (out : List ℕ) → length s ≤ length out
      → writing (Ok (length s)) (s ++ drop (length s) out) ≡ record-writing.write_of (full (compacted r.description)) count (laid r) false [] out
  full-again out room =
      ap (λ l. writing (Ok (length s)) (l ++ drop (length s) out)) (sym (take-length s))
      ∙ sym (read-written Point s x.bytes r (length s) x.whole out room)
      ∙ ap₂ (λ wanted extended. record-writing.write_of r.description count (laid r) wanted extended out) result.passed.alone (none-there r.extended result.passed.alone)
      ∙ ap (λ d. record-writing.write_of d count (laid r) false [] out) (sym marked-full)

-- ---- The claims

pub template-reads-back : TemplateReadsBack
template-reads-back s r template body t b n m x = (template-read x, template-kept x)

pub body-reads-back : BodyReadsBack
body-reads-back s r template body t b n m x = (body-judged x, (body-read x, body_kept x))

pub same-places : SamePlaces
same-places s r template body t b n m x index =
    ap (λ j. places_by index j (take m b)) (template-read x)
    ∙ places-read x index
    ∙ ap (places_in index) (sym x.whole)

pub is-both-writers : IsBothWriters
is-both-writers s r template body t b n m x = (template-put x, body-by x)

pub turns-back : TurnsBack
turns-back s r template body t b n m x out room =
    let points = ap points_read (body-read x) in
    full-again x out room
    ∙ ap₂ (λ j points. record-writing.write_of (full j.template.description) (length points) (values_of Point (size (stored j.template.description)) points) false [] out)
    (sym (template-read x))
    (sym points)

pub refuses-only : RefusesOnly
refuses-only s r template body refusal bytes whole e =
    let valid = (write-after-read s r (length s) bytes whole).0 in
    refused-only r valid template body (e ∙ ap (λ a. turn_of (length s) a template body) whole ∙ by-record (length s) r template body)
