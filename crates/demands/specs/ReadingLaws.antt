-- Where the parts of a record lie among its bytes, and how the numbers of its points stand in one row.
use Rattle.std.specs.Prelude.{◌≡◌, refl, Bool, true, false, ℕ, suc, ◌+◌, ◌*◌, ◌-◌, ◌≤◌, ◌<◌, ℤ, pos, length, take, drop, get_or, Result, Err}
use Rattle.std.proofs.Common.{sym, ap, ap₂, ◌∙◌, mul-le-mul_right, arith, length-append, length-drop, length-take-le, take-append-drop, drop_at, get_or-take, get_or-drop, ext_get_or}
use mathlib.Core.List.{List, [], ◌∷◌, ◌++◌, append_assoc, flat_map, flatten}
use Rattle.std.proofs.Math.Option.{Option, none, some}
use Rattle.std.proofs.Math.Seq.{take-append_seam}
use Rattle.std.specs.Borrow.{Bor}
use Rattle.formats.specs.Bytes.{impossible}
use Rattle.formats.specs.Reader.{Answer, ok, short, bad}
use Rattle.formats.specs.Number.{digits}
use Rattle.formats.specs.Writes.{All}
use Rattle.refusals.specs.declared.Refusal.{Refusal}
use Rattle.channels.specs.declared.Place.{Place}
use Rattle.points.specs.Points.{stored_from, channels, encode_point}
use Rattle.point_places.specs.Places.{unstored, places_of, nowhere}
use Rattle.orders.specs.Orders.{size, step, stride, points_of}
use Rattle.orders.proofs.OrderLaws.{points-many, number_is, size-at}
use Rattle.orders.specs.declared.Order.TheVariants.{Point}
use Rattle.channels.specs.Descriptors.{stored}
use Rattle.records.specs.Record.{Record, header, opening_byte, encode_extended, encode, IsRecord, extended_bytes}
use Rattle.record_reading.specs.Verdict.{verdict_from, judged}
use Rattle.record_points.specs.Pointing.{pointed_at, places_in}
use Rattle.record_parts.specs.Parts.{extended_place, extended_size, rest_place, rest_size}
use Rattle.demands.specs.Promises as promises
use Rattle.demands.specs.Saying.{numbers_in, numbers_of}
use Rattle.demands.specs.JudgingLaws.{record-is-read}

-- ---- The extended data are a record's last bytes

-- some bytes end in others
pub record EndsIn (b last : List ℕ) : Type 0 where
  pub first : List ℕ
  pub together : b ≡ first ++ last

ends-in : (a : List ℕ) (e : Option (List ℕ)) → EndsIn (a ++ encode_extended e) (extended_bytes e)
unfolding encode_extended extended_bytes
ends-in a none = record { first = a; together = refl }
ends-in a (some bytes) = record { first = a ++ digits 2 (length bytes); together = sym (append_assoc a (digits 2 (length bytes)) bytes) }

pub record-ends-in : (r : Record) → EndsIn (encode r) (extended_bytes r.extended)
unfolding encode
record-ends-in r =
    ends-in
    (header r.description ++ (opening_byte r.extended ∷ []) ++ digits 3 (length r.points) ++ flat_map (encode_point 2 (stored r.description)) r.points)
    r.extended

-- so they are the part of their size before the end
pub last-part : (b last rest : List ℕ) → EndsIn b last → take (length last) (drop (length b - length last) (b ++ rest)) ≡ last
last-part b last rest x =
    let place : length x.first ≡ length b - length last = omega (arith, ap length x.together, length-append x.first last) in
    let whole : b ++ rest ≡ x.first ++ (last ++ rest) = ap (λ l. l ++ rest) x.together ∙ append_assoc x.first last rest in
    ap (λ l. take (length last) (drop (length b - length last) l)) whole ∙ ap (take (length last)) (drop_at x.first (last ++ rest) (length b - length last) place) ∙ take-append_seam last rest

-- so extended hands them out of a record that some bytes begin with, whatever follows it
pub extended-handed : (s : Bor (List ℕ)) (n : ℕ) → n ≤ length s.now → (x : IsRecord (take n s.now)) (r : Bor (List ℕ)) → promises.extended s r → r.now ≡ extended_bytes x.value.extended
unfolding extended_place extended_size
extended-handed s n within x r part =
    let last = extended_bytes x.value.extended in
    let size : length (encode x.value) ≡ n = sym (ap length x.written) ∙ length-take-le n s.now within in
    let split : encode x.value ++ drop n s.now ≡ s.now = rw x.written at (take-append-drop n s.now) in
    rw (record-is-read s.now n within x, ← size) at part.bytes
    ∙ ap (λ b. take (length last) (drop (length (encode x.value) - length last) b)) (sym split)
    ∙ last-part (encode x.value) last (drop n s.now) (record-ends-in x.value)

-- ---- The numbers of a point

-- in point order they stand side by side
pub numbers-at : (count k : ℕ) (values : List ℤ) → length values ≡ count * k → All (λ p. length p ≡ k) (points_of Point count k values) → (i : ℕ) → i < count
    → get_or (points_of Point count k values) i [] ≡ take k (drop (i * k) values)
unfolding step stride
numbers-at count k values amount sizes i h =
    let long : (i + 1) * k ≤ count * k = mul-le-mul_right k (omega arith) in
    let room : k ≤ length (drop (i * k) values) = rw (length-drop (i * k) values) (omega (arith, long, amount)) in
    let left : length (get_or (points_of Point count k values) i []) ≡ k = size-at k (points_of Point count k values) sizes i (rw (points-many Point count k values) h) in
    ext_get_or (pos 0) (get_or (points_of Point count k values) i []) (take k (drop (i * k) values)) (left ∙ sym (length-take-le k (drop (i * k) values) room))
    (λ r q.
    let below : r < k = omega (arith, left, q) in
    let z : i * k + r * 1 ≡ i * k + r = omega arith in
    number_is Point count k values i r h below ∙ ap (λ j. get_or values j (pos 0)) z ∙ sym (get_or-take k (drop (i * k) values) r (pos 0) below ∙ get_or-drop (i * k) values r (pos 0)))

-- those of the places that a point is set out in are its own
unset : (included : Bool) (l : List Place) → numbers_in (unstored included ∷ l) ≡ numbers_in l
unfolding numbers_in
unset true l = refl
unset false l = refl

pub numbers-in-from : (included stored : List Bool) (i : ℕ) (vs : List ℤ) → length vs ≡ length (stored_from i stored) → numbers_in (places_of included stored vs) ≡ vs
unfolding numbers_in places_of stored_from
numbers-in-from included [] i [] h = refl
numbers-in-from included [] i (v ∷ vs) h = absurd (omega (arith, h))
numbers-in-from included (true ∷ stored) i [] h = absurd (omega (arith, h))
numbers-in-from included (true ∷ stored) i (v ∷ vs) h = ap (λ l. v ∷ l) (numbers-in-from (drop 1 included) stored (suc i) vs (omega (arith, h)))
numbers-in-from included (false ∷ stored) i vs h = unset (get_or included 0 false) (places_of (drop 1 included) stored vs) ∙ numbers-in-from (drop 1 included) stored (suc i) vs h

pub numbers-in : (included stored : List Bool) (vs : List ℤ) → length vs ≡ size stored → numbers_in (places_of included stored vs) ≡ vs
unfolding channels
numbers-in included stored vs h = numbers-in-from included stored 0 vs h

-- and those of all points in their order are the points in one row
pub numbers-of-from : (points : ℕ → List Place) (l : List (List ℤ)) (from : ℕ) → ((i : ℕ) → i < length l → numbers_in (points (from + i)) ≡ get_or l i []) → numbers_of points (length l) from ≡ flatten l
unfolding numbers_of flatten
numbers-of-from points [] from h = refl
numbers-of-from points (p ∷ l) from h =
    let z : from + 0 ≡ from = omega arith in
    ap₂ ◌++◌ (rw z at (h 0 (omega arith))) (numbers-of-from points l (from + 1) (λ i q. let y : from + 1 + i ≡ from + suc i = omega arith in rw y (h (suc i) (omega (arith, q)))))

-- ---- Where there is no record

-- nothing is handed out, and every point is refused alike
pub record NothingIn (a : Answer Record) (refusal : Refusal) : Type 0 where
  pub extended_at : extended_place a ≡ 0
  pub extended_many : extended_size a ≡ 0
  pub rest_at : rest_place a ≡ 0
  pub rest_many : (many : ℕ) → rest_size many a ≡ 0
  pub said_of_points : (index : ℕ) → pointed_at index a ≡ Err refusal
  pub places_of_points : (index : ℕ) → places_in index a ≡ nowhere

again : {A B : Type 0} {x y : Refusal} → ◌≡◌ {A = Result A Refusal} (Err x) (Err y) → ◌≡◌ {A = Result B Refusal} (Err x) (Err y)
again {x} {y} e = let z : x ≡ y = cc in ap Err z

pub nothing-in : (a : Answer Record) (refusal : Refusal) → (judged a).verdict ≡ Err refusal → NothingIn a refusal
unfolding verdict_from extended_place extended_size rest_place rest_size pointed_at places_in
nothing-in (ok v n) refusal e = impossible (cc)
nothing-in short refusal e = record { extended_at = refl; extended_many = refl; rest_at = refl; rest_many = λ many. refl; said_of_points = λ index. again e; places_of_points = λ index. refl }
nothing-in (bad k p) refusal e = record { extended_at = refl; extended_many = refl; rest_at = refl; rest_many = λ many. refl; said_of_points = λ index. again e; places_of_points = λ index. refl }
