-- The claims of `Demands` hold: by what reading as many points as the bytes begin answers, and by the stages that writing has passed.
use Rattle.std.specs.Prelude.{◌≡◌, Bool, ◌≢◌, ℕ, zero, suc, ◌+◌, ◌*◌, ◌≤◌, ◌<◌, leb, ℤ, take, Result, Ok, Err, ⊤}
use Rattle.std.proofs.Math.Path.{refl, sym, ap}
use Rattle.std.proofs.Common.{ap₂, ◌∙◌, length-append, take_at, drop_at}
use Rattle.std.proofs.Math.Bool.{true, false, cond}
use mathlib.Core.List.{List, [], ◌∷◌, ◌++◌}
use native.Mathlib.Omega.{arith}
use borrow.Author.Tests.{le-leb, leb-true, lt-ltb, le-ltb, ltb-true, ltb-false}
use Rattle.std.proofs.Math.Dec.{ltb}
use Rattle.std.proofs.Math.ListN.{length, drop}
use Rattle.formats.specs.Bytes.{Bytes, bytes-append, impossible}
use Rattle.formats.specs.Reader.{Answer, ok, short, bad, times}
use Rattle.formats.specs.Law.{Reads}
use Rattle.formats.proofs.Lawful.{short-iff, short-of}
use Rattle.formats.specs.Put.{puts, puts-is}
use Rattle.formats.specs.Lent.{Writing, writing}
use Rattle.refusals.specs.Table.{named, refusal_of}
use Rattle.refusals.specs.declared.Refusal.TheVariants.{Short, LeftOver, Switch, Maximum, Room}
use Rattle.channels.specs.Descriptors.{stored}
use Rattle.channels.specs.declared.Description.{Description}
use Rattle.points.specs.Points.{point, width}
use Rattle.points.specs.Laws.{writes-points, points-length}
use Rattle.orders.specs.Orders.{size, points_of, values_of}
use Rattle.orders.proofs.OrderLaws.{points-many, points-again}
use Rattle.orders.specs.declared.Order.TheVariants.{Point}
use Rattle.values.proofs.ValueLaws.{laid-fits, valid-sizes}
use Rattle.templates.specs.Reading.{template_of}
use Rattle.templates.specs.declared.Template.{Template}
use Rattle.templates.specs.declared.Judged as templates
use Rattle.bodies.specs.Body.{encode_body, ValidBody, begun, points_in}
use Rattle.bodies.proofs.BodyLaws.{begun-hold, begun-is, by_count, body-read, read-body, read-within, left_over, none_read, switch-refused}
use Rattle.bodies.specs.Reading.{ruled, exceeds, verdict_by, read, verdict_of, described, judged_if, judged_by}
use Rattle.bodies.specs.Writing.{judgement_by, put_where, write_ruled, write_if, write_by}
use Rattle.bodies.proofs.WritingLaws.{count_fits_lem, Passes, passes, passing, passes-valid}
use Rattle.bodies.specs.Demands.{said, description_of, flags, points_read, ReadsBack, WritesAgain, Bodied, JudgesBodies, EndsInside, JudgesShort, JudgesLeftOver}
use Rattle.bodies.specs.declared.Refused.TheVariants as whose
use Rattle.bodies.specs.declared.Refused.{Refused}
use Rattle.refusals.specs.declared.Refusal.{Refusal}

-- ---- Where the template is no reason to refuse, the body's verdict is said

pub said_of : (d : Description) (v : Result ℕ Refused) → (described d v).verdict ≡ v
said_of d (Ok count) = refl
said_of d (Err refused) = refl

module _ (j : templates.Judged) (b : List ℕ) where
  judged-by : ruled j ≡ Ok tt → judged_by j b ≡ described j.template.description (verdict_of j.template b)
  unfolding judged_by
  judged-by e = rw e

  verdict-is : ruled j ≡ Ok tt → (judged_by j b).verdict ≡ verdict_of j.template b
  verdict-is e = ap (λ x. x.verdict) (judged-by e) ∙ said_of j.template.description (verdict_of j.template b)

  -- and where there is a body it is none
  body-ruled : {count : ℕ} → (judged_by j b).verdict ≡ Ok count → ruled j ≡ Ok tt
  unfolding judged_by
  body-ruled {count} e = go (ruled j) e
    where
      go : (x : Result ⊤ Refusal) → (judged_if x j.template b).verdict ≡ Ok count → x ≡ Ok tt
      go (Ok _) q = refl
      go (Err refusal) q = impossible (cc)

-- ---- By what reading answers

module _ (t : Template) (b : List ℕ) where
  abbrev channels : List Bool
  channels = stored t.description

  -- all bytes were read, as so many points, and they aren't too many
  record Whole (count : ℕ) : Type 0 where
    points : List (List ℤ)
    taken : read t b ≡ ok points (length b)
    many : length points ≡ count
    allowed : exceeds t.limited t.maximum count ≡ false

  whole-verdict : {count : ℕ} → Whole count → verdict_of t b ≡ Ok count
  unfolding verdict_by
  whole-verdict x = rw (x.taken, le-ltb (length b) (length b) (omega arith), x.many, x.allowed)

  verdict-whole : {count : ℕ} → verdict_of t b ≡ Ok count → Whole count
  unfolding verdict_by
  verdict-whole {count} e = go (read t b) refl e
    where
      by : (points : List (List ℤ)) (n : ℕ) → read t b ≡ ok points n → (left more : Bool) → ltb n (length b) ≡ left → exceeds t.limited t.maximum (length points) ≡ more
          → cond left (Err (whose.Body (LeftOver n))) (cond more (Err (whose.Body Maximum)) (Ok (length points))) ≡ Ok count → Whole count
      by points n r true more h g q = impossible (cc)
      by points n r false true h g q = impossible (cc)
      by points n r false false h g q =
          let z : length points ≡ count = cc in
          let m : n ≡ length b = omega (arith, ltb-false n (length b) h, read-within channels b r) in
          record { points = points; taken = r ∙ ap (ok points) m; many = z; allowed = rw z at g }

      go : (a : Answer (List (List ℤ))) → read t b ≡ a → verdict_by t.limited t.maximum (length b) a ≡ Ok count → Whole count
      go (ok points n) r q = by points n r (ltb n (length b)) (exceeds t.limited t.maximum (length points)) refl refl q
      go short r q = impossible (cc)
      go (bad k p) r q = impossible (cc)

  -- a byte that is refused is a switch
  bad-verdict : (k p : ℕ) → Bytes b → read t b ≡ bad k p → verdict_by t.limited t.maximum (length b) (bad k p) ≡ (Err (whose.Body (Switch p)))
  unfolding verdict_by refusal_of named
  bad-verdict k p bytes e = rw (switch-refused channels b bytes e)

  verdict-short : Bytes b → verdict_of t b ≡ (Err (whose.Body Short)) → read t b ≡ short
  unfolding verdict_by
  verdict-short bytes e = go (read t b) refl e
    where
      by : (points : List (List ℤ)) (n : ℕ) (left more : Bool) → cond left (Err (whose.Body (LeftOver n))) (cond more (Err (whose.Body Maximum)) (Ok (length points))) ≡ (Err (whose.Body Short)) → ok points n ≡ short
      by points n true more q = impossible (cc)
      by points n false true q = impossible (cc)
      by points n false false q = impossible (cc)

      go : (a : Answer (List (List ℤ))) → read t b ≡ a → verdict_by t.limited t.maximum (length b) a ≡ (Err (whose.Body Short)) → a ≡ short
      go (ok points n) r q = by points n (ltb n (length b)) (exceeds t.limited t.maximum (length points)) q
      go short r q = refl
      go (bad k p) r q = impossible (cc (bad-verdict k p bytes r))

  short-verdict : read t b ≡ short → verdict_of t b ≡ (Err (whose.Body Short))
  unfolding verdict_by refusal_of
  short-verdict e = rw e

  -- bytes were left over
  abbrev Left : ℕ → Type 0
  Left place = (width 1 channels ≡ 0) × ((0 < length b) × (place ≡ 0))

  verdict-left : {place : ℕ} → Bytes b → verdict_of t b ≡ (Err (whose.Body (LeftOver place))) → Left place
  unfolding verdict_by refusal_of
  verdict-left {place} bytes e = go (read t b) refl e
    where
      by : (points : List (List ℤ)) (n : ℕ) → read t b ≡ ok points n → (left more : Bool) → ltb n (length b) ≡ left
          → cond left (Err (whose.Body (LeftOver n))) (cond more (Err (whose.Body Maximum)) (Ok (length points))) ≡ (Err (whose.Body (LeftOver place))) → Left place
      by points n r true more h q =
          let z : n ≡ place = cc in
          let g = ltb-true n (length b) h in
          let x = left_over channels b r g in
          (x.0, (omega arith, sym z ∙ x.1))
      by points n r false true h q = impossible (cc)
      by points n r false false h q = impossible (cc)

      go : (a : Answer (List (List ℤ))) → read t b ≡ a → verdict_by t.limited t.maximum (length b) a ≡ (Err (whose.Body (LeftOver place))) → Left place
      go (ok points n) r q = by points n r (ltb n (length b)) (exceeds t.limited t.maximum (length points)) refl q
      go short r q = impossible (cc)
      go (bad k p) r q = impossible (cc (bad-verdict k p bytes r))

  left-verdict : {place : ℕ} → Left place → verdict_of t b ≡ (Err (whose.Body (LeftOver place)))
  unfolding verdict_by
  left-verdict x = rw (none_read channels b x.0, lt-ltb 0 (length b) x.1.0, x.1.1)

-- ---- Bytes that end inside a point

some : (l : List ℕ) → l ≢ [] → 0 < length l
some [] h = absurd (h refl)
some (byte ∷ l) h = omega arith

module _ (flags : List Bool) (b : List ℕ) where
  -- nothing is short where a point has no bytes
  short-wide : points_in flags b ≡ short → 0 < width 1 flags
  short-wide e = go (width 1 flags) refl
    where
      go : (w : ℕ) → width 1 flags ≡ w → 0 < w
      go zero h = impossible (cc (none_read flags b h))
      go (suc w) h = omega arith

  -- what would finish the last point that was begun is shorter than a point
  short-inside : Bytes b → points_in flags b ≡ short → EndsInside flags b
  unfolding points_in
  short-inside bytes e =
      let m = begun (width 1 flags) (length b) in
      let w = short-wide e in
      let h = begun-hold (width 1 flags) (length b) w in
      let x = (short-iff (times m (point 1 flags)) b).0 e in
      let rest = x.0.rest in
      let o = (writes-points 1 flags m).only (b ++ rest) (bytes-append b rest bytes x.0.bytes) x.0.reads in
      let n : length b + length rest ≡ m * width 1 flags =
      sym (length-append b rest) ∙ ap length o.1 ∙ points-length 1 flags x.0.value o.0.1 ∙ ap (λ k. k * width 1 flags) o.0.0 in
      record {
        rest = rest;
        missing = some rest x.1;
        inside = omega (arith, h.1);
        body = record { value = x.0.value; valid = record { each = o.0.1; traced = λ z. absurd (omega arith) }; written = o.1 };
      }

  -- and bytes to which so few are missing begin as many points as there are then
  inside-short : EndsInside flags b → points_in flags b ≡ short
  inside-short x =
      let points = x.body.value in
      let valid = x.body.valid in
      let h = x.missing in
      let g = x.inside in
      let n : length b + length x.rest ≡ length points * width 1 flags =
      sym (length-append b x.rest) ∙ ap length x.body.written ∙ points-length 1 flags points valid.each in
      let m = begun-is (width 1 flags) (length b) (length points) (omega arith) (omega arith) (omega arith) in
      let r : Reads (times (length points) (point 1 flags)) (b ++ x.rest) points =
      rw x.body.written ((writes-points 1 flags (length points)).reads points (refl, valid.each)) in
      by_count flags b m ∙ short-of (times (length points) (point 1 flags)) b x.rest r (λ z. absurd (omega (arith, ap length z)))

-- ---- What the verdicts mean

pub judges-bodies : JudgesBodies
judges-bodies t b bytes r count = (to, from)
  where
    to : (judged_by (template_of t) b).verdict ≡ Ok count → Bodied t b count
    to e =
        let x = verdict-whole (said t) b (sym (verdict-is (template_of t) b r) ∙ e) in
        let o = read-body (flags t) b bytes x.taken in
        record { body = record { value = x.points; valid = o.0; written = o.1 }; many = x.many; allowed = x.allowed }

    from : Bodied t b count → (judged_by (template_of t) b).verdict ≡ Ok count
    from x =
        let o : read (said t) b ≡ ok x.body.value (length b) = rw x.body.written (body-read (flags t) x.body.value x.body.valid) in
        verdict-is (template_of t) b r ∙ whole-verdict (said t) b (record { points = x.body.value; taken = o; many = x.many; allowed = x.allowed })

pub judges-short : JudgesShort
judges-short t b bytes r = (
  λ e. short-inside (flags t) b bytes (verdict-short (said t) b bytes (sym (verdict-is (template_of t) b r) ∙ e)),
  λ x. verdict-is (template_of t) b r ∙ short-verdict (said t) b (inside-short (flags t) b x),
)

pub judges-left-over : JudgesLeftOver
judges-left-over t b place bytes r = (
  λ e. verdict-left (said t) b bytes (sym (verdict-is (template_of t) b r) ∙ e),
  λ x. verdict-is (template_of t) b r ∙ left-verdict (said t) b x,
)

-- ---- What was written

module _ (flags : List Bool) (limited : Bool) (maximum count : ℕ) (numbers : List ℤ) where
  abbrev asked : List (List ℤ)
  asked = points_of Point count (size flags) numbers

  abbrev bytes : List ℕ
  bytes = encode_body flags asked

  -- a body was written: all stages were passed, and its bytes stand before what the output held behind them
  record Wrote (out : List ℕ) (n : ℕ) (after : List ℕ) : Type 0 where
    passed : Passes flags limited maximum count numbers
    long : n ≡ length bytes
    holds : after ≡ bytes ++ drop n out

  module _ (out : List ℕ) {n : ℕ} {after : List ℕ} where
    by-room : Passes flags limited maximum count numbers → (t : Bool) → leb (length bytes) (length out) ≡ t
        → writing (Ok n) after ≡ cond t (writing (Ok (length bytes)) (puts out 0 bytes)) (writing (Err (whose.Body Room)) out) → Wrote out n after
    by-room p true h e =
        let q = ap (λ x. x.answer) e in
        let z : n ≡ length bytes = cc in
        let room : length bytes ≤ length out = leb-true (length bytes) (length out) h in
        record {
          passed = p;
          long = z;
          holds = ap (λ x. x.bytes) e ∙ puts-is out 0 bytes (omega arith) ∙ ap (λ k. bytes ++ drop k out) {x = 0 + length bytes} {y = n} (omega arith);
        }
    by-room p false h e = impossible (cc (ap (λ x. x.answer) e))

    wrote : (wanted : Bool) → writing (Ok n) after ≡ write_ruled flags limited maximum count numbers wanted out → Wrote out n after
    unfolding write_ruled put_where
    wrote wanted e = go (judgement_by flags limited maximum count numbers wanted) refl e
      where
        go : (x : Result ⊤ Refusal) → judgement_by flags limited maximum count numbers wanted ≡ x → writing (Ok n) after ≡ put_where bytes out x → Wrote out n after
        go (Ok _) h q = by-room (passes flags limited maximum count numbers wanted h) (leb (length bytes) (length out)) refl q
        go (Err refusal) h q = impossible (cc (ap (λ x. x.answer) q))

-- ---- Written, and read again

-- the template was no reason to refuse
module _ (j : templates.Judged) (count : ℕ) (numbers : List ℤ) (wanted : Bool) (out : List ℕ) where
  abbrev ruledly : Writing (Result ℕ Refused)
  ruledly = write_ruled (stored j.template.description) j.template.limited j.template.maximum count numbers wanted out

  write-ruled : ruled j ≡ Ok tt → write_by j count numbers wanted out ≡ ruledly
  unfolding write_by
  write-ruled e = rw e

  body-written : {n : ℕ} {after : List ℕ} → writing (Ok n) after ≡ write_by j count numbers wanted out → ruled j ≡ Ok tt
  unfolding write_by
  body-written {n} {after} e = go (ruled j) e
    where
      go : (x : Result ⊤ Refusal) → writing (Ok n) after ≡ write_if x j.template count numbers wanted out → x ≡ Ok tt
      go (Ok _) q = refl
      go (Err refusal) q = impossible (cc (ap (λ x. x.answer) q))

pub reads-back : ReadsBack
reads-back t count numbers wanted out n after e =
    let j = template_of t in
    let ruling = body-written j count numbers wanted out e in
    let x = wrote (flags t) (said t).limited (said t).maximum count numbers out wanted (e ∙ write-ruled j count numbers wanted out ruling) in
    let valid = passes-valid (flags t) (said t).limited (said t).maximum count numbers x.passed in
    let points = points_of Point count (size (flags t)) numbers in
    let body = encode_body (flags t) points in
    let b : take n after ≡ body = ap (take n) x.holds ∙ take_at body (drop n out) n (sym x.long) in
    let r : read (said t) (take n after) ≡ ok points n = ap (points_in (flags t)) b ∙ body-read (flags t) points valid ∙ ap (ok points) (sym x.long) in
    let m : n ≡ length (take n after) = x.long ∙ ap length (sym b) in
    let v = whole-verdict (said t) (take n after) (record { points = points; taken = r ∙ ap (ok points) m; many = points-many Point count (size (flags t)) numbers; allowed = x.passed.allowed }) in (
      judged-by j (take n after) ruling ∙ ap (described (description_of t)) v,
      (r, ap (drop n) x.holds ∙ drop_at body (drop n out) n (sym x.long)),
    )

-- ---- Read, and written again

-- points that a body has pass all stages, and where there is room its bytes are put
module _ (flags : List Bool) (limited : Bool) (maximum : ℕ) (points : List (List ℤ)) (valid : ValidBody flags points) where
  abbrev laid : List ℤ
  laid = values_of Point (size flags) points

  abbrev body : List ℕ
  body = encode_body flags points

  passes-again : length points < 16777216 → exceeds limited maximum (length points) ≡ false → Passes flags limited maximum (length points) laid
  passes-again small allowed = record {
    counted = count_fits_lem (length points) (width 1 flags) small (λ z. ap length (valid.traced z));
    fitting = laid-fits 1 flags Point points valid.each;
    allowed = allowed;
  }

  written-again : Passes flags limited maximum (length points) laid → (out : List ℕ) → length body ≤ length out
      → writing (Ok (length body)) (body ++ drop (length body) out) ≡ write_ruled flags limited maximum (length points) laid false out
  unfolding write_ruled put_where
  written-again passed out room =
      let same = points-again (size flags) points (valid-sizes 1 flags points valid.each) Point in
      let place : length body ≡ 0 + length body = omega arith in
      rw (passing flags limited maximum (length points) laid passed, same, le-leb (length body) (length out) room)
      (ap (writing (Ok (length body))) (ap (λ k. body ++ drop k out) place ∙ sym (puts-is out 0 body (omega arith))))

pub writes_again : WritesAgain
writes_again t b bytes count e small out room =
    let j = template_of t in
    let ruling = body-ruled j b e in
    let x = verdict-whole (said t) b (sym (verdict-is j b ruling) ∙ e) in
    let o = read-body (flags t) b bytes x.taken in
    let z = x.many in
    let points = x.points in
    let passed = passes-again (flags t) (said t).limited (said t).maximum points o.0 (omega arith) (rw (← z) at x.allowed) in
    ap (λ l. writing (Ok (length l)) (l ++ drop (length l) out)) o.1
    ∙ written-again (flags t) (said t).limited (said t).maximum points o.0 passed out (rw o.1 at room)
    ∙ sym (write-ruled j (length points) (values_of Point (size (flags t)) points) false out ruling)
    ∙ ap₂ (λ n a. write_by j n (values_of Point (size (flags t)) (points_read a)) false out) z (sym x.taken)
