-- What is judged, by where the parts of a record lie.
use Rattle.std.specs.Prelude.{Ok, Err}
use mathlib.Core.Path.{◌≡◌, refl, sym, ap, ◌∙◌}
use mathlib.Core.Bool.{Bool}
use mathlib.Core.List.{List}
use Prim.Native.Nat.{ℕ, ◌-◌, ◌≤◌}
use lib.ListN.{length}
use Rattle.formats.specs.Bytes.{impossible}
use Rattle.formats.specs.Reader.{Answer, ok, short, bad, run, read_at, bind, literal}
use Rattle.formats.specs.Compose.{at-start, at-short}
use Rattle.formats.proofs.Ends.{at-within}
use Rattle.formats.specs.Told.{told, failed, answered, at-bind-failed}
use Rattle.formats.specs.declared.Failure.{Failure}
use Rattle.formats.specs.declared.Failure.TheVariants.{Short, Bad}
use Rattle.refusals.specs.Table.{refusal_of}
use Rattle.refusals.specs.declared.Refusal.{Refusal}
use Rattle.descriptions.specs.Description.{description}
use Rattle.descriptions.specs.Read.{nothing, described, described_to, undescribed, measured-done, measured-failed}
use Rattle.descriptions.specs.declared.Described.{Described}
use Rattle.records.specs.Record.{Record, full_record}
use Rattle.channels.specs.declared.Format.TheVariants.{Full}
use Rattle.identifications.specs.Identification.{identification}
use Rattle.record_fronts.specs.Front.{front, body, in_two}
use Rattle.record_fronts.specs.Fronted.{fronted, front_behind}
use Rattle.record_fronts.specs.FrontLaws.{front-done, front-failed, channelled-done, channelled-failed}
use Rattle.record_layouts.specs.Layout.{layout_at}
use Rattle.record_reading.specs.DescribedLaws.{record-described}
use Rattle.record_layouts.specs.LayoutLaws.{record-lies, failed-lies, unfronted-layout}
use Rattle.record_reading.specs.Verdict.{verdict_from, extent_of, description_in, judged, unjudged}
use Rattle.record_layouts.specs.declared.Layout.{Layout}
use Rattle.record_reading.specs.declared.Judged.{Judged}
use Rattle.record_reading.specs.declared.Extent.{Extent}

-- ---- A failure, as each answers it

verdict-of-failed : (start : ℕ) (f : Failure) → Err (refusal_of f) ≡ verdict_from start (failed f)
unfolding verdict_from
verdict-of-failed start Short = refl
verdict-of-failed start (Bad k p) = refl

nothing-failed : (f : Failure) → nothing Full ≡ description_in (failed f)
unfolding description_in
nothing-failed Short = refl
nothing-failed (Bad k p) = refl

-- ---- From a place on

pub record-past : (s : List ℕ) (start : ℕ) → length s ≤ start → read_at full_record s start ≡ short
unfolding full_record literal bind
record-past s start h = at-short _ _ s start h

module _ (s : List ℕ) (start : ℕ) (inside : start ≤ length s) where
  pub record-from : {l : Layout} → layout_at s start ≡ Ok l → start ≤ l.end
  record-from e = (at-within full_record s start (record-lies s start inside e).1 inside).0

  pub verdict-record : {l : Layout} → layout_at s start ≡ Ok l → Ok (extent_of start l) ≡ verdict_from start (read_at full_record s start)
  unfolding verdict_from
  verdict-record {l} e =
      let x = record-lies s start inside e in
      (λ i. (Ok (record { length = l.end - start; count = sym x.4.count i; extended = sym x.4.extension.presence i }))) ∙ sym (ap (verdict_from start) x.1)

  pub verdict-failed : {f : Failure} → layout_at s start ≡ Err f → Err (refusal_of f) ≡ verdict_from start (read_at full_record s start)
  verdict-failed {f} e = verdict-of-failed start f ∙ sym (ap (verdict_from start) (failed-lies s start inside e))

-- ---- From the start on, behind the identifier and the version

module _ (s : List ℕ) {at : ℕ} (place : told (read_at identification s 0) ≡ Ok at) where
  -- the front behind a description
  pub front-described : {d : Described} → described (read_at (description Full) s at) ≡ Ok d → front_behind s (undescribed d) ≡ fronted (read_at front s 0)
  front-described e = channelled-done s at (measured-done (read_at (description Full) s at) e) ∙ sym (ap fronted (front-done s 0 place))

  -- and where there is none
  pub undescribed-layout : {f : Failure} → described (read_at (description Full) s at) ≡ Err f → layout_at s 0 ≡ Err f
  undescribed-layout e =
      unfronted-layout s 0 (ap fronted (front-done s 0 place) ∙ sym (channelled-failed s at (measured-failed (read_at (description Full) s at) e)))

-- ---- With the description

module _ (s : List ℕ) where
  -- a record's is what is read behind the identifier and the version
  record-by : {at : ℕ} {d : Described} {e : Extent} → told (read_at identification s 0) ≡ Ok at → described (read_at (description Full) s at) ≡ Ok d → (x : Answer Record) → read_at full_record s 0 ≡ x
      → Ok e ≡ verdict_from 0 x → d.description ≡ description_in x
  unfolding verdict_from description_in answered
  record-by {d = d} place h (ok r n) q e =
      let z : Ok (described_to r.description (record-described s 0 place q).0) ≡ Ok d = sym (ap described (record-described s 0 place q).1) ∙ h in
      let y : described_to r.description (record-described s 0 place q).0 ≡ d = cc in
      sym (ap (λ x. x.description) y)
  record-by place h short q e = impossible (cc)
  record-by place h (bad k p) q e = impossible (cc)

  pub judged-record : {at : ℕ} {d : Described} {e : Extent} → told (read_at identification s 0) ≡ Ok at → described (read_at (description Full) s at) ≡ Ok d → Ok e ≡ verdict_from 0 (read_at full_record s 0)
      → ◌≡◌ {A = Judged} (record { verdict = Ok e; description = d.description }) (judged (run full_record s))
  judged-record place h e =
      (λ i. record { verdict = e i; description = record-by place h (read_at full_record s 0) refl e i }) ∙ ap judged (at-start full_record s)

  refused-by : {f : Refusal} (x : Answer Record) → Err f ≡ verdict_from 0 x → nothing Full ≡ description_in x
  unfolding verdict_from description_in
  refused-by (ok r n) e = impossible (cc)
  refused-by short e = refl
  refused-by (bad k p) e = refl

  pub judged-refused : {f : Refusal} → Err f ≡ verdict_from 0 (read_at full_record s 0) → unjudged (Err f) ≡ judged (run full_record s)
  judged-refused e = (λ i. record { verdict = e i; description = refused-by (read_at full_record s 0) e i }) ∙ ap judged (at-start full_record s)

  -- where the identifier or the version fails there is none
  pub unidentified : {f : Failure} → told (read_at identification s 0) ≡ Err f → unjudged (Err (refusal_of f)) ≡ judged (run full_record s)
  unidentified {f} e =
      let x = sym (at-start full_record s) ∙ ap (λ r. read_at r s 0) in_two ∙ at-bind-failed front body s 0 f (front-failed s 0 e) in
      (λ i. record { verdict = verdict-of-failed 0 f i; description = nothing-failed f i }) ∙ ap judged (sym x)
