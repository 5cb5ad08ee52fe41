-- The template of a record that is put aside, where there is room for every one: how that ended says how its numbers are judged, and so how the record is.
use Rattle.std.specs.Prelude.{Result, Ok, Err, ⊤}
use mathlib.Core.Path.{◌≡◌, refl, ap, ap₂, ◌∙◌}
use mathlib.Core.Bool.{true, false}
use mathlib.Core.List.{List, [], ◌++◌}
use Prim.Native.Nat.{ℕ, ◌-◌, ◌≤◌}
use native.Mathlib.Nat.{sub-zero}
use native.Mathlib.Omega.{arith}
use borrow.Author.Tests.{le-leb}
use lib.ListN.{length, take, drop, replicate, length-append}
use lib.Seq.{take_at}
use Rattle.formats.specs.Bytes.{impossible}
use Rattle.formats.specs.Lent.{writing}
use Rattle.refusals.specs.Stages.{require, or_else, stages, compactly, or-else-last}
use Rattle.refusals.specs.Table.{in_compact}
use Rattle.refusals.specs.declared.Refusal.{Refusal}
use Rattle.channels.specs.declared.Description.{Description}
use Rattle.channels.specs.declared.Format.TheVariants.{Compact}
use Rattle.description_judging.specs.Judging as described
use Rattle.records.specs.Record.{Record}
use Rattle.templates.specs.Template.{encode_described, encode_limited, encode}
use Rattle.templates.specs.Reading.{saying}
use Rattle.templates.specs.EncodedLaws.{described-size}
use Rattle.template_writing.specs.Writing.{description_stage, exceeds, in_room, put_where, write_of}
use Rattle.template_writing.specs.Writing as template-writing
use Rattle.turning.specs.Turning.{compacted, judged_body, judgement_of}

-- ---- How a record is judged, by its description's numbers

module _ (r : Record) where
  pub by-body : described.judgement_of Compact (compacted r.description) ≡ Ok tt → judgement_of r ≡ judged_body r
  unfolding judgement_of stages or_else compactly
  by-body e = rw e (or-else-last (judged_body r))

  pub by-numbers : {refusal : Refusal} → described.judgement_of Compact (compacted r.description) ≡ Err refusal → judgement_of r ≡ Err (in_compact refusal)
  unfolding judgement_of stages or_else compactly
  by-numbers e = rw e

-- ---- The template put aside

module _ (d : Description) (a : Result ℕ Refusal) (t : List ℕ) (p : writing a t ≡ write_of true d false 0 (replicate 118 0)) where
  abbrev bytes : List ℕ
  bytes = encode (saying true d false 0)

  small : length bytes ≤ 118
  unfolding encode encode_limited
  small = omega (arith, length-append (encode_described true d) [], described-size true d)

  judged : template-writing.judgement_of true d false 0 ≡ described.judgement_of Compact d
  unfolding template-writing.judgement_of description_stage exceeds stages or_else require
  judged = or-else-last (described.judgement_of Compact d)

  by : {j : Result ⊤ Refusal} → described.judgement_of Compact d ≡ j → writing a t ≡ put_where j bytes (replicate 118 0)
  unfolding write_of
  by e = p ∙ ap (λ j. put_where j bytes (replicate 118 0)) (judged ∙ e)

  done : described.judgement_of Compact d ≡ Ok tt → writing a t ≡ writing (Ok (length bytes)) (bytes ++ drop (length bytes) (replicate 118 0))
  unfolding put_where in_room
  done e = by e ∙ rw (le-leb (length bytes) (length {A = ℕ} (replicate 118 0)) (omega (arith, small)))

  refused : {refusal : Refusal} → described.judgement_of Compact d ≡ Err refusal → a ≡ Err refusal
  unfolding put_where
  refused e = ap (λ x. x.answer) (by e)

  pub aside-done : {n : ℕ} → a ≡ Ok n → (described.judgement_of Compact d ≡ Ok tt) × (n ≤ length t) × (take (n - 0) t ≡ bytes)
  aside-done {n} q = go (described.judgement_of Compact d) refl
    where
      go : (j : Result ⊤ Refusal) → described.judgement_of Compact d ≡ j → (described.judgement_of Compact d ≡ Ok tt) × (n ≤ length t) × (take (n - 0) t ≡ bytes)
      go (Ok tt) e =
          let f = ap (λ x. x.answer) (done e) in
          let y : n ≡ length bytes = cc in
          (e, omega (arith, ap length (ap (λ x. x.bytes) (done e)), length-append bytes (drop (length bytes) (replicate 118 0))), ap₂ take (sub-zero n ∙ y) (ap (λ x. x.bytes) (done e)) ∙ take_at bytes (drop (length bytes) (replicate 118 0)) (length bytes) refl)
      go (Err refusal) e = let f = refused e in impossible (cc)

  pub aside-refused : {refusal : Refusal} → a ≡ Err refusal → described.judgement_of Compact d ≡ Err refusal
  aside-refused {refusal} q = go (described.judgement_of Compact d) refl
    where
      go : (j : Result ⊤ Refusal) → described.judgement_of Compact d ≡ j → j ≡ Err refusal
      go (Ok _) e = let f = ap (λ x. x.answer) (done e) in impossible (cc)
      go (Err other) e = let f = refused e in cc
