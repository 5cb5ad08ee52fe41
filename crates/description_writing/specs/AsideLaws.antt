-- A description that is put aside, where there is room for it: how that ended says how it is judged.
use Rattle.std.specs.Prelude.{◌≡◌, refl, List, ℕ, ◌+◌, ◌-◌, ◌≤◌, length, take, drop, Result, Ok, Err, ⊤}
use Rattle.std.proofs.Common.{ap, ◌∙◌, arith, take_at}
use Rattle.formats.specs.Bytes.{impossible}
use Rattle.formats.specs.Put.{puts, puts-is, length-puts}
use Rattle.formats.specs.Lent.{writing}
use Rattle.refusals.specs.declared.Refusal.{Refusal}
use Rattle.channels.specs.Channel.{width_of}
use Rattle.channels.specs.declared.Description.{Description}
use Rattle.channels.specs.declared.Format.{Format}
use Rattle.descriptions.specs.Description.{encode_description}
use Rattle.description_judging.specs.Judging.{judgement_of}
use Rattle.description_writing.specs.Write.{put_if}
use Rattle.description_writing.specs.WriteLaws.{put-done, put_refused}

module _ (format : Format) (d : Description) (s t : List ℕ) (a : Result ℕ Refusal) (p : writing a t ≡ put_if format d s 0) (h : length (encode_description (width_of format) d) ≤ length s) where
  abbrev bytes : List ℕ
  bytes = encode_description (width_of format) d

  done : judgement_of format d ≡ Ok tt → writing a t ≡ writing (Ok (0 + length bytes)) (puts s 0 bytes)
  done e = p ∙ put-done format d s 0 e (omega (arith, h))

  refused : {refusal : Refusal} → judgement_of format d ≡ Err refusal → a ≡ Err refusal
  refused e = ap (λ x. x.answer) (p ∙ put_refused format d s 0 e)

  pub aside-done : {n : ℕ} → a ≡ Ok n → (judgement_of format d ≡ Ok tt) × (n ≤ length t) × (take (n - 0) t ≡ bytes)
  aside-done {n} q = go (judgement_of format d) refl
    where
      go : (j : Result ⊤ Refusal) → judgement_of format d ≡ j → (judgement_of format d ≡ Ok tt) × (n ≤ length t) × (take (n - 0) t ≡ bytes)
      go (Ok tt) e =
          let b = ap (λ x. x.bytes) (done e) in
          let f = ap (λ x. x.answer) (done e) in
          let y : n ≡ 0 + length bytes = cc in
          let z : n - 0 ≡ length bytes = omega arith in (
            e,
            omega (arith, h, ap length b, length-puts s 0 bytes),
            ap (λ k. take k t) z ∙ ap (take (length bytes)) (b ∙ puts-is s 0 bytes (omega (arith, h))) ∙ take_at bytes (drop (0 + length bytes) s) (length bytes) refl,
          )
      go (Err refusal) e = let f = refused e in impossible (cc)

  pub aside-refused : {refusal : Refusal} → a ≡ Err refusal → judgement_of format d ≡ Err refusal
  aside-refused {refusal} q = go (judgement_of format d) refl
    where
      go : (j : Result ⊤ Refusal) → judgement_of format d ≡ j → j ≡ Err refusal
      go (Ok _) e = let f = ap (λ x. x.answer) (done e) in impossible (cc)
      go (Err other) e = let f = refused e in cc
