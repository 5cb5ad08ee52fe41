-- What was written is read back: where an answer says done, every stage passed, and what is in front of the rest is the encoding of a valid template.
use Rattle.std.specs.Prelude.{◌≡◌, Bool, cond, List, [], ◌∷◌, ◌++◌, ℕ, length, drop, Result, Ok, Err, ⊤}
use Rattle.std.proofs.Math.Path.{refl, ap}
use Rattle.std.proofs.Common.{sym, ◌∙◌, arith, ltb-false}
use Rattle.std.proofs.Math.Bool.{true, false}
use Rattle.std.proofs.Math.Dec.{leb}
use Rattle.std.proofs.Math.ListN.{take}
use Rattle.std.proofs.Math.Seq.{take-append_seam}
use Rattle.std.proofs.lemmas.Bool.{not-true}
use Rattle.formats.specs.Bytes.{impossible}
use Rattle.formats.specs.Lent.{writing}
use Rattle.channels.specs.declared.Description.{Description}
use Rattle.channels.specs.declared.Format.TheVariants.{Compact}
use Rattle.descriptions.specs.Read.{nothing}
use Rattle.refusals.specs.Stages.{require-passed, stages-passed}
use Rattle.refusals.specs.declared.Refusal.TheVariants.{Room}
use Rattle.description_judging.proofs.JudgingLaws.{passed-valid}
use Rattle.templates.specs.Template.{encode_described, encode_limited, encode, Describes, Limits}
use Rattle.templates.specs.Reading.{saying, accepted, template_of}
use Rattle.templates.specs.EncodedLaws.{read-written}
use Rattle.template_writing.specs.Writing.{description_stage, maximum_stage, exceeds, in_room, put_where, judgement_of, write_of}
use Rattle.template_writing.specs.Written.{wanted}
use Rattle.refusals.specs.declared.Refusal.{Refusal}

encode-wanted : (described : Bool) (d : Description) (limited : Bool) (n : ℕ) → encode (saying described d limited n) ≡ encode (wanted described d limited n)
unfolding encode encode_described encode_limited
encode-wanted true d true n = refl
encode-wanted true d false n = refl
encode-wanted false d true n = refl
encode-wanted false d false n = refl

-- ---- What passes

describes : (described : Bool) (d : Description) → description_stage described d ≡ Ok tt → length d.channels ≡ 16 → Describes described (cond described d (nothing Compact))
unfolding description_stage
describes true d e h = passed-valid Compact d e h
describes false d e h = refl

limits : (limited : Bool) (n : ℕ) → exceeds limited n ≡ false → Limits limited (cond limited n 0)
unfolding exceeds
limits true n e = omega (arith, ltb-false 16777215 n e)
limits false n e = refl

-- ---- What an answer says

module _ (described : Bool) (d : Description) (limited : Bool) (n : ℕ) (out : List ℕ) where
  abbrev b : List ℕ
  b = encode (saying described d limited n)

  record Good (size : ℕ) (bytes : List ℕ) : Type 0 where
    passes : judgement_of described d limited n ≡ Ok tt
    length-is : size ≡ length b
    bytes-are : bytes ≡ b ++ drop (length b) out

  by-room : {size : ℕ} {bytes : List ℕ} (t : Bool) → judgement_of described d limited n ≡ Ok tt
      → cond t (writing (Ok (length b)) (b ++ drop (length b) out)) (writing (Err Room) out) ≡ writing (Ok size) bytes → Good size bytes
  by-room true p e = let a = ap (λ w. w.answer) e in record { passes = p; length-is = cc; bytes-are = sym (ap (λ w. w.bytes) e) }
  by-room false p e = impossible (cc (ap (λ w. w.answer) e))

  good : {size : ℕ} {bytes : List ℕ} → write_of described d limited n out ≡ writing (Ok size) bytes → Good size bytes
  unfolding write_of put_where in_room
  good {size} {bytes} e = go (judgement_of described d limited n) refl e
    where
      go : (j : Result ⊤ Refusal) → judgement_of described d limited n ≡ j → put_where j b out ≡ writing (Ok size) bytes → Good size bytes
      go (Ok _) p e = by-room (leb (length b) (length out)) p e
      go (Err refusal) p e = impossible (cc (ap (λ w. w.answer) e))

  -- what was written is read back: the first bytes are the template, and the others are as they were
  pub read_back : {size : ℕ} {bytes : List ℕ} → length d.channels ≡ 16 → write_of described d limited n out ≡ writing (Ok size) bytes
      → (template_of (take size bytes) ≡ accepted (wanted described d limited n)) × (bytes ≡ take size bytes ++ drop size out)
  unfolding judgement_of
  read_back {size} {bytes} h e =
      let g = good e in
      let s = stages-passed (description_stage described d ∷ maximum_stage limited n ∷ []) g.passes in
      let t : take size bytes ≡ b = rw (g.length-is, g.bytes-are) (take-append_seam b (drop (length b) out)) in (
        ap template_of (t ∙ encode-wanted described d limited n)
            ∙ read-written (wanted described d limited n) (record { description = describes described d s.0 h; maximum = limits limited n (not-true _ (require-passed _ _ s.1.0)) }),
        g.bytes-are ∙ rw (t, g.length-is),
      )
