-- What is written where something isn't wanted; what was read is written back, a refusal leaves the bytes as they were, and what isn't wanted isn't looked at. `ReadBack`, among the proofs: what was written is read back.
use Rattle.std.specs.Prelude.{◌≡◌, Bool, cond, List, ◌++◌, ℕ, ◌≤◌, length, drop, Result, Ok, Err, ⊤}
use Rattle.std.proofs.Math.Path.{refl}
use Rattle.std.proofs.Common.{arith, le-leb, le-ltb}
use Rattle.std.proofs.Math.Bool.{true, false}
use Rattle.std.proofs.Math.Dec.{leb}
use Rattle.formats.specs.Bytes.{Bytes, impossible}
use Rattle.formats.specs.Lent.{writing}
use Rattle.channels.specs.declared.Description.{Description}
use Rattle.channels.specs.declared.Format.TheVariants.{Compact}
use Rattle.descriptions.specs.Read.{nothing}
use Rattle.refusals.specs.Stages.{require, or_else, stages}
use Rattle.refusals.specs.declared.Refusal.{Refusal}
use Rattle.description_judging.proofs.JudgingLaws.{valid-passed}
use Rattle.templates.specs.declared.Template.{Template}
use Rattle.templates.specs.Template.{encode_described, encode_limited, encode, Describes, Limits}
use Rattle.templates.specs.Reading.{saying, accepted, template_of}
use Rattle.templates.specs.EncodedLaws.{written_read}
use Rattle.template_writing.specs.Writing.{description_stage, exceeds, in_room, put_where, judgement_of, write_of}

-- the template that is written: zeros stand for what isn't wanted
abbrev pub wanted : (described : Bool) (d : Description) (limited : Bool) (maximum : ℕ) → Template
wanted described d limited maximum = saying described (cond described d (nothing Compact)) limited (cond limited maximum 0)

-- ---- What passes

describes-passed : (described : Bool) (d : Description) → Describes described d → description_stage described d ≡ Ok tt
unfolding description_stage
describes-passed true d h = (valid-passed Compact d h).0
describes-passed false d h = refl

limits-passed : (limited : Bool) (n : ℕ) → Limits limited n → exceeds limited n ≡ false
unfolding exceeds
limits-passed true n h = le-ltb 16777215 n (omega arith)
limits-passed false n h = refl

-- ---- What an answer says

module _ (described : Bool) (d : Description) (limited : Bool) (n : ℕ) (out : List ℕ) where
  abbrev b : List ℕ
  b = encode (saying described d limited n)

  -- a refusal leaves the bytes as they were
  pub unchanged : {refusal : Refusal} → (write_of described d limited n out).answer ≡ Err refusal → (write_of described d limited n out).bytes ≡ out
  unfolding write_of put_where in_room
  unchanged {refusal} e = go (judgement_of described d limited n) (leb (length b) (length out)) refl e
    where
      go : (j : Result ⊤ Refusal) (t : Bool) → leb (length b) (length out) ≡ t → (put_where j b out).answer ≡ Err refusal → (put_where j b out).bytes ≡ out
      go (Ok _) true q e = impossible (cc (rw q at e))
      go (Ok _) false q e = rw q
      go (Err other) t q e = refl

-- what was read is written back, byte for byte
pub write-back : (b : List ℕ) {t : Template} (out : List ℕ) → Bytes b → template_of b ≡ accepted t → length b ≤ length out
    → write_of t.described t.description t.limited t.maximum out ≡ writing (Ok (length b)) (b ++ drop (length b) out)
unfolding write_of judgement_of stages or_else require put_where in_room
write-back b {t} out g e h =
    let w = written_read b g e in
    rw (describes-passed t.described t.description w.0.description, limits-passed t.limited t.maximum w.0.maximum, ← w.1, le-leb (length b) (length out) h)

-- ---- What isn't wanted

pub description-unwanted : (d e : Description) (limited : Bool) (n : ℕ) (out : List ℕ) → write_of false d limited n out ≡ write_of false e limited n out
unfolding write_of judgement_of description_stage encode encode_described
description-unwanted d e limited n out = refl

pub maximum-unwanted : (described : Bool) (d : Description) (n m : ℕ) (out : List ℕ) → write_of described d false n out ≡ write_of described d false m out
unfolding write_of judgement_of exceeds encode encode_limited
maximum-unwanted described d n m out = refl
