-- Laws of steps: over a record, at the end, and what a step that answers a record or the end says of the file.
use Rattle.std.specs.Prelude.{◌≡◌, Bool, cond, ℕ, zero, suc, ◌+◌, ◌-◌, ◌≤◌, ◌<◌, ltb, drop, get_or, Ok, Err, Some, None, Result}
use Rattle.std.proofs.Math.Path.{refl, ap}
use Rattle.std.proofs.Common.{sym, ◌∙◌, arith, take-append-drop, take-suc, drop-cons, take-add, lt-ltb, le-ltb, ltb-true, ltb-false}
use Rattle.std.proofs.Math.Bool.{true, false}
use mathlib.Core.List.{List, [], ◌∷◌, ◌++◌, flatten, append-nil, append_assoc}
use Rattle.std.proofs.Math.ListN.{length, take, length-append, length-drop}
use Rattle.std.proofs.Math.Seq.{drop-append_seam}
use Rattle.formats.specs.Bytes.{Bytes, bytes_drop, impossible}
use Rattle.formats.specs.Reader.{Answer, ok, short, bad, after, run, read_at}
use Rattle.formats.proofs.Lawful.{whole}
use Rattle.formats.specs.Writes.{All, all_append}
use Rattle.formats.specs.declared.Failure.TheVariants.{Short, Bad}
use Rattle.refusals.specs.Table.{refusal_of}
use Rattle.records.specs.Record.{Record, full_record, IsRecord, present}
use Rattle.records.specs.Demands.{wants, read-after-write, write-after-read}
use Rattle.record_reading.specs.Verdict.{verdict_from}
use Rattle.record_reading.specs.declared.Extent.{Extent}
use Rattle.walks.specs.Walk.{stays, stepped, step_of, record_of, start_of}
use Rattle.walks.specs.declared.Step.{Step}
use Rattle.refusals.specs.declared.Refusal.{Refusal}

-- ---- Joined lists

flatten-append : (bs cs : List (List ℕ)) → flatten (bs ++ cs) ≡ flatten bs ++ flatten cs
unfolding flatten
flatten-append [] cs = refl
flatten-append (b ∷ bs) cs = ap (λ (l : List ℕ). b ++ l) (flatten-append bs cs) ∙ sym (append_assoc b (flatten bs) (flatten cs))

module _ (P : List ℕ → Type 0) where
  pub all-at : (bs : List (List ℕ)) → All P bs → (k : ℕ) → k < length bs → P (get_or bs k [])
  all-at [] h k q = absurd (omega arith)
  all-at (b ∷ bs) h zero q = h.0
  all-at (b ∷ bs) h (suc k) q = all-at bs h.1 k (omega arith)

module _ (bs : List (List ℕ)) where
  -- the records before record k, and the others
  parted : (k : ℕ) → flatten bs ≡ flatten (take k bs) ++ flatten (drop k bs)
  parted k = ap flatten (sym (take-append-drop k bs)) ∙ flatten-append (take k bs) (drop k bs)

  -- from where record k starts stand record k and the others
  pub from_start : (k : ℕ) → k < length bs → drop (start_of bs k) (flatten bs) ≡ get_or bs k [] ++ flatten (drop (suc k) bs)
  unfolding flatten
  from_start k h = ap (drop (start_of bs k)) (parted k) ∙ drop-append_seam (flatten (take k bs)) (flatten (drop k bs)) ∙ ap flatten (drop-cons bs k [] h)

  pub next_start : (k : ℕ) → k < length bs → start_of bs (suc k) ≡ start_of bs k + length (get_or bs k [])
  unfolding flatten
  next_start k h =
      ap (λ (l : List (List ℕ)). length (flatten l)) (take-suc bs k [] h)
      ∙ ap length (flatten-append (take k bs) (get_or bs k [] ∷ []))
      ∙ length-append (flatten (take k bs)) (get_or bs k [] ++ [])
      ∙ ap (λ (l : List ℕ). start_of bs k + length l) (append-nil (get_or bs k []))

-- ---- A step over a record

-- so a record that is read has a byte
some_bytes : (s : List ℕ) (r : Record) (n : ℕ) → run full_record s ≡ ok r n → 0 < n
some_bytes s r zero e = impossible (cc (wants, (whole full_record s e).same []))
some_bytes s r (suc n) e = omega arith

-- a record is read whatever follows it
read-joined : {b : List ℕ} (t : List ℕ) (x : IsRecord b) → run full_record (b ++ t) ≡ ok x.value (length b)
read-joined t x = rw x.written (read-after-write x.value t x.valid)

-- a step, by what is read of the bytes from its place on
unfoldable stepped-read : (place : ℕ) → Answer Record → Step
stepped-read place x = stepped place (verdict_from place (after place x))

-- over a record it leads behind it
over : (place : ℕ) (r : Record) (n : ℕ) → stepped-read place (ok r n) ≡ record { found = Some (Ok (record { length = n; count = length r.points; extended = present r.extended })); next = place + n }
unfolding stepped-read stepped verdict_from after
over place r n = let z : place + n - place ≡ n = omega arith in rw z

-- and over no record it stays
stood-short : (place : ℕ) → stepped-read place short ≡ stays (Some (Err (refusal_of Short))) place
unfolding stepped-read stepped verdict_from after
stood-short place = refl

stood-bad : (place k p : ℕ) → stepped-read place (bad k p) ≡ stays (Some (Err (refusal_of (Bad k (place + p))))) place
unfolding stepped-read stepped verdict_from after
stood-bad place k p = refl

pub step-record : (file : List ℕ) (place : ℕ) {b : List ℕ} (t : List ℕ) (x : IsRecord b) → drop place file ≡ b ++ t → step_of file place ≡ record { found = record_of x; next = place + length b }
unfolding step_of read_at stepped-read
step-record file place {b} t x e =
    let n = ap length e in
    rw (lt-ltb place (length file) (omega (arith, some_bytes (b ++ t) x.value (length b) (read-joined t x), length-drop place file, length-append b t, n)), e, read-joined t x)
    (over place x.value (length b))

pub step_end : (file : List ℕ) (place : ℕ) → length file ≤ place → step_of file place ≡ stays None place
unfolding step_of
step_end file place h = rw (le-ltb place (length file) h)

-- ---- What a step says of the file

never : (place : ℕ) (v : Result Extent Refusal) → (stepped place v).found ≡ None → ⊥
unfolding stepped
never place (Ok extent) e = impossible (cc)
never place (Err refusal) e = impossible (cc)

-- nothing but the end is answered by "end"
pub end-there : (file : List ℕ) (place : ℕ) → (step_of file place).found ≡ None → length file ≤ place
unfolding step_of
end-there file place e = go (ltb place (length file)) refl (verdict_from place (read_at full_record file place)) e
  where
    go : (t : Bool) → ltb place (length file) ≡ t → (v : Result Extent Refusal) → (cond t (stepped place v) (stays None place)).found ≡ None → length file ≤ place
    go true h v q = absurd (never place v q)
    go false h v q = ltb-false place (length file) h

moves : (file : List ℕ) (place : ℕ) {n k : ℕ} {t : Bool} → (step_of file place).found ≡ Some (Ok (record { length = n; count = k; extended = t }))
    → (place < (step_of file place).next) × ((step_of file place).next ≤ length file)
unfolding step_of read_at stepped-read
moves file place {n} {k} {t} e = go (ltb place (length file)) refl (run full_record (drop place file)) refl e
  where
    go : (b : Bool) → ltb place (length file) ≡ b → (x : Answer Record) → run full_record (drop place file) ≡ x
        → (cond b (stepped-read place x) (stays None place)).found ≡ Some (Ok (record { length = n; count = k; extended = t }))
        → (place < (cond b (stepped-read place x) (stays None place)).next) × ((cond b (stepped-read place x) (stays None place)).next ≤ length file)
    go true h (ok r m) g q =
        let z = ap (λ (y : Step). y.next) (over place r m) in
        (omega (arith, z, some_bytes (drop place file) r m g), omega (arith, z, ltb-true, (whole full_record (drop place file) g).within, length-drop place file))
    go true h short g q = impossible (cc (ap (λ (y : Step). y.found) (stood-short place)))
    go true h (bad j p) g q = impossible (cc (ap (λ (y : Step). y.found) (stood-bad place j p)))
    go false h x g q = impossible (cc)

-- a step over a record leads on, and not beyond the file
pub step-on : (file : List ℕ) (place : ℕ) (r : Step) → r ≡ step_of file place → {n k : ℕ} {t : Bool} → r.found ≡ Some (Ok (record { length = n; count = k; extended = t })) → (place < r.next) × (r.next ≤ length file)
step-on file place r e g = rw e (moves file place (ap (λ (x : Step). x.found) (sym e) ∙ g))

-- the bytes before a place are whole records
pub record Covered (file : List ℕ) (place : ℕ) : Type 0 where
  pub within : place ≤ length file
  pub cut : List (List ℕ)
  pub records : All IsRecord cut
  pub joined : flatten cut ≡ take place file

module _ (file : List ℕ) (bytes : Bytes file) (place : ℕ) (p : Covered file place) where
  -- a record that is read there is one more
  one_more : (r : Record) (n : ℕ) → run full_record (drop place file) ≡ ok r n → Covered file (place + n)
  unfolding flatten
  one_more r n e =
      let y = write-after-read (drop place file) r n (bytes_drop place file bytes) e in
      let b = take n (drop place file) in
      record {
        within = omega (arith, (whole full_record (drop place file) e).within, length-drop place file, p.within);
        cut = p.cut ++ (b ∷ []);
        records = all_append IsRecord p.cut (b ∷ []) p.records (record { value = r; valid = y.0; written = y.1 }, tt);
        joined = flatten-append p.cut (b ∷ []) ∙ rw (p.joined, append-nil b) (sym (take-add place n file));
      }

  -- so whatever a step answers, what lies before the next place are whole records
  pub covers : Covered file (step_of file place).next
  unfolding step_of read_at stepped-read
  covers = go (ltb place (length file)) (run full_record (drop place file)) refl
    where
      go : (t : Bool) (x : Answer Record) → run full_record (drop place file) ≡ x → Covered file (cond t (stepped-read place x) (stays None place)).next
      go true (ok r n) e = rw (over place r n) (one_more r n e)
      go true short e = rw (stood-short place) p
      go true (bad k q) e = rw (stood-bad place k q) p
      go false x e = p
