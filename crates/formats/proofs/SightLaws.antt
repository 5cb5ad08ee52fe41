-- What a reader answers depends on the bytes that it looks at and on no other; how many these are is told by its answer, and they are no more than the longest string that it takes has.
use Rattle.std.specs.Prelude.{◌≡◌, Bool, drop}
use Rattle.std.proofs.Math.Path.{refl, ap}
use Rattle.std.proofs.Common.{sym, ◌∙◌, length-append, length-take, take_all}
use Rattle.std.proofs.Math.Bool.{true, false}
use mathlib.Core.List.{List, [], ◌∷◌, ◌++◌}
use Prim.Native.Nat.{ℕ, suc, ◌+◌, ◌≤◌}
use native.Mathlib.Omega.{arith}
use Rattle.std.proofs.Math.ListN.{length, take, length-drop}
use Rattle.std.proofs.Math.Seq.{length-take-le}
use Rattle.formats.specs.Bytes.{Bytes, bytes-append, bytes_take, bytes_drop, impossible}
use Rattle.formats.specs.Reader.{Reader, done, byte, Answer, ok, short, bad, next, after, run, read_at}
use Rattle.formats.specs.Law.{Reads, Begun}
use Rattle.formats.proofs.Lawful.{whole, refused, reads-take, short-iff}
use Rattle.formats.specs.Compose.{at-start}
use Rattle.formats.specs.Told.{failed}
use Rattle.formats.specs.Fixed.{Fixed}
use Rattle.formats.specs.Sight.{asked, seen, Same, failed_sight, FailedWithin}
use Rattle.formats.specs.declared.Failure.{Failure}
use Rattle.formats.specs.declared.Failure.TheVariants.{Short, Bad}

-- ---- No other byte counts

module _ {A : Type 0} where
  pub same-run : (r : Reader A) (s t : List ℕ) → take (asked r s) s ≡ take (asked r s) t → (run r s ≡ run r t) × (asked r s ≡ asked r t)
  unfolding run asked
  same-run (done v) s t e = (refl, refl)
  same-run (byte c f) [] [] e = (refl, refl)
  same-run (byte c f) [] (y ∷ t) e = impossible (cc)
  same-run (byte c f) (b ∷ s) t e = go (c.holds b) refl t e (same-run (f b) s)
    where
      go : (x : Bool) → c.holds b ≡ x → (t : List ℕ)
          → take (elim x as (λ y. ℕ) [ true ↦ suc (asked (f b) s) | false ↦ 1 ]) (b ∷ s) ≡ take (elim x as (λ y. ℕ) [ true ↦ suc (asked (f b) s) | false ↦ 1 ]) t
          → ((t : List ℕ) → take (asked (f b) s) s ≡ take (asked (f b) s) t → (run (f b) s ≡ run (f b) t) × (asked (f b) s ≡ asked (f b) t))
          → (elim x as (λ y. Answer A) [ true ↦ next (run (f b) s) | false ↦ bad c.fault 0 ] ≡ run (byte c f) t)
          × (elim x as (λ y. ℕ) [ true ↦ suc (asked (f b) s) | false ↦ 1 ] ≡ asked (byte c f) t)
      go true h [] e rest = impossible (cc)
      go true h (y ∷ t) e rest =
          let z : b ≡ y = cc in
          let q = rest t (cc) in
          let g : c.holds y ≡ true = ap c.holds (sym z) ∙ h in
          rw g (ap next (q.0 ∙ ap (λ x. run (f x) t) z), ap suc (q.1 ∙ ap (λ x. asked (f x) t) z))
      go false h [] e rest = impossible (cc)
      go false h (y ∷ t) e rest = let z : b ≡ y = cc in rw (← z, h) (refl, refl)

  module _ (r : Reader A) (s t : List ℕ) (at : ℕ) (e : Same r s t at) where
    pub same_read : read_at r s at ≡ read_at r t at
    unfolding read_at Same seen
    same_read = ap (after at) (same-run r (drop at s) (drop at t) e).0

    pub same_seen : seen r s at ≡ seen r t at
    unfolding Same seen
    same_seen = e ∙ ap (λ n. take n (drop at t)) (same-run r (drop at s) (drop at t) e).1

-- ---- How many they are, by the answer

module _ {A : Type 0} where
  asked_by : List ℕ → Answer A → ℕ
  asked_by s (ok v n) = n
  asked_by s short = suc (length s)
  asked_by s (bad k p) = suc p

  one_more : (b : ℕ) (s : List ℕ) (x : Answer A) → suc (asked_by s x) ≡ asked_by (b ∷ s) (next x)
  unfolding asked_by next
  one_more b s (ok v n) = refl
  one_more b s short = refl
  one_more b s (bad k p) = refl

  asked_is : (r : Reader A) (s : List ℕ) → asked r s ≡ asked_by s (run r s)
  unfolding asked run asked_by
  asked_is (done v) s = refl
  asked_is (byte c f) [] = refl
  asked_is (byte c f) (b ∷ s) = go (c.holds b) (asked_is (f b) s)
    where
      go : (x : Bool) → asked (f b) s ≡ asked_by s (run (f b) s)
          → elim x as (λ y. ℕ) [ true ↦ suc (asked (f b) s) | false ↦ 1 ] ≡ asked_by (b ∷ s) (elim x as (λ y. Answer A) [ true ↦ next (run (f b) s) | false ↦ bad c.fault 0 ])
      go true e = ap suc e ∙ one_more b s (run (f b) s)
      go false e = refl

module _ {A : Type 0} (r : Reader A) (s : List ℕ) (at : ℕ) where
  abbrev rest : List ℕ
  rest = drop at s

  -- those of what was read
  pub seen-ok : {v : A} {n : ℕ} → read_at r s at ≡ ok v n → length (seen r s at) + at ≡ n
  unfolding seen read_at after asked_by
  seen-ok {v} {n} e = rw (asked_is r rest) (go (run r rest) refl e)
    where
      go : (x : Answer A) → run r rest ≡ x → after at x ≡ ok v n → length (take (asked_by rest x) rest) + at ≡ n
      go (ok u m) q g = let z : at + m ≡ n = cc in omega (arith, length-take-le m rest (whole r rest q).within)
      go short q g = impossible (cc)
      go (bad k p) q g = impossible (cc)

  -- as many as are there, or up to and with the one that is refused
  pub seen-failed : (f : Failure) → read_at r s at ≡ failed f → (length (seen r s at) ≡ failed_sight (length s) at f) × FailedWithin (length s) at f
  unfolding seen read_at after asked_by
  seen-failed f e = rw (asked_is r rest) (go (run r rest) refl f e)
    where
      go : (x : Answer A) → run r rest ≡ x → (f : Failure) → after at x ≡ failed f
          → (length (take (asked_by rest x) rest) ≡ failed_sight (length s) at f) × FailedWithin (length s) at f
      go (ok v n) q Short g = impossible (cc)
      go (ok v n) q (Bad k p) g = impossible (cc)
      go short q Short g = (ap length (take_all (suc (length rest)) rest (omega arith)) ∙ length-drop at s, tt)
      go short q (Bad k p) g = impossible (cc)
      go (bad k p) q Short g = impossible (cc)
      go (bad k p) q (Bad j o) g =
          let z : at + p ≡ o = cc in
          let l = (refused r rest q).within in
          let m = rw length-drop at l in
          (omega (arith, length-take-le (suc p) rest l), (omega arith, omega (arith, m)))

-- they are among those of the string
pub seen-within : {A : Type 0} (r : Reader A) (s : List ℕ) (at : ℕ) → length (seen r s at) ≤ length s
unfolding seen
seen-within r s at = omega (arith, length-take (asked r (drop at s)) (drop at s), length-drop at s)

-- of what has one width, that
pub seen-fixed : {A : Type 0} (r : Reader A) (w : ℕ) → Fixed r w → (s : List ℕ) (at : ℕ) {v : A} {n : ℕ} → read_at r s at ≡ ok v n → length (seen r s at) ≡ w
unfolding seen read_at after
seen-fixed {A} r w fixed s at {v} {n} e = go (run r (drop at s)) refl e
  where
    go : (x : Answer A) → run r (drop at s) ≡ x → after at x ≡ ok v n → length (take (asked r (drop at s)) (drop at s)) ≡ w
    go (ok u m) q g =
        let h = at-start r (drop at s) ∙ q in
        omega (arith, seen-ok r (drop at s) 0 h, fixed (drop at s) 0 u m (omega arith) h)
    go short q g = impossible (cc)
    go (bad k p) q g = impossible (cc)

-- ---- How many they are at most

module _ {A : Type 0} (r : Reader A) (m : ℕ) (longest : (b : List ℕ) (v : A) → Bytes b → Reads r b v → length b ≤ m) where
  -- what is read before a place that a reader asks for can go on for a byte at least
  begun : (s : List ℕ) → Bytes s → run r s ≡ short → suc (length s) ≤ m
  begun s g e = let b = (short-iff r s).0 e in go b.0 b.0.rest refl b.1
    where
      go : (b : Begun r s) (t : List ℕ) → b.rest ≡ t → (b.rest ≡ [] → ⊥) → suc (length s) ≤ m
      go b [] e h = absurd (h e)
      go b (x ∷ t) e h =
          let z = rw (length-append, e) at (longest (s ++ b.rest) b.value (bytes-append s b.rest g b.bytes) b.reads) in
          omega (arith, z)

  no_more : (s : List ℕ) → Bytes s → (x : Answer A) → run r s ≡ x → length (take (asked_by s x) s) ≤ m
  unfolding asked_by
  no_more s g (ok v n) e = longest (take n s) v (bytes_take n s g) (reads-take r s e)
  no_more s g short e = rw (take_all (suc (length s)) s (omega arith)) (omega (arith, begun s g e))
  no_more s g (bad k p) e =
      let l = refused r s e in
      rw (length-take-le (suc p) s l.within) (rw (length-take-le p s (omega (arith, l.within))) at (begun (take p s) (bytes_take p s g) l.before))

  pub seen_most : (s : List ℕ) → Bytes s → (at : ℕ) → length (seen r s at) ≤ m
  unfolding seen
  seen_most s g at = rw (asked_is r (drop at s)) (no_more (drop at s) (bytes_drop at s g) (run r (drop at s)) refl)
