-- Every reader obeys its `Law`, and what follows for the strings that it takes.
use Rattle.std.specs.Prelude.{◌≡◌, ◌↔◌, ◌≢◌, Bool, T, ltb, length, take, drop}
use Rattle.std.proofs.Math.Path.{refl, ap, ap₂}
use Rattle.std.proofs.Common.{sym, ◌∙◌, not-suc-le-zero, arith, ltb→lt, length-append, take_at, drop_at, length-take-le}
use Rattle.std.proofs.Math.Bool.{true, false}
use mathlib.Core.List.{List, [], ◌∷◌, ◌++◌, append-nil, flatten}
use Prim.Native.Nat.{ℕ, zero, suc, ◌<◌}
use Rattle.std.specs.Float.Ieee.Fits.{and_l, and_r}
use Rattle.std.proofs.Math.Seq.{take-length, take-append_seam, drop-append_seam}
use Rattle.formats.specs.Bytes.{bytes-nil, bytes-cons, impossible}
use Rattle.formats.specs.Reader.{Test, Reader, done, byte, Answer, ok, short, bad, next, run}
use Rattle.formats.specs.Law.{Reads, Whole, Begun, Refused, Law, Cut, none, more, run-pass, run-fail}

holding : (t : Bool) → T t → t ≡ true
holding true h = refl
holding false h = absurd h

-- ---- The law, by induction on the reader

module _ {A : Type 0} (c : Test) (f : ℕ → Reader A) where
  early : (b : ℕ) (s : List ℕ) (n : ℕ) → c.holds b ≡ true → ((m : ℕ) → m < n → run (f b) (take m s) ≡ short)
      → (m : ℕ) → m < suc n → run (byte c f) (take m (b ∷ s)) ≡ short
  unfolding run next
  early b s n h e zero q = refl
  early b s n h e (suc m) q = run-pass c f b (take m s) h ∙ ap next (e m (omega arith))

  law-pass : (b : ℕ) (s : List ℕ) → c.holds b ≡ true → (x : Answer A) → Law (f b) s x → Law (byte c f) (b ∷ s) (next x)
  unfolding Law next
  law-pass b s h (ok v n) l = record {
    within = omega (arith, l.within);
    same = λ t. run-pass c f b (take n s ++ t) h ∙ ap next (l.same t);
    before = early b s n h l.before;
  }
  law-pass b s h short l = record {
    rest = l.rest;
    value = l.value;
    bytes = l.bytes;
    reads = run-pass c f b _ h ∙ ap next l.reads;
  }
  law-pass b s h (bad k p) l = record {
    within = omega (arith, l.within);
    same = λ t. run-pass c f b (take (suc p) s ++ t) h ∙ ap next (l.same t);
    before = run-pass c f b (take p s) h ∙ ap next l.before;
  }

  law-fail : (b : ℕ) (s : List ℕ) → c.holds b ≡ false → Refused (byte c f) (b ∷ s) c.fault 0
  unfolding run
  law-fail b s h = record { within = omega arith; same = λ t. run-fail c f b t h; before = refl }

  sample-byte : c.sample < 256
  sample-byte = ltb→lt c.sample 256 (and_l (ltb c.sample 256) (c.holds c.sample) c.fair)

  sample-holds : c.holds c.sample ≡ true
  sample-holds = holding (c.holds c.sample) (and_r (ltb c.sample 256) (c.holds c.sample) c.fair)

  law-end : Begun (f c.sample) [] → Begun (byte c f) []
  unfolding next
  law-end l = record {
    rest = c.sample ∷ l.rest;
    value = l.value;
    bytes = bytes-cons l.rest sample-byte l.bytes;
    reads = run-pass c f _ _ sample-holds ∙ ap next l.reads;
  }

module _ {A : Type 0} where
  begun : (r : Reader A) (x : Answer A) → Law r [] x → Begun r []
  unfolding Law
  begun r (ok v zero) l = record { rest = []; value = v; bytes = bytes-nil; reads = l.same [] }
  begun r (ok v (suc n)) l = absurd (not-suc-le-zero l.within)
  begun r short l = l
  begun r (bad k p) l = absurd (not-suc-le-zero l.within)

  pub law : (r : Reader A) (s : List ℕ) → Law r s (run r s)
  unfolding Law run
  law (done v) s = record { within = omega arith; same = λ t. refl; before = λ m q. absurd (not-suc-le-zero q) }
  law (byte c f) [] = law-end c f (begun (f c.sample) (run (f c.sample) []) (law (f c.sample) []))
  law (byte c f) (b ∷ s) = go (c.holds b) refl (law (f b) s)
    where
      go : (t : Bool) → c.holds b ≡ t → Law (f b) s (run (f b) s) → Law (byte c f) (b ∷ s) (elim t [ true ↦ next (run (f b) s) | false ↦ bad c.fault 0 ])
      go true h l = law-pass c f b s h (run (f b) s) l
      go false h l = law-fail c f b s h

-- ---- What follows

module _ {A : Type 0} (r : Reader A) where
  pub whole : (s : List ℕ) {v : A} {n : ℕ} → run r s ≡ ok v n → Whole r s v n
  unfolding Law
  whole s e = rw e at (law r s)

  pub begins : (s : List ℕ) → run r s ≡ short → Begun r s
  unfolding Law
  begins s e = rw e at (law r s)

  pub refused : (s : List ℕ) {k p : ℕ} → run r s ≡ bad k p → Refused r s k p
  unfolding Law
  refused s e = rw e at (law r s)

  -- what r takes, it takes whatever follows
  pub reads-append : (b t : List ℕ) {v : A} → Reads r b v → run r (b ++ t) ≡ ok v (length b)
  reads-append b t e = rw take-length at ((whole b e).same t)

  -- what r took of a string, it takes alone
  pub reads-take : (s : List ℕ) {v : A} {n : ℕ} → run r s ≡ ok v n → Reads r (take n s) v
  reads-take s {v} {n} e = rw append-nil at ((whole s e).same []) ∙ ap (ok v) (sym (length-take-le n s (whole s e).within))

  -- two strings that r takes and that begin one string are equal
  pub same-cut : (b c s t : List ℕ) {v w : A} → Reads r b v → Reads r c w → b ++ s ≡ c ++ t → (b ≡ c) × (s ≡ t)
  same-cut b c s t {v} {w} e g q =
      let x : run r (b ++ s) ≡ ok v (length b) = reads-append b s e in
      let y : run r (c ++ t) ≡ ok w (length c) = reads-append c t g in
      let z : run r (b ++ s) ≡ run r (c ++ t) = ap (run r) q in
      let n : length c ≡ length b = cc in (
        sym (take-append_seam b s) ∙ ap (take (length b)) q ∙ take_at c t (length b) n,
        sym (drop-append_seam b s) ∙ ap (drop (length b)) q ∙ drop_at c t (length b) n,
      )

  -- the strings that r takes are prefix-free
  pub prefix-free : (b t : List ℕ) {v w : A} → Reads r b v → Reads r (b ++ t) w → t ≡ []
  prefix-free b t e g = (same-cut b (b ++ t) t [] e g (sym (append-nil (b ++ t)))).1

  -- r runs out on the proper beginnings of what it takes
  pub short-of : (s t : List ℕ) {v : A} → Reads r (s ++ t) v → t ≢ [] → run r s ≡ short
  short-of s [] e h = absurd (h refl)
  short-of s (b ∷ t) e h = rw take-append_seam at ((whole (s ++ b ∷ t) e).before (length s) (simp length-append (omega arith)))

  -- and on nothing else
  pub short-iff : (s : List ℕ) → (run r s ≡ short) ↔ ((l : Begun r s) × (l.rest ≢ []))
  short-iff s = (λ e. (begins s e, proper e (begins s e)), λ l. short-of s l.0.rest l.0.reads l.1)
    where
      proper : run r s ≡ short → (l : Begun r s) → l.rest ≢ []
      proper e l q =
          let x : run r s ≡ ok l.value (length s) = rw append-nil at (rw q at l.reads) in
          impossible (cc)

  -- what stands before a refused byte still begins a string that r takes, and with that byte it begins none
  pub refused-first : (s : List ℕ) {k p : ℕ} → run r s ≡ bad k p
      → Begun r (take p s) × ((t : List ℕ) (v : A) → Reads r (take (suc p) s ++ t) v → ⊥)
  refused-first s {k} {p} e = (begins (take p s) (refused s e).before, λ t v g. impossible (cc ((refused s e).same t)))

  not-empty : run r [] ≡ short → (b s : List ℕ) {v : A} → Reads r b v → b ++ s ≡ [] → ⊥
  not-empty h [] s e q = impossible (cc)
  not-empty h (x ∷ b) s e q = impossible (cc)

  -- a string can be cut into them in one way, if r wants a byte at all
  pub one-cut : run r [] ≡ short → {bs cs : List (List ℕ)} → Cut r bs → Cut r cs → flatten bs ≡ flatten cs → bs ≡ cs
  unfolding flatten
  one-cut h none none q = refl
  one-cut h none (more {b = c} {bs = cs} e d) q = absurd (not-empty h c (flatten cs) e (sym q))
  one-cut h (more {b = b} {bs = bs} e d) none q = absurd (not-empty h b (flatten bs) e q)
  one-cut h (more {b = b} {bs = bs} e d) (more {b = c} {bs = cs} g k) q =
      let x : (b ≡ c) × (flatten bs ≡ flatten cs) = same-cut b c (flatten bs) (flatten cs) e g q in
      ap₂ ◌∷◌ x.0 (one-cut h d k x.1)
