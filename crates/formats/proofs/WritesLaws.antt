-- What was written is read back, and what was read was written: shown of a format part by part.
use Rattle.std.specs.Prelude.{◌≡◌, take, drop, T, ltb}
use Rattle.std.proofs.Math.Path.{refl, sym, ap, ap₂}
use Rattle.std.proofs.Common.{◌∙◌, arith, length-append, take-append-drop, ltb→lt, eq-eqb, eqb-true}
use Rattle.std.proofs.Math.Bool.{true}
use mathlib.Core.List.{List, [], ◌∷◌, ◌++◌, append-nil, flat_map, tail}
use Prim.Native.Nat.{ℕ, zero, suc, ◌+◌, ◌<◌}
use Rattle.std.proofs.Math.ListN.{length, length-drop}
use Rattle.std.proofs.Math.Seq.{drop-append_seam}
use Rattle.std.specs.Float.Ieee.Fits.{and_l, and_r}
use Rattle.std.proofs.Math.Pow.{are_bytes}
use Rattle.formats.specs.Bytes.{Bytes, bytes-nil, bytes-cons, bytes-append, bytes_take, bytes_drop, impossible}
use Rattle.formats.specs.Reader.{Reader, Answer, ok, short, bad, after, run, read_at, bind, map, each, times, one, any, free, literal, is}
use Rattle.formats.specs.Law.{Reads}
use Rattle.formats.proofs.Lawful.{reads-append, reads-take}
use Rattle.formats.specs.Compose.{bind_ok}
use Rattle.formats.specs.Told.{run-bind-failed}
use Rattle.formats.specs.declared.Failure.TheVariants.{Short, Bad}
use Rattle.formats.specs.Writes.{Writes, Split, All, Each, encode_each, empty, writes-done, writes_one, writes_as}

module _ {A B : Type 0} (r : Reader A) (k : A → Reader B) where
  -- ---- A string of two parts

  pub reads-join : (b c : List ℕ) {v : A} {w : B} → Reads r b v → Reads (k v) c w → Reads (bind r k) (b ++ c) w
  unfolding after read_at
  reads-join b c {v} {w} e g =
      bind_ok r k (b ++ c) (reads-append r b c e)
      ∙ ap (after (length b)) (ap (run (k v)) (drop-append_seam b c) ∙ g)
      ∙ ap (ok w) (sym (length-append b c))

  split-second : (b : List ℕ) {v : A} {w : B} {n : ℕ} (y : Answer B) → run r b ≡ ok v n → run (k v) (drop n b) ≡ y → after n y ≡ ok w (length b) → Split r k b w
  unfolding after
  split-second b {v} {w} {n} (ok u m) e g q =
      let a : u ≡ w = cc in
      let h : n + m ≡ length b = cc in
      let z : m ≡ length (drop n b) = simp length-drop (omega arith) in
      record { value = v; size = n; first = reads-take r b e; second = cc }
  split-second b short e g q = impossible (cc)
  split-second b (bad j p) e g q = impossible (cc)

  split-first : (b : List ℕ) {w : B} (x : Answer A) → run r b ≡ x → Reads (bind r k) b w → Split r k b w
  unfolding read_at
  split-first b (ok v n) e g = split-second b (run (k v) (drop n b)) e refl (sym (bind_ok r k b e) ∙ g)
  split-first b short e g = impossible (cc (run-bind-failed r k b Short e))
  split-first b (bad j p) e g = impossible (cc (run-bind-failed r k b (Bad j p) e))

  pub reads-split : (b : List ℕ) {w : B} → Reads (bind r k) b w → Split r k b w
  reads-split b g = split-first b (run r b) refl g

-- ---- The two ways round

module _ {A : Type 0} {r : Reader A} {encode : A → List ℕ} {Valid : A → Type 0} (w : Writes r encode Valid) where
  -- what was written is read back, whatever follows it
  pub read-written : (t : List ℕ) {v : A} → Valid v → run r (encode v ++ t) ≡ ok v (length (encode v))
  read-written t {v} h = reads-append r (encode v) t (w.reads v h)

  -- what was read is what writing its value writes
  pub written_read : (s : List ℕ) {v : A} {n : ℕ} → Bytes s → run r s ≡ ok v n → Valid v × (take n s ≡ encode v)
  written_read s {v} {n} g e = w.only (take n s) (bytes_take n s g) (reads-take r s e)

-- ---- Part by part

module _ {A B : Type 0} {r : Reader A} {encode : A → List ℕ} {Valid : A → Type 0} (w : Writes r encode Valid) where
  -- a value of the whole is put together from its two parts, and has two parts
  pub writes-bind : {k : A → Reader B} {encode' : A → B → List ℕ} {Valid' : A → B → Type 0} {encode'' : B → List ℕ} {Valid'' : B → Type 0}
      → ((v : A) → Valid v → Writes (k v) (encode' v) (Valid' v))
      → ((v : A) (u : B) → Valid v → Valid' v u → Valid'' u × (encode v ++ encode' v u ≡ encode'' u))
      → ((u : B) → Valid'' u → (v : A) × Valid v × Valid' v u)
      → Writes (bind r k) encode'' Valid''
  writes-bind {k} {encode'} {Valid'} {encode''} {Valid''} w' whole parts = record {
    reads = λ u h.
        let p = parts u h in
        rw (whole p.0 u p.1 p.2).1 at (reads-join r k (encode p.0) (encode' p.0 u) (w.reads p.0 p.1) ((w' p.0 p.1).reads u p.2));
    bytes = λ u h.
        let p = parts u h in
        rw (whole p.0 u p.1 p.2).1 at (bytes-append (encode p.0) (encode' p.0 u) (w.bytes p.0 p.1) ((w' p.0 p.1).bytes u p.2));
    only = λ b {v} g e.
        let p = reads-split r k b e in
        let x = w.only (take p.size b) (bytes_take p.size b g) p.first in
        let y = (w' p.value x.0).only (drop p.size b) (bytes_drop p.size b g) p.second in
        let z = whole p.value v x.0 y.0 in
        (z.0, sym (take-append-drop p.size b) ∙ ap₂ ◌++◌ x.1 y.1 ∙ z.1);
  }

  -- a value and its image, which tells the value
  pub writes-map : (g : A → B) (back : B → A) → ((v : A) → Valid v → back (g v) ≡ v)
      → Writes (map g r) (λ u. encode (back u)) (λ u. Valid (back u) × (g (back u) ≡ u))
  unfolding map
  writes-map g back h =
      writes-bind
      (λ v q. writes-done (g v))
      (λ v u q e. let t : back u ≡ v = ap back (sym e) ∙ h v q in ((rw t q, rw t e), append-nil (encode v) ∙ ap encode (sym t)))
      (λ u q. (back u, q.0, q.1))

-- a line of a block, of whose value the whole tells: `part` finds it there
pub writes_line : {A B : Type 0} {r : Reader A} {encode : A → List ℕ} {Valid : A → Type 0}
    {k : A → Reader B} {encode' : A → B → List ℕ} {Valid' : A → B → Type 0} (part : B → A)
    → Writes r encode Valid → ((v : A) → Valid v → Writes (k v) (encode' v) (Valid' v))
    → ((v : A) (u : B) → Valid v → Valid' v u → part u ≡ v)
    → Writes (bind r k) (λ u. encode (part u) ++ encode' (part u) u) (λ u. Valid (part u) × Valid' (part u) u)
writes_line part w w' found =
    writes-bind
    w
    w'
    (λ v u h q. let e : part u ≡ v = found v u h q in rw e ((h, q), refl))
    (λ u h. (part u, h.0, h.1))

module _ {A : Type 0} {r : Reader A} {encode : A → List ℕ} {Valid : A → Type 0} (w : Writes r encode Valid) where
  abbrev Are : ℕ → List A → Type 0
  Are n vs = (length vs ≡ n) × All Valid vs

  times-whole : (n : ℕ) (v : A) (vs : List A) → Valid v → Are n (tail vs) × (v ∷ tail vs ≡ vs)
      → Are (suc n) vs × (encode v ++ flat_map encode (tail vs) ≡ flat_map encode vs)
  unfolding flat_map
  times-whole n v [] h q = impossible (cc q.1)
  times-whole n v (u ∷ us) h q = let t : v ≡ u = cc q.1 in rw (← t) ((ap suc q.0.0, (h, q.0.1)), refl)

  times-parts : (n : ℕ) (vs : List A) → Are (suc n) vs → (v : A) × Valid v × (Are n (tail vs) × (v ∷ tail vs ≡ vs))
  times-parts n [] h = absurd (omega arith)
  times-parts n (v ∷ vs) h = (v, h.1.0, ((omega arith, h.1.1), refl))

  pub writes-times : (n : ℕ) → Writes (times n r) (flat_map encode) (λ vs. (length vs ≡ n) × All Valid vs)
  unfolding times flat_map
  writes-times zero = writes_as (writes-done []) (λ vs e. rw (← e) ((refl, tt), refl)) (λ vs h. sym (empty vs h.0))
  writes-times (suc n) = writes-bind w (λ v h. writes-map (writes-times n) (λ vs. v ∷ vs) tail (λ vs q. refl)) (times-whole n) (times-parts n)

module _ {I A : Type 0} {f : I → Reader A} {encode : I → A → List ℕ} {Valid : I → A → Type 0} (w : (i : I) → Writes (f i) (encode i) (Valid i)) where
  each_none : (vs : List A) → Each Valid [] vs → ◌≡◌ {A = List A} [] vs
  each_none [] h = refl
  each_none (v ∷ vs) h = absurd h

  each-whole : (i : I) (l : List I) (v : A) (vs : List A) → Valid i v → Each Valid l (tail vs) × (v ∷ tail vs ≡ vs)
      → Each Valid (i ∷ l) vs × (encode i v ++ encode_each encode l (tail vs) ≡ encode_each encode (i ∷ l) vs)
  unfolding encode_each
  each-whole i l v [] h q = impossible (cc q.1)
  each-whole i l v (u ∷ us) h q = let t : v ≡ u = cc q.1 in rw (← t) ((h, q.0), refl)

  each-parts : (i : I) (l : List I) (vs : List A) → Each Valid (i ∷ l) vs → (v : A) × Valid i v × (Each Valid l (tail vs) × (v ∷ tail vs ≡ vs))
  each-parts i l [] h = absurd h
  each-parts i l (v ∷ vs) h = (v, h.0, (h.1, refl))

  pub writes-each : (l : List I) → Writes (each l f) (encode_each encode l) (Each Valid l)
  unfolding each encode_each
  writes-each [] = writes_as (writes-done []) (λ vs e. rw (← e) (tt, refl)) each_none
  writes-each (i ∷ l) = writes-bind (w i) (λ v h. writes-map (writes-each l) (λ vs. v ∷ vs) tail (λ vs q. refl)) (each-whole i l) (each-parts i l)

pub writes-literal : (k : ℕ) (l : List ℕ) (h : T (are_bytes l)) → Writes (literal k l h) (λ u. l) (λ u. Unit {0})
unfolding literal bind one
writes-literal k [] h = writes_as (writes-done tt) (λ u e. (tt, refl)) (λ u q. refl)
writes-literal k (b ∷ l) h =
    let g : T (ltb b 256) = and_l (ltb b 256) (are_bytes l) h in
    writes-bind
    (writes_one (is k b g))
    (λ v q. writes-literal k l (and_r (ltb b 256) (are_bytes l) h))
    (λ v u q x. (tt, ap (λ y. y ∷ l) (eqb-true v b q.1)))
    (λ u q. (b, (ltb→lt b 256 g, eq-eqb b b refl), tt))

-- any n bytes
singles : (l : List ℕ) → flat_map (λ b. b ∷ []) l ≡ l
unfolding flat_map
singles [] = refl
singles (b ∷ l) = ap (λ t. b ∷ t) (singles l)

abbrev Free : ℕ → Type 0
Free b = (b < 256) × (any.holds b ≡ true)

free_bytes : (l : List ℕ) → All Free l → Bytes l
free_bytes [] h = bytes-nil
free_bytes (b ∷ l) h = bytes-cons l h.0.0 (free_bytes l h.1)

bytes-free : (l : List ℕ) → Bytes l → All Free l
bytes-free [] h = tt
bytes-free (b ∷ l) h = ((h 0, refl), bytes-free l (λ i. h (suc i)))

pub writes-free : (n : ℕ) → Writes (free n) (λ l. l) (λ l. (length l ≡ n) × Bytes l)
unfolding free
writes-free n =
    writes_as
    (writes-times (writes_one any) n)
    (λ l h. ((h.0, free_bytes l h.1), singles l))
    (λ l h. (h.0, bytes-free l h.1))
