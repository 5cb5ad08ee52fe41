-- Which byte a reader refuses, part by part, and that of a whole format this is all that is refused.
use Rattle.std.proofs.Math.Path.{◌≡◌, refl, sym, ap, ap₂}
use Rattle.std.proofs.Common.{◌∙◌, not-suc-le-zero, arith, take-append-drop, drop-cons, take-add, get_or-drop, length-take-le, ltb→lt, eqb-true, ne_eqb, eq-eqb}
use Rattle.std.specs.Prelude.{◌↔◌, ◌≢◌, Bool, take, drop, get_or, T, ltb}
use Rattle.std.proofs.Math.Bool.{true, false}
use mathlib.Core.List.{List, [], ◌∷◌, ◌++◌, append_assoc, flat_map}
use Prim.Native.Nat.{ℕ, zero, suc, ◌+◌, ◌*◌, ◌<◌}
use Rattle.std.proofs.Math.ListN.{length, length-append}
use Rattle.std.proofs.Math.Seq.{drop-append_seam}
use Rattle.std.specs.Float.Ieee.Fits.{and_l, and_r}
use Rattle.std.proofs.Math.Pow.{are_bytes}
use Rattle.std.proofs.lemmas.Bool.{eqb-false}
use Rattle.formats.specs.Bytes.{Bytes, bytes_drop, impossible}
use Rattle.formats.specs.Reader.{Test, Reader, done, Answer, ok, bad, next, after, run, read_at, bind, map, each, times, one, any, free, literal, is}
use Rattle.formats.specs.Law.{run-fail}
use Rattle.formats.proofs.Lawful.{refused}
use Rattle.formats.specs.Compose.{bind_ok}
use Rattle.formats.specs.Told.{run-bind-failed}
use Rattle.formats.specs.declared.Failure.TheVariants.{Bad}
use Rattle.formats.specs.Number.{number}
use Rattle.formats.specs.Writes.{Writes, All, Each, encode_each, writes_one}
use Rattle.formats.proofs.WritesLaws.{read-written, written_read}
use Rattle.formats.specs.Faults.{Faults, Never, Stopped, first, second, Then, here, later, Strays, InPart, InNext, faults-as, never_done, never-bind, never-times, faults-never, faults-map, stopped}

any_none : (s : List ℕ) (k p : ℕ) → run (one any) s ≡ bad k p → ⊥
unfolding run one next
any_none [] k p e = impossible (cc)
any_none (b ∷ s) k p e = impossible (cc)

pub never-any : Never (one any)
never-any = record { none = any_none }

module _ {A B : Type 0} {r : Reader A} {encode : A → List ℕ} {Valid : A → Type 0} (w : Writes r encode Valid)
    {k : A → Reader B} {Breaks : List ℕ → ℕ → ℕ → Type 0} {Breaks' : A → List ℕ → ℕ → ℕ → Type 0}
    (f : Faults r Breaks) (f' : (v : A) → Valid v → Faults (k v) (Breaks' v)) where
  bind-breaks : (s : List ℕ) (j p : ℕ) → Bytes s → Stopped r k s j p → Then encode Valid Breaks Breaks' (take p s) (get_or s p 0) j
  bind-breaks s j p h (first x) = here (f.breaks s h x)
  bind-breaks s j p h (second {v = v} {n = n} {q = q} x y z) =
      let o = written_read w s h x in
      let g = (f' v o.0).breaks (drop n s) (bytes_drop n s h) y in
      rw (← z) (later v (take q (drop n s)) o.0 (take-add n q s ∙ ap (λ l. l ++ take q (drop n s)) o.1) (rw get_or-drop at g))

  bind-refuses : (before : List ℕ) (b j : ℕ) (t : List ℕ) → Then encode Valid Breaks Breaks' before b j → run (bind r k) (before ++ b ∷ t) ≡ bad j (length before)
  unfolding after read_at
  bind-refuses before b j t (here x) = run-bind-failed r k (before ++ b ∷ t) (Bad j (length before)) (f.refuses before b j t x)
  bind-refuses before b j t (later v rest h e x) =
      rw (e, append_assoc (encode v) rest (b ∷ t), length-append (encode v) rest)
      (bind_ok r k (encode v ++ (rest ++ b ∷ t)) (read-written w (rest ++ b ∷ t) h)
      ∙ ap (after (length (encode v))) (ap (run (k v)) (drop-append_seam (encode v) (rest ++ b ∷ t)) ∙ (f' v h).refuses rest b j t x))

  pub faults-bind : Faults (bind r k) (Then encode Valid Breaks Breaks')
  faults-bind = record { breaks = λ s {k = j} {p} h e. bind-breaks s j p h (stopped r k s e); refuses = bind-refuses }

-- ---- One byte, and some known bytes

module _ (c : Test) where
  one-breaks : (s : List ℕ) {k p : ℕ} → run (one c) s ≡ bad k p → (k ≡ c.fault) × (take p s ≡ []) × (c.holds (get_or s p 0) ≡ false)
  unfolding run one next
  one-breaks [] e = impossible (cc)
  one-breaks (x ∷ s) {k} {p} e = go (c.holds x) refl e
    where
      go : (t : Bool) → c.holds x ≡ t → ◌≡◌ {A = Answer ℕ} (elim t as (λ y. Answer ℕ) [ true ↦ ok x 1 | false ↦ bad c.fault 0 ]) (bad k p)
          → (k ≡ c.fault) × (take p (x ∷ s) ≡ []) × (c.holds (get_or (x ∷ s) p 0) ≡ false)
      go true h q = impossible (cc)
      go false h q = let z : p ≡ 0 = cc in rw z (cc, refl, h)

  one-refuses : (before : List ℕ) (b k : ℕ) (t : List ℕ) → (k ≡ c.fault) × (before ≡ []) × (c.holds b ≡ false) → run (one c) (before ++ b ∷ t) ≡ bad k (length before)
  unfolding one
  one-refuses before b k t h = rw (h.0, h.1) (run-fail c done b t h.2)

  pub faults-one : Faults (one c) (λ before b k. (k ≡ c.fault) × (before ≡ []) × (c.holds b ≡ false))
  faults-one = record { breaks = λ s g e. one-breaks s e; refuses = one-refuses }

module _ (k c : ℕ) (l : List ℕ) (h : T (ltb c 256)) where
  abbrev Parts : List ℕ → ℕ → ℕ → Type 0
  Parts = Then (λ x. x ∷ []) (λ x. (x < 256) × ((is k c h).holds x ≡ true)) (λ before b j. (j ≡ k) × (before ≡ []) × ((is k c h).holds b ≡ false)) (λ v before b j. (j ≡ k) × Strays l before b)

  strays-to : (before : List ℕ) (b j : ℕ) → Parts before b j → (j ≡ k) × Strays (c ∷ l) before b
  strays-to before b j (here x) = (x.0, record { place = 0; within = omega arith; written = x.1; other = eqb-false b c x.2 })
  strays-to before b j (later v rest q e x) = (
    x.0,
    record {
      place = suc x.1.place;
      within = omega (arith, x.1.within);
      written = e ∙ ap₂ ◌∷◌ (eqb-true v c q.1) x.1.written;
      other = x.1.other;
    },
  )

  strays-from : (before : List ℕ) (b j : ℕ) → (j ≡ k) × Strays (c ∷ l) before b → Parts before b j
  strays-from before b j x = go x.1.place x.1.within x.1.written x.1.other
    where
      go : (n : ℕ) → n < suc (length l) → before ≡ take n (c ∷ l) → b ≢ get_or (c ∷ l) n 0 → Parts before b j
      go zero g e d = here (x.0, e, ne_eqb b c d)
      go (suc n) g e d = later c (take n l) (ltb→lt c 256 h, eq-eqb c c refl) e (x.0, record { place = n; within = omega arith; written = refl; other = d })

pub faults-literal : (k : ℕ) (l : List ℕ) (h : T (are_bytes l)) → Faults (literal k l h) (λ before b j. (j ≡ k) × Strays l before b)
unfolding literal bind one
faults-literal k [] h = faults-as (faults-never (never_done tt)) (λ before b j x. absurd x) (λ before b j x. absurd (not-suc-le-zero x.1.within))
faults-literal k (c ∷ l) h =
    let g : T (ltb c 256) = and_l (ltb c 256) (are_bytes l) h in
    faults-as
    (faults-bind (writes_one (is k c g)) (faults-one (is k c g)) (λ v q. faults-literal k l (and_r (ltb c 256) (are_bytes l) h)))
    (strays-to k c l g)
    (strays-from k c l g)

pub never-number : (n : ℕ) → Never (number n)
unfolding number map
never-number zero = never_done 0
never-number (suc n) = never-bind (never-number n) (λ a. never-bind never-any (λ b. never_done (a * 256 + b)))

pub never-free : (n : ℕ) → Never (free n)
unfolding free
never-free n = never-times never-any n

-- ---- A part for each of a list, and n equal parts

module _ {I A : Type 0} {f : I → Reader A} {encode : I → A → List ℕ} {Valid : I → A → Type 0} (w : (i : I) → Writes (f i) (encode i) (Valid i))
    {Breaks : I → List ℕ → ℕ → ℕ → Type 0} (g : (i : I) → Faults (f i) (Breaks i)) (none : I) where
  abbrev Part : List I → List ℕ → ℕ → ℕ → Type 0
  Part l = InPart encode Valid Breaks none l

  abbrev Parted : I → List I → List ℕ → ℕ → ℕ → Type 0
  Parted i l = Then (encode i) (Valid i) (Breaks i) (λ v. Part l)

  part-to : (i : I) (l : List I) (before : List ℕ) (b k : ℕ) → Parted i l before b k → Part (i ∷ l) before b k
  unfolding encode_each
  part-to i l before b k (here x) = record { place = 0; within = omega arith; values = []; valid = tt; rest = before; written = refl; broken = x }
  part-to i l before b k (later v rest h e x) = record {
    place = suc x.place;
    within = omega (arith, x.within);
    values = v ∷ x.values;
    valid = (h, x.valid);
    rest = x.rest;
    written = e ∙ ap (λ t. encode i v ++ t) x.written ∙ sym (append_assoc (encode i v) _ x.rest);
    broken = x.broken;
  }

  part-from : (i : I) (l : List I) (before : List ℕ) (b k : ℕ) → Part (i ∷ l) before b k → Parted i l before b k
  unfolding encode_each
  part-from i l before b k x = go x.place x.values x.within x.valid x.written x.broken
    where
      go : (n : ℕ) (vs : List A) → n < suc (length l) → Each Valid (take n (i ∷ l)) vs → before ≡ encode_each encode (take n (i ∷ l)) vs ++ x.rest
          → Breaks (get_or (i ∷ l) n none) x.rest b k → Parted i l before b k
      go zero vs q h e y = here (rw e y)
      go (suc n) [] q h e y = absurd h
      go (suc n) (v ∷ vs) q h e y =
          later v (encode_each encode (take n l) vs ++ x.rest) h.0 (e ∙ append_assoc (encode i v) _ x.rest)
          (record { place = n; within = omega arith; values = vs; valid = h.1; rest = x.rest; written = refl; broken = y })

  pub faults-each : (l : List I) → Faults (each l f) (Part l)
  unfolding each
  faults-each [] = faults-as (faults-never (never_done [])) (λ before b k x. absurd x) (λ before b k x. absurd (not-suc-le-zero x.within))
  faults-each (i ∷ l) = faults-as (faults-bind (w i) (g i) (λ v h. faults-map (λ vs. v ∷ vs) (faults-each l))) (part-to i l) (part-from i l)

module _ {A : Type 0} {r : Reader A} {encode : A → List ℕ} {Valid : A → Type 0} (w : Writes r encode Valid)
    {Breaks : List ℕ → ℕ → ℕ → Type 0} (g : Faults r Breaks) where
  abbrev Next : ℕ → List ℕ → ℕ → ℕ → Type 0
  Next n = InNext encode Valid Breaks n

  abbrev Nexts : ℕ → List ℕ → ℕ → ℕ → Type 0
  Nexts n = Then encode Valid Breaks (λ v. Next n)

  next-to : (n : ℕ) (before : List ℕ) (b k : ℕ) → Nexts n before b k → Next (suc n) before b k
  unfolding flat_map
  next-to n before b k (here x) = record { values = []; fewer = omega arith; valid = tt; rest = before; written = refl; broken = x }
  next-to n before b k (later v rest h e x) = record {
    values = v ∷ x.values;
    fewer = omega (arith, x.fewer);
    valid = (h, x.valid);
    rest = x.rest;
    written = e ∙ ap (λ t. encode v ++ t) x.written ∙ sym (append_assoc (encode v) _ x.rest);
    broken = x.broken;
  }

  next-from : (n : ℕ) (before : List ℕ) (b k : ℕ) → Next (suc n) before b k → Nexts n before b k
  unfolding flat_map
  next-from n before b k x = go x.values x.fewer x.valid x.written
    where
      go : (vs : List A) → length vs < suc n → All Valid vs → before ≡ flat_map encode vs ++ x.rest → Nexts n before b k
      go [] q h e = here (rw e x.broken)
      go (v ∷ vs) q h e =
          later v (flat_map encode vs ++ x.rest) h.0 (e ∙ append_assoc (encode v) _ x.rest)
          (record { values = vs; fewer = omega arith; valid = h.1; rest = x.rest; written = refl; broken = x.broken })

  pub faults-times : (n : ℕ) → Faults (times n r) (Next n)
  unfolding times
  faults-times zero = faults-as (faults-never (never_done [])) (λ before b k x. absurd x) (λ before b k x. absurd (not-suc-le-zero x.fewer))
  faults-times (suc n) = faults-as (faults-bind w g (λ v h. faults-map (λ vs. v ∷ vs) (faults-times n))) (next-to n) (next-from n)

-- ---- A reader of a whole format

module _ {A : Type 0} {r : Reader A} {Breaks : List ℕ → ℕ → ℕ → Type 0} (f : Faults r Breaks) where
  -- a refusal says what byte breaks which rule, and nothing else is refused
  pub faults-exactly : (s : List ℕ) → Bytes s → (k p : ℕ) → (run r s ≡ bad k p) ↔ ((p < length s) × Breaks (take p s) (get_or s p 0) k)
  faults-exactly s g k p = (λ e. ((refused r s e).within, f.breaks s g e), λ x. from x.0 x.1)
    where
      from : p < length s → Breaks (take p s) (get_or s p 0) k → run r s ≡ bad k p
      from h x =
          let e : take p s ++ get_or s p 0 ∷ drop (suc p) s ≡ s = ap (λ t. take p s ++ t) (sym (drop-cons s p 0 h)) ∙ take-append-drop p s in
          sym (ap (run r) e) ∙ f.refuses (take p s) (get_or s p 0) k (drop (suc p) s) x ∙ ap (bad k) (length-take-le p s (omega arith))
