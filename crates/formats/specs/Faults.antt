-- Which byte a reader refuses: behind which bytes it stands, and the number of the rule that it breaks.
-- It is shown of a format part by part, beside `Writes`: behind the first part stands what was written for its value.
use Rattle.std.proofs.Math.Path.{◌≡◌, refl, sym, ap, ap₂}
use Rattle.std.proofs.Common.{◌∙◌}
use Rattle.std.specs.Prelude.{◌≢◌, take, drop, get_or}
use mathlib.Core.List.{List, [], ◌∷◌, ◌++◌, flat_map}
use Prim.Native.Nat.{ℕ, zero, suc, ◌+◌, ◌<◌}
use Rattle.std.proofs.Math.ListN.{length}
use Rattle.formats.specs.Bytes.{Bytes, impossible}
use Rattle.formats.specs.Reader.{Reader, done, Answer, ok, short, bad, after, run, read_at, bind, map, times}
use Rattle.formats.specs.Compose.{bind_ok}
use Rattle.formats.specs.Told.{run-bind-failed}
use Rattle.formats.specs.declared.Failure.TheVariants.{Short, Bad}
use Rattle.formats.specs.Writes.{All, Each, encode_each}

-- `Breaks before b k`: behind the bytes `before`, the byte b breaks the rule of number k.
-- The reader refuses b with k there, whatever follows, and refuses nothing else.
pub record Faults {A : Type 0} (r : Reader A) (Breaks : List ℕ → ℕ → ℕ → Type 0) : Type 0 where
  pub breaks : (s : List ℕ) {k p : ℕ} → Bytes s → run r s ≡ bad k p → Breaks (take p s) (get_or s p 0) k
  pub refuses : (before : List ℕ) (b k : ℕ) (t : List ℕ) → Breaks before b k → run r (before ++ b ∷ t) ≡ bad k (length before)

-- the same, said otherwise
pub faults-as : {A : Type 0} {r : Reader A} {Breaks Breaks' : List ℕ → ℕ → ℕ → Type 0} → Faults r Breaks
    → ((before : List ℕ) (b k : ℕ) → Breaks before b k → Breaks' before b k) → ((before : List ℕ) (b k : ℕ) → Breaks' before b k → Breaks before b k)
    → Faults r Breaks'
faults-as f to from = record {
  breaks = λ s {k} {p} g e. to (take p s) (get_or s p 0) k (f.breaks s g e);
  refuses = λ before b k t h. f.refuses before b k t (from before b k h);
}

-- ---- Readers that refuse nothing

pub record Never {A : Type 0} (r : Reader A) : Type 0 where
  pub none : (s : List ℕ) (k p : ℕ) → run r s ≡ bad k p → ⊥

pub never_done : {A : Type 0} (v : A) → Never (done v)
unfolding run
never_done v = record { none = λ s k p e. impossible (cc) }

pub faults-never : {A : Type 0} {r : Reader A} → Never r → Faults r (λ before b k. ⊥)
faults-never f = record { breaks = λ s {k} {p} g e. f.none s k p e; refuses = λ before b k t h. absurd h }

-- ---- One part after another

module _ {A B : Type 0} (r : Reader A) (k : A → Reader B) where
  -- where the whole refused a byte: in the first part, or in the second
  pub data Stopped (s : List ℕ) (j p : ℕ) : Type 0 where
    first : run r s ≡ bad j p → Stopped s j p
    second : {v : A} {n q : ℕ} → run r s ≡ ok v n → run (k v) (drop n s) ≡ bad j q → n + q ≡ p → Stopped s j p

  stopped-second : (s : List ℕ) {v : A} {n j p : ℕ} (y : Answer B) → run r s ≡ ok v n → run (k v) (drop n s) ≡ y → after n y ≡ bad j p → Stopped s j p
  unfolding after
  stopped-second s (ok u m) e g q = impossible (cc)
  stopped-second s short e g q = impossible (cc)
  stopped-second s {n = n} {j = j} {p = p} (bad i m) e g q = let a : i ≡ j = cc in let h : n + m ≡ p = cc in second e (g ∙ ap (λ x. bad x m) a) h

  stopped_by : (s : List ℕ) {j p : ℕ} (x : Answer A) → run r s ≡ x → run (bind r k) s ≡ bad j p → Stopped s j p
  unfolding read_at
  stopped_by s (ok v n) e g = stopped-second s (run (k v) (drop n s)) e refl (sym (bind_ok r k s e) ∙ g)
  stopped_by s short e g = impossible (cc (run-bind-failed r k s Short e))
  stopped_by s {j} {p} (bad i m) e g =
      let x : run (bind r k) s ≡ bad i m = run-bind-failed r k s (Bad i m) e in
      let a : i ≡ j = cc in
      let b : m ≡ p = cc in
      first (e ∙ ap₂ bad a b)

  pub stopped : (s : List ℕ) {j p : ℕ} → run (bind r k) s ≡ bad j p → Stopped s j p
  stopped s e = stopped_by s (run r s) refl e

module _ {A B : Type 0} {r : Reader A} {k : A → Reader B} where
  pub never-bind : Never r → ((v : A) → Never (k v)) → Never (bind r k)
  never-bind f g = record { none = λ s j p e. go s j p (stopped r k s e) }
    where
      go : (s : List ℕ) (j p : ℕ) → Stopped r k s j p → ⊥
      go s j p (first x) = f.none s j p x
      go s j p (second {v = v} {n = n} {q = q} x y z) = (g v).none (drop n s) j q y

  -- a part behind which nothing is refused
  pub faults-last : {Breaks : List ℕ → ℕ → ℕ → Type 0} → Faults r Breaks → ((v : A) → Never (k v)) → Faults (bind r k) Breaks
  faults-last {Breaks} f g = record {
    breaks = λ s {k = j} {p} h e. go s j p h (stopped r k s e);
    refuses = λ before b j t h. run-bind-failed r k (before ++ b ∷ t) (Bad j (length before)) (f.refuses before b j t h);
  }
    where
      go : (s : List ℕ) (j p : ℕ) → Bytes s → Stopped r k s j p → Breaks (take p s) (get_or s p 0) j
      go s j p h (first x) = f.breaks s h x
      go s j p h (second {v = v} {n = n} {q = q} x y z) = absurd ((g v).none (drop n s) j q y)

-- a byte is refused in the first part, or behind what was written for its value
pub data Then {A : Type 0} (encode : A → List ℕ) (Valid : A → Type 0) (Breaks : List ℕ → ℕ → ℕ → Type 0) (Breaks' : A → List ℕ → ℕ → ℕ → Type 0)
    (before : List ℕ) (b k : ℕ) : Type 0 where
  here : Breaks before b k → Then encode Valid Breaks Breaks' before b k
  later : (v : A) (rest : List ℕ) → Valid v → before ≡ encode v ++ rest → Breaks' v rest b k → Then encode Valid Breaks Breaks' before b k

pub faults-map : {A B : Type 0} {r : Reader A} {Breaks : List ℕ → ℕ → ℕ → Type 0} (g : A → B) → Faults r Breaks → Faults (map g r) Breaks
unfolding map
faults-map g f = faults-last f (λ v. never_done (g v))

-- ---- Some known bytes

-- the first bytes of l stand before, and b is not the byte that comes there
pub record Strays (l before : List ℕ) (b : ℕ) : Type 0 where
  pub place : ℕ
  pub within : place < length l
  pub written : before ≡ take place l
  pub other : b ≢ get_or l place 0

pub never-times : {A : Type 0} {r : Reader A} → Never r → (n : ℕ) → Never (times n r)
unfolding times map
never-times f zero = never_done []
never-times f (suc n) = never-bind f (λ v. never-bind (never-times f n) (λ vs. never_done (v ∷ vs)))

-- ---- A part for each of a list, and n equal parts

-- a byte is refused in a part: what was written for the parts before it stands before
pub record InPart {I A : Type 0} (encode : I → A → List ℕ) (Valid : I → A → Type 0) (Breaks : I → List ℕ → ℕ → ℕ → Type 0) (none : I) (l : List I)
    (before : List ℕ) (b k : ℕ) : Type 0 where
  pub place : ℕ
  pub within : place < length l
  pub values : List A
  pub valid : Each Valid (take place l) values
  pub rest : List ℕ
  pub written : before ≡ encode_each encode (take place l) values ++ rest
  pub broken : Breaks (get_or l place none) rest b k

-- of n equal parts, some are written whole, and a byte of the next is refused
pub record InNext {A : Type 0} (encode : A → List ℕ) (Valid : A → Type 0) (Breaks : List ℕ → ℕ → ℕ → Type 0) (n : ℕ)
    (before : List ℕ) (b k : ℕ) : Type 0 where
  pub values : List A
  pub fewer : length values < n
  pub valid : All Valid values
  pub rest : List ℕ
  pub written : before ≡ flat_map encode values ++ rest
  pub broken : Breaks rest b k

-- ---- A reader of a whole format

module _ {A : Type 0} {r : Reader A} {Breaks : List ℕ → ℕ → ℕ → Type 0} (f : Faults r Breaks) where
  -- a byte breaks one rule
  pub one-fault : (before : List ℕ) (b k j : ℕ) → Breaks before b k → Breaks before b j → k ≡ j
  one-fault before b k j x y =
      let e = f.refuses before b k [] x in
      let g = f.refuses before b j [] y in
      cc
