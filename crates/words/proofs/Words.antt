-- Words that follow each other: each turn of a loop over a line goes on to the next.
use mathlib.Core.Path.{◌≡◌, refl, sym}
use mathlib.Core.List.{List}
use mathlib.Core.Logic.{◌⊎◌, inl, inr, ⊎_elim}
use Prim.Native.Nat.{ℕ, zero, suc, ◌≤◌, ◌<◌, ◌-◌, ◌+◌}
use native.Mathlib.Omega.{arith}
use mathlib.Core.Bool.{Bool, true, false}
use lib.Dec.{ltb}
use borrow.Author.Tests.{ltb-true, ltb-false}
use lib.ListN.{length}
use Rattle.words.specs.Places.{First, Word}
use Rattle.words.specs.Names.{At, here, later, between}

split : (a b : ℕ) (test : Bool) → ltb a b ≡ test → (a < b) ⊎ (b ≤ a)
split a b true e = inl (ltb-true a b e)
split a b false e = inr (ltb-false a b e)

pub lt-or-ge : (a b : ℕ) → (a < b) ⊎ (b ≤ a)
lt-or-ge a b = split a b (ltb a b) refl

-- a word that begins inside the line has a byte, so its end lies behind its beginning
behind-first : (line : List ℕ) (mark at from to : ℕ) → Word line mark at from to → from < length line → (from ≡ to) ⊎ (from < to) → from < to
behind-first line mark at from to w h (inr p) = p
behind-first line mark at from to w h (inl e) = absurd (w.begins.found h (rw (sym e) at (w.ends.found (omega arith))))

apart : (from to : ℕ) → from ≤ to → (from ≡ to) ⊎ (from < to)
apart from to h = ⊎_elim (λ p. inr p) (λ p. inl (omega arith)) (lt-or-ge from to)

-- inside a line the next word ends further on
pub onward : (line : List ℕ) (mark at from to : ℕ) → Word line mark at from to → at < length line → at < to
onward line mark at from to w h =
    ⊎_elim
    (λ p. omega (arith, w.begins.onward, behind-first line mark at from to w p (apart from to w.ends.onward)))
    (λ p. omega (arith, w.ends.onward))
    (lt-or-ge from (length line))

-- behind the end there is only the empty word
pub ended : (line : List ℕ) (mark at : ℕ) → length line ≤ at → Word line mark at at at
ended line mark at h =
    record {
      begins = record { onward = omega arith; inside = λ p. absurd (omega arith); passed = λ k p q. absurd (omega arith); found = λ p. absurd (omega arith) };
      ends = record { onward = omega arith; inside = λ p. absurd (omega arith); passed = λ k p q. absurd (omega arith); found = λ p. absurd (omega arith) };
    }

-- there is one first place
not-before : (text : List ℕ) (from r t : ℕ) (Passed Found : ℕ → Type 0) → ((x : ℕ) → Passed x → Found x → ⊥) → First text from Passed Found r → First text from Passed Found t → r < t → ⊥
not-before text from r t Passed Found apart-ways a b h = apart-ways _ (b.passed r h a.onward) (a.found (omega (arith, b.inside (omega (arith, a.onward)))))

one-place : (text : List ℕ) (from r t : ℕ) (Passed Found : ℕ → Type 0) → ((x : ℕ) → Passed x → Found x → ⊥) → First text from Passed Found r → First text from Passed Found t → r ≡ t
one-place text from r t Passed Found apart-ways a b =
    ⊎_elim
    (λ p. absurd (not-before text from r t Passed Found apart-ways a b p))
    (λ p. ⊎_elim (λ q. absurd (not-before text from t r Passed Found apart-ways b a q)) (λ q. omega arith) (lt-or-ge t r))
    (lt-or-ge r t)

-- so there is one first word
one-beginning : (line : List ℕ) (mark at from to start end : ℕ) → Word line mark at from to → Word line mark at start end → from ≡ start
one-beginning line mark at from to start end a b = one-place line at from start _ _ (λ x p q. q p) a.begins b.begins

one-word : (line : List ℕ) (mark at from to start end : ℕ) → Word line mark at from to → Word line mark at start end → (from ≡ start) × (to ≡ end)
one-word line mark at from to start end a b =
    let e : from ≡ start = one-beginning line mark at from to start end a b in
    (e, one-place line from to end _ _ (λ x p q. p q) a.ends (rw (sym e) at b.ends))

-- and one word of a number
pub one-at : (line : List ℕ) (mark at number from to start end : ℕ) → At line mark at number from to → At line mark at number start end → (from ≡ start) × (to ≡ end)
one-at line mark at zero from to start end (here a) (here b) = one-word line mark at from to start end a b
one-at line mark at (suc number) from to start end (later {to = one} v a) (later {to = other} w b) =
    let e : one ≡ other = (one-word line mark at _ _ _ _ v w).1 in
    one-at line mark other number from to start end (rw e at a) b

-- the word of a number is found one word further on, counted one less
pub nearer : (line : List ℕ) (mark at from to number count start end : ℕ) → count < number → Word line mark at from to → At line mark to (number - (count + 1)) start end → At line mark at (number - count) start end
nearer line mark at from to number count start end h w a = let e : number - count ≡ suc (number - (count + 1)) = omega arith in rw e (later w a)

pub reached : (line : List ℕ) (mark at from to number count : ℕ) → number ≤ count → Word line mark at from to → At line mark at (number - count) from to
reached line mark at from to number count h w = let e : number - count ≡ 0 = omega arith in rw e (here w)

pub counted : (line : List ℕ) (mark number other start end : ℕ) → number ≡ other → At line mark 0 number start end → At line mark 0 other start end
counted line mark number other start end e a = rw e at a

-- no name up to one is the word, where none before it is, nor it
pub one_more : (names : List ℕ) (mark : ℕ) (word : List ℕ) (number from to : ℕ) → ((n start end : ℕ) → n < number → At names mark 0 n start end → word ≡ between names start end → ⊥) → At names mark 0 number from to → (word ≡ between names from to → ⊥) → (n start end : ℕ) → n < number + 1 → At names mark 0 n start end → word ≡ between names start end → ⊥
one_more names mark word number from to others last differs n start end h at e =
    ⊎_elim
    (λ p. others n start end p at e)
    (λ p.
    let q : n ≡ number = omega arith in
    let ends = one-at names mark 0 number from to start end last (rw q at at) in
    differs (rw (ends.0, ends.1) e))
    (lt-or-ge n number)
