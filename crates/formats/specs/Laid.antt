-- Code that writes: strings laid into a lent slice one behind the other, and where each ends.
use Rattle.std.specs.Prelude.{◌≡◌, refl, List, [], ◌∷◌, ◌++◌, ℕ, ◌+◌, ◌-◌, ◌≤◌, ◌<◌, length, take, drop, get_or, set}
use Rattle.std.proofs.Math.Path.{sym}
use Rattle.std.proofs.Common.{ap, ◌∙◌, add-one, arith, length-append, drop_of_length-le, drop-cons, take_all}
use Rattle.formats.specs.Put.{puts, length-puts, puts-append}
use Rattle.formats.specs.Lent.{Writing, writing}

-- there is room for b in s from a place on
pub record Room (s : List ℕ) (at : ℕ) (b : List ℕ) : Type 0 where
  pub enough : at + length b ≤ length s

-- b was laid into s from a place on, which made t of it, and it ends at `end`
pub record Laid (s : List ℕ) (at : ℕ) (b t : List ℕ) (end : ℕ) : Type 0 where
  pub place : end ≡ at + length b
  pub bytes : t ≡ puts s at b

-- as much of b as there is room for is put from a place on, and its end is answered
abbrev pub put_within : (s : List ℕ) (at : ℕ) (b : List ℕ) → Writing ℕ
put_within s at b = writing (at + length (take (length s - at) b)) (puts s at (take (length s - at) b))

-- ---- One string behind the other

pub laid_none : (s : List ℕ) (at : ℕ) → Laid s at [] s at
unfolding puts
laid_none s at = record { place = omega arith; bytes = refl }

pub laid-byte : (s : List ℕ) (at : ℕ) {x y : ℕ} → x ≡ y → Laid s at (y ∷ []) (set s at x) (at + 1)
unfolding puts
laid-byte s at e = record { place = refl; bytes = ap (set s at) e }

module _ {s : List ℕ} {at : ℕ} {b t : List ℕ} {m : ℕ} (l : Laid s at b t m) where
  pub laid-length : length t ≡ length s
  laid-length = ap length l.bytes ∙ length-puts s at b

  pub laid_more : {c u : List ℕ} {n : ℕ} → Laid t m c u n → Laid s at (b ++ c) u n
  laid_more {c} k = record {
    place = omega (arith, k.place, l.place, length-append b c);
    bytes = k.bytes ∙ rw (l.bytes, l.place) (sym (puts-append s at b c));
  }

  pub room-rest : {c : List ℕ} → Room s at (b ++ c) → Room t m c
  room-rest {c} h = record { enough = omega (arith, h.enough, l.place, laid-length, length-append b c) }

pub room-first : {s : List ℕ} {at : ℕ} (b c : List ℕ) → Room s at (b ++ c) → Room s at b
room-first b c h = record { enough = omega (arith, h.enough, length-append b c) }

-- ---- What a loop has still to lay

-- to lay c from here makes what it makes to lay b in s from the start
pub record Owed (s : List ℕ) (start : ℕ) (b t : List ℕ) (at : ℕ) (c : List ℕ) : Type 0 where
  pub place : start + length b ≡ at + length c
  pub bytes : puts s start b ≡ puts t at c
  pub kept : length t ≡ length s

pub owed_all : (s : List ℕ) (start : ℕ) (b : List ℕ) → Owed s start b s start b
owed_all s start b = record { place = refl; bytes = refl; kept = refl }

module _ {s : List ℕ} {start : ℕ} {b t : List ℕ} {at : ℕ} where
  pub owed-room : {c : List ℕ} → Owed s start b t at c → Room s start b → Room t at c
  owed-room o h = record { enough = omega (arith, h.enough, o.place, o.kept) }

  pub owed-next : {c e u : List ℕ} {n : ℕ} → Owed s start b t at (c ++ e) → Laid t at c u n → Owed s start b u n e
  owed-next {c} {e} o l = record {
    place = omega (arith, o.place, l.place, length-append c e);
    bytes = o.bytes ∙ puts-append t at c e ∙ rw (l.bytes, l.place);
    kept = laid-length l ∙ o.kept;
  }

  pub owed_none : Owed s start b t at [] → Laid s start b t at
  unfolding puts
  owed_none o = record { place = omega (arith, o.place); bytes = sym o.bytes }

-- ---- A string that a loop copies, byte by byte

-- its first i bytes are laid
abbrev pub Copied : (s : List ℕ) (start : ℕ) (b t : List ℕ) (i : ℕ) → Type 0
Copied s start b t i = Owed s start b t (start + i) (drop i b)

pub copied_none : (s : List ℕ) (start : ℕ) (b : List ℕ) → Copied s start b s 0
copied_none s start b = let z : start + 0 ≡ start = omega arith in rw z (owed_all s start b)

module _ {s : List ℕ} (start : ℕ) (b : List ℕ) {t : List ℕ} (i : ℕ) where
  pub copied_next : i < length b → Copied s start b t i → Copied s start b (set t (start + i) (get_or b i 0)) (i + 1)
  copied_next h o =
      let e : drop i b ≡ (get_or b i 0 ∷ []) ++ drop (i + 1) b = rw add-one (drop-cons b i 0 h) in
      let z : start + i + 1 ≡ start + (i + 1) = omega arith in
      rw (← z) (owed-next (rw e at o) (laid-byte t (start + i) refl))

  pub copied_all : length b ≤ i → Copied s start b t i → Laid s start b t (start + i)
  copied_all h o = owed_none (rw (drop_of_length-le b {i = i} h) at o)

-- ---- As much as there is room for

module _ {s : List ℕ} {at : ℕ} (b : List ℕ) {t : List ℕ} {end : ℕ} where
  pub laid-within : Laid s at (take (length s - at) b) t end → writing end t ≡ put_within s at b
  laid-within l = rw (l.place, l.bytes)

  -- which is all where there is room for all
  pub within-laid : Room s at b → writing end t ≡ put_within s at b → Laid s at b t end
  within-laid h e =
      let z : take (length s - at) b ≡ b = take_all (length s - at) b (omega (arith, h.enough)) in
      record { place = rw z at (ap (λ w. w.answer) e); bytes = rw z at (ap (λ w. w.bytes) e) }
